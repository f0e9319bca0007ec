-- `fill_part`: the two parts, one after the other, are the whole part.
use mathlib.Core.Path.{◌≡◌, ap, ap₂, ◌∙◌}
use mathlib.Core.List.{List, ◌++◌}
use Prim.Native.Nat.{ℕ, ◌-◌, ◌/◌}
use native.Mathlib.Omega.{arith}
use lib.ListN.{length}
use Rattle.tree.specs.RowAbove.{row_above}
use Rattle.tree.proofs.Rows.{left_part, left_part_lem}
use Rattle.tree.proofs.LanesAbove.{parts_above}
use Rattle.tree.proofs.above.+fill_part.Goals as goal

pub fill_part-requires : goal.fill_part-requires
fill_part-requires t c =
    let h = left_part_lem (length c.args.above.now / 32) (omega arith) in (
      omega (arith, c.split_at_mut-left_above.ensures.front_len),
      (
        omega (arith, c.split_at.ensures.front_len, c.split_at_mut-left_above.ensures.front_len),
        omega (arith, c.split_at_mut-left_above.ensures.front_len),
      ),
    )

pub fill_part-requires-2 : goal.fill_part-requires-2
fill_part-requires-2 t c =
    let h = left_part_lem (length c.args.above.now / 32) (omega arith) in (
      omega (arith, c.split_at_mut-left_above.ensures.back_len),
      (
        omega (arith, c.requires.0, c.requires.1, c.split_at.ensures.back_len, c.split_at_mut-left_above.ensures.back_len),
        omega (arith, c.requires.1, c.split_at_mut-left_above.ensures.back_len),
      ),
    )

pub returns : goal.returns
returns t c =
    let below = c.args.below.now in
    let n : ℕ = length c.args.above.now / 32 in
    let h = left_part_lem n (omega arith) in
    let left : length c.split_at_mut-left_above.result.0.now / 32 ≡ left_part n =
    omega (arith, c.split_at_mut-left_above.ensures.front_len) in
    let right : length c.split_at_mut-left_above.result.1.now / 32 ≡ n - left_part n =
    omega (arith, c.requires.1, c.split_at_mut-left_above.ensures.back_len) in
    ap₂ (λ (x y : List ℕ). x ++ y)
    (c.fill_part.ensures ∙ ap (λ (k : ℕ). row_above k c.split_at.result.0.now) left)
    (c.fill_part-2.ensures ∙ ap (λ (k : ℕ). row_above k c.split_at.result.1.now) right)
    ∙ parts_above below c.split_at.result.0.now c.split_at.result.1.now (left_part n) (n - left_part n) n (omega arith)
    c.split_at.ensures.front c.split_at.ensures.back
