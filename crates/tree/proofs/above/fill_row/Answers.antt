-- `fill_row`: the two lengths, and the whole row as one part.
use mathlib.Core.Path.{◌≡◌, sym, ap, ◌∙◌}
use Prim.Native.Nat.{ℕ, ◌/◌}
use native.Mathlib.Omega.{arith}
use lib.ListN.{length}
use Rattle.tree.specs.RowAbove.{row_above}
use Rattle.tree.specs.RowAboveLaws.{no_pairs, not_half, row_written}
use Rattle.tree.proofs.above.fill_row.Goals as goal

pub returns-then-below-ne0 : goal.returns-then-below-ne0
returns-then-below-ne0 c =
    let a = c.args in
    let w = no_pairs a.below.now a.above.now c.if-below-ne0.true in
    record { value = sym w.0; above_after = sym w.1 }

pub returns-then-above-below : goal.returns-then-above-below
returns-then-above-below c =
    let a = c.args in
    let w = not_half a.below.now a.above.now c.if-below-ne0.false c.if-above-below.true in
    record { value = sym w.0; above_after = sym w.1 }

pub returns : goal.returns
returns c =
    let a = c.args in
    let below = a.below.now in
    let n : ℕ = length below / 64 in
    let w = row_written below a.above.now c.if-below-ne0.false c.if-above-below.false in
    let e : length a.above.now / 32 ≡ n = omega (arith, c.if-below-ne0.false, c.if-above-below.false) in
    record {
      value = sym w.0;
      above_after = c.fill_part.ensures ∙ ap (λ (m : ℕ). row_above m below) e ∙ sym w.1;
    }
