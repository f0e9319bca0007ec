use mathlib.Core.Path.{◌≡◌, ap, sym, ◌∙◌}
use mathlib.Core.List.{List}
use Prim.Native.Nat.{ℕ}
use native.Mathlib.Omega.{arith}
use lib.ListN.{length, replicate}
use Rattle.octets.specs.Splice.{splice}
use Rattle.octets.specs.SpliceLaws.{splice_both}
use Rattle.octets.proofs.join.Goals as goal

pub returns : goal.returns
returns c =
    let left : length c.args.left ≡ 32 = c.well_formed.0.1.0.1 in
    let right : length c.args.right ≡ 32 = c.well_formed.1.0.1.0.1 in
    c.put-2.ensures
    ∙ ap (λ (l : List ℕ). splice l 32 c.args.right) c.put.ensures
    ∙ ap (λ (n : ℕ). splice (splice (replicate 64 0) 0 c.args.left) n c.args.right) (sym left)
    ∙ splice_both (replicate 64 0) c.args.left c.args.right (omega arith)
