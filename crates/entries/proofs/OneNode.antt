-- A run of one node has no stray bits where the node has none.
use mathlib.Core.Path.{◌≡◌, refl, ap, ◌∙◌}
use mathlib.Core.Bool.{Bool, true, false, ◌&&◌}
use mathlib.Core.List.{List}
use Prim.Native.Nat.{ℕ, ◌/◌}
use native.Mathlib.Omega.{arith}
use lib.ListN.{length, take}
use lib.Seq.{take_all}
use Rattle.stray.specs.StrayBits.{clear_node, clear_nodes, no_stray_bits}

and_true : (b : Bool) → (b && true) ≡ b
and_true true = refl
and_true false = refl

pub one_node : (node : List ℕ) → length node ≡ 32 → no_stray_bits node ≡ clear_node node
unfolding clear_nodes
one_node node l =
    let n : length node / 32 ≡ 1 = omega arith in
    ap (λ (k : ℕ). clear_nodes k node) n
    ∙ and_true (clear_node (take 32 node))
    ∙ ap clear_node (take_all 32 node (omega arith))
