-- The tests of the check, from what the code finds.
use mathlib.Core.Path.{◌≡◌, refl, sym, ap, ◌∙◌}
use mathlib.Core.Bool.{Bool, true, false, ◌&&◌}
use Prim.Native.Nat.{ℕ, ◌*◌, ◌/◌}
use native.Mathlib.Omega.{arith}
use mathlib.Core.List.{List}
use lib.Dec.{eqb}
use lib.ListN.{length, take}
use lib.Seq.{take_all}
use borrow.Author.Tests.{eqb-true}
use Rattle.rules.specs.RefusalLaws.{and_left, and_right}
use Rattle.octets.specs.Equality.{same_bytes}
use Rattle.stray.specs.StrayBits.{clear_node, clear_nodes, no_stray_bits}
use Rattle.paths.specs.Path.{path_root}
use Rattle.sizes.specs.Sizes.{segment_path_levels, entry_path_levels}

-- after `if !test(..)`: a test that was passed, and one that was not
pub passed : {answer test : Bool} → answer ≡ test → answer ≡ true → test ≡ true
passed e h = sym e ∙ h

pub failed : {answer test : Bool} → answer ≡ test → answer ≡ false → test ≡ false
failed e h = sym e ∙ h

-- a run of one node has no stray bits where the node has none
and_true : (b : Bool) → (b && true) ≡ b
and_true true = refl
and_true false = refl

pub one_node : (node : List ℕ) → length node ≡ 32 → no_stray_bits node ≡ clear_node node
unfolding clear_nodes
one_node node l =
    let n : length node / 32 ≡ 1 = omega arith in
    ap (λ (k : ℕ). clear_nodes k node) n
    ∙ and_true (clear_node (take 32 node))
    ∙ ap clear_node (take_all 32 node (omega arith))

-- the lengths of both paths
pub sized : (d size : ℕ) (u v : List ℕ)
    → (eqb (length u) (32 * segment_path_levels d size) && eqb (length v) (32 * entry_path_levels d)) ≡ true
    → (length u ≡ 32 * segment_path_levels d size) × (length v ≡ 32 * entry_path_levels d)
sized d size u v e =
    let a = eqb (length u) (32 * segment_path_levels d size) in
    let b = eqb (length v) (32 * entry_path_levels d) in (
      eqb-true (length u) (32 * segment_path_levels d size) (and_left a b e),
      eqb-true (length v)
          (32 * entry_path_levels d) (and_right a b e),
    )

-- where a path of the length that the record table asks leads
pub leads : (levels : ℕ) (path top : List ℕ) {node node' : List ℕ} {position position' : ℕ} {answer : Bool}
    → length path ≡ 32 * levels → node' ≡ node → position' ≡ position
    → answer ≡ same_bytes (path_root (length path / 32) node' position' path) top
    → answer ≡ same_bytes (path_root levels node position path) top
leads levels path top l n p e = let k : length path / 32 ≡ levels = omega arith in rw (← k, ← n, ← p) e
