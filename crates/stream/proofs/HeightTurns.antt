-- Turns of the loop over the heights, where a node is added.
use mathlib.Core.Path.{◌≡◌, refl, ap, ◌∙◌}
use mathlib.Core.List.{List, ◌++◌}
use Prim.Native.Nat.{ℕ, zero, suc, ◌+◌, ◌-◌, ◌*◌, ◌/◌, ◌%◌, ◌^◌, ◌≤◌, ◌<◌}
use native.Mathlib.Nat.{pow-suc}
use native.Mathlib.Numerals.{add-one}
use native.Mathlib.Omega.{arith}
use borrow.Author.Tests.{eq-eqb, ne_eqb}
use Rattle.octets.specs.Splice.{part, splice}
use Rattle.node.specs.Node.{node_hash}
use Rattle.stream.specs.Stream.{with_node}

-- an odd number of nodes: one height up
pub goes_up : (h k : ℕ) (node waiting : List ℕ) → h < 32 → k % 2 ≡ 1
    → with_node (32 - h) h k node waiting
    ≡ with_node (32 - (h + 1)) (h + 1) (k / 2) (node_hash (part waiting (32 * h) 32 ++ node)) waiting
unfolding with_node
goes_up h k node waiting l odd =
    let e : 32 - h ≡ suc (32 - (h + 1)) = omega arith in
    rw e (simp (ne_eqb (k % 2) 0 (λ z. omega arith), add-one h))

-- an even one: the node waits
pub waits : (h k : ℕ) (node waiting : List ℕ) → h < 32 → k % 2 ≡ 0
    → with_node (32 - h) h k node waiting ≡ splice waiting (32 * h) node
unfolding with_node
waits h k node waiting l even =
    let e : 32 - h ≡ suc (32 - (h + 1)) = omega arith in
    rw e (simp (eq-eqb (k % 2) 0 even))

-- as many heights are left as an odd number of nodes below a power of two needs
pub height_left : (h k : ℕ) → h ≤ 31 → k < 2 ^ (31 - h) → k % 2 ≡ 1 → (h + 1 ≤ 31) × (k / 2 < 2 ^ (31 - (h + 1)))
height_left h k l b odd = by_left (31 - h) refl
  where
    by_left : (n : ℕ) → 31 - h ≡ n → (h + 1 ≤ 31) × (k / 2 < 2 ^ (31 - (h + 1)))
    by_left zero e =
        let z : 2 ^ (31 - h) ≡ 1 = ap (λ (m : ℕ). 2 ^ m) e in
        absurd (omega arith)
    by_left (suc n) e =
        let z : 2 ^ (31 - h) ≡ 2 ^ n * 2 = ap (λ (m : ℕ). 2 ^ m) e ∙ pow-suc 2 n in
        let y : 2 ^ (31 - (h + 1)) ≡ 2 ^ n = ap (λ (m : ℕ). 2 ^ m) (omega arith) in
        (omega arith, omega arith)
