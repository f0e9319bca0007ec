-- The waiting nodes stay those of the tree when a node is added: once over the heights that are left.
use Rattle.std.specs.Prelude.{◌≡◌, Bool, List, ◌++◌, length}
use Rattle.std.proofs.Math.Path.{refl}
use Rattle.std.proofs.Common.{sym, ap, ap₂, ◌∙◌, subst, ⊎_elim, eq-or-lt_of_le, div-one, add-one, arith, shr-shr}
use Rattle.std.proofs.Math.Bool.{true, false}
use Prim.Native.Nat.{ℕ, zero, suc, ◌+◌, ◌-◌, ◌*◌, ◌/◌, ◌%◌, ◌^◌, ◌≤◌, ◌<◌}
use Rattle.std.proofs.Math.Decide.{dec_lt}
use Rattle.std.proofs.Math.Dec.{eqb}
use borrow.Author.Tests.{eqb-true, eqb-false}
use Rattle.rules.specs.Choice.{choose}
use Rattle.octets.specs.Splice.{part, splice}
use Rattle.octets.specs.SpliceLaws.{length_splice, part_after, part_written}
use Rattle.node.specs.Node.{node_hash, node_hash_length}
use Rattle.merkle.specs.Tree.{node_at}
use Rattle.merkle.specs.TreeLaws.{node_split}
use Rattle.stream.specs.Stream.{with_node}
use Rattle.stream.specs.After.{Waits}

-- one height up there are half as many
half : (n h : ℕ) → n / 2 ^ suc h ≡ n / 2 ^ h / 2
half n h = ap (λ (m : ℕ). n / 2 ^ m) (sym (add-one h)) ∙ sym (shr-shr n h 1)

-- numbers that are the same at one height are so above it
above : (m n h i : ℕ) → m / 2 ^ h ≡ n / 2 ^ h → h ≤ i → m / 2 ^ i ≡ n / 2 ^ i
above m n h i e l =
    let s : h + (i - h) ≡ i = omega arith in
    ap (λ (k : ℕ). m / 2 ^ k) (sym s)
    ∙ sym (shr-shr m h (i - h))
    ∙ ap (λ (k : ℕ). k / 2 ^ (i - h)) e
    ∙ shr-shr n h (i - h)
    ∙ ap (λ (k : ℕ). n / 2 ^ k) s

-- n nodes were there, and one more comes. At height h, which had k, it is `node`; below that height the new number of
-- nodes is even
record Comes (bytes : List ℕ) (n h k : ℕ) (node : List ℕ) : Type 0 where
  pub had : n / 2 ^ h ≡ k
  pub has : suc n / 2 ^ h ≡ suc k
  pub even_below : (i : ℕ) → i < h → suc n / 2 ^ i % 2 ≡ 0
  pub is : node ≡ node_at bytes h k
  pub sized : length node ≡ 32

module _ (bytes waiting : List ℕ) (n : ℕ) (room : length waiting ≡ 1024) (waits : Waits bytes waiting n) where
  -- k is even: the node waits
  put : (h k : ℕ) (node : List ℕ) → h < 32 → k % 2 ≡ 0 → Comes bytes n h k node
      → Waits bytes (splice waiting (32 * h) node) (suc n)
  put h k node l even c i b odd =
      elim (dec_lt i h) [
        | yes low ↦ absurd (omega (arith, c.even_below i low))
        | no not_low ↦
            ⊎_elim
            (λ (same : h ≡ i).
            subst (λ (x : ℕ). part (splice waiting (32 * h) node) (32 * x) 32 ≡ node_at bytes x (suc n / 2 ^ x - 1))
            same
            here)
            (λ (over : h < i).
            let e : n / 2 ^ i ≡ suc n / 2 ^ i = above n (suc n) (suc h) i same_above over in
            part_after waiting (32 * h) node fits (32 * i) 32 (omega arith) (omega arith)
            ∙ waits i b (omega arith)
            ∙ ap (λ (m : ℕ). node_at bytes i (m - 1)) e)
            (eq-or-lt_of_le (omega arith))
      ]
    where
      fits : 32 * h + length node ≤ length waiting
      fits = omega (arith, c.sized)

      here : part (splice waiting (32 * h) node) (32 * h) 32 ≡ node_at bytes h (suc n / 2 ^ h - 1)
      here =
          let e : k ≡ suc n / 2 ^ h - 1 = omega (arith, c.has) in
          ap (part (splice waiting (32 * h) node) (32 * h)) (sym c.sized)
          ∙ part_written waiting (32 * h) node fits
          ∙ c.is
          ∙ ap (node_at bytes h) e

      same_above : n / 2 ^ suc h ≡ suc n / 2 ^ suc h
      same_above =
          let e : k / 2 ≡ suc k / 2 = omega arith in
          half n h ∙ ap (λ (m : ℕ). m / 2) c.had ∙ e ∙ sym (half (suc n) h ∙ ap (λ (m : ℕ). m / 2) c.has)

  -- k is odd: the node over it and its left neighbour comes to the next height
  up : (h k : ℕ) (node : List ℕ) → h < 32 → k % 2 ≡ 1 → Comes bytes n h k node
      → Comes bytes n (suc h) (k / 2) (node_hash (part waiting (32 * h) 32 ++ node))
  up h k node l odd c =
      let e : suc k / 2 ≡ suc (k / 2) = omega arith in
      record {
        had = half n h ∙ ap (λ (m : ℕ). m / 2) c.had;
        has = half (suc n) h ∙ ap (λ (m : ℕ). m / 2) c.has ∙ e;
        even_below = even;
        is = parent;
        sized = node_hash_length (part waiting (32 * h) 32 ++ node);
      }
    where
      here : suc n / 2 ^ h % 2 ≡ 0
      here = omega (arith, c.has)

      even : (i : ℕ) → i < suc h → suc n / 2 ^ i % 2 ≡ 0
      even i b =
          ⊎_elim
          (λ (same : i ≡ h). subst (λ (x : ℕ). suc n / 2 ^ x % 2 ≡ 0) (sym same) here)
          (λ (low : i < h). c.even_below i low)
          (eq-or-lt_of_le (omega arith))

      parent : node_hash (part waiting (32 * h) 32 ++ node) ≡ node_at bytes (suc h) (k / 2)
      parent =
          let f : n / 2 ^ h - 1 ≡ k / 2 * 2 = omega (arith, c.had) in
          let g : k ≡ k / 2 * 2 + 1 = omega arith in
          ap₂ (λ (v w : List ℕ). node_hash (v ++ w))
          (waits h l (omega (arith, c.had)) ∙ ap (node_at bytes h) f)
          (c.is ∙ ap (node_at bytes h) g)
          ∙ sym (node_split h (k / 2) bytes)

  goes_on : (left h k : ℕ) (node : List ℕ) → h + left ≡ 32 → Comes bytes n h k node
      → Waits bytes (with_node left h k node waiting) (suc n)
  unfolding with_node
  goes_on zero h k node e c = λ i b odd. absurd (omega (arith, c.even_below i (omega arith)))
  goes_on (suc left) h k node e c =
      by_parity (λ c'. goes_on left (suc h) (k / 2) (node_hash (part waiting (32 * h) 32 ++ node)) (omega arith) c')
      (eqb (k % 2) 0) refl
    where
      by_parity : (Comes bytes n (suc h) (k / 2) (node_hash (part waiting (32 * h) 32 ++ node))
          → Waits bytes (with_node left (suc h) (k / 2) (node_hash (part waiting (32 * h) 32 ++ node)) waiting) (suc n))
          → (t : Bool) → eqb (k % 2) 0 ≡ t
          → Waits bytes
          (choose t (splice waiting (32 * h) node)
          (with_node left (suc h) (k / 2) (node_hash (part waiting (32 * h) 32 ++ node)) waiting))
          (suc n)
      by_parity rest true p = put h k node (omega arith) (eqb-true (k % 2) 0 p) c
      by_parity rest false p =
          let q = eqb-false (k % 2) 0 p in
          rest (up h k node (omega arith) (omega arith) c)

  -- one more node of height 0
  pub node_waits : (node : List ℕ) → length node ≡ 32 → node ≡ node_at bytes 0 n
      → Waits bytes (with_node 32 0 n node waiting) (suc n)
  node_waits node l e =
      goes_on 32 0 n node refl
      (record {
        had = div-one n;
        has = div-one (suc n);
        even_below = λ i b. absurd (omega arith);
        is = e;
        sized = l;
      })

-- no byte is added or lost
pub length_with_node : (left h k : ℕ) (node waiting : List ℕ) → h + left ≡ 32 → length node ≡ 32 → length waiting ≡ 1024
    → length (with_node left h k node waiting) ≡ 1024
unfolding with_node
length_with_node zero h k node waiting e l r = r
length_with_node (suc left) h k node waiting e l r =
    by_parity (eqb (k % 2) 0) (splice waiting (32 * h) node)
    (with_node left (suc h) (k / 2) (node_hash (part waiting (32 * h) 32 ++ node)) waiting)
    (length_splice waiting (32 * h) node (omega arith) ∙ r)
    (length_with_node left (suc h) (k / 2) (node_hash (part waiting (32 * h) 32 ++ node)) waiting (omega arith)
    (node_hash_length (part waiting (32 * h) 32 ++ node)) r)
  where
    by_parity : (t : Bool) (v w : List ℕ) → length v ≡ 1024 → length w ≡ 1024 → length (choose t v w) ≡ 1024
    by_parity true v w a b = a
    by_parity false v w a b = b
