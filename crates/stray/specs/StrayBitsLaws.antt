-- Laws of stray bits: byte 31 of every node, and a walk over the nodes.
use Rattle.std.specs.Prelude.{◌≡◌, refl, Bool, true, false, ◌&&◌, List, ℕ, zero, suc, ◌+◌, ◌-◌, ◌*◌, ◌/◌, ◌≤◌, ◌<◌, length, get_or, take, drop, ltb}
use Rattle.std.proofs.Common.{sym, ap, ◌∙◌, true≢false, arith, get_or-drop, get_or-take, drop-drop, lt-ltb, le-ltb, ltb-true, ltb-false}
use Rattle.std.proofs.Math.ListN.{get_or-eq_default}
use Rattle.octets.specs.Splice.{part, splice}
use Rattle.octets.specs.SpliceLaws.{part_length, get_d_part, length_splice, splice_before, splice_inside, splice_after}
use Rattle.octets.specs.Fill.{zero_filled}
use Rattle.octets.specs.FillLaws.{filled_at, filled_length}
use Rattle.rules.specs.RefusalLaws.{and_left, and_right, and_both, not_passed}
use Rattle.stray.specs.StrayBits.{clear_node, clear_nodes, no_stray_bits}

-- a node passes if and only if its byte 31 is below 64
pub clear_node_lem : (node : List ℕ) → get_or node 31 0 < 64 → clear_node node ≡ true
unfolding clear_node
clear_node_lem node h = lt-ltb (get_or node 31 0) 64 h

pub node_clear : (node : List ℕ) → clear_node node ≡ true → get_or node 31 0 < 64
unfolding clear_node
node_clear node e = ltb-true (get_or node 31 0) 64 e

-- the first n nodes pass if and only if byte 31 of each is below 64
pub clear_nodes_lem : (n : ℕ) (run : List ℕ) → ((i : ℕ) → i < n → get_or run (i * 32 + 31) 0 < 64) → clear_nodes n run ≡ true
unfolding clear_nodes
clear_nodes_lem zero run f = refl
clear_nodes_lem (suc n) run f =
    and_both (clear_node (take 32 run)) (clear_nodes n (drop 32 run))
    (clear_node_lem (take 32 run) (rw (get_or-take 32 run 31 0 (omega arith)) (f 0 (omega arith))))
    (clear_nodes_lem n (drop 32 run)
    (λ i h.
    let e : 32 + (i * 32 + 31) ≡ suc i * 32 + 31 = omega arith in
    rw (get_or-drop 32 run (i * 32 + 31) 0, e) (f (suc i) (omega arith))))

pub nodes_clear : (n : ℕ) (run : List ℕ) → clear_nodes n run ≡ true → (i : ℕ) → i < n → get_or run (i * 32 + 31) 0 < 64
unfolding clear_nodes
nodes_clear zero run e i h = absurd (omega arith)
nodes_clear (suc n) run e zero h =
    rw (← get_or-take 32 run 31 0 (omega arith))
    (node_clear (take 32 run) (and_left (clear_node (take 32 run)) (clear_nodes n (drop 32 run)) e))
nodes_clear (suc n) run e (suc i) h =
    let k : 32 + (i * 32 + 31) ≡ suc i * 32 + 31 = omega arith in
    rw (← k, ← get_or-drop 32 run (i * 32 + 31) 0)
    (nodes_clear n (drop 32 run) (and_right (clear_node (take 32 run)) (clear_nodes n (drop 32 run)) e) i (omega arith))

-- turns of a walk over n nodes, with i of them passed
open_node : (run : List ℕ) (n i : ℕ) → i < n
    → clear_nodes (n - i) (drop (i * 32) run)
    ≡ (clear_node (take 32 (drop (i * 32) run)) && clear_nodes (n - (i + 1)) (drop ((i + 1) * 32) run))
unfolding clear_nodes
open_node run n i h =
    let e : n - i ≡ suc (n - (i + 1)) = omega arith in
    let d : i * 32 + 32 ≡ (i + 1) * 32 = omega arith in
    ap (λ (m : ℕ). clear_nodes m (drop (i * 32) run)) e
    ∙ ap (λ (l : List ℕ). clear_node (take 32 (drop (i * 32) run)) && clear_nodes (n - (i + 1)) l)
    (drop-drop 32 (i * 32) run ∙ ap (λ (k : ℕ). drop k run) d)

byte_31 : (run : List ℕ) (i : ℕ) → get_or (take 32 (drop (i * 32) run)) 31 0 ≡ get_or run (i * 32 + 31) 0
byte_31 run i = get_or-take 32 (drop (i * 32) run) 31 0 (omega arith) ∙ get_or-drop (i * 32) run 31 0

pub walk_more : (run : List ℕ) (n i : ℕ) → i < n → get_or run (i * 32 + 31) 0 < 64
    → clear_nodes (n - i) (drop (i * 32) run) ≡ clear_nodes (n - (i + 1)) (drop ((i + 1) * 32) run)
unfolding clear_node
walk_more run n i h k = open_node run n i h ∙ simp (byte_31 run i, lt-ltb (get_or run (i * 32 + 31) 0) 64 k)

pub walk_stop : (run : List ℕ) (n i : ℕ) → i < n → 64 ≤ get_or run (i * 32 + 31) 0
    → clear_nodes (n - i) (drop (i * 32) run) ≡ false
unfolding clear_node
walk_stop run n i h k = open_node run n i h ∙ simp (byte_31 run i, le-ltb (get_or run (i * 32 + 31) 0) 64 k)

pub walk_end : (run : List ℕ) (n i : ℕ) → n ≤ i → clear_nodes (n - i) (drop (i * 32) run) ≡ true
unfolding clear_nodes
walk_end run n i h =
    let e : n - i ≡ 0 = omega arith in
    ap (λ (m : ℕ). clear_nodes m (drop (i * 32) run)) e

-- a part of whole nodes of a run without stray bits has none
pub part_clear : (d : List ℕ) (b m : ℕ) → b * 32 + m * 32 ≤ length d → no_stray_bits d ≡ true
    → no_stray_bits (part d (b * 32) (m * 32)) ≡ true
part_clear d b m h e =
    let l : length (part d (b * 32) (m * 32)) ≡ m * 32 = part_length d (b * 32) (m * 32) h in
    clear_nodes_lem (length (part d (b * 32) (m * 32)) / 32) (part d (b * 32) (m * 32))
    (λ i k.
    let g : b * 32 + (i * 32 + 31) ≡ (b + i) * 32 + 31 = omega arith in
    rw (get_d_part d (b * 32) (m * 32) (i * 32 + 31) (omega arith), g)
    (nodes_clear (length d / 32) d e (b + i) (omega arith)))

-- nor has the run after whole nodes without stray bits are written to it
module _ (d s : List ℕ) (b m : ℕ) (sized : length s ≡ m * 32) (fits : b * 32 + length s ≤ length d) where
  pub splice_clear : no_stray_bits d ≡ true → no_stray_bits s ≡ true → no_stray_bits (splice d (b * 32) s) ≡ true
  splice_clear e f =
      clear_nodes_lem (length (splice d (b * 32) s) / 32) (splice d (b * 32) s) (λ i k. by_start (ltb i b) i k refl)
    where
      old : (i : ℕ) → i < length (splice d (b * 32) s) / 32 → get_or d (i * 32 + 31) 0 < 64
      old i k = nodes_clear (length d / 32) d e i (omega (arith, length_splice d (b * 32) s fits))

      by_end : (t : Bool) (i : ℕ) → i < length (splice d (b * 32) s) / 32 → b ≤ i → ltb i (b + m) ≡ t
          → get_or (splice d (b * 32) s) (i * 32 + 31) 0 < 64
      by_end true i k g q =
          let lt : i < b + m = ltb-true i (b + m) q in
          let j : b * 32 + ((i - b) * 32 + 31) ≡ i * 32 + 31 = omega arith in
          rw (← j, splice_inside d (b * 32) s fits ((i - b) * 32 + 31) (omega arith))
          (nodes_clear (length s / 32) s f (i - b) (omega arith))
      by_end false i k g q =
          let ge : b + m ≤ i = ltb-false i (b + m) q in
          rw (splice_after d (b * 32) s fits (i * 32 + 31) (omega arith)) (old i k)

      by_start : (t : Bool) (i : ℕ) → i < length (splice d (b * 32) s) / 32 → ltb i b ≡ t
          → get_or (splice d (b * 32) s) (i * 32 + 31) 0 < 64
      by_start true i k q =
          let lt : i < b = ltb-true i b q in
          rw (splice_before d (b * 32) s fits (i * 32 + 31) (omega arith)) (old i k)
      by_start false i k q = by_end (ltb i (b + m)) i k (ltb-false i b q) refl

-- every node of a run without stray bits is clear
pub clear_at : (n q : ℕ) (run : List ℕ) → clear_nodes n run ≡ true → q < n
    → clear_node (take 32 (drop (q * 32) run)) ≡ true
clear_at n q run e h =
    clear_node_lem (take 32 (drop (q * 32) run))
    (rw (get_or-take 32 (drop (q * 32) run) 31 0 (omega arith), get_or-drop (q * 32) run 31 0) (nodes_clear n run e q h))

-- filling a run with zeros brings none in: byte 31 of a node that is cut, and of a node of zeros, is 0
pub filled_clear : (n : ℕ) (run : List ℕ) → length run ≤ n → no_stray_bits (zero_filled n run) ≡ no_stray_bits run
filled_clear n run h = by_test (no_stray_bits run) refl
  where
    l : length (zero_filled n run) ≡ n
    l = filled_length n run h

    byte : (t : Bool) (i : ℕ) → no_stray_bits run ≡ true → ltb i (length run / 32) ≡ t → get_or run (i * 32 + 31) 0 < 64
    byte true i e q = nodes_clear (length run / 32) run e i (ltb-true i (length run / 32) q)
    byte false i e q =
        let g : length run / 32 ≤ i = ltb-false i (length run / 32) q in
        rw (get_or-eq_default run 0 {n = i * 32 + 31} (omega arith)) (omega arith)

    by_test : (t : Bool) → no_stray_bits run ≡ t → no_stray_bits (zero_filled n run) ≡ t
    by_test true e =
        clear_nodes_lem (length (zero_filled n run) / 32) (zero_filled n run)
        (λ i k. rw (filled_at n run (i * 32 + 31)) (byte (ltb i (length run / 32)) i e refl))
    by_test false e =
        not_passed (no_stray_bits (zero_filled n run))
        (λ t.
        true≢false
        (sym (clear_nodes_lem (length run / 32) run
        (λ i k. rw (← filled_at n run (i * 32 + 31))
        (nodes_clear (length (zero_filled n run) / 32) (zero_filled n run) t i (omega (arith, l)))))
        ∙ e))
