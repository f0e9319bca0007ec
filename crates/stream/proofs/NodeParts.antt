-- Bytes that end within a node or with it, taken at once; and a run of whole nodes of which one has stray bits.
use mathlib.Core.Path.{◌≡◌, refl, sym, ap, ap₂, ◌∙◌}
use mathlib.Core.Bool.{Bool, true, false, ◌&&◌, true≢false}
use mathlib.Core.List.{List, [], ◌∷◌, ◌++◌}
use Prim.Native.Nat.{ℕ, zero, suc, ◌+◌, ◌-◌, ◌*◌, ◌/◌, ◌%◌, ◌≤◌, ◌<◌}
use native.Mathlib.Numerals.{add-one}
use native.Mathlib.Omega.{arith}
use lib.ListN.{length, get_or, take, drop, set, length-set, length-drop, take-append-drop}
use lib.Seq.{append_snoc, set_split, length-take-le}
use Rattle.octets.specs.Splice.{splice}
use Rattle.octets.specs.SpliceLaws.{splice_append, splice_whole}
use Rattle.stray.specs.StrayBits.{clear_node, clear_nodes, no_stray_bits}
use Rattle.stream.specs.Stream.{largest, failed_with, with_node, counted, take_piece}
use Rattle.stream.specs.StreamLaws.{running, byte_within, counted_open, counted_stray, counted_whole}
use Rattle.stream.specs.StreamLaws.{piece_append, piece_after_failure}
use Rattle.stream.specs.declared.Stream.{Stream}

-- a byte written is a splice
set_splice : (d : List ℕ) (at b : ℕ) → at < length d → set d at b ≡ splice d at (b ∷ [])
unfolding splice
set_splice d at b h =
    set_split d at b h
    ∙ sym (append_snoc (take at d) b (drop (suc at) d))
    ∙ ap (λ (n : ℕ). take at d ++ (b ∷ []) ++ drop n d) (sym (add-one at))

-- the bytes one by one leave the partial node with all of them
pub within_node : (bytes : List ℕ) (count : ℕ) (partial waiting : List ℕ) → 0 < length bytes → length partial ≡ 32
    → count % 32 + length bytes ≤ 32 → count + length bytes ≤ largest
    → take_piece (running count partial waiting) bytes
    ≡ counted (count + length bytes) (splice partial (count % 32) bytes) waiting
unfolding take_piece
within_node [] count partial waiting some sized fits few = absurd (omega arith)
within_node (b ∷ []) count partial waiting some sized fits few =
    byte_within (running count partial waiting) b refl (omega arith)
    ∙ ap (λ (v : List ℕ). counted (count + 1) v waiting) (set_splice partial (count % 32) b (omega arith))
within_node (b ∷ c ∷ bytes) count partial waiting some sized fits few =
    let put : List ℕ = set partial (count % 32) b in
    let l : length put ≡ 32 = length-set partial (count % 32) b ∙ sized in
    let e : (count + 1) % 32 ≡ count % 32 + 1 = omega arith in
    let n : count + 1 + length (c ∷ bytes) ≡ count + length (b ∷ c ∷ bytes) = omega arith in
    ap (λ (t : Stream). take_piece t (c ∷ bytes))
    (byte_within (running count partial waiting) b refl (omega arith)
    ∙ counted_open (count + 1) put waiting (λ z. omega arith))
    ∙ within_node (c ∷ bytes) (count + 1) put waiting (omega arith) l (omega arith) (omega arith)
    ∙ ap₂ (λ (m : ℕ) (v : List ℕ). counted m v waiting) n
    (ap₂ (λ (v : List ℕ) (at : ℕ). splice v at (c ∷ bytes)) (set_splice partial (count % 32) b (omega arith)) e
    ∙ splice_append partial (count % 32) (count % 32 + 1) (b ∷ []) (c ∷ bytes) (omega arith) refl)

-- such bytes: the node is not whole, or it is and has stray bits, or has none
module _ (bytes : List ℕ) (count : ℕ) (partial waiting : List ℕ) (some : 0 < length bytes) (sized : length partial ≡ 32)
    (fits : count % 32 + length bytes ≤ 32) (few : count + length bytes ≤ largest)
    (put : List ℕ) (is : put ≡ splice partial (count % 32) bytes) where
  abbrev before : Stream
  before = running count partial waiting

  abbrev next : ℕ
  next = count + length bytes

  taken : take_piece before bytes ≡ counted next put waiting
  taken =
      within_node bytes count partial waiting some sized fits few ∙ ap (λ (v : List ℕ). counted next v waiting) (sym is)

  pub part_open : (next % 32 ≡ 0 → ⊥) → take_piece before bytes ≡ running next put waiting
  part_open h = taken ∙ counted_open next put waiting h

  pub part_stray : next % 32 ≡ 0 → clear_node put ≡ false → take_piece before bytes ≡ failed_with 11
  part_stray h e = taken ∙ counted_stray next put waiting h e

  pub part_whole_node : next % 32 ≡ 0 → clear_node put ≡ true
      → take_piece before bytes ≡ running next put (with_node 32 0 (next / 32 - 1) put waiting)
  part_whole_node h e = taken ∙ counted_whole next put waiting h e

-- a node by itself is a run of one
pub one_node : (node : List ℕ) → length node ≡ 32 → no_stray_bits node ≡ clear_node node
unfolding clear_nodes
one_node node h =
    let n : length node / 32 ≡ 1 = omega arith in
    ap (λ (m : ℕ). clear_nodes m node) n
    ∙ and_true (clear_node (take 32 node))
    ∙ ap clear_node (take-all 32 node h)
  where
    and_true : (b : Bool) → (b && true) ≡ b
    and_true true = refl
    and_true false = refl

    take-all : (n : ℕ) (l : List ℕ) → length l ≡ n → take n l ≡ l
    take-all zero [] e = refl
    take-all zero (x ∷ l) e = absurd (omega arith)
    take-all (suc n) [] e = absurd (omega arith)
    take-all (suc n) (x ∷ l) e = ap (λ (t : List ℕ). x ∷ t) (take-all n l (omega arith))

-- a whole node
module _ (node : List ℕ) (count : ℕ) (partial waiting : List ℕ) (whole : length node ≡ 32) (sized : length partial ≡ 32)
    (starts : count % 32 ≡ 0) (few : count + 32 ≤ largest) where
  node_counted : take_piece (running count partial waiting) node ≡ counted (count + 32) node waiting
  node_counted =
      let e : count + length node ≡ count + 32 = omega arith in
      within_node node count partial waiting (omega arith) sized (omega arith) (omega arith)
      ∙ ap₂ (λ (m : ℕ) (v : List ℕ). counted m v waiting) e
      (ap (λ (n : ℕ). splice partial n node) starts ∙ splice_whole partial node (sized ∙ sym whole))

  pub node_stray : clear_node node ≡ false → take_piece (running count partial waiting) node ≡ failed_with 11
  node_stray e = node_counted ∙ counted_stray (count + 32) node waiting (omega arith) e

  pub node_taken : clear_node node ≡ true
      → take_piece (running count partial waiting) node
      ≡ running (count + 32) node (with_node 32 0 (count / 32) node waiting)
  node_taken e =
      let k : (count + 32) / 32 - 1 ≡ count / 32 = omega arith in
      node_counted
      ∙ counted_whole (count + 32) node waiting (omega arith) e
      ∙ ap (λ (n : ℕ). running (count + 32) node (with_node 32 0 n node waiting)) k

-- n whole nodes of which one has stray bits
pub nodes_stray : (n : ℕ) (run : List ℕ) (count : ℕ) (partial waiting : List ℕ) → length run ≡ n * 32
    → length partial ≡ 32 → count % 32 ≡ 0 → count + n * 32 ≤ largest → clear_nodes n run ≡ false
    → take_piece (running count partial waiting) run ≡ failed_with 11
unfolding clear_nodes
nodes_stray zero run count partial waiting l sized starts few e = absurd (true≢false e)
nodes_stray (suc n) run count partial waiting l sized starts few e =
    let node : List ℕ = take 32 run in
    let k : length node ≡ 32 = length-take-le 32 run (omega arith) in
    ap (take_piece (running count partial waiting)) (sym (take-append-drop 32 run))
    ∙ piece_append (running count partial waiting) node (drop 32 run)
    ∙ by_node
    (λ w.
    nodes_stray n (drop 32 run) (count + 32) node w (simp length-drop (omega arith)) k (omega arith) (omega arith))
    (clear_node node) k refl e
  where
    by_node : ((w : List ℕ) → clear_nodes n (drop 32 run) ≡ false
        → take_piece (running (count + 32) (take 32 run) w) (drop 32 run) ≡ failed_with 11)
        → (t : Bool) → length (take 32 run) ≡ 32 → clear_node (take 32 run) ≡ t
        → (t && clear_nodes n (drop 32 run)) ≡ false
        → take_piece (take_piece (running count partial waiting) (take 32 run)) (drop 32 run) ≡ failed_with 11
    by_node rest false k c f =
        ap (λ (s : Stream). take_piece s (drop 32 run))
        (node_stray (take 32 run) count partial waiting k sized starts (omega arith) c)
        ∙ piece_after_failure (failed_with 11) (drop 32 run) (λ z. omega arith)
    by_node rest true k c f =
        ap (λ (s : Stream). take_piece s (drop 32 run))
        (node_taken (take 32 run) count partial waiting k sized starts (omega arith) c)
        ∙ rest (with_node 32 0 (count / 32) (take 32 run) waiting) f
