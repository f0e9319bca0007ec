-- The words of lanes put in order, and their bytes, word by word.
use mathlib.Core.Path.{◌≡◌, refl, sym, ap, ap₂, ◌∙◌}
use mathlib.Core.List.{List, [], ◌∷◌, ◌++◌}
use Prim.Native.Nat.{ℕ, zero, suc, ◌+◌, ◌-◌, ◌*◌, ◌/◌, ◌%◌, ◌^◌, ◌≤◌, ◌<◌}
use native.Mathlib.Nat.{div-one}
use native.Mathlib.Omega.{arith}
use lib.ListN.{length, get_or}
use Rattle.octets.specs.Splice.{splice}
use Rattle.octets.specs.SpliceLaws.{get_d_part, splice_nothing, splice_append}
use Rattle.sha256.specs.Table.{table}
use Rattle.sha256.specs.TableLaws.{length_table, get_d_table, table_ext, as_table, table_append}
use Rattle.sha256.specs.Fips.{digest_byte, digest}
use Rattle.lanes.specs.Lanes.{lanes, lane}
use Rattle.lanes.specs.NodeWords.{lane_by_lane, word_bytes, lane_bytes}
use Rattle.lanes.proofs.PlacedLaws.{Placed}

-- the bytes of the first i words
abbrev pub first_bytes : List ℕ → ℕ → List ℕ
first_bytes words i = table (digest_byte words) (4 * i)

byte_of : (words : List ℕ) (i k : ℕ) → k < 4
    → digest_byte words (4 * i + k) ≡ get_or words i 0 / 2 ^ (24 - 8 * k) % 256
byte_of words i k h =
    let a : (4 * i + k) / 4 ≡ i = omega arith in
    let b : (4 * i + k) % 4 ≡ k = omega arith in
    ap₂ (λ (q r : ℕ). get_or words q 0 / 2 ^ (24 - 8 * r) % 256) a b

next_word_lem : (words : List ℕ) (i : ℕ) → table (λ k. digest_byte words (4 * i + k)) 4 ≡ word_bytes (get_or words i 0)
unfolding table
next_word_lem words i =
    let first = byte_of words i 0 (omega arith) in
    let second = byte_of words i 1 (omega arith) in
    let third = byte_of words i 2 (omega arith) in
    let last = byte_of words i 3 (omega arith) ∙ ap (λ (n : ℕ). n % 256) (div-one (get_or words i 0)) in
    λ j. first j ∷ second j ∷ third j ∷ last j ∷ []

-- turns of the loop over the words
module _ (run words : List ℕ) (at : ℕ) where
  pub stored_none : run ≡ splice run at (first_bytes words 0)
  unfolding table
  stored_none = sym (splice_nothing run at)

  pub stored_next : (i : ℕ) → at + 4 * i + 4 ≤ length run
      → splice (splice run at (first_bytes words i)) (at + 4 * i) (word_bytes (get_or words i 0))
      ≡ splice run at (first_bytes words (i + 1))
  stored_next i h =
      let l = length_table (digest_byte words) (4 * i) in
      let e : 4 * i + 4 ≡ 4 * (i + 1) = omega arith in
      splice_append run at (at + 4 * i) (first_bytes words i) (word_bytes (get_or words i 0)) (omega arith)
      (omega arith)
      ∙ ap (splice run at)
      (ap (λ (b : List ℕ). first_bytes words i ++ b) (sym (next_word_lem words i))
      ∙ sym (table_append (digest_byte words) (4 * i) 4)
      ∙ ap (table (digest_byte words)) e)

module _ (nodes : List ℕ) where
  -- every lane at its place: all words are in order
  pub placed_lanes : (l : ℕ) (words : List ℕ) → lanes ≤ l → Placed (lane 8 nodes) l words → words ≡ lane_by_lane nodes
  unfolding lane_by_lane
  placed_lanes l words b c =
      as_table words (lanes * 8) c.sized
      ∙ table_ext (λ i. get_or words i 0) (λ i. get_or nodes (lanes * (i % 8) + i / 8) 0) (lanes * 8)
      (λ i h.
      let e : i ≡ 8 * (i / 8) + i % 8 = omega arith in
      ap (λ (k : ℕ). get_or words k 0) e
      ∙ sym (get_d_part words (8 * (i / 8)) 8 (i % 8) (omega arith))
      ∙ ap (λ (w : List ℕ). get_or w (i % 8) 0) (c.placed (i / 8) (omega arith))
      ∙ get_d_table (λ t. get_or nodes (lanes * t + i / 8) 0) 8 (i % 8) (omega arith))

  -- the bytes of all words are those of the lanes
  lane_bytes_lem : (l : ℕ) → l < lanes
      → table (λ k. digest_byte (lane_by_lane nodes) (32 * l + k)) 32 ≡ digest (lane 8 nodes l)
  unfolding lane_by_lane
  lane_bytes_lem l h =
      table_ext (λ k. digest_byte (lane_by_lane nodes) (32 * l + k)) (digest_byte (lane 8 nodes l)) 32
      (λ k b.
      let p : (32 * l + k) / 4 ≡ 8 * l + k / 4 = omega arith in
      let q : (32 * l + k) % 4 ≡ k % 4 = omega arith in
      let t : (8 * l + k / 4) % 8 ≡ k / 4 = omega arith in
      let m : (8 * l + k / 4) / 8 ≡ l = omega arith in
      ap₂ (λ (x r : ℕ). x / 2 ^ (24 - 8 * r) % 256)
      (ap (λ (i : ℕ). get_or (lane_by_lane nodes) i 0) p
      ∙ get_d_table (λ i. get_or nodes (lanes * (i % 8) + i / 8) 0) (lanes * 8) (8 * l + k / 4) (omega arith)
      ∙ ap₂ (λ (x y : ℕ). get_or nodes (lanes * x + y) 0) t m
      ∙ sym (get_d_table (λ t. get_or nodes (lanes * t + l) 0) 8 (k / 4) (omega arith)))
      q)

  pub stored_lanes : (n : ℕ) → n ≤ lanes → first_bytes (lane_by_lane nodes) (8 * n) ≡ lane_bytes nodes n
  unfolding lane_bytes table
  stored_lanes zero h = refl
  stored_lanes (suc n) h =
      let e : 4 * (8 * suc n) ≡ 4 * (8 * n) + 32 = omega arith in
      let f : 4 * (8 * n) ≡ 32 * n = omega arith in
      ap (table (digest_byte (lane_by_lane nodes))) e
      ∙ table_append (digest_byte (lane_by_lane nodes)) (4 * (8 * n)) 32
      ∙ ap₂ (λ (x y : List ℕ). x ++ y) (stored_lanes n (omega arith))
      (ap (λ (m : ℕ). table (λ k. digest_byte (lane_by_lane nodes) (m + k)) 32) f ∙ lane_bytes_lem n (omega arith))
