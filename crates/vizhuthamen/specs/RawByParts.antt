-- The commitment of a raw archive by parts: however long it is, up to 2 ^ 36 bytes after padding, and however the nodes
-- were cut, the stream over the parts' commitments ends with the commitment of the whole segment, filled with zeros. So
-- a caller pads and hashes a part at a time, and parts without raw bytes are all alike.
use Rattle.std.specs.Prelude.{◌≡◌, true, List, length, take, drop}
use Rattle.std.proofs.Math.Path.{sym, ap, ap₂}
use Rattle.std.proofs.Common.{◌∙◌, add_comm, le_of_eq, take_all, pow_pos}
use Prim.Native.Nat.{ℕ, ◌+◌, ◌-◌, ◌*◌, ◌^◌, ◌≤◌, ◌<◌}
use Rattle.std.proofs.Math.Nat.{le_antisymm, le_trans}
use native.Mathlib.Omega.{arith}
use Rattle.std.proofs.Math.ListN.{length-take}
use Rattle.std.proofs.Math.Pow.{pow-add, pow_mono}
use Rattle.octets.specs.Bytes.{Bytes}
use Rattle.octets.specs.Splice.{part}
use Rattle.octets.specs.Fill.{zero_filled}
use Rattle.octets.specs.FillLaws.{filled_length}
use Rattle.pow2.specs.Power.{is_power, height, power_between}
use Rattle.pow2.specs.PowerLaws.{in_bounds_lem, is_power_lem, height_pow}
use Rattle.stray.specs.StrayBits.{no_stray_bits}
use Rattle.stray.specs.StrayBitsLaws.{filled_clear}
use Rattle.sizes.specs.Sizes.{area, segment_level}
use Rattle.sizes.specs.AreaLaws.{IsArea, area_least}
use Rattle.merkle.specs.Tree.{commitment_of, node_at}
use Rattle.merkle.specs.TreeLaws.{within, node_part}
use Rattle.merkle.specs.Commitment.{Committed, committed}
use Rattle.merkle.specs.Parts.{node_row, part_of}
use Rattle.merkle.specs.NodeRowLaws.{same_row}
use Rattle.merkle.specs.PartsLaws.{commitment_of_parts, part_sized, parts_clear, parts_run, parts_run_clear}
use Rattle.merkle.specs.PartsLaws.{answer_clear}
use Rattle.stream.specs.Stream.{Streamed, largest, streamed, together}
use Rattle.stream.specs.StreamLaws.{gets_committed}
use Rattle.stream.specs.Packed.{packed_length, packed_end}
use Rattle.fr32.specs.Padding.{segment_length, padded}
use Rattle.fr32.specs.PaddingLaws.{length_padded}
use Rattle.fr32.specs.InverseLaws.{padded_clear}
use Rattle.fr32.specs.FilledBlocks.{filled_piece, padded_into_zeros}
use Rattle.booking.specs.Write.{segment_commitment}
use Rattle.vizhuthamen.specs.Export.{lent_output}
use Rattle.vizhuthamen.specs.StreamCalls.{new_state, taken_states, end_code}
use Rattle.vizhuthamen.specs.CallsCutAnywhere.{calls_cut_anywhere}
use Rattle.vizhuthamen.specs.RawArchive.{raw_part, filled_part, part_nodes}

-- 2 ^ m parts of 2 ^ j blocks, a block having 128 bytes of the segment, which are 4 nodes
module _ (raw : List ℕ) (bytes : Bytes raw) (j m : ℕ) (part_fits : j ≤ 16) (all_fit : m + j ≤ 29)
    (room : segment_length (length raw) ≤ 32 * 2 ^ (m + (j + 2))) where
  -- the filled segment
  abbrev pub filled_segment : List ℕ
  filled_segment = zero_filled (32 * 2 ^ (m + (j + 2))) (padded raw)

  sized : length filled_segment ≡ 32 * 2 ^ (m + (j + 2))
  sized = filled_length (32 * 2 ^ (m + (j + 2))) (padded raw) (omega (arith, length_padded raw))

  clear : no_stray_bits filled_segment ≡ true
  clear =
      filled_clear (32 * 2 ^ (m + (j + 2))) (padded raw) (omega (arith, length_padded raw)) ∙ padded_clear raw

  part_is : (q : ℕ) → q < 2 ^ m → part_of filled_segment (j + 2) q ≡ filled_part raw j q
  unfolding part
  part_is q h =
      let p : 2 ^ (j + 2) ≡ 2 ^ j * 4 = pow-add 2 j 2 in
      let n : 32 * 2 ^ (j + 2) ≡ 128 * 2 ^ j = omega arith in
      let x : q * (128 * 2 ^ j) ≡ 128 * (q * 2 ^ j) = omega arith in
      let at : q * (32 * 2 ^ (j + 2)) ≡ 128 * (q * 2 ^ j) = ap (λ (k : ℕ). q * k) n ∙ x in
      let w : 2 ^ (j + 2 + m) ≡ 2 ^ (m + (j + 2)) = ap (λ (k : ℕ). 2 ^ k) (add_comm (j + 2) m) in
      let few : 2 ^ j ≤ 2 ^ 16 = pow_mono part_fits in
      let l = length-take (127 * 2 ^ j) (drop (127 * (q * 2 ^ j)) raw) in
      ap₂ (part filled_segment) at n
      ∙ filled_piece raw bytes (32 * 2 ^ (m + (j + 2))) (q * 2 ^ j) (2 ^ j) (omega (arith, within m (j + 2) q h))
      ∙ sym (padded_into_zeros (raw_part raw j q) (128 * 2 ^ j) (omega arith) (omega arith))

  -- no part is refused, and its commitment is the node over it
  part_answer : (q : ℕ) → q < 2 ^ m
      → committed (filled_part raw j q) ≡ record { code = 0; node = node_at filled_segment (j + 2) q }
  part_answer q h =
      let s = filled_segment in
      ap committed (sym (part_is q h))
      ∙ answer_clear (part_of s (j + 2) q) (j + 2) (omega arith) (part_sized s m (j + 2) sized q h)
      (parts_clear s m (j + 2) sized clear q h)
      ∙ ap (λ (node : List ℕ). record { code = 0; node = node }) (sym (node_part s (j + 2) q))

  pub no_part_refused : (q : ℕ) → q < 2 ^ m → (committed (filled_part raw j q)).code ≡ 0
  no_part_refused q h = ap (λ (a : Committed). a.code) (part_answer q h)

  -- the nodes that go to the stream
  abbrev pub all_nodes : List ℕ
  all_nodes = node_row (part_nodes raw j) (j + 2) 0 (2 ^ m)

  abbrev row : List ℕ
  row = node_row (node_at filled_segment) (j + 2) 0 (2 ^ m)

  all_nodes_lem : all_nodes ≡ row
  all_nodes_lem =
      same_row (part_nodes raw j) (j + 2) (node_at filled_segment) (2 ^ m) 0
      (λ i l. ap (λ (a : Committed). a.node) (part_answer (0 + i) (omega arith)))

  row_length : length row ≡ 32 * 2 ^ m
  row_length = parts_run filled_segment m (j + 2) sized

  row_power : length row ≡ 2 ^ (5 + m)
  row_power = row_length ∙ sym (pow-add 2 5 m)

  row_small : length row ≤ largest
  row_small = let p : 2 ^ m ≤ 2 ^ 29 = pow_mono {i = m} {j = 29} (omega arith) in omega (arith, row_length)

  row_clear : no_stray_bits (take largest row) ≡ true
  row_clear =
      ap (λ (v : List ℕ). no_stray_bits v) (take_all largest row row_small)
      ∙ parts_run_clear filled_segment m (j + 2) sized clear

  row_allowed : power_between 32 largest (length row) ≡ true
  row_allowed =
      let z = pow_pos m in
      in_bounds_lem 32 largest (length row) (omega (arith, row_length)) row_small ∙ ap is_power row_power
      ∙ is_power_lem (5 + m)

  row_height : height (length row) - 5 ≡ m
  row_height =
      let h : height (length row) ≡ 5 + m = ap height row_power ∙ height_pow (5 + m) (omega arith) in omega arith

  -- what the stream over them gets
  abbrev whole : Streamed
  whole = record { code = 0; node = commitment_of (m + (j + 2)) filled_segment; count = 32 * 2 ^ m }

  streamed_nodes : streamed all_nodes ≡ whole
  streamed_nodes =
      ap streamed all_nodes_lem
      ∙ gets_committed row row_clear row_allowed
      ∙ ap₂ (λ (h n : ℕ). record { code = 0; node = commitment_of h row; count = n }) row_height row_length
      ∙ ap (λ (node : List ℕ). record { code = 0; node = node; count = 32 * 2 ^ m })
      (commitment_of_parts filled_segment m (j + 2) sized)

  -- vz_stream_new, vz_stream_take for the nodes in whatever pieces, vz_stream_end
  pub raw_by_parts : (memory : List ℕ) (pieces : List (List ℕ)) → length memory ≡ packed_length
      → together pieces ≡ all_nodes
      → (node : List ℕ) (count : ℕ) → length node ≡ 32
      → let left = taken_states (new_state memory) pieces in
      let code = end_code left node in
      (code ≡ 0)
      × (lent_output code (packed_end left).node node ≡ commitment_of (m + (j + 2)) filled_segment)
      × (lent_output code (packed_end left).count count ≡ 32 * 2 ^ m)
  raw_by_parts memory pieces l e node count s =
      let c = calls_cut_anywhere memory pieces l node count s in
      let w : streamed (together pieces) ≡ whole = ap streamed e ∙ streamed_nodes in (
        c.0 ∙ ap (λ (a : Streamed). a.code) w,
        c.1 ∙ ap (λ (a : Streamed). lent_output a.code a.node node) w,
        c.2 ∙ ap (λ (a : Streamed). lent_output a.code a.count count) w,
      )

  -- Where all parts together are the segment's area, this is the commitment that booking the segment writes into its
  -- entry (document 02, request (iii)).
  pub same_as_booked : segment_length (length raw) ≤ 2 ^ 35
      → IsArea (segment_length (length raw)) (32 * 2 ^ (m + (j + 2)))
      → commitment_of (m + (j + 2)) filled_segment ≡ segment_commitment (padded raw)
  unfolding segment_level
  same_as_booked small isArea =
      let n : ℕ = 32 * 2 ^ (m + (j + 2)) in
      let size : ℕ = segment_length (length raw) in
      let power : n ≡ 2 ^ (5 + (m + (j + 2))) = sym (pow-add 2 5 (m + (j + 2))) in
      let tall : height n ≡ 5 + (m + (j + 2)) = ap height power ∙ height_pow (5 + (m + (j + 2))) (omega arith) in
      let level : m + (j + 2) ≡ height n - 5 = omega arith in
      let least = area_least size small in
      let other : area size ≡ 2 ^ least.power.0 = least.power.1 in
      let above : area size ≤ n =
      le_trans (least.smallest (5 + (m + (j + 2))) (omega (arith, room)) (omega (arith, isArea.holds_128)))
      (le_of_eq (sym power)) in
      let below : n ≤ area size =
      le_trans (isArea.smallest least.power.0 (omega (arith, least.holds_size))
      (omega (arith, least.holds_128))) (le_of_eq (sym other)) in
      let same : n ≡ area (length (padded raw)) =
      le_antisymm below above ∙ ap area (sym (length_padded raw)) in
      ap (λ (h : ℕ). commitment_of h filled_segment) level
      ∙ ap (λ (a : ℕ). commitment_of (height a - 5) (zero_filled a (padded raw))) same
