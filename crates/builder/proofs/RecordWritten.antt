-- The level and the position as the code works them out: what the paths ask of them, and the record that they write.
use mathlib.Core.Path.{◌≡◌, refl, ap, ◌∙◌}
use mathlib.Core.List.{List, [], ◌∷◌}
use Prim.Native.Nat.{ℕ, ◌+◌, ◌-◌, ◌*◌, ◌/◌, ◌≤◌}
use native.Mathlib.Omega.{arith}
use lib.ListN.{length}
use Rattle.std.specs.Int.{w64, to_le_bytes}
use Rattle.octets.specs.Splice.{splice}
use Rattle.octets.specs.LittleEndian.{bytes_of}
use Rattle.octets.specs.LittleEndianLaws.{length_bytes_of, le_bytes_of}
use Rattle.paths.specs.Start.{path_start, InTree}
use Rattle.paths.specs.NodesSized.{NodesSized}
use Rattle.paths.specs.Siblings.{siblings}
use Rattle.sizes.specs.Sizes.{deal_level, segment_level, segment_position}
use Rattle.index.specs.Slots.{Row}
use Rattle.fields.specs.Table.{put_field, write_contents}
use Rattle.fields.specs.WrittenLaws.{Wrote, wrote_field, WroteAll, all_written}
use Rattle.fields.specs.declared.FieldRule.{FieldRule}
use Rattle.record.specs.Form.{layout, table_row, Fields, fields, contents_of, encode, record_length}
use Rattle.lent.specs.LentDeal.{LentDeal, deal_size}
use Rattle.builder.specs.Build.{segment_path_of, entry_path_of}
use Rattle.builder.specs.BuildLaws.{InDeal, segment_start_lem, segment_path_length, entry_path_length}
use Rattle.builder.specs.Encode.{record_for}
use Rattle.builder.specs.EncodeLaws.{record_length_lem}

-- the field of a number was written by a row of the table
pub wrote_number : {out after content : List ℕ} {at next : ℕ} {R : Type 0} (row : FieldRule) (n : ℕ)
    → content ≡ to_le_bytes w64 n
    → (after ≡ splice out at (put_field row.tag content [])) × (next ≡ at + 3 + 8) × R
    → Wrote out at (put_field row.tag (bytes_of 8 n) []) after next
wrote_number {out = out} {at = at} row n e w =
    let k = e ∙ le_bytes_of n in
    wrote_field row (bytes_of 8 n) refl (length_bytes_of 8 n)
    (w.0 ∙ ap (λ (l : List ℕ). splice out at (put_field row.tag l [])) k) (omega (arith, w.1))

-- the level and the position of the segment's node, as the code works them out
pub record WorkedOut (deal : LentDeal) (entry : Row) (place level position : ℕ) : Type 0 where
  pub each : NodesSized deal.nodes (deal_level (deal_size deal))
  pub within : InDeal (deal_size deal) place entry.offset entry.size
  pub level_is : level ≡ segment_level entry.size
  pub position_is : position ≡ segment_position entry.offset entry.size

module _ {deal : LentDeal} {entry : Row} {place level position : ℕ}
    (w : WorkedOut deal entry place level position) where
  -- the levels above the two nodes
  abbrev pub SegmentLevels : ℕ
  SegmentLevels = deal_level (deal_size deal) - level

  abbrev pub EntryLevels : ℕ
  EntryLevels = deal_level (deal_size deal) - 1

  -- the segment's path starts in the deal's tree; so does the entry's, by `entry_start_lem`
  pub segment_inside : InTree (deal_level (deal_size deal)) (path_start SegmentLevels level position)
  segment_inside = rw (w.level_is, w.position_is) (segment_start_lem w.within)

  -- the room that the record takes, by its fields: the commitment and three numbers, the two paths, the deal's number
  pub fields_room : {m : ℕ} → record_length (deal_size deal) entry.size ≤ m
      → 35 + 3 * 11 + (3 + 32 * SegmentLevels) + (3 + 32 * EntryLevels) + 11 ≤ m
  unfolding record_length
  fields_room h = rw w.level_is (omega arith)

  -- the two paths as the code writes them, and the fields of the record
  abbrev pub SegmentPath : List ℕ
  SegmentPath = siblings deal.nodes SegmentLevels level position

  abbrev pub EntryPath : List ℕ
  EntryPath = siblings deal.nodes EntryLevels 1 (place / 64)

  abbrev pub Written : ℕ → Fields
  Written number = fields entry.commitment entry.offset entry.size place SegmentPath EntryPath number

  -- their lengths
  segment_path_sized : length SegmentPath ≡ 32 * SegmentLevels
  segment_path_sized =
      rw (w.level_is, w.position_is)
      (segment_path_length deal w.each place entry.offset entry.size w.within)

  entry_path_sized : length EntryPath ≡ 32 * EntryLevels
  entry_path_sized = entry_path_length deal w.each place entry.offset entry.size w.within

  -- both were written behind one another, and the deal's number behind them
  pub wrote_paths : {out after last : List ℕ} {at next end : ℕ} (number : ℕ)
      → (next ≡ at + (3 + 32 * SegmentLevels) + (3 + 32 * EntryLevels))
      × (after ≡ splice (splice out at (put_field (table_row 4).tag SegmentPath []))
      (at + (3 + 32 * SegmentLevels)) (put_field (table_row 5).tag EntryPath []))
      → Wrote after next (put_field (table_row 6).tag (bytes_of 8 number) []) last end
      → WroteAll (table_row 4 ∷ table_row 5 ∷ table_row 6 ∷ []) (SegmentPath ∷ EntryPath ∷ bytes_of 8 number ∷ [])
      out at last
  wrote_paths number both behind = (
    _,
    _,
    wrote_field (table_row 4) SegmentPath refl segment_path_sized refl refl,
    (
      _,
      _,
      wrote_field (table_row 5) EntryPath refl entry_path_sized both.1 both.0,
      (_, _, behind, refl),
    ),
  )

  -- the fields of all rows were written
  pub record_written : (number : ℕ) (out : List ℕ) {after : List ℕ} → length entry.commitment ≡ 32
      → record_length (deal_size deal) entry.size ≤ length out
      → WroteAll layout (contents_of (Written number)) out 0 after
      → after ≡ splice out 0 (record_for deal number entry.commitment entry.offset entry.size place)
  unfolding record_for encode
  record_written number out k h a =
      let n = record_length_lem deal w.each number entry.commitment entry.offset entry.size place k
      w.within in
      let same : Written number ≡ fields entry.commitment entry.offset entry.size place
      (segment_path_of deal entry.offset entry.size) (entry_path_of deal place) number =
      rw (w.level_is, w.position_is) in
      let written = contents_of (Written number) in
      let l : length (write_contents layout written) ≡ record_length (deal_size deal) entry.size =
      ap (λ (x : Fields). length (encode x)) same ∙ n in
      all_written layout written out 0 a (omega (arith, l))
      ∙ ap (λ (x : Fields). splice out 0 (encode x)) same
