-- What decides whether a slot keeps a segment: its row, and the bytes of its area.
use Rattle.std.specs.Prelude.{◌≡◌, refl, Bool, true, false, ◌&&◌, ℕ, List, length, eqb}
use Rattle.std.proofs.Common.{sym, ap, ◌∙◌, eqb-true}
use Rattle.rules.specs.RefusalLaws.{and_same}
use Rattle.octets.specs.Equality.{same_bytes}
use Rattle.octets.specs.Splice.{part}
use Rattle.merkle.specs.Tree.{node_at}
use Rattle.sizes.specs.Sizes.{area}
use Rattle.sizes.specs.SizesLaws.{DealSize}
use Rattle.entries.specs.Entry.{offset_in, size_in}
use Rattle.lent.specs.LentDeal.{lent_deal}
use Rattle.index.specs.Slots.{slot_at, standing, free, holds, row_at, Row}
use Rattle.index.specs.KeptLaws.{row_stands, kept_stands}
use Rattle.index.specs.KeptRows.{area_of, row_kept}
use Rattle.index.specs.KeptRowsLaws.{kept_row_lem}
use Rattle.booking.specs.Write.{area_bytes}
use Rattle.booking.specs.Booking.{keeps_segment}
use Rattle.booking.specs.KeepRows.{row_keeps}

-- a free row keeps nothing
pub free_keeps_none : (segment bytes : List ℕ) → row_keeps segment free bytes ≡ false
unfolding row_keeps row_kept
free_keeps_none segment bytes = refl

-- the bytes decide wherever they stand
pub keeps_moved : (segment commitment : List ℕ) (offset at size : ℕ) (bytes : List ℕ)
    → row_keeps segment (holds commitment at size) bytes ≡ row_keeps segment (holds commitment offset size) bytes
unfolding row_keeps row_kept
keeps_moved segment commitment offset at size bytes = refl

-- slot i keeps a segment exactly if its row does, by the bytes of its area
pub keeps_row : (deal segment : List ℕ) (i : ℕ) → DealSize (length deal)
    → keeps_segment (lent_deal deal) segment i ≡ row_keeps segment (row_at deal i) (area_of deal (row_at deal i))
unfolding keeps_segment row_keeps
keeps_row deal segment i t =
    let entry : List ℕ = slot_at deal i in
    let row : Row = row_at deal i in
    let n : ℕ = length segment in
    let with_size : Bool = eqb (size_in entry) n in
    let same_kept = kept_row_lem (length deal) entry t deal in
    ap (λ (k : Bool). k && (with_size && same_bytes (part deal (offset_in entry) (area n)) (area_bytes segment)))
    same_kept
    ∙ and_same (row_kept row (area_of deal row)) _ _
    (λ k.
    let s : standing (length deal) entry ≡ true =
    kept_stands (node_at deal) (length deal) entry (same_kept ∙ k) in
    and_same with_size _ _
    (λ e.
    ap (λ (m : ℕ). same_bytes (part deal (offset_in entry) (area m)) (area_bytes segment))
    (sym (eqb-true (size_in entry) n e)))
    ∙ ap (λ (r : Row). eqb r.size n && same_bytes (area_of deal r) (area_bytes segment))
    (sym (row_stands (length deal) entry s)))
