-- Finding a segment by its commitment (document 01, "Booking, finding, building, settling": find).
use Rattle.std.specs.Prelude.{Bool, ◌&&◌, ℕ, List, ◌∷◌, length, eqb, Option, Some, None, Result}
use Rattle.rules.specs.Refusals.{rule, first_refusal, unless_refused}
use Rattle.rules.specs.Search.{lowest}
use Rattle.rules.specs.declared.Refusal.{Refusal}
use Rattle.rules.specs.Answers.{answered}
use Rattle.octets.specs.Equality.{same_bytes}
use Rattle.octets.specs.Splice.{part}
use Rattle.sizes.specs.Sizes.{entry_count, slot_place}
use Rattle.entries.specs.Entry.{commitment_in, offset_in, size_in}
use Rattle.lent.specs.LentDeal.{LentDeal, deal_size, deal_rules}
use Rattle.index.specs.Slots.{slot_at, kept_at}
use Rattle.index.specs.declared.FoundSegment as F

-- slot i holds a kept entry with this commitment
unfoldable pub keeps_commitment : LentDeal → List ℕ → ℕ → Bool
keeps_commitment deal commitment i = kept_at deal i && same_bytes (commitment_in (slot_at deal.bytes i)) commitment

-- the lowest slot that keeps a commitment
abbrev pub lowest_with_commitment : LentDeal → List ℕ → Option ℕ
lowest_with_commitment deal commitment = lowest (keeps_commitment deal commitment) 0 (entry_count (deal_size deal))

-- a code, and where a segment was found
pub record FoundSegment : Type 0 where
  pub code : ℕ
  pub offset : ℕ
  pub size : ℕ
  pub place : ℕ

-- zeros beside a refusal's code
abbrev pub refused : ℕ → FoundSegment
refused code = record { code = code; offset = 0; size = 0; place = 0 }

-- the answer that a result stands for
abbrev pub found_as : Result F.FoundSegment Refusal → FoundSegment
found_as =
    answered
    (λ found. record { code = 0; offset = found.offset; size = found.size; place = found.place })
    refused

-- the numbers of what was found: offset, size and entry place
abbrev pub found_in : List ℕ → Option ℕ → FoundSegment
found_in deal (Some i) =
    record {
      code = 0;
      offset = offset_in (slot_at deal i);
      size = size_in (slot_at deal i);
      place = slot_place (length deal) i;
    }
found_in deal None = refused 16

-- 1, 2, 11, 12, then the lowest slot that keeps the commitment, or 16
unfoldable pub find_numbers : LentDeal → List ℕ → FoundSegment
find_numbers deal commitment =
    unless_refused (first_refusal (rule (eqb (length commitment) 32) 1 ∷ deal_rules deal)) refused
    (found_in deal.bytes (lowest_with_commitment deal commitment))

-- the view: the segment's bytes in the deal; nothing on every refusal, where offset and size are 0
unfoldable pub find_view : LentDeal → List ℕ → List ℕ
find_view deal commitment =
    part deal.bytes (find_numbers deal commitment).offset (find_numbers deal commitment).size
