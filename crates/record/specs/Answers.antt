-- The answer that a result of parsing stands for.
use Rattle.std.specs.Prelude.{◌≡◌, ℕ, ◌+◌, ◌-◌, List, Result, length}
use Rattle.std.specs.Borrow.{Bor}
use Rattle.rules.specs.declared.Refusal.{Refusal}
use Rattle.rules.specs.Answers.{answered}
use Rattle.record.specs.Form.{Fields, fields, Parsed, parsed, broken}
use Rattle.record.specs.ParsedRecord.{ParsedRecord, unread}
use Rattle.record.specs.declared.ParsedRecord.{ParsedRecord as Read}

-- the fields that were read
abbrev pub read_fields : Read → Fields
read_fields x = fields x.commitment x.offset x.size x.place x.segment_path.now x.entry_path.now x.number

abbrev pub parsed_of : Result Read Refusal → Parsed
parsed_of = answered (λ x. parsed (read_fields x)) (λ code. broken)

-- a view that lies in what was lent, from a place of it on
abbrev pub LiesAt : Bor (List ℕ) → ℕ → Bor (List ℕ) → Type 0
LiesAt lent place view = (view.ref_ptr.0 ≡ lent.ref_ptr.0) × (view.ref_ptr.1 ≡ place + lent.ref_ptr.1)

-- where the paths of a read record lie in the lent one: the segment path behind the head of its field and the four
-- fields before it, at 71, and the entry path behind the segment path and one more head
abbrev pub SegmentPathIn : Bor (List ℕ) → Read → Type 0
SegmentPathIn lent x = LiesAt lent 71 x.segment_path

abbrev pub EntryPathIn : Bor (List ℕ) → Read → Type 0
EntryPathIn lent x = LiesAt lent (74 + length x.segment_path.now) x.entry_path

-- the place in what was lent at which a view of it begins
abbrev pub place_in : Bor (List ℕ) → Bor (List ℕ) → ℕ
place_in lent view = view.ref_ptr.1 - lent.ref_ptr.1

-- a record's fields, its paths by their places in the lent record and by their lengths
abbrev pub record_answer : Bor (List ℕ) → Result Read Refusal → ParsedRecord
record_answer lent =
    answered
    (λ x.
    record {
      code = 0;
      commitment = x.commitment;
      offset = x.offset;
      size = x.size;
      place = x.place;
      segment_path = place_in lent x.segment_path;
      segment_path_length = length x.segment_path.now;
      entry_path = place_in lent x.entry_path;
      entry_path_length = length x.entry_path.now;
      number = x.number;
    })
    unread
