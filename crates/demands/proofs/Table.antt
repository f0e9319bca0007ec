-- Document 01, "Table to be proved (P1 to P12)", over what the routines answer. Document 02, request (ix): "the lengths
-- in P4 to P7 grow by 11"; and the check comes to 4, 5 and 6 where the record names the caller's deal number.
use Rattle.std.specs.Prelude.{◌≡◌, refl, Bool, true, false, ℕ, ◌^◌, ◌≤◌, List, length}
use Rattle.std.proofs.Common.{ap, ap₂, ◌∙◌, arith, pow_mono, le-leb}
use Rattle.std.specs.Int.Count.{count_trailing_zeros}
use Rattle.octets.specs.Bytes.{Bytes}
use Rattle.pow2.specs.PowerLaws.{ones_pow}
use Rattle.fr32.specs.Padding.{segment_length}
use Rattle.sizes.specs.Numbers.{IndexNumbers}
use Rattle.sizes.specs.Numbers.{index_numbers}
use Rattle.sizes.specs.Sizes.{deal_size_allowed, segment_size_allowed, offset_allowed, place_allowed, area, doubled_to}
use Rattle.sizes.specs.Sizes.{entry_count, index_start, deal_level, segment_level}
use Rattle.record.specs.Form.{Fields, parsed, parse, record_length}
use Rattle.record.specs.FieldsOf.{fields_of}
use Rattle.record.specs.Check.{deal_terms, check_of}
use Rattle.record.specs.AcceptedLength.{accepted_length}
use Rattle.demands.proofs.TableLaws.{answers_4, answers_5, answers_6, never_4, never_5, never_6}

-- the index numbers as answered
abbrev numbers : ℕ → ℕ → IndexNumbers
numbers entries start = record { code = 0; entries = entries; start = start }

-- The check's answers for a deal of d bytes and a deal number, to every record in form whose fields are as given: for
-- every commitment of 32 bytes, and whatever stands in the fields that are not named
abbrev Checked : ℕ → (ℕ → Fields → Type 0) → (ℕ → Type 0) → Type 0
Checked d given Says =
    (commitment : List ℕ) (number : ℕ) (r : List ℕ) (x : Fields) → length commitment ≡ 32 → parse r ≡ parsed x
    → given number x → Says (check_of (deal_terms commitment d number) r)

-- a code, where they name the caller's number; and never a code, whatever number they name
abbrev Answers : ℕ → (Fields → Type 0) → ℕ → Type 0
Answers d given code = Checked d (λ number x. (x.number ≡ number) × given x) (λ answer. answer ≡ code)

abbrev Never : ℕ → (Fields → Type 0) → ℕ → Type 0
Never d given code = Checked d (λ number x. given x) (λ answer. answer ≡ code → ⊥)

-- a segment of a size at an offset
abbrev Segment : ℕ → ℕ → Fields → Type 0
Segment size offset x = (x.size ≡ size) × (x.offset ≡ offset)

-- an entry place in a record that passes codes 4 and 5
abbrev Place : ℕ → ℕ → Fields → Type 0
Place d place x =
    (x.place ≡ place) × (segment_size_allowed d x.size ≡ true) × (offset_allowed d x.offset x.size ≡ true)

-- every accepted record of a segment of a size in a deal of d bytes has n bytes
abbrev RecordsOf : ℕ → ℕ → ℕ → Type 0
RecordsOf d size n =
    (commitment : List ℕ) (number : ℕ) (r : List ℕ) → Bytes r → check_of (deal_terms commitment d number) r ≡ 0
    → (fields_of r).size ≡ size → length r ≡ n

pub Table : Type 0
Table =
    -- P1: 4 entries, start 256
    (index_numbers 512 ≡ numbers 4 256)
    -- P2
    × (index_numbers 1048576 ≡ numbers 8 1048064)
    -- P3
    × (index_numbers (2 ^ 36) ≡ numbers 524288 68685922304)
    -- P4: size 256 at offset 0 is allowed, record of 213 bytes
    × Never 512 (Segment 256 0) 4 × Never 512 (Segment 256 0) 5 × RecordsOf 512 256 213
    -- P5
    × RecordsOf 512 128 245
    -- P6
    × RecordsOf 1048576 1024 853
    -- P7
    × RecordsOf (2 ^ 36) 128 1973
    -- P8
    × Answers 512 (λ x. x.size ≡ 512) 4
    -- P9
    × Answers 512 (Segment 128 256) 5
    -- P10
    × Answers 512 (Segment 128 64) 5
    -- P11: place 448 is allowed, 512 is not
    × Never 512 (λ x. x.place ≡ 448) 6 × Answers 512 (Place 512 512) 6
    -- P12
    × Answers 512 (Place 512 300) 6

-- P4 to P7: the lengths
lengths : (record_length 512 256 ≡ 213) × (record_length 512 128 ≡ 245) × (record_length 1048576 1024 ≡ 853)
    × (record_length (2 ^ 36) 128 ≡ 1973)
unfolding record_length area doubled_to deal_level segment_level count_trailing_zeros
lengths = (refl, refl, refl, refl)

records_of : (d size n : ℕ) → record_length d size ≡ n → RecordsOf d size n
records_of d size n e commitment number r b c s =
    accepted_length (deal_terms commitment d number) r b c ∙ ap (record_length d) s ∙ e

-- P1 to P3: the index numbers of an allowed deal size
answered : (d entries start : ℕ) → deal_size_allowed d ≡ true → entry_count d ≡ entries → index_start d ≡ start
    → index_numbers d ≡ numbers entries start
unfolding index_numbers
answered d entries start a e s = rw (a, e, s)

-- the deal sizes, powers of two
allowed_power : (k : ℕ) → 9 ≤ k → k ≤ 36 → deal_size_allowed (2 ^ k) ≡ true
unfolding deal_size_allowed
allowed_power k low high =
    rw (
      le-leb 512 (2 ^ k) (pow_mono {i = 9} {j = k} low),
      le-leb (2 ^ k) (2 ^ 36) (pow_mono {i = k} {j = 36} high),
      ones_pow k,
    )

allowed_512 : deal_size_allowed 512 ≡ true
allowed_512 = allowed_power 9 (omega arith) (omega arith)

-- P8 to P12: the test of the fields is the test of the numbers in the table
module _ (commitment : List ℕ) (number : ℕ) (r : List ℕ) (x : Fields) (l : length commitment ≡ 32)
    (p : parse r ≡ parsed x) where
  size_test : (size : ℕ) (t : Bool) → segment_size_allowed 512 size ≡ t → x.size ≡ size
      → segment_size_allowed 512 x.size ≡ t
  size_test size t e s = ap (segment_size_allowed 512) s ∙ e

  offset_test : (size offset : ℕ) (t : Bool) → offset_allowed 512 offset size ≡ t → Segment size offset x
      → offset_allowed 512 x.offset x.size ≡ t
  offset_test size offset t e s = ap₂ (offset_allowed 512) s.1 s.0 ∙ e

  place_test : (place : ℕ) (t : Bool) → place_allowed 512 place ≡ t → x.place ≡ place → place_allowed 512 x.place ≡ t
  place_test place t e s = ap (place_allowed 512) s ∙ e

  abbrev answer : ℕ
  answer = check_of (deal_terms commitment 512 number) r

  size_passes : (size offset : ℕ) → segment_size_allowed 512 size ≡ true → Segment size offset x → answer ≡ 4 → ⊥
  size_passes size offset e s = never_4 512 allowed_512 commitment number r x l p (size_test size true e s.0)

  offset_passes : (size offset : ℕ) → offset_allowed 512 offset size ≡ true → Segment size offset x → answer ≡ 5 → ⊥
  offset_passes size offset e s = never_5 512 allowed_512 commitment number r x l p (offset_test size offset true e s)

  place_passes : (place : ℕ) → place_allowed 512 place ≡ true → x.place ≡ place → answer ≡ 6 → ⊥
  place_passes place e s = never_6 512 allowed_512 commitment number r x l p (place_test place true e s)

  size_refused : (size : ℕ) → segment_size_allowed 512 size ≡ false → (x.number ≡ number) × (x.size ≡ size)
      → answer ≡ 4
  size_refused size e (n, s) = answers_4 512 allowed_512 commitment number r x l p n (size_test size false e s)

  offset_refused : (size offset : ℕ) → segment_size_allowed 512 size ≡ true → offset_allowed 512 offset size ≡ false
      → (x.number ≡ number) × Segment size offset x → answer ≡ 5
  offset_refused size offset a e (n, s) =
      answers_5 512 allowed_512 commitment number r x l p n (size_test size true a s.0)
      (offset_test size offset false e s)

  place_refused : (place : ℕ) → place_allowed 512 place ≡ false → (x.number ≡ number) × Place 512 place x → answer ≡ 6
  place_refused place e (n, s) =
      answers_6 512 allowed_512 commitment number r x l p n s.1 s.2 (place_test place false e s.0)

pub table : Table
unfolding Table entry_count index_start area doubled_to segment_size_allowed offset_allowed place_allowed
table = (
  answered 512 4 256 allowed_512 refl refl,
  answered 1048576 8 1048064 (allowed_power 20 (omega arith) (omega arith)) refl refl,
  answered (2 ^ 36) 524288 68685922304 (allowed_power 36 (omega arith) (omega arith)) refl refl,
  (λ c n r x l p. size_passes c n r x l p 256 0 refl),
  (λ c n r x l p. offset_passes c n r x l p 256 0 refl),
  records_of 512 256 213 lengths.0,
  records_of 512 128 245 lengths.1,
  records_of 1048576 1024 853 lengths.2,
  records_of (2 ^ 36) 128 1973 lengths.3,
  (λ c n r x l p. size_refused c n r x l p 512 refl),
  (λ c n r x l p. offset_refused c n r x l p 128 256 refl refl),
  (λ c n r x l p. offset_refused c n r x l p 128 64 refl refl),
  (λ c n r x l p. place_passes c n r x l p 448 refl),
  (λ c n r x l p. place_refused c n r x l p 512 refl),
  (λ c n r x l p. place_refused c n r x l p 300 refl),
)

-- Document 02, request (iii): 127, 128 and 255 raw bytes have the sizes T = 128, 130 and 258, and the areas A
pub Areas : Type 0
Areas =
    (segment_length 127 ≡ 128) × (area (segment_length 127) ≡ 128)
    × (segment_length 128 ≡ 130) × (area (segment_length 128) ≡ 256)
    × (segment_length 255 ≡ 258) × (area (segment_length 255) ≡ 512)

pub areas : Areas
unfolding Areas area doubled_to
areas = (refl, refl, refl, refl, refl, refl)
