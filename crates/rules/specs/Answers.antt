-- The numbers of refusals (document 01, "Codes and their order"; document 02), and the answer that a result stands for.
use Rattle.std.specs.Prelude.{ℕ, Result, Ok, Err}
use Rattle.rules.specs.declared.Refusal.{Refusal}
use Rattle.rules.specs.declared.Refusal.TheVariants.{CommitmentLength, Size, Form, SegmentSize, Offset, Place, PathLength, CommitmentBits, SegmentPath, EntryPath, StrayBits, Output, NoSlot, NoPlace, NotKept, OtherPlace, PathBits, Overlap, DealNumber, Quota, House, SegmentLength}

-- the number of a refusal
abbrev pub number : Refusal → ℕ
number CommitmentLength = 1
number Size = 2
number Form = 3
number SegmentSize = 4
number Offset = 5
number Place = 6
number PathLength = 7
number CommitmentBits = 8
number SegmentPath = 9
number EntryPath = 10
number StrayBits = 11
number Output = 12
number NoSlot = 13
number NoPlace = 14
number NotKept = 16
number OtherPlace = 18
number PathBits = 19
number Overlap = 20
number DealNumber = 21
number Quota = 22
number House = 23
number SegmentLength = 24

-- an answer with its code, from a result: what `done` says of a value, and what `refused` says of a refusal's number
abbrev pub answered : {A B : Type 0} → (A → B) → (ℕ → B) → Result A Refusal → B
answered done refused (Ok x) = done x
answered done refused (Err r) = refused (number r)

-- the code of a result: 0 for a value
abbrev pub code_of : {A : Type 0} → Result A Refusal → ℕ
code_of (Ok x) = 0
code_of (Err r) = number r
