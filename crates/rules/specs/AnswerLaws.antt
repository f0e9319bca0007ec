-- A refusal that `?` passes on is the one that was met.
use Rattle.std.specs.Prelude.{◌≡◌, ℕ, ◌<◌, Result, Ok, Err}
use Rattle.std.specs.Result.{IsErrAnd}
use Rattle.std.proofs.Common.{ap, arith}
use Rattle.rules.specs.declared.Refusal.{Refusal}
use Rattle.rules.specs.declared.Refusal.TheVariants.{CommitmentLength, Size, Form, SegmentSize, Offset, Place, PathLength, CommitmentBits, SegmentPath, EntryPath, StrayBits, Output, NoSlot, NoPlace, NotKept, OtherPlace, PathBits, Overlap, DealNumber, Quota, House, SegmentLength}
use Rattle.rules.specs.Answers.{number, answered, code_of}

module _ {A : Type 0} (r : Result A Refusal) (e : Refusal) where
  pub passed_on : IsErrAnd r (λ y. y ≡ e) → r ≡ Err e
  passed_on q = go r q
    where
      go : (s : Result A Refusal) → IsErrAnd s (λ y. y ≡ e) → s ≡ Err e
      go (Ok x) k = absurd k
      go (Err y) k = ap Err k

  pub code_passed_on : IsErrAnd r (λ y. y ≡ e) → code_of r ≡ number e
  code_passed_on q = ap code_of (passed_on q)

  pub answer_passed_on : {B : Type 0} (done : A → B) (refused : ℕ → B) → IsErrAnd r (λ y. y ≡ e)
      → answered done refused r ≡ refused (number e)
  answer_passed_on done refused q = ap (answered done refused) (passed_on q)

-- no refusal has the number 0
pub number_some : (r : Refusal) → 0 < number r
number_some CommitmentLength = omega arith
number_some Size = omega arith
number_some Form = omega arith
number_some SegmentSize = omega arith
number_some Offset = omega arith
number_some Place = omega arith
number_some PathLength = omega arith
number_some CommitmentBits = omega arith
number_some SegmentPath = omega arith
number_some EntryPath = omega arith
number_some StrayBits = omega arith
number_some Output = omega arith
number_some NoSlot = omega arith
number_some NoPlace = omega arith
number_some NotKept = omega arith
number_some OtherPlace = omega arith
number_some PathBits = omega arith
number_some Overlap = omega arith
number_some DealNumber = omega arith
number_some Quota = omega arith
number_some House = omega arith
number_some SegmentLength = omega arith
