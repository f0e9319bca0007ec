-- The three counts of a tally together make the number of entries.
use Rattle.std.specs.Prelude.{◌≡◌, refl, Bool, ℕ, zero, suc, ◌+◌, List, length, eqb}
use Rattle.std.proofs.Common.{arith}
use Rattle.rules.specs.Refusals.{first_refusal, unless_refused}
use Rattle.rules.specs.Search.{one, count}
use Rattle.sizes.specs.Sizes.{entry_count}
use Rattle.entries.specs.Entry.{kind_of, kind_number, is_kind}
use Rattle.entries.specs.declared.EntryKind.{EntryKind}
use Rattle.entries.specs.declared.EntryKind.TheVariants.{Blank, Damaged, Valid}
use Rattle.lent.specs.LentDeal.{lent_deal, deal_rules}
use Rattle.index.specs.Slots.{slot_at}
use Rattle.index.specs.Tally.{count_of, refused, counts_of, tally_answer}

-- three tests of which every number passes exactly one
count_three : (p q r : ℕ → Bool) → ((i : ℕ) → one (p i) + one (q i) + one (r i) ≡ 1) → (i n : ℕ)
    → count p i n + count q i n + count r i n ≡ n
count_three p q r f i zero = refl
count_three p q r f i (suc n) =
    let h = f i in
    let k = count_three p q r f (suc i) n in
    omega arith

-- an entry is of exactly one kind
one_kind : (entry : List ℕ) → one (is_kind Blank entry) + one (is_kind Damaged entry) + one (is_kind Valid entry) ≡ 1
unfolding is_kind
one_kind entry = by (kind_of entry)
  where
    by : (kind : EntryKind) → let k = kind_number kind in one (eqb k 0) + one (eqb k 1) + one (eqb k 2) ≡ 1
    by Blank = refl
    by Damaged = refl
    by Valid = refl

counts_total : (deal : List ℕ)
    → count_of Blank deal + count_of Damaged deal + count_of Valid deal ≡ entry_count (length deal)
unfolding count_of
counts_total deal =
    let of : EntryKind → ℕ → Bool = λ kind i. is_kind kind (slot_at deal i) in
    count_three (of Blank) (of Damaged) (of Valid) (λ i. one_kind (slot_at deal i)) 0 (entry_count (length deal))

-- with code 0 the three numbers of the answer add up to the number of entries
pub tally_adds_up : (deal : List ℕ) → (tally_answer deal).code ≡ 0
    → (tally_answer deal).blank + (tally_answer deal).damaged + (tally_answer deal).valid ≡ entry_count (length deal)
unfolding tally_answer
tally_adds_up deal = by (first_refusal (deal_rules (lent_deal deal)))
  where
    by : (code : ℕ) → let answer = unless_refused code refused (counts_of deal) in answer.code ≡ 0
        → answer.blank + answer.damaged + answer.valid ≡ entry_count (length deal)
    by zero e = counts_total deal
    by (suc code) e = absurd (omega arith)
