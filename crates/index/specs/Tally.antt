-- The tally of a deal's index (document 02, (ii)): how many slots are blank, damaged and valid.
use Rattle.std.specs.Prelude.{ℕ, List, length, Result}
use Rattle.rules.specs.declared.Refusal.{Refusal}
use Rattle.rules.specs.Answers.{answered}
use Rattle.rules.specs.Refusals.{first_refusal, unless_refused}
use Rattle.rules.specs.Search.{count}
use Rattle.sizes.specs.Sizes.{entry_count}
use Rattle.entries.specs.Entry.{is_kind}
use Rattle.entries.specs.declared.EntryKind.{EntryKind}
use Rattle.lent.specs.LentDeal.{lent_deal, deal_rules}
use Rattle.index.specs.Slots.{slot_at}
use Rattle.index.specs.declared.Tallied as T

-- a code, and the three counts
pub record Tallied : Type 0 where
  pub code : ℕ
  pub blank : ℕ
  pub damaged : ℕ
  pub valid : ℕ

-- the number of slots of a kind
unfoldable pub count_of : EntryKind → List ℕ → ℕ
count_of kind deal = count (λ i. is_kind kind (slot_at deal i)) 0 (entry_count (length deal))

-- zeros beside a refusal's code
abbrev pub refused : ℕ → Tallied
refused code = record { code = code; blank = 0; damaged = 0; valid = 0 }

abbrev pub counts_of : List ℕ → Tallied
counts_of deal =
    record {
      code = 0;
      blank = count_of EntryKind.Blank deal;
      damaged = count_of EntryKind.Damaged deal;
      valid = count_of EntryKind.Valid deal;
    }

-- the answer that a result stands for
abbrev pub tallied_as : Result T.Tallied Refusal → Tallied
tallied_as =
    answered
    (λ counts. record { code = 0; blank = counts.blank; damaged = counts.damaged; valid = counts.valid })
    refused

-- 2, 11, then the three counts
unfoldable pub tally_answer : List ℕ → Tallied
tally_answer deal = unless_refused (first_refusal (deal_rules (lent_deal deal))) refused (counts_of deal)
