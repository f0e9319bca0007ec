-- The numbers of the index for a deal size (document 01, "Codes and their order": index numbers for D).
use Rattle.std.specs.Prelude.{ℕ, [], ◌∷◌}
use Rattle.rules.specs.Refusals.{rule, first_refusal, unless_refused}
use Rattle.sizes.specs.Sizes.{deal_size_allowed, entry_count, index_start}
use Rattle.std.specs.Prelude.{Result}
use Rattle.rules.specs.declared.Refusal.{Refusal}
use Rattle.rules.specs.Answers.{answered}
use Rattle.sizes.specs.declared.IndexNumbers.{IndexNumbers as Found}

-- a code, and the two numbers beside it
pub record IndexNumbers : Type 0 where
  pub code : ℕ
  pub entries : ℕ
  pub start : ℕ

abbrev pub numbers_refused : ℕ → IndexNumbers
numbers_refused code = record { code = code; entries = 0; start = 0 }

-- the number of entries and the index start, or 2 and zeros for a size that is not allowed
unfoldable pub index_numbers : ℕ → IndexNumbers
index_numbers d =
    unless_refused (first_refusal (rule (deal_size_allowed d) 2 ∷ [])) numbers_refused
    (record { code = 0; entries = entry_count d; start = index_start d })

-- the answer that a result stands for
abbrev pub numbers_found : Found → IndexNumbers
numbers_found n = record { code = 0; entries = n.entries; start = n.start }

abbrev pub numbers_answer : Result Found Refusal → IndexNumbers
numbers_answer = answered numbers_found numbers_refused
