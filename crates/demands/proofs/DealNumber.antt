-- Request (ix), what the deal's number in a record is for (document 02: "Clerks sent the right record for the wrong
-- deal. .. Check refuses with 21, after 3, when it differs from the caller's. .. a record without tag 7 gets 3"). In
-- demands 2 and 3: Demand2, Demand3.
use Rattle.std.specs.Prelude.{◌≡◌, true, ◌≢◌, ℕ, ◌^◌, ◌<◌, List, length, take}
use Rattle.std.proofs.Common.{sym, ◌∙◌, eq-eqb}
use Rattle.octets.specs.Bytes.{Bytes}
use Rattle.octets.specs.Splice.{part}
use Rattle.sizes.specs.Sizes.{deal_size_allowed}
use Rattle.fields.specs.Table.{contents, read_contents}
use Rattle.record.specs.Form.{layout, table_row, parse}
use Rattle.record.specs.FieldsOf.{fields_of}
use Rattle.record.specs.FieldsOfLaws.{accepted_parses, accepted_fields}
use Rattle.record.specs.Check.{DealTerms, deal_terms, check_of}
use Rattle.record.specs.CheckLaws.{check_terms}
use Rattle.lent.specs.LentDeal.{lent_deal}
use Rattle.builder.specs.Build.{build_answer, build_output}
use Rattle.demands.proofs.TableLaws.{answers_21}
use Rattle.demands.proofs.Demand2.{built_is_accepted}
use Rattle.demands.proofs.DealNumberLaws.{longer_table}

-- what a check is made against gets neither 1 nor 2
abbrev pub Allowed : DealTerms → Type 0
Allowed terms = (length terms.commitment ≡ 32) × (deal_size_allowed terms.size ≡ true)

-- An accepted record names the number that it was checked against. So two accepted records of one check name one
-- number, though it stands in no string that settling compares.
pub names_the_number : (terms : DealTerms) (r : List ℕ) → check_of terms r ≡ 0 → (fields_of r).number ≡ terms.number
names_the_number terms r e = (accepted_fields r terms e).number_same

pub one_number : (terms : DealTerms) (r s : List ℕ) → check_of terms r ≡ 0 → check_of terms s ≡ 0
    → (fields_of r).number ≡ (fields_of s).number
one_number terms r s cr cs = names_the_number terms r cr ∙ sym (names_the_number terms s cs)

-- The right record for the wrong deal: a record that is accepted for a deal gets 21 for every deal of another number,
-- whatever commitment and size that one has, ..
pub wrong_deal : (terms other : DealTerms) (r : List ℕ) → check_of terms r ≡ 0 → Allowed other
    → terms.number ≢ other.number → check_of other r ≡ 21
wrong_deal terms other r e allowed n =
    answers_21 other.size allowed.1 other.commitment other.number r (fields_of r) allowed.0
    (accepted_parses r terms e) (λ same. n (sym (names_the_number terms r e) ∙ same))

-- .. the same commitment and size among them.
pub wrong_number : (commitment : List ℕ) (size number other : ℕ) (r : List ℕ)
    → check_of (deal_terms commitment size number) r ≡ 0 → number ≢ other
    → check_of (deal_terms commitment size other) r ≡ 21
wrong_number commitment size number other r e =
    let terms = deal_terms commitment size number in
    wrong_deal terms (deal_terms commitment size other) r e (check_terms terms r e)

-- So does every record that is built: with one number, and checked for a deal of another.
pub built_for_another_deal : (deal : List ℕ) → Bytes deal → (number place : ℕ) → number < 2 ^ 64 → (out : List ℕ)
    → let answer = build_answer (lent_deal deal) number place out in
    answer.code ≡ 0 → (other : DealTerms) → Allowed other → number ≢ other.number
    → check_of other (part (build_output (lent_deal deal) number place out) 0 answer.length) ≡ 21
built_for_another_deal deal b number place bound out e other =
    let answer = build_answer (lent_deal deal) number place out in
    wrong_deal (deal_terms _ (length deal) number) other
    (part (build_output (lent_deal deal) number place out) 0 answer.length)
    (built_is_accepted deal b number place bound out e)

-- A record without tag 7, in form by the first six rows of the table, gets 3: every record of document 01.
pub without_the_number : (terms : DealTerms) (r : List ℕ) (cs : List (List ℕ)) → Allowed terms
    → read_contents (take 6 layout) r ≡ contents cs → check_of terms r ≡ 3
unfolding check_of parse
without_the_number terms r cs allowed e =
    let malformed = longer_table (take 6 layout) (table_row 6) r cs e in
    rw (eq-eqb (length terms.commitment) 32 allowed.0, allowed.1, malformed)
