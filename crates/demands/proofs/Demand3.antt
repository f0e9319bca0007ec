-- Demand 3: whoever made the records and whatever bytes they hold, for one deal number, commitment and size, and
-- building takes that same number (document 02, request (ix)). It speaks of the commitment a record is checked against:
-- an old record belongs to the old commitment, whatever was booked, cancelled or collected since (request (viii)). The
-- number is no part of any string: accepted records name the number that they are checked against, and it has 8 bytes
-- there, so the theorems ask nothing of it.
use Rattle.std.specs.Prelude.{◌≡◌, true, ℕ, List, length}
use Rattle.std.proofs.Common.{ap, ◌∙◌}
use Rattle.octets.specs.Bytes.{Bytes}
use Rattle.merkle.specs.Tree.{commitment_of}
use Rattle.merkle.specs.TreeLaws.{top_node}
use Rattle.stray.specs.StrayBits.{no_stray_bits}
use Rattle.sizes.specs.Sizes.{lent_size_allowed, deal_level}
use Rattle.sizes.specs.SizesLaws.{lent_size}
use Rattle.record.specs.Form.{parse}
use Rattle.record.specs.Check.{deal_terms, check_of}
use Rattle.lent.specs.LentDeal.{lent_deal}
use Rattle.builder.specs.Build.{record_at, built}
use Rattle.settle.specs.Settle.{place_in, settle_records, settle_with_deal}
use Rattle.settle.specs.Settle.{Settled}
use Rattle.demands.specs.Settles.{Settles}
use Rattle.demands.specs.BuildsExactly.{BuildsExactly}
use Rattle.demands.proofs.BuildsExactlyLaws.{builds_exactly, exactly_builds}
use Rattle.demands.proofs.TwoRecords.{two_records}
use Rattle.demands.proofs.WithDeal.{with_deal}

-- Demand 3, two records. For one deal number, commitment and size, two accepted records naming the same entry place
-- settle to 0 exactly when they are the same bytes; otherwise to 17, and the two strings of the answer are different,
-- 64 bytes long and have one node hash.
pub records_settle : (commitment : List ℕ) (size number : ℕ) (r s : List ℕ) → Bytes r → Bytes s
    → check_of (deal_terms commitment size number) r ≡ 0 → check_of (deal_terms commitment size number) s ≡ 0
    → place_in (parse r) ≡ place_in (parse s)
    → Settles (r ≡ s) (settle_records (deal_terms commitment size number) r s)
records_settle commitment size number r s br bs cr cs at =
    two_records (deal_terms commitment size number) r s br bs cr cs at

-- a statement that holds exactly where another does is settled by the same answer
pub same_statement : (P Q : Type 0) (a : Settled) → (P → Q) → (Q → P) → Settles P a → Settles Q a
same_statement P Q a f g s =
    record {
      code_is = s.code_is;
      zero_if = λ q. s.zero_if (g q);
      if_zero = λ e. f (s.if_zero e);
      else_pair = λ n. s.else_pair (λ p. n (f p));
    }

-- Demand 3, a record with a deal in hand that gets neither 2 nor 11. A record accepted against a deal number and the
-- deal's commitment and size settles to 0 exactly when building with that same number at its entry place, given enough
-- output, answers 0 and writes exactly that record; otherwise to 17 and such a pair.
pub record_settles_with_deal : (deal : List ℕ) (number : ℕ) (r : List ℕ) → Bytes deal → Bytes r
    → lent_size_allowed (length deal) ≡ true → no_stray_bits deal ≡ true
    → check_of (deal_terms (commitment_of (deal_level (length deal)) deal) (length deal) number) r ≡ 0
    → Settles (BuildsExactly (lent_deal deal) number (place_in (parse r)) r)
    (settle_with_deal (lent_deal deal) number r)
record_settles_with_deal deal number r bd br l c k =
    let own = lent_deal deal in
    let place = place_in (parse r) in
    let top = top_node deal (deal_level (length deal)) (lent_size (length deal) l).deal.is_power_lem in
    same_statement (record_at own number place ≡ built r) (BuildsExactly own number place r)
    (settle_with_deal own number r) (builds_exactly own number place r) (exactly_builds own number place r)
    (with_deal deal number r bd l c br (ap (λ (z : List ℕ). check_of (deal_terms z (length deal) number) r) top ∙ k))
