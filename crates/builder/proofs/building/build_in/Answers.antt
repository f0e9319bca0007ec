-- Each test that is passed, and what it says of the deal, the place and the entry there.
use mathlib.Core.Path.{◌≡◌, refl, sym, ◌∙◌}
use mathlib.Core.Bool.{Bool, true}
use mathlib.Core.List.{List}
use Prim.Native.Nat.{ℕ}
use native.Mathlib.Omega.{arith}
use Rattle.sizes.specs.Sizes.{place_allowed}
use Rattle.sizes.specs.SizesLaws.{entry_place}
use Rattle.index.specs.Slots.{Row}
use Rattle.lent.specs.LentDeal.{deal_size, deal_refusal}
use Rattle.lent.specs.Seen.{seen}
use Rattle.lent.specs.UsableLaws.{usable_size, nodes_sized}
use Rattle.lent.specs.declared.Lent.{Lent}
use Rattle.builder.proofs.Answers.{Asked, Passed, KeptHere, entry_read, kept_here, place_refused, entry_refused, output_short, record_answered}
use Rattle.builder.proofs.building.build_in.Goals as goal

module _ (deal : Lent) (number place : ℕ) (out : List ℕ) where
  -- what is asked
  abbrev asked : Asked
  asked = record { deal = seen deal; number = number; place = place; out = out }

  -- the tests that are passed before the index entry is read
  module _ {allowed : Bool} (none : deal_refusal asked.deal ≡ 0)
      (e : allowed ≡ place_allowed (deal_size asked.deal) place) (yes : allowed ≡ true) where
    passed : Passed asked
    passed = record { none = none; allowed = sym e ∙ yes }

    -- the index entry is kept
    kept : {entry : Row} → entry ≡ entry_read asked → entry.stands ≡ true → KeptHere asked entry
    kept {entry} f t = kept_here asked entry (nodes_sized _ _ deal.usable) passed f t

pub place_allowed-requires : goal.place_allowed-requires
place_allowed-requires c = (usable_size c.args.deal.now.usable).allowed

pub returns-then-not-place_allowed : goal.returns-then-not-place_allowed
returns-then-not-place_allowed c =
    let a = c.args in
    place_refused (asked a.deal.now a.number a.place a.out.now) refl c.requires
    (sym c.place_allowed.ensures ∙ c.if-not-place_allowed.true)

pub kept_at-requires : goal.kept_at-requires
kept_at-requires c =
    let a = c.args in
    (entry_place _ a.place (usable_size a.deal.now.usable).deal
    (sym c.place_allowed.ensures ∙ c.if-not-place_allowed.false)).in_deal

pub returns-in_default : goal.returns-in_default
returns-in_default c =
    let a = c.args in
    entry_refused (asked a.deal.now a.number a.place a.out.now) refl
    (passed a.deal.now a.number a.place a.out.now c.requires c.place_allowed.ensures c.if-not-place_allowed.false)
    c.in_default.ensures refl

pub record_length-length-requires : goal.record_length-length-requires
record_length-length-requires c =
    let a = c.args in
    let k = kept a.deal.now a.number a.place a.out.now c.requires c.place_allowed.ensures
    c.if-not-place_allowed.false c.in-Some.ensures refl in
    (k.within.lent_is, k.within.size_is)

pub returns-then-out-length : goal.returns-then-out-length
returns-then-out-length c =
    let a = c.args in
    let k = kept a.deal.now a.number a.place a.out.now c.requires c.place_allowed.ensures
    c.if-not-place_allowed.false c.in-Some.ensures refl in
    output_short _ refl k (omega (arith, c.record_length-length.ensures, c.if-out-length.true))

pub write_record-requires : goal.write_record-requires
write_record-requires c =
    let a = c.args in
    let k = kept a.deal.now a.number a.place a.out.now c.requires c.place_allowed.ensures
    c.if-not-place_allowed.false c.in-Some.ensures refl in
    record {
      in_deal = k.within;
      commitment_value = k.node_is;
      size_in_bounds = omega (arith, c.record_length-length.ensures, c.if-out-length.false);
    }

pub returns : goal.returns
returns c =
    let a = c.args in
    let k = kept a.deal.now a.number a.place a.out.now c.requires c.place_allowed.ensures
    c.if-not-place_allowed.false c.in-Some.ensures refl in
    record_answered _ (rw c.record_length-length.ensures) k
    (omega (arith, c.record_length-length.ensures, c.if-out-length.false)) c.write_record.ensures
