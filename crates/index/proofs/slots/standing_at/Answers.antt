use mathlib.Core.Path.{◌≡◌, sym, ap, ◌∙◌}
use mathlib.Core.Bool.{Bool}
use mathlib.Core.List.{List}
use Prim.Native.Nat.{ℕ, ◌+◌, ◌-◌}
use borrow.Author.Rules.{rules}
use lib.ListN.{length, take, drop}
use Rattle.octets.specs.SpliceLaws.{part_range}
use Rattle.sizes.specs.SizesLaws.{lent_size}
use Rattle.index.specs.Slots.{entry_at, row_of, Row}
use Rattle.index.proofs.ValidKind.{is_valid, not_valid}
use Rattle.index.proofs.SlotAnswers.{row_not_valid, row_size_refused, row_offset_refused, row_stands}
use Rattle.index.proofs.slots.standing_at.Goals as goal

-- the entry as it is lent
abbrev lent : List ℕ → ℕ → List ℕ
lent deal place = take (place + 64 - place) (drop place deal)

-- which are the 64 bytes at the place
at_place : (deal : List ℕ) (place : ℕ) {row : Row} → row ≡ row_of (length deal) (lent deal place)
    → row ≡ row_of (length deal) (entry_at deal place)
at_place deal place e = e ∙ ap (row_of (length deal)) (part_range deal place 64)

-- what an answered test says of its value
told : {r t u : Bool} → r ≡ t → r ≡ u → t ≡ u
told e f = sym e ∙ f

pub returns-in_default : goal.returns-in_default
returns-in_default c =
    let deal = c.args.deal.now in
    let entry = lent deal c.args.place in
    let other = not_valid entry c.kind_of.result c.kind_of.ensures (search rules) in
    at_place deal c.args.place (row_not_valid (length deal) entry other)

pub returns-then-not-segment_size_allowed : goal.returns-then-not-segment_size_allowed
returns-then-not-segment_size_allowed c =
    let deal = c.args.deal.now in
    let entry = lent deal c.args.place in
    let valid = is_valid entry c.kind_of.result c.kind_of.ensures (cc) in
    at_place deal c.args.place
    (row_size_refused (length deal) entry valid c.fields_of-fields.ensures.size
    (told c.segment_size_allowed.ensures c.if-not-segment_size_allowed.true))

pub offset_allowed-requires : goal.offset_allowed-requires
offset_allowed-requires c = (
  (lent_size (length c.args.deal.now) c.requires.0).allowed,
  told c.segment_size_allowed.ensures c.if-not-segment_size_allowed.false,
)

pub returns-then-not-offset_allowed : goal.returns-then-not-offset_allowed
returns-then-not-offset_allowed c =
    let deal = c.args.deal.now in
    let entry = lent deal c.args.place in
    let valid = is_valid entry c.kind_of.result c.kind_of.ensures (cc) in
    at_place deal c.args.place
    (row_offset_refused (length deal) entry valid c.fields_of-fields.ensures.size
    (told c.segment_size_allowed.ensures c.if-not-segment_size_allowed.false) c.fields_of-fields.ensures.offset
    (told c.offset_allowed.ensures c.if-not-offset_allowed.true))

pub returns : goal.returns
returns c =
    let deal = c.args.deal.now in
    let entry = lent deal c.args.place in
    let valid = is_valid entry c.kind_of.result c.kind_of.ensures (cc) in
    at_place deal c.args.place
    (row_stands (length deal) entry valid c.fields_of-fields.ensures.size
    (told c.segment_size_allowed.ensures c.if-not-segment_size_allowed.false) c.fields_of-fields.ensures.offset
    (told c.offset_allowed.ensures c.if-not-offset_allowed.false) c.fields_of-fields.ensures.commitment)
