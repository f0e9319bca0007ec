use Rattle.std.proofs.Common.{ap, ap₂, ◌∙◌, ℕ, length, arith}
use Rattle.octets.specs.Splice.{splice}
use Rattle.sizes.specs.Sizes.{slot_place}
use Rattle.entries.specs.Entry.{entry_of}
use Rattle.index.specs.KeptRowsLaws.{slot_within}
use Rattle.collect.specs.Collect.{slot_to, offset_to, entry_place_to}
use Rattle.collect.proofs.MovesLaws.{sized, slot_in}
use Rattle.collect.proofs.Gathered.{deal_allowed, few_slots, ends, collectable, inside, offset_is, slot_is}
use Rattle.collect.proofs.Entries.{nothing_written, slot_stands, entry_is}
use Rattle.collect.proofs.moving.Source.write_entry.Goals as goal

pub slot_place-place-requires : goal.slot_place-place-requires
slot_place-place-requires c = (deal_allowed c.args.self.now.ready, inside c.args.self.now.ready c.args.j c.requires.0)

pub standing_at-requires : goal.standing_at-requires
standing_at-requires c =
    let r = c.args.self.now.ready in
    let j = c.args.j in
    let within = slot_within (length c.args.self.now.deal.now) j (sized (collectable r)) (inside r j c.requires.0) in
    (r.lent, omega (arith, c.slot_place-place.ensures))

-- a free slot
pub returns-in_default : goal.returns-in_default
returns-in_default c =
    let deal = c.args.self.now.deal.now in
    nothing_written deal c.args.j c.slot_place-place.result c.standing_at.result c.slot_place-place.ensures
    c.standing_at.ensures c.in_default.is c.args.new.now (entry_place_to deal c.args.j)
    (offset_to deal c.args.j)

-- a standing entry, and where it goes
pub move_of-to-requires : goal.move_of-to-requires
move_of-to-requires c = (few_slots c.args.self.now.ready, c.requires.0, ends c.args.self.now.ready)

pub slot_place-at-requires : goal.slot_place-at-requires
slot_place-at-requires c =
    let r = c.args.self.now.ready in
    let j = c.args.j in
    let stands = slot_stands c.args.self.now.deal.now j c.slot_place-place.result c.standing_at.result
    c.slot_place-place.ensures c.standing_at.ensures c.in-Some.row c.in-Some.is in
    let new_slot = slot_in (collectable r) j (inside r j c.requires.0) stands in
    (deal_allowed r, omega (arith, c.move_of-to.ensures.slot_value, slot_is r j c.requires.0))

-- the place of the new entry
pub put_array-requires : goal.put_array-requires
put_array-requires c =
    let r = c.args.self.now.ready in
    let j = c.args.j in
    let deal = c.args.self.now.deal.now in
    let stands = slot_stands deal j c.slot_place-place.result c.standing_at.result c.slot_place-place.ensures
    c.standing_at.ensures c.in-Some.row c.in-Some.is in
    let new_slot = slot_in (collectable r) j (inside r j c.requires.0) stands in
    let within = slot_within (length deal) (slot_to deal j) (sized (collectable r)) new_slot in
    let place_is = c.slot_place-at.ensures
    ∙ ap (slot_place (length deal)) (c.move_of-to.ensures.slot_value ∙ slot_is r j c.requires.0) in
    omega (arith, c.requires.1)

pub returns : goal.returns
returns c =
    let r = c.args.self.now.ready in
    let j = c.args.j in
    let deal = c.args.self.now.deal.now in
    let row = c.in-Some.row in
    let place_is = c.slot_place-at.ensures
    ∙ ap (slot_place (length deal)) (c.move_of-to.ensures.slot_value ∙ slot_is r j c.requires.0) in
    let o = c.move_of-to.ensures.offset_value ∙ offset_is r j c.requires.0 in
    c.put_array.ensures.0
    ∙ ap₂ (splice c.args.new.now) place_is
    (c.entry_of-entry.ensures
    ∙ ap (λ (x : ℕ). entry_of row.commitment x row.size) o
    ∙ entry_is deal j c.slot_place-place.result c.standing_at.result c.slot_place-place.ensures c.standing_at.ensures c.in-Some.row c.in-Some.is (offset_to deal j))
