use Rattle.std.proofs.Common.{sym, ap₂, ◌∙◌, ◌<◌, length, arith}
use Rattle.octets.specs.Splice.{splice}
use Rattle.houses.specs.Houses.{owner_at}
use Rattle.houses.specs.HousesLaws.{sized_length}
use Rattle.collect.proofs.MovesLaws.{slot_in}
use Rattle.collect.proofs.OwnersLaws.{owner_brought}
use Rattle.collect.proofs.Gathered.{few_slots, ends, collectable, inside, slot_is}
use Rattle.collect.proofs.Owners.{one_written, nothing_written, entry_stands}
use Rattle.collect.proofs.moving.Source.write_owner.Goals as goal

-- a free slot
pub returns-then-self-j-eq0 : goal.returns-then-self-j-eq0
returns-then-self-j-eq0 c =
    nothing_written c.args.self.now.ready c.args.j c.requires.slot c.if-self-j-eq0.true c.args.table.now
    c.args.new.now

-- a standing entry's byte, and where it goes
pub move_of-to-requires : goal.move_of-to-requires
move_of-to-requires c = (few_slots c.args.self.now.ready, c.requires.slot, ends c.args.self.now.ready)

pub bounds-new-at : goal.bounds-new-at
bounds-new-at c =
    let r = c.args.self.now.ready in
    let j = c.args.j in
    let h = c.requires.slot in
    let stands = entry_stands r j h c.if-self-j-eq0.false in
    omega (
      arith,
      c.move_of-to.ensures.slot_value,
      slot_is r j h,
      slot_in (collectable r) j (inside r j h) stands,
      sized_length (length c.args.self.now.deal.now) c.args.new.now c.requires.table_value.1,
    )

pub returns : goal.returns
returns c =
    let r = c.args.self.now.ready in
    let j = c.args.j in
    let h = c.requires.slot in
    let deal = c.args.self.now.deal.now in
    let table = c.args.table.now in
    let new = c.args.new.now in
    let stands = entry_stands r j h c.if-self-j-eq0.false in
    let place_is = c.move_of-to.ensures.slot_value ∙ slot_is r j h in
    let in_new : c.move_of-to.result.slot < length new = omega (
      arith,
      slot_in (collectable r) j (inside r j h) stands,
      sized_length (length deal) new c.requires.table_value.1,
    ) in
    one_written new c.move_of-to.result.slot (owner_at table j) in_new
    ∙ ap₂ (splice new) place_is (sym (owner_brought deal table j stands))
