use Rattle.std.proofs.Common.{◌≡◌, sym, length, arith}
use Rattle.room.specs.RoomLaws.{first_length}
use Rattle.houses.specs.HousesLaws.{sized_length}
use Rattle.collect.proofs.Gathered.{among}
use Rattle.collect.proofs.Outcome.{ready}
use Rattle.collect.proofs.write_new.Goals as goal

pub slice_bounds-ranges-end : goal.slice_bounds-ranges-end
slice_bounds-ranges-end c =
    let deal = c.args.deal.now in
    let table = c.args.table.now in
    let full : length c.gather-ranges.result ≡ 128 = omega arith in
    among deal c.gather-ranges.result (length table) c.requires.collectable.lent c.gather-ranges.ensures
    (sized_length (length deal) table c.requires.table_sized_lem) full

pub slice_bounds-source-end : goal.slice_bounds-source-end
slice_bounds-source-end c =
    let deal = c.args.deal.now in
    let table = c.args.table.now in
    let full : length c.gather-ranges.result ≡ 128 = omega arith in
    sym (first_length (length table) c.gather-ranges.result
    (among deal c.gather-ranges.result (length table) c.requires.collectable.lent c.gather-ranges.ensures
    (sized_length (length deal) table c.requires.table_sized_lem) full))

pub invariant_of-source : goal.invariant_of-source
invariant_of-source c =
    let full : length c.gather-ranges.result ≡ 128 = omega arith in
    record { ready = ready c.requires c.gather-ranges.result c.gather-ranges.ensures full }
