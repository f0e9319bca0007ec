use Rattle.std.specs.Prelude.{◌≡◌, length, take}
use Rattle.std.proofs.Common.{rules, arith}
use Rattle.room.specs.Room.{ranges_in}
use Rattle.room.specs.Decide.{decision_of}
use Rattle.houses.specs.HousesLaws.{held_most}
use Rattle.playback.specs.Steps.{Fits}
use Rattle.playback.proofs.DecidedLine.{area_fits, ranges_sized, ranges_end, slots_few, slots_taken, decided}
use Rattle.playback.proofs.ledger.Ledger.decide.Goals as goal

pub shared_ref_as_front-held_count : goal.shared_ref_as_front-held_count
shared_ref_as_front-held_count c =
    let l = c.args.self.now in
    let f : Fits l.size l.rows = record { size_allowed = l.size_allowed; ends = l.ends } in
    let z : length l.rows ≡ 128 = search rules in
    omega (
      arith,
      slots_few l.size l.rows f z c.args.ranges.now c.requires.of_rows c.slots.result c.slots.ensures,
      ranges_sized l.size l.rows f z c.args.ranges.now c.requires.of_rows,
    )

pub slice_bounds-held_count-end : goal.slice_bounds-held_count-end
slice_bounds-held_count-end c =
    let l = c.args.self.now in
    let f : Fits l.size l.rows = record { size_allowed = l.size_allowed; ends = l.ends } in
    let z : length l.rows ≡ 128 = search rules in
    slots_taken l.size l.rows f z c.args.ranges.now c.requires.of_rows c.slots.result c.slots.ensures

pub decide-requires-clause-area_nonzero : goal.decide-requires-clause-area_nonzero
decide-requires-clause-area_nonzero c =
    let l = c.args.self.now in
    let f : Fits l.size l.rows = record { size_allowed = l.size_allowed; ends = l.ends } in
    let z : length l.rows ≡ 128 = search rules in
    let taken = area_fits l.size c.args.line.now.size l.rows f c.requires.size_allowed in (
      omega (arith, taken.0, c.area.ensures),
      omega (arith, taken.1, c.area.ensures),
      omega (
        arith,
        c.held_count-held.ensures,
        held_most (ranges_in (take c.slots.result c.args.ranges.now)) c.owners.result c.args.line.now.house
            (length (take c.slots.result c.args.ranges.now)),
        slots_taken l.size l.rows f z c.args.ranges.now c.requires.of_rows c.slots.result c.slots.ensures,
        c.slots.ensures,
      ),
    )

pub decide-requires-clause-end_by : goal.decide-requires-clause-end_by
decide-requires-clause-end_by c =
    let l = c.args.self.now in
    let f : Fits l.size l.rows = record { size_allowed = l.size_allowed; ends = l.ends } in
    let z : length l.rows ≡ 128 = search rules in
    ranges_end l.size l.rows f z c.args.ranges.now c.requires.of_rows

pub returns : goal.returns
returns c =
    let l = c.args.self.now in
    let f : Fits l.size l.rows = record { size_allowed = l.size_allowed; ends = l.ends } in
    let z : length l.rows ≡ 128 = search rules in
    decided l.size l.rows f z c.args.ranges.now c.requires.of_rows c.slots.result c.slots.ensures
    c.args.line.now c.owners.result c.held_count-held.result c.area.result c.keeping.result c.owners.ensures
    c.held_count-held.ensures c.keeping.ensures c.area.ensures (decision_of c.decide.result) c.decide.ensures
