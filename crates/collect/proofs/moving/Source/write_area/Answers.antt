use Rattle.std.proofs.Common.{ap₂, ◌∙◌, arith}
use Rattle.octets.specs.Splice.{splice}
use Rattle.collect.proofs.Gathered.{
  few_slots,
  deal_high,
  ends,
  offset_is,
  range_in,
  area_in,
  taken_is,
  taken_length,
}
use Rattle.collect.proofs.moving.Source.write_area.Goals as goal

pub move_of-to-requires : goal.move_of-to-requires
move_of-to-requires c = (few_slots c.args.self.now.ready, c.requires.0, ends c.args.self.now.ready)

pub overflow_add-end : goal.overflow_add-end
overflow_add-end c =
    omega (arith, range_in c.args.self.now.ready c.args.j c.requires.0, deal_high c.args.self.now.ready)

pub slice_bounds-put-end : goal.slice_bounds-put-end
slice_bounds-put-end c = omega (arith, range_in c.args.self.now.ready c.args.j c.requires.0)

pub put-requires : goal.put-requires
put-requires c =
    let r = c.args.self.now.ready in
    let j = c.args.j in
    let h = c.requires.0 in
    omega (
      arith,
      c.move_of-to.ensures.offset_value,
      offset_is r j h,
      area_in r j h,
      taken_length r j h,
      c.requires.1,
    )

pub returns : goal.returns
returns c =
    let r = c.args.self.now.ready in
    c.put.ensures
    ∙ ap₂ (splice c.args.new.now) (c.move_of-to.ensures.offset_value ∙ offset_is r c.args.j c.requires.0)
    (taken_is r c.args.j c.requires.0)
