use Rattle.std.specs.Prelude.{◌+◌}
use Rattle.std.proofs.Common.{ap, arith}
use borrow.Author.Rules.{rules}
use Rattle.rules.specs.Answers.{number}
use Rattle.lent.specs.LentDeal.{lent_deal}
use Rattle.index.specs.Find.{FoundSegment, refused}
use Rattle.index.proofs.View.{answer_within, view_is, view_size}
use Rattle.index.proofs.finding.find.Goals as goal

pub returns-in_default-clause-view : goal.returns-in_default-clause-view
returns-in_default-clause-view c =
    view_is (lent_deal c.args.deal.now) c.args.commitment.now (refused (number c.in_default.field-0))
    c.in_default.ensures

pub overflow_add-end : goal.overflow_add-end
overflow_add-end c =
    let within = answer_within (lent_deal c.args.deal.now) c.args.commitment.now _ c.in-Ok.ensures in
    omega arith

pub slice_bounds-result-end-2 : goal.slice_bounds-result-end-2
slice_bounds-result-end-2 c =
    let within = answer_within (lent_deal c.args.deal.now) c.args.commitment.now _ c.in-Ok.ensures in
    omega arith

pub returns : goal.returns
returns c =
    let deal = lent_deal c.args.deal.now in
    let commitment = c.args.commitment.now in
    record {
      view = view_is deal commitment _ c.in-Ok.ensures;
      same_region = search rules;
      at_offset = ap (λ (x : FoundSegment). x.offset + c.args.deal.ref_ptr.1) c.in-Ok.ensures;
      size = view_size deal commitment _ c.in-Ok.ensures;
    }
