use Rattle.std.proofs.Common.{◌≡◌, ap, ◌∙◌, ℕ, length, replicate, arith, rules}
use Rattle.std.proofs.lemmas.List.{length-replicate}
use Rattle.sizes.specs.Sizes.{entry_count}
use Rattle.collect.specs.Collect.{offset_to, area_to, entry_place_to, entry_to, areas_moved, collected_deal}
use Rattle.collect.specs.Writes.{write_all}
use Rattle.collect.proofs.Turns.{write_none, write_next}
use Rattle.collect.proofs.moving.Source.write_deal.Goals as goal

pub loop-j-init : goal.loop-j-init
loop-j-init c =
    let d = c.args.self.now.deal.now in
    let zeros : c.fill.new.self ≡ replicate (length d) 0 =
    c.fill.ensures.after (search rules) ∙ ap (λ (n : ℕ). replicate n 0) c.requires in
    rw zeros (length-replicate (length d) 0, write_none (offset_to d) (area_to d) (replicate (length d) 0))

pub loop-j-preserved : goal.loop-j-preserved
loop-j-preserved c =
    let d = c.args.self.now.deal.now in (
      omega (arith, c.loop-j.invariant.0),
      write_next (offset_to d) (area_to d) (replicate (length d) 0) c.loop-j.new c.write_area.new.new c.loop-j.j
          c.loop-j.invariant.1 c.write_area.ensures,
    )

pub loop-k-init : goal.loop-k-init
loop-k-init c =
    let d = c.args.self.now.deal.now in
    (c.loop-j.invariant.0, write_none (entry_place_to d) (entry_to d) c.loop-j.new)

pub loop-k-preserved : goal.loop-k-preserved
loop-k-preserved c =
    let d = c.args.self.now.deal.now in (
      omega (arith, c.loop-k.invariant.0),
      write_next (entry_place_to d) (entry_to d) c.loop-j.new c.loop-k.new c.write_entry.new.new c.loop-k.k
          c.loop-k.invariant.1 c.write_entry.ensures,
    )

pub returns : goal.returns
unfolding collected_deal areas_moved
returns c =
    let d = c.args.self.now.deal.now in
    let slots : ℕ = entry_count (length d) in
    let all : c.loop-j.j ≡ slots = omega (arith, c.args.self.now.ready.slots_are) in
    let both : c.loop-k.k ≡ slots = omega (arith, c.args.self.now.ready.slots_are) in
    let areas = c.loop-j.invariant.1 ∙ ap (λ (n : ℕ). write_all (offset_to d) (area_to d) n (replicate (length d) 0)) all in
    c.loop-k.invariant.1
    ∙ ap (λ (n : ℕ). write_all (entry_place_to d) (entry_to d) n c.loop-j.new) both
    ∙ ap (write_all (entry_place_to d) (entry_to d) slots) areas
