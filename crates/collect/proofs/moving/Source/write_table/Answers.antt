use Rattle.std.proofs.Common.{◌≡◌, refl, ap, ◌∙◌, ℕ, length, replicate, eqb, arith, rules}
use Rattle.std.proofs.lemmas.List.{length-replicate}
use Rattle.sizes.specs.Sizes.{entry_count}
use Rattle.houses.specs.HousesLaws.{sized_length, length_sized}
use Rattle.collect.specs.Collect.{slot_to, owner_to, collected_table}
use Rattle.collect.specs.Writes.{write_all}
use Rattle.collect.proofs.Turns.{write_none, write_next}
use Rattle.collect.proofs.moving.Source.write_table.Goals as goal

pub loop-j-init : goal.loop-j-init
loop-j-init c =
    let d = c.args.self.now.deal.now in
    let slots : ℕ = entry_count (length d) in
    let long : length c.args.new.now ≡ slots = sized_length (length d) c.args.new.now c.requires.table_value.1 in
    let zeros : c.fill.new.self ≡ replicate slots 0 =
    c.fill.ensures.after (search rules) ∙ ap (λ (n : ℕ). replicate n 0) long in
    rw zeros (length-replicate slots 0, write_none (slot_to d) (owner_to d c.args.table.now) (replicate slots 0))

pub write_owner-requires : goal.write_owner-requires
write_owner-requires c =
    let d = c.args.self.now.deal.now in
    record {
      slot = c.loop-j-test.true;
      table_value = (c.requires.table_value.0, length_sized (length d) c.loop-j.new c.loop-j.invariant.0);
    }

pub loop-j-preserved : goal.loop-j-preserved
loop-j-preserved c =
    let d = c.args.self.now.deal.now in (
      omega (arith, c.loop-j.invariant.0),
      write_next (slot_to d) (owner_to d c.args.table.now) (replicate (entry_count (length d)) 0) c.loop-j.new
          c.write_owner.new.new c.loop-j.j c.loop-j.invariant.1 c.write_owner.ensures,
    )

pub returns : goal.returns
unfolding collected_table
returns c =
    let d = c.args.self.now.deal.now in
    let all : c.loop-j.j ≡ entry_count (length d) = omega (arith, c.args.self.now.ready.slots_are) in
    c.loop-j.invariant.1
    ∙ ap (λ (n : ℕ). write_all (slot_to d) (owner_to d c.args.table.now) n (replicate (entry_count (length d)) 0)) all
