use Rattle.std.proofs.Common.{◌≡◌, sym, ap, ◌∙◌, ℕ, length, arith}
use Rattle.sizes.specs.Sizes.{entry_count}
use Rattle.audit.proofs.Written.{written_to, state_written, all_written}
use Rattle.audit.proofs.write_states.Goals as goal

pub loop-i-preserved : goal.loop-i-preserved
loop-i-preserved c =
    let deal = c.args.deal.now.bytes.now in
    state_written deal c.args.states.now (entry_count (length deal)) c.requires.slots_in_bounds c.loop-i.states
    c.loop-i.i c.code.result (omega (arith, c.entry_count-slots.ensures)) c.loop-i.invariant
    (c.code.ensures ∙ c.slot_state.ensures)

pub returns : goal.returns
returns c =
    let deal = c.args.deal.now.bytes.now in
    let all : c.loop-i.i ≡ entry_count (length deal) = omega (arith, c.entry_count-slots.ensures) in
    c.loop-i.invariant
    ∙ ap (written_to deal c.args.states.now (entry_count (length deal))) all
    ∙ all_written deal c.args.states.now (entry_count (length deal))
