-- `take_within_node`: the node is not whole, or it has stray bits, or it is added.
use mathlib.Core.Path.{◌≡◌, sym, ap, ◌∙◌}
use Prim.Native.Nat.{◌+◌}
use native.Mathlib.Omega.{arith}
use lib.ListN.{length}
use borrow.Author.Rules.{rules}
use Rattle.stream.specs.Stream.{failed_with}
use Rattle.stream.specs.StreamLaws.{running}
use Rattle.stream.proofs.NodeParts.{part_open, part_stray, part_whole_node, one_node}
use Rattle.stream.proofs.RunningLaws.{taken_from, taken_with}
use Rattle.stream.proofs.Stream.take_within_node.Goals as goal

pub returns-then-self-ne0-clause-state_after : goal.returns-then-self-ne0-clause-state_after
returns-then-self-ne0-clause-state_after c =
    let s = c.args.self.now in
    let bytes = c.args.bytes.now in
    let l : length s.partial ≡ 32 = search rules in
    taken_with s c.requires.no_code.0 bytes (s.count + length bytes) c.put.new.d s.waiting
    (part_open bytes s.count s.partial s.waiting c.requires.bytes_nonzero.0 l c.requires.bytes_nonzero.1
    c.requires.no_code.1 c.put.new.d c.put.ensures c.if-self-ne0.true)

pub returns-then-not-no_stray_bits-clause-state_after : goal.returns-then-not-no_stray_bits-clause-state_after
returns-then-not-no_stray_bits-clause-state_after c =
    let s = c.args.self.now in
    let bytes = c.args.bytes.now in
    let l : length s.partial ≡ 32 = search rules in
    let lp : length c.put.new.d ≡ 32 = search rules in
    taken_from s c.requires.no_code.0 bytes (failed_with 11)
    (part_stray bytes s.count s.partial s.waiting c.requires.bytes_nonzero.0 l c.requires.bytes_nonzero.1
    c.requires.no_code.1 c.put.new.d c.put.ensures c.if-self-ne0.false
    (sym (one_node c.put.new.d lp) ∙ sym c.no_stray_bits.ensures ∙ c.if-not-no_stray_bits.true))

pub returns-clause-state_after : goal.returns-clause-state_after
returns-clause-state_after c =
    let s = c.args.self.now in
    let bytes = c.args.bytes.now in
    let l : length s.partial ≡ 32 = search rules in
    let lp : length c.put.new.d ≡ 32 = search rules in
    taken_with s c.requires.no_code.0 bytes (s.count + length bytes) c.put.new.d c.add_node.new.waiting
    (part_whole_node bytes s.count s.partial s.waiting c.requires.bytes_nonzero.0 l c.requires.bytes_nonzero.1
    c.requires.no_code.1 c.put.new.d c.put.ensures c.if-self-ne0.false
    (sym (one_node c.put.new.d lp) ∙ sym c.no_stray_bits.ensures ∙ c.if-not-no_stray_bits.false)
    ∙ ap (running (s.count + length bytes) c.put.new.d) (sym c.add_node.ensures))
