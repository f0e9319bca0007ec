-- Each test that is passed leaves the rest of the judgement.
use mathlib.Core.Path.{◌∙◌}
use native.Mathlib.Omega.{arith}
use Rattle.sizes.specs.SizesLaws.{deal_size_lem, segment_size}
use Rattle.record.proofs.Tests.{passed, failed, one_node}
use Rattle.record.proofs.JudgeCases.{wrong_number, wrong_size, wrong_offset, wrong_place, wrong_lengths}
use Rattle.record.proofs.JudgeCases.{stray_commitment, stray_paths, segment_elsewhere, entry_elsewhere, accepted}
use Rattle.record.proofs.judgement.judge.Goals as goal

pub returns-then-x-number : goal.returns-then-x-number
returns-then-x-number c =
    let a = c.args in
    wrong_number a.commitment.now a.d a.number a.x.now a.x.now.segment_path.now a.x.now.entry_path.now
    c.if-x-number.true

pub returns-then-not-segment_size_allowed : goal.returns-then-not-segment_size_allowed
returns-then-not-segment_size_allowed c =
    let a = c.args in
    wrong_size a.commitment.now a.d a.number a.x.now a.x.now.segment_path.now a.x.now.entry_path.now
    (omega arith) (failed c.segment_size_allowed.ensures c.if-not-segment_size_allowed.true)

pub offset_allowed-requires : goal.offset_allowed-requires
offset_allowed-requires c = (c.requires, passed c.segment_size_allowed.ensures c.if-not-segment_size_allowed.false)

pub returns-then-not-offset_allowed : goal.returns-then-not-offset_allowed
returns-then-not-offset_allowed c =
    let a = c.args in
    wrong_offset a.commitment.now a.d a.number a.x.now a.x.now.segment_path.now a.x.now.entry_path.now
    (omega arith) (passed c.segment_size_allowed.ensures c.if-not-segment_size_allowed.false)
    (failed c.offset_allowed.ensures c.if-not-offset_allowed.true)

pub returns-then-not-place_allowed : goal.returns-then-not-place_allowed
returns-then-not-place_allowed c =
    let a = c.args in
    wrong_place a.commitment.now a.d a.number a.x.now a.x.now.segment_path.now a.x.now.entry_path.now
    (omega arith) (passed c.segment_size_allowed.ensures c.if-not-segment_size_allowed.false)
    (passed c.offset_allowed.ensures c.if-not-offset_allowed.false)
    (failed c.place_allowed.ensures c.if-not-place_allowed.true)

pub paths_sized-requires : goal.paths_sized-requires
paths_sized-requires c = (c.requires, passed c.segment_size_allowed.ensures c.if-not-segment_size_allowed.false)

pub returns-then-not-paths_sized : goal.returns-then-not-paths_sized
returns-then-not-paths_sized c =
    let a = c.args in
    wrong_lengths a.commitment.now a.d a.number a.x.now a.x.now.segment_path.now a.x.now.entry_path.now
    (omega arith) (passed c.segment_size_allowed.ensures c.if-not-segment_size_allowed.false)
    (passed c.offset_allowed.ensures c.if-not-offset_allowed.false)
    (passed c.place_allowed.ensures c.if-not-place_allowed.false)
    (failed c.paths_sized.ensures c.if-not-paths_sized.true)

pub returns-then-not-no_stray_bits : goal.returns-then-not-no_stray_bits
returns-then-not-no_stray_bits c =
    let a = c.args in
    stray_commitment a.commitment.now a.d a.number a.x.now a.x.now.segment_path.now a.x.now.entry_path.now
    (omega arith) (passed c.segment_size_allowed.ensures c.if-not-segment_size_allowed.false)
    (passed c.offset_allowed.ensures c.if-not-offset_allowed.false)
    (passed c.place_allowed.ensures c.if-not-place_allowed.false)
    (passed c.paths_sized.ensures c.if-not-paths_sized.false) (failed (c.no_stray_bits.ensures ∙ one_node a.x.now.commitment (omega arith)) c.if-not-no_stray_bits.true)

pub returns-then-not-paths_clear : goal.returns-then-not-paths_clear
returns-then-not-paths_clear c =
    let a = c.args in
    stray_paths a.commitment.now a.d a.number a.x.now a.x.now.segment_path.now a.x.now.entry_path.now
    (omega arith) (passed c.segment_size_allowed.ensures c.if-not-segment_size_allowed.false)
    (passed c.offset_allowed.ensures c.if-not-offset_allowed.false)
    (passed c.place_allowed.ensures c.if-not-place_allowed.false)
    (passed c.paths_sized.ensures c.if-not-paths_sized.false) (passed (c.no_stray_bits.ensures ∙ one_node a.x.now.commitment (omega arith)) c.if-not-no_stray_bits.false)
    (failed c.paths_clear.ensures c.if-not-paths_clear.true)

pub segment_position-position-requires : goal.segment_position-position-requires
segment_position-position-requires c =
    let a = c.args in
    let z = segment_size a.d a.x.now.size (deal_size_lem a.d c.requires)
    (passed c.segment_size_allowed.ensures c.if-not-segment_size_allowed.false) in
    omega arith

pub returns-then-not-leads_to : goal.returns-then-not-leads_to
returns-then-not-leads_to c =
    let a = c.args in
    segment_elsewhere a.commitment.now a.d a.number a.x.now a.x.now.segment_path.now a.x.now.entry_path.now
    (omega arith) (passed c.segment_size_allowed.ensures c.if-not-segment_size_allowed.false)
    (passed c.offset_allowed.ensures c.if-not-offset_allowed.false)
    (passed c.place_allowed.ensures c.if-not-place_allowed.false)
    (passed c.paths_sized.ensures c.if-not-paths_sized.false) (passed (c.no_stray_bits.ensures ∙ one_node a.x.now.commitment (omega arith)) c.if-not-no_stray_bits.false)
    (passed c.paths_clear.ensures c.if-not-paths_clear.false) c.segment_position-position.ensures
    c.leads_to.ensures c.if-not-leads_to.true

pub returns-then-not-leads_to-2 : goal.returns-then-not-leads_to-2
returns-then-not-leads_to-2 c =
    let a = c.args in
    entry_elsewhere a.commitment.now a.d a.number a.x.now a.x.now.segment_path.now a.x.now.entry_path.now
    (omega arith) (passed c.segment_size_allowed.ensures c.if-not-segment_size_allowed.false)
    (passed c.offset_allowed.ensures c.if-not-offset_allowed.false)
    (passed c.place_allowed.ensures c.if-not-place_allowed.false)
    (passed c.paths_sized.ensures c.if-not-paths_sized.false) (passed (c.no_stray_bits.ensures ∙ one_node a.x.now.commitment (omega arith)) c.if-not-no_stray_bits.false)
    (passed c.paths_clear.ensures c.if-not-paths_clear.false) c.segment_position-position.ensures
    c.leads_to.ensures c.if-not-leads_to.false c.entry_of-entry.ensures c.node_hash.ensures
    c.leads_to-2.ensures c.if-not-leads_to-2.true

pub returns : goal.returns
returns c =
    let a = c.args in
    accepted a.commitment.now a.d a.number a.x.now a.x.now.segment_path.now a.x.now.entry_path.now
    (omega arith) (passed c.segment_size_allowed.ensures c.if-not-segment_size_allowed.false)
    (passed c.offset_allowed.ensures c.if-not-offset_allowed.false)
    (passed c.place_allowed.ensures c.if-not-place_allowed.false)
    (passed c.paths_sized.ensures c.if-not-paths_sized.false) (passed (c.no_stray_bits.ensures ∙ one_node a.x.now.commitment (omega arith)) c.if-not-no_stray_bits.false)
    (passed c.paths_clear.ensures c.if-not-paths_clear.false) c.segment_position-position.ensures
    c.leads_to.ensures c.if-not-leads_to.false c.entry_of-entry.ensures c.node_hash.ensures
    c.leads_to-2.ensures c.if-not-leads_to-2.false
