-- One more word, and one more byte.
use Rattle.std.proofs.Common.{◌≡◌, ℕ, [], ◌∷◌, ◌+◌, ◌*◌, length, take, sym, ap, ◌∙◌, arith}
use Rattle.octets.specs.LittleEndian.{bytes_of}
use Rattle.octets.specs.Splice.{splice}
use Rattle.octets.specs.SpliceLaws.{splice_nothing}
use Rattle.fr32.proofs.WriteLoops.{next_written, byte_set, byte_part}
use Rattle.fr32.proofs.writing.write.Goals as goal

pub loop-w-init : goal.loop-w-init
loop-w-init g c = λ s l gives. sym (splice_nothing c.args.output.now 0)

pub loop-w-preserved : goal.loop-w-preserved
loop-w-preserved g c = λ s l gives.
    let a = c.args in
    let w = c.loop-w.w in
    let n : 8 * w + 8 ≡ 8 * (w + 1) = omega arith in
    let sized = c.requires.sized in
    c.put_u64.ensures
    ∙ next_written a.output.now s c.loop-w.output (bytes_of 8 c.word.result) (8 * w) 8 (omega (arith, sized.1))
    (omega (arith, sized.0, c.loop-w-test.true)) (c.loop-w.invariant s l gives)
    (gives w c.word.result c.loop-w-test.true c.word.ensures)
    ∙ ap (λ (k : ℕ). splice a.output.now 0 (take k s)) n

pub loop-q-preserved : goal.loop-q-preserved
loop-q-preserved g c = λ s l gives bytes.
    let a = c.args in
    let q = c.loop-q.q in
    let x = c.byte.result in
    let sized = c.requires.sized in
    let room : length c.loop-q.output ≡ length a.output.now = c.loop-q.auto.output ∙ c.loop-w.auto.output in
    byte_set c.loop-q.output q x (omega (arith, room, sized.1, c.loop-q-test.true))
    ∙ next_written a.output.now s c.loop-q.output (x ∷ []) q 1 (omega (arith, sized.1))
    (omega (arith, c.loop-q-test.true)) (c.loop-q.invariant s l gives bytes)
    (byte_part s q x (omega (arith, c.loop-q-test.true)) (bytes q x c.loop-q-test.true c.byte.ensures))
