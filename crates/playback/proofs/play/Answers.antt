-- What is left to play of the log, with the ledger and the number so far, is what the whole log plays to.
use Rattle.std.specs.Prelude.{◌≡◌, true, ℕ, ◌+◌, ◌<◌, List, length}
use Rattle.std.proofs.Common.{rules, sym, ap, ◌∙◌, arith}
use Rattle.sizes.specs.Sizes.{entry_count}
use Rattle.clerk_log.specs.Log.{line_allowed, log_lines}
use Rattle.clerk_log.specs.LineAtLaws.{shorter, first_in_form}
use Rattle.playback.specs.declared.LedgerRow.{LedgerRow}
use Rattle.playback.specs.Ledger.{ledger_after}
use Rattle.playback.specs.Playback.{LineNumber, confirms, no_rows, rows_from, with_rows}
use Rattle.playback.proofs.PlayedLine.{outcome, left, other_of, same_of, left_is}
use Rattle.playback.proofs.PlayedLog.{play_on, play_start, play_over, play_next, play_stop, never_none}
use Rattle.playback.proofs.play.Goals as goal

pub returns-in_default : goal.returns-in_default
returns-in_default c =
    let rest = c.loop-rest.rest.now in
    let h : 0 < length rest = search rules in
    never_none c.args.size rest h c.loop-rest.invariant.2 (sym c.in_default.ensures)

pub play-requires : goal.play-requires
play-requires c =
    let l = c.loop-rest in
    let x = c.in-Some in
    let h : 0 < length l.rest.now = search rules in
    ap (λ (size : ℕ). line_allowed size x.line) l.invariant.0
    ∙ (first_in_form c.args.size l.rest.now h x.line x.later.now (sym x.ensures) l.invariant.2).0

pub returns-in-Err : goal.returns-in-Err
returns-in-Err c =
    let d = c.args.size in
    let l = c.loop-rest in
    let x = c.in-Some in
    let h : 0 < length l.rest.now = search rules in
    let o =
    other_of d l.ledger.rows x.line c.in-Err.ruling
    (sym c.in-Err.is ∙ c.play.ensures.answer ∙ ap (λ (size : ℕ). outcome size l.ledger.rows x.line) l.invariant.0) in
    ap (no_rows (LineNumber l.number)) o.1
    ∙ sym (l.invariant.3
    ∙ play_stop d l.rest.now l.ledger.rows l.number h l.invariant.2 x.line x.later.now (sym x.ensures) o.0)

pub loop-rest-smaller : goal.loop-rest-smaller
loop-rest-smaller c =
    let x = c.in-Some in shorter c.loop-rest.rest.now x.line x.later.now (sym x.ensures)

pub loop-rest-preserved : goal.loop-rest-preserved
loop-rest-preserved c =
    let d = c.args.size in
    let l = c.loop-rest in
    let x = c.in-Some in
    let rows = l.ledger.rows in
    let h : 0 < length l.rest.now = search rules in
    let there = sym x.ensures in
    let on =
    same_of d rows x.line c.play.result c.in_default-play.not-Err
    (c.play.ensures.answer ∙ ap (λ (size : ℕ). outcome size rows x.line) l.invariant.0) in
    let after : c.play.new.self.rows ≡ ledger_after d rows x.line =
    c.play.ensures.rows ∙ ap (λ (size : ℕ). left size rows x.line) l.invariant.0 ∙ left_is d rows x.line on in (
      c.play.ensures.sized ∙ l.invariant.0,
      omega (arith, l.invariant.1, shorter l.rest.now x.line x.later.now there),
      (first_in_form d l.rest.now h x.line x.later.now there l.invariant.2).1,
      l.invariant.3
          ∙ play_next d l.rest.now rows l.number h l.invariant.2 x.line x.later.now there on
          ∙ ap (λ (rs : List LedgerRow). play_on d rs (l.number + 1) (log_lines d x.later.now)) (sym after),
    )

pub returns : goal.returns
returns c =
    let d = c.args.size in
    let l = c.loop-rest in
    let over : length l.rest.now ≡ 0 = search rules in
    c.standing.ensures
    ∙ ap (λ (size : ℕ). with_rows (rows_from l.ledger.rows 0 (entry_count size))) l.invariant.0
    ∙ sym (l.invariant.3 ∙ play_over d l.rest.now l.ledger.rows l.number over)
