-- The log is in form where what is left of it is: with no line at its front it is not, nor with one that may not stand
-- there, and else it is where the log after that line is.
use Rattle.std.specs.Prelude.{◌≡◌, ◌<◌, length, refl}
use Rattle.std.proofs.Common.{sym, ap, ◌∙◌, rules}
use Rattle.clerk_log.specs.Log.{log_lines}
use Rattle.clerk_log.specs.LineAt.{is_log}
use Rattle.clerk_log.specs.LineAtLaws.{shorter, log_empty, no_first, first_on, first_off, is_log_add}
use Rattle.clerk_log.proofs.whole.in_form.Goals as goal

pub loop-rest-init : goal.loop-rest-init
loop-rest-init c = refl

pub returns-in_default : goal.returns-in_default
returns-in_default c =
    let rest = c.loop-rest.rest.now in
    let h : 0 < length rest = search rules in
    sym (c.loop-rest.invariant ∙ ap is_log (no_first c.args.size rest h (sym c.in_default.ensures)))

pub returns-then-not-is_allowed : goal.returns-then-not-is_allowed
returns-then-not-is_allowed c =
    let rest = c.loop-rest.rest.now in
    let x = c.in-Some in
    let h : 0 < length rest = search rules in
    sym (c.loop-rest.invariant
    ∙ ap is_log (first_off c.args.size rest h x.line x.later.now (sym x.ensures) (sym c.is_allowed.ensures ∙ c.if-not-is_allowed.true)))

pub loop-rest-smaller : goal.loop-rest-smaller
loop-rest-smaller c =
    let x = c.in-Some in
    shorter c.loop-rest.rest.now x.line x.later.now (sym x.ensures)

pub loop-rest-preserved : goal.loop-rest-preserved
loop-rest-preserved c =
    let rest = c.loop-rest.rest.now in
    let x = c.in-Some in
    let h : 0 < length rest = search rules in
    c.loop-rest.invariant
    ∙ ap is_log (first_on c.args.size rest h x.line x.later.now (sym x.ensures) (sym c.is_allowed.ensures ∙ c.if-not-is_allowed.false))
    ∙ is_log_add x.line (log_lines c.args.size x.later.now)

pub returns : goal.returns
returns c =
    let rest = c.loop-rest.rest.now in
    let e : length rest ≡ 0 = search rules in
    sym (c.loop-rest.invariant ∙ ap is_log (log_empty c.args.size rest e))
