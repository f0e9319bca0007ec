use Rattle.std.specs.Prelude.{◌≡◌, refl, false, ℕ}
use Rattle.std.proofs.Common.{sym, ◌∙◌, arith}
use Rattle.sizes.specs.Sizes.{lent_size_allowed}
use Rattle.clerk_log.specs.Log.{Lines, lines, malformed, log_lines}
use Rattle.clerk_log.specs.LineAt.{is_log}
use Rattle.playback.specs.Playback.{Code}
use Rattle.playback.specs.Playback as P
use Rattle.playback.specs.Playback.{played_log}
use Rattle.playback.proofs.play_back.Goals as goal

-- a log that is not in form gets 3
not_played : (d : ℕ) (ls : Lines) → is_log ls ≡ false → P.says (Code 3) ≡ played_log d ls
not_played d (lines ls) e = let z : ◌≡◌ {A = ℕ} 0 1 = cc in absurd (omega arith)
not_played d malformed e = refl

pub returns-then-not-lent_size_allowed : goal.returns-then-not-lent_size_allowed
unfolding P.playback
returns-then-not-lent_size_allowed c =
    let small : lent_size_allowed c.args.size ≡ false =
    sym c.lent_size_allowed.ensures ∙ c.if-not-lent_size_allowed.true in
    rw small refl

pub returns-then-not-in_form : goal.returns-then-not-in_form
unfolding P.playback
returns-then-not-in_form c =
    let a = c.args in
    rw (sym c.lent_size_allowed.ensures ∙ c.if-not-lent_size_allowed.false)
    (not_played a.size (log_lines a.size a.log.now)
    (sym c.in_form.ensures ∙ c.if-not-in_form.true))

pub play-requires : goal.play-requires
play-requires c =
    (sym c.lent_size_allowed.ensures ∙ c.if-not-lent_size_allowed.false, sym c.in_form.ensures ∙ c.if-not-in_form.false)

pub returns : goal.returns
unfolding P.playback
returns c = rw (sym c.lent_size_allowed.ensures ∙ c.if-not-lent_size_allowed.false) c.play.ensures
