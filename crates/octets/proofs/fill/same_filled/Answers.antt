use Rattle.std.proofs.Common.{◌≡◌, ◌∙◌, ap, sym, ℕ, Bool, ◌+◌, ◌-◌, length, take, drop, arith}
use Rattle.std.specs.Prelude.{◌&&◌}
use Rattle.octets.specs.Equality.{same_bytes, all_zero}
use Rattle.octets.specs.EqualityLaws.{pointwise_same}
use Rattle.octets.specs.Splice.{part}
use Rattle.octets.specs.SpliceLaws.{part_range}
use Rattle.octets.specs.FillLaws.{same_filled}
use Rattle.octets.proofs.fill.same_filled.Goals as goal

pub returns-then-eq : goal.returns-then-eq
unfolding part
returns-then-eq c =
    let a = c.args in
    let e : a.at + a.n - (a.at + length a.s.now) ≡ a.n - length a.s.now = omega arith in
    let s : c.eq.result ≡ same_bytes (part a.d.now a.at (length a.s.now)) a.s.now =
    c.eq.ensures ∙ pointwise_same _ _ ∙ ap (λ l. same_bytes l a.s.now) (part_range a.d.now a.at (length a.s.now)) in
    c.all_zero.ensures
    ∙ ap (λ (k : ℕ). all_zero (take k (drop (a.at + length a.s.now) a.d.now))) e
    ∙ ap (λ (b : Bool). b && all_zero (part a.d.now (a.at + length a.s.now) (a.n - length a.s.now)))
    (sym (sym s ∙ c.if-eq.true))
    ∙ same_filled a.d.now a.at a.n a.s.now c.requires.0 c.requires.1

pub returns-else-eq : goal.returns-else-eq
returns-else-eq c =
    let a = c.args in
    let s : c.eq.result ≡ same_bytes (part a.d.now a.at (length a.s.now)) a.s.now =
    c.eq.ensures ∙ pointwise_same _ _ ∙ ap (λ l. same_bytes l a.s.now) (part_range a.d.now a.at (length a.s.now)) in
    c.if-eq.false
    ∙ sym
    (ap (λ (b : Bool). b && all_zero (part a.d.now (a.at + length a.s.now) (a.n - length a.s.now)))
    (sym s ∙ c.if-eq.false))
    ∙ same_filled a.d.now a.at a.n a.s.now c.requires.0 c.requires.1
