-- From a code, and from what was found to differ in the two parts, to the answer.
use mathlib.Core.Path.{◌≡◌, refl, sym, ap, ◌∙◌}
use mathlib.Core.Bool.{true, false}
use Prim.Native.Nat.{ℕ, zero, suc}
use Rattle.std.specs.Prelude.{Option, Some, None, is_some}
use Rattle.rules.specs.Refusals.{unless_refused}
use Rattle.paths.specs.Compare.{seen_as}
use Rattle.paths.specs.declared.Compared.{Compared}
use Rattle.paths.specs.declared.Difference.{Difference}
use Rattle.paths.specs.CompareBelow.{or_compared}
use Rattle.settle.specs.SettleLaws.{settled_from}
use Rattle.settle.specs.Settle.{Settled}

-- a code other than 0 is the answer's
pub refused_with : {A : Type 0} (code : ℕ) (refused : ℕ → A) (done : A) → (code ≡ 0 → ⊥)
    → refused code ≡ unless_refused code refused done
refused_with zero refused done h = absurd (h refl)
refused_with (suc code) refused done h = refl

-- the entry parts decide where they differ, and else the segment parts
module _ (entries segments : Compared) (answer : Settled) (e : settled_from (or_compared entries segments) ≡ answer) where
  pub entries_decide : (found : Compared) → found ≡ entries → found.differs ≡ true → settled_from found ≡ answer
  entries_decide found p d =
      let t : entries.differs ≡ true = sym (ap (λ (c : Compared). c.differs) p) ∙ d in
      let q : or_compared entries segments ≡ entries = rw t in
      ap settled_from (p ∙ sym q) ∙ e

  pub segments_decide : (found : Compared) → found ≡ entries → found.differs ≡ false → {rest : Compared}
      → rest ≡ segments → settled_from rest ≡ answer
  segments_decide found p d r =
      let t : entries.differs ≡ false = sym (ap (λ (c : Compared). c.differs) p) ∙ d in
      let q : or_compared entries segments ≡ segments = rw t in
      ap settled_from (r ∙ sym q) ∙ e

-- a difference was found, or none
pub some_differs : (found : Option Difference) → is_some found ≡ true → (seen_as found).differs ≡ true
some_differs (Some strings) e = refl
some_differs None e = e

pub none_differs : (found : Option Difference) → is_some found ≡ false → (seen_as found).differs ≡ false
none_differs (Some strings) e = e
none_differs None e = refl
