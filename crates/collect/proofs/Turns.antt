-- The loops that write all areas, all entries and all owners: string j is written over those before it.
use mathlib.Core.Path.{◌≡◌, refl, sym, ap, ◌∙◌}
use mathlib.Core.List.{List}
use Prim.Native.Nat.{ℕ, ◌+◌}
use native.Mathlib.Numerals.{add-one}
use Rattle.octets.specs.Splice.{splice}
use Rattle.collect.specs.Writes.{write_all}

module _ (at : ℕ → ℕ) (strings : ℕ → List ℕ) (base : List ℕ) where
  pub write_none : base ≡ write_all at strings 0 base
  unfolding write_all
  write_none = refl

  pub write_next : (new next : List ℕ) (j : ℕ) → new ≡ write_all at strings j base
      → next ≡ splice new (at j) (strings j)
      → next ≡ write_all at strings (j + 1) base
  unfolding write_all
  write_next new next j e f =
      f
      ∙ ap (λ (x : List ℕ). splice x (at j) (strings j)) e
      ∙ sym (ap (λ (n : ℕ). write_all at strings n base) (add-one j))
