-- An array filled from a list item by item.
use Rattle.std.specs.Prelude.{◌≡◌, ℕ, ◌+◌, ◌≤◌, ◌<◌, List, length, map, set, get_or}
use Rattle.std.proofs.Common.{sym, ap, ◌∙◌, arith, length-set, get_or-set_same, get_or-set_other}
use Rattle.std.proofs.Math.Decide.{ℕ_discrete}
use Rattle.std.proofs.Math.ListN.{get_or-map}
use Rattle.std.proofs.lemmas.List.{ext_get_or, length-map}

module _ {A B : Type 0} (f : A → B) (source : List A) (none : A) where
  -- the first n items are those of the list under f
  pub record Mapped (n : ℕ) (items : List B) : Type 0 where
    pub sized : length items ≡ length source
    pub is : (k : ℕ) → k < n → get_or items k (f none) ≡ f (get_or source k none)

  -- at first none is
  pub mapped_start : (items : List B) → length items ≡ length source → Mapped 0 items
  mapped_start items e = record { sized = e; is = λ k h. absurd (omega (arith, h)) }

  -- one more
  pub mapped_next : (n : ℕ) (items : List B) (x : B) → n < length source → x ≡ f (get_or source n none)
      → Mapped n items → Mapped (n + 1) (set items n x)
  mapped_next n items x h e m =
      record {
        sized = length-set items n x ∙ m.sized;
        is = λ k l.
            elim (ℕ_discrete k n) [
              | yes same ↦
                  ap (λ (j : ℕ). get_or (set items n x) j (f none)) same
                  ∙ get_or-set_same items n x (f none) (omega (arith, h, m.sized))
                  ∙ e
                  ∙ ap (λ (j : ℕ). f (get_or source j none)) (sym same)
              | no ne ↦ get_or-set_other items n k x (f none) ne ∙ m.is k (omega (arith, l, ne))
            ];
      }

  -- at last all are
  pub mapped_all : (n : ℕ) (items : List B) → length source ≤ n → Mapped n items → items ≡ map f source
  mapped_all n items all m =
      ext_get_or (f none) items (map f source) (m.sized ∙ sym (length-map source f))
      (λ k h. m.is k (omega (arith, h, all, m.sized)) ∙ sym (get_or-map f source k none))
