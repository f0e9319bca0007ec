-- A search and a count over a list, as those over the numbers of its places.
use Rattle.std.specs.Prelude.{
  ◌≡◌,
  refl,
  Bool,
  true,
  false,
  cond,
  ℕ,
  suc,
  ◌+◌,
  ◌<◌,
  List,
  [],
  ◌∷◌,
  length,
  get_or,
  Option,
  Some,
  position,
  count_by,
}
use Rattle.std.specs.List.{position_from}
use Rattle.std.proofs.Common.{sym, ap, ap₂, ◌∙◌, subst, add-zero, add-one, arith}
use Rattle.std.proofs.lemmas.Iterator.Adapters.{position_from-zero}
use Rattle.std.proofs.lemmas.List.Recursion.{is_count_by}
use Rattle.rules.specs.Choice.{choose}
use Rattle.rules.specs.Search.{lowest, one, count}

module _ {X : Type 0} (p : X → Bool) (d : X) (q : ℕ → Bool) where
  -- the places from i on are tested as the elements of a list
  abbrev Agrees : ℕ → List X → Type 0
  Agrees i xs = (j : ℕ) → j < length xs → q (i + j) ≡ p (get_or xs j d)

  here : (i : ℕ) (x : X) (xs : List X) → Agrees i (x ∷ xs) → q i ≡ p x
  here i x xs h = subst (λ (k : ℕ). q k ≡ p x) (add-zero i) (h 0 (omega arith))

  later : (i : ℕ) (x : X) (xs : List X) → Agrees i (x ∷ xs) → Agrees (i + 1) xs
  later i x xs h j l =
      let e : i + 1 + j ≡ i + suc j = omega arith in
      ap q e ∙ h (suc j) (omega arith)

  from_lowest : (i : ℕ) (xs : List X) → Agrees i xs → position_from p i xs ≡ lowest q i (length xs)
  from_lowest i [] h = refl
  from_lowest i (x ∷ xs) h =
      by_test (p x)
      ∙ ap₂ (λ (b : Bool) (o : Option ℕ). choose b (Some i) o) (sym (here i x xs h))
      (from_lowest (i + 1) xs (later i x xs h) ∙ ap (λ (k : ℕ). lowest q k (length xs)) (add-one i))
    where
      by_test : (b : Bool)
          → cond b (Some i) (position_from p (i + 1) xs) ≡ choose b (Some i) (position_from p (i + 1) xs)
      by_test true = refl
      by_test false = refl

  pub position_lowest : (xs : List X) → ((j : ℕ) → j < length xs → q j ≡ p (get_or xs j d))
      → position p xs ≡ lowest q 0 (length xs)
  position_lowest xs h =
      position_from-zero p xs
      ∙ from_lowest 0 xs (λ j l. let e : 0 + j ≡ j = omega arith in ap q e ∙ h j l)

  -- how many pass, from the front on
  passed : List X → ℕ
  passed [] = 0
  passed (x ∷ xs) = one (p x) + passed xs

  passed_is : (xs : List X) → passed xs ≡ count_by p xs
  unfolding passed
  passed_is =
      is_count_by passed p refl (λ x xs. by_test (p x) xs)
    where
      by_test : (b : Bool) (xs : List X) → one b + passed xs ≡ cond b (1 + passed xs) (passed xs)
      by_test true xs = refl
      by_test false xs = omega arith

  from_count : (i : ℕ) (xs : List X) → Agrees i xs → passed xs ≡ count q i (length xs)
  unfolding passed
  from_count i [] h = refl
  from_count i (x ∷ xs) h =
      ap₂ (λ (b : Bool) (n : ℕ). one b + n) (sym (here i x xs h))
      (from_count (i + 1) xs (later i x xs h) ∙ ap (λ (k : ℕ). count q k (length xs)) (add-one i))

  pub count_places : (xs : List X) → ((j : ℕ) → j < length xs → q j ≡ p (get_or xs j d))
      → count_by p xs ≡ count q 0 (length xs)
  count_places xs h =
      sym (passed_is xs) ∙ from_count 0 xs (λ j l. let e : 0 + j ≡ j = omega arith in ap q e ∙ h j l)
