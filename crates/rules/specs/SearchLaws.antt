-- What the lowest number that passes, and the count of those that pass, mean: for any test.
use Rattle.std.specs.Prelude.{ℕ, zero, suc, ◌+◌, ◌-◌, ◌≤◌, ◌<◌, ◌≡◌, refl, Bool, true, false}
use Rattle.std.proofs.Common.{ap, sym, ◌∙◌, subst, ⊎_elim, eq-or-lt_of_le, zero-add, add-zero, add-one, arith}
use Rattle.std.proofs.Math.Nat.{sub-zero}
use Rattle.std.proofs.Math.Decide.{dec_lt}
use Rattle.rules.specs.Choice.{choose}
use Rattle.std.specs.Prelude.{Option}
use Rattle.std.specs.Prelude.{Some, None}
use Rattle.rules.specs.Search.{lowest, one, count}

one_le : (b : Bool) → one b ≤ 1
one_le true = omega arith
one_le false = omega arith

module _ (p : ℕ → Bool) where
  -- what a found means, and what missing means
  pub record IsLowest (i n k : ℕ) : Type 0 where
    pub from : i ≤ k
    pub below : k < i + n
    pub passes : p k ≡ true
    pub first : (j : ℕ) → i ≤ j → j < k → p j ≡ false

  lowest_more : (i n k : ℕ) → p i ≡ false → IsLowest (suc i) n k → IsLowest i (suc n) k
  lowest_more i n k e l =
      record {
        from = omega arith;
        below = omega arith;
        passes = l.passes;
        first = λ j a b.
            ⊎_elim (λ q. subst (λ (x : ℕ). p x ≡ false) q e) (λ lt. l.first j lt b) (eq-or-lt_of_le a);
      }

  lowest_found_by : (b : Bool) (i n k : ℕ) → p i ≡ b → choose b (Some i) (lowest p (suc i) n) ≡ Some k
      → (lowest p (suc i) n ≡ Some k → IsLowest (suc i) n k) → IsLowest i (suc n) k
  lowest_found_by true i n k e h rec =
      let q : i ≡ k = cc in
      subst (λ (x : ℕ). IsLowest i (suc n) x) q
      (record { from = omega arith; below = omega arith; passes = e; first = λ j a b. absurd (omega arith) })
  lowest_found_by false i n k e h rec = lowest_more i n k e (rec h)

  pub lowest_found : (i n k : ℕ) → lowest p i n ≡ Some k → IsLowest i n k
  lowest_found i zero k h = let z : ◌≡◌ {A = ℕ} 0 1 = cc in absurd (omega arith)
  lowest_found i (suc n) k h = lowest_found_by (p i) i n k refl h (lowest_found (suc i) n k)

  lowest_missing_by : (b : Bool) (i n : ℕ) → p i ≡ b → choose b (Some i) (lowest p (suc i) n) ≡ None
      → (lowest p (suc i) n ≡ None → (j : ℕ) → suc i ≤ j → j < suc i + n → p j ≡ false)
      → (j : ℕ) → i ≤ j → j < i + suc n → p j ≡ false
  lowest_missing_by true i n e h rec j a b = let z : ◌≡◌ {A = ℕ} 0 1 = cc in absurd (omega arith)
  lowest_missing_by false i n e h rec j a b =
      ⊎_elim (λ q. subst (λ (x : ℕ). p x ≡ false) q e) (λ lt. rec h j lt (omega arith)) (eq-or-lt_of_le a)

  pub lowest_missing : (i n : ℕ) → lowest p i n ≡ None → (j : ℕ) → i ≤ j → j < i + n → p j ≡ false
  lowest_missing i zero h j a b = absurd (omega arith)
  lowest_missing i (suc n) h j a b = lowest_missing_by (p i) i n refl h (lowest_missing (suc i) n) j a b

  -- the same two, the other way round
  pub lowest_is : (i n k : ℕ) → IsLowest i n k → lowest p i n ≡ Some k
  lowest_is i zero k l = absurd (omega arith)
  lowest_is i (suc n) k l =
      ⊎_elim
      (λ same.
      let e : p i ≡ true = subst (λ (x : ℕ). p x ≡ true) (sym same) l.passes in
      rw e (ap Some same))
      (λ less.
      let e : p i ≡ false = l.first i (omega arith) less in
      rw e
      (lowest_is (suc i) n k
      (record {
        from = less;
        below = omega arith;
        passes = l.passes;
        first = λ j a b. l.first j (omega arith) b;
      })))
      (eq-or-lt_of_le l.from)

  pub lowest_none : (i n : ℕ) → ((j : ℕ) → i ≤ j → j < i + n → p j ≡ false) → lowest p i n ≡ None
  lowest_none i zero f = refl
  lowest_none i (suc n) f =
      let e : p i ≡ false = f i (omega arith) (omega arith) in
      rw e (lowest_none (suc i) n (λ j a b. f j (omega arith) (omega arith)))

  -- turns of a loop that counts i up to n, with what is left from i in its invariant
  left : (n i : ℕ) → i < n → n - i ≡ suc (n - (i + 1))
  left n i h = omega arith

  pub lowest_here : (n i : ℕ) → i < n → p i ≡ true → lowest p i (n - i) ≡ Some i
  lowest_here n i h e = rw (left n i h) (rw e)

  pub lowest_next : (n i : ℕ) → i < n → p i ≡ false → lowest p i (n - i) ≡ lowest p (i + 1) (n - (i + 1))
  lowest_next n i h e = rw (left n i h) (rw (e, add-one i))

  pub lowest_over : (n i : ℕ) → n ≤ i → lowest p i (n - i) ≡ None
  lowest_over n i h = let z : n - i ≡ 0 = omega arith in rw z

  -- such a loop, where nothing was found below i: what it answers is what the whole search answers
  module _ (n i : ℕ) (inv : lowest p 0 n ≡ lowest p i (n - i)) where
    pub found_here : i < n → p i ≡ true → Some i ≡ lowest p 0 n
    found_here h e = sym (inv ∙ lowest_here n i h e)

    pub found_later : i < n → p i ≡ false → lowest p 0 n ≡ lowest p (i + 1) (n - (i + 1))
    found_later h e = inv ∙ lowest_next n i h e

    pub found_nowhere : n ≤ i → None ≡ lowest p 0 n
    found_nowhere h = sym (inv ∙ lowest_over n i h)

  -- what is found from 0 on is below the end
  pub found_below : (n k : ℕ) → lowest p 0 n ≡ Some k → k < n
  found_below n k e = omega (arith, (lowest_found 0 n k e).below)

  skip_by : (t n i : ℕ) → ((j : ℕ) → i ≤ j → j < i + t → j < n → p j ≡ false)
      → lowest p i (n - i) ≡ lowest p (i + t) (n - (i + t))
  skip_by zero n i f = ap (λ (m : ℕ). lowest p m (n - m)) (sym (add-zero i))
  skip_by (suc t) n i f =
      elim (dec_lt i n) [
        | yes h ↦
            lowest_next n i h (f i (omega arith) (omega arith) h)
            ∙ skip_by t n (i + 1) (λ j a b c. f j (omega arith) (omega arith) c)
            ∙ ap (λ (m : ℕ). lowest p m (n - m)) (omega arith)
        | no h ↦ lowest_over n i (omega arith) ∙ sym (lowest_over n (i + suc t) (omega arith))
      ]

  -- a turn that leaves out numbers that fail: those from i up to m, as far as they are below n
  pub lowest_skip : (n i m : ℕ) → i ≤ m → ((j : ℕ) → i ≤ j → j < m → j < n → p j ≡ false)
      → lowest p i (n - i) ≡ lowest p m (n - m)
  lowest_skip n i m h f =
      let e : i + (m - i) ≡ m = omega arith in
      skip_by (m - i) n i (λ j a b c. f j a (omega arith) c) ∙ ap (λ (x : ℕ). lowest p x (n - x)) e

  pub count_next : (n i m : ℕ) → i < n
      → m + count p i (n - i) ≡ m + one (p i) + count p (i + 1) (n - (i + 1))
  count_next n i m h = rw (left n i h) (rw (add-one i) (omega arith))

  pub count_over : (n i m : ℕ) → n ≤ i → m + count p i (n - i) ≡ m
  count_over n i m h = let z : n - i ≡ 0 = omega arith in rw z (omega arith)

  pub lowest_start : (n : ℕ) → lowest p 0 n ≡ lowest p 0 (n - 0)
  lowest_start n = rw (sub-zero n)

  pub count_start : (n : ℕ) → 0 + count p 0 (n - 0) ≡ count p 0 n
  count_start n = rw (sub-zero n) (zero-add (count p 0 n))

  pub count_turn : (n i m m' : ℕ) → i < n → m ≤ i → m' ≡ m + one (p i) → m + count p i (n - i) ≡ count p 0 n
      → (i + 1 ≤ n) × (m' ≤ i + 1) × (m' + count p (i + 1) (n - (i + 1)) ≡ count p 0 n)
  count_turn n i m m' h k e inv =
      let b : one (p i) ≤ 1 = one_le (p i) in
      let s : m + count p i (n - i) ≡ m + one (p i) + count p (i + 1) (n - (i + 1)) = count_next n i m h in
      (omega arith, omega arith, omega arith)

pub one_on : (b : Bool) (m : ℕ) → b ≡ true → m + 1 ≡ m + one b
one_on b m e = rw e

pub one_off : (b : Bool) (m : ℕ) → b ≡ false → m ≡ m + one b
one_off b m e = rw e (omega arith)

-- two tests
module _ (p q : ℕ → Bool) where
  -- that agree on the range
  pub lowest_cong : (i n : ℕ) → ((j : ℕ) → i ≤ j → j < i + n → p j ≡ q j) → lowest p i n ≡ lowest q i n
  lowest_cong i zero f = refl
  lowest_cong i (suc n) f =
      ap (λ (b : Bool). choose b (Some i) (lowest p (suc i) n)) (f i (omega arith) (omega arith))
      ∙ ap (λ (h : Option ℕ). choose (q i) (Some i) h)
      (lowest_cong (suc i) n (λ j a b. f j (omega arith) (omega arith)))

  pub count_cong : (i n : ℕ) → ((j : ℕ) → i ≤ j → j < i + n → p j ≡ q j) → count p i n ≡ count q i n
  count_cong i zero f = refl
  count_cong i (suc n) f =
      ap (λ (b : Bool). one b + count p (suc i) n) (f i (omega arith) (omega arith))
      ∙ ap (λ (m : ℕ). one (q i) + m) (count_cong (suc i) n (λ j a b. f j (omega arith) (omega arith)))
