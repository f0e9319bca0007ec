-- Overlap as facts on numbers.
use Rattle.std.specs.Prelude.{◌≡◌, true, false, ◌↔◌, ◌⊎◌, ℕ, suc, ◌+◌, ◌-◌, ◌*◌, ◌/◌, ◌%◌, ◌^◌, ◌≤◌, ◌<◌, ltb}
use Rattle.std.proofs.Common.{
  sym,
  ap,
  ◌∙◌,
  true≢false,
  inl,
  inr,
  ⊎_elim,
  suc-mul,
  add-mul,
  mul_assoc,
  add-zero,
  div-add-mod',
  le-div_iff_mul-le,
  mul-le-mul_right,
  lt_of_mul-lt-mul_right,
  arith,
  pow_pos,
  pow-add,
  ltb-true,
  lt-ltb,
}
use Rattle.std.proofs.Math.Bool.{and_comm}
use Rattle.std.proofs.Math.Decide.{dec_le}
use Rattle.rules.specs.RefusalLaws.{and_left, and_right, not_passed}
use Rattle.room.specs.Room.{overlap}

-- the n bytes from o and the m bytes from p overlap exactly if each starts before the other ends
pub overlap_true : (o n p m : ℕ) → (overlap o n p m ≡ true) ↔ ((o < p + m) × (p < o + n))
unfolding overlap
overlap_true o n p m = (
  λ e. (
    ltb-true o (p + m) (and_left (ltb o (p + m)) (ltb p (o + n)) e),
    ltb-true p (o + n) (and_right (ltb o (p + m)) (ltb p (o + n)) e),
  ),
  λ h. rw (lt-ltb o (p + m) h.0, lt-ltb p (o + n) h.1),
)

-- they do not exactly if one ends by the start of the other
pub overlap_false : (o n p m : ℕ) → (overlap o n p m ≡ false) ↔ ((p + m ≤ o) ⊎ (o + n ≤ p))
overlap_false o n p m = (
  λ e.
      elim (dec_le (p + m) o) [
        | yes after ↦ inl after
        | no h ↦
            elim (dec_le (o + n) p) [
              | yes before ↦ inr before
              | no k ↦ absurd (true≢false (sym ((overlap_true o n p m).1 (omega arith, omega arith)) ∙ e))
            ]
      ],
  λ h.
      not_passed (overlap o n p m)
      (λ e. let t = (overlap_true o n p m).0 e in ⊎_elim (λ after. omega arith) (λ before. omega arith) h),
)

pub overlap_sym : (o n p m : ℕ) → overlap o n p m ≡ overlap p m o n
unfolding overlap
overlap_sym o n p m = and_comm (ltb o (p + m)) (ltb p (o + n))

-- a multiple is its quotient times the divisor
pub multiple : (o n : ℕ) → o % n ≡ 0 → o ≡ o / n * n
multiple o n z = sym (div-add-mod' o n) ∙ ap (λ (m : ℕ). o / n * n + m) z ∙ add-zero (o / n * n)

-- k units from unit c reach unit a only if they hold all of it
unit_within : (u a c k : ℕ) → c * u < a * u + u → a * u < c * u + k * u
    → (c * u ≤ a * u) × (a * u + u ≤ c * u + k * u)
unit_within u a c k h g =
    let x : c < suc a = lt_of_mul-lt-mul_right u (omega (arith, suc-mul a u)) in
    let y : a < c + k = lt_of_mul-lt-mul_right u (omega (arith, add-mul c k u)) in
    let v : suc a * u ≤ (c + k) * u = mul-le-mul_right u y in
    (mul-le-mul_right u (omega arith), omega (arith, suc-mul a u, add-mul c k u))

-- areas, powers of two at multiples of themselves, overlap exactly if the smaller lies within the larger
pub aligned_overlap : (i j o p : ℕ) → i ≤ j → o % 2 ^ i ≡ 0 → p % 2 ^ j ≡ 0
    → (overlap o (2 ^ i) p (2 ^ j) ≡ true) ↔ ((p ≤ o) × (o + 2 ^ i ≤ p + 2 ^ j))
aligned_overlap i j o p h y z = (
  λ e. inside ((overlap_true o (2 ^ i) p (2 ^ j)).0 e),
  λ t. (overlap_true o (2 ^ i) p (2 ^ j)).1 (omega (arith, pow_pos i), omega (arith, pow_pos i)),
)
  where
    scale : 2 ^ j ≡ 2 ^ (j - i) * 2 ^ i
    scale = ap (λ (m : ℕ). 2 ^ m) (omega arith) ∙ pow-add 2 (j - i) i

    inside : ((o < p + 2 ^ j) × (p < o + 2 ^ i)) → (p ≤ o) × (o + 2 ^ i ≤ p + 2 ^ j)
    inside t =
        let a : o ≡ o / 2 ^ i * 2 ^ i = multiple o (2 ^ i) y in
        let c : p ≡ p / 2 ^ j * 2 ^ (j - i) * 2 ^ i =
        multiple p (2 ^ j) z
        ∙ ap (λ (m : ℕ). p / 2 ^ j * m) scale
        ∙ sym (mul_assoc (p / 2 ^ j) (2 ^ (j - i)) (2 ^ i)) in
        let s = scale in
        let w = unit_within (2 ^ i) (o / 2 ^ i) (p / 2 ^ j * 2 ^ (j - i)) (2 ^ (j - i)) (omega arith) (omega arith) in
        (omega (arith, w.0), omega (arith, w.1))

-- the n bytes from k * n end by a limit exactly if k is below the whole number of times that n goes into it
pub place_ends : (k n limit : ℕ) → 0 < n → (k < limit / n) ↔ (k * n + n ≤ limit)
place_ends k n limit h = (
  λ l. omega (arith, (le-div_iff_mul-le h).0 l, suc-mul k n),
  λ r. (le-div_iff_mul-le h).1 (omega (arith, suc-mul k n)),
)

-- where the n bytes from k * n overlap the m bytes from p, so do those from every later multiple that starts before
-- these end
pub overlap_jump : (n p m k j : ℕ) → overlap (k * n) n p m ≡ true → k ≤ j → j * n < p + m
    → overlap (j * n) n p m ≡ true
overlap_jump n p m k j e h g =
    let t = (overlap_true (k * n) n p m).0 e in
    (overlap_true (j * n) n p m).1 (g, omega (arith, mul-le-mul_right n h, t.1))
