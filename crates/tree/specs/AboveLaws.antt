-- The nodes above the bytes written: a row of each height, and with a node each node above it.
use Rattle.std.specs.Prelude.{◌≡◌, refl, Bool, true, false, ◌&&◌, ◌⊎◌, ℕ, suc, ◌+◌, ◌-◌, ◌*◌, ◌/◌, ◌^◌, ◌≤◌, ◌<◌, ltb}
use Rattle.std.proofs.Common.{sym, ap, ◌∙◌, inl, inr, ⊎_elim, mul_assoc, add-mul, le-div_iff_mul-le, div-lt_iff_lt-mul}
use Rattle.std.proofs.Common.{arith, pow_pos, ltb-true, ltb-false, lt-ltb, le-ltb}
use Rattle.rules.specs.RefusalLaws.{and_left, and_right}
use Rattle.merkle.specs.TreeLaws.{double}
use Rattle.tree.specs.Renewed.{first_above, count_above, above}

pub span_pos : (h : ℕ) → 0 < 32 * 2 ^ h
span_pos h = let p = pow_pos h in omega arith

module _ (from len h r : ℕ) where
  -- the positions above the bytes written
  pub above_row : above from len h r ≡ true
      → (first_above from h ≤ r) × (r < first_above from h + count_above from len h)
  above_row e =
      let s : ℕ = 32 * 2 ^ h in
      let a : from / s < r + 1 = (div-lt_iff_lt-mul (span_pos h)).1
      (ltb-true from ((r + 1) * s) (and_left (ltb from ((r + 1) * s)) (ltb (r * s) (from + len)) e)) in
      let l : r * s ≤ from + len - 1 = omega
      (arith, ltb-true (r * s) (from + len) (and_right (ltb from ((r + 1) * s)) (ltb (r * s) (from + len)) e)) in
      let b : r ≤ (from + len - 1) / s = (le-div_iff_mul-le (span_pos h)).1 l in
      (omega arith, omega arith)

  pub row_above_lem : 0 < len → first_above from h ≤ r → r < first_above from h + count_above from len h
      → above from len h r ≡ true
  row_above_lem some l g =
      let s : ℕ = 32 * 2 ^ h in
      let a : from < (r + 1) * s = (div-lt_iff_lt-mul (span_pos h)).0 (omega arith) in
      let b : r * s ≤ from + len - 1 = (le-div_iff_mul-le (span_pos h)).0 (omega arith) in
      rw (lt-ltb from ((r + 1) * s) a, lt-ltb (r * s) (from + len) (omega arith))

  pub not_above : 0 < len → above from len h r ≡ false → first_above from h ≤ r
      → r < first_above from h + count_above from len h → ⊥
  not_above some e l g =
      let t : ◌≡◌ {A = Bool} true false = sym (row_above_lem some l g) ∙ e in
      let z : ◌≡◌ {A = ℕ} 0 1 = cc in omega arith

-- a node that is not above the bytes written ends before them or starts after them
pub beside : (from len h q : ℕ) → above from len h q ≡ false
    → ((q + 1) * (32 * 2 ^ h) ≤ from) ⊎ (from + len ≤ q * (32 * 2 ^ h))
beside from len h q e = by (ltb from ((q + 1) * (32 * 2 ^ h))) (ltb (q * (32 * 2 ^ h)) (from + len)) refl refl e
  where
    by : (a b : Bool) → ltb from ((q + 1) * (32 * 2 ^ h)) ≡ a → ltb (q * (32 * 2 ^ h)) (from + len) ≡ b
        → (a && b) ≡ false
        → ((q + 1) * (32 * 2 ^ h) ≤ from) ⊎ (from + len ≤ q * (32 * 2 ^ h))
    by false b k l z = inl (ltb-false from ((q + 1) * (32 * 2 ^ h)) k)
    by true false k l z = inr (ltb-false (q * (32 * 2 ^ h)) (from + len) l)
    by true true k l z = let y : ◌≡◌ {A = ℕ} 0 1 = cc in absurd (omega arith)

-- a set with every node that is above one of its nodes: where a node is not in it, its children are not
abbrev pub Upward : (ℕ → ℕ → Bool) → Type 0
Upward set = (h q : ℕ) → set (suc h) q ≡ false → (set h (q * 2) ≡ false) × (set h (q * 2 + 1) ≡ false)

-- the nodes above written bytes are such a set
module _ (from len q s : ℕ) where
  end_left : (q * 2 + 1) * s ≡ q * 2 * s + 1 * s
  end_left = add-mul (q * 2) 1 s

  end_right : (q * 2 + 1 + 1) * s ≡ (q * 2 + 1) * s + 1 * s
  end_right = add-mul (q * 2 + 1) 1 s

  starts : q * (s + s) ≡ q * 2 * s
  starts = ap (λ (n : ℕ). q * n) (omega arith) ∙ sym (mul_assoc q 2 s)

  ends : (q + 1) * (s + s) ≡ q * (s + s) + 1 * (s + s)
  ends = add-mul q 1 (s + s)

  below_before : (q + 1) * (s + s) ≤ from → ((q * 2 + 1) * s ≤ from) × ((q * 2 + 1 + 1) * s ≤ from)
  below_before l = (omega (arith, end_left, starts, ends), omega (arith, end_left, end_right, starts, ends))

  below_after : from + len ≤ q * (s + s) → (from + len ≤ q * 2 * s) × (from + len ≤ (q * 2 + 1) * s)
  below_after l = (omega (arith, starts), omega (arith, end_left, starts))

module _ (from len h q : ℕ) where
  before_false : (q + 1) * (32 * 2 ^ h) ≤ from → above from len h q ≡ false
  before_false l = rw (le-ltb from ((q + 1) * (32 * 2 ^ h)) l)

  after_false : from + len ≤ q * (32 * 2 ^ h) → above from len h q ≡ false
  after_false l = rw (le-ltb (q * (32 * 2 ^ h)) (from + len) l) (no (ltb from ((q + 1) * (32 * 2 ^ h))))
    where
      no : (b : Bool) → (b && false) ≡ false
      no true = refl
      no false = refl

pub above_upward : (from len : ℕ) → Upward (above from len)
above_upward from len h q e =
    let s : ℕ = 32 * 2 ^ h in
    ⊎_elim
    (λ (l : (q + 1) * (32 * 2 ^ suc h) ≤ from).
    let k = below_before from len q s (rw (← double h) l) in
    (before_false from len h (q * 2) k.0, before_false from len h (q * 2 + 1) k.1))
    (λ (l : from + len ≤ q * (32 * 2 ^ suc h)).
    let k = below_after from len q s (rw (← double h) l) in
    (after_false from len h (q * 2) k.0, after_false from len h (q * 2 + 1) k.1))
    (beside from len (suc h) q e)
