-- The power of two at or above a size, kept between the smallest area and the largest, is the size's area.
use Rattle.std.specs.Prelude.{◌≡◌, refl, Bool, true, false, ℕ, zero, suc, ◌+◌, ◌*◌, ◌/◌, ◌^◌, ◌≤◌, ◌<◌, max, min, leb}
use Rattle.std.specs.Int.{IsPowerOfTwo}
use Rattle.std.proofs.Common.{sym, ap, ◌∙◌, subst, pow-suc, add-zero, pow_mono, leb-true, leb-false, arith}
use Rattle.std.proofs.lemmas.Bool.{lt-leb}
use Rattle.rules.specs.Choice.{choose}
use Rattle.sizes.specs.Sizes.{doubled_to, area}
use Rattle.sizes.specs.AreaLaws.{area_least}

-- a size that n doublings do not reach
over : (n k size : ℕ) → 2 ^ (k + n) < size → doubled_to n (2 ^ k) size ≡ 2 ^ (k + n)
unfolding doubled_to
over zero k size h = ap (λ (m : ℕ). 2 ^ m) (sym (add-zero k))
over (suc n) k size h =
    let p : 2 ^ k ≤ 2 ^ (k + suc n) = pow_mono {i = k} {j = k + suc n} (omega arith) in
    let twice : 2 * 2 ^ k ≡ 2 ^ suc k = omega (arith, pow-suc 2 k) in
    let last : suc k + n ≡ k + suc n = omega arith in
    ap (λ (b : Bool). choose b (2 ^ k) (doubled_to n (2 * 2 ^ k) size)) (lt-leb size (2 ^ k) (omega arith))
    ∙ ap (λ (a : ℕ). doubled_to n a size) twice
    ∙ over n (suc k) size (subst (λ (m : ℕ). 2 ^ m < size) (sym last) h)
    ∙ ap (λ (m : ℕ). 2 ^ m) last

-- a power of two whose half is below a number is at most each power that is not below it
least : (j k x : ℕ) → 2 ^ k / 2 < x → x ≤ 2 ^ j → 2 ^ k ≤ 2 ^ j
least j k x h l = go (leb k j) refl
  where
    go : (t : Bool) → leb k j ≡ t → 2 ^ k ≤ 2 ^ j
    go true e = pow_mono (leb-true k j e)
    go false e =
        let p : 2 ^ suc j ≤ 2 ^ k = pow_mono (leb-false k j e) in
        let q = pow-suc 2 j in
        absurd (omega arith)

whole : (size : ℕ) → 2 ^ 35 < size → area size ≡ 2 ^ 35
unfolding area
whole size h = over 28 7 size h

pub area_next : (size r : ℕ) → IsPowerOfTwo r → max 128 (min size (2 ^ 35)) ≤ r → r / 2 < max 1 (max 128 (min size (2 ^ 35)))
    → r ≡ area size
area_next size r p l u = go (leb size (2 ^ 35)) refl
  where
    go : (t : Bool) → leb size (2 ^ 35) ≡ t → r ≡ area size
    go true e =
        let h : size ≤ 2 ^ 35 = leb-true size (2 ^ 35) e in
        let a = area_least size h in
        let j : ℕ = a.power.0 in
        let q : area size ≡ 2 ^ j = a.power.1 in
        let k : ℕ = p.0 in
        let s : r ≡ 2 ^ k = p.1 in
        let above : area size ≤ 2 ^ k = a.smallest k (omega arith) (omega arith) in
        let below : 2 ^ k ≤ 2 ^ j = least j k (max 128 size) (omega arith) (omega (arith, a.holds_size, a.holds_128)) in
        omega arith
    go false e =
        let h : 2 ^ 35 < size = leb-false size (2 ^ 35) e in
        let q : area size ≡ 2 ^ 35 = whole size h in
        let k : ℕ = p.0 in
        let s : r ≡ 2 ^ k = p.1 in
        let below : 2 ^ k ≤ 2 ^ 35 = least 35 k (2 ^ 35) (omega arith) (omega arith) in
        omega arith
