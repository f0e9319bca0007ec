-- What the tests on byte strings say.
use Rattle.std.specs.Prelude.{◌≡◌, refl, Bool, true, false, ◌&&◌, ℕ, List, [], ◌∷◌, ◌++◌, eqb, length, replicate}
use Rattle.std.proofs.Common.{sym, ap, ap₂, ◌∙◌, true≢false, arith, eqb-true, eq-eqb}
use Rattle.std.specs.Prelude.{nat_eq}
use Rattle.std.specs.Cmp.Lexicographic.{pointwise}
use Rattle.std.specs.List.{list_all}
use Rattle.octets.specs.Equality.{same_bytes, all_zero}
use Rattle.rules.specs.RefusalLaws.{and_left, and_right}

-- the words of std's `==` and `all`
pub pointwise_same : (v w : List ℕ) → pointwise nat_eq v w ≡ same_bytes v w
unfolding same_bytes
pointwise_same [] [] = refl
pointwise_same [] (y ∷ ys) = refl
pointwise_same (x ∷ xs) [] = refl
pointwise_same (x ∷ xs) (y ∷ ys) = ap (λ (b : Bool). eqb x y && b) (pointwise_same xs ys)

pub all_zeros : (v : List ℕ) → list_all (λ (x : ℕ). eqb x 0) v ≡ all_zero v
unfolding all_zero
all_zeros [] = refl
all_zeros (x ∷ xs) = ap (λ (b : Bool). eqb x 0 && b) (all_zeros xs)

pub same_true : (v w : List ℕ) → same_bytes v w ≡ true → v ≡ w
unfolding same_bytes
same_true [] [] e = refl
same_true [] (y ∷ ys) e = cc
same_true (x ∷ xs) [] e = cc
same_true (x ∷ xs) (y ∷ ys) e =
    ap₂ ◌∷◌ (eqb-true x y (and_left (eqb x y) (same_bytes xs ys) e))
    (same_true xs ys (and_right (eqb x y) (same_bytes xs ys) e))

pub same_refl : (v : List ℕ) → same_bytes v v ≡ true
unfolding same_bytes
same_refl [] = refl
same_refl (x ∷ xs) = ap₂ ◌&&◌ (eq-eqb x x refl) (same_refl xs)

pub same_of : (v w : List ℕ) → v ≡ w → same_bytes v w ≡ true
same_of v w e = sym (ap (same_bytes v) e) ∙ same_refl v

pub same_false : (v w : List ℕ) → same_bytes v w ≡ false → v ≡ w → ⊥
same_false v w e h = true≢false (sym (same_of v w h) ∙ e)

pub zero_true : (v : List ℕ) → all_zero v ≡ true → v ≡ replicate (length v) 0
unfolding all_zero
zero_true [] e = refl
zero_true (x ∷ xs) e =
    ap₂ ◌∷◌ (eqb-true x 0 (and_left (eqb x 0) (all_zero xs) e)) (zero_true xs (and_right (eqb x 0) (all_zero xs) e))

-- zeros, as a comparison
pub zero_same : (v : List ℕ) → all_zero v ≡ same_bytes v (replicate (length v) 0)
unfolding all_zero same_bytes
zero_same [] = refl
zero_same (x ∷ xs) = ap (λ (b : Bool). eqb x 0 && b) (zero_same xs)

-- strings in two pieces, the first ones of one length
and_assoc : (a b c : Bool) → (a && (b && c)) ≡ (a && b && c)
and_assoc true b c = refl
and_assoc false b c = refl

pub same_append : (a b x y : List ℕ) → length a ≡ length x
    → same_bytes (a ++ b) (x ++ y) ≡ (same_bytes a x && same_bytes b y)
unfolding same_bytes
same_append [] b [] y l = refl
same_append [] b (z ∷ x) y l = absurd (omega arith)
same_append (c ∷ a) b [] y l = absurd (omega arith)
same_append (c ∷ a) b (z ∷ x) y l =
    ap (λ (t : Bool). eqb c z && t) (same_append a b x y (omega arith))
    ∙ and_assoc (eqb c z) (same_bytes a x) (same_bytes b y)
