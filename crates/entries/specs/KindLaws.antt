-- What a blank entry says: its size is 0.
use Rattle.std.specs.Prelude.{◌≡◌, refl, true, ℕ, zero, suc, List, [], ◌∷◌, take, drop, eqb}
use Rattle.std.proofs.Common.{arith, eqb-true}
use Rattle.rules.specs.RefusalLaws.{and_left, and_right, and_both}
use Rattle.octets.specs.Equality.{all_zero}
use Rattle.octets.specs.LittleEndian.{number_of}
use Rattle.octets.specs.Splice.{part}
use Rattle.entries.specs.Entry.{size_in}

zero_take : (n : ℕ) (xs : List ℕ) → all_zero xs ≡ true → all_zero (take n xs) ≡ true
unfolding all_zero
zero_take zero xs e = refl
zero_take (suc n) [] e = refl
zero_take (suc n) (x ∷ xs) e =
    and_both (eqb x 0) (all_zero (take n xs)) (and_left (eqb x 0) (all_zero xs) e)
    (zero_take n xs (and_right (eqb x 0) (all_zero xs) e))

zero_drop : (n : ℕ) (xs : List ℕ) → all_zero xs ≡ true → all_zero (drop n xs) ≡ true
unfolding all_zero
zero_drop zero xs e = e
zero_drop (suc n) [] e = refl
zero_drop (suc n) (x ∷ xs) e = zero_drop n xs (and_right (eqb x 0) (all_zero xs) e)

zero_number : (xs : List ℕ) → all_zero xs ≡ true → number_of xs ≡ 0
unfolding all_zero number_of
zero_number [] e = refl
zero_number (x ∷ xs) e =
    let h : x ≡ 0 = eqb-true x 0 (and_left (eqb x 0) (all_zero xs) e) in
    let t : number_of xs ≡ 0 = zero_number xs (and_right (eqb x 0) (all_zero xs) e) in
    omega arith

pub zero_size : (entry : List ℕ) → all_zero entry ≡ true → size_in entry ≡ 0
unfolding size_in part
zero_size entry e = zero_number (take 8 (drop 40 entry)) (zero_take 8 (drop 40 entry) (zero_drop 40 entry e))
