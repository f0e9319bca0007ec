-- Numbers and their bytes, there and back, once over the width.
use Rattle.std.specs.Prelude.{◌≡◌, refl, ℕ, zero, suc, ◌+◌, ◌*◌, ◌/◌, ◌%◌, ◌^◌, ◌<◌, List, [], ◌∷◌, length}
use Rattle.std.proofs.Common.{ap, ap₂, ◌∙◌, pow-suc, div-lt_iff_lt-mul, arith, lit<}
use Rattle.std.proofs.Math.Nat.{mod-add-div}
use Rattle.std.specs.Prelude.{get_or}
use Rattle.std.specs.Int.{w64, byte_at, bytes_low_first, to_le_bytes, from_le_bytes}
use Rattle.std.proofs.Common.{sym}
use Rattle.std.proofs.Math.Nat.{div-one, div-div-eq-div-mul}
use Rattle.std.proofs.lemmas.Nat.{le_bytes_8}
use Rattle.octets.specs.Bytes.{Bytes}
use Rattle.octets.specs.LittleEndian.{number_of, bytes_of}

-- std's words for the same bytes
byte_here : (i v : ℕ) → byte_at i v ≡ v / 256 ^ i % 256
byte_here zero v = ap (λ (x : ℕ). x % 256) (sym (div-one v))
byte_here (suc i) v = refl

low_bytes : (i n v : ℕ) → bytes_low_first i n v ≡ bytes_of n (v / 256 ^ i)
unfolding bytes_of
low_bytes i zero v = refl
low_bytes i (suc n) v =
    let next : v / 256 ^ suc i ≡ v / 256 ^ i / 256 = ap (λ (x : ℕ). v / x) (pow-suc 256 i) ∙ sym (div-div-eq-div-mul v (256 ^ i) 256) in
    ap₂ ◌∷◌ (byte_here i v) (low_bytes (suc i) n v ∙ ap (bytes_of n) next)

pub le_bytes_of : (v : ℕ) → to_le_bytes w64 v ≡ bytes_of 8 v
le_bytes_of v = low_bytes 0 8 v ∙ ap (bytes_of 8) (div-one v)

pub length_bytes_of : (n v : ℕ) → length (bytes_of n v) ≡ n
unfolding bytes_of
length_bytes_of zero v = refl
length_bytes_of (suc n) v = ap suc (length_bytes_of n (v / 256))

pub bytes_bytes_of : (n v : ℕ) → Bytes (bytes_of n v)
unfolding bytes_of
bytes_bytes_of zero v = tt
bytes_bytes_of (suc n) v = (omega arith, bytes_bytes_of n (v / 256))

pub number_of_bytes : (n v : ℕ) → v < 256 ^ n → number_of (bytes_of n v) ≡ v
unfolding number_of bytes_of
number_of_bytes zero v h = omega arith
number_of_bytes (suc n) v h =
    let h' : v < 256 ^ n * 256 = rw pow-suc at h in
    let q : v / 256 < 256 ^ n = (div-lt_iff_lt-mul (lit< tt)).1 h' in
    rw (number_of_bytes n (v / 256) q) (mod-add-div v 256)

pub bytes_of_number : (n : ℕ) (xs : List ℕ) → length xs ≡ n → Bytes xs → bytes_of n (number_of xs) ≡ xs
unfolding number_of bytes_of
bytes_of_number zero [] l h = refl
bytes_of_number zero (x ∷ xs) l h = absurd (omega arith)
bytes_of_number (suc n) [] l h = absurd (omega arith)
bytes_of_number (suc n) (x ∷ xs) l h =
    let b : x < 256 = h.0 in
    let m : (x + 256 * number_of xs) % 256 ≡ x = omega arith in
    let d : (x + 256 * number_of xs) / 256 ≡ number_of xs = omega arith in
    ap₂ ◌∷◌ m (ap (bytes_of n) d ∙ bytes_of_number n xs (omega arith) h.1)

pub number_bound : (n : ℕ) (xs : List ℕ) → length xs ≡ n → Bytes xs → number_of xs < 256 ^ n
unfolding number_of
number_bound zero [] l h = omega arith
number_bound zero (x ∷ xs) l h = absurd (omega arith)
number_bound (suc n) [] l h = absurd (omega arith)
number_bound (suc n) (x ∷ xs) l h =
    let b : x < 256 = h.0 in
    let r : number_of xs < 256 ^ n = number_bound n xs (omega arith) h.1 in
    let p = pow-suc 256 n in
    omega arith

pub each_byte : (xs : List ℕ) → Bytes xs → (i : ℕ) → get_or xs i 0 < 256
each_byte [] b i = omega arith
each_byte (x ∷ xs) b zero = b.0
each_byte (x ∷ xs) b (suc i) = each_byte xs b.1 i

pub le_number_of : (xs : List ℕ) (v : ℕ) → length xs ≡ 8 → Bytes xs → v < 2 ^ 64 → v ≡ from_le_bytes w64 xs → v ≡ number_of xs
le_number_of xs v l h f e =
    sym (number_of_bytes 8 v f) ∙ ap number_of (sym (le_bytes_of v) ∙ le_bytes_8 xs v l (each_byte xs h) e)
