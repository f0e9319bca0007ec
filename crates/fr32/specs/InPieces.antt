-- Fr32 padding in pieces: raw bytes whose number is a multiple of 127 fill whole nodes, four for each 127 bytes. So
-- their segment followed by the segment of the bytes after them is the segment of all of them.
use Rattle.std.specs.Prelude.{◌≡◌, ℕ, zero, suc, ◌+◌, ◌*◌, ◌/◌, ◌%◌, ◌^◌, ◌<◌, List, [], ◌∷◌, ◌++◌, map, length, take}
use Rattle.std.specs.Prelude.{refl}
use Rattle.std.proofs.Common.{sym, ◌∙◌, mul_assoc, mul_comm, append_assoc, pow_pos, pow-add, shr_lt}
use Rattle.std.proofs.Math.Path.{ap, ap₂}
use Rattle.std.proofs.Math.Nat.{add-mul-div_left, add-mul-mod_self_left}
use native.Mathlib.Omega.{arith}
use Rattle.std.proofs.Math.ListN.{length-append}
use Rattle.std.proofs.Math.Seq.{take_all, take-append-add}
use Rattle.octets.specs.Bytes.{Bytes}
use Rattle.octets.specs.LittleEndian.{number_of, bytes_of}
use Rattle.fr32.specs.Padding.{segment_length, segment_nodes, nodes_of, padded}
use Rattle.fr32.specs.BitLaws.{power_of_bytes, number_append}
use Rattle.fr32.specs.PaddingLaws.{length_nodes_of}
use Rattle.fr32.specs.CapacityLaws.{number_in_bits}

-- a number with another above its 254 m bits: its m nodes, then those of the other
nodes_append : (m n v w : ℕ) → v < 2 ^ (254 * m)
    → nodes_of (m + n) (v + 2 ^ (254 * m) * w) ≡ nodes_of m v ++ nodes_of n w
unfolding nodes_of
nodes_append zero n v w h =
    let e : zero + n ≡ n = omega arith in
    let z : v + 2 ^ (254 * 0) * w ≡ w = omega arith in
    ap₂ nodes_of e z
nodes_append (suc m) n v w h =
    let f : 254 * suc m ≡ 254 * m + 254 = omega arith in
    let p : 2 ^ (254 * suc m) * w ≡ 2 ^ 254 * (2 ^ (254 * m) * w) =
    ap (λ (q : ℕ). 2 ^ q * w) f
    ∙ ap (λ (q : ℕ). q * w) (pow-add 2 (254 * m) 254 ∙ mul_comm (2 ^ (254 * m)) (2 ^ 254))
    ∙ mul_assoc (2 ^ 254) (2 ^ (254 * m)) w in
    let e : suc m + n ≡ suc (m + n) = omega arith in
    let b : v < 2 ^ (254 * m + 254) = rw f at h in
    ap₂ nodes_of e (ap (λ (q : ℕ). v + q) p)
    ∙ ap₂ (λ (a c : ℕ). bytes_of 32 a ++ nodes_of (m + n) c)
    (add-mul-mod_self_left v (2 ^ 254) (2 ^ (254 * m) * w))
    (add-mul-div_left v (2 ^ (254 * m) * w) (pow_pos 254))
    ∙ ap (λ (l : List ℕ). bytes_of 32 (v % 2 ^ 254) ++ l) (nodes_append m n (v / 2 ^ 254) w (shr_lt (254 * m) 254 b))
    ∙ sym (append_assoc (bytes_of 32 (v % 2 ^ 254)) (nodes_of m (v / 2 ^ 254)) (nodes_of n w))

module _ (xs ys : List ℕ) (bytes : Bytes xs) (blocks : length xs % 127 ≡ 0) where
  -- 127 bytes are 4 x 254 bits
  abbrev k : ℕ
  k = length xs / 127

  sized : length xs ≡ 127 * k
  sized = omega arith

  above : 256 ^ length xs ≡ 2 ^ (254 * (4 * k))
  above =
      let e : 8 * length xs ≡ 254 * (4 * k) = omega arith in
      sym (power_of_bytes (length xs)) ∙ ap (λ (n : ℕ). 2 ^ n) e

  below : number_of xs < 2 ^ (254 * (4 * k))
  below =
      let e : 8 * length xs ≡ 254 * (4 * k) = omega arith in
      rw e at (number_in_bits xs bytes)

  -- the first segment is whole nodes
  first : padded xs ≡ nodes_of (4 * k) (number_of xs)
  unfolding padded
  first =
      let m : segment_nodes (length xs) ≡ 4 * k = omega arith in
      let l = length_nodes_of (4 * k) (number_of xs) in
      ap (λ (n : ℕ). take (segment_length (length xs)) (nodes_of n (number_of xs))) m
      ∙ take_all (segment_length (length xs)) (nodes_of (4 * k) (number_of xs)) (omega arith)

  all_nodes_lem : number_of (xs ++ ys) ≡ number_of xs + 2 ^ (254 * (4 * k)) * number_of ys
  all_nodes_lem = number_append xs ys ∙ ap (λ (p : ℕ). number_of xs + p * number_of ys) above

  pub padded_append : padded (xs ++ ys) ≡ padded xs ++ padded ys
  unfolding padded
  padded_append =
      let x = nodes_of (4 * k) (number_of xs) in
      let y = nodes_of (segment_nodes (length ys)) (number_of ys) in
      let l = length_nodes_of (4 * k) (number_of xs) in
      let a = length-append xs ys in
      let s : segment_length (length (xs ++ ys)) ≡ length x + segment_length (length ys) = omega arith in
      let m : segment_nodes (length (xs ++ ys)) ≡ 4 * k + segment_nodes (length ys) = omega arith in
      let n = nodes_append (4 * k) (segment_nodes (length ys)) (number_of xs) (number_of ys) below in
      ap₂ take s (ap₂ nodes_of m all_nodes_lem ∙ n)
      ∙ take-append-add x y (segment_length (length ys))
      ∙ ap (λ (v : List ℕ). v ++ take (segment_length (length ys)) y) (sym first)

-- bytes one after the other
unfoldable pub joined : List (List ℕ) → List ℕ
joined [] = []
joined (p ∷ ps) = p ++ joined ps

-- pieces of raw bytes, each a multiple of 127
abbrev pub Blocks : List (List ℕ) → Type 0
Blocks [] = Unit {0}
Blocks (p ∷ ps) = Bytes p × (length p % 127 ≡ 0) × Blocks ps

-- Any number of such pieces, and a last one of any length: their segments one after the other are the segment of all.
pub padded_in_pieces : (pieces : List (List ℕ)) (last : List ℕ) → Blocks pieces
    → padded (joined pieces ++ last) ≡ joined (map padded pieces) ++ padded last
unfolding joined
padded_in_pieces [] last h = refl
padded_in_pieces (p ∷ ps) last h =
    ap padded (append_assoc p (joined ps) last)
    ∙ padded_append p (joined ps ++ last) h.0 h.1
    ∙ ap (λ (l : List ℕ). padded p ++ l) (padded_in_pieces ps last h.2)
    ∙ sym (append_assoc (padded p) (joined (map padded ps)) (padded last))
