-- The ways through one byte, through the end and through what all bytes get, and a piece in two parts.
use Rattle.std.specs.Prelude.{◌≡◌, refl, true, false, List, [], ◌∷◌, ◌++◌, ℕ, ◌+◌, ◌-◌, ◌*◌, ◌/◌, ◌%◌, ◌^◌, ◌≤◌, ◌<◌}
use Rattle.std.specs.Prelude.{length, take, set}
use Rattle.std.proofs.Common.{sym, ap, ◌∙◌, lt_of_not-le, arith, pow_mono}
use borrow.Author.Tests.{eq-eqb, ne_eqb, lt-ltb, le-ltb}
use Rattle.octets.specs.Splice.{part}
use Rattle.pow2.specs.Power.{power_between, height}
use Rattle.pow2.specs.PowerLaws.{power_bounds}
use Rattle.merkle.specs.Tree.{commitment_of}
use Rattle.stray.specs.StrayBits.{clear_node, no_stray_bits}
use Rattle.merkle.specs.CommitmentLaws.{height_five, tree_sized_lem}
use Rattle.stream.specs.Stream.{largest, refused, streamed, failed_with, with_node, counted, take_byte, take_piece}
use Rattle.stream.specs.Stream.{ending, take_pieces, together}
use Rattle.stream.specs.declared.Stream.{Stream}

-- a state in which no code sticks
abbrev pub running : ℕ → List ℕ → List ℕ → Stream
running count partial waiting = record { code = 0; count = count; partial = partial; waiting = waiting }

pub is_running : (s : Stream) → s.code ≡ 0 → s ≡ running s.count s.partial s.waiting
is_running s e = ap (λ (c : ℕ). record { code = c; count = s.count; partial = s.partial; waiting = s.waiting }) e

-- one byte: a code that sticks, a byte past the largest number, and any other
module _ (s : Stream) (b : ℕ) where
  pub byte_after_failure : (s.code ≡ 0 → ⊥) → take_byte s b ≡ s
  unfolding take_byte
  byte_after_failure h = rw (ne_eqb s.code 0 h)

  pub byte_past : s.code ≡ 0 → largest ≤ s.count → take_byte s b ≡ failed_with 2
  unfolding take_byte
  byte_past e h = rw (eq-eqb s.code 0 e, le-ltb s.count largest h)

  pub byte_within : s.code ≡ 0 → s.count < largest
      → take_byte s b ≡ counted (s.count + 1) (set s.partial (s.count % 32) b) s.waiting
  unfolding take_byte
  byte_within e h = rw (eq-eqb s.code 0 e, lt-ltb s.count largest h)

-- after it: the node is not whole, or it is and has stray bits, or has none
module _ (count : ℕ) (partial waiting : List ℕ) where
  pub counted_open : (count % 32 ≡ 0 → ⊥) → counted count partial waiting ≡ running count partial waiting
  counted_open h = rw (ne_eqb (count % 32) 0 h)

  pub counted_stray : count % 32 ≡ 0 → clear_node partial ≡ false → counted count partial waiting ≡ failed_with 11
  counted_stray h e = rw (eq-eqb (count % 32) 0 h, e)

  pub counted_whole : count % 32 ≡ 0 → clear_node partial ≡ true
      → counted count partial waiting ≡ running count partial (with_node 32 0 (count / 32 - 1) partial waiting)
  counted_whole h e = rw (eq-eqb (count % 32) 0 h, e)

-- a piece: a code sticks, and two pieces one after the other are one
pub piece_after_failure : (s : Stream) (bytes : List ℕ) → (s.code ≡ 0 → ⊥) → take_piece s bytes ≡ s
unfolding take_piece
piece_after_failure s [] h = refl
piece_after_failure s (b ∷ bytes) h =
    ap (λ (t : Stream). take_piece t bytes) (byte_after_failure s b h) ∙ piece_after_failure s bytes h

pub piece_append : (s : Stream) (p q : List ℕ) → take_piece s (p ++ q) ≡ take_piece (take_piece s p) q
unfolding take_piece
piece_append s [] q = refl
piece_append s (b ∷ p) q = piece_append (take_byte s b) p q

pub pieces_together : (s : Stream) (pieces : List (List ℕ)) → take_pieces s pieces ≡ take_piece s (together pieces)
unfolding take_pieces take_piece together
pieces_together s [] = refl
pieces_together s (p ∷ pieces) = pieces_together (take_piece s p) pieces ∙ sym (piece_append s p (together pieces))

-- the end: where a code sticks, where the number of bytes is refused, and where it is not
module _ (s : Stream) where
  pub ends_stray : s.code ≡ 11 → ending s ≡ refused 11
  unfolding ending
  ends_stray e = rw e

  pub ends_failed : (s.code ≡ 0 → ⊥) → (s.code ≡ 11 → ⊥) → ending s ≡ refused 2
  unfolding ending
  ends_failed h k = rw (ne_eqb s.code 0 h, ne_eqb s.code 11 k)

  pub ends_refused : s.code ≡ 0 → power_between 32 largest s.count ≡ false → ending s ≡ refused 2
  unfolding ending
  ends_refused e p = simp (e, p)

  pub ends_committed : s.code ≡ 0 → power_between 32 largest s.count ≡ true
      → ending s ≡ record { code = 0; node = part s.waiting (32 * (height s.count - 5)) 32; count = s.count }
  unfolding ending
  ends_committed e p = simp (e, p)

-- what all the bytes together get: the same three ways
module _ (bytes : List ℕ) where
  pub gets_stray : no_stray_bits (take largest bytes) ≡ false → streamed bytes ≡ refused 11
  unfolding streamed
  gets_stray e = simp e

  pub gets_refused : no_stray_bits (take largest bytes) ≡ true → power_between 32 largest (length bytes) ≡ false
      → streamed bytes ≡ refused 2
  unfolding streamed
  gets_refused e p = simp (e, p)

  pub gets_committed : no_stray_bits (take largest bytes) ≡ true → power_between 32 largest (length bytes) ≡ true
      → streamed bytes
      ≡ record { code = 0; node = commitment_of (height (length bytes) - 5) bytes; count = length bytes }
  unfolding streamed
  gets_committed e p = simp (e, p)

-- the height of the tree over a number of bytes that is allowed: one of the 32 that wait
module _ (n : ℕ) (allowed : power_between 32 largest n ≡ true) where
  fits : n < 2 ^ 64
  fits = omega (arith, (power_bounds 32 largest n allowed).1)

  pub tree_height : 5 ≤ height n
  tree_height = height_five 32 largest n (omega arith) fits allowed

  pub tree_bytes : n ≡ 32 * 2 ^ (height n - 5)
  tree_bytes = tree_sized_lem 32 largest n (omega arith) fits allowed

  pub height_waits : height n - 5 < 32
  height_waits =
      lt_of_not-le
      (λ (g : 32 ≤ height n - 5).
      let q : 2 ^ 32 ≤ 2 ^ (height n - 5) = pow_mono g in
      omega (arith, (power_bounds 32 largest n allowed).1, tree_bytes))
