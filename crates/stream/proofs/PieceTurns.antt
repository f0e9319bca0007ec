-- Turns of the loop over the parts of a piece.
use mathlib.Core.Path.{◌≡◌, refl, sym, ap, ◌∙◌}
use mathlib.Core.List.{List, [], ◌∷◌}
use Prim.Native.Nat.{ℕ, ◌≤◌, ◌<◌}
use native.Mathlib.Omega.{arith}
use lib.ListN.{length, take, drop, take-append-drop}
use Rattle.stream.specs.Stream.{largest, failed_with, take_piece}
use Rattle.stream.specs.StreamLaws.{byte_past, piece_append, piece_after_failure}
use Rattle.stream.specs.declared.Stream.{Stream}

-- one byte more than the largest number
past : (t : Stream) (rest : List ℕ) → t.code ≡ 0 → largest ≤ t.count → 0 < length rest
    → take_piece t rest ≡ failed_with 2
unfolding take_piece
past t [] n h l = absurd (omega arith)
past t (b ∷ rest) n h l =
    ap (λ (s : Stream). take_piece s rest) (byte_past t b n h)
    ∙ piece_after_failure (failed_with 2) rest (λ z. omega arith)

-- no byte left
over : (t : Stream) (rest : List ℕ) → length rest ≡ 0 → take_piece t rest ≡ t
unfolding take_piece
over t [] l = refl
over t (b ∷ rest) l = absurd (omega arith)

-- of a piece the rest is left, and the state so far is t
module _ (s t : Stream) (piece rest : List ℕ) (taken : take_piece s piece ≡ take_piece t rest) where
  pub turn_past : t.code ≡ 0 → largest ≤ t.count → 0 < length rest → take_piece s piece ≡ failed_with 2
  turn_past n h l = taken ∙ past t rest n h l

  pub turn_over : length rest ≡ 0 → take_piece s piece ≡ t
  turn_over l = taken ∙ over t rest l

  -- n more bytes are taken at once
  module _ (n : ℕ) (next : Stream) (is : take_piece t (take n rest) ≡ next) where
    pub turn_taken : take_piece s piece ≡ take_piece next (drop n rest)
    turn_taken =
        taken
        ∙ ap (take_piece t) (sym (take-append-drop n rest))
        ∙ piece_append t (take n rest) (drop n rest)
        ∙ ap (λ (r : Stream). take_piece r (drop n rest)) is

    pub turn_failed : (next.code ≡ 0 → ⊥) → take_piece s piece ≡ next
    turn_failed h = turn_taken ∙ piece_after_failure next (drop n rest) h
