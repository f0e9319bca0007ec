-- What a piece makes of a state in which no code sticks.
use mathlib.Core.Path.{◌≡◌, sym, ap, ◌∙◌}
use mathlib.Core.List.{List}
use Prim.Native.Nat.{ℕ}
use Rattle.stream.specs.Stream.{take_piece}
use Rattle.stream.specs.StreamLaws.{running, is_running}
use Rattle.stream.specs.declared.Stream.{Stream}

module _ (s : Stream) (no_code : s.code ≡ 0) (bytes : List ℕ) where
  pub taken_from : (t : Stream) → take_piece (running s.count s.partial s.waiting) bytes ≡ t → take_piece s bytes ≡ t
  taken_from t e = ap (λ (r : Stream). take_piece r bytes) (is_running s no_code) ∙ e

  pub taken_with : (count : ℕ) (partial waiting : List ℕ)
      → take_piece (running s.count s.partial s.waiting) bytes ≡ running count partial waiting
      → take_piece s bytes ≡ record { code = s.code; count = count; partial = partial; waiting = waiting }
  taken_with count partial waiting e =
      taken_from (running count partial waiting) e
      ∙ ap (λ (c : ℕ). record { code = c; count = count; partial = partial; waiting = waiting }) (sym no_code)
