-- Turns of a loop that writes a list into another, one element after the other.
use Rattle.std.specs.Prelude.{ℕ, ◌+◌, ◌<◌, ◌≡◌, get_or, set}
use Rattle.std.proofs.Math.Path.{ap}
use Rattle.std.proofs.Common.{◌∙◌, add-one}
use mathlib.Core.List.{List, ◌++◌}
use Rattle.std.proofs.Math.ListN.{length, take, drop}
use Rattle.std.proofs.Math.Seq.{paste, paste-suc, take-length}
use Rattle.octets.specs.Splice.{splice}

module _ (d : List ℕ) (at : ℕ) (s : List ℕ) where
  pub paste_next : (e : List ℕ) (i : ℕ) → at + i < length d → i < length s → e ≡ paste d at s i
      → set e (at + i) (get_or s i 0) ≡ paste d at s (i + 1)
  paste_next e i h k q = ap (λ (l : List ℕ). set l (at + i) (get_or s i 0)) q ∙ rw (add-one i) (paste-suc d at s i 0 h k)

  pub paste_whole : (i : ℕ) → i ≡ length s → paste d at s i ≡ splice d at s
  unfolding splice
  paste_whole i q =
      ap (λ (k : ℕ). paste d at s k) q ∙ ap (λ (l : List ℕ). take at d ++ l ++ drop (at + length s) d) (take-length s)
