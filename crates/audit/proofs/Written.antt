-- Turns of the loop that writes the states of the slots from the first byte of the buffer on.
use mathlib.Core.Path.{◌≡◌, sym, ap, ap₂, ◌∙◌}
use mathlib.Core.List.{List, ◌++◌}
use Prim.Native.Nat.{ℕ, ◌+◌, ◌≤◌, ◌<◌}
use native.Mathlib.Nat.{zero-add}
use native.Mathlib.Numerals.{add-one}
use native.Mathlib.Omega.{arith}
use lib.ListN.{length, drop, get_or, set}
use lib.Seq.{paste, paste-suc, take-length}
use Rattle.octets.specs.Splice.{splice}
use Rattle.audit.specs.Audit.{slot_state, slot_states}
use Rattle.audit.specs.AuditLaws.{states_length, state_at}

module _ (deal states : List ℕ) (slots : ℕ) where
  -- the buffer with the states of the first i slots written
  abbrev pub written_to : ℕ → List ℕ
  written_to i = paste states 0 (slot_states deal slots) i

  pub state_written : slots ≤ length states → (now : List ℕ) (i state : ℕ) → i < slots
      → now ≡ written_to i → state ≡ slot_state deal i → set now i state ≡ written_to (i + 1)
  state_written room now i state h e s =
      let written = slot_states deal slots in
      let l = states_length deal slots in
      ap₂ (λ (d : List ℕ) (x : ℕ). set d i x) e (s ∙ sym (state_at deal slots i h))
      ∙ ap (λ (j : ℕ). set (written_to i) j (get_or written i 0)) (sym (zero-add i))
      ∙ paste-suc states 0 written i 0 (omega arith) (omega arith)
      ∙ ap written_to (sym (add-one i))

  pub all_written : written_to slots ≡ splice states 0 (slot_states deal slots)
  unfolding splice
  all_written =
      let written = slot_states deal slots in
      ap written_to (sym (states_length deal slots))
      ∙ ap (λ (s : List ℕ). s ++ drop (0 + length written) states) (take-length written)
