-- What an audit shows of a deal (document 02, request (xi)).
use Rattle.std.specs.Prelude.{◌≡◌, ◌⊎◌, ℕ, ◌<◌, List, length, get_or}
use Rattle.sizes.specs.Sizes.{entry_count}
use Rattle.audit.specs.Audit.{audit_code, audited_states}

-- the byte for slot i: byte i of the lent buffer after the audit
abbrev pub shown_for : List ℕ → List ℕ → ℕ → ℕ
shown_for deal states i = get_or (audited_states deal states) i 0

-- "shows only 0 and 5": the audit answers 0, and the byte for every slot is one of these
pub record ShowsOnly0And5 (deal states : List ℕ) : Type 0 where
  pub answers_0 : audit_code deal states ≡ 0
  pub each_0_or_5 : (i : ℕ) → i < entry_count (length deal)
      → (shown_for deal states i ≡ 0) ⊎ (shown_for deal states i ≡ 5)
