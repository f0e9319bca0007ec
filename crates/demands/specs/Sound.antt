-- A sound deal: blank slots and kept entries apart from one another, and nothing else. Our calls lead from an all-zero
-- deal to sound deals alone (SoundLaws.run-sound), and an audit shows only 0 and 5 exactly where a deal is sound
-- (Auditing.only_0_and_5_exactly).
use Rattle.std.specs.Prelude.{◌≡◌, true, ◌⊎◌, ℕ, ◌<◌, List, length, replicate}
use Rattle.stray.specs.StrayBits.{no_stray_bits}
use Rattle.sizes.specs.Sizes.{lent_size_allowed, entry_count}
use Rattle.lent.specs.LentDeal.{lent_deal}
use Rattle.index.specs.Slots.{slot_at, kept_at}
use Rattle.demands.specs.NoneOverlap.{NoneOverlap}

-- slot i is blank: all its 64 bytes are zero; or its entry is kept
abbrev pub IsBlank : List ℕ → ℕ → Type 0
IsBlank deal i = slot_at deal i ≡ replicate 64 0

abbrev pub IsKept : List ℕ → ℕ → Type 0
IsKept deal i = kept_at (lent_deal deal) i ≡ true

pub record Sound (deal : List ℕ) : Type 0 where
  -- the deal gets neither 2 nor 11: its size is that of a lent deal, and no node has stray bits
  pub size_allowed : lent_size_allowed (length deal) ≡ true
  pub clear : no_stray_bits deal ≡ true
  -- every slot is blank or kept
  pub blank_or_kept : (i : ℕ) → i < entry_count (length deal) → IsBlank deal i ⊎ IsKept deal i
  -- and no standing area overlaps another
  pub apart : NoneOverlap deal
