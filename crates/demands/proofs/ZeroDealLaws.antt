-- An all-zero deal: every slot is blank, and none has a standing entry.
use Rattle.std.specs.Prelude.{◌≡◌, false, ℕ, ◌<◌, List, length, replicate}
use Rattle.std.proofs.Common.{ap, ◌∙◌, arith}
use Rattle.std.proofs.lemmas.List.{length-replicate}
use Rattle.sizes.specs.Sizes.{entry_count, slot_place}
use Rattle.sizes.specs.SizesLaws.{DealSize}
use Rattle.index.specs.Slots.{slot_at, standing}
use Rattle.index.specs.SlotsLaws.{zero_free}
use Rattle.index.specs.KeptRowsLaws.{slot_within}
use Rattle.collect.specs.ZerosLaws.{zeros_part}

module _ (d : ℕ) (i : ℕ) where
  abbrev zeros : List ℕ
  zeros = replicate d 0

  module _ (t : DealSize (length (replicate {A = ℕ} d 0)))
      (h : i < entry_count (length (replicate {A = ℕ} d 0))) where
    pub all_blank : slot_at (replicate d 0) i ≡ replicate 64 0
    all_blank =
        let n = length zeros in
        zeros_part d (slot_place n i) 64 (omega (arith, slot_within n i t h, length-replicate {A = ℕ} d 0))

    pub none_stands : standing (length (replicate {A = ℕ} d 0)) (slot_at (replicate d 0) i) ≡ false
    none_stands = ap (standing (length zeros)) all_blank ∙ zero_free (length zeros)
