-- The invariant of request (xiii) holds of an all-zero deal: nothing stands, and nothing is booked.
use Rattle.std.specs.Prelude.{◌≡◌, true, false, ℕ, ◌<◌, List, [], length, replicate}
use Rattle.std.proofs.Common.{sym, ap, ◌∙◌, true≢false}
use Rattle.sizes.specs.Sizes.{lent_size_allowed, entry_count}
use Rattle.sizes.specs.SizesLaws.{lent_size}
use Rattle.index.specs.Slots.{slot_at, standing}
use Rattle.room.specs.Room.{Range}
use Rattle.ranges.specs.Ranges.{ranges_of}
use Rattle.ranges.specs.RangesLaws.{range_free}
use Rattle.packing.specs.Total.{total}
use Rattle.packing.specs.TotalLaws.{total_zero}
use Rattle.demands.specs.DealCalls.{all_zero_deal}
use Rattle.demands.proofs.ZeroDealLaws.{none_stands}
use Rattle.demands.proofs.SoundLaws.{zeros_sound}
use Rattle.demands.specs.History.{sum_of}
use Rattle.demands.specs.Assured.{Assured}

module _ (d : ℕ) (table : List ℕ) (allowed : lent_size_allowed d ≡ true) where
  abbrev zeros : List ℕ
  zeros = replicate d 0

  abbrev slots : ℕ
  slots = entry_count (length zeros)

  nothing_stands : (i : ℕ) → i < slots → standing (length zeros) (slot_at zeros i) ≡ false
  nothing_stands i h = none_stands d i (lent_size (length zeros) (zeros_sound d allowed).size_allowed).deal h

  -- no slot takes up any bytes
  no_area : (i : ℕ) → i < slots → (ranges_of zeros i).area ≡ 0
  no_area i h = ap (λ (r : Range). r.area) (range_free (length zeros) (slot_at zeros i) (nothing_stands i h))

  zero_sums : (number : Range → ℕ) → ((r : Range) → r.area ≡ 0 → number r ≡ 0)
      → 0 ≡ total (λ i. number (ranges_of zeros i)) slots
  zero_sums number none =
      sym (total_zero (λ i. number (ranges_of zeros i)) slots (λ i h. none (ranges_of zeros i) (no_area i h)))

  pub zeros_assured : Assured [] (all_zero_deal d table)
  unfolding sum_of
  zeros_assured =
      record {
        sound = zeros_sound d allowed;
        no_two = λ house i j hi hj si sj size bytes. absurd (true≢false (sym si.0 ∙ nothing_stands i hi));
        each_kept = λ b among. absurd among;
        all_booked = λ i h s. absurd (true≢false (sym s ∙ nothing_stands i h));
        same_sums = zero_sums;
      }
