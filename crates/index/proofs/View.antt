-- The view of a segment by the numbers that were found.
use mathlib.Core.Path.{◌≡◌, sym, ap, ◌∙◌, subst}
use mathlib.Core.List.{List}
use Prim.Native.Nat.{ℕ, ◌+◌, ◌-◌, ◌≤◌}
use lib.ListN.{length, take, drop}
use Rattle.octets.specs.Splice.{part}
use Rattle.octets.specs.SpliceLaws.{part_range}
use Rattle.lent.specs.LentDeal.{LentDeal, deal_size}
use Rattle.index.specs.Find.{find_numbers, find_view, FoundSegment}
use Rattle.index.specs.FindLaws.{find_within, view_length}

module _ (deal : LentDeal) (commitment : List ℕ) (answer : FoundSegment)
    (e : answer ≡ find_numbers deal commitment) where
  pub answer_within : answer.offset + answer.size ≤ deal_size deal
  answer_within =
      subst (λ (n : FoundSegment). n.offset + n.size ≤ deal_size deal) (sym e) (find_within deal commitment)

  -- the part of the deal from the offset to the end
  pub view_is : take (answer.offset + answer.size - answer.offset) (drop answer.offset deal.bytes)
      ≡ find_view deal commitment
  unfolding find_view
  view_is =
      part_range deal.bytes answer.offset answer.size
      ∙ ap (λ (n : FoundSegment). part deal.bytes n.offset n.size) e

  pub view_size : length (take (answer.offset + answer.size - answer.offset) (drop answer.offset deal.bytes))
      ≡ (find_numbers deal commitment).size
  view_size = ap length view_is ∙ view_length deal commitment
