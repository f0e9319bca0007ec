-- Booking with a tree that holds the deal's nodes (document 02, request (vii), the premise as a state): answer, deal
-- and table are those of the plain form, and the tree then holds the nodes of the deal as it then is.
use Rattle.std.specs.Prelude.{◌≡◌, refl, Bool, true, false, ◌&&◌, ◌||◌, ℕ, zero, suc, ◌+◌, ◌≤◌}
use Rattle.std.specs.Prelude.{List, [], ◌∷◌, ◌++◌, length, eqb}
use Rattle.std.proofs.Math.Path.{ap}
use Rattle.std.proofs.Common.{◌∙◌, true≢false, arith}
use Rattle.rules.specs.Refusals.{rule, first_refusal, unless_refused}
use Rattle.rules.specs.SearchLaws.{lowest_cong}
use Rattle.octets.specs.Equality.{same_bytes}
use Rattle.octets.specs.Splice.{part, splice}
use Rattle.octets.specs.SpliceLaws.{length_splice}
use Rattle.stray.specs.StrayBits.{no_stray_bits}
use Rattle.sizes.specs.Sizes.{lent_size_allowed, segment_size_allowed, area, entry_count, slot_place}
use Rattle.sizes.specs.SizesLaws.{index_start_le}
use Rattle.entries.specs.Entry.{offset_in, size_in}
use Rattle.merkle.specs.Tree.{node_at}
use Rattle.tree.specs.Place.{NodeInTree}
use Rattle.tree.specs.TreeNodes.{FilledFor}
use Rattle.tree.specs.Renewed.{above}
use Rattle.tree.specs.KeepLaws.{update_filled, node_beside}
use Rattle.lent.specs.LentDeal.{lent_deal, tree_deal}
use Rattle.lent.specs.FilledLentLaws.{filled_sized}
use Rattle.index.specs.Slots.{slot_at}
use Rattle.index.specs.KeptRowsLaws.{slot_within}
use Rattle.index.specs.FilledKeptLaws.{filled_kept}
use Rattle.room.specs.Decide.{decide, answer_to}
use Rattle.room.specs.Decide.{Decision}
use Rattle.room.specs.Decide.{Refuse, Already, Place}
use Rattle.ranges.specs.Ranges.{ranges_of}
use Rattle.houses.specs.Houses.{house_rules, owned}
use Rattle.booking.specs.Write.{area_bytes, new_entry, written_deal}
use Rattle.booking.specs.WriteLaws.{Fits, entry_64, written_length, written_at_lem}
use Rattle.booking.specs.Booking.{
  book_rules,
  keeps_segment,
  keeps_own,
  lowest_keeping,
  held_in,
  decision,
  deal_after,
  table_after,
  book_answer,
  booked_deal,
  booked_table,
}
use Rattle.booking.specs.BookedTree.{above_either, tree_after, booked_tree}
use Rattle.booking.specs.BookableLaws.{not_refused, bookable_deal, area_length}
use Rattle.booking.proofs.BookedLaws.{booked_fits}
use Rattle.booking.proofs.BookedTreeLaws.{written_renewed}

-- a refusal stays, whatever else would be decided
unless_same : (code : ℕ) (x y : Decision) → (code ≡ 0 → x ≡ y)
    → unless_refused code Refuse x ≡ unless_refused code Refuse y
unless_same zero x y f = f refl
unless_same (suc code) x y f = refl

module _ (deal tree : List ℕ) (f : FilledFor deal tree) (table : List ℕ) (house : ℕ) (segment : List ℕ) where
  -- the slots keep the same segments
  same_keeps : lent_size_allowed (length deal) ≡ true → (i : ℕ)
      → keeps_own (tree_deal deal tree) table house segment i ≡ keeps_own (lent_deal deal) table house segment i
  unfolding keeps_segment
  same_keeps t i =
      let entry = slot_at deal i in
      ap (λ (k : Bool). owned table house i &&
      (k &&
      (eqb (size_in entry) (length segment)
      && same_bytes (part deal (offset_in entry) (area (length segment))) (area_bytes segment))))
      (filled_kept deal tree f t entry)

  same_lowest : lent_size_allowed (length deal) ≡ true
      → lowest_keeping (tree_deal deal tree) table house segment ≡ lowest_keeping (lent_deal deal) table house segment
  same_lowest t =
      lowest_cong (keeps_own (tree_deal deal tree) table house segment)
      (keeps_own (lent_deal deal) table house segment) 0
      (entry_count (length deal)) (λ i a b. same_keeps t i)

  -- the rules refuse alike
  same_refusal : first_refusal (book_rules (tree_deal deal tree) table house segment)
      ≡ first_refusal (book_rules (lent_deal deal) table house segment)
  same_refusal =
      ap (λ (sized : Bool).
      first_refusal
      (house_rules (length deal) table house
      ++ (rule (segment_size_allowed (length deal) (length segment)) 4
      ∷ rule (no_stray_bits deal && no_stray_bits (area_bytes segment)) 11
      ∷ rule sized 12
      ∷ [])))
      (filled_sized deal tree f)

  -- so the same is decided
  pub same_decision : decision (tree_deal deal tree) table house segment ≡ decision (lent_deal deal) table house segment
  unfolding decision
  same_decision =
      let in_room = decide (length deal) (ranges_of deal) (held_in deal table house) (area (length segment)) in
      let code = first_refusal (book_rules (lent_deal deal) table house segment) in
      ap (λ (c : ℕ). unless_refused c Refuse (in_room (lowest_keeping (tree_deal deal tree) table house segment)))
      same_refusal
      ∙ unless_same code _ _
      (λ z. ap in_room (same_lowest ((not_refused (lent_deal deal) table house segment).0 z).bookable.deal_allowed))

  pub same_answer_lem :
      book_answer (tree_deal deal tree) table house segment ≡ book_answer (lent_deal deal) table house segment
  unfolding book_answer
  same_answer_lem = ap (answer_to (length deal) (ranges_of deal)) same_decision

  pub same_deal :
      booked_deal (tree_deal deal tree) table house segment ≡ booked_deal (lent_deal deal) table house segment
  unfolding booked_deal
  same_deal = ap (deal_after deal segment) same_decision

  pub same_table :
      booked_table (tree_deal deal tree) table house segment ≡ booked_table (lent_deal deal) table house segment
  unfolding booked_table
  same_table = ap (table_after table house) same_decision

neither : (a b : Bool) → (a || b) ≡ false → (a ≡ false) × (b ≡ false)
neither false b e = (refl, e)
neither true b e = absurd (true≢false e)

-- where a segment is written, the nodes above neither part are as they were
module _ {deal segment : List ℕ} {i o : ℕ} (facts : Fits deal segment i o) where
  abbrev place : ℕ
  place = slot_place (length deal) i

  abbrev half : List ℕ
  half = splice deal o (area_bytes segment)

  area_in : o + length (area_bytes segment) ≤ length deal
  area_in = omega (arith, area_length facts.bookable, facts.ends, index_start_le (length deal))

  half_length : length half ≡ length deal
  half_length = length_splice deal o (area_bytes segment) area_in

  entry_in : place + length (new_entry segment o) ≤ length half
  entry_in =
      let t = (bookable_deal facts.bookable).deal in
      omega (arith, entry_64 facts, half_length, slot_within (length deal) i t facts.slot_in)

  other_nodes : (h q : ℕ) → NodeInTree (length deal) h q → above_either o (area (length segment)) place h q ≡ false
      → node_at deal h q ≡ node_at (written_deal deal segment i o) h q
  other_nodes h q t e =
      let n = neither (above o (area (length segment)) h q) (above place 64 h q) e in
      node_beside deal (area_bytes segment) o area_in h q t
      (ap (λ (m : ℕ). above o m h q) (area_length facts.bookable) ∙ n.0)
      ∙ node_beside half (new_entry segment o) place entry_in h q
      (record { levels = t.levels; sized = half_length ∙ t.sized; inside = t.inside })
      (ap (λ (m : ℕ). above place m h q) (entry_64 facts) ∙ n.1)
      ∙ ap (λ (x : List ℕ). node_at x h q) (written_at_lem facts)

  written_filled : (tree : List ℕ) → FilledFor deal tree
      → FilledFor (written_deal deal segment i o) (tree_after deal tree segment (Place i o))
  written_filled tree f =
      update_filled deal (written_deal deal segment i o) tree (tree_after deal tree segment (Place i o))
      (above_either o (area (length segment)) place) f (written_length facts) (written_renewed facts tree f.sized)
      other_nodes

-- the tree of a deal is filled for the deal as it is after booking
pub booked_filled : (deal tree : List ℕ) → FilledFor deal tree → (table : List ℕ) (house : ℕ) (segment : List ℕ)
    → FilledFor (booked_deal (tree_deal deal tree) table house segment) (booked_tree deal tree table house segment)
unfolding booked_deal booked_tree
booked_filled deal tree f table house segment = by_cases (decision (tree_deal deal tree) table house segment) refl
  where
    by_cases : (x : Decision) → decision (tree_deal deal tree) table house segment ≡ x
        → FilledFor (deal_after deal segment x) (tree_after deal tree segment x)
    by_cases (Refuse code) e = f
    by_cases (Already i) e = f
    by_cases (Place i o) e = written_filled (booked_fits (tree_deal deal tree) table house segment i o e) tree f
