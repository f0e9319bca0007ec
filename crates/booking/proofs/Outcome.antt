-- What booking answers and leaves: the answer, and deal, tree and table afterwards, by the answer.
use mathlib.Core.Path.{◌≡◌, refl, sym, ap, ap₂, ◌∙◌}
use mathlib.Core.Bool.{true}
use mathlib.Core.Logic.{◌≢◌}
use mathlib.Core.List.{List}
use Prim.Native.Nat.{ℕ, ◌+◌, ◌≤◌, ◌<◌}
use native.Mathlib.Omega.{arith}
use lib.ListN.{length}
use Rattle.std.specs.Prelude.{Some, Result, Ok, Err}
use Rattle.std.specs.Result.{IsErrAnd}
use Rattle.rules.specs.Answers.{number}
use Rattle.rules.specs.declared.Refusal.{Refusal}
use Rattle.rules.specs.Refusals.{first_refusal}
use Rattle.sizes.specs.Sizes.{lent_size_allowed, area, place_allowed}
use Rattle.sizes.specs.SizesLaws.{index_start_le, slot_allowed}
use Rattle.lent.specs.LentDeal.{LentDeal, tree_deal, deal_size}
use Rattle.lent.specs.Usable.{Usable}
use Rattle.lent.specs.UsableLaws.{usable_same}
use Rattle.index.specs.KeptRowsLaws.{slot_within}
use Rattle.index.specs.Written.{slot_of}
use Rattle.index.specs.SlotWrittenLaws.{slot_back}
use Rattle.room.specs.Decide.{answer_to, booked_of}
use Rattle.room.specs.declared.Booked.{Booked}
use Rattle.room.specs.declared.Placed.{Placed}
use Rattle.room.specs.declared.Unbooked.{Unbooked}
use Rattle.room.specs.declared.Unbooked.TheVariants.{Refused}
use Rattle.room.specs.declared.Unbooked.TheVariants as Un
use Rattle.room.specs.Decide.{Refuse, Place}
use Rattle.ranges.specs.Ranges.{ranges_of}
use Rattle.houses.specs.Houses.{table_sized, with_owner}
use Rattle.booking.specs.Write.{segment_commitment, written_at}
use Rattle.booking.specs.WriteLaws.{Fits, written_at_lem}
use Rattle.booking.specs.Booking.{book_rules, decision, book_answer, booked_deal, booked_table}
use Rattle.booking.specs.Decided.{placed_in}
use Rattle.booking.specs.BookedTree.{renewed_for, booked_tree}
use Rattle.booking.specs.BookableLaws.{BookableFor, bookable_deal, bookable_segment, bookable_usable, area_some}
use Rattle.booking.proofs.BookingLaws.{refused_is, answer_is, deal_is, code_0, refused_same, refused_table}
use Rattle.booking.proofs.BookedLaws.{booked_unkept, booked_fits, booked_is, booked_length, booked_table_is}
use Rattle.booking.proofs.BookedTreeLaws.{refused_tree, tree_is}

-- code 0: a place was found, and the segment and its entry fit there
module _ (deal : LentDeal) (table : List ℕ) (house : ℕ) (segment : List ℕ) (answer : Booked)
    (e : answer ≡ book_answer deal table house segment) where
  module _ (z : answer.code ≡ 0) where
    placed : (i : ℕ) × (o : ℕ) × (decision deal table house segment ≡ Place i o)
    placed = (code_0 deal table house segment).0 (sym (ap (λ (a : Booked). a.code) e) ∙ z)

    room : Fits deal.bytes segment placed.0 placed.1
    room = booked_fits deal table house segment placed.0 placed.1 placed.2

    pub place_bookable : BookableFor deal table house segment
    place_bookable = (booked_unkept deal table house segment placed.0 placed.1 placed.2).bookable

    answer_placed : answer ≡ answer_to (deal_size deal) (ranges_of deal.bytes) (Place placed.0 placed.1)
    answer_placed = e ∙ answer_is deal table house segment (Place placed.0 placed.1) placed.2

    pub size_within : length segment ≤ area (length segment)
    size_within = (bookable_segment room.bookable).size_area

    pub area_within : answer.offset + area (length segment) ≤ deal_size deal
    area_within =
        omega (arith, ap (λ (a : Booked). a.offset) answer_placed, room.ends, index_start_le (deal_size deal))

    pub entry_within : answer.place + 64 ≤ deal_size deal
    entry_within =
        let at = slot_within (deal_size deal) placed.0 (bookable_deal room.bookable).deal room.slot_in in
        omega (arith, ap (λ (a : Booked). a.place) answer_placed)

    pub place_fits : place_allowed (deal_size deal) answer.place ≡ true
    place_fits =
        ap (λ (a : Booked). place_allowed (deal_size deal) a.place) answer_placed
        ∙ slot_allowed (deal_size deal) placed.0 (bookable_deal room.bookable).deal room.slot_in

    pub deal_written : (commitment : List ℕ) → commitment ≡ segment_commitment segment
        → written_at deal.bytes segment commitment answer.offset answer.place
        ≡ booked_deal deal table house segment
    deal_written commitment c =
        ap₂ (λ (a : Booked) (n : List ℕ). written_at deal.bytes segment n a.offset a.place) answer_placed c
        ∙ written_at_lem room
        ∙ sym (deal_is deal table house segment (Place placed.0 placed.1) placed.2)

    pub owner_set : with_owner table (slot_of (deal_size deal) answer.place) house
        ≡ booked_table deal table house segment
    owner_set =
        ap (λ (i : ℕ). with_owner table i house)
        (ap (λ (a : Booked). slot_of (deal_size deal) a.place) answer_placed ∙ slot_back (deal_size deal) placed.0)
        ∙ sym (booked_table_is deal table house segment placed.0 placed.1 placed.2)

  -- any other code: nothing is written
  module _ (h : answer.code ≢ 0) where
    refused : (book_answer deal table house segment).code ≢ 0
    refused z = h (ap (λ (a : Booked). a.code) e ∙ z)

    pub deal_kept : deal.bytes ≡ booked_deal deal table house segment
    deal_kept = sym (refused_same deal table house segment refused)

    pub table_kept : table ≡ booked_table deal table house segment
    table_kept = sym (refused_table deal table house segment refused)

-- a refusal's number is not 0, and no answer but a place has the code 0
some_number : (r : Refusal) → number r ≢ 0
some_number r = grind arith

pub no_place : (why : Unbooked Refusal) → (booked_of (Err why)).code ≢ 0
no_place (Refused r) = some_number r
no_place (Un.Already at) = λ z. omega arith

-- a refusal that `?` passes on
pub refusal_passed_on : {A : Type 0} (found : Result (A × Placed) (Unbooked Refusal)) (r : Refusal)
    → IsErrAnd found (λ y. y ≡ Refused r) → booked_of (placed_in found) ≡ booked_of (Err (Refused r))
refusal_passed_on (Ok x) r k = absurd k
refusal_passed_on (Err why) r k = ap (λ (w : Unbooked Refusal). booked_of (Err w)) k

-- answer, deal and table: for a deal with a tree beside it or without one
module _ (deal : LentDeal) (table : List ℕ) (house : ℕ) (segment : List ℕ) where
  -- without a place both stay
  module _ (why : Unbooked Refusal) (e : booked_of (Err why) ≡ book_answer deal table house segment) where
    pub deal_stays : deal.bytes ≡ booked_deal deal table house segment
    deal_stays = deal_kept deal table house segment (booked_of (Err why)) e (no_place why)

    pub table_stays : table ≡ booked_table deal table house segment
    table_stays = table_kept deal table house segment (booked_of (Err why)) e (no_place why)

  -- a refusal by the rules
  pub refused_by : (r : Refusal) → number r ≡ first_refusal (book_rules deal table house segment)
      → booked_of (Err (Refused r)) ≡ book_answer deal table house segment
  refused_by r c =
      let d = refused_is deal table house segment (λ z. some_number r (c ∙ z)) in
      sym (answer_is deal table house segment (Refuse (number r)) (d ∙ ap Refuse (sym c)))

  -- with a place the segment is written, and the owner set
  module _ (at : Placed) (e : booked_of (Ok at) ≡ book_answer deal table house segment) (new commitment bytes : List ℕ)
      (s : bytes ≡ segment) (c : commitment ≡ segment_commitment bytes)
      (w : new ≡ written_at deal.bytes bytes commitment at.offset at.place) where
    abbrev answer : Booked
    answer = booked_of (Ok at)

    pub deal_is_written : new ≡ booked_deal deal table house segment
    deal_is_written =
        w
        ∙ ap (λ (x : List ℕ). written_at deal.bytes x commitment at.offset at.place) s
        ∙ deal_written deal table house segment answer e refl commitment (c ∙ ap segment_commitment s)

    pub new_length : length new ≡ deal_size deal
    new_length = ap length deal_is_written ∙ booked_length deal table house segment

    facts : BookableFor deal table house segment
    facts = place_bookable deal table house segment answer e refl

    pub new_within :
        (0 < area (length segment)) × (at.offset + area (length segment) ≤ length new) × (at.place + 64 ≤ length new)
    new_within =
        let l = new_length in (
          area_some facts.bookable,
          omega (arith, area_within deal table house segment answer e refl),
          omega (arith, entry_within deal table house segment answer e refl),
        )

    pub owner_fits : ((lent_size_allowed (length new) ≡ true) × (place_allowed (length new) at.place ≡ true))
        × (table_sized (length new) table ≡ true)
    owner_fits = (
      (
        ap lent_size_allowed new_length ∙ facts.bookable.deal_allowed,
        ap (λ (d : ℕ). place_allowed d at.place) new_length ∙ place_fits deal table house segment answer e refl,
      ),
      ap (λ (d : ℕ). table_sized d table) new_length ∙ facts.table_sized_lem,
    )

    pub table_is_written :
        with_owner table (slot_of (length new) at.place) house ≡ booked_table deal table house segment
    table_is_written =
        ap (λ (d : ℕ). with_owner table (slot_of d at.place) house) new_length
        ∙ owner_set deal table house segment answer e refl

-- the tree beside the deal
module _ (deal tree table : List ℕ) (house : ℕ) (segment : List ℕ) where
  abbrev beside : LentDeal
  beside = tree_deal deal tree

  -- without a place it stays
  pub tree_kept : (why : Unbooked Refusal) → booked_of (Err why) ≡ book_answer (tree_deal deal tree) table house segment
      → tree ≡ booked_tree deal tree table house segment
  tree_kept why e =
      sym (refused_tree deal tree table house segment
      (λ z. no_place why (ap (λ (a : Booked). a.code) e ∙ z)))

  -- with one it is brought up to date
  module _ (at : Placed) (e : booked_of (Ok at) ≡ book_answer (tree_deal deal tree) table house segment)
      (new : List ℕ) (w : new ≡ booked_deal (tree_deal deal tree) table house segment) where
    pub new_usable : Usable (tree_deal new tree)
    new_usable =
        let b = (place_bookable beside table house segment (booked_of (Ok at)) e refl).bookable in
        usable_same deal (Some tree) new (Some tree) (ap length w ∙ booked_length beside table house segment) refl (bookable_usable b)

    pub tree_renewed : renewed_for new tree at.offset (area (length segment)) at.place
        ≡ booked_tree deal tree table house segment
    tree_renewed =
        let p = placed beside table house segment (booked_of (Ok at)) e refl in
        ap₂ (λ (x : List ℕ) (a : Booked). renewed_for x tree a.offset (area (length segment)) a.place)
        (w ∙ booked_is beside table house segment p.0 p.1 p.2)
        (answer_placed beside table house segment (booked_of (Ok at)) e refl)
        ∙ sym (tree_is deal tree table house segment (Place p.0 p.1) p.2)
