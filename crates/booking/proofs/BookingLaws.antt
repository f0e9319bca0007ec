-- What booking decides for a house, and exactly when: a place (code 0), already kept by the house (15), half the slots
-- held (22), no free slot (13), no free place (14).
use Rattle.std.specs.Prelude.{◌≡◌, true, false, ◌↔◌, ◌≢◌, ℕ, zero, suc, List, length}
use Rattle.std.proofs.Math.Path.{refl, ap}
use Rattle.std.proofs.Common.{sym, ◌∙◌, arith}
use Rattle.rules.specs.Refusals.{first_refusal, unless_refused}
use Rattle.std.proofs.Common.{Option}
use Rattle.std.proofs.Common.{Some, None}
use Rattle.rules.specs.SearchLaws.{lowest_found, lowest_missing, lowest_is, lowest_none}
use Rattle.sizes.specs.Sizes.{area, entry_count}
use Rattle.lent.specs.LentDeal.{LentDeal, deal_size}
use Rattle.room.specs.Room.{Range}
use Rattle.room.specs.Decide.{decide, answer_to}
use Rattle.room.specs.DecideLaws.{
  Places,
  NoSlot,
  NoPlace,
  decides_place,
  decides_already,
  decides_22,
  decides_13,
  decides_14,
  answered_0,
  answered_15,
}
use Rattle.room.specs.declared.Booked.{Booked}
use Rattle.room.specs.Decide.{Decision}
use Rattle.room.specs.Decide.{Refuse, Already, Place}
use Rattle.ranges.specs.Ranges.{ranges_of}
use Rattle.booking.specs.Booking.{
  book_rules,
  keeps_own,
  lowest_keeping,
  held_in,
  decision,
  deal_after,
  table_after,
  book_answer,
  booked_deal,
  booked_table,
}
use Rattle.booking.specs.BookableLaws.{BookableFor, RuleCode, refused_code, not_refused, area_some}
use Rattle.booking.specs.Outcomes.{Unkept, KeptAt, quota_reached}

-- a refusal by the rules, or what is decided after them
by_rules : (P : Decision → Type 0) (code : ℕ) (later : Decision) → (code ≢ 0 → P (Refuse code)) → (code ≡ 0 → P later)
    → P (unless_refused code Refuse later)
by_rules P zero later refused passed = passed refl
by_rules P (suc c) later refused passed = refused (λ e. omega arith)

module _ (deal : LentDeal) (table : List ℕ) (house : ℕ) (segment : List ℕ) where
  abbrev code : ℕ
  code = first_refusal (book_rules deal table house segment)

  -- what the deal's room is looked at with
  abbrev ranges : ℕ → Range
  ranges = ranges_of deal.bytes

  abbrev held : ℕ
  held = held_in deal.bytes table house

  abbrev n : ℕ
  n = area (length segment)

  abbrev keeping : Option ℕ
  keeping = lowest_keeping deal table house segment

  abbrev room_decision : Decision
  room_decision = decide (deal_size deal) ranges held n keeping

  -- what is decided for a segment that no rule refuses
  pub decision_is : BookableFor deal table house segment → decision deal table house segment ≡ room_decision
  unfolding decision
  decision_is b = rw ((not_refused deal table house segment).1 b)

  -- and for one that a rule refuses
  pub refused_is : first_refusal (book_rules deal table house segment) ≢ 0
      → decision deal table house segment ≡ Refuse (first_refusal (book_rules deal table house segment))
  unfolding decision
  refused_is h = by_rules (λ x. x ≡ Refuse code) code room_decision (λ r. refl) (λ z. absurd (h z))

  -- every decision is a refusal by 23, 2, 4, 11 or 12, or made in the deal's room
  pub by_decision : (P : Decision → Type 0) → ((c : ℕ) → RuleCode c → P (Refuse c))
      → (BookableFor deal table house segment → P room_decision) → P (decision deal table house segment)
  unfolding decision
  by_decision P refused passed =
      by_rules P code room_decision (λ h. refused code (refused_code deal table house segment h))
      (λ e. passed ((not_refused deal table house segment).0 e))

  -- a decision that is no refusal by these was made in the deal's room
  in_room_lem : (x : Decision) → ((c : ℕ) → RuleCode c → Refuse c ≡ x → ⊥) → decision deal table house segment ≡ x
      → BookableFor deal table house segment × (room_decision ≡ x)
  in_room_lem x other =
      by_decision (λ y. y ≡ x → BookableFor deal table house segment × (room_decision ≡ x))
      (λ c r e. absurd (other c r e)) (λ b e. (b, e))

  not_kept : (b : BookableFor deal table house segment) → keeping ≡ None → Unkept deal table house segment
  not_kept b k =
      record {
        bookable = b;
        none_keeps = λ j h.
            lowest_missing (keeps_own deal table house segment) 0 (entry_count (deal_size deal)) k j (omega arith)
            (omega arith);
      }

  none_kept : Unkept deal table house segment → keeping ≡ None
  none_kept u =
      lowest_none (keeps_own deal table house segment) 0 (entry_count (deal_size deal))
      (λ j a b. u.none_keeps j (omega arith))

  -- a decision, and exactly when
  pub kept_already : (i : ℕ) → (decision deal table house segment ≡ Already i) ↔ KeptAt deal table house segment i
  kept_already i = (
    λ e.
        let p = in_room_lem (Already i) (λ c r q. let z : ◌≡◌ {A = ℕ} 0 1 = cc in omega arith) e in
        record {
          bookable = p.0;
          lowest_keeping_lem =
              lowest_found (keeps_own deal table house segment) 0 (entry_count (deal_size deal)) i (found.0 p.1);
        },
    λ a.
        let slots = entry_count (deal_size deal) in
        let k = lowest_is (keeps_own deal table house segment) 0 slots i a.lowest_keeping_lem in
        decision_is a.bookable ∙ found.1 k,
  )
    where
      found : (room_decision ≡ Already i) ↔ (keeping ≡ Some i)
      found = decides_already (deal_size deal) ranges held n keeping i

  pub half_held : (decision deal table house segment ≡ Refuse 22)
      ↔ (Unkept deal table house segment × (quota_reached deal table house ≡ true))
  half_held = (
    λ e.
        let p = in_room_lem (Refuse 22) (λ c r q. r.2 (cc)) e in
        let x = refusing.0 p.1 in
        (not_kept p.0 x.0, x.1),
    λ b. decision_is b.0.bookable ∙ refusing.1 (none_kept b.0, b.1),
  )
    where
      refusing : (room_decision ≡ Refuse 22) ↔ ((keeping ≡ None) × (quota_reached deal table house ≡ true))
      refusing = decides_22 (deal_size deal) ranges held n keeping

  pub books : (i o : ℕ)
      → (decision deal table house segment ≡ Place i o)
      ↔ (Unkept deal table house segment
      × (quota_reached deal table house ≡ false)
      × Places (deal_size deal) (ranges_of deal.bytes) (area (length segment)) i o)
  books i o = (
    λ e.
        let p = in_room_lem (Place i o) (λ c r q. let z : ◌≡◌ {A = ℕ} 0 1 = cc in omega arith) e in
        let x = (placing p.0).0 p.1 in
        (not_kept p.0 x.0, x.1, x.2),
    λ b. decision_is b.0.bookable ∙ (placing b.0.bookable).1 (none_kept b.0, b.1, b.2),
  )
    where
      placing : (b : BookableFor deal table house segment)
          → (room_decision ≡ Place i o)
          ↔ ((keeping ≡ None)
          × (quota_reached deal table house ≡ false)
          × Places (deal_size deal) ranges n i o)
      placing b = decides_place (deal_size deal) ranges held n keeping (area_some b.bookable) i o

  pub no_slot : (decision deal table house segment ≡ Refuse 13)
      ↔ (Unkept deal table house segment
      × (quota_reached deal table house ≡ false)
      × NoSlot (deal_size deal) (ranges_of deal.bytes))
  no_slot = (
    λ e.
        let p = in_room_lem (Refuse 13) (λ c r q. r.3 (cc)) e in
        let x = refusing.0 p.1 in
        (not_kept p.0 x.0, x.1, x.2),
    λ b. decision_is b.0.bookable ∙ refusing.1 (none_kept b.0, b.1, b.2),
  )
    where
      refusing : (room_decision ≡ Refuse 13)
          ↔ ((keeping ≡ None) × (quota_reached deal table house ≡ false) × NoSlot (deal_size deal) ranges)
      refusing = decides_13 (deal_size deal) ranges held n keeping

  pub no_place : (decision deal table house segment ≡ Refuse 14)
      ↔ (Unkept deal table house segment
      × (quota_reached deal table house ≡ false)
      × NoPlace (deal_size deal) (ranges_of deal.bytes) (area (length segment)))
  no_place = (
    λ e.
        let p = in_room_lem (Refuse 14) (λ c r q. r.4 (cc)) e in
        let x = (refusing p.0).0 p.1 in
        (not_kept p.0 x.0, x.1, x.2),
    λ b. decision_is b.0.bookable ∙ (refusing b.0.bookable).1 (none_kept b.0, b.1, b.2),
  )
    where
      refusing : (b : BookableFor deal table house segment)
          → (room_decision ≡ Refuse 14)
          ↔ ((keeping ≡ None) × (quota_reached deal table house ≡ false) × NoPlace (deal_size deal) ranges n)
      refusing b = decides_14 (deal_size deal) ranges held n keeping (area_some b.bookable)

  -- answer, deal and table are those of the decision
  pub answer_is : (x : Decision) → decision deal table house segment ≡ x
      → book_answer deal table house segment ≡ answer_to (deal_size deal) (ranges_of deal.bytes) x
  unfolding book_answer
  answer_is x e = ap (answer_to (deal_size deal) ranges) e

  pub deal_is : (x : Decision) → decision deal table house segment ≡ x
      → booked_deal deal table house segment ≡ deal_after deal.bytes segment x
  unfolding booked_deal
  deal_is x e = ap (deal_after deal.bytes segment) e

  pub table_is : (x : Decision) → decision deal table house segment ≡ x
      → booked_table deal table house segment ≡ table_after table house x
  unfolding booked_table
  table_is x e = ap (table_after table house) e

  code_is : (x : Decision) → decision deal table house segment ≡ x
      → (book_answer deal table house segment).code ≡ (answer_to (deal_size deal) ranges x).code
  code_is x e = ap (λ (b : Booked). b.code) (answer_is x e)

  -- 0 comes from a place alone, and 15 from a slot that keeps the segment
  pub code_0 : ((book_answer deal table house segment).code ≡ 0)
      ↔ ((i : ℕ) × (o : ℕ) × (decision deal table house segment ≡ Place i o))
  code_0 = (
    λ e. from (sym (code_is (decision deal table house segment) refl) ∙ e),
    λ p. code_is (Place p.0 p.1) p.2,
  )
    where
      from : (answer_to (deal_size deal) ranges (decision deal table house segment)).code ≡ 0
          → (i : ℕ) × (o : ℕ) × (decision deal table house segment ≡ Place i o)
      from =
          by_decision (λ x. (answer_to (deal_size deal) ranges x).code ≡ 0 → (i : ℕ) × (o : ℕ) × (x ≡ Place i o))
          (λ c r e. absurd (r.0 e)) (λ b. answered_0 (deal_size deal) ranges held n keeping)

  pub code_15 : ((book_answer deal table house segment).code ≡ 15)
      ↔ ((i : ℕ) × (decision deal table house segment ≡ Already i))
  code_15 = (
    λ e. from (sym (code_is (decision deal table house segment) refl) ∙ e),
    λ p. code_is (Already p.0) p.1,
  )
    where
      from : (answer_to (deal_size deal) ranges (decision deal table house segment)).code ≡ 15
          → (i : ℕ) × (decision deal table house segment ≡ Already i)
      from =
          by_decision (λ x. (answer_to (deal_size deal) ranges x).code ≡ 15 → (i : ℕ) × (x ≡ Already i))
          (λ c r e. absurd (r.1 e)) (λ b. answered_15 (deal_size deal) ranges held n keeping)

  -- any other code leaves deal and table as they are
  pub refused_same : (book_answer deal table house segment).code ≢ 0 → booked_deal deal table house segment ≡ deal.bytes
  unfolding book_answer booked_deal
  refused_same h = by_cases (decision deal table house segment) h
    where
      by_cases : (x : Decision) → (answer_to (deal_size deal) ranges x).code ≢ 0
          → deal_after deal.bytes segment x ≡ deal.bytes
      by_cases (Refuse c) k = refl
      by_cases (Already i) k = refl
      by_cases (Place i o) k = absurd (k refl)

  pub refused_table : (book_answer deal table house segment).code ≢ 0 → booked_table deal table house segment ≡ table
  unfolding book_answer booked_table
  refused_table h = by_cases (decision deal table house segment) h
    where
      by_cases : (x : Decision) → (answer_to (deal_size deal) ranges x).code ≢ 0 → table_after table house x ≡ table
      by_cases (Refuse c) k = refl
      by_cases (Already i) k = refl
      by_cases (Place i o) k = absurd (k refl)
