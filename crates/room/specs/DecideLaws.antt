-- What is decided, and exactly when: a place (code 0), already kept (15), half the slots held (22), no free slot (13),
-- no free place (14).
use Rattle.std.specs.Prelude.{◌≡◌, Bool, true, false, ◌↔◌, ◌≢◌, ◌⊎◌, ℕ, ◌+◌, ◌*◌, ◌/◌, ◌%◌, ◌≤◌, ◌<◌}
use Rattle.std.proofs.Math.Path.{refl, ap, subst}
use Rattle.std.proofs.Common.{sym, ap₂, ◌∙◌, arith}
use Rattle.std.proofs.Math.Logic.{inl, inr, ⊎_elim}
use Rattle.rules.specs.Choice.{choose}
use Rattle.std.specs.Prelude.{Option}
use Rattle.std.specs.Prelude.{Some, None}
use Rattle.rules.specs.SearchLaws.{IsLowest, lowest_found, lowest_missing, lowest_is, lowest_none}
use Rattle.sizes.specs.Sizes.{entry_count, index_start, slot_place}
use Rattle.room.specs.Room.{Range, SameBelow, is_empty, fits, lowest_free_slot, lowest_place}
use Rattle.room.specs.RoomLaws.{IsPlace, place_found, place_is, place_missing, free_slot_cong, place_cong}
use Rattle.room.specs.OverlapLaws.{multiple}
use Rattle.room.specs.Decide.{unless_kept, holds_half, in_room, decide, answer_to, decision_with, SlotBelow}
use Rattle.room.specs.Decide.{Decision}
use Rattle.room.specs.Decide.{Refuse, Already, Place}
use Rattle.room.specs.declared.Decision as Declared
use Rattle.room.specs.declared.Decision.TheVariants as De

-- code 0: slot i is the lowest free one, and offset o the lowest free place
pub record Places (d : ℕ) (ranges : ℕ → Range) (n i o : ℕ) : Type 0 where
  pub free_slot : IsLowest (λ j. is_empty (ranges j)) 0 (entry_count d) i
  pub free_place : IsPlace ranges (entry_count d) n (index_start d) o

-- code 13: no slot is free
pub record NoSlot (d : ℕ) (ranges : ℕ → Range) : Type 0 where
  pub none_free : (j : ℕ) → j < entry_count d → is_empty (ranges j) ≡ false

-- code 14: a slot is free, but no multiple of n fits that ends by the index start
pub record NoPlace (d : ℕ) (ranges : ℕ → Range) (n : ℕ) : Type 0 where
  pub slot : ℕ
  pub free_slot : IsLowest (λ j. is_empty (ranges j)) 0 (entry_count d) slot
  pub none_fits : (o : ℕ) → o % n ≡ 0 → o + n ≤ index_start d → fits ranges (entry_count d) n o ≡ false

-- what is known from a decision of a slot that keeps the segment, the quota, a free slot and a free place
abbrev decided : ℕ → Option ℕ → Bool → Option ℕ → Option ℕ → Decision
decided n keeping half slot at = unless_kept keeping (choose half (Refuse 22) (in_room n slot at))

impossible : {A : Type 0} → ◌≡◌ {A = ℕ} 0 1 → A
impossible e = absurd (omega arith)

decided_place : (n : ℕ) (keeping : Option ℕ) (half : Bool) (slot at : Option ℕ) (i o : ℕ)
    → decided n keeping half slot at ≡ Place i o
    → (keeping ≡ None) × (half ≡ false) × (slot ≡ Some i) × ((k : ℕ) × (at ≡ Some k) × (k * n ≡ o))
decided_place n (Some j) half slot at i o e = impossible (cc)
decided_place n None true slot at i o e = impossible (cc)
decided_place n None false None at i o e = impossible (cc)
decided_place n None false (Some j) None i o e = impossible (cc)
decided_place n None false (Some j) (Some k) i o e = (refl, refl, cc, (k, refl, cc))

decided_already : (n : ℕ) (keeping : Option ℕ) (half : Bool) (slot at : Option ℕ) (i : ℕ)
    → decided n keeping half slot at ≡ Already i → keeping ≡ Some i
decided_already n (Some j) half slot at i e = cc
decided_already n None true slot at i e = impossible (cc)
decided_already n None false None at i e = impossible (cc)
decided_already n None false (Some j) None i e = impossible (cc)
decided_already n None false (Some j) (Some k) i e = impossible (cc)

-- a refusal is 22, 13 or 14, and each says what it is for
Refused : ℕ → Option ℕ → Bool → Option ℕ → Option ℕ → ℕ → Type 0
Refused n keeping half slot at c =
    (keeping ≡ None)
    × (((c ≡ 22) × (half ≡ true))
    ⊎ (((c ≡ 13) × (half ≡ false) × (slot ≡ None))
    ⊎ ((c ≡ 14) × (half ≡ false) × ((j : ℕ) × (slot ≡ Some j)) × (at ≡ None))))

decided_refused : (n : ℕ) (keeping : Option ℕ) (half : Bool) (slot at : Option ℕ) (c : ℕ)
    → decided n keeping half slot at ≡ Refuse c → Refused n keeping half slot at c
unfolding Refused
decided_refused n (Some j) half slot at c e = impossible (cc)
decided_refused n None true slot at c e = let z : ◌≡◌ {A = ℕ} 22 c = cc in (refl, inl (sym z, refl))
decided_refused n None false None at c e =
    let z : ◌≡◌ {A = ℕ} 13 c = cc in (refl, inr (inl (sym z, refl, refl)))
decided_refused n None false (Some j) None c e =
    let z : ◌≡◌ {A = ℕ} 14 c = cc in (refl, inr (inr (sym z, refl, (j, refl), refl)))
decided_refused n None false (Some j) (Some k) c e = impossible (cc)

module _ (d : ℕ) (ranges : ℕ → Range) (held n : ℕ) (keeping : Option ℕ) where
  slot : Option ℕ
  slot = lowest_free_slot ranges (entry_count d)

  at : Option ℕ
  at = lowest_place ranges (entry_count d) n (index_start d)

  abbrev half : Bool
  half = holds_half (entry_count d) held

  decide_is : decide d ranges held n keeping ≡ decided n keeping half slot at
  unfolding decide slot at
  decide_is = refl

  refused : (c : ℕ) → decide d ranges held n keeping ≡ Refuse c → Refused n keeping half slot at c
  refused c e = decided_refused n keeping half slot at c (sym decide_is ∙ e)

  -- a decision, and exactly when
  pub decides_already : (i : ℕ) → (decide d ranges held n keeping ≡ Already i) ↔ (keeping ≡ Some i)
  decides_already i = (λ e. decided_already n keeping half slot at i (sym decide_is ∙ e), λ k. decide_is ∙ rw k)

  pub decides_22 : (decide d ranges held n keeping ≡ Refuse 22)
      ↔ ((keeping ≡ None) × (holds_half (entry_count d) held ≡ true))
  unfolding Refused
  decides_22 = (
    λ e.
        let p = refused 22 e in (
          p.0,
          ⊎_elim (λ x. x.1) (λ y. ⊎_elim (λ x. absurd (omega (arith, x.0))) (λ x. absurd (omega (arith, x.0))) y)
              p.1,
        ),
    λ b. decide_is ∙ rw (b.0, b.1),
  )

  pub decides_13 : (decide d ranges held n keeping ≡ Refuse 13)
      ↔ ((keeping ≡ None) × (holds_half (entry_count d) held ≡ false) × NoSlot d ranges)
  unfolding slot Refused
  decides_13 = (
    λ e.
        let p = refused 13 e in
        let q = ⊎_elim {C = (half ≡ false) × (slot ≡ None)} (λ x. absurd (omega (arith, x.0)))
        (λ y. ⊎_elim (λ x. (x.1, x.2)) (λ x. absurd (omega (arith, x.0))) y) p.1 in (
          p.0,
          q.0,
          record {
            none_free = λ j h.
                lowest_missing (λ i. is_empty (ranges i)) 0 (entry_count d) q.1 j (omega arith) (omega arith);
          },
        ),
    λ b.
        let s : slot ≡ None =
        lowest_none (λ i. is_empty (ranges i)) 0 (entry_count d) (λ j h k. b.2.none_free j (omega arith)) in
        decide_is ∙ rw (b.0, b.1, s),
  )

  -- a refusal is 22, 13 or 14
  pub decides_refused : (c : ℕ) → decide d ranges held n keeping ≡ Refuse c → (c ≡ 22) ⊎ ((c ≡ 13) ⊎ (c ≡ 14))
  unfolding Refused
  decides_refused c e =
      ⊎_elim (λ x. inl x.0) (λ y. inr (⊎_elim (λ x. inl x.0) (λ x. inr x.0) y)) (refused c e).1

  module _ (z : 0 < n) where
    pub decides_place : (i o : ℕ)
        → (decide d ranges held n keeping ≡ Place i o)
        ↔ ((keeping ≡ None) × (holds_half (entry_count d) held ≡ false) × Places d ranges n i o)
    unfolding slot at
    decides_place i o = (
      λ e.
          let p = decided_place n keeping half slot at i o (sym decide_is ∙ e) in (
            p.0,
            p.1,
            record {
              free_slot = lowest_found (λ j. is_empty (ranges j)) 0 (entry_count d) i p.2;
              free_place = subst (IsPlace ranges (entry_count d) n (index_start d)) p.3.2
                  (place_found ranges (entry_count d) n (index_start d) p.3.0 z p.3.1);
            },
          ),
      λ b.
          let s : slot ≡ Some i = lowest_is (λ j. is_empty (ranges j)) 0 (entry_count d) i b.2.free_slot in
          let l : at ≡ Some (o / n) = place_is ranges (entry_count d) n (index_start d) o z b.2.free_place in
          decide_is ∙ rw (b.0, b.1, s, l) (ap (Place i) (sym (multiple o n b.2.free_place.aligned))),
    )

    pub decides_14 : (decide d ranges held n keeping ≡ Refuse 14)
        ↔ ((keeping ≡ None) × (holds_half (entry_count d) held ≡ false) × NoPlace d ranges n)
    unfolding slot at Refused
    decides_14 = (
      λ e.
          let p = refused 14 e in
          let q = ⊎_elim {C = (half ≡ false) × ((j : ℕ) × (slot ≡ Some j)) × (at ≡ None)}
          (λ x. absurd (omega (arith, x.0)))
          (λ y. ⊎_elim (λ x. absurd (omega (arith, x.0))) (λ x. (x.1, x.2, x.3)) y) p.1 in (
            p.0,
            q.0,
            record {
              slot = q.1.0;
              free_slot = lowest_found (λ j. is_empty (ranges j)) 0 (entry_count d) q.1.0 q.1.1;
              none_fits = (place_missing ranges (entry_count d) n (index_start d) z).0 q.2;
            },
          ),
      λ b.
          let s : slot ≡ Some b.2.slot =
          lowest_is (λ j. is_empty (ranges j)) 0 (entry_count d) b.2.slot b.2.free_slot in
          let l : at ≡ None = (place_missing ranges (entry_count d) n (index_start d) z).1 b.2.none_fits in
          decide_is ∙ rw (b.0, b.1, s, l),
    )

    -- the slot that is decided on is one of the index
    pub decides_below : ((i : ℕ) → keeping ≡ Some i → i < entry_count d)
        → SlotBelow (entry_count d) (decide d ranges held n keeping)
    decides_below h = by_decision (decide d ranges held n keeping) refl
      where
        by_decision : (x : Decision) → decide d ranges held n keeping ≡ x → SlotBelow (entry_count d) x
        by_decision (Refuse code) e = tt
        by_decision (Already i) e = h i ((decides_already i).0 e)
        by_decision (Place i o) e = omega (arith, ((decides_place i o).0 e).2.free_slot.below)

-- the same ranges: the same decision and answer
module _ (d : ℕ) (r s : ℕ → Range) (same : SameBelow (entry_count d) r s) where
  pub decide_cong : (held n : ℕ) (keeping : Option ℕ) → decide d r held n keeping ≡ decide d s held n keeping
  unfolding decide
  decide_cong held n keeping =
      ap (λ (x : Decision). unless_kept keeping (choose (holds_half (entry_count d) held) (Refuse 22) x))
      (ap₂ (in_room n) (free_slot_cong (entry_count d) r s same) (place_cong (entry_count d) r s same n (index_start d)))

  pub answer_cong : (x : Decision) → SlotBelow (entry_count d) x → answer_to d r x ≡ answer_to d s x
  answer_cong (Refuse code) h = refl
  answer_cong (Already i) h =
      ap (λ (x : Range). record { code = 15; offset = x.offset; place = slot_place d i }) (same i h)
  answer_cong (Place i offset) h = refl

-- the decision behind a code: 0 comes from a place alone, and 15 from a slot that keeps the segment
module _ (d : ℕ) (ranges : ℕ → Range) (held n : ℕ) (keeping : Option ℕ) where
  abbrev made : Decision
  made = decide d ranges held n keeping

  -- no refusal has the code 0 or 15
  refusal_code : (c : ℕ) → made ≡ Refuse c → (12 < c) × (c ≢ 15)
  refusal_code c e =
      ⊎_elim (λ x. (omega (arith, x), λ f. omega (arith, x, f)))
      (λ y.
      ⊎_elim (λ x. (omega (arith, x), λ f. omega (arith, x, f))) (λ x. (omega (arith, x), λ f. omega (arith, x, f))) y)
      (decides_refused d ranges held n keeping c e)

  pub answered_0 : (answer_to d ranges (decide d ranges held n keeping)).code ≡ 0
      → (i : ℕ) × (o : ℕ) × (decide d ranges held n keeping ≡ Place i o)
  answered_0 h = by_decision made refl h
    where
      by_decision : (x : Decision) → made ≡ x → (answer_to d ranges x).code ≡ 0
          → (i : ℕ) × (o : ℕ) × (made ≡ Place i o)
      by_decision (Refuse code) e z = absurd (omega (arith, (refusal_code code e).0))
      by_decision (Already i) e z = absurd (omega arith)
      by_decision (Place i o) e z = (i, o, e)

  pub answered_15 : (answer_to d ranges (decide d ranges held n keeping)).code ≡ 15
      → (i : ℕ) × (decide d ranges held n keeping ≡ Already i)
  answered_15 h = by_decision made refl h
    where
      by_decision : (x : Decision) → made ≡ x → (answer_to d ranges x).code ≡ 15
          → (i : ℕ) × (made ≡ Already i)
      by_decision (Refuse code) e z = absurd ((refusal_code code e).1 z)
      by_decision (Already i) e z = (i, e)
      by_decision (Place i o) e z = absurd (omega arith)

-- a byte is any code: with bytes for reasons, which are codes themselves, there is one in code for each decision
pub in_bytes : (x : Decision) → (y : Declared.Decision ℕ) × (decision_with (λ code. code) y ≡ x)
in_bytes (Refuse code) = (De.Refuse code, refl)
in_bytes (Already i) = (De.Already i, refl)
in_bytes (Place i offset) = (De.Place i offset, refl)
