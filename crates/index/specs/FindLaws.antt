-- What finding a segment answers: the lowest slot that keeps the commitment, and where the segment lies.
use Rattle.std.specs.Prelude.{◌≡◌, refl, Bool, true, false, ◌≢◌, ℕ, zero, suc, ◌+◌, ◌≤◌, ◌<◌, length, eqb, Option, Some, None}
use Rattle.std.proofs.Common.{sym, ◌∙◌, subst, true≢false}
use Rattle.std.proofs.Math.Path.{ap}
use native.Mathlib.Omega.{arith}
use mathlib.Core.List.{List, [], ◌∷◌}
use borrow.Author.Tests.{eq-eqb, ne_eqb, eqb-true}
use Rattle.rules.specs.Refusals.{Rule, rule, first_refusal, unless_refused}
use Rattle.rules.specs.RefusalLaws.{and_left, and_right, none_refused}
use Rattle.rules.specs.SearchLaws.{IsLowest, lowest_found, lowest_missing}
use Rattle.octets.specs.Equality.{same_bytes}
use Rattle.octets.specs.EqualityLaws.{same_true}
use Rattle.octets.specs.Splice.{part}
use Rattle.octets.specs.SpliceLaws.{part_length}
use Rattle.stray.specs.StrayBits.{clear_node, no_stray_bits}
use Rattle.merkle.specs.NodeSource.{IsTree}
use Rattle.sizes.specs.Sizes.{lent_size_allowed, entry_count, index_start, deal_level}
use Rattle.sizes.specs.SizesLaws.{lent_size, segment_size, segment_place, index_start_le}
use Rattle.entries.specs.Entry.{commitment_in, offset_in, size_in}
use Rattle.lent.specs.LentDeal.{LentDeal, deal_size, deal_rules, deal_refusal}
use Rattle.lent.specs.LentDealLaws.{refused_answer}
use Rattle.index.specs.Slots.{slot_at, kept_at}
use Rattle.index.specs.SlotsLaws.{keeps, kept_clear}
use Rattle.index.specs.Find.{keeps_commitment, lowest_with_commitment, refused, found_in, find_numbers, find_view, FoundSegment}

-- what a slot that keeps a commitment holds
pub record SlotKeeps (deal : LentDeal) (commitment : List ℕ) (i : ℕ) : Type 0 where
  pub is_kept_lem : kept_at deal i ≡ true
  pub names : commitment_in (slot_at deal.bytes i) ≡ commitment

pub slot_keeps : (deal : LentDeal) (commitment : List ℕ) (i : ℕ) → keeps_commitment deal commitment i ≡ true
    → SlotKeeps deal commitment i
unfolding keeps_commitment
slot_keeps deal commitment i e =
    let named = commitment_in (slot_at deal.bytes i) in
    record {
      is_kept_lem = and_left (kept_at deal i) (same_bytes named commitment) e;
      names = same_true named commitment (and_right (kept_at deal i) (same_bytes named commitment) e);
    }

-- nothing refuses before the slots are looked at
pub record Searched (deal : LentDeal) (commitment : List ℕ) : Type 0 where
  pub commitment_length : length commitment ≡ 32
  pub size_allowed : lent_size_allowed (deal_size deal) ≡ true
  pub clear : no_stray_bits deal.bytes ≡ true
  pub tree_sized_lem : deal.tree_sized ≡ true

-- a segment that is found: in slot i, the lowest that keeps the commitment
pub record FoundIn (deal : LentDeal) (commitment : List ℕ) (i : ℕ) : Type 0 where
  pub searched : Searched deal commitment
  pub is_lowest : IsLowest (keeps_commitment deal commitment) 0 (entry_count (deal_size deal)) i
  pub keeps_it : SlotKeeps deal commitment i
  pub numbers : find_numbers deal commitment ≡ found_in deal.bytes (Some i)

module _ (deal : LentDeal) (commitment : List ℕ) where
  rules : List Rule
  rules = rule (eqb (length commitment) 32) 1 ∷ deal_rules deal

  abbrev done : FoundSegment
  done = found_in deal.bytes (lowest_with_commitment deal commitment)

  passed : first_refusal rules ≡ 0 → Searched deal commitment
  unfolding rules
  passed e =
      let p = none_refused rules (omega arith, (omega arith, (omega arith, (omega arith, tt)))) e in
      record {
        commitment_length = eqb-true (length commitment) 32 p.0;
        size_allowed = p.1.0;
        clear = p.1.1.0;
        tree_sized_lem = p.1.1.1.0;
      }

  by_code : (code : ℕ) → first_refusal rules ≡ code → find_numbers deal commitment ≡ unless_refused code refused done
  unfolding rules find_numbers
  by_code code e = ap (λ (c : ℕ). unless_refused c refused done) e

  -- the three ways through the rules
  pub commitment_refused : length commitment ≢ 32 → refused 1 ≡ find_numbers deal commitment
  unfolding find_numbers
  commitment_refused h = rw (ne_eqb (length commitment) 32 h)

  pub deal_refused : length commitment ≡ 32 → (code : ℕ) → code ≡ deal_refusal deal → code ≢ 0
      → refused code ≡ find_numbers deal commitment
  unfolding find_numbers
  deal_refused l code e h = rw (eq-eqb (length commitment) 32 l) (refused_answer deal [] refused done code e h)

  pub searched_is : Searched deal commitment
      → find_numbers deal commitment ≡ found_in deal.bytes (lowest_with_commitment deal commitment)
  unfolding find_numbers
  searched_is s =
      rw (eq-eqb (length commitment) 32 s.commitment_length, s.size_allowed, s.clear, s.tree_sized_lem)

  -- every answer is a refusal before the slots are looked at, that of a segment in a slot, or 16
  by_answer : (P : FoundSegment → Type 0) → ((code : ℕ) → P (refused (suc code)))
      → ((i : ℕ) → FoundIn deal commitment i → P (found_in deal.bytes (Some i)))
      → P (find_numbers deal commitment)
  by_answer P refusal segment = start (first_refusal rules) refl
    where
      searched_by : Searched deal commitment → (f : Option ℕ) → lowest_with_commitment deal commitment ≡ f
          → P (find_numbers deal commitment)
      searched_by s (Some i) e =
          let n : find_numbers deal commitment ≡ found_in deal.bytes (Some i) =
          searched_is s ∙ ap (found_in deal.bytes) e in
          let l = lowest_found (keeps_commitment deal commitment) 0 (entry_count (deal_size deal)) i e in
          let k = slot_keeps deal commitment i l.passes in
          subst P (sym n) (segment i (record { searched = s; is_lowest = l; keeps_it = k; numbers = n }))
      searched_by s None e = subst P (sym (searched_is s ∙ ap (found_in deal.bytes) e)) (refusal 15)

      start : (code : ℕ) → first_refusal rules ≡ code → P (find_numbers deal commitment)
      start zero e = searched_by (passed e) (lowest_with_commitment deal commitment) refl
      start (suc code) e = subst P (sym (by_code (suc code) e)) (refusal code)

  -- code 0: the lowest slot that keeps the commitment, with its numbers
  pub find_zero : (find_numbers deal commitment).code ≡ 0 → (i : ℕ) × FoundIn deal commitment i
  find_zero =
      by_answer (λ (n : FoundSegment). n.code ≡ 0 → (i : ℕ) × FoundIn deal commitment i)
      (λ code e. absurd (omega arith))
      (λ i f e. (i, f))

  -- and it is given where some slot keeps the commitment
  pub find_some : Searched deal commitment → (i : ℕ) → i < entry_count (deal_size deal)
      → keeps_commitment deal commitment i ≡ true → (find_numbers deal commitment).code ≡ 0
  find_some s i h k = go (lowest_with_commitment deal commitment) refl
    where
      go : (f : Option ℕ) → lowest_with_commitment deal commitment ≡ f → (find_numbers deal commitment).code ≡ 0
      go (Some j) e = ap (λ (n : FoundSegment). n.code) (searched_is s ∙ ap (found_in deal.bytes) e)
      go None e =
          let none = lowest_missing (keeps_commitment deal commitment) 0 (entry_count (deal_size deal)) e in
          absurd (true≢false (sym k ∙ none i (omega arith) (omega arith)))

  -- 16 where none does
  pub find_none : Searched deal commitment
      → ((i : ℕ) → i < entry_count (deal_size deal) → keeps_commitment deal commitment i ≡ false)
      → find_numbers deal commitment ≡ refused 16
  find_none s none = go (lowest_with_commitment deal commitment) refl
    where
      go : (f : Option ℕ) → lowest_with_commitment deal commitment ≡ f → find_numbers deal commitment ≡ refused 16
      go (Some j) e =
          let l = lowest_found (keeps_commitment deal commitment) 0 (entry_count (deal_size deal)) j e in
          absurd (true≢false (sym l.passes ∙ none j (omega (arith, l.below))))
      go None e = searched_is s ∙ ap (found_in deal.bytes) e

  -- a commitment with stray bits is kept nowhere
  pub find_stray : IsTree deal.nodes deal.bytes (deal_level (deal_size deal)) → Searched deal commitment
      → clear_node commitment ≡ false → find_numbers deal commitment ≡ refused 16
  find_stray tree s stray = find_none s (λ i h. go i (keeps_commitment deal commitment i) refl)
    where
      go : (i : ℕ) (t : Bool) → keeps_commitment deal commitment i ≡ t → keeps_commitment deal commitment i ≡ false
      go i true e =
          let k = slot_keeps deal commitment i e in
          let sized = (lent_size (deal_size deal) s.size_allowed).deal in
          let clear = kept_clear (deal_size deal) (slot_at deal.bytes i) sized tree k.is_kept_lem in
          absurd (true≢false (sym clear ∙ ap clear_node k.names ∙ stray))
      go i false e = e

  -- a segment that is found lies in the deal, below its index
  pub found_within : (i : ℕ) → FoundIn deal commitment i
      → offset_in (slot_at deal.bytes i) + size_in (slot_at deal.bytes i) ≤ index_start (deal_size deal)
  found_within i f =
      let d = deal_size deal in
      let entry = slot_at deal.bytes i in
      let t = (lent_size d f.searched.size_allowed).deal in
      let k = (keeps deal.nodes d entry f.keeps_it.is_kept_lem).is_standing in
      let z = segment_size d (size_in entry) t k.size_allowed in
      let p = segment_place d (offset_in entry) (size_in entry) t z k.offset_allowed_lem in
      omega (arith, z.size_area, p.ends)

  -- so the numbers of any answer are those of a part of the deal
  pub find_within : (find_numbers deal commitment).offset + (find_numbers deal commitment).size ≤ deal_size deal
  find_within =
      by_answer (λ (n : FoundSegment). n.offset + n.size ≤ deal_size deal)
      (λ code. omega arith)
      (λ i f. omega (arith, found_within i f, index_start_le (deal_size deal)))

  -- the view has as many bytes as the segment; it is empty on every refusal
  pub view_length : length (find_view deal commitment) ≡ (find_numbers deal commitment).size
  unfolding find_view
  view_length =
      part_length deal.bytes (find_numbers deal commitment).offset (find_numbers deal commitment).size find_within

  pub view_refused : 0 < (find_numbers deal commitment).code → find_view deal commitment ≡ []
  unfolding find_view part
  view_refused =
      by_answer (λ (n : FoundSegment). 0 < n.code → part deal.bytes n.offset n.size ≡ [])
      (λ code h. refl)
      (λ i f h. absurd (omega arith))
