-- The search for a slot that keeps a commitment: rows that name it, and the areas that were hashed in vain.
use mathlib.Core.Path.{◌≡◌, refl, sym, ap, ap₂, ◌∙◌, subst}
use mathlib.Core.Bool.{Bool, true, false, ◌&&◌, true≢false}
use mathlib.Core.List.{List}
use Prim.Native.Nat.{ℕ, zero, suc, ◌≤◌, ◌<◌}
use native.Mathlib.Omega.{arith}
use lib.ListN.{length, take, get_or, set, replicate}
use Rattle.std.proofs.lemmas.List.{get_or-take, length-take-le}
use Rattle.std.proofs.Math.Decide.{dec_lt}
use lib.Seq.{get_or-set_same, get_or-set_other}
use lib.Pow.{pow_pos}
use Rattle.rules.specs.Choice.{choose}
use Rattle.std.proofs.Common.{Some}
use Rattle.octets.specs.Equality.{same_bytes}
use Rattle.octets.specs.EqualityLaws.{same_true}
use Rattle.merkle.specs.NodeSource.{NodeSource}
use Rattle.sizes.specs.Sizes.{area, slot_place, segment_level, segment_position}
use Rattle.sizes.specs.AreaLaws.{area_doubled, area_is_doubled}
use Rattle.entries.specs.Entry.{commitment_in, offset_in, size_in}
use Rattle.lent.specs.LentDeal.{LentDeal, deal_size}
use Rattle.index.specs.Slots.{entry_at, standing, node_over, kept, free, holds, row_of, Row}
use Rattle.index.specs.SlotsLaws.{StandsAs, answer_stands}
use Rattle.index.specs.KeptLaws.{row_stands, row_free, area_node}
use Rattle.index.specs.Find.{keeps_commitment, found_in}
use Rattle.index.specs.Tried.{naming_row, kept_by, no_area, TriedBefore}
use Rattle.index.specs.declared.Area.{Area}

either_free : (t : Bool) → choose t free free ≡ free
either_free true = refl
either_free false = refl

-- the row at a place that names a commitment, by the two tests: the entry stands, and names it
module _ (deal commitment : List ℕ) (place : ℕ) where
  abbrev here : List ℕ
  here = entry_at deal place

  abbrev row_by : Bool → Row
  row_by t = choose t (holds (commitment_in here) (offset_in here) (size_in here)) free

  naming_by : (s : Bool) → standing (length deal) here ≡ s
      → naming_row deal commitment place ≡ row_by (s && same_bytes (commitment_in here) commitment)
  naming_by true e = rw (row_stands (length deal) here e)
  naming_by false e =
      rw (row_free (length deal) here e) (either_free (same_bytes free.commitment commitment))

  naming_is : naming_row deal commitment place
      ≡ row_by (standing (length deal) here && same_bytes (commitment_in here) commitment)
  naming_is = naming_by (standing (length deal) here) refl

  -- the same as it is read
  pub naming_read : {answer : Row} {named : Bool} → answer ≡ row_of (length deal) here
      → named ≡ same_bytes answer.commitment commitment → (t : Bool) → named ≡ t
      → choose t answer free ≡ naming_row deal commitment place
  naming_read {answer} {named} e n t q =
      ap (λ (b : Bool). choose b answer free) (sym q ∙ n)
      ∙ ap (λ (x : Row). choose (same_bytes x.commitment commitment) x free) e

  -- nothing stands there
  pub naming_free : free ≡ row_of (length deal) here → free ≡ naming_row deal commitment place
  naming_free e =
      sym (either_free (same_bytes free.commitment commitment)) ∙ naming_read e refl _ refl

-- a row that names the commitment and stands is the entry's
pub record Names (deal commitment : List ℕ) (place : ℕ) (row : Row) : Type 0 where
  pub stands_as : StandsAs (length deal) (entry_at deal place) row
  pub commitment_is : row.commitment ≡ commitment

module _ (deal commitment : List ℕ) (place : ℕ) (row : Row) (h : row.stands ≡ true) where
  abbrev standing_row : Row
  standing_row = row_of (length deal) (entry_at deal place)

  names_by : (t : Bool) → same_bytes standing_row.commitment commitment ≡ t → row ≡ choose t standing_row free
      → Names deal commitment place row
  names_by true t q =
      record {
        stands_as = answer_stands (length deal) (entry_at deal place) row q h;
        commitment_is = ap (λ (x : Row). x.commitment) q ∙ same_true standing_row.commitment commitment t;
      }
  names_by false t q = absurd (true≢false (sym h ∙ ap (λ (x : Row). x.stands) q))

  pub names : row ≡ naming_row deal commitment place → Names deal commitment place row
  names e = names_by (same_bytes standing_row.commitment commitment) refl e

-- a turn of the search, at slot i
module _ (deal : LentDeal) (commitment : List ℕ) (i : ℕ) {place : ℕ} {row : Row}
    (p : place ≡ slot_place (deal_size deal) i) (e : row ≡ naming_row deal.bytes commitment place) where
  -- the tests of both sides
  tests : (entry : List ℕ) (s n h : Bool) → h ≡ same_bytes (node_over deal.nodes entry) (commitment_in entry)
      → kept_by deal.nodes (choose (s && n) (holds (commitment_in entry) (offset_in entry) (size_in entry)) free)
      ≡ ((s && h) && n)
  tests entry true true true q = sym q
  tests entry true true false q = sym q
  tests entry true false true q = refl
  tests entry true false false q = refl
  tests entry false n h q = refl

  pub row_keeps_lem : kept_by deal.nodes row ≡ keeps_commitment deal commitment i
  unfolding keeps_commitment kept
  row_keeps_lem =
      let q = entry_at deal.bytes place in
      ap (kept_by deal.nodes) (e ∙ naming_is deal.bytes commitment place)
      ∙ tests q (standing (deal_size deal) q) (same_bytes (commitment_in q) commitment)
      (same_bytes (node_over deal.nodes q) (commitment_in q)) refl
      ∙ ap (λ (at : ℕ).
      kept deal.nodes (deal_size deal) (entry_at deal.bytes at)
      && same_bytes (commitment_in (entry_at deal.bytes at)) commitment) p

  pub row_found : row.stands ≡ true
      → record { code = 0; offset = row.offset; size = row.size; place = place } ≡ found_in deal.bytes (Some i)
  row_found h =
      let s = (names deal.bytes commitment place row h e).stands_as in
      ap₂ (λ (o z : ℕ). record { code = 0; offset = o; size = z; place = place }) s.offset_is s.size_is
      ∙ ap (λ (at : ℕ).
      let x = entry_at deal.bytes at in
      record { code = 0; offset = offset_in x; size = size_in x; place = at }) p

-- the areas were hashed in vain: the node over each, of whatever size with that area, is not the commitment
abbrev pub Missed : NodeSource → List ℕ → List Area → Type 0
Missed nodes commitment tried =
    (j size : ℕ) → area size ≡ (get_or tried j no_area).bytes
    → same_bytes (nodes (segment_level size) (segment_position (get_or tried j no_area).offset size)) commitment
    ≡ false

-- an area has bytes
has_bytes : (size : ℕ) → area size ≡ 0 → ⊥
has_bytes size z = omega (arith, area_is_doubled size, pow_pos (area_doubled size).exponent)

-- at first no area was tried
none_tried : (n j : ℕ) → get_or (replicate n no_area) j no_area ≡ no_area
none_tried zero j = refl
none_tried (suc n) zero = refl
none_tried (suc n) (suc j) = none_tried n j

pub missed_start : (nodes : NodeSource) (commitment : List ℕ) (n : ℕ) → Missed nodes commitment (replicate n no_area)
missed_start nodes commitment n j size z = absurd (has_bytes size (z ∙ ap (λ (a : Area). a.bytes) (none_tried n j)))

-- an entry that stands and names the commitment
module _ (nodes : NodeSource) (deal commitment : List ℕ) (tried : List Area) (place : ℕ) (row : Row)
    (s : row.stands ≡ true) (e : row ≡ naming_row deal commitment place) (m : Missed nodes commitment tried) where
  -- an area that was tried before need not be hashed
  pub tried_in_vain : (i : ℕ) → i ≤ length tried
      → TriedBefore (take i tried) (record { offset = row.offset; bytes = area row.size }) → kept_by nodes row ≡ false
  tried_in_vain i r (j, h, o, a) =
      let l : j < i = omega (arith, h, length-take-le i tried r) in
      let at : get_or (take i tried) j no_area ≡ get_or tried j no_area = get_or-take i tried j no_area l in
      let c = (names deal commitment place row s e).commitment_is in
      let z : area row.size ≡ (get_or tried j no_area).bytes = sym a ∙ ap (λ (x : Area). x.bytes) at in
      let q : row.offset ≡ (get_or tried j no_area).offset = sym o ∙ ap (λ (x : Area). x.offset) at in
      rw (s, c, q) (m j row.size z)

  -- its area is one more
  module _ (k : kept_by nodes row ≡ false) where
    row_missed : (size : ℕ) → area size ≡ area row.size
        → same_bytes (nodes (segment_level size) (segment_position row.offset size)) commitment ≡ false
    row_missed size z =
        let c = (names deal commitment place row s e).commitment_is in
        ap₂ same_bytes (area_node nodes row.offset size row.size z) (sym c) ∙ sym (rw s) ∙ k

    pub missed_next : (i : ℕ) → i < length tried
        → Missed nodes commitment (set tried i (record { offset = row.offset; bytes = area row.size }))
    missed_next i h j size z =
        elim (dec_lt j i) [
          | yes below ↦ passed (omega arith)
          | no up ↦ elim (dec_lt i j) [ yes above ↦ passed (omega arith) | no down ↦ reached (omega arith) ]
        ]
      where
        here : Area
        here = record { offset = row.offset; bytes = area row.size }

        miss : ℕ → Type 0
        miss o = same_bytes (nodes (segment_level size) (segment_position o size)) commitment ≡ false

        reached : j ≡ i → miss (get_or (set tried i here) j no_area).offset
        reached same =
            let at : get_or (set tried i here) j no_area ≡ here =
            ap (λ (x : ℕ). get_or (set tried i here) x no_area) same ∙ get_or-set_same tried i here no_area h in
            subst miss (sym (ap (λ (a : Area). a.offset) at)) (row_missed size (z ∙ ap (λ (a : Area). a.bytes) at))

        passed : (j ≡ i → ⊥) → miss (get_or (set tried i here) j no_area).offset
        passed other =
            let at = get_or-set_other tried i j here no_area (omega arith) in
            subst miss (sym (ap (λ (a : Area). a.offset) at)) (m j size (z ∙ ap (λ (a : Area). a.bytes) at))
