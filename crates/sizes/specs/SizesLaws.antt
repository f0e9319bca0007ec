-- What allowed sizes, offsets and places say about levels and positions. Only this file opens the powers of two.
use Rattle.std.specs.Prelude.{◌≡◌, true, ◌&&◌, ℕ, suc, ◌+◌, ◌-◌, ◌*◌, ◌/◌, ◌%◌, ◌^◌, ◌≤◌, ◌<◌, eqb, leb, ltb}
use Rattle.std.proofs.Common.{sym, ap, ◌∙◌, subst, pow-suc, div-add-mod', add-zero, arith, pow_pos, pow_mono, pow-add, shr_lt, eqb-true, eq-eqb, leb-true, ltb-true, le-leb, lt-ltb}
use Rattle.rules.specs.RefusalLaws.{and_left, and_right}
use Rattle.pow2.specs.Power.{is_power, height}
use Rattle.pow2.specs.PowerLaws.{power_is, height_pow}
use Rattle.sizes.specs.AreaLaws.{exponent_le, area_doubled, area_is_doubled}
use Rattle.sizes.specs.Sizes.{deal_size_allowed, lent_size_allowed, area, segment_size_allowed, entry_count, index_start}
use Rattle.sizes.specs.Sizes.{offset_allowed, place_allowed, slot_place, deal_level, segment_level, segment_path_levels}
use Rattle.sizes.specs.Sizes.{entry_path_levels, segment_position, entry_position}

-- a power of two of at least one node
node_power : (n h : ℕ) → 32 ≤ n → n ≡ 2 ^ h → (n ≡ 32 * 2 ^ (h - 5)) × (5 ≤ h)
node_power n h k e =
    let f : 5 ≤ h = exponent_le 5 h (omega arith) in
    let g : h ≡ 5 + (h - 5) = omega arith in
    (e ∙ ap (λ (m : ℕ). 2 ^ m) g ∙ pow-add 2 5 (h - 5), f)

-- 32 times a power, as a power
pub power_32 : (l : ℕ) → 32 * 2 ^ l ≡ 2 ^ (5 + l)
power_32 l = sym (pow-add 2 5 l)

-- an allowed deal size
pub record DealSize (d : ℕ) : Type 0 where
  pub is_power_lem : d ≡ 32 * 2 ^ deal_level d
  pub level_low : 4 ≤ deal_level d
  pub level_high : deal_level d ≤ 31
  pub size_low : 512 ≤ d
  pub size_high : d ≤ 2 ^ 36

sized : (d top : ℕ) → 512 ≤ d → d ≤ 2 ^ top → top ≤ 36 → is_power d ≡ true
    → (d ≡ 32 * 2 ^ deal_level d) × (4 ≤ deal_level d) × (deal_level d ≤ top - 5)
unfolding deal_level
sized d top l u t p =
    let w : 2 ^ top ≤ 2 ^ 36 = pow_mono t in
    let h : d ≡ 2 ^ height d = (power_is d (omega arith) p).0 in
    let n = node_power d (height d) (omega arith) h in
    let lo : 9 ≤ height d = exponent_le 9 (height d) (omega arith) in
    let hi : height d ≤ top = exponent_le (height d) top (omega arith) in
    (n.0, omega arith, omega arith)

pub deal_size_lem : (d : ℕ) → deal_size_allowed d ≡ true → DealSize d
unfolding deal_size_allowed
deal_size_lem d e =
    let l : 512 ≤ d = leb-true 512 d (and_left (leb 512 d) (leb d (2 ^ 36) && is_power d) e) in
    let q = and_right (leb 512 d) (leb d (2 ^ 36) && is_power d) e in
    let u : d ≤ 2 ^ 36 = leb-true d (2 ^ 36) (and_left (leb d (2 ^ 36)) (is_power d) q) in
    let s = sized d 36 l u (omega arith) (and_right (leb d (2 ^ 36)) (is_power d) q) in
    record { is_power_lem = s.0; level_low = s.1; level_high = omega (arith, s.2); size_low = l; size_high = u }

-- an allowed size of a lent deal
pub record LentSize (d : ℕ) : Type 0 where
  pub allowed : deal_size_allowed d ≡ true
  pub deal : DealSize d
  pub lent_high : d ≤ 2 ^ 24
  pub lent_level : deal_level d ≤ 19

pub lent_size : (d : ℕ) → lent_size_allowed d ≡ true → LentSize d
unfolding lent_size_allowed deal_size_allowed
lent_size d e =
    let l : 512 ≤ d = leb-true 512 d (and_left (leb 512 d) (leb d (2 ^ 24) && is_power d) e) in
    let q = and_right (leb 512 d) (leb d (2 ^ 24) && is_power d) e in
    let u : d ≤ 2 ^ 24 = leb-true d (2 ^ 24) (and_left (leb d (2 ^ 24)) (is_power d) q) in
    let p = and_right (leb d (2 ^ 24)) (is_power d) q in
    let s = sized d 24 l u (omega arith) p in
    let a : (leb 512 d && (leb d (2 ^ 36) && is_power d)) ≡ true =
    rw (le-leb 512 d l, le-leb d (2 ^ 36) (omega arith), p) in
    record { allowed = a; deal = deal_size_lem d a; lent_high = u; lent_level = omega (arith, s.2) }

half_power : (d h : ℕ) → 4 ≤ h - 5 → d ≡ 32 * 2 ^ (h - 5) → d / 2 ≡ 2 ^ (h - 1)
half_power d h l e =
    let w = power_32 (h - 5) in
    let v : 2 ^ (5 + (h - 5)) ≡ 2 ^ suc (h - 1) = ap (λ (m : ℕ). 2 ^ m) (omega arith) in
    let p = pow-suc 2 (h - 1) in
    omega arith

-- an allowed segment size for a deal size
pub record SegmentSize (d size : ℕ) : Type 0 where
  pub area_is : area size ≡ 32 * 2 ^ segment_level size
  pub level_low : 2 ≤ segment_level size
  pub below_deal : segment_level size < deal_level d
  pub area_low : 128 ≤ area size
  pub area_half : area size ≤ d / 2
  pub size_area : size ≤ area size

pub segment_size : (d size : ℕ) → DealSize d → segment_size_allowed d size ≡ true → SegmentSize d size
unfolding segment_size_allowed segment_level deal_level
segment_size d size t e =
    let u : size ≤ d / 2 = leb-true size (d / 2) (and_right (leb 1 size) (leb size (d / 2)) e) in
    let hd : d ≡ 32 * 2 ^ (height d - 5) = t.is_power_lem in
    let dl : 4 ≤ height d - 5 = t.level_low in
    let dh : height d - 5 ≤ 31 = t.level_high in
    let half = half_power d (height d) dl hd in
    let a = area_doubled size in
    let j : ℕ = a.exponent in
    let p : area size ≡ 2 ^ j = area_is_doubled size in
    let low : 7 ≤ j = a.low in
    let up : j ≤ height d - 1 = a.least (height d - 1) (omega arith) (omega arith) in
    let in_half : 2 ^ j ≤ 2 ^ (height d - 1) = pow_mono up in
    let over_128 : 2 ^ 7 ≤ 2 ^ j = pow_mono low in
    let in_35 : 2 ^ (height d - 1) ≤ 2 ^ 35 = pow_mono {i = height d - 1} {j = 35} (omega arith) in
    let h : height (area size) ≡ j = ap height p ∙ height_pow j (omega arith) in
    let n = node_power (area size) (height (area size)) (omega arith) (p ∙ ap (λ (m : ℕ). 2 ^ m) (sym h)) in
    record {
      area_is = n.0;
      level_low = omega arith;
      below_deal = omega arith;
      area_low = omega arith;
      area_half = omega arith;
      size_area = omega (arith, a.reaches (omega arith));
    }

pub index_start_le : (d : ℕ) → index_start d ≤ d
unfolding index_start
index_start_le d = omega arith

-- the index of an allowed deal size: 4 to 524288 entries, from an index start on a 64-byte place to the deal's end
pub record IndexArea (d : ℕ) : Type 0 where
  pub count_low : 4 ≤ entry_count d
  pub count_high : 131072 * entry_count d ≤ 131072 * 4 + d
  pub start_count : index_start d + 64 * entry_count d ≡ d
  pub start_aligned : index_start d % 64 ≡ 0
  pub start_half : d / 2 ≤ index_start d

pub index_area : (d : ℕ) → DealSize d → IndexArea d
unfolding index_start entry_count
index_area d t =
    let l : 512 ≤ d = t.size_low in
    let w = power_32 (deal_level d) in
    let v : deal_level d ≡ 4 + (deal_level d - 4) = let z : 4 ≤ deal_level d = t.level_low in omega arith in
    let x : d ≡ 512 * 2 ^ (deal_level d - 4) =
    t.is_power_lem ∙ ap (λ (m : ℕ). 32 * 2 ^ m) v ∙ ap (λ (m : ℕ). 32 * m) (pow-add 2 4 (deal_level d - 4)) ∙ omega arith in
    record {
      count_low = omega arith;
      count_high = omega arith;
      start_count = omega arith;
      start_aligned = omega arith;
      start_half = omega arith;
    }

-- an allowed offset of a segment
pub record SegmentPlace (d offset size : ℕ) : Type 0 where
  pub aligned : offset % area size ≡ 0
  pub ends : offset + area size ≤ index_start d
  pub position_in : segment_position offset size < 2 ^ segment_path_levels d size
  pub at_position : offset ≡ segment_position offset size * area size

pub segment_place : (d offset size : ℕ) → DealSize d → SegmentSize d size → offset_allowed d offset size ≡ true
    → SegmentPlace d offset size
unfolding offset_allowed segment_position
segment_place d offset size t a e =
    let z : offset % area size ≡ 0 =
    eqb-true (offset % area size) 0
    (and_left (eqb (offset % area size) 0) (leb (offset + area size) (index_start d)) e) in
    let s : offset + area size ≤ index_start d =
    leb-true (offset + area size) (index_start d)
    (and_right (eqb (offset % area size) 0) (leb (offset + area size) (index_start d)) e) in
    let sd = index_start_le d in
    let w : area size ≡ 2 ^ (5 + segment_level size) = a.area_is ∙ power_32 (segment_level size) in
    let b : segment_level size < deal_level d = a.below_deal in
    let v : 5 + deal_level d ≡ segment_path_levels d size + (5 + segment_level size) = omega arith in
    let x : d ≡ 2 ^ (segment_path_levels d size + (5 + segment_level size)) =
    t.is_power_lem ∙ power_32 (deal_level d) ∙ ap (λ (m : ℕ). 2 ^ m) v in
    let p = pow_pos (5 + segment_level size) in
    record {
      aligned = z;
      ends = s;
      position_in =
          subst (λ (m : ℕ). offset / m < 2 ^ segment_path_levels d size) (sym w)
          (shr_lt (segment_path_levels d size) (5 + segment_level size) (omega arith));
      at_position =
          sym (div-add-mod' offset (area size))
          ∙ ap (λ (m : ℕ). offset / area size * area size + m) z
          ∙ add-zero (offset / area size * area size);
    }

-- an allowed entry place
pub record EntryPlace (d place : ℕ) : Type 0 where
  pub position_in : entry_position place < 2 ^ entry_path_levels d
  pub at_position : place ≡ 64 * entry_position place
  pub in_deal : place + 64 ≤ d
  pub from_start : index_start d ≤ place

pub entry_place : (d place : ℕ) → DealSize d → place_allowed d place ≡ true → EntryPlace d place
unfolding place_allowed
entry_place d place t e =
    let a : place % 64 ≡ 0 =
    eqb-true (place % 64) 0 (and_left (eqb (place % 64) 0) (leb (index_start d) place && ltb place d) e) in
    let q = and_right (eqb (place % 64) 0) (leb (index_start d) place && ltb place d) e in
    let s : index_start d ≤ place =
    leb-true (index_start d) place (and_left (leb (index_start d) place) (ltb place d) q) in
    let b : place < d = ltb-true place d (and_right (leb (index_start d) place) (ltb place d) q) in
    let l : 4 ≤ deal_level d = t.level_low in
    let v : 5 + deal_level d ≡ entry_path_levels d + 6 = omega arith in
    let x : d ≡ 2 ^ (entry_path_levels d + 6) = t.is_power_lem ∙ power_32 (deal_level d) ∙ ap (λ (m : ℕ). 2 ^ m) v in
    let y : 2 ^ (entry_path_levels d + 6) ≡ 2 ^ entry_path_levels d * 64 = pow-add 2 (entry_path_levels d) 6 in
    record {
      position_in = shr_lt (entry_path_levels d) 6 (omega arith);
      at_position = omega arith;
      in_deal = omega arith;
      from_start = s;
    }

-- every slot is at an allowed place
pub slot_allowed : (d i : ℕ) → DealSize d → i < entry_count d → place_allowed d (slot_place d i) ≡ true
unfolding place_allowed slot_place
slot_allowed d i t h =
    let x = index_area d t in
    let a : index_start d % 64 ≡ 0 = x.start_aligned in
    let b : index_start d + 64 * entry_count d ≡ d = x.start_count in
    rw (
      eq-eqb ((index_start d + 64 * i) % 64) 0 (omega arith),
      le-leb (index_start d) (index_start d + 64 * i) (omega arith),
      lt-ltb (index_start d + 64 * i) d (omega arith),
    )
