-- The answers of building by the tests on the way: one law for each answer of the code.
use mathlib.Core.Path.{◌≡◌, sym, ap, ◌∙◌}
use mathlib.Core.Bool.{true, false}
use mathlib.Core.Logic.{◌≢◌}
use mathlib.Core.List.{List}
use Prim.Native.Nat.{ℕ, ◌≤◌, ◌<◌}
use native.Mathlib.Omega.{arith}
use lib.ListN.{length}
use borrow.Author.Tests.{le-leb, lt-leb}
use Rattle.octets.specs.Splice.{splice}
use Rattle.paths.specs.NodesSized.{NodesSized}
use Rattle.sizes.specs.Sizes.{place_allowed, deal_level, segment_level, segment_position}
use Rattle.index.specs.Slots.{entry_at, kept_row, Row}
use Rattle.index.specs.SlotsLaws.{keeps, answer_kept, answer_not_kept}
use Rattle.lent.specs.LentDeal.{LentDeal, deal_size, deal_refusal}
use Rattle.lent.specs.LentDealLaws.{refusal_none, refused_answer}
use Rattle.builder.specs.Build.{entry_rules, fields_for, built, not_built, record_at, build_answer, build_output}
use Rattle.builder.specs.BuildLaws.{InDeal, in_deal, means_build}
use Rattle.record.specs.Form.{encode, record_length}
use Rattle.builder.specs.Encode.{record_for}
use Rattle.builder.specs.EncodeLaws.{record_of_entry, commitment_in_length, record_length_lem}
use Rattle.builder.specs.Build.{BuildAnswer}

-- what is asked: a lent deal with its number, an entry place, and the output for the record
pub record Asked : Type 0 where
  pub deal : LentDeal
  pub number : ℕ
  pub place : ℕ
  pub out : List ℕ

-- an answer, and what the output holds afterwards
abbrev pub Answered : Asked → BuildAnswer → List ℕ → Type 0
Answered q answer after =
    (answer ≡ build_answer q.deal q.number q.place q.out)
    × (after ≡ build_output q.deal q.number q.place q.out)

-- the bytes of the entry at the place
abbrev entry_bytes : Asked → List ℕ
entry_bytes q = entry_at q.deal.bytes q.place

-- the entry that is read at the place, where it is kept
abbrev pub entry_read : Asked → Row
entry_read q = kept_row q.deal.nodes (deal_size q.deal) (entry_bytes q)

-- the record for an entry that was read at the place
abbrev pub record_as : Asked → Row → List ℕ
record_as q entry =
    record_for q.deal q.number entry.commitment entry.offset entry.size q.place

-- the tests that are passed before the entry is read
pub record Passed (q : Asked) : Type 0 where
  pub none : deal_refusal q.deal ≡ 0
  pub allowed : place_allowed (deal_size q.deal) q.place ≡ true

-- what is known of an entry that was found to be kept
pub record KeptHere (q : Asked) (entry : Row) : Type 0 where
  pub within : InDeal (deal_size q.deal) q.place entry.offset entry.size
  pub node_is : entry.commitment
      ≡ q.deal.nodes (segment_level entry.size) (segment_position entry.offset entry.size)
  pub builds : record_at q.deal q.number q.place ≡ built (record_as q entry)
  pub sized : length (record_as q entry) ≡ record_length (deal_size q.deal) entry.size

pub kept_here : (q : Asked) (entry : Row) → NodesSized q.deal.nodes (deal_level (deal_size q.deal)) → Passed q
    → entry ≡ entry_read q → entry.stands ≡ true → KeptHere q entry
kept_here q entry each p e t =
    let f = refusal_none q.deal p.none in
    let a = answer_kept q.deal.nodes (deal_size q.deal) (entry_bytes q) entry e t in
    let s = a.as_standing in
    let w = in_deal (deal_size q.deal) q.place entry.offset entry.size f.0 p.allowed
    s.size_allowed s.offset_allowed_lem in
    let c : length entry.commitment ≡ 32 = ap length s.commitment_is
    ∙ commitment_in_length q.deal.bytes q.place w.place_is.in_deal in
    let r = record_of_entry q.deal q.number (entry_bytes q) q.place in
    record {
      within = w;
      node_is =
          s.commitment_is
          ∙ sym (keeps q.deal.nodes (deal_size q.deal) (entry_bytes q) a.is_kept_lem).node_is
          ∙ (λ j. q.deal.nodes (segment_level (sym s.size_is j))
          (segment_position (sym s.offset_is j) (sym s.size_is j)));
      builds = means_build q.deal q.number q.place (record_as q entry) f.0 f.1 f.2 p.allowed
          a.is_kept_lem (rw (s.commitment_is, s.offset_is, s.size_is) r);
      sized =
          record_length_lem q.deal each q.number entry.commitment entry.offset entry.size q.place c w;
    }

module _ (q : Asked) {answer : BuildAnswer} where
  refused_with : (code : ℕ) → answer ≡ record { code = code; length = 0 }
      → record_at q.deal q.number q.place ≡ not_built code → Answered q answer q.out
  unfolding build_answer build_output
  refused_with code a e = (a ∙ rw e, rw e)

  pub deal_refused : {code : ℕ} → answer ≡ record { code = code; length = 0 } → code ≡ deal_refusal q.deal
      → code ≢ 0 → Answered q answer q.out
  unfolding record_at
  deal_refused {code = code} a e h =
      refused_with code a
      (sym (refused_answer q.deal (entry_rules q.deal q.place) not_built
      (built (encode (fields_for q.deal q.number (entry_bytes q) q.place))) code e h))

  pub place_refused : answer ≡ record { code = 6; length = 0 } → deal_refusal q.deal ≡ 0
      → place_allowed (deal_size q.deal) q.place ≡ false → Answered q answer q.out
  unfolding record_at
  place_refused a e t = let p = refusal_none q.deal e in refused_with 6 a (rw (p.0, p.1, p.2, t))

  -- with the entry that was read at the place
  module _ {entry : Row} where
    pub entry_refused : answer ≡ record { code = 16; length = 0 } → Passed q → entry ≡ entry_read q
        → entry.stands ≡ false → Answered q answer q.out
    unfolding record_at
    entry_refused a p e t =
        let f = refusal_none q.deal p.none in
        let k = answer_not_kept q.deal.nodes (deal_size q.deal) (entry_bytes q) entry e t in
        refused_with 16 a (rw (f.0, f.1, f.2, p.allowed, k))

    pub output_short : answer ≡ record { code = 12; length = 0 } → KeptHere q entry
        → length q.out < record_length (deal_size q.deal) entry.size → Answered q answer q.out
    unfolding build_answer build_output
    output_short a k h =
        let s = k.sized in
        let t = lt-leb (length (record_as q entry)) (length q.out) (omega arith) in
        (a ∙ rw (k.builds, t), rw (k.builds, t))

    pub record_answered : {after : List ℕ}
        → answer ≡ record { code = 0; length = record_length (deal_size q.deal) entry.size } → KeptHere q entry
        → record_length (deal_size q.deal) entry.size ≤ length q.out
        → after ≡ splice q.out 0 (record_as q entry) → Answered q answer after
    unfolding build_answer build_output
    record_answered a k h e =
        let s = k.sized in
        let t = le-leb (length (record_as q entry)) (length q.out) (omega arith) in
        (a ∙ rw (k.builds, t, s), e ∙ rw (k.builds, t))
