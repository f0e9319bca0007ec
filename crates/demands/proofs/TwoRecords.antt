-- Two accepted records of one entry place: the same bytes, or a collision. The number stands in no string: both records
-- name the number that they are checked against (document 02, request (ix)).
use Rattle.std.specs.Prelude.{◌≡◌, Bool, ℕ, ◌*◌}
use Rattle.std.proofs.Common.{sym, ◌∙◌, subst, eq-eqb}
use Rattle.std.proofs.Math.Path.{ap}
use mathlib.Core.List.{List, []}
use Rattle.octets.specs.Bytes.{Bytes}
use Rattle.paths.specs.Strings.{strings_from}
use Rattle.paths.specs.Chain.{Chain}
use Rattle.paths.specs.PathLaws.{same_strings}
use Rattle.paths.specs.DealStarts.{segment_start}
use Rattle.sizes.specs.Sizes.{segment_path_levels}
use Rattle.record.specs.Form.{Fields, fields, parsed, parse, encode}
use Rattle.record.specs.FormLaws.{Sized, parse_canonical}
use Rattle.record.specs.Check.{DealTerms, check_of}
use Rattle.record.specs.CheckLaws.{Accepted, check_means}
use Rattle.settle.specs.Settle.{entry_strings, segment_strings, strings_in, place_in, settle_records}
use Rattle.settle.specs.SettleLaws.{same_fields}
use Rattle.settle.specs.EntryStringsLaws.{same_entry}
use Rattle.demands.specs.Settles.{Settles}
use Rattle.demands.proofs.Chains.{entry_sides, segment_sides, entry_chain, segment_chain, Beside, settles_beside}

module _ (terms : DealTerms) (x y : Fields) (hx : Sized x) (hy : Sized y) (ax : Accepted terms x)
    (ay : Accepted terms y) (at : x.place ≡ y.place) where
  -- where the entry strings are the same, the two records name one segment
  named : entry_strings terms.size x ≡ entry_strings terms.size y
      → (x.commitment ≡ y.commitment) × (x.offset ≡ y.offset) × (x.size ≡ y.size)
  named e = same_fields x y hx hy (same_entry terms x y ax ay at e).1

  same_way : entry_strings terms.size x ≡ entry_strings terms.size y
      → Chain terms.commitment (segment_sides terms.size x.offset x.size) (segment_strings terms.size y)
  same_way e =
      let f = named e in
      let d = terms.size in
      subst (λ (bs : List Bool). Chain terms.commitment bs (segment_strings d y))
      (λ i. segment_sides d (sym f.1 i) (sym f.2 i)) (segment_chain terms y hy ay)

  beside : Beside terms x (entry_strings terms.size y) (segment_strings terms.size y)
  beside =
      let c = terms.commitment in
      let d = terms.size in
      record {
        entry = subst (λ (p : ℕ). Chain c (entry_sides d p) (entry_strings d y)) (sym at) (entry_chain terms y hy ay);
        segment = same_way;
      }

  same_segment_lem : entry_strings terms.size x ≡ entry_strings terms.size y
      → segment_strings terms.size x ≡ segment_strings terms.size y → x.segment_path ≡ y.segment_path
  unfolding segment_strings
  same_segment_lem e g =
      let f = named e in
      let start = segment_start terms.size in
      (same_strings (start x.offset x.size) x.commitment y.commitment x.segment_path y.segment_path [] []
      hx.commitment_32 hy.commitment_32 ax.segment_path_length
      (ay.segment_path_length ∙ ap (λ (z : ℕ). 32 * segment_path_levels terms.size z) (sym f.2))
      (g ∙ (λ i. strings_from (start (sym f.1 i) (sym f.2 i)) y.commitment y.segment_path []))).same_siblings

  same_record : entry_strings terms.size x ≡ entry_strings terms.size y
      → segment_strings terms.size x ≡ segment_strings terms.size y → x ≡ y
  same_record e g =
      let f = named e in
      let s = same_segment_lem e g in
      let t = (same_entry terms x y ax ay at e).0 in
      let n : x.number ≡ y.number = ax.number_same ∙ sym ay.number_same in
      λ i. fields (f.0 i) (f.1 i) (f.2 i) (at i) (s i) (t i) (n i)

pub two_records : (terms : DealTerms) (r s : List ℕ) → Bytes r → Bytes s → check_of terms r ≡ 0 → check_of terms s ≡ 0
    → place_in (parse r) ≡ place_in (parse s) → Settles (r ≡ s) (settle_records terms r s)
unfolding settle_records
two_records terms r s br bs cr cs at =
    let a = check_means terms r cr in
    let b = check_means terms s cs in
    let x = a.0 in
    let y = b.0 in
    let px : parse r ≡ parsed x = a.1 in
    let py : parse s ≡ parsed y = b.1 in
    let kx = parse_canonical r x br px in
    let ky = parse_canonical s y bs py in
    let pl : x.place ≡ y.place = sym (ap place_in px) ∙ at ∙ ap place_in py in
    let d = terms.size in
    rw (cr, cs, eq-eqb (place_in (parse r)) (place_in (parse s)) at, px, py)
    (settles_beside terms x kx.1 a.2 (entry_strings d y) (segment_strings d y)
    (beside terms x y kx.1 ky.1 a.2 b.2 pl) (r ≡ s)
    (λ e g. sym kx.0 ∙ ap encode (same_record terms x y kx.1 ky.1 a.2 b.2 pl e g) ∙ ky.0)
    (λ e. let q : parsed x ≡ parsed y = sym px ∙ ap parse e ∙ py in ap (strings_in d) q))
