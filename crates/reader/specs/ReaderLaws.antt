-- Reading all fields through the reader is the plain parse; each field by its number; no field reaches past the record.
use Rattle.std.specs.Prelude.{◌≡◌, Bool, ◌&&◌, ℕ, zero, suc, ◌+◌, ◌<◌, ◌≤◌, List, [], ◌∷◌, eqb, length, drop, get_or}
use Rattle.std.proofs.Math.Path.{refl}
use Rattle.std.proofs.Common.{ap, ◌∙◌, arith, eq-eqb}
use Rattle.std.proofs.Math.Bool.{true, false}
use Rattle.std.specs.Borrow.{Bor}
use Rattle.rules.specs.Choice.{choose}
use Rattle.octets.specs.Splice.{part}
use Rattle.fields.specs.Table.{length_allowed, field_rule, taken, refused, take_field, Contents, add_content, on_taken}
use Rattle.fields.specs.Table.{read_contents}
use Rattle.fields.specs.FieldAt.{field_at, asked, field_for}
use Rattle.fields.specs.FieldAtLaws.{field_at_lem, is_field}
use Rattle.fields.specs.declared.LengthRule.TheVariants.{Exactly}
use Rattle.fields.specs.declared.FieldRule.{FieldRule}
use Rattle.fields.specs.FieldAt.{Field}
use Rattle.fields.specs.FieldAt.{Content, Refused}
use Rattle.record.specs.Form.{layout, fields_in, parse}
use Rattle.reader.specs.Reader.{next_place, place_after, reader_at, handed_out, add_field, contents_named, parsed_by}

-- one field of both readings, where they agree from the next place on
module _ (f : FieldRule) (r : List ℕ) (at : ℕ) (later : ℕ → Contents) (rest : List ℕ → Contents)
    (agree : (tag start n next : ℕ) → field_at r at ≡ Content tag start n next → later next ≡ rest (drop next r)) where
  content_from : (tag start n next : ℕ) (b : Bool) → field_at r at ≡ Content tag start n next
      → (eqb tag f.tag && length_allowed f.length n) ≡ b
      → add_field r (choose b (Content tag start n next) Refused) later ≡ on_taken (take_field f (drop at r)) rest
  unfolding field_for
  content_from tag start n next true e q =
      let t : take_field f (drop at r) ≡ taken (part r start n) (drop next r) = rw (e, q) at (field_at_lem f r at) in
      rw t (ap (add_content (part r start n)) (agree tag start n next e))
  content_from tag start n next false e q = let t : take_field f (drop at r) ≡ refused =
      rw (e, q) at (field_at_lem f r at) in rw t

  field_from : (x : Field) → field_at r at ≡ x → add_field r (asked f x) later ≡ on_taken (take_field f (drop at r)) rest
  unfolding field_for
  field_from (Content tag start n next) e =
      content_from tag start n next (eqb tag f.tag && length_allowed f.length n) e refl
  field_from Refused e = let t : take_field f (drop at r) ≡ refused = rw e at (field_at_lem f r at) in rw t

-- the contents that the fields handed out name are those of the plain reading, for any table, from any place on
contents_from : (fs : List FieldRule) (bytes : Bor (List ℕ)) (at : ℕ)
    → contents_named fs bytes.now at (handed_out (length fs) (reader_at bytes at))
    ≡ read_contents fs (drop at bytes.now)
unfolding contents_named handed_out read_contents
contents_from [] bytes at = refl
contents_from (f ∷ fs) bytes at =
    field_from f bytes.now at _ (read_contents fs) (λ tag start n next e. rw e (contents_from fs bytes next))
    (field_at bytes.now at) refl

-- reading all fields through the reader is the plain parse
pub reader_parses : (bytes : Bor (List ℕ))
    → parsed_by bytes.now (handed_out (length layout) (reader_at bytes 0)) ≡ parse bytes.now
unfolding parse
reader_parses bytes = ap fields_in (contents_from layout bytes 0)

-- the field of a number, among those that are handed out
pub field_numbered : (n k : ℕ) (bytes : Bor (List ℕ)) (at : ℕ) → k < n
    → get_or (handed_out n (reader_at bytes at)) k Refused ≡ field_at bytes.now (place_after k bytes.now at)
unfolding handed_out place_after
field_numbered zero k bytes at h = absurd (omega arith)
field_numbered (suc n) zero bytes at h = refl
field_numbered (suc n) (suc k) bytes at h =
    field_numbered n k bytes (next_place (field_at bytes.now at) at) (omega arith)

-- a field lies within the record, at any place
pub field_within : (r : List ℕ) (at tag start n next : ℕ) → field_at r at ≡ Content tag start n next
    → (next ≡ start + n) × (next ≤ length r)
unfolding field_for
field_within r at tag start n next e =
    let f : FieldRule = field_rule tag (Exactly n) in
    let i = is_field f r at tag start n next (ap (asked f) e ∙ rw (eq-eqb tag tag refl, eq-eqb n n refl)) in
    (i.next_is, i.within)
