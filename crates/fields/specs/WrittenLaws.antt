-- Fields written behind one another are one string.
use Rattle.std.specs.Prelude.{◌≡◌, List, [], ◌∷◌, ◌++◌, ℕ, ◌+◌, ◌≤◌, length}
use Rattle.std.proofs.Common.{sym, ap, ◌∙◌, arith, length-append}
use Rattle.octets.specs.Splice.{splice}
use Rattle.octets.specs.SpliceLaws.{length_splice, splice_nothing, splice_append}
use Rattle.fields.specs.Table.{field_head, put_field, write_contents}
use Rattle.fields.specs.TableLaws.{field_is, field_length_lem, field_before}
use Rattle.fields.specs.declared.FieldRule.{FieldRule}

-- a string was written into an output from a place on; the next place is the one after it
pub record Wrote (out : List ℕ) (at : ℕ) (s : List ℕ) (after : List ℕ) (next : ℕ) : Type 0 where
  pub written : after ≡ splice out at s
  pub next_is : next ≡ at + length s

-- a head, and behind it the content
pub field_written : (out content : List ℕ) (at tag : ℕ) {one two : List ℕ} {n middle : ℕ} → length content ≡ n
    → at + 3 ≤ length out
    → one ≡ splice out at (field_head tag n) → middle ≡ at + 3 → two ≡ splice one middle content
    → two ≡ splice out at (put_field tag content [])
unfolding field_head
field_written out content at tag {n = n} {middle} l h a e b =
    b ∙ ap (λ (d : List ℕ). splice d middle content) a ∙ splice_append out at middle (field_head tag n) content h e
    ∙ ap (λ (k : ℕ). splice out at (field_head tag k ++ content)) (sym l)
    ∙ ap (splice out at) (sym (field_is tag content))

-- a field was written by a row of a table, and the place after it is answered
pub wrote_field : {out after : List ℕ} {at next n : ℕ} {found : FieldRule} (row : FieldRule) (content : List ℕ)
    → found ≡ row → length content ≡ n
    → after ≡ splice out at (put_field found.tag content []) → next ≡ at + (3 + n)
    → Wrote out at (put_field row.tag content []) after next
wrote_field {out} {at = at} row content e l a h =
    record {
      written = a ∙ ap (λ (f : FieldRule). splice out at (put_field f.tag content [])) e;
      next_is = omega (arith, field_length_lem row.tag content, l, h);
    }

-- the fields of a table were written, each behind the one before it
abbrev pub WroteAll : List FieldRule → List (List ℕ) → List ℕ → ℕ → List ℕ → Type 0
WroteAll [] cs out at after = after ≡ out
WroteAll (f ∷ fs) [] out at after = after ≡ out
WroteAll (f ∷ fs) (c ∷ cs) out at after =
    (one : List ℕ) × (next : ℕ) × Wrote out at (put_field f.tag c []) one next × WroteAll fs cs one next after

pub all_written : (fs : List FieldRule) (cs : List (List ℕ)) (out : List ℕ) (at : ℕ) {after : List ℕ}
    → WroteAll fs cs out at after → at + length (write_contents fs cs) ≤ length out
    → after ≡ splice out at (write_contents fs cs)
unfolding write_contents
all_written [] cs out at w h = w ∙ sym (splice_nothing out at)
all_written (f ∷ fs) [] out at w h = w ∙ sym (splice_nothing out at)
all_written (f ∷ fs) (c ∷ cs) out at w h =
    let rest = write_contents fs cs in
    let field = put_field f.tag c [] in
    let e : put_field f.tag c rest ≡ field ++ rest = field_before f.tag c rest in
    let l : length (put_field f.tag c rest) ≡ length field + length rest = ap length e ∙ length-append field rest in
    let n : w.1 ≡ at + length field = w.2.next_is in
    let k : length w.0 ≡ length out = ap length w.2.written ∙ length_splice out at field (omega arith) in
    all_written fs cs w.0 w.1 w.3 (omega arith)
    ∙ ap (λ (d : List ℕ). splice d w.1 rest) w.2.written
    ∙ splice_append out at w.1 field rest (omega arith) n
    ∙ ap (splice out at) (sym e)
