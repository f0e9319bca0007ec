-- The heads of two fields, and then their contents: the two fields behind one another.
use mathlib.Core.Path.{◌≡◌, refl, sym, ap, ◌∙◌}
use mathlib.Core.List.{List, []}
use Prim.Native.Nat.{ℕ, ◌+◌, ◌≤◌}
use native.Mathlib.Omega.{arith}
use lib.ListN.{length}
use Rattle.octets.specs.Splice.{splice}
use Rattle.octets.specs.SpliceLaws.{length_splice, splice_apart}
use Rattle.fields.specs.Table.{field_head, put_field}
use Rattle.fields.specs.WrittenLaws.{field_written}

module _ (out s t : List ℕ) (at tag tag' n n' : ℕ) {one two after : List ℕ} {content content' : ℕ}
    (ls : length s ≡ n) (lt : length t ≡ n') (room : at + 6 + n + n' ≤ length out)
    (head : one ≡ splice out at (field_head tag n)) (first : content ≡ at + 3)
    (head' : two ≡ splice one (content + n) (field_head tag' n')) (second : content' ≡ content + n + 3)
    (both : after ≡ splice (splice two content s) content' t) where
  -- the first field
  abbrev field : List ℕ
  field = splice one content s

  field_is : field ≡ splice out at (put_field tag s [])
  field_is = field_written out s at tag ls (omega arith) head first refl

  one_length : length one ≡ length out
  unfolding field_head
  one_length = ap length head ∙ length_splice out at (field_head tag n) (omega arith)

  -- the second head stands behind it
  behind : splice two content s ≡ splice field (content + n) (field_head tag' n')
  unfolding field_head
  behind =
      let l = one_length in
      ap (λ (x : List ℕ). splice x content s) head'
      ∙ sym (splice_apart one content s (content + n) (field_head tag' n') (omega arith) (omega arith))

  pub paths_written : after ≡ splice (splice out at (put_field tag s [])) (at + (3 + n)) (put_field tag' t [])
  paths_written =
      let l = one_length in
      let k : length field ≡ length one = length_splice one content s (omega arith) in
      let place : content + n ≡ at + (3 + n) = omega arith in
      field_written field t (content + n) tag' lt (omega arith) behind second both
      ∙ (λ j. splice (field_is j) (place j) (put_field tag' t []))
