-- Tagged fields by a table (document 01, "The record": "Tagged fields in this order, each once, nothing after: one tag
-- byte, two length bytes
-- (little-endian), content"). It holds for any table: that of the inclusion record stands in the crate `record`.
use Rattle.std.specs.Prelude.{Bool, not, ◌&&◌, ℕ, ◌+◌, ◌*◌, ◌/◌, ◌%◌, List, [], ◌∷◌, ◌++◌, length, take, drop, get_or, eqb, leb}
use Rattle.rules.specs.Choice.{choose}
use Rattle.fields.specs.declared.LengthRule.{LengthRule}
use Rattle.fields.specs.declared.LengthRule.TheVariants.{Exactly, MultipleOf}
use Rattle.fields.specs.declared.FieldRule.{FieldRule}

-- whether a content may have a length
abbrev pub length_allowed : LengthRule → ℕ → Bool
length_allowed (Exactly n) length = eqb length n
length_allowed (MultipleOf n) length = not (eqb n 0) && eqb (length % n) 0

-- a row of a table
abbrev pub field_rule : ℕ → LengthRule → FieldRule
field_rule tag length = record { tag = tag; length = length }

-- one field: a tag byte, two length bytes, the content; its content with what comes after, or else the refusal
pub data Taken : Type 0 where
  taken : List ℕ → List ℕ → Taken
  refused : Taken

unfoldable pub take_field : FieldRule → List ℕ → Taken
take_field f [] = refused
take_field f (t ∷ []) = refused
take_field f (t ∷ a ∷ []) = refused
take_field f (t ∷ a ∷ b ∷ rest) =
    choose (eqb t f.tag && (leb (a + 256 * b) (length rest) && length_allowed f.length (a + 256 * b)))
    (taken (take (a + 256 * b) rest) (drop (a + 256 * b) rest))
    refused

-- the contents of all fields of a table, with nothing after them
pub data Contents : Type 0 where
  contents : List (List ℕ) → Contents
  malformed : Contents

abbrev pub add_content : List ℕ → Contents → Contents
add_content c (contents cs) = contents (c ∷ cs)
add_content c malformed = malformed

abbrev pub on_taken : Taken → (List ℕ → Contents) → Contents
on_taken (taken c rest) later = add_content c (later rest)
on_taken refused later = malformed

unfoldable pub read_contents : List FieldRule → List ℕ → Contents
read_contents [] r = choose (eqb (length r) 0) (contents []) malformed
read_contents (f ∷ fs) r = on_taken (take_field f r) (read_contents fs)

-- the first three bytes of a field: its tag, and the length n of its content
unfoldable pub field_head : ℕ → ℕ → List ℕ
field_head tag n = tag ∷ n % 256 ∷ n / 256 ∷ []

-- a field in front of what comes after it
unfoldable pub put_field : ℕ → List ℕ → List ℕ → List ℕ
put_field tag c rest = tag ∷ length c % 256 ∷ length c / 256 ∷ (c ++ rest)

-- the fields of a table with these contents
unfoldable pub write_contents : List FieldRule → List (List ℕ) → List ℕ
write_contents [] cs = []
write_contents (f ∷ fs) [] = []
write_contents (f ∷ fs) (c ∷ cs) = put_field f.tag c (write_contents fs cs)

-- the length of a content, where the rule leaves it open the first of some lengths, and the lengths that are left
abbrev pub length_by : LengthRule → List ℕ → ℕ
length_by (Exactly n) left = n
length_by (MultipleOf n) left = get_or left 0 0

abbrev pub open_after : LengthRule → List ℕ → List ℕ
open_after (Exactly n) left = left
open_after (MultipleOf n) left = drop 1 left

-- the bytes that the fields of a table take, where the contents whose length it leaves open have these lengths, in turn
abbrev pub table_length : List FieldRule → List ℕ → ℕ
table_length [] left = 0
table_length (f ∷ fs) left = 3 + length_by f.length left + table_length fs (open_after f.length left)
