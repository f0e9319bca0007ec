-- Fields by their places: what the field reading answers (document 01, "The record": "each answer being the field with
-- the next place, or else the
-- refusal").
use Rattle.std.specs.Prelude.{◌&&◌, ℕ, ◌+◌, ◌*◌, List, [], ◌∷◌, ◌++◌, length, get_or, eqb, leb}
use Rattle.rules.specs.Choice.{choose}
use Rattle.rules.specs.Refusals.{Rule, rule}
use Rattle.fields.specs.Table.{length_allowed}
use Rattle.fields.specs.declared.FieldRule.{FieldRule}
use Rattle.std.specs.Prelude.{Result}
use Rattle.rules.specs.declared.Refusal.{Refusal}
use Rattle.rules.specs.Answers.{answered}
use Rattle.fields.specs.declared.Field.{Field as Found}

-- a field: its tag, where its content starts, the content's length, and the next field's place; or the refusal
pub data Field : Type 0 where
  Content : ℕ → ℕ → ℕ → ℕ → Field
  Refused : Field

-- the length that the two bytes after the tag say
abbrev pub length_at : List ℕ → ℕ → ℕ
length_at r at = get_or r (at + 1) 0 + 256 * get_or r (at + 2) 0

-- the field at a place, which has to lie within the bytes
unfoldable pub field_at : List ℕ → ℕ → Field
field_at r at =
    choose (leb (at + 3) (length r))
    (choose (leb (at + 3 + length_at r at) (length r))
    (Content (get_or r at 0) (at + 3) (length_at r at) (at + 3 + length_at r at)) Refused)
    Refused

-- the field that a row of a table asks for
abbrev pub asked : FieldRule → Field → Field
asked f (Content tag start n next) =
    choose (eqb tag f.tag && length_allowed f.length n) (Content tag start n next) Refused
asked f Refused = Refused

unfoldable pub field_for : FieldRule → List ℕ → ℕ → Field
field_for f r at = asked f (field_at r at)

-- the answer that a result stands for
abbrev pub content : Found → Field
content f = Content f.tag f.start f.length f.next

abbrev pub field_answer : Result Found Refusal → Field
field_answer = answered content (λ code. Refused)

-- the code of an answer: 0 with the field, 3 for the refusal (document 01, "Codes and their order")
abbrev pub field_code : Field → ℕ
field_code (Content tag start n next) = 0
field_code Refused = 3

-- 3 where the field at a place does not lie within the bytes
abbrev pub field_rules : List ℕ → ℕ → List Rule
field_rules r at = rule (leb (at + 3) (length r)) 3 ∷ rule (leb (at + 3 + length_at r at) (length r)) 3 ∷ []

-- and where it is not the one that a row of a table asks for
abbrev pub row_rules : FieldRule → List ℕ → ℕ → List Rule
row_rules f r at = field_rules r at ++
    (rule (eqb (get_or r at 0) f.tag) 3 ∷ rule (length_allowed f.length (length_at r at)) 3 ∷ [])
