-- Where the contents of a table's fields stand: a start and a length for each.
use Rattle.std.specs.Prelude.{ℕ, List, [], ◌∷◌, ◌++◌, length, leb}
use Rattle.rules.specs.Choice.{choose}
use Rattle.octets.specs.Splice.{part}
use Rattle.fields.specs.Table.{Contents, contents, malformed}
use Rattle.fields.specs.FieldAt.{field_for}
use Rattle.fields.specs.declared.FieldRule.{FieldRule}
use Rattle.fields.specs.FieldAt.{Field}
use Rattle.fields.specs.FieldAt.{Content, Refused}

-- the starts and the lengths, or that the fields are not those of the table
pub data Spans : Type 0 where
  spans : List ℕ → List ℕ → Spans
  misplaced : Spans

-- spans before others
abbrev pub before : List ℕ → List ℕ → Spans → Spans
before ss ns (spans ts ms) = spans (ss ++ ts) (ns ++ ms)
before ss ns misplaced = misplaced

abbrev pub on_field : Field → (ℕ → ℕ → ℕ → Spans) → Spans
on_field (Content tag start n next) later = later start n next
on_field Refused later = misplaced

-- the spans of a table's fields from a place on, each where the one before it ends, with nothing after the last
unfoldable pub spans_from : List FieldRule → List ℕ → ℕ → Spans
spans_from [] r at = choose (leb (length r) at) (spans [] []) misplaced
spans_from (f ∷ fs) r at = on_field (field_for f r at) (λ start n next. before (start ∷ []) (n ∷ []) (spans_from fs r next))

-- the contents that spans name
abbrev pub parts_of : List ℕ → List ℕ → List ℕ → List (List ℕ)
parts_of r [] ns = []
parts_of r (s ∷ ss) [] = []
parts_of r (s ∷ ss) (n ∷ ns) = part r s n ∷ parts_of r ss ns

abbrev pub contents_at : List ℕ → Spans → Contents
contents_at r (spans ss ns) = contents (parts_of r ss ns)
contents_at r misplaced = malformed
