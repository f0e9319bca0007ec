-- What the functions of include/vizhuthamen.h answer, and what they write to lent outputs.
use Rattle.std.specs.Prelude.{◌||◌, ℕ, List, length, eqb}
use Rattle.rules.specs.Choice.{choose}
use Rattle.fields.specs.FieldAt.{Field}
use Rattle.fields.specs.FieldAt.{Content, Refused}

-- the code: 12, before all else, where an output has not its one length
abbrev pub lent_code : ℕ → List ℕ → ℕ → ℕ
lent_code n output code = choose (eqb (length output) n) code 12

-- the same for the two strings of a settling
abbrev pub lent_pair_code : List ℕ → List ℕ → ℕ → ℕ
lent_pair_code left right code = lent_code 64 left (lent_code 64 right code)

-- an output afterwards, bytes or a number: written with code 0, left as it was with every other
abbrev pub lent_output : {A : Type 0} → ℕ → A → A → A
lent_output code value before = choose (eqb code 0) value before

-- the same where it is written with one other code too: 15 in the bookings, 17 in the settlings
abbrev pub lent_output_or : {A : Type 0} → ℕ → ℕ → A → A → A
lent_output_or other code value before = choose (eqb code 0 || eqb code other) value before

-- the four numbers of a field, 0 where none lies at the place
abbrev pub field_tag : Field → ℕ
field_tag (Content tag start n next) = tag
field_tag Refused = 0

abbrev pub field_start : Field → ℕ
field_start (Content tag start n next) = start
field_start Refused = 0

abbrev pub field_length : Field → ℕ
field_length (Content tag start n next) = n
field_length Refused = 0

abbrev pub field_next : Field → ℕ
field_next (Content tag start n next) = next
field_next Refused = 0
