-- The answers that the results of the code stand for.
use Rattle.std.specs.Prelude.{ℕ, List, Result}
use Rattle.rules.specs.declared.Refusal.{Refusal}
use Rattle.rules.specs.Answers.{answered}
use Rattle.entries.specs.Entry.{MadeEntry, ReadEntry, refused, no_fields}
use Rattle.entries.specs.declared.EntryKind.TheVariants.{Blank, Damaged, Valid}
use Rattle.entries.specs.declared.ReadEntry as R
use Rattle.entries.specs.declared.ReadEntry.TheVariants as V

-- a made entry, or zeros beside a refusal's code
abbrev pub made_as : Result (List ℕ) Refusal → MadeEntry
made_as = answered (λ entry. record { code = 0; entry = entry }) refused

-- what was read of an entry, with zeros where it is not valid
abbrev pub read_fields : R.ReadEntry → ReadEntry
read_fields V.Blank = no_fields 0 Blank
read_fields V.Damaged = no_fields 0 Damaged
read_fields (V.Valid fields) =
    record { code = 0; kind = Valid; commitment = fields.commitment; offset = fields.offset; size = fields.size }

-- the same, or the kind Blank with zeros beside a refusal's code
abbrev pub read_answer : Result R.ReadEntry Refusal → ReadEntry
read_answer = answered read_fields (λ code. no_fields code Blank)
