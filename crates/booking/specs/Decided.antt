-- The place in an answer that has more beside it.
use Rattle.std.specs.Prelude.{Result, Ok, Err}
use Rattle.room.specs.declared.Placed.{Placed}
use Rattle.room.specs.declared.Unbooked.{Unbooked}
use Rattle.rules.specs.declared.Refusal.{Refusal}

abbrev pub placed_in : {A : Type 0} → Result (A × Placed) (Unbooked Refusal) → Result Placed (Unbooked Refusal)
placed_in (Ok found) = Ok found.1
placed_in (Err why) = Err why
