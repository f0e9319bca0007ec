-- The answer that a result of settling stands for.
use Rattle.std.specs.Prelude.{Result, Option}
use Rattle.rules.specs.Answers.{answered}
use Rattle.rules.specs.declared.Refusal.{Refusal}
use Rattle.paths.specs.Compare.{seen_as}
use Rattle.paths.specs.declared.Difference.{Difference}
use Rattle.settle.specs.Settle.{Settled, not_settled}
use Rattle.settle.specs.SettleLaws.{settled_from}

-- 17 with the two strings that differ, 0 where none does, else the refusal's code
abbrev pub settled_answer : Result (Option Difference) Refusal → Settled
settled_answer = answered (λ found. settled_from (seen_as found)) not_settled
