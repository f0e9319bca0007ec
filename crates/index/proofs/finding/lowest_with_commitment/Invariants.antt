-- No slot below i keeps the commitment, so the lowest that does is the lowest of those from i on; and the areas that
-- were hashed were hashed in vain.
use Rattle.std.specs.Prelude.{◌≡◌, ◌-◌}
use Rattle.rules.specs.Search.{lowest}
use Rattle.lent.specs.Seen.{seen}
use Rattle.index.specs.Find.{keeps_commitment, lowest_with_commitment}
use Rattle.index.proofs.Naming.{Missed}
use Rattle.index.proofs.finding.lowest_with_commitment.Given as goal

abbrev pub invariant-loop-i : goal.invariant-loop-i
invariant-loop-i l =
    (lowest_with_commitment (seen l.deal) l.commitment
    ≡ lowest (keeps_commitment (seen l.deal) l.commitment) l.i (l.i-end - l.i))
    × Missed (seen l.deal).nodes l.commitment l.tried
