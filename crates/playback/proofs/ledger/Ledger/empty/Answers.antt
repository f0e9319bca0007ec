use Rattle.std.specs.Prelude.{replicate}
use Rattle.playback.specs.Steps.{Fits}
use Rattle.playback.specs.LedgerLaws.{empty_fits}
use Rattle.playback.proofs.ledger.Ledger.empty.Goals as goal

pub invariant_of-result : goal.invariant_of-result
invariant_of-result c =
    let f : Fits c.args.size (replicate 128 c.vacant.result) = rw c.vacant.ensures (empty_fits c.args.size c.requires) in
    record { size_allowed = c.requires; ends = f.ends }
