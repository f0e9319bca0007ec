use Rattle.std.proofs.Common.{◌≡◌, replicate, length}
use Rattle.sizes.specs.Sizes.{entry_count}
use Rattle.collect.specs.Collect.{slot_to, owner_to}
use Rattle.collect.specs.Writes.{write_all}
use Rattle.collect.proofs.moving.Source.write_table.Given as goal

-- the owners of the first slots are written over zeros
abbrev pub invariant-loop-j : goal.invariant-loop-j
invariant-loop-j l =
    let deal = l.self.deal.now in
    (length l.new ≡ entry_count (length deal))
    × (l.new ≡ write_all (slot_to deal) (owner_to deal l.table) l.j (replicate (entry_count (length deal)) 0))
