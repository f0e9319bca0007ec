use Rattle.std.proofs.Common.{◌≡◌, replicate, length}
use Rattle.collect.specs.Collect.{offset_to, area_to, entry_place_to, entry_to}
use Rattle.collect.specs.Writes.{write_all}
use Rattle.collect.proofs.moving.Source.write_deal.Given as goal

-- the areas of the first slots are written over zeros
abbrev pub invariant-loop-j : goal.invariant-loop-j
invariant-loop-j l =
    let deal = l.self.deal.now in
    (length l.new ≡ length deal) × (l.new ≡ write_all (offset_to deal) (area_to deal) l.j (replicate (length deal) 0))

-- and then the entries over all areas
abbrev pub invariant-loop-k : goal.invariant-loop-k
invariant-loop-k l =
    let deal = l.self.deal.now in
    (length l.new ≡ length deal) × (l.new ≡ write_all (entry_place_to deal) (entry_to deal) l.k l.initial.new)
