-- The answer for the segment path decides, or else the one for the entry path.
use Rattle.record.proofs.judgement.paths_clear.Goals as goal

pub returns-then-no_stray_bits : goal.returns-then-no_stray_bits
returns-then-no_stray_bits c = rw (← c.no_stray_bits.ensures, c.if-no_stray_bits.true) c.no_stray_bits-then-no_stray_bits.ensures

pub returns-else-no_stray_bits : goal.returns-else-no_stray_bits
returns-else-no_stray_bits c = rw (← c.no_stray_bits.ensures, c.if-no_stray_bits.false)
