use Rattle.std.specs.Prelude.{◌*◌, take}
use Rattle.playback.specs.RowBytes.{rows_bytes}
use Rattle.playback.proofs.Parts.{Written}
use Rattle.playback.proofs.rows.put_rows.Given as goal

abbrev pub invariant-loop-i : goal.invariant-loop-i
invariant-loop-i l = Written l.initial.out 0 (57 * l.i) (rows_bytes (take l.i l.rows)) l.out
