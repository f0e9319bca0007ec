-- The last difference of the whole paths is that of what is left of them, on top of the last one seen.
use Rattle.std.specs.Prelude.{◌≡◌, ◌-◌, ◌*◌, ◌/◌, length, drop}
use Rattle.paths.specs.Compare.{compared_up}
use Rattle.paths.proofs.compare_paths.Given as goal

abbrev pub invariant-loop-i : goal.invariant-loop-i
invariant-loop-i l =
    let levels = length l.left / 32 in
    compared_up levels l.initial.p l.initial.a l.left l.initial.b l.right l.initial.last
    ≡ compared_up (levels - l.i) l.p l.a (drop (l.i * 32) l.left) l.b (drop (l.i * 32) l.right) l.last
