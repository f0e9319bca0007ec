-- The path leads where what is left of it leads from the running node.
use Rattle.std.specs.Prelude.{◌≡◌, ◌-◌, ◌*◌, ◌/◌, length, drop}
use Rattle.paths.specs.Path.{path_root}
use Rattle.paths.proofs.path_root.Given as goal

abbrev pub invariant-loop-i : goal.invariant-loop-i
invariant-loop-i l =
    let levels = length l.path / 32 in
    path_root levels l.initial.running l.initial.p l.path
    ≡ path_root (levels - l.i) l.running l.p (drop (l.i * 32) l.path)
