-- `root_with_last_path`: sixteen parts, each in a lane, and the nodes over them.
use mathlib.Core.Path.{◌≡◌, ap, ◌∙◌}
use mathlib.Core.List.{List}
use Prim.Native.Nat.{ℕ, ◌+◌, ◌-◌, ◌*◌, ◌/◌}
use native.Mathlib.Omega.{arith}
use lib.ListN.{length}
use Rattle.octets.specs.Bytes.{bytes_of_slice}
use Rattle.octets.specs.Splice.{part, splice}
use Rattle.octets.specs.SpliceLaws.{part_length, part_whole, bytes_part, splice_append}
use Rattle.merkle.specs.Tree.{commitment_of}
use Rattle.merkle.specs.TreeLaws.{commitment_bytes}
use Rattle.merkle.specs.LastPath.{last_path, path_over}
use Rattle.merkle.specs.LastPathLaws.{last_path_length}
use Rattle.merkle.proofs.Parts.{over_parts, sixteenth, all_sixteen}
use Rattle.merkle.proofs.PathParts.{path_of_parts}
use Rattle.merkle.proofs.last_path.root_with_last_path.Goals as goal

pub lane_roots_with_path-nodes-requires : goal.lane_roots_with_path-nodes-requires
lane_roots_with_path-nodes-requires c =
    let n = length c.args.run.now in
    let e = all_sixteen c.args.height n c.requires.0 c.requires.1 in
    (sixteenth c.args.height n c.requires.0 c.requires.1, omega arith, omega (arith, c.requires.2))

pub returns : goal.returns
returns c =
    let run = c.args.run.now in
    let path = c.args.path.now in
    let h = c.args.height in
    let step : ℕ = length run / 16 in
    let sized = sixteenth h (length run) c.requires.0 c.requires.1 in
    let all = all_sixteen h (length run) c.requires.0 c.requires.1 in
    let x : ℕ → List ℕ = λ l. commitment_of (h - 4) (part run (0 + l * step) step) in
    let lower : List ℕ = last_path (h - 4) (part run (0 + 15 * step) step) in
    let l : length lower ≡ 32 * (h - 4) =
    last_path_length (h - 4) (part run (0 + 15 * step) step)
    (omega (arith, part_length run (0 + 15 * step) step (omega arith))) in
    let up =
    c.over_lanes.ensures x
    (λ l b. (
      c.lane_roots_with_path-nodes.ensures.by_index l b,
      commitment_bytes (h - 4) (part run (0 + l * step) step)
          (bytes_part run (0 + l * step) step (bytes_of_slice run c.type_inv.run)),
    )) in (
      up.0
          ∙ over_parts 4 (h - 4) h step (length run) 0 run sized (omega (arith, c.requires.1)) c.requires.0
          ∙ ap (commitment_of h) (part_whole run),
      up.1
          ∙ ap (λ (v : List ℕ). splice v (32 * (h - 4)) (path_over 4 x)) c.lane_roots_with_path-nodes.ensures.path_after
          ∙ splice_append path 0 (32 * (h - 4)) lower (path_over 4 x) (omega (arith, c.requires.2)) (omega arith)
          ∙ ap (splice path 0)
          (path_of_parts 4 (h - 4) h step (length run) 0 run sized (omega (arith, c.requires.1)) c.requires.0
          ∙ ap (last_path h) (part_whole run)),
    )
