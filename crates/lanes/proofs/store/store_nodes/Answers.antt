-- `store_nodes`: after i turns the bytes of the first i words are written.
use Prim.Native.Nat.{ℕ, ◌+◌, ◌*◌}
use mathlib.Core.Path.{◌≡◌, refl, ap, ◌∙◌}
use mathlib.Core.List.{List}
use native.Mathlib.Omega.{arith}
use lib.ListN.{get_or}
use Rattle.octets.specs.Splice.{splice}
use Rattle.lanes.specs.NodeWords.{word_bytes}
use Rattle.lanes.proofs.StoreLaws.{first_bytes, stored_none, stored_next, stored_lanes}
use Rattle.lanes.proofs.store.store_nodes.Goals as goal

pub loop-i-init : goal.loop-i-init
loop-i-init c =
    let a = c.args in
    (refl, stored_none a.run.now c.lane_by_lane-words.result a.at)

pub loop-i-preserved : goal.loop-i-preserved
loop-i-preserved c =
    let words = c.lane_by_lane-words.result in
    let a = c.args in (
      c.put_array.auto.d ∙ c.loop-i.invariant.0,
      c.put_array.ensures.0
          ∙ ap (splice c.loop-i.run (a.at + 4 * c.loop-i.i)) c.to_be_bytes.ensures
          ∙ ap (λ (d : List ℕ). splice d (a.at + 4 * c.loop-i.i) (word_bytes (get_or words c.loop-i.i 0)))
          c.loop-i.invariant.1
          ∙ stored_next a.run.now words a.at c.loop-i.i (omega (arith, c.requires.1)),
    )

pub returns : goal.returns
returns c =
    let made = c.lane_by_lane-words in
    let a = c.args in
    let e : c.loop-i.i ≡ 8 * a.count = omega arith in
    c.loop-i.invariant.1
    ∙ ap (splice a.run.now a.at)
    (ap (first_bytes made.result) e
    ∙ ap (λ (w : List ℕ). first_bytes w (8 * a.count)) made.ensures
    ∙ stored_lanes a.nodes a.count c.requires.0)
