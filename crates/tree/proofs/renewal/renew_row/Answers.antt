-- `renew_row`: the row below stands in the deal, or in the buffer before the row above.
use mathlib.Core.Path.{◌≡◌, sym, ap, ◌∙◌}
use mathlib.Core.List.{List, ◌++◌}
use Prim.Native.Nat.{ℕ, suc, ◌+◌, ◌*◌, ◌/◌, ◌≤◌, ◌<◌}
use native.Mathlib.Numerals.{add-one}
use native.Mathlib.Omega.{arith}
use lib.ListN.{length, take, drop}
use Rattle.octets.specs.Splice.{part}
use Rattle.tree.specs.Place.{RowInTree, node_place}
use Rattle.tree.specs.PlaceLaws.{children_small, height_small, row_small, row_inside}
use Rattle.tree.specs.RowAbove.{row_above}
use Rattle.tree.specs.RowAboveLaws.{above_length}
use Rattle.tree.proofs.RowPairs.{deal_pair, buffer_pair, pairs_written, splice_parts, row_below_begins, rows_apart}
use Rattle.tree.proofs.RowPairs.{row_place, row_below_part}
use Rattle.tree.proofs.renewal.renew_row.Goals as goal

-- where the nodes to be written begin
begins : (D below first count : ℕ) → RowInTree D (suc below) first count → {at : ℕ} → at ≡ node_place D (below + 1) 0
    → at + 32 * first ≡ node_place D (suc below) first
begins D below first count t e =
    ap (λ (n : ℕ). n + 32 * first) (e ∙ ap (λ (h : ℕ). node_place D h 0) (add-one below))
    ∙ row_place D below first count t

-- and where they end
ends : (D below first count : ℕ) (t : RowInTree D (suc below) first count) {at : ℕ} → at ≡ node_place D (below + 1) 0
    → at + 32 * first + 32 * count + 32 ≤ D
ends D below first count t e =
    omega (arith, begins D below first count t e, row_inside D (suc below) first count t (omega arith))

-- their children end before them
children_end : (D below first count : ℕ) (t : RowInTree D (suc below) first count) → 0 < below → {at children : ℕ}
    → at ≡ node_place D (below + 1) 0 → children ≡ node_place D below 0
    → children + 64 * first + 64 * count ≤ at + 32 * first
children_end D below first count t up e k =
    let place = e ∙ ap (λ (h : ℕ). node_place D h 0) (add-one below) in
    omega (arith, rows_apart D below first count t up)

pub overflow_add-below : goal.overflow_add-below
overflow_add-below c =
    let a = c.args in
    let D = length a.deal.now in
    record { fits = omega (arith, height_small D (suc a.below) a.first a.count c.requires.0 (omega arith)) }

pub overflow_mul-place : goal.overflow_mul-place
overflow_mul-place c =
    let a = c.args in
    let D = length a.deal.now in
    record { fits = omega (arith, row_small D (suc a.below) a.first a.count c.requires.0) }

pub overflow_add-place : goal.overflow_add-place
overflow_add-place c =
    let a = c.args in
    record { fits = omega (arith, ends (length a.deal.now) a.below a.first a.count c.requires.0 c.node_place.ensures) }

pub split_at_mut-rows-requires : goal.split_at_mut-rows-requires
split_at_mut-rows-requires c =
    let a = c.args in
    omega (arith, c.requires.1, ends (length a.deal.now) a.below a.first a.count c.requires.0 c.node_place.ensures)

pub overflow_mul-count : goal.overflow_mul-count
overflow_mul-count c =
    let a = c.args in
    record { fits = omega (arith, ends (length a.deal.now) a.below a.first a.count c.requires.0 c.node_place.ensures) }

pub split_at_mut-above-requires : goal.split_at_mut-above-requires
split_at_mut-above-requires c =
    let a = c.args in
    omega (
      arith,
      c.requires.1,
      c.split_at_mut-rows.ensures.back_len,
      ends (length a.deal.now) a.below a.first a.count c.requires.0 c.node_place.ensures,
    )

pub split_at-requires : goal.split_at-requires
split_at-requires c =
    let a = c.args in
    omega (arith, children_small (length a.deal.now) a.below a.first a.count c.requires.0)

pub split_at-requires-then-below-eq0 : goal.split_at-requires-then-below-eq0
split_at-requires-then-below-eq0 c =
    let a = c.args in
    omega (
      arith,
      c.split_at.ensures.back_len,
      children_small (length a.deal.now) a.below a.first a.count c.requires.0,
    )

pub returns-then-below-eq0 : goal.returns-then-below-eq0
unfolding part
returns-then-below-eq0 c =
    let a = c.args in
    let deal = a.deal.now in
    let tree = a.tree.now in
    let D = length deal in
    let t = c.requires.0 in
    let rows = c.split_at_mut-rows.result.0.now in
    let rest = c.split_at_mut-rows.result.1.now in
    let above = c.split_at_mut-above.result.0.now in
    let tail = c.split_at_mut-above.result.1.now in
    let run = c.split_at-then-below-eq0.result.0.now in
    let at : ℕ = c.node_place.result + 32 * a.first in
    let count : length above / 32 ≡ a.count = omega (arith, c.split_at_mut-above.ensures.front_len) in
    ap (λ (v : List ℕ). rows ++ (v ++ tail)) (c.fill_part.ensures ∙ ap (λ (n : ℕ). row_above n run) count)
    ∙ splice_parts tree rows rest tail (row_above a.count run) at c.split_at_mut-rows.ensures.front
    c.split_at_mut-rows.ensures.back
    (c.split_at_mut-above.ensures.back ∙ ap (λ (n : ℕ). drop n rest) (sym (above_length a.count run)))
    ∙ pairs_written deal tree run c.requires.1 a.below a.first at
    (begins D a.below a.first a.count t c.node_place.ensures) a.count t
    (λ l k. deal_pair deal tree a.below a.first a.count l k run c.if-below-eq0.true
    (c.split_at-then-below-eq0.ensures.front ∙ ap (take (64 * a.count)) c.split_at.ensures.back)
    (children_small D a.below a.first a.count t))

pub node_place-requires-2 : goal.node_place-requires-2
node_place-requires-2 c =
    let a = c.args in
    (omega arith, row_below_begins (length a.deal.now) a.below a.first a.count c.requires.0)

pub overflow_add-node_place : goal.overflow_add-node_place
overflow_add-node_place c =
    let a = c.args in
    let D = length a.deal.now in
    let t = c.requires.0 in
    record {
      fits = omega (
        arith,
        ends D a.below a.first a.count t c.node_place.ensures,
        children_end D a.below a.first a.count t (omega arith) c.node_place.ensures c.node_place-2.ensures,
      );
    }

pub split_at-requires-2 : goal.split_at-requires-2
split_at-requires-2 c =
    let a = c.args in
    let D = length a.deal.now in
    omega (
      arith,
      c.split_at_mut-rows.ensures.front_len,
      children_end D a.below a.first a.count c.requires.0 (omega arith) c.node_place.ensures c.node_place-2.ensures,
    )

pub split_at-requires-3 : goal.split_at-requires-3
split_at-requires-3 c =
    let a = c.args in
    let D = length a.deal.now in
    omega (
      arith,
      c.split_at_mut-rows.ensures.front_len,
      c.split_at-2.ensures.back_len,
      children_end D a.below a.first a.count c.requires.0 (omega arith) c.node_place.ensures c.node_place-2.ensures,
    )

pub returns : goal.returns
returns c =
    let a = c.args in
    let deal = a.deal.now in
    let tree = a.tree.now in
    let D = length deal in
    let t = c.requires.0 in
    let rows = c.split_at_mut-rows.result.0.now in
    let rest = c.split_at_mut-rows.result.1.now in
    let above = c.split_at_mut-above.result.0.now in
    let tail = c.split_at_mut-above.result.1.now in
    let run = c.split_at-3.result.0.now in
    let at : ℕ = c.node_place.result + 32 * a.first in
    let children : ℕ = c.node_place-2.result + 64 * a.first in
    let count : length above / 32 ≡ a.count = omega (arith, c.split_at_mut-above.ensures.front_len) in
    let room = ends D a.below a.first a.count t c.node_place.ensures in
    let apart = children_end D a.below a.first a.count t (omega arith) c.node_place.ensures c.node_place-2.ensures in
    ap (λ (v : List ℕ). rows ++ (v ++ tail)) (c.fill_part-2.ensures ∙ ap (λ (n : ℕ). row_above n run) count)
    ∙ splice_parts tree rows rest tail (row_above a.count run) at c.split_at_mut-rows.ensures.front
    c.split_at_mut-rows.ensures.back
    (c.split_at_mut-above.ensures.back ∙ ap (λ (n : ℕ). drop n rest) (sym (above_length a.count run)))
    ∙ pairs_written deal tree run c.requires.1 a.below a.first at
    (begins D a.below a.first a.count t c.node_place.ensures) a.count t
    (λ l k. buffer_pair deal tree a.below a.first a.count l k run children (omega arith)
    (ap (λ (n : ℕ). n + 64 * a.first) c.node_place-2.ensures)
    (row_below_part tree rows c.split_at-2.result.1.now run children at (64 * a.count) apart
    c.split_at_mut-rows.ensures.front c.split_at-2.ensures.back c.split_at-3.ensures.front)
    (omega (arith, c.requires.1, room, apart)))
