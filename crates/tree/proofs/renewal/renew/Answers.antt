-- `renew`: all heights over the buffer as it was are what is left of them over the buffer as it is.
use mathlib.Core.Path.{◌≡◌, refl, sym, ap, subst, ◌∙◌}
use Prim.Native.Nat.{ℕ, suc, ◌+◌, ◌-◌, ◌*◌, ◌/◌, ◌^◌}
use native.Mathlib.Nat.{div-le_self}
use native.Mathlib.Omega.{arith}
use mathlib.Core.List.{List}
use lib.ListN.{length}
use Rattle.tree.specs.Place.{RowInTree}
use Rattle.tree.specs.Renewed.{renewed_row, renewed_up}
use Rattle.tree.specs.RenewedLaws.{level_row}
use Rattle.tree.proofs.Levels.{next_span, span_fits, in_order, up_start, up_next, up_over}
use Rattle.tree.proofs.renewal.renew.Goals as goal

pub loop-below-init : goal.loop-below-init
loop-below-init c =
    let a = c.args in
    (refl, up_start a.deal.now a.from a.len a.top a.tree.now)

pub overflow_mul-span : goal.overflow_mul-span
overflow_mul-span c =
    let a = c.args in
    let D = length a.deal.now in
    record {
      fits = omega (
        arith,
        (span_fits D a.top c.loop-below.span c.loop-below.below c.requires.deal_len.0
            (omega arith) c.loop-below.invariant.0).1,
      );
    }

pub nonzero_div-first : goal.nonzero_div-first
nonzero_div-first c =
    let a = c.args in
    let D = length a.deal.now in
    omega (
      arith,
      (span_fits D a.top c.loop-below.span c.loop-below.below c.requires.deal_len.0 (omega arith)
          c.loop-below.invariant.0).0,
    )

pub nonzero_div-last : goal.nonzero_div-last
nonzero_div-last c =
    let a = c.args in
    let D = length a.deal.now in
    omega (
      arith,
      (span_fits D a.top c.loop-below.span c.loop-below.below c.requires.deal_len.0 (omega arith)
          c.loop-below.invariant.0).0,
    )

pub overflow_add-last-in-loop-below : goal.overflow_add-last-in-loop-below
overflow_add-last-in-loop-below c =
    let a = c.args in
    record { fits = omega (arith, c.requires.len_nonzero.1, div-le_self (a.from + a.len - 1) (c.loop-below.span * 2)) }

pub overflow_sub-last-in-loop-below : goal.overflow_sub-last-in-loop-below
overflow_sub-last-in-loop-below c =
    let a = c.args in
    let D = length a.deal.now in
    let p = (span_fits D a.top c.loop-below.span c.loop-below.below c.requires.deal_len.0
    (omega arith) c.loop-below.invariant.0).0 in
    omega (
      arith,
      in_order a.from (a.from + a.len - 1) (c.loop-below.span * 2) p
          (omega (arith, c.requires.len_nonzero.0)),
    )

pub renew_row-requires : goal.renew_row-requires
renew_row-requires c =
    let a = c.args in
    let D = length a.deal.now in
    let b = c.loop-below.below in
    let above : a.top ≡ suc b + (a.top - suc b) = omega arith in (
      subst (λ (n : ℕ). RowInTree D (suc b) (a.from / n) ((a.from + a.len - 1) / n + 1 - a.from / n))
          (sym (next_span c.loop-below.span b c.loop-below.invariant.0))
          (level_row a.deal.now a.from a.len c.requires.len_nonzero.0 c.requires.len_nonzero.1 (suc b) (a.top - suc b)
          (c.requires.deal_len.0 ∙ ap (λ (n : ℕ). 32 * 2 ^ n) above)),
      omega (arith, c.requires.deal_len.1, c.loop-below.auto.tree),
    )

pub loop-below-preserved : goal.loop-below-preserved
loop-below-preserved c =
    let a = c.args in
    let b = c.loop-below.below in
    let d = a.deal.now in
    let next : suc b ≡ b + 1 = omega arith in
    let span = next_span c.loop-below.span b c.loop-below.invariant.0 in (
      span ∙ ap (λ (n : ℕ). 32 * 2 ^ n) next,
      c.loop-below.invariant.1
          ∙ up_next d a.from a.len a.top b c.loop-below.tree (omega arith)
          ∙ ap (λ (t : List ℕ). renewed_up d t a.from a.len (b + 1) (a.top - (b + 1)))
          (sym (c.renew_row.ensures
          ∙ ap (λ (n : ℕ). renewed_row d c.loop-below.tree b (a.from / n) ((a.from + a.len - 1) / n + 1 - a.from / n))
          span)),
    )

pub returns : goal.returns
returns c =
    let a = c.args in
    sym (c.loop-below.invariant.1 ∙ up_over a.deal.now a.from a.len a.top c.loop-below.below c.loop-below.tree
    (omega arith))
