use mathlib.Core.Path.{◌≡◌, sym, ap, ◌∙◌}
use mathlib.Core.Bool.{true}
use mathlib.Core.List.{List}
use Prim.Native.Nat.{ℕ, ◌+◌, ◌-◌, ◌≤◌, ◌<◌}
use native.Mathlib.Omega.{arith}
use lib.ListN.{length, take, drop}
use Rattle.sizes.specs.Sizes.{lent_size_allowed, entry_count, slot_place}
use Rattle.sizes.specs.SizesLaws.{lent_size}
use Rattle.entries.specs.Entry.{kind_of}
use Rattle.entries.specs.declared.EntryKind.{EntryKind}
use Rattle.entries.specs.declared.EntryKind.TheVariants.{Blank, Damaged, Valid}
use Rattle.index.specs.declared.Tallied.{Tallied}
use Rattle.index.specs.Slots.{slot_at}
use Rattle.index.specs.KeptRowsLaws.{slot_within}
use Rattle.index.proofs.Counting.{slot_is, counting_start, counting_turn, counting_over}
use Rattle.index.proofs.tallying.counts_of.Goals as goal
use Rattle.index.proofs.tallying.counts_of.Goals.{in-Blank, in-Damaged, in-Valid}

-- slot i lies within the deal
within : (d i place : ℕ) → lent_size_allowed d ≡ true → i < entry_count d → place ≡ slot_place d i → place + 64 ≤ d
within d i place e h p = omega (arith, slot_within d i (lent_size d e).deal h)

-- the kind of slot i, by what was read
read_kind : (deal : List ℕ) (i place : ℕ) (read kind : EntryKind) → place ≡ slot_place (length deal) i
    → read ≡ kind_of (take (place + 64 - place) (drop place deal)) → read ≡ kind → kind ≡ kind_of (slot_at deal i)
read_kind deal i place read kind p e k = sym k ∙ e ∙ ap kind_of (slot_is deal i place p)

-- the three counts
abbrev blank_in : Tallied → ℕ
blank_in counts = counts.blank

abbrev damaged_in : Tallied → ℕ
damaged_in counts = counts.damaged

abbrev valid_in : Tallied → ℕ
valid_in counts = counts.valid

pub loop-i-init : goal.loop-i-init
loop-i-init c = counting_start c.args.deal.now.bytes.now c.entry_count-i-end.result

pub slot_place-place-requires : goal.slot_place-place-requires
slot_place-place-requires c = ((lent_size (length c.args.deal.now.bytes.now) c.args.deal.now.usable.size_allowed).allowed, omega arith)

pub overflow_add-end : goal.overflow_add-end
overflow_add-end c =
    omega (
      arith,
      within (length c.args.deal.now.bytes.now) c.loop-i.i c.slot_place-place.result c.args.deal.now.usable.size_allowed (omega arith)
          c.slot_place-place.ensures,
    )

pub slice_bounds-kind_of-end : goal.slice_bounds-kind_of-end
slice_bounds-kind_of-end c =
    within (length c.args.deal.now.bytes.now) c.loop-i.i c.slot_place-place.result c.args.deal.now.usable.size_allowed (omega arith)
    c.slot_place-place.ensures

pub loop-i-preserved : goal.loop-i-preserved
loop-i-preserved c =
    let deal = c.args.deal.now.bytes.now in
    let place = c.slot_place-place in
    let read = read_kind deal c.loop-i.i place.result c.kind_of.result in
    let turn = counting_turn deal c.entry_count-i-end.result c.loop-i.i c.loop-i.counts.blank c.loop-i.counts.damaged
    c.loop-i.counts.valid c.match-kind_of.counts.blank c.match-kind_of.counts.damaged c.match-kind_of.counts.valid in
    elim c.match-kind_of.branch [
      | in-Blank w ↦
          let is = read Blank place.ensures c.kind_of.ensures w.in-Blank.is in
          turn Blank c.loop-i-test.true c.loop-i.invariant is (omega (arith, ap blank_in w.counts-is))
          (omega (arith, ap damaged_in w.counts-is)) (omega (arith, ap valid_in w.counts-is))
      | in-Damaged w ↦
          let is = read Damaged place.ensures c.kind_of.ensures w.in-Damaged.is in
          turn Damaged c.loop-i-test.true c.loop-i.invariant is (omega (arith, ap blank_in w.counts-is))
          (omega (arith, ap damaged_in w.counts-is)) (omega (arith, ap valid_in w.counts-is))
      | in-Valid w ↦
          let is = read Valid place.ensures c.kind_of.ensures w.in-Valid.is in
          turn Valid c.loop-i-test.true c.loop-i.invariant is (omega (arith, ap blank_in w.counts-is))
          (omega (arith, ap damaged_in w.counts-is)) (omega (arith, ap valid_in w.counts-is))
    ]

pub returns : goal.returns
returns c =
    counting_over c.args.deal.now.bytes.now c.entry_count-i-end.result c.loop-i.i c.loop-i.counts.blank
    c.loop-i.counts.damaged c.loop-i.counts.valid (omega arith) c.entry_count-i-end.ensures c.loop-i.invariant
