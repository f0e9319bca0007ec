-- `commitment`: the two refusals, and the root of a run of the height that the trailing zeros give.
use Prim.Native.Nat.{ℕ, ◌-◌, ◌^◌}
use mathlib.Core.Path.{◌≡◌, sym, ap, ◌∙◌}
use mathlib.Core.Bool.{Bool, true}
use mathlib.Core.List.{List}
use native.Mathlib.Omega.{arith}
use lib.ListN.{length}
use Rattle.merkle.specs.Tree.{commitment_of}
use Rattle.merkle.specs.CommitmentLaws.{size_refused, stray_refused, accepted, height_five, tree_sized_lem}
use Rattle.merkle.proofs.commitment.Goals as goal

-- a test that is passed
passed : {test said : Bool} → said ≡ test → said ≡ true → test ≡ true
passed e h = sym e ∙ h

pub returns-then-not-is_power_between : goal.returns-then-not-is_power_between
returns-then-not-is_power_between c =
    sym (size_refused _ (sym c.is_power_between.ensures ∙ c.if-not-is_power_between.true))

pub returns-then-not-no_stray_bits : goal.returns-then-not-no_stray_bits
returns-then-not-no_stray_bits c =
    sym
    (stray_refused _ (passed c.is_power_between.ensures c.if-not-is_power_between.false)
    (sym c.no_stray_bits.ensures ∙ c.if-not-no_stray_bits.true))

pub overflow_sub-height : goal.overflow_sub-height
overflow_sub-height c =
    let run = c.args.run.now in
    simp c.log2.ensures
    (height_five 32 (2 ^ 24) (length run) (omega arith) (omega arith)
    (passed c.is_power_between.ensures c.if-not-is_power_between.false))

pub root-requires : goal.root-requires
root-requires c =
    let run = c.args.run.now in
    simp c.log2.ensures
    (tree_sized_lem 32 (2 ^ 24) (length run) (omega arith) (omega arith)
    (passed c.is_power_between.ensures c.if-not-is_power_between.false))

pub returns : goal.returns
returns c =
    let run = c.args.run.now in
    let node = c.root.ensures ∙ ap (λ (n : ℕ). commitment_of (n - 5) run) c.log2.ensures in
    ap (λ (v : List ℕ). record { code = 0; node = v }) node
    ∙ sym
    (accepted run (passed c.is_power_between.ensures c.if-not-is_power_between.false)
    (passed c.no_stray_bits.ensures c.if-not-no_stray_bits.false))
