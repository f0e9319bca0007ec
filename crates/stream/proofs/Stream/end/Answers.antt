-- `end`: the refusals, and the node that waits at the height that the trailing zeros give.
use mathlib.Core.Path.{◌≡◌, sym, ap, ◌∙◌}
use mathlib.Core.List.{List}
use Prim.Native.Nat.{ℕ, ◌-◌, ◌*◌}
use native.Mathlib.Omega.{arith}
use lib.ListN.{length}
use borrow.Author.Rules.{rules}
use Rattle.octets.specs.Splice.{part}
use Rattle.stream.specs.StreamLaws.{ends_stray, ends_failed, ends_refused, ends_committed, tree_height}
use Rattle.stream.specs.StreamLaws.{height_waits}
use Rattle.stream.proofs.Stream.end.Goals as goal

pub returns-then-self-eq11 : goal.returns-then-self-eq11
returns-then-self-eq11 c = sym (ends_stray _ c.if-self-eq11.true)

pub returns-then-self-ne0 : goal.returns-then-self-ne0
returns-then-self-ne0 c = sym (ends_failed _ c.if-self-ne0.true c.if-self-eq11.false)

pub returns-then-not-is_power_between : goal.returns-then-not-is_power_between
returns-then-not-is_power_between c =
    sym
    (ends_refused _ c.if-self-ne0.false (sym c.is_power_between.ensures ∙ c.if-not-is_power_between.true))

pub overflow_sub-height : goal.overflow_sub-height
overflow_sub-height c =
    simp c.log2.ensures
    (tree_height c.args.self.count (sym c.is_power_between.ensures ∙ c.if-not-is_power_between.false))

pub array_at-node-requires : goal.array_at-node-requires
array_at-node-requires c =
    let s = c.args.self in
    let l : length s.waiting ≡ 1024 = search rules in
    let h = height_waits s.count (sym c.is_power_between.ensures ∙ c.if-not-is_power_between.false) in
    simp c.log2.ensures (omega arith)

pub returns : goal.returns
returns c =
    let s = c.args.self in
    let node =
    c.array_at-node.ensures
    ∙ ap (λ (n : ℕ). part s.waiting (32 * (n - 5)) 32) c.log2.ensures in
    ap (λ (v : List ℕ). record { code = 0; node = v; count = s.count }) node
    ∙ sym (ends_committed s c.if-self-ne0.false (sym c.is_power_between.ensures ∙ c.if-not-is_power_between.false))
