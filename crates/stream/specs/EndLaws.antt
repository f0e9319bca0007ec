-- The answer of a state after bytes is what the bytes together get.
use Rattle.std.specs.Prelude.{◌≡◌, refl, Bool, true, false, List, ℕ, ◌+◌, ◌-◌, ◌*◌, ◌/◌, ◌^◌, ◌<◌, length, take}
use Rattle.std.proofs.Common.{sym, ap, ◌∙◌, arith, length-take, pow_pos, take_all, get_or-take}
use Rattle.std.proofs.Math.Nat.{div_self}
use Rattle.rules.specs.RefusalLaws.{not_passed}
use Rattle.octets.specs.Splice.{part}
use Rattle.pow2.specs.Power.{power_between, height}
use Rattle.pow2.specs.PowerLaws.{above_bound}
use Rattle.merkle.specs.Tree.{commitment_of, node_at}
use Rattle.merkle.specs.TreeLaws.{top_node}
use Rattle.stray.specs.StrayBits.{no_stray_bits}
use Rattle.stray.specs.StrayBitsLaws.{clear_nodes_lem, nodes_clear}
use Rattle.stream.specs.Stream.{largest, failed_with, streamed, ending}
use Rattle.stream.specs.StreamLaws.{ends_stray, ends_failed, ends_refused, ends_committed, gets_stray}
use Rattle.stream.specs.StreamLaws.{gets_refused, gets_committed, tree_bytes, height_waits}
use Rattle.stream.specs.After.{Runs, StrayNode, TooLong, After, runs, stray_node, too_long}
use Rattle.stream.specs.declared.Stream.{Stream}

module _ (bytes : List ℕ) (s : Stream) where
  -- 11 sticks
  has_stray : StrayNode bytes s → no_stray_bits (take largest bytes) ≡ true → ⊥
  has_stray x e =
      let l = length-take largest bytes in
      let c =
      nodes_clear (length (take largest bytes) / 32) (take largest bytes) e x.node
      (omega (arith, x.whole, x.within)) in
      omega (arith, x.stray, get_or-take largest bytes (x.node * 32 + 31) 0 x.within)

  end_stray_node : StrayNode bytes s → ending s ≡ streamed bytes
  end_stray_node x =
      ap ending x.state_is
      ∙ ends_stray (failed_with 11) refl
      ∙ sym (gets_stray bytes (not_passed (no_stray_bits (take largest bytes)) (has_stray x)))

  -- 2 sticks
  none_stray : TooLong bytes s → no_stray_bits (take largest bytes) ≡ true
  none_stray x =
      let l = length-take largest bytes in
      clear_nodes_lem (length (take largest bytes) / 32) (take largest bytes)
      (λ i h.
      let b : i * 32 + 31 < largest = omega (arith, x.more) in
      omega (arith, get_or-take largest bytes (i * 32 + 31) 0 b, x.clear i b))

  end_too_long : TooLong bytes s → ending s ≡ streamed bytes
  end_too_long x =
      ap ending x.state_is
      ∙ ends_failed (failed_with 2) (λ z. omega arith) (λ z. omega arith)
      ∙ sym
      (gets_refused bytes (none_stray x) (above_bound 32 largest (length bytes) (omega (arith, x.more)) x.more))

  -- no code sticks
  module _ (r : Runs bytes s) where
    all_clear : no_stray_bits (take largest bytes) ≡ true
    all_clear =
        ap (λ (v : List ℕ). no_stray_bits v) (take_all largest bytes r.allowed)
        ∙ clear_nodes_lem (length bytes / 32) bytes r.clear

    -- a power of two: the one node that waits is the top of the tree
    top_waits : power_between 32 largest (length bytes) ≡ true
        → part s.waiting (32 * (height (length bytes) - 5)) 32 ≡ commitment_of (height (length bytes) - 5) bytes
    top_waits p =
        let t : ℕ = height (length bytes) - 5 in
        let l : length bytes ≡ 32 * 2 ^ t = tree_bytes (length bytes) p in
        let w : length bytes / 32 ≡ 2 ^ t = omega arith in
        let o : length bytes / 32 / 2 ^ t ≡ 1 = ap (λ (m : ℕ). m / 2 ^ t) w ∙ div_self (pow_pos t) in
        r.waits t (height_waits (length bytes) p) (omega arith)
        ∙ ap (λ (m : ℕ). node_at bytes t (m - 1)) o
        ∙ top_node bytes t l

    end_runs : ending s ≡ streamed bytes
    end_runs = by_size (power_between 32 largest (length bytes)) refl
      where
        by_size : (t : Bool) → power_between 32 largest (length bytes) ≡ t → ending s ≡ streamed bytes
        by_size false p =
            ends_refused s r.no_code (ap (power_between 32 largest) r.counts ∙ p)
            ∙ sym (gets_refused bytes all_clear p)
        by_size true p =
            ends_committed s r.no_code (ap (power_between 32 largest) r.counts ∙ p)
            ∙ ap (λ (c : ℕ). record { code = 0; node = part s.waiting (32 * (height c - 5)) 32; count = c })
            r.counts
            ∙ ap (λ (v : List ℕ). record { code = 0; node = v; count = length bytes }) (top_waits p)
            ∙ sym (gets_committed bytes all_clear p)

pub end_after : (bytes : List ℕ) (s : Stream) → After bytes s → ending s ≡ streamed bytes
end_after bytes s (runs r) = end_runs bytes s r
end_after bytes s (stray_node x) = end_stray_node bytes s x
end_after bytes s (too_long x) = end_too_long bytes s x
