-- What bytes that come later leave as it is: the nodes over those that were there, and so the nodes that wait.
use Rattle.std.specs.Prelude.{◌≡◌, List, ◌++◌, ℕ, ◌+◌, ◌-◌, ◌*◌, ◌/◌, ◌^◌, ◌≤◌, length, take, drop}
use Rattle.std.proofs.Common.{sym, ◌∙◌, mul_assoc, mul_comm, suc-mul, div-mul-le_self, add-one, arith}
use Rattle.std.proofs.Math.Path.{ap}
use Rattle.std.proofs.Math.ListN.{length-drop}
use Rattle.std.proofs.Math.Seq.{take-append-le}
use Rattle.std.proofs.lemmas.List.{drop-append-le}
use Rattle.octets.specs.Splice.{part}
use Rattle.merkle.specs.Tree.{node_at}
use Rattle.merkle.specs.ReplaceLaws.{node_same}
use Rattle.stream.specs.After.{Waits}

module _ (bytes more : List ℕ) where
  part_stays : (at n : ℕ) → at + n ≤ length bytes → part (bytes ++ more) at n ≡ part bytes at n
  unfolding part
  part_stays at n h =
      ap (take n) (drop-append-le at bytes more (omega arith))
      ∙ take-append-le n (drop at bytes) more (simp length-drop (omega arith))

  pub node_stays : (h q : ℕ) → (q + 1) * (32 * 2 ^ h) ≤ length bytes → node_at (bytes ++ more) h q ≡ node_at bytes h q
  node_stays h q l =
      let e : (q + 1) * (32 * 2 ^ h) ≡ q * (32 * 2 ^ h) + 32 * 2 ^ h =
      ap (λ (n : ℕ). n * (32 * 2 ^ h)) (add-one q) ∙ suc-mul q (32 * 2 ^ h) in
      node_same (bytes ++ more) bytes h q q (part_stays (q * (32 * 2 ^ h)) (32 * 2 ^ h) (omega arith))

  pub waits_stay : (waiting : List ℕ) (n : ℕ) → n * 32 ≤ length bytes → Waits bytes waiting n
      → Waits (bytes ++ more) waiting n
  waits_stay waiting n l waits h b odd =
      let e : n / 2 ^ h - 1 + 1 ≡ n / 2 ^ h = omega arith in
      let f : n / 2 ^ h * (32 * 2 ^ h) ≡ n / 2 ^ h * 2 ^ h * 32 =
      ap (λ (m : ℕ). n / 2 ^ h * m) (mul_comm 32 (2 ^ h)) ∙ sym (mul_assoc (n / 2 ^ h) (2 ^ h) 32) in
      let g : (n / 2 ^ h - 1 + 1) * (32 * 2 ^ h) ≡ n / 2 ^ h * (32 * 2 ^ h) = ap (λ (m : ℕ). m * (32 * 2 ^ h)) e in
      let d = div-mul-le_self n (2 ^ h) in
      waits h b odd ∙ sym (node_stays h (n / 2 ^ h - 1) (omega arith))
