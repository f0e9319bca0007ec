-- The law of the parts: the commitment of the parts' commitments is the run's. And so for the answers of the public
-- routine: where a part is refused the run is, with the same code, and where none is, the answer for the parts' answers
-- is the answer for the run.
use Rattle.std.specs.Prelude.{◌≡◌, refl, Bool, true, false, ℕ, zero, suc, ◌+◌, ◌-◌, ◌*◌, ◌/◌, ◌%◌, ◌^◌, ◌≤◌, ◌<◌}
use Rattle.std.specs.Prelude.{length, get_or}
use Rattle.std.proofs.Common.{sym, ap, subst, ◌∙◌, pow-suc, mul-one, mul_assoc, zero-mul, le_trans, le_of_eq}
use Rattle.std.proofs.Common.{div-lt_iff_lt-mul, div-add-mod', mod-lt, add_comm, arith, drop_at, get_or-take, pow-add}
use Rattle.std.proofs.Common.{pow_pos, pow_mono}
use Rattle.std.proofs.Math.Path.{ap₂}
use mathlib.Core.List.{List, [], ◌++◌}
use Rattle.std.proofs.Math.Seq.{take_at}
use Rattle.octets.specs.Splice.{part}
use Rattle.octets.specs.SpliceLaws.{part_length, get_d_part}
use Rattle.rules.specs.RefusalLaws.{not_passed}
use Rattle.node.specs.Node.{node_hash}
use Rattle.pow2.specs.Power.{is_power, height, power_between}
use Rattle.pow2.specs.PowerLaws.{in_bounds_lem, is_power_lem, height_pow}
use Rattle.stray.specs.StrayBits.{no_stray_bits}
use Rattle.stray.specs.StrayBitsLaws.{clear_nodes_lem, nodes_clear, part_clear}
use Rattle.merkle.specs.Tree.{commitment_of, node_at}
use Rattle.merkle.specs.TreeLaws.{node_split, node_part, node_at_length, within, top_node, commitment_clear}
use Rattle.merkle.specs.Commitment.{Committed, committed, refused}
use Rattle.merkle.specs.CommitmentLaws.{accepted, stray_refused}
use Rattle.merkle.specs.Parts.{node_row, part_of, part_nodes}
use Rattle.merkle.specs.NodeRowLaws.{row_split, row_length, same_row, row_clear}

-- the commitment of 2 ^ m nodes of height k, side by side, is the node over them
module _ (run : List ℕ) (k c : ℕ) (sized : (p : ℕ) → p < c → length (node_at run k p) ≡ 32) where
  one_node : (q : ℕ) → q < c → commitment_of 0 (node_row (node_at run) k q 1) ≡ node_at run k q
  unfolding commitment_of node_row
  one_node q h = take_at (node_at run k q) [] 32 (sized q h)

  two_halves : (m : ℕ) (x y : List ℕ) → length x ≡ 32 * 2 ^ m
      → commitment_of (suc m) (x ++ y) ≡ node_hash (commitment_of m x ++ commitment_of m y)
  unfolding commitment_of
  two_halves m x y e =
      ap₂ (λ (a b : List ℕ). node_hash (commitment_of m a ++ commitment_of m b))
      (take_at x y (32 * 2 ^ m) e) (drop_at x y (32 * 2 ^ m) e)

  over_row : (m q : ℕ) → (q + 1) * 2 ^ m ≤ c
      → commitment_of m (node_row (node_at run) k (q * 2 ^ m) (2 ^ m)) ≡ node_at run (m + k) q
  over_row zero q h =
      let e : q * 2 ^ 0 ≡ q = mul-one q in
      let z : k ≡ 0 + k = omega arith in
      ap (λ (p : ℕ). commitment_of 0 (node_row (node_at run) k p 1)) e
      ∙ one_node q (omega arith)
      ∙ ap (λ (i : ℕ). node_at run i q) z
  over_row (suc m) q h =
      let n : ℕ = 2 ^ m in
      let w : 2 ^ suc m ≡ n + n = pow-suc 2 m ∙ omega arith in
      let a : q * (n + n) ≡ q * 2 * n = ap (λ (x : ℕ). q * x) (omega arith) ∙ sym (mul_assoc q 2 n) in
      let b : q * 2 * n + n ≡ (q * 2 + 1) * n = omega arith in
      let s : suc (m + k) ≡ suc m + k = omega arith in
      let d : (q + 1) * (n + n) ≡ (q * 2 + 2) * n = omega arith in
      let room : (q * 2 + 2) * n ≤ c = omega (arith, ap (λ (x : ℕ). (q + 1) * x) w) in
      ap₂ (λ (p r : ℕ). commitment_of (suc m) (node_row (node_at run) k p r)) (ap (λ (x : ℕ). q * x) w ∙ a) w
      ∙ ap (commitment_of (suc m)) (row_split (node_at run) k n n (q * 2 * n))
      ∙ two_halves m (node_row (node_at run) k (q * 2 * n) n) (node_row (node_at run) k (q * 2 * n + n) n)
      (row_length (node_at run) k n (q * 2 * n) (λ i l. sized (q * 2 * n + i) (omega arith)))
      ∙ ap₂ (λ (x y : List ℕ). node_hash (x ++ y))
      (over_row m (q * 2) (omega arith))
      (ap (λ (p : ℕ). commitment_of m (node_row (node_at run) k p n)) b ∙ over_row m (q * 2 + 1) (omega arith))
      ∙ sym (node_split (m + k) q run)
      ∙ ap (λ (i : ℕ). node_at run i q) s

-- the commitment of a run without stray bits has none
clear_commitment : (h : ℕ) (run : List ℕ) → 32 ≤ length run → no_stray_bits run ≡ true
    → get_or (commitment_of h run) 31 0 < 64
unfolding commitment_of
clear_commitment zero run l clear =
    rw (get_or-take 32 run 31 0 (omega arith)) (nodes_clear (length run / 32) run clear 0 (omega arith))
clear_commitment (suc h) run l clear = commitment_clear (suc h) run (omega arith)

-- a run of 2 ^ (m + k) nodes in 2 ^ m parts of 2 ^ k nodes
module _ (run : List ℕ) (m k : ℕ) (e : length run ≡ 32 * 2 ^ (m + k)) where
  inside : (q : ℕ) → q < 2 ^ m → (q + 1) * (32 * 2 ^ k) ≤ length run
  inside q h =
      le_trans (within m k q h) (le_of_eq (ap (λ (i : ℕ). 32 * 2 ^ i) (add_comm k m) ∙ sym e))

  sized : (q : ℕ) → q < 2 ^ m → length (node_at run k q) ≡ 32
  sized q h = node_at_length k q run (inside q h)

  -- the law of the parts
  pub commitment_of_parts : commitment_of m (node_row (node_at run) k 0 (2 ^ m)) ≡ commitment_of (m + k) run
  commitment_of_parts =
      let l : (0 + 1) * 2 ^ m ≤ 2 ^ m = omega arith in
      ap (λ (p : ℕ). commitment_of m (node_row (node_at run) k p (2 ^ m))) (sym (zero-mul (2 ^ m)))
      ∙ over_row run k (2 ^ m) sized m 0 l
      ∙ top_node run (m + k) e

  pub part_sized : (q : ℕ) → q < 2 ^ m → length (part_of run k q) ≡ 32 * 2 ^ k
  part_sized q h = part_length run (q * (32 * 2 ^ k)) (32 * 2 ^ k) (omega (arith, inside q h))

  -- the run has no stray bits where no part has, and no part has any where the run has none
  node_of_part : (q j i : ℕ) → q < 2 ^ m → j < 2 ^ k → q * 2 ^ k + j ≡ i → no_stray_bits (part_of run k q) ≡ true
      → get_or run (i * 32 + 31) 0 < 64
  node_of_part q j i h g d clear =
      let p : q * (32 * 2 ^ k) + (j * 32 + 31) ≡ i * 32 + 31 = omega arith in
      let s = part_sized q h in
      subst (λ (b : ℕ). b < 64)
      (get_d_part run (q * (32 * 2 ^ k)) (32 * 2 ^ k) (j * 32 + 31) (omega arith) ∙ ap (λ (b : ℕ). get_or run b 0) p)
      (nodes_clear (length (part_of run k q) / 32) (part_of run k q) clear j (omega arith))

  run_clear : ((q : ℕ) → q < 2 ^ m → no_stray_bits (part_of run k q) ≡ true) → no_stray_bits run ≡ true
  run_clear f =
      clear_nodes_lem (length run / 32) run
      (λ i h.
      let z : 0 < 2 ^ k = pow_pos k in
      let l : i / 2 ^ k < 2 ^ m = (div-lt_iff_lt-mul z).1 (omega (arith, pow-add 2 m k)) in
      node_of_part (i / 2 ^ k) (i % 2 ^ k) i l (mod-lt i z) (div-add-mod' i (2 ^ k)) (f (i / 2 ^ k) l))

  pub parts_clear : no_stray_bits run ≡ true → (q : ℕ) → q < 2 ^ m → no_stray_bits (part_of run k q) ≡ true
  parts_clear clear q h =
      let a : q * 2 ^ k * 32 ≡ q * (32 * 2 ^ k) = omega arith in
      let b : 2 ^ k * 32 ≡ 32 * 2 ^ k = omega arith in
      subst (λ (r : List ℕ). no_stray_bits r ≡ true) (ap₂ (part run) a b)
      (part_clear run (q * 2 ^ k) (2 ^ k) (omega (arith, inside q h)) clear)

  -- nor have the parts' commitments, which are a run of 2 ^ m nodes
  pub parts_run : length (node_row (node_at run) k 0 (2 ^ m)) ≡ 32 * 2 ^ m
  parts_run = row_length (node_at run) k (2 ^ m) 0 (λ i l. sized (0 + i) (omega arith))

  pub parts_run_clear : no_stray_bits run ≡ true → no_stray_bits (node_row (node_at run) k 0 (2 ^ m)) ≡ true
  parts_run_clear clear =
      row_clear (node_at run) k (2 ^ m) 0 (λ i l. sized (0 + i) (omega arith))
      (λ i l.
      let h : 0 + i < 2 ^ m = omega arith in
      let z = pow_pos k in
      subst (λ (node : List ℕ). get_or node 31 0 < 64) (sym (node_part run k (0 + i)))
      (clear_commitment k (part_of run k (0 + i)) (omega (arith, part_sized (0 + i) h)) (parts_clear clear (0 + i) h)))

-- the answer for 2 ^ n nodes, at most 2 ^ 24 bytes
module _ (run : List ℕ) (n : ℕ) (fits : n ≤ 19) (e : length run ≡ 32 * 2 ^ n) where
  size : length run ≡ 2 ^ (5 + n)
  size = e ∙ sym (pow-add 2 5 n)

  allowed : power_between 32 (2 ^ 24) (length run) ≡ true
  allowed =
      let p : 2 ^ n ≤ 2 ^ 19 = pow_mono fits in
      let z = pow_pos n in
      in_bounds_lem 32 (2 ^ 24) (length run) (omega arith) (omega arith)
      ∙ ap is_power size ∙ is_power_lem (5 + n)

  tall : height (length run) - 5 ≡ n
  tall = let h : height (length run) ≡ 5 + n = ap height size ∙ height_pow (5 + n) (omega arith) in omega arith

  pub answer_clear : no_stray_bits run ≡ true → committed run ≡ record { code = 0; node = commitment_of n run }
  answer_clear clear =
      accepted run allowed clear ∙ ap (λ (h : ℕ). record { code = 0; node = commitment_of h run }) tall

  answer_stray : no_stray_bits run ≡ false → committed run ≡ refused 11
  answer_stray stray = stray_refused run allowed stray

  -- a run of an allowed size that is not refused has no stray bits
  code_clear : (committed run).code ≡ 0 → no_stray_bits run ≡ true
  code_clear c = by (no_stray_bits run) refl
    where
      by : (b : Bool) → no_stray_bits run ≡ b → b ≡ true
      by true g = refl
      by false g =
          let z : ◌≡◌ {A = ℕ} 11 0 = ap (λ (r : Committed). r.code) (sym (answer_stray g)) ∙ c in absurd (omega arith)

-- the answers for the parts
module _ (run : List ℕ) (m k : ℕ) (fits : m + k ≤ 19) (e : length run ≡ 32 * 2 ^ (m + k)) where
  small : k ≤ 19
  small = omega arith

  abbrev Accepted : ℕ → Type 0
  Accepted q = (committed (part_of run k q)).code ≡ 0

  clear_part : (q : ℕ) → q < 2 ^ m → Accepted q → no_stray_bits (part_of run k q) ≡ true
  clear_part q h = code_clear (part_of run k q) k small (part_sized run m k e q h)

  part_node : (q : ℕ) → q < 2 ^ m → Accepted q → part_nodes run k q ≡ node_at run k q
  part_node q h a =
      ap (λ (r : Committed). r.node)
      (answer_clear (part_of run k q) k small (part_sized run m k e q h) (clear_part q h a))
      ∙ sym (node_part run k q)

  -- where no part is refused
  pub parts_accepted : ((q : ℕ) → q < 2 ^ m → Accepted q)
      → committed (node_row (part_nodes run) k 0 (2 ^ m)) ≡ committed run
  parts_accepted all =
      let clear = run_clear run m k e (λ q h. clear_part q h (all q h)) in
      ap committed (same_row (part_nodes run) k (node_at run) (2 ^ m) 0
      (λ i l. let h : 0 + i < 2 ^ m = omega arith in part_node (0 + i) h (all (0 + i) h)))
      ∙ answer_clear (node_row (node_at run) k 0 (2 ^ m)) m (omega arith) (parts_run run m k e)
      (parts_run_clear run m k e clear)
      ∙ ap (λ (node : List ℕ). record { code = 0; node = node }) (commitment_of_parts run m k e)
      ∙ sym (answer_clear run (m + k) fits e clear)

  -- where one is, whichever
  pub part_refused : (q : ℕ) → q < 2 ^ m → (Accepted q → ⊥)
      → (committed (part_of run k q) ≡ refused 11) × (committed run ≡ refused 11)
  part_refused q h unless = (
    answer_stray (part_of run k q) k small (part_sized run m k e q h) stray,
    answer_stray run (m + k) fits e
        (not_passed (no_stray_bits run) (λ clear. unless (accepts (parts_clear run m k e clear q h)))),
  )
    where
      accepts : no_stray_bits (part_of run k q) ≡ true → Accepted q
      accepts clear =
          ap (λ (r : Committed). r.code) (answer_clear (part_of run k q) k small (part_sized run m k e q h) clear)

      stray : no_stray_bits (part_of run k q) ≡ false
      stray = not_passed (no_stray_bits (part_of run k q)) (λ clear. unless (accepts clear))
