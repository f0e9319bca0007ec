-- Turns of the loops that write Merkle paths: i of n siblings are written.
use mathlib.Core.Path.{◌≡◌, sym, ap, ap₂, ◌∙◌}
use Prim.Native.Nat.{ℕ, suc, ◌+◌, ◌-◌, ◌*◌, ◌/◌, ◌≤◌, ◌<◌}
use native.Mathlib.Omega.{arith}
use mathlib.Core.List.{List, [], ◌++◌}
use lib.ListN.{length}
use Rattle.octets.specs.Splice.{splice}
use Rattle.octets.specs.SpliceLaws.{splice_nothing, splice_append, splice_apart, length_splice}
use Rattle.merkle.specs.NodeSource.{NodeSource}
use Rattle.paths.specs.Siblings.{sibling_of, siblings}

-- what is left of a path from a level on, with i of n levels passed
abbrev pub left : NodeSource → ℕ → ℕ → ℕ → ℕ → List ℕ
left nodes n level i p = siblings nodes (n - i) (level + i) p

module _ (nodes : NodeSource) (n level : ℕ) where
  pub left_start : (p : ℕ) → siblings nodes n level p ≡ left nodes n level 0 p
  left_start p =
      let m : n ≡ n - 0 = omega arith in
      let l : level ≡ level + 0 = omega arith in
      (λ j. siblings nodes (m j) (l j) p)

  pub left_next : (i p : ℕ) → i < n
      → left nodes n level i p ≡ nodes (level + i) (sibling_of p) ++ left nodes n level (i + 1) (p / 2)
  unfolding siblings
  left_next i p h =
      let more : n - i ≡ suc (n - (i + 1)) = omega arith in
      let above : suc (level + i) ≡ level + (i + 1) = omega arith in
      ap (λ (k : ℕ). siblings nodes k (level + i) p) more
      ∙ ap (λ (l : ℕ). nodes (level + i) (sibling_of p) ++ siblings nodes (n - (i + 1)) l (p / 2)) above

  pub left_over : (i p : ℕ) → n ≤ i → left nodes n level i p ≡ []
  unfolding siblings
  left_over i p h = let none : n - i ≡ 0 = omega arith in ap (λ (k : ℕ). siblings nodes k (level + i) p) none

-- one path
module _ (nodes : NodeSource) (out : List ℕ) (at n level : ℕ) where
  pub write_start : (p : ℕ)
      → splice out at (siblings nodes n level p) ≡ splice out (at + 32 * 0) (left nodes n level 0 p)
  write_start p = ap₂ (splice out) (omega arith) (left_start nodes n level p)

  pub write_next : (i p : ℕ) → i < n → length (nodes (level + i) (sibling_of p)) ≡ 32 → at + 32 * i + 32 ≤ length out
      → splice out (at + 32 * i) (left nodes n level i p)
      ≡ splice (splice out (at + 32 * i) (nodes (level + i) (sibling_of p))) (at + 32 * (i + 1))
      (left nodes n level (i + 1) (p / 2))
  write_next i p h sized room =
      ap (splice out (at + 32 * i)) (left_next nodes n level i p h)
      ∙ sym (splice_append out (at + 32 * i) (at + 32 * (i + 1)) (nodes (level + i) (sibling_of p))
      (left nodes n level (i + 1) (p / 2)) (omega arith) (omega arith))

-- two paths, the second behind the first
module _ (out : List ℕ) (at second : ℕ) (s t s' t' : List ℕ) (at' second' : ℕ) (fs : at' ≡ at + length s)
    (ft : second' ≡ second + length t) (apart : at' + length s' ≤ second) (room : second' ≤ length out) where
  -- a node of each is written, and the rest of each behind it
  pub both_next : splice (splice out at (s ++ s')) second (t ++ t')
      ≡ splice (splice (splice (splice out at s) second t) at' s') second' t'
  both_next =
      let one = splice out at s in
      let l : length one ≡ length out = length_splice out at s (omega arith) in
      let k : length (splice one at' s') ≡ length one = length_splice one at' s' (omega arith) in
      ap (λ (x : List ℕ). splice x second (t ++ t')) (sym (splice_append out at at' s s' (omega arith) fs))
      ∙ sym (splice_append (splice one at' s') second second' t t' (omega arith) ft)
      ∙ ap (λ (x : List ℕ). splice x second' t') (splice_apart one at' s' second t apart (omega arith))

module _ (nodes : NodeSource) (out : List ℕ) (at second n level : ℕ) where
  -- what is left of both
  abbrev pub both_left : ℕ → ℕ → ℕ → List ℕ
  both_left i p q =
      splice (splice out (at + 32 * i) (left nodes n level i p)) (second + 32 * i) (left nodes n level i q)

  pub both_start : (p q : ℕ)
      → splice (splice out at (siblings nodes n level p)) second (siblings nodes n level q) ≡ both_left 0 p q
  both_start p q =
      let a : at ≡ at + 32 * 0 = omega arith in
      let b : second ≡ second + 32 * 0 = omega arith in
      (λ j. splice (splice out (a j) (left_start nodes n level p j)) (b j) (left_start nodes n level q j))

  pub both_over : (i p q : ℕ) → n ≤ i → both_left i p q ≡ out
  both_over i p q h =
      ap₂ (λ (s t : List ℕ). splice (splice out (at + 32 * i) s) (second + 32 * i) t) (left_over nodes n level i p h)
      (left_over nodes n level i q h)
      ∙ splice_nothing (splice out (at + 32 * i) []) (second + 32 * i)
      ∙ splice_nothing out (at + 32 * i)

-- a turn, which writes a sibling of each
module _ (nodes : NodeSource) (out : List ℕ) (at second n level i p q : ℕ) {one two s t : List ℕ} {p' q' : ℕ}
    (h : i < n) (es : s ≡ nodes (level + i) (sibling_of p)) (et : t ≡ nodes (level + i) (sibling_of q))
    (eo : one ≡ splice out (at + 32 * i) s) (et' : two ≡ splice one (second + 32 * i) t) (ep : p' ≡ p / 2)
    (eq : q' ≡ q / 2) (ls : length s ≡ 32) (lt : length t ≡ 32)
    (lr : length (left nodes n level (i + 1) (p / 2)) ≡ 32 * (n - (i + 1)))
    (apart : at + 32 * n ≤ second) (room : second + 32 * n ≤ length out) where
  pub both_turn : both_left nodes out at second n level i p q ≡ both_left nodes two at second n level (i + 1) p' q'
  both_turn =
      let s' = left nodes n level (i + 1) (p / 2) in
      let t' = left nodes n level (i + 1) (q / 2) in
      let first = left_next nodes n level i p h ∙ ap (λ (x : List ℕ). x ++ s') (sym es) in
      let other = left_next nodes n level i q h ∙ ap (λ (x : List ℕ). x ++ t') (sym et) in
      let written : splice (splice out (at + 32 * i) s) (second + 32 * i) t ≡ two =
      sym (et' ∙ ap (λ (x : List ℕ). splice x (second + 32 * i) t) eo) in
      ap₂ (λ (x y : List ℕ). splice (splice out (at + 32 * i) x) (second + 32 * i) y) first other
      ∙ both_next out (at + 32 * i) (second + 32 * i) s t s' t' (at + 32 * (i + 1)) (second + 32 * (i + 1))
      (omega arith) (omega arith) (omega arith) (omega arith)
      ∙ (λ j. both_left nodes (written j) at second n level (i + 1) (sym ep j) (sym eq j))

-- the second path starts on level 1, and its siblings below the first one's level are written already: what is left of
-- it and the first path make both
module _ (nodes : NodeSource) (out : List ℕ) (at second top level p q m : ℕ) (done : List ℕ) {after : List ℕ}
  where
    pub both_from : 0 < level → level ≤ top → length done ≡ length out
        → splice out second (siblings nodes (top - 1) 1 q)
        ≡ splice done (second + 32 * (level - 1)) (left nodes (top - 1) 1 (level - 1) m)
        → after ≡ splice (splice done at (siblings nodes (top - level) level p)) (second + 32 * (level - 1))
        (siblings nodes (top - level) level m)
        → length (siblings nodes (top - level) level p) ≡ 32 * (top - level)
        → length (siblings nodes (top - level) level m) ≡ 32 * (top - level)
        → length (siblings nodes (top - 1) 1 q) ≡ 32 * (top - 1)
        → at + 32 * (top - level) ≤ second → second + 32 * (top - 1) ≤ length out
        → after ≡ splice (splice out at (siblings nodes (top - level) level p)) second (siblings nodes (top - 1) 1 q)
    both_from low high kept below both lp lm lq apart room =
        let s = siblings nodes (top - level) level p in
        let t = siblings nodes (top - 1) 1 q in
        let t' = siblings nodes (top - level) level m in
        let next = second + 32 * (level - 1) in
        let n : top - 1 - (level - 1) ≡ top - level = omega arith in
        let l : 1 + (level - 1) ≡ level = omega arith in
        both
        ∙ splice_apart done at s next t' (omega arith) (omega arith)
        ∙ ap (λ (x : List ℕ). splice x at s)
        (sym (below ∙ (λ j. splice done next (siblings nodes (n j) (l j) m))))
        ∙ sym (splice_apart out at s second t (omega arith) (omega arith))
