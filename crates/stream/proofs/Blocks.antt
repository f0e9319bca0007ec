-- A block of 2 ^ m whole nodes, taken at once: below height m the path of its last node waits, and the block's
-- commitment is one more node of height m.
use mathlib.Core.Path.{◌≡◌, refl, sym, ap, ap₂, ◌∙◌}
use mathlib.Core.Bool.{true, false}
use mathlib.Core.List.{List, ◌++◌, append_assoc}
use Prim.Native.Nat.{ℕ, zero, suc, ◌+◌, ◌-◌, ◌*◌, ◌/◌, ◌^◌, ◌≤◌, ◌<◌}
use native.Mathlib.Nat.{pow-suc}
use native.Mathlib.Numerals.{add-one}
use native.Mathlib.Omega.{arith}
use lib.ListN.{length, get_or, take, drop, length-append, length-drop, take-append-drop}
use lib.Seq.{length-take-le, get_or-take, get_or-drop, drop-drop, drop_at, take_all}
use lib.Pow.{pow_pos}
use Rattle.octets.specs.Splice.{part, splice}
use Rattle.octets.specs.SpliceLaws.{part_length, part_inside, length_splice, splice_append, splice_nothing}
use Rattle.node.specs.Node.{node_hash}
use Rattle.stray.specs.StrayBits.{no_stray_bits}
use Rattle.stray.specs.StrayBitsLaws.{clear_node_lem, nodes_clear}
use Rattle.merkle.specs.Tree.{commitment_of}
use Rattle.merkle.specs.TreeLaws.{double, first_child, second_child, commitment_length}
use Rattle.merkle.specs.LastPath.{last_path}
use Rattle.merkle.specs.LastPathLaws.{last_path_length}
use Rattle.stream.specs.Stream.{largest, failed_with, with_node, take_piece}
use Rattle.stream.specs.StreamLaws.{running, piece_append}
use Rattle.stream.specs.WaitingLaws.{length_with_node}
use Rattle.stream.specs.Parts.{Block}
use Rattle.stream.specs.declared.Stream.{Stream}
use Rattle.stream.proofs.HeightTurns.{goes_up, waits}
use Rattle.stream.proofs.NodeParts.{node_taken, nodes_stray}
use Rattle.stream.proofs.BlockSizes.{blocks_before, nodes_before, height_low}

-- a splice over the first part of another
splice_over : (d a b c : List ℕ) → length a ≡ length b → splice (splice d 0 (a ++ c)) 0 b ≡ splice d 0 (b ++ c)
unfolding splice
splice_over d a b c e =
    let rest : List ℕ = drop (0 + length (a ++ c)) d in
    let n : length (a ++ c) ≡ length (b ++ c) = length-append a c ∙ sym (length-append b c ∙ omega arith) in
    let z : 0 + length b ≡ length a = omega arith in
    ap (λ (v : List ℕ). b ++ v)
    (ap (λ (k : ℕ). drop k (a ++ c ++ rest)) z
    ∙ ap (drop (length a)) (append_assoc a c rest)
    ∙ drop_at a (c ++ rest) (length a) refl
    ∙ ap (λ (k : ℕ). c ++ drop (0 + k) d) n)
    ∙ sym (append_assoc b c (drop (0 + length (b ++ c)) d))

-- the part behind another
part_behind : (a b : List ℕ) (n k : ℕ) → length a ≡ n → length b ≡ k → part (a ++ b) n k ≡ b
unfolding part
part_behind a b n k e f = ap (take k) (drop_at a b n e) ∙ take_all k b (omega arith)

-- the waiting nodes after a block, where its height has q nodes already
abbrev added : ℕ → ℕ → List ℕ → List ℕ → List ℕ
added m q block waiting = with_node (32 - m) m q (commitment_of m block) (splice waiting 0 (last_path m block))

-- its last node
abbrev last_node : List ℕ → List ℕ
last_node block = part block (length block - 32) 32

last_of_one : (node : List ℕ) → length node ≡ 32 → node ≡ last_node node
unfolding part
last_of_one node l =
    let z : length node - 32 ≡ 0 = omega arith in
    sym (ap (λ (k : ℕ). take 32 (drop k node)) z ∙ take_all 32 node (omega arith))

last_of_right : (half : ℕ) (block : List ℕ) → half + 32 ≤ length block → last_node (drop half block) ≡ last_node block
unfolding part
last_of_right half block h =
    let e : half + (length (drop half block) - 32) ≡ length block - 32 = omega (arith, length-drop half block) in
    ap (take 32) (drop-drop (length (drop half block) - 32) half block ∙ ap (λ (k : ℕ). drop k block) e)

-- two halves, one after the other, each of 2 ^ m nodes: the left one waits, the right one is joined to it
module _ (m q : ℕ) (left right waiting : List ℕ) (low : m < 31) (room : length waiting ≡ 1024)
    (ll : length left ≡ 32 * 2 ^ m) (lr : length right ≡ 32 * 2 ^ m) where
  abbrev before : List ℕ
  before = splice waiting 0 (last_path m right ++ commitment_of m left)

  sized_left : length (last_path m left) ≡ 32 * m
  sized_left = last_path_length m left (omega arith)

  sized_right : length (last_path m right) ≡ 32 * m
  sized_right = last_path_length m right (omega arith)

  root_left : length (commitment_of m left) ≡ 32
  root_left = commitment_length m left (omega arith)

  both : length (last_path m right ++ commitment_of m left) ≡ 32 * m + 32
  both = length-append (last_path m right) (commitment_of m left) ∙ omega (arith, sized_right, root_left)

  left_added : added m (q * 2) left waiting ≡ splice waiting 0 (last_path m left ++ commitment_of m left)
  left_added =
      waits m (q * 2) (commitment_of m left) (splice waiting 0 (last_path m left)) (omega arith) (omega arith)
      ∙ splice_append waiting 0 (32 * m) (last_path m left) (commitment_of m left) (omega (arith, sized_left))
      (omega (arith, sized_left))

  pub left_sized : length (added m (q * 2) left waiting) ≡ 1024
  left_sized =
      length_with_node (32 - m) m (q * 2) (commitment_of m left) (splice waiting 0 (last_path m left)) (omega arith)
      root_left
      (length_splice waiting 0 (last_path m left) (omega (arith, sized_left)) ∙ room)

  neighbour : part before (32 * m) 32 ≡ commitment_of m left
  neighbour =
      let z : 32 * m ≡ 0 + 32 * m = omega arith in
      ap (λ (k : ℕ). part before k 32) z
      ∙ part_inside waiting 0 (last_path m right ++ commitment_of m left) (omega (arith, both)) (32 * m) 32
      (omega (arith, both))
      ∙ part_behind (last_path m right) (commitment_of m left) (32 * m) 32 sized_right root_left

  pub right_added : added m (q * 2 + 1) right (added m (q * 2) left waiting)
      ≡ with_node (32 - suc m) (suc m) q (node_hash (commitment_of m left ++ commitment_of m right)) before
  right_added =
      ap (with_node (32 - m) m (q * 2 + 1) (commitment_of m right))
      (ap (λ (w : List ℕ). splice w 0 (last_path m right)) left_added
      ∙ splice_over waiting (last_path m left) (last_path m right) (commitment_of m left)
      (omega (arith, sized_left, sized_right)))
      ∙ goes_up m (q * 2 + 1) (commitment_of m right) before (omega arith) (omega arith)
      ∙ ap₂ (λ (k : ℕ) (v : List ℕ). with_node (32 - (m + 1)) (m + 1) k (node_hash (v ++ commitment_of m right)) before)
      (omega arith) neighbour
      ∙ ap (λ (h : ℕ). with_node (32 - h) h q (node_hash (commitment_of m left ++ commitment_of m right)) before)
      (add-one m)

pub block_taken : (m q count : ℕ) (block partial waiting : List ℕ) → m ≤ 31 → length block ≡ 32 * 2 ^ m
    → count ≡ q * (32 * 2 ^ m) → count + 32 * 2 ^ m ≤ largest → length partial ≡ 32 → length waiting ≡ 1024
    → ((i : ℕ) → i < 2 ^ m → get_or block (i * 32 + 31) 0 < 64)
    → take_piece (running count partial waiting) block
    ≡ running (count + 32 * 2 ^ m) (last_node block) (added m q block waiting)
unfolding commitment_of last_path
block_taken zero q count block partial waiting low l starts few sized room clear =
    node_taken block count partial waiting (omega arith) sized (omega arith) (omega arith)
    (clear_node_lem block (clear 0 (omega arith)))
    ∙ ap₂ (λ (v w : List ℕ). running (count + 32) v w) (last_of_one block (omega arith))
    (ap₂ (λ (k : ℕ) (v : List ℕ). with_node 32 0 k v waiting) (omega arith) (sym (take_all 32 block (omega arith)))
    ∙ ap (with_node 32 0 q (take 32 block)) (sym (splice_nothing waiting 0)))
block_taken (suc m) q count block partial waiting low l starts few sized room clear =
    let half : ℕ = 32 * 2 ^ m in
    let d : 32 * 2 ^ suc m ≡ half + half = double m in
    let p : 2 ^ suc m ≡ 2 ^ m * 2 = pow-suc 2 m in
    let o : 0 < 2 ^ m = pow_pos m in
    let left : List ℕ = take half block in
    let right : List ℕ = drop half block in
    let ll : length left ≡ half = length-take-le half block (omega arith) in
    let lr : length right ≡ half = simp length-drop (omega arith) in
    let c : count ≡ q * (half + half) = starts ∙ ap (λ (n : ℕ). q * n) d in
    ap (take_piece (running count partial waiting)) (sym (take-append-drop half block))
    ∙ piece_append (running count partial waiting) left right
    ∙ ap (λ (s : Stream). take_piece s right)
    (block_taken m (q * 2) count left partial waiting (omega arith) ll (c ∙ first_child half q) (omega arith) sized room
    (λ i h. rw (get_or-take half block (i * 32 + 31) 0 (omega arith)) (clear i (omega arith))))
    ∙ block_taken m (q * 2 + 1) (count + half) right (last_node left) (added m (q * 2) left waiting) (omega arith) lr
    (ap (λ (n : ℕ). n + half) c ∙ second_child half q) (omega arith)
    (part_length left (length left - 32) 32 (omega arith))
    (left_sized m q left right waiting (omega arith) room ll lr)
    (λ i h.
    let e : half + (i * 32 + 31) ≡ (2 ^ m + i) * 32 + 31 = omega arith in
    rw (get_or-drop half block (i * 32 + 31) 0, e) (clear (2 ^ m + i) (omega arith)))
    ∙ ap₂ (λ (n : ℕ) (w : List ℕ). running n (last_node right) w) (omega arith)
    (right_added m q left right waiting (omega arith) room ll lr)
    ∙ ap (λ (v : List ℕ). running (count + 32 * 2 ^ suc m) v (added (suc m) q block waiting))
    (last_of_right half block (omega arith))

-- a block as the code finds it
module _ (block partial waiting : List ℕ) (count : ℕ) (b : Block count (length block))
    (few : count + length block ≤ largest) (sized : length partial ≡ 32) where
  pub stray_block : no_stray_bits block ≡ false → take_piece (running count partial waiting) block ≡ failed_with 11
  stray_block e =
      nodes_stray (length block / 32) block count partial waiting (omega (arith, b.sized)) sized
      (nodes_before count (length block) b) (omega arith) e

  pub clear_block : length waiting ≡ 1024 → no_stray_bits block ≡ true → (h : ℕ) (root path all : List ℕ) → h ≡ b.height
      → root ≡ commitment_of h block → path ≡ splice waiting 0 (last_path h block)
      → all ≡ with_node (32 - h) h (count / length block) root path
      → take_piece (running count partial waiting) block ≡ running (count + length block) (last_node block) all
  clear_block room clear h root path all eh er ep ea =
      let q : ℕ = count / length block in
      let n : count + 32 * 2 ^ b.height ≡ count + length block = omega (arith, b.sized) in
      block_taken b.height q count block partial waiting (height_low count (length block) b few) b.sized
      (blocks_before count (length block) b) (omega (arith, b.sized)) sized room
      (λ i g. nodes_clear (length block / 32) block clear i (omega (arith, b.sized)))
      ∙ ap₂ (λ (m : ℕ) (w : List ℕ). running m (last_node block) w) n
      (ap (λ (k : ℕ). added k q block waiting) (sym eh) ∙ sym (ea ∙ ap₂ (with_node (32 - h) h q) er ep))
