-- Laws of the path of a run's last node.
use Rattle.std.specs.Prelude.{◌≡◌, refl, List, ◌++◌, ℕ, zero, suc, ◌+◌, ◌*◌, ◌^◌, ◌≤◌, length, take, drop}
use Rattle.std.proofs.Common.{◌∙◌, arith, length-append, length-drop, length-take-le}
use Rattle.octets.specs.Splice.{part}
use Rattle.merkle.specs.Tree.{commitment_of}
use Rattle.merkle.specs.TreeLaws.{double, left_half, right_half, commitment_length}
use Rattle.merkle.specs.LastPath.{last_path}

-- a node for each height
pub last_path_length : (h : ℕ) (run : List ℕ) → 32 * 2 ^ h ≤ length run → length (last_path h run) ≡ 32 * h
unfolding last_path
last_path_length zero run e = refl
last_path_length (suc h) run e =
    let s = double h in
    length-append (last_path h (drop (32 * 2 ^ h) run)) (commitment_of h (take (32 * 2 ^ h) run))
    ∙ omega (
      arith,
      last_path_length h (drop (32 * 2 ^ h) run) (simp length-drop (omega arith)),
      commitment_length h (take (32 * 2 ^ h) run) (simp (length-take-le (32 * 2 ^ h) run (omega arith)) (omega arith)),
    )

-- of a part: that of its right half, and its left half's commitment
pub path_halves : (run : List ℕ) (h at half : ℕ) → half ≡ 32 * 2 ^ h
    → last_path (suc h) (part run at (half + half))
    ≡ last_path h (part run (at + half) half) ++ commitment_of h (part run at half)
unfolding last_path
path_halves run h at half e = rw (← e, left_half run at half, right_half run at half)
