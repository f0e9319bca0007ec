-- The ways through `check_input`.
use mathlib.Core.Path.{◌≡◌, ◌∙◌}
use Prim.Native.Nat.{ℕ, ◌-◌, ◌≤◌, ◌<◌}
use native.Mathlib.Omega.{arith}
use mathlib.Core.List.{List}
use lib.ListN.{length, take, drop, length-drop}
use lib.Seq.{take_all}
use borrow.Author.Tests.{le-leb, lt-leb}
use Rattle.octets.specs.LittleEndian.{number_of}
use Rattle.octets.specs.Splice.{part}
use Rattle.record.specs.Check.{deal_terms, check_of}
use Rattle.check_input.specs.Input.{check_input}

module _ (input : List ℕ) where
  pub no_commitment : length input < 32 → 1 ≡ check_input input
  unfolding check_input
  no_commitment h = rw (lt-leb 32 (length input) h)

  pub no_number : 32 ≤ length input → length input < 48 → 2 ≡ check_input input
  unfolding check_input
  no_number h l = rw (le-leb 32 (length input) h, lt-leb 48 (length input) l)

  pub too_long_lem : 4144 < length input → 3 ≡ check_input input
  unfolding check_input
  too_long_lem h = rw (
    le-leb 32 (length input) (omega arith),
    le-leb 48 (length input) (omega arith),
    lt-leb
        (length input) 4144 h,
  )

  pub checked : {size number code : ℕ} → 48 ≤ length input → length input ≤ 4144 → size ≡ number_of (part input 32 8)
      → number ≡ number_of (part input 40 8)
      → code ≡ check_of (deal_terms (take 32 input) size number) (take (length input - 48) (drop 48 input))
      → code ≡ check_input input
  unfolding check_input
  checked h l s n c =
      rw (le-leb 32 (length input) (omega arith), le-leb 48 (length input) h, le-leb (length input) 4144 l)
      (c ∙ (λ i. check_of (deal_terms (take 32 input) (s i) (n i))
      (take_all (length input - 48) (drop 48 input) (simp length-drop (omega arith)) i)))
