-- Zeros, which collection writes first: every part of them is zeros, and they are bytes without stray bits.
use Rattle.std.specs.Prelude.{◌≡◌, true, ℕ, ◌+◌, ◌*◌, ◌/◌, ◌≤◌, List, [], length, replicate}
use Rattle.std.proofs.Common.{sym, ap, ◌∙◌, subst, arith}
use Rattle.octets.specs.Bytes.{Bytes}
use Rattle.octets.specs.Fill.{zero_filled}
use Rattle.octets.specs.FillLaws.{zeros_at, bytes_filled, splice_zeros, filled_after}
use Rattle.octets.specs.Splice.{part}
use Rattle.octets.specs.SpliceLaws.{splice_nothing}
use Rattle.stray.specs.StrayBits.{no_stray_bits}
use Rattle.stray.specs.StrayBitsLaws.{clear_nodes_lem}

module _ (n : ℕ) where
  -- they are nothing, filled with zeros
  zeros_filled : replicate n 0 ≡ zero_filled n []
  zeros_filled = sym (splice_nothing (replicate n 0) 0) ∙ splice_zeros n []

  pub zeros_part : (at m : ℕ) → at + m ≤ n → part (replicate n 0) at m ≡ replicate m 0
  zeros_part at m h = ap (λ (z : List ℕ). part z at m) zeros_filled ∙ filled_after n [] at m (omega arith) h

  pub zeros_bytes : Bytes (replicate n 0)
  zeros_bytes = subst Bytes (sym zeros_filled) (bytes_filled n [] tt)

  pub zeros_clear : no_stray_bits (replicate n 0) ≡ true
  zeros_clear =
      clear_nodes_lem (length (replicate {A = ℕ} n 0) / 32) (replicate n 0)
      (λ i h. omega (arith, zeros_at n (i * 32 + 31)))
