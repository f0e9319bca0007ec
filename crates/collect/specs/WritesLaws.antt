-- Strings that are written apart from each other all stand afterwards, and nothing else changes.
use Rattle.std.specs.Prelude.{◌≡◌, true}
use Rattle.std.proofs.Math.Path.{refl, sym, ap, ap₂}
use Rattle.std.proofs.Common.{◌∙◌, arith}
use Rattle.std.proofs.Math.Logic.{⊎_elim}
use Prim.Native.Nat.{ℕ, zero, suc, ◌+◌, ◌*◌, ◌≤◌, ◌<◌}
use Rattle.std.proofs.Math.Decide.{ℕ_discrete}
use mathlib.Core.List.{List}
use Rattle.std.proofs.Math.ListN.{length}
use Rattle.octets.specs.Bytes.{Bytes}
use Rattle.octets.specs.Splice.{part, splice}
use Rattle.octets.specs.SpliceLaws.{length_splice, bytes_splice, part_before, part_after, part_written}
use Rattle.stray.specs.StrayBits.{no_stray_bits}
use Rattle.stray.specs.StrayBitsLaws.{splice_clear}
use Rattle.packing.specs.Apart.{Beside, Apart}
use Rattle.collect.specs.Writes.{write_all}

module _ (at : ℕ → ℕ) (strings : ℕ → List ℕ) (base : List ℕ) where
  -- each of the first n strings lies in the base
  abbrev pub Within : ℕ → Type 0
  Within n = (k : ℕ) → k < n → at k + length (strings k) ≤ length base

  -- the m bytes from b are beside string k
  abbrev pub BesideString : ℕ → ℕ → ℕ → Type 0
  BesideString b m k = Beside b m (at k) (length (strings k))

  pub written_length : (n : ℕ) → Within n → length (write_all at strings n base) ≡ length base
  unfolding write_all
  written_length zero w = refl
  written_length (suc n) w =
      let l = written_length n (λ k h. w k (omega arith)) in
      length_splice (write_all at strings n base) (at n) (strings n) (omega (arith, w n (omega arith))) ∙ l

  pub written_bytes_lem : (n : ℕ) → ((k : ℕ) → k < n → Bytes (strings k)) → Bytes base
      → Bytes (write_all at strings n base)
  unfolding write_all
  written_bytes_lem zero f b = b
  written_bytes_lem (suc n) f b =
      bytes_splice (write_all at strings n base) (at n) (strings n) (written_bytes_lem n (λ k h. f k (omega arith)) b)
      (f n (omega arith))

  -- one more string, apart from m bytes from b on
  passes : (n b m : ℕ) → Within (suc n) → b + m ≤ length base → BesideString b m n
      → part (write_all at strings (suc n) base) b m ≡ part (write_all at strings n base) b m
  unfolding write_all
  passes n b m w fits side =
      let l = written_length n (λ k h. w k (omega arith)) in
      let f : at n + length (strings n) ≤ length (write_all at strings n base) = omega (arith, w n (omega arith)) in
      ⊎_elim (λ after. part_after (write_all at strings n base) (at n) (strings n) f b m after (omega arith))
      (λ before. part_before (write_all at strings n base) (at n) (strings n) f b m before) side

  -- what is apart from every string is as it was
  pub written_elsewhere : (n b m : ℕ) → Within n → b + m ≤ length base → ((k : ℕ) → k < n → BesideString b m k)
      → part (write_all at strings n base) b m ≡ part base b m
  unfolding write_all
  written_elsewhere zero b m w fits side = refl
  written_elsewhere (suc n) b m w fits side =
      passes n b m w fits (side n (omega arith))
      ∙ written_elsewhere n b m (λ k h. w k (omega arith)) fits (λ k h. side k (omega arith))

  -- and each string stands where it was written
  pub written_at_lem : (n k : ℕ) → Within n → Apart at (λ i. length (strings i)) n → k < n
      → part (write_all at strings n base) (at k) (length (strings k)) ≡ strings k
  unfolding write_all
  written_at_lem zero k w apart h = absurd (omega arith)
  written_at_lem (suc n) k w apart h =
      elim (ℕ_discrete k n) [
        | yes e ↦
            ap₂ (λ (x : ℕ) (s : List ℕ). part (write_all at strings (suc n) base) x (length s)) (ap at e)
            (ap strings e)
            ∙ last
            ∙ sym (ap strings e)
        | no ne ↦
            passes n (at k) (length (strings k)) w (w k h) (apart k n h (omega arith) ne)
            ∙ written_at_lem n k (λ i l. w i (omega arith)) (λ i j a b. apart i j (omega arith) (omega arith))
            (omega arith)
      ]
    where
      last : part (write_all at strings (suc n) base) (at n) (length (strings n)) ≡ strings n
      last =
          part_written (write_all at strings n base) (at n) (strings n)
          (omega (arith, w n (omega arith), written_length n (λ k h. w k (omega arith))))

  -- a string of whole nodes without stray bits, at the place of a node
  pub record ClearNodes (k : ℕ) : Type 0 where
    pub place : ℕ
    pub count : ℕ
    pub at_place : at k ≡ place * 32
    pub counted : length (strings k) ≡ count * 32
    pub clear : no_stray_bits (strings k) ≡ true

  -- such strings bring no stray bits in
  pub written_clear : (n : ℕ) → Within n → ((k : ℕ) → k < n → ClearNodes k) → no_stray_bits base ≡ true
      → no_stray_bits (write_all at strings n base) ≡ true
  unfolding write_all
  written_clear zero w f e = e
  written_clear (suc n) w f e =
      let g = f n (omega arith) in
      let l = written_length n (λ k h. w k (omega arith)) in
      let fits : g.place * 32 + length (strings n) ≤ length (write_all at strings n base) =
      omega (arith, w n (omega arith), g.at_place) in
      ap (λ (x : ℕ). no_stray_bits (splice (write_all at strings n base) x (strings n))) g.at_place
      ∙ splice_clear (write_all at strings n base) (strings n) g.place g.count g.counted fits
      (written_clear n (λ k h. w k (omega arith)) (λ k h. f k (omega arith)) e) g.clear
