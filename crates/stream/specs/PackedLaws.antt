-- A state that was packed comes back: handing on its bytes is handing on the state.
use Rattle.std.specs.Prelude.{◌≡◌, ℕ, ◌+◌, ◌^◌, ◌<◌, List, ◌∷◌, ◌++◌, take, drop, replicate}
use Rattle.std.proofs.Common.{sym, ◌∙◌, append_assoc, length-append, drop-drop}
use Rattle.std.proofs.Math.Path.{ap}
use native.Mathlib.Omega.{arith}
use Rattle.std.proofs.Math.ListN.{length, get_or}
use Rattle.std.proofs.Math.Seq.{take_at, drop_at, take_all, get_or-append-add}
use Rattle.octets.specs.LittleEndian.{number_of, bytes_of}
use Rattle.octets.specs.LittleEndianLaws.{length_bytes_of, number_of_bytes}
use Rattle.octets.specs.Splice.{part}
use Rattle.stream.specs.declared.Stream.{Stream}
use Rattle.stream.specs.Packed.{packed_length, packed, unpacked}

-- a state that fits into its bytes
pub record Packable (s : Stream) : Type 0 where
  pub count_8 : s.count < 256 ^ 8
  pub partial_sized : length s.partial ≡ 32
  pub waiting_sized : length s.waiting ≡ 1024

module _ (s : Stream) (fits : Packable s) where
  abbrev number : List ℕ
  number = bytes_of 8 s.count

  abbrev code : List ℕ
  code = s.code ∷ replicate 7 0

  abbrev rest : List ℕ
  rest = s.partial ++ s.waiting

  behind : drop 16 (number ++ (code ++ rest)) ≡ rest
  behind =
      let l = length_bytes_of 8 s.count in
      ap (drop 16) (sym (append_assoc number code rest))
      ∙ drop_at (number ++ code) rest 16 (length-append number code ∙ omega arith)

  count_back : number_of (part (packed s) 0 8) ≡ s.count
  unfolding packed part
  count_back =
      ap number_of (take_at number (code ++ rest) 8 (length_bytes_of 8 s.count))
      ∙ number_of_bytes 8 s.count fits.count_8

  code_back : get_or (packed s) 8 0 ≡ s.code
  unfolding packed
  code_back =
      let l = length_bytes_of 8 s.count in
      let e : 8 ≡ length number + 0 = omega arith in
      ap (λ (n : ℕ). get_or (number ++ (code ++ rest)) n 0) e ∙ get_or-append-add number (code ++ rest) 0 0

  partial_back : part (packed s) 16 32 ≡ s.partial
  unfolding packed part
  partial_back = ap (take 32) behind ∙ take_at s.partial s.waiting 32 fits.partial_sized

  waiting_back : part (packed s) 48 1024 ≡ s.waiting
  unfolding packed part
  waiting_back =
      ap (take 1024)
      (sym (drop-drop 32 16 (number ++ (code ++ rest)))
      ∙ ap (drop 32) behind
      ∙ drop_at s.partial s.waiting 32 fits.partial_sized)
      ∙ take_all 1024 s.waiting (omega (arith, fits.waiting_sized))

  pub unpack_packed : unpacked (packed s) ≡ s
  unfolding unpacked
  unpack_packed = rw (count_back, code_back, partial_back, waiting_back)

  pub length_packed : length (packed s) ≡ packed_length
  unfolding packed
  length_packed =
      let l = length_bytes_of 8 s.count in
      simp (length-append) (omega (arith, fits.partial_sized, fits.waiting_sized))
