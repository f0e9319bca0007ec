-- Entries there and back: what an entry was made from is read from it, and a valid entry is the one its fields make.
use Rattle.std.specs.Prelude.{◌≡◌, true, length}
use Rattle.std.proofs.Math.Path.{sym, ap}
use Rattle.std.proofs.Common.{ap₂, ◌∙◌, arith, length-append, drop-drop}
use Prim.Native.Nat.{ℕ, ◌^◌, ◌<◌}
use mathlib.Core.List.{List, ◌++◌, append_assoc}
use Rattle.std.proofs.Math.ListN.{take, drop}
use Rattle.std.proofs.Math.Seq.{take_at, drop_at, take_all}
use Rattle.octets.specs.Bytes.{Bytes}
use Rattle.octets.specs.EqualityLaws.{same_true, same_of}
use Rattle.octets.specs.LittleEndian.{number_of, bytes_of}
use Rattle.octets.specs.LittleEndianLaws.{length_bytes_of, number_of_bytes, bytes_of_number}
use Rattle.octets.specs.Splice.{part}
use Rattle.octets.specs.SpliceLaws.{part_length, bytes_part, part_append, part_whole}
use Rattle.entries.specs.Checksum.{checksum_of, checksum_length}
use Rattle.entries.specs.Entry.{entry_body, entry_of, commitment_in, offset_in, size_in, checksum_right}

module _ (commitment : List ℕ) (offset size : ℕ) (h : length commitment ≡ 32) where
  sum : List ℕ
  sum = checksum_of (entry_body commitment offset size)

  pub body_length : length (entry_body commitment offset size) ≡ 48
  unfolding entry_body
  body_length = simp (length-append, length_bytes_of) (omega arith)

  pub entry_length : length (entry_of commitment offset size) ≡ 64
  unfolding entry_of
  entry_length = let b = body_length in simp (length-append, checksum_length) (omega arith)

  flat : entry_of commitment offset size ≡ commitment ++ (bytes_of 8 offset ++ (bytes_of 8 size ++ sum))
  unfolding entry_of entry_body sum
  flat = simp append_assoc

  after_32 : drop 32 (entry_of commitment offset size) ≡ bytes_of 8 offset ++ (bytes_of 8 size ++ sum)
  after_32 = ap (drop 32) flat ∙ drop_at commitment (bytes_of 8 offset ++ (bytes_of 8 size ++ sum)) 32 h

  after_40 : drop 40 (entry_of commitment offset size) ≡ bytes_of 8 size ++ sum
  after_40 =
      sym (drop-drop 8 32 (entry_of commitment offset size))
      ∙ ap (drop 8) after_32
      ∙ drop_at (bytes_of 8 offset) (bytes_of 8 size ++ sum) 8 (length_bytes_of 8 offset)

  pub commitment_back : commitment_in (entry_of commitment offset size) ≡ commitment
  unfolding commitment_in part
  commitment_back = ap (take 32) flat ∙ take_at commitment _ 32 h

  pub offset_back : offset < 256 ^ 8 → offset_in (entry_of commitment offset size) ≡ offset
  unfolding offset_in part
  offset_back b =
      ap (λ (l : List ℕ). number_of (take 8 l)) after_32
      ∙ ap number_of (take_at (bytes_of 8 offset) (bytes_of 8 size ++ sum) 8 (length_bytes_of 8 offset))
      ∙ number_of_bytes 8 offset b

  pub size_back : size < 256 ^ 8 → size_in (entry_of commitment offset size) ≡ size
  unfolding size_in part
  size_back b =
      ap (λ (l : List ℕ). number_of (take 8 l)) after_40
      ∙ ap number_of (take_at (bytes_of 8 size) sum 8 (length_bytes_of 8 size))
      ∙ number_of_bytes 8 size b

  -- a made entry is valid
  pub made_right : checksum_right (entry_of commitment offset size) ≡ true
  unfolding checksum_right part entry_of sum
  made_right =
      let body : List ℕ = entry_body commitment offset size in
      let a : take 48 (body ++ sum) ≡ body = take_at body sum 48 body_length in
      let c : drop 48 (body ++ sum) ≡ sum = drop_at body sum 48 body_length in
      let whole : take 16 sum ≡ sum = take_all 16 sum (omega (arith, checksum_length body)) in
      same_of (checksum_of (take 48 (body ++ sum))) (take 16 (drop 48 (body ++ sum)))
      (ap checksum_of a ∙ sym (ap (take 16) c ∙ whole))

-- a valid entry is the one that its fields make
pub valid_is : (entry : List ℕ) → length entry ≡ 64 → Bytes entry → checksum_right entry ≡ true
    → entry_of (commitment_in entry) (offset_in entry) (size_in entry) ≡ entry
unfolding entry_of entry_body commitment_in offset_in size_in checksum_right
valid_is entry l b e =
    let o = bytes_of_number 8 (part entry 32 8) (part_length entry 32 8 (omega arith)) (bytes_part entry 32 8 b) in
    let z = bytes_of_number 8 (part entry 40 8) (part_length entry 40 8 (omega arith)) (bytes_part entry 40 8 b) in
    let body : part entry 0 32 ++ (part entry 32 8 ++ part entry 40 8) ≡ part entry 0 48 =
    ap (λ (x : List ℕ). part entry 0 32 ++ x) (part_append entry 32 8 8) ∙ part_append entry 0 32 16 in
    let s : checksum_of (part entry 0 48) ≡ part entry 48 16 =
    same_true (checksum_of (part entry 0 48)) (part entry 48 16) e in
    ap₂ (λ (x y : List ℕ). (part entry 0 32 ++ (x ++ y)) ++ checksum_of (part entry 0 32 ++ (x ++ y))) o z
    ∙ ap (λ (x : List ℕ). x ++ checksum_of x) body
    ∙ ap (λ (x : List ℕ). part entry 0 48 ++ x) s
    ∙ part_append entry 0 48 16
    ∙ ap (part entry 0) (sym l)
    ∙ part_whole entry
