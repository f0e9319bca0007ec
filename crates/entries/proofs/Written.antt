-- The checksum and the entry as the code writes them: part after part into zeroed bytes.
use mathlib.Core.Path.{◌≡◌, refl, sym, ap, ◌∙◌}
use mathlib.Core.List.{List, [], ◌++◌, append_assoc}
use Prim.Native.Nat.{ℕ, ◌+◌, ◌-◌, ◌%◌}
use native.Mathlib.Omega.{arith}
use lib.ListN.{length, take, drop, get_or, set, replicate, length-append}
use lib.Seq.{take_at, length-take-le, take_all}
use Rattle.octets.specs.Equality.{same_bytes}
use Rattle.octets.specs.LittleEndian.{bytes_of}
use Rattle.octets.specs.LittleEndianLaws.{length_bytes_of}
use Rattle.octets.specs.Splice.{part, splice}
use Rattle.sha256.specs.Fips.{sha256}
use Rattle.sha256.specs.Answers.{Hashed, digest_answer, hashed}
use Rattle.sha256.specs.AnswersLaws.{hashed_short}
use Rattle.std.specs.Prelude.{Result, Ok}
use Rattle.rules.specs.declared.Refusal.{Refusal}
use Rattle.entries.specs.Checksum.{entry_digest, checksum_of, checksum_is, checksum_length}
use Rattle.entries.specs.Entry.{entry_body, entry_of, checksum_right}
use Rattle.entries.specs.EntryLaws.{body_length}

-- one more part behind the bytes p that stand in front
written : (d p s : List ℕ) (at n : ℕ) → length p ≡ at → take at d ≡ p → n ≡ at + length s
    → take n (splice d at s) ≡ p ++ s
unfolding splice
written d p s at n l e m =
    ap (λ (x : List ℕ). take n (x ++ s ++ drop (at + length s) d)) e
    ∙ take_at (p ++ s) (drop (at + length s) d) n (length-append p s ∙ omega arith)

-- a message that is as short as an entry is hashed
pub digest_is : (message : List ℕ) {answer : Result (List ℕ) Refusal} {digest : List ℕ} → length message ≡ 64
    → digest_answer answer ≡ hashed message → answer ≡ Ok digest → digest ≡ sha256 message
digest_is message l e o =
    ap (λ (a : Hashed). a.digest) (ap digest_answer (sym o) ∙ e ∙ hashed_short message (omega arith))

pub front_length : (entry : List ℕ) → length entry ≡ 64 → length (take 48 entry) ≡ 48
front_length entry l = length-take-le 48 entry (omega arith)

-- the entry with its checksum all zero
cleared_is : (entry : List ℕ) → length entry ≡ 64
    → splice (replicate 64 0) 0 (take 48 entry) ≡ take 48 entry ++ replicate 16 0
unfolding splice
cleared_is entry l =
    let n : 0 + length (take 48 entry) ≡ 48 = omega (arith, front_length entry l) in
    ap (λ (k : ℕ). take 48 entry ++ drop k (replicate 64 0)) n

pub checksum_written : (entry cleared digest sum : List ℕ)
    → length entry ≡ 64
    → cleared ≡ splice (replicate 64 0) 0 (take 48 entry)
    → digest ≡ sha256 cleared
    → sum ≡ part digest 0 16
    → set sum 15 (get_or digest 15 0 % 64) ≡ checksum_of (part entry 0 48)
unfolding part
checksum_written entry cleared digest sum l e h s =
    let d : digest ≡ entry_digest (take 48 entry) = h ∙ ap sha256 (e ∙ cleared_is entry l) in
    rw (s, d) (sym (checksum_is (take 48 entry)))

pub entry_written : (commitment : List ℕ) (offset size : ℕ) (one two three sum entry : List ℕ)
    → length commitment ≡ 32
    → one ≡ splice (replicate 64 0) 0 commitment
    → two ≡ splice one 32 (bytes_of 8 offset)
    → three ≡ splice two 40 (bytes_of 8 size)
    → sum ≡ checksum_of (part three 0 48)
    → entry ≡ splice three 48 sum
    → length entry ≡ 64
    → entry ≡ entry_of commitment offset size
unfolding entry_of entry_body part
entry_written commitment offset size one two three sum entry l a b c d e n =
    let o = length_bytes_of 8 offset in
    let z = length_bytes_of 8 size in
    let p : take 32 one ≡ commitment =
    ap (take 32) a ∙ written (replicate 64 0) [] commitment 0 32 refl refl (omega arith) in
    let q : take 40 two ≡ commitment ++ bytes_of 8 offset =
    ap (take 40) b ∙ written one commitment (bytes_of 8 offset) 32 40 l p (omega arith) in
    let f : length (commitment ++ bytes_of 8 offset) ≡ 40 =
    length-append commitment (bytes_of 8 offset) ∙ omega arith in
    let r : take 48 three ≡ entry_body commitment offset size =
    ap (take 48) c
    ∙ written two (commitment ++ bytes_of 8 offset) (bytes_of 8 size) 40 48 f q (omega arith)
    ∙ append_assoc commitment (bytes_of 8 offset) (bytes_of 8 size) in
    let s : sum ≡ checksum_of (entry_body commitment offset size) = d ∙ ap checksum_of r in
    let m : length sum ≡ 16 = ap length s ∙ checksum_length (entry_body commitment offset size) in
    sym (take_all 64 entry (omega arith))
    ∙ ap (take 64) e
    ∙ written three (entry_body commitment offset size) sum 48 64 (body_length commitment offset size l) r (omega arith)
    ∙ ap (λ (x : List ℕ). entry_body commitment offset size ++ x) s

-- the checksum against the entry's last 16 bytes
pub right_read : (entry sum : List ℕ) → length entry ≡ 64 → sum ≡ checksum_of (part entry 0 48)
    → same_bytes sum (take (length entry - 48) (drop 48 entry)) ≡ checksum_right entry
unfolding checksum_right part
right_read entry sum l e = let n : length entry - 48 ≡ 16 = omega arith in rw (n, e)
