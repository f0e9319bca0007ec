-- The checksum of an index entry (document 01, "Entries and the index area"). Shut: above this file only its length and
-- the laws below are known.
use Rattle.std.specs.Prelude.{◌≡◌, refl, ℕ, ◌%◌, ◌<◌, List, ◌++◌, length, get_or, set, take, replicate}
use Rattle.std.proofs.Common.{ap, ◌∙◌, arith, length-set, get_or-set_same, get_or-set_other, get_or-take}
use Rattle.std.proofs.Common.{length-take-le}
use Rattle.sha256.specs.Fips.{sha256}
use Rattle.sha256.specs.DigestLaws.{sha256_length}

-- the SHA-256 of the entry with its checksum all zero; the body is the entry's first 48 bytes
abbrev pub entry_digest : List ℕ → List ℕ
entry_digest body = sha256 (body ++ replicate 16 0)

-- its first 16 bytes, the top two bits of the last one cleared
pub checksum_of : List ℕ → List ℕ
checksum_of body = set (take 16 (entry_digest body)) 15 (get_or (entry_digest body) 15 0 % 64)

pub checksum_is : (body : List ℕ)
    → checksum_of body ≡ set (take 16 (entry_digest body)) 15 (get_or (entry_digest body) 15 0 % 64)
unfolding checksum_of
checksum_is body = refl

first_16 : (body : List ℕ) → length (take 16 (entry_digest body)) ≡ 16
first_16 body = let l = sha256_length (body ++ replicate 16 0) in length-take-le 16 (entry_digest body) (omega arith)

pub checksum_length : (body : List ℕ) → length (checksum_of body) ≡ 16
checksum_length body =
    ap length (checksum_is body)
    ∙ length-set (take 16 (entry_digest body)) 15 (get_or (entry_digest body) 15 0 % 64)
    ∙ first_16 body

-- the top two bits of byte 15 are cleared, and nothing else of the digest's first 16 bytes
checksum_last : (body : List ℕ) → get_or (checksum_of body) 15 0 ≡ get_or (entry_digest body) 15 0 % 64
checksum_last body =
    let l = first_16 body in
    ap (λ (x : List ℕ). get_or x 15 0) (checksum_is body)
    ∙ get_or-set_same (take 16 (entry_digest body)) 15 (get_or (entry_digest body) 15 0 % 64) 0 (omega arith)

pub checksum_clear : (body : List ℕ) → get_or (checksum_of body) 15 0 < 64
checksum_clear body = omega (arith, checksum_last body)

pub checksum_rest : (body : List ℕ) (i : ℕ) → i < 15 → get_or (checksum_of body) i 0 ≡ get_or (entry_digest body) i 0
checksum_rest body i h =
    ap (λ (x : List ℕ). get_or x i 0) (checksum_is body)
    ∙ get_or-set_other (take 16 (entry_digest body)) 15 i (get_or (entry_digest body) 15 0 % 64) 0 (omega arith)
    ∙ get_or-take 16 (entry_digest body) i 0 (omega arith)
