-- The node hash, of which the rest knows only the laws below.
use Rattle.std.specs.Prelude.{◌≡◌, refl, ℕ, ◌%◌, ◌<◌, List, length, get_or, set}
use Rattle.std.proofs.Common.{ap, ◌∙◌, arith, length-set, get_or-set_same, get_or-set_other}
use Rattle.std.proofs.Math.Decide.{ℕ_discrete}
use Rattle.sha256.specs.Fips.{sha256}
use Rattle.sha256.specs.DigestLaws.{sha256_length, sha256_byte}

-- Document 01, "Nodes and trees": the SHA-256 of the 64 bytes of two nodes, with bits 7 and 6 of byte 31 cleared
pub node_hash : List ℕ → List ℕ
node_hash pair = set (sha256 pair) 31 (get_or (sha256 pair) 31 0 % 64)

pub node_hash_is : (pair : List ℕ) → node_hash pair ≡ set (sha256 pair) 31 (get_or (sha256 pair) 31 0 % 64)
unfolding node_hash
node_hash_is pair = refl

pub node_hash_length : (pair : List ℕ) → length (node_hash pair) ≡ 32
unfolding node_hash
node_hash_length pair = length-set (sha256 pair) 31 (get_or (sha256 pair) 31 0 % 64) ∙ sha256_length pair

pub node_hash_clear : (pair : List ℕ) → get_or (node_hash pair) 31 0 < 64
unfolding node_hash
node_hash_clear pair =
    let l = sha256_length pair in
    rw (get_or-set_same (sha256 pair) 31 (get_or (sha256 pair) 31 0 % 64) 0 (omega arith)) (omega arith)

pub node_hash_byte : (pair : List ℕ) (i : ℕ) → get_or (node_hash pair) i 0 < 256
unfolding node_hash
node_hash_byte pair i =
    elim (ℕ_discrete i 31) [
      | yes e ↦ omega (arith, ap (λ (j : ℕ). get_or (node_hash pair) j 0) e, node_hash_clear pair)
      | no h ↦ omega (arith, get_or-set_other (sha256 pair) 31 i (get_or (sha256 pair) 31 0 % 64) 0 h, sha256_byte pair i)
    ]
