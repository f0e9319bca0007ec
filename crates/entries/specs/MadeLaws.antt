-- A made entry is bytes, and it has no stray bits where its commitment has none.
use Rattle.std.specs.Prelude.{◌≡◌, true, replicate}
use Rattle.std.proofs.Math.Path.{ap}
use Rattle.std.proofs.Common.{◌∙◌}
use Prim.Native.Nat.{ℕ, zero, suc, ◌+◌, ◌*◌, ◌/◌, ◌<◌}
use Rattle.std.proofs.Math.Decide.{dec_lt}
use native.Mathlib.Omega.{arith}
use mathlib.Core.List.{List, ◌++◌}
use Rattle.std.proofs.Math.ListN.{length, get_or, get_or-append}
use Rattle.std.proofs.Math.Seq.{get_or-append-add}
use Rattle.octets.specs.Bytes.{Bytes, bytes_of_lem, bytes_append}
use Rattle.octets.specs.LittleEndian.{bytes_of}
use Rattle.octets.specs.LittleEndianLaws.{bytes_bytes_of}
use Rattle.sha256.specs.DigestLaws.{sha256_byte}
use Rattle.stray.specs.StrayBits.{clear_node, clear_nodes, no_stray_bits}
use Rattle.stray.specs.StrayBitsLaws.{node_clear, clear_nodes_lem}
use Rattle.entries.specs.Checksum.{checksum_of, checksum_length, checksum_clear, checksum_rest}
use Rattle.entries.specs.Entry.{entry_body, entry_of}
use Rattle.entries.specs.EntryLaws.{body_length, entry_length}

checksum_bytes : (body : List ℕ) → Bytes (checksum_of body)
checksum_bytes body =
    let l = checksum_length body in
    bytes_of_lem (checksum_of body)
    (λ i h.
    elim (dec_lt i 15) [
      | yes g ↦ omega (arith, checksum_rest body i g, sha256_byte (body ++ replicate 16 0) i)
      | no g ↦
          let last : i ≡ 15 = omega arith in
          omega (arith, ap (λ (j : ℕ). get_or (checksum_of body) j 0) last, checksum_clear body)
    ])

module _ (commitment : List ℕ) (offset size : ℕ) where
  body_bytes : Bytes commitment → Bytes (entry_body commitment offset size)
  unfolding entry_body
  body_bytes b =
      bytes_append commitment (bytes_of 8 offset ++ bytes_of 8 size) b
      (bytes_append (bytes_of 8 offset) (bytes_of 8 size) (bytes_bytes_of 8 offset) (bytes_bytes_of 8 size))

  pub made_bytes : Bytes commitment → Bytes (entry_of commitment offset size)
  unfolding entry_of
  made_bytes b =
      let body : List ℕ = entry_body commitment offset size in
      bytes_append body (checksum_of body) (body_bytes b) (checksum_bytes body)

  module _ (l : length commitment ≡ 32) where
    -- byte 31 is the commitment's last, byte 63 the checksum's
    first_node : get_or (entry_of commitment offset size) 31 0 ≡ get_or commitment 31 0
    unfolding entry_of entry_body
    first_node =
        let body : List ℕ = entry_body commitment offset size in
        let b : length body ≡ 48 = body_length commitment offset size l in
        get_or-append body (checksum_of body) 0 31 (omega arith)
        ∙ get_or-append commitment (bytes_of 8 offset ++ bytes_of 8 size) 0 31 (omega arith)

    second_node : get_or (entry_of commitment offset size) 63 0 < 64
    unfolding entry_of
    second_node =
        let body : List ℕ = entry_body commitment offset size in
        let b : length body ≡ 48 = body_length commitment offset size l in
        let at : 63 ≡ length body + 15 = omega arith in
        omega (
          arith,
          ap (λ (i : ℕ). get_or (body ++ checksum_of body) i 0) at,
          get_or-append-add body (checksum_of body) 15 0,
          checksum_clear body,
        )

    pub made_clear : clear_node commitment ≡ true → no_stray_bits (entry_of commitment offset size) ≡ true
    made_clear e =
        ap (λ (n : ℕ). clear_nodes (n / 32) (entry_of commitment offset size)) (entry_length commitment offset size l)
        ∙ clear_nodes_lem 2 (entry_of commitment offset size) nodes
      where
        nodes : (i : ℕ) → i < 2 → get_or (entry_of commitment offset size) (i * 32 + 31) 0 < 64
        nodes zero h = omega (arith, first_node, node_clear commitment e)
        nodes (suc zero) h = second_node
        nodes (suc (suc i)) h = absurd (omega arith)
