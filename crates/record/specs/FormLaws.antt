-- Reading and writing a record are inverse: a record is canonical. And the length of what is written.
use Rattle.std.specs.Prelude.{◌≡◌, refl, true, ℕ, ◌^◌, ◌<◌, List, [], ◌∷◌, length}
use Rattle.std.proofs.Common.{◌∙◌, subst, arith, eqb-true, eq-eqb}
use Rattle.octets.specs.Bytes.{Bytes}
use Rattle.octets.specs.LittleEndian.{number_of, bytes_of}
use Rattle.octets.specs.LittleEndianLaws.{length_bytes_of, number_of_bytes, bytes_of_number, number_bound}
use Rattle.fields.specs.Table.{length_allowed, Contents, contents, malformed, read_contents, write_contents, table_length}
use Rattle.fields.specs.TableLaws.{Fits, AllBytes, contents_back, contents_canonical, written_length}
use Rattle.fields.specs.declared.LengthRule.TheVariants.{Exactly}
use Rattle.record.specs.Form.{whole_nodes, layout, Fields, fields, parsed, broken, fields_in, parse, contents_of}
use Rattle.record.specs.Form.{encode}

never_parsed : {A : Type 0} {x : Fields} → broken ≡ parsed x → A
never_parsed e = let z : ◌≡◌ {A = ℕ} 0 1 = cc in absurd (omega arith)

-- the sizes of fields that can be written
pub record Sized (x : Fields) : Type 0 where
  pub commitment_32 : length x.commitment ≡ 32
  pub offset_8 : x.offset < 256 ^ 8
  pub size_8 : x.size < 256 ^ 8
  pub place_8 : x.place < 256 ^ 8
  pub segment_path_nodes : length_allowed whole_nodes (length x.segment_path) ≡ true
  pub segment_path_short : length x.segment_path < 65536
  pub entry_path_nodes : length_allowed whole_nodes (length x.entry_path) ≡ true
  pub entry_path_short : length x.entry_path < 65536
  pub number_8 : x.number < 256 ^ 8

sized_fits : (x : Fields) → Sized x → Fits layout (contents_of x)
sized_fits x h =
    let l8 : (v : ℕ) → length_allowed (Exactly 8) (length (bytes_of 8 v)) ≡ true =
    λ v. eq-eqb (length (bytes_of 8 v)) 8 (length_bytes_of 8 v) in
    let s8 : (v : ℕ) → length (bytes_of 8 v) < 65536 = λ v. omega (arith, length_bytes_of 8 v) in (
      eq-eqb (length x.commitment) 32 h.commitment_32,
      omega (arith, h.commitment_32),
      (
        l8 x.offset,
        s8 x.offset,
        (
          l8 x.size,
          s8 x.size,
          (
            l8 x.place,
            s8 x.place,
            (
              h.segment_path_nodes,
              h.segment_path_short,
              (h.entry_path_nodes, h.entry_path_short, (l8 x.number, s8 x.number, tt)),
            ),
          ),
        ),
      ),
    )

-- a record that was written is read as its fields
pub parse_encode : (x : Fields) → Sized x → parse (encode x) ≡ parsed x
unfolding parse encode
parse_encode x h =
    rw (contents_back layout (contents_of x) (sized_fits x h))
    (rw (
      number_of_bytes 8 x.offset h.offset_8,
      number_of_bytes 8 x.size h.size_8,
      number_of_bytes 8 x.place h.place_8,
      number_of_bytes 8 x.number h.number_8,
    ))

-- a record that was read is the one that its fields write
pub parse_canonical : (r : List ℕ) (x : Fields) → Bytes r → parse r ≡ parsed x → (encode x ≡ r) × Sized x
unfolding parse encode
parse_canonical r x h e = go (read_contents layout r) refl e
  where
    rows : (cs : List (List ℕ)) → read_contents layout r ≡ contents cs → fields_in (contents cs) ≡ parsed x
        → Fits layout cs → AllBytes cs → (write_contents layout (contents_of x) ≡ r) × Sized x
    rows [] p q f b = absurd f
    rows (c ∷ []) p q f b = absurd f.2
    rows (c ∷ o ∷ []) p q f b = absurd f.2.2
    rows (c ∷ o ∷ s ∷ []) p q f b = absurd f.2.2.2
    rows (c ∷ o ∷ s ∷ a ∷ []) p q f b = absurd f.2.2.2.2
    rows (c ∷ o ∷ s ∷ a ∷ u ∷ []) p q f b = absurd f.2.2.2.2.2
    rows (c ∷ o ∷ s ∷ a ∷ u ∷ v ∷ []) p q f b = absurd f.2.2.2.2.2.2
    rows (c ∷ o ∷ s ∷ a ∷ u ∷ v ∷ n ∷ w ∷ ws) p q f b = absurd f.2.2.2.2.2.2.2
    rows (c ∷ o ∷ s ∷ a ∷ u ∷ v ∷ n ∷ []) p q f b =
        let m = contents_canonical layout r (c ∷ o ∷ s ∷ a ∷ u ∷ v ∷ n ∷ []) h p in
        let lo : length o ≡ 8 = eqb-true (length o) 8 f.2.0 in
        let ls : length s ≡ 8 = eqb-true (length s) 8 f.2.2.0 in
        let la : length a ≡ 8 = eqb-true (length a) 8 f.2.2.2.0 in
        let ln : length n ≡ 8 = eqb-true (length n) 8 f.2.2.2.2.2.2.0 in
        let bn = b.1.1.1.1.1.1.0 in
        let y : Fields = fields c (number_of o) (number_of s) (number_of a) u v (number_of n) in
        let j : y ≡ x = cc in
        subst (λ (z : Fields). (write_contents layout (contents_of z) ≡ r) × Sized z) j (
          (λ i. write_contents layout
              (c ∷ bytes_of_number 8 o lo b.1.0 i ∷ bytes_of_number 8 s ls b.1.1.0 i ∷ bytes_of_number 8 a la
              b.1.1.1.0 i ∷ u ∷ v ∷ bytes_of_number 8 n ln bn i ∷ [])) ∙ m.0,
          record {
            commitment_32 = eqb-true (length c) 32 f.0;
            offset_8 = number_bound 8 o lo b.1.0;
            size_8 = number_bound 8 s ls b.1.1.0;
            place_8 = number_bound 8 a la b.1.1.1.0;
            segment_path_nodes = f.2.2.2.2.0;
            segment_path_short = f.2.2.2.2.1;
            entry_path_nodes = f.2.2.2.2.2.0;
            entry_path_short = f.2.2.2.2.2.1;
            number_8 = number_bound 8 n ln bn;
          },
        )

    go : (k : Contents) → read_contents layout r ≡ k → fields_in k ≡ parsed x
        → (write_contents layout (contents_of x) ≡ r) × Sized x
    go malformed p q = never_parsed q
    go (contents cs) p q = let m = contents_canonical layout r cs h p in rows cs p q m.1 m.2

-- the length of what is written is the table's
pub encode_length : (x : Fields) → length x.commitment ≡ 32
    → length (encode x) ≡ table_length layout (length x.segment_path ∷ length x.entry_path ∷ [])
unfolding encode
encode_length x l =
    written_length layout (contents_of x) (
      l,
      (
        length_bytes_of 8 x.offset,
        (
          length_bytes_of 8 x.size,
          (length_bytes_of 8 x.place, (tt, (tt, (length_bytes_of 8 x.number, tt)))),
        ),
      ),
    )
