-- The ways through the judgement, one law for each answer of the code.
use mathlib.Core.Path.{◌≡◌, refl, sym, ap, ◌∙◌}
use mathlib.Core.Bool.{Bool, true, false}
use Prim.Native.Nat.{ℕ, ◌/◌}
use mathlib.Core.List.{List}
use lib.ListN.{length}
use borrow.Author.Tests.{eq-eqb, ne_eqb}
use Rattle.rules.specs.Refusals.{first_refusal}
use Rattle.octets.specs.Equality.{same_bytes}
use Rattle.node.specs.Node.{node_hash}
use Rattle.stray.specs.StrayBits.{clear_node}
use Rattle.paths.specs.Path.{path_root}
use Rattle.entries.specs.Entry.{entry_of}
use Rattle.sizes.specs.Sizes.{segment_size_allowed, offset_allowed, place_allowed, segment_path_levels}
use Rattle.sizes.specs.Sizes.{entry_path_levels, segment_position}
use Rattle.record.specs.Form.{Fields, fields, parsed}
use Rattle.record.specs.Check.{deal_terms, segment_path_root, entry_path_root, paths_sized, paths_clear, judgement}
use Rattle.record.specs.declared.ParsedRecord.{ParsedRecord as Read}
use Rattle.record.proofs.Tests.{sized, leads}

module _ (commitment : List ℕ) (d number : ℕ) (x : Read) (u v : List ℕ) where
  -- the fields that are judged, with the two paths, and their code
  abbrev pub judged : Fields
  judged = fields x.commitment x.offset x.size x.place u v x.number

  abbrev pub code : ℕ
  code = first_refusal (judgement (deal_terms commitment d number) (parsed judged))

  pub wrong_number : (x.number ≡ number → ⊥) → 21 ≡ code
  wrong_number h = rw (ne_eqb x.number number h)

  module _ (n : x.number ≡ number) where
    pub wrong_size : segment_size_allowed d x.size ≡ false → 4 ≡ code
    wrong_size e = rw (eq-eqb x.number number n, e)

    module _ (s : segment_size_allowed d x.size ≡ true) where
      pub wrong_offset : offset_allowed d x.offset x.size ≡ false → 5 ≡ code
      wrong_offset e = rw (eq-eqb x.number number n, s, e)

      module _ (o : offset_allowed d x.offset x.size ≡ true) where
        pub wrong_place : place_allowed d x.place ≡ false → 6 ≡ code
        wrong_place e = rw (eq-eqb x.number number n, s, o, e)

        module _ (p : place_allowed d x.place ≡ true) where
          pub wrong_lengths : paths_sized d judged ≡ false → 7 ≡ code
          wrong_lengths e = rw (eq-eqb x.number number n, s, o, p, e)

          module _ (l : paths_sized d judged ≡ true) where
            pub stray_commitment : clear_node x.commitment ≡ false → 8 ≡ code
            stray_commitment h = rw (eq-eqb x.number number n, s, o, p, l, h)

            module _ (k : clear_node x.commitment ≡ true) where
              pub stray_paths : paths_clear judged ≡ false → 19 ≡ code
              stray_paths e = rw (eq-eqb x.number number n, s, o, p, l, k, e)

              module _ (c : paths_clear judged ≡ true) where
                -- where the segment path leads from its position
                module _ {position : ℕ} {led : Bool} (i : position ≡ segment_position x.offset x.size)
                    (f : led ≡ same_bytes (path_root (length u / 32) x.commitment position u) commitment) where
                  segment_leads : led ≡ same_bytes (segment_path_root d judged) commitment
                  segment_leads =
                      leads (segment_path_levels d x.size) u commitment (sized d x.size u v l).0 refl i f

                  pub segment_elsewhere : led ≡ false → 9 ≡ code
                  segment_elsewhere e =
                      let w : same_bytes (segment_path_root d judged) commitment ≡ false = sym segment_leads ∙ e in
                      rw (eq-eqb x.number number n, s, o, p, l, k, c, w)

                  module _ (t : led ≡ true) where
                    segment_there : same_bytes (segment_path_root d judged) commitment ≡ true
                    segment_there = sym segment_leads ∙ t

                    -- where the entry path leads from the node hash of the entry
                    module _ {entry node : List ℕ} {led' : Bool} (y : entry ≡ entry_of x.commitment x.offset x.size)
                        (h : node ≡ node_hash entry)
                        (g : led' ≡ same_bytes (path_root (length v / 32) node (x.place / 64) v) commitment) where
                      entry_leads : led' ≡ same_bytes (entry_path_root d judged) commitment
                      entry_leads =
                          leads (entry_path_levels d) v commitment (sized d x.size u v l).1 (h ∙ ap node_hash y) refl g

                      pub entry_elsewhere : led' ≡ false → 10 ≡ code
                      entry_elsewhere e =
                          let w : same_bytes (entry_path_root d judged) commitment ≡ false = sym entry_leads ∙ e in
                          rw (eq-eqb x.number number n, s, o, p, l, k, c, segment_there, w)

                      pub accepted : led' ≡ true → 0 ≡ code
                      accepted e =
                          let w : same_bytes (entry_path_root d judged) commitment ≡ true = sym entry_leads ∙ e in
                          rw (eq-eqb x.number number n, s, o, p, l, k, c, segment_there, w)
