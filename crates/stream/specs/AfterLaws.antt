-- The state stays what it is after bytes when one more byte is taken, and so over a piece.
use Rattle.std.specs.Prelude.{◌≡◌, refl, Bool, true, false, List, [], ◌∷◌, ◌++◌, ℕ, suc, ◌+◌, ◌-◌, ◌*◌, ◌/◌, ◌%◌, ◌^◌}
use Rattle.std.specs.Prelude.{◌≤◌, ◌<◌, length, take, drop, get_or, set}
use Rattle.std.proofs.Common.{sym, ap, ◌∙◌, subst, ⊎_elim, append-nil, eq-or-lt_of_le, arith, length-append, length-set}
use Rattle.std.proofs.Common.{drop_of_length-le, take_all, take-suc-set, get_or-drop, ltb-false}
use Rattle.std.proofs.Math.Nat.{zero-div}
use Rattle.std.proofs.Math.Decide.{dec_lt, ℕ_discrete}
use Rattle.std.proofs.Math.ListN.{get_or-append}
use Rattle.std.proofs.Math.Seq.{append_snoc}
use Rattle.std.proofs.lemmas.List.{drop-append-le}
use Rattle.merkle.specs.Tree.{node_at}
use Rattle.merkle.specs.TreeLaws.{node_leaf}
use Rattle.stray.specs.StrayBits.{clear_node}
use Rattle.stray.specs.StrayBitsLaws.{node_clear}
use Rattle.stream.specs.Stream.{largest, started, failed_with, with_node, counted, take_byte, take_piece, take_pieces}
use Rattle.stream.specs.Stream.{together}
use Rattle.stream.specs.StreamLaws.{running, byte_after_failure, byte_past, byte_within, counted_open}
use Rattle.stream.specs.StreamLaws.{counted_stray, counted_whole, pieces_together}
use Rattle.stream.specs.After.{Waits, Runs, StrayNode, TooLong, After, runs, stray_node, too_long}
use Rattle.stream.specs.WaitingLaws.{node_waits, length_with_node}
use Rattle.stream.specs.AppendLaws.{waits_stay}
use Rattle.stream.specs.declared.Stream.{Stream}

-- a new start
pub after_start : After [] started
after_start =
    runs
    (record {
      allowed = omega arith;
      clear = λ i h. absurd (omega arith);
      no_code = refl;
      counts = refl;
      partial_sized = refl;
      waiting_sized = refl;
      last = refl;
      waits = λ h b odd. absurd (omega (arith, zero-div (2 ^ h)));
    })

-- one more byte
module _ (bytes : List ℕ) (b : ℕ) where
  abbrev longer : List ℕ
  longer = bytes ++ (b ∷ [])

  one_more : length longer ≡ length bytes + 1
  one_more = length-append bytes (b ∷ [])

  same_byte : (i : ℕ) → i < length bytes → get_or longer i 0 ≡ get_or bytes i 0
  same_byte i h = get_or-append bytes (b ∷ []) 0 i h

  -- a code that sticks
  still_stray_node : (s : Stream) → StrayNode bytes s → StrayNode longer (take_byte s b)
  still_stray_node s x =
      let e : s.code ≡ 11 = ap (λ (t : Stream). t.code) x.state_is in
      record {
        node = x.node;
        whole = omega (arith, one_more, x.whole);
        within = x.within;
        stray = rw (same_byte (x.node * 32 + 31) x.whole) x.stray;
        state_is = byte_after_failure s b (λ z. omega arith) ∙ x.state_is;
      }

  still_too_long : (s : Stream) → TooLong bytes s → TooLong longer (take_byte s b)
  still_too_long s x =
      let e : s.code ≡ 2 = ap (λ (t : Stream). t.code) x.state_is in
      record {
        more = omega (arith, one_more, x.more);
        clear = λ i h. rw (same_byte (i * 32 + 31) (omega (arith, x.more))) (x.clear i h);
        state_is = byte_after_failure s b (λ z. omega arith) ∙ x.state_is;
      }

  module _ (s : Stream) (r : Runs bytes s) where
    -- the first byte past the largest number
    overruns : largest ≤ s.count → TooLong longer (take_byte s b)
    overruns h =
        let l : length bytes ≡ largest = omega (arith, r.counts, r.allowed) in
        record {
          more = omega (arith, one_more);
          clear = λ i k. rw (same_byte (i * 32 + 31) (omega arith)) (r.clear i (omega arith));
          state_is = byte_past s b r.no_code h;
        }

    -- the partial node with the byte, and the number of whole nodes before
    abbrev put : List ℕ
    put = set s.partial (length bytes % 32) b

    abbrev n : ℕ
    n = length bytes / 32

    put_sized : length put ≡ 32
    put_sized = length-set s.partial (length bytes % 32) b ∙ r.partial_sized

    put_last : take (suc (length bytes % 32)) put ≡ drop (n * 32) longer
    put_last =
        take-suc-set s.partial (length bytes % 32) b (omega (arith, r.partial_sized))
        ∙ ap (λ (v : List ℕ). v ++ (b ∷ [])) r.last
        ∙ sym (drop-append-le (n * 32) bytes (b ∷ []) (omega arith))

    old_clear : (i : ℕ) → i < n → get_or longer (i * 32 + 31) 0 < 64
    old_clear i h = rw (same_byte (i * 32 + 31) (omega arith)) (r.clear i h)

    old_waits : Waits longer s.waiting n
    old_waits = waits_stay bytes (b ∷ []) s.waiting n (omega arith) r.waits

    module _ (h : length bytes < largest) where
      -- the node is not whole yet
      open_node : (length bytes % 32 ≡ 31 → ⊥) → Runs longer (running (length bytes + 1) put s.waiting)
      open_node k =
          let l = one_more in
          let d : n ≡ length longer / 32 = omega arith in
          let m : length longer % 32 ≡ suc (length bytes % 32) = omega arith in
          record {
            allowed = omega arith;
            clear = λ i g. old_clear i (omega arith);
            no_code = refl;
            counts = sym one_more;
            partial_sized = put_sized;
            waiting_sized = r.waiting_sized;
            last = ap (λ (j : ℕ). take j put) m ∙ put_last ∙ ap (λ (j : ℕ). drop (j * 32) longer) d;
            waits = subst (λ (j : ℕ). Waits longer s.waiting j) d old_waits;
          }

      -- the node is whole
      module _ (k : length bytes % 32 ≡ 31) where
        new_node : put ≡ drop (n * 32) longer
        new_node =
            let e : 32 ≡ suc (length bytes % 32) = omega arith in
            sym (take_all 32 put (omega (arith, put_sized))) ∙ ap (λ (j : ℕ). take j put) e ∙ put_last

        last_byte : get_or put 31 0 ≡ get_or longer (n * 32 + 31) 0
        last_byte = ap (λ (v : List ℕ). get_or v 31 0) new_node ∙ get_or-drop (n * 32) longer 31 0

        stray_node_lem : clear_node put ≡ false → StrayNode longer (failed_with 11)
        unfolding clear_node
        stray_node_lem e =
            record {
              node = n;
              whole = omega (arith, one_more);
              within = omega arith;
              stray = rw (← last_byte) (ltb-false (get_or put 31 0) 64 e);
              state_is = refl;
            }

        whole_node : clear_node put ≡ true
            → Runs longer
            (running (length bytes + 1) put (with_node 32 0 ((length bytes + 1) / 32 - 1) put s.waiting))
        whole_node e =
            let l = one_more in
            let d : length longer / 32 ≡ suc n = omega arith in
            let m : length longer % 32 ≡ 0 = omega arith in
            let q : (length bytes + 1) / 32 - 1 ≡ n = omega arith in
            record {
              allowed = omega arith;
              clear = λ i g. new_clear i (omega arith);
              no_code = refl;
              counts = sym one_more;
              partial_sized = put_sized;
              waiting_sized =
                  length_with_node 32 0 ((length bytes + 1) / 32 - 1) put s.waiting refl put_sized r.waiting_sized;
              last =
                  ap (λ (j : ℕ). take j put) m
                  ∙ sym (drop_of_length-le longer {i = length longer / 32 * 32} (omega arith));
              waits =
                  subst (λ (j : ℕ). Waits longer (with_node 32 0 ((length bytes + 1) / 32 - 1) put s.waiting) j)
                  (sym d)
                  (subst (λ (j : ℕ). Waits longer (with_node 32 0 j put s.waiting) (suc n)) (sym q)
                  (node_waits longer s.waiting n r.waiting_sized old_waits put put_sized leaf));
            }
          where
            leaf : put ≡ node_at longer 0 n
            leaf = sym (take_all 32 put (omega (arith, put_sized))) ∙ ap (take 32) new_node ∙ sym (node_leaf longer n)

            new_clear : (i : ℕ) → i ≤ n → get_or longer (i * 32 + 31) 0 < 64
            new_clear i g =
                ⊎_elim
                (λ (same : i ≡ n).
                subst (λ (j : ℕ). get_or longer (j * 32 + 31) 0 < 64) (sym same) (rw (← last_byte) (node_clear put e)))
                (λ (before : i < n). old_clear i before)
                (eq-or-lt_of_le g)

      -- all of these
      module _ (g : s.count < largest) where
        is_counted : take_byte s b ≡ counted (length bytes + 1) put s.waiting
        is_counted =
            byte_within s b r.no_code g
            ∙ ap (λ (j : ℕ). counted (j + 1) (set s.partial (j % 32) b) s.waiting) r.counts

        whole_counted : (k : length bytes % 32 ≡ 31) (t : Bool) → clear_node put ≡ t → After longer (take_byte s b)
        whole_counted k true e =
            subst (After longer) (sym (is_counted ∙ counted_whole (length bytes + 1) put s.waiting (omega arith) e))
            (runs (whole_node k e))
        whole_counted k false e =
            subst (After longer) (sym (is_counted ∙ counted_stray (length bytes + 1) put s.waiting (omega arith) e))
            (stray_node (stray_node_lem k e))

        goes_on : After longer (take_byte s b)
        goes_on =
            elim (ℕ_discrete (length bytes % 32) 31) [
              | yes k ↦ whole_counted k (clear_node put) refl
              | no k ↦ subst (After longer)
                  (sym (is_counted ∙ counted_open (length bytes + 1) put s.waiting (λ z. k (omega arith))))
                  (runs (open_node k))
            ]

    takes : After longer (take_byte s b)
    takes =
        elim (dec_lt s.count largest) [
          | yes g ↦ goes_on (omega (arith, r.counts)) g
          | no g ↦ too_long (overruns (omega arith))
        ]

  after_byte : (s : Stream) → After bytes s → After longer (take_byte s b)
  after_byte s (runs r) = takes s r
  after_byte s (stray_node x) = stray_node (still_stray_node s x)
  after_byte s (too_long x) = too_long (still_too_long s x)

-- one more piece
pub after_piece : (bytes piece : List ℕ) (s : Stream) → After bytes s → After (bytes ++ piece) (take_piece s piece)
unfolding take_piece
after_piece bytes [] s a = subst (λ (v : List ℕ). After v s) (sym (append-nil bytes)) a
after_piece bytes (b ∷ piece) s a =
    subst (λ (v : List ℕ). After v (take_piece (take_byte s b) piece)) (append_snoc bytes b piece)
    (after_piece (bytes ++ (b ∷ [])) piece (take_byte s b) (after_byte bytes b s a))

-- several pieces from a new start
pub after_pieces : (pieces : List (List ℕ)) → After (together pieces) (take_pieces started pieces)
after_pieces pieces =
    subst (After (together pieces)) (sym (pieces_together started pieces))
    (after_piece [] (together pieces) started after_start)
