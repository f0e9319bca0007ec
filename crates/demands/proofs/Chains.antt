-- The strings of an accepted record as chains from the deal's commitment, and the answer that follows when they are
-- compared with others.
use Rattle.std.specs.Prelude.{◌≡◌, Bool, true, ℕ, length}
use Rattle.std.proofs.Math.Path.{refl}
use Rattle.std.proofs.Common.{sym, ap, ap₂, ◌∙◌, inl, inr, arith}
use mathlib.Core.List.{List, [], ◌∷◌, ◌++◌}
use Rattle.node.specs.Node.{node_hash, node_hash_length}
use Rattle.paths.specs.Difference.{Difference, same, differ, first_difference}
use Rattle.paths.specs.Chain.{sides_from, Chain}
use Rattle.paths.specs.DifferenceLaws.{Shows, no_difference, chain_length, two_chains, two_parts}
use Rattle.paths.specs.PathLaws.{path_chain}
use Rattle.paths.specs.DealStarts.{segment_start, entry_start}
use Rattle.entries.specs.EntryLaws.{entry_length}
use Rattle.record.specs.Form.{Fields}
use Rattle.record.specs.FormLaws.{Sized}
use Rattle.record.specs.Check.{DealTerms, entry_for}
use Rattle.record.specs.CheckLaws.{Accepted}
use Rattle.settle.specs.Settle.{settled_by, entry_strings, segment_strings, strings_of}
use Rattle.demands.specs.Settles.{Settles}

-- from the first difference of two lists of strings to the answer
settles : (Same : Type 0) (vs ws : List (List ℕ)) → (vs ≡ ws → Same) → (Same → vs ≡ ws)
    → Shows vs ws (first_difference vs ws) → Settles Same (settled_by (first_difference vs ws))
settles Same vs ws f g h = go (first_difference vs ws) refl h
  where
    go : (r : Difference) → first_difference vs ws ≡ r → Shows vs ws r → Settles Same (settled_by r)
    go same e s =
        record { code_is = inl refl; zero_if = λ q. refl; if_zero = λ q. f s; else_pair = λ n. absurd (n (f s)) }
    go (differ a b) e s =
        let no : Same → ⊥ = λ q.
        let z : differ a b ≡ same = sym e ∙ ap (first_difference vs) (sym (g q)) ∙ no_difference vs in
        let y : ◌≡◌ {A = ℕ} 0 1 = cc in
        omega arith in
        record {
          code_is = inr refl;
          zero_if = λ q. absurd (no q);
          if_zero = λ q. absurd (omega arith);
          else_pair = λ n. (refl, s);
        }

-- equal lists of two parts
halves : (vs ws us ts : List (List ℕ)) → length vs ≡ length ws → vs ++ us ≡ ws ++ ts → (vs ≡ ws) × (us ≡ ts)
halves [] [] us ts l e = (refl, e)
halves [] (w ∷ ws) us ts l e = absurd (omega arith)
halves (v ∷ vs) [] us ts l e = absurd (omega arith)
halves (v ∷ vs) (w ∷ ws) us ts l e =
    let a : v ≡ w = cc in
    let b : vs ++ us ≡ ws ++ ts = cc in
    let r = halves vs ws us ts (omega arith) b in
    (ap₂ ◌∷◌ a r.0, r.1)

-- the halves that lead down to an entry's first node, and to a segment's commitment
abbrev pub entry_sides : ℕ → ℕ → List Bool
entry_sides d place = sides_from (entry_start d place) (true ∷ [])

abbrev pub segment_sides : ℕ → ℕ → ℕ → List Bool
segment_sides d offset size = sides_from (segment_start d offset size) []

-- the strings of the two paths of an accepted record are chains from the commitment
module _ (terms : DealTerms) (x : Fields) (h : Sized x) (a : Accepted terms x) where
  pub entry_chain : Chain terms.commitment (entry_sides terms.size x.place) (entry_strings terms.size x)
  unfolding entry_strings
  entry_chain =
      path_chain (entry_start terms.size x.place) (node_hash (entry_for x)) x.entry_path (true ∷ [])
      (entry_for x ∷ []) (node_hash_length (entry_for x)) a.entry_path_length a.entry_path_leads
      (entry_length x.commitment x.offset x.size h.commitment_32, refl, tt)

  pub segment_chain :
      Chain terms.commitment (segment_sides terms.size x.offset x.size) (segment_strings terms.size x)
  unfolding segment_strings
  segment_chain =
      path_chain (segment_start terms.size x.offset x.size) x.commitment x.segment_path [] []
      h.commitment_32 a.segment_path_length a.segment_path_leads tt

-- strings to hold against those of a record: chains from the same commitment along the same two ways. The segment part
-- is asked for only where the entry parts are the same
pub record Beside (terms : DealTerms) (x : Fields) (us ts : List (List ℕ)) : Type 0 where
  pub entry : Chain terms.commitment (entry_sides terms.size x.place) us
  pub segment : entry_strings terms.size x ≡ us
      → Chain terms.commitment (segment_sides terms.size x.offset x.size) ts

-- the answer of comparing an accepted record with them
pub settles_beside : (terms : DealTerms) (x : Fields) → Sized x → Accepted terms x → (us ts : List (List ℕ))
    → Beside terms x us ts → (Same : Type 0)
    → (entry_strings terms.size x ≡ us → segment_strings terms.size x ≡ ts → Same)
    → (Same → strings_of terms.size x ≡ us ++ ts)
    → Settles Same (settled_by (first_difference (strings_of terms.size x) (us ++ ts)))
settles_beside terms x h a us ts b Same f g =
    let d = terms.size in
    let c = terms.commitment in
    let es = entry_sides d x.place in
    let ss = segment_sides d x.offset x.size in
    let e = entry_chain terms x h a in
    let l : length (entry_strings d x) ≡ length us =
    chain_length c es (entry_strings d x) e ∙ sym (chain_length c es us b.entry) in
    settles Same (strings_of d x) (us ++ ts)
    (λ q. let r = halves (entry_strings d x) us (segment_strings d x) ts l q in f r.0 r.1)
    g
    (two_parts (entry_strings d x) (segment_strings d x) us ts l (two_chains c es (entry_strings d x) us e b.entry)
    (λ q. two_chains c ss (segment_strings d x) ts (segment_chain terms x h a) (b.segment q)))
