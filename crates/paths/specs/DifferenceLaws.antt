-- Two chains to one node: no string differs, or the first two that differ are a collision.
use Rattle.std.specs.Prelude.{◌≡◌, refl, Bool, true, false, ℕ, suc, List, [], ◌∷◌, ◌++◌, length}
use Rattle.std.proofs.Common.{sym, ap, ap₂, ◌∙◌, subst, arith}
use Rattle.rules.specs.Choice.{choose}
use Rattle.octets.specs.Equality.{same_bytes}
use Rattle.octets.specs.EqualityLaws.{same_true, same_false, same_refl}
use Rattle.paths.specs.Difference.{Difference, same, differ, first_difference}
use Rattle.paths.specs.Collision.{Collision}
use Rattle.paths.specs.Chain.{half, Chain}

-- what the first difference of two lists shows: that they are the same, or a collision
abbrev pub Shows : List (List ℕ) → List (List ℕ) → Difference → Type 0
Shows vs ws same = vs ≡ ws
Shows vs ws (differ a b) = Collision a b

shows_more : (v w : List ℕ) (vs ws : List (List ℕ)) → v ≡ w → (r : Difference) → Shows vs ws r
    → Shows (v ∷ vs) (w ∷ ws) r
shows_more v w vs ws e same f = ap₂ ◌∷◌ e f
shows_more v w vs ws e (differ a b) f = f

pub chain_length : (c : List ℕ) (bs : List Bool) (ws : List (List ℕ)) → Chain c bs ws → length ws ≡ length bs
chain_length c [] [] h = refl
chain_length c [] (w ∷ ws) h = absurd h
chain_length c (b ∷ bs) [] h = absurd h
chain_length c (b ∷ bs) (w ∷ ws) h = ap suc (chain_length (half b w) bs ws h.2)

pub two_chains : (c : List ℕ) (bs : List Bool) (vs ws : List (List ℕ)) → Chain c bs vs → Chain c bs ws
    → Shows vs ws (first_difference vs ws)
unfolding first_difference
two_chains c [] [] [] h k = refl
two_chains c [] [] (w ∷ ws) h k = absurd k
two_chains c [] (v ∷ vs) ws h k = absurd h
two_chains c (b ∷ bs) [] ws h k = absurd h
two_chains c (b ∷ bs) (v ∷ vs) [] h k = absurd k
two_chains c (b ∷ bs) (v ∷ vs) (w ∷ ws) h k =
    go (λ e. two_chains (half b v) bs vs ws h.2 (subst (λ (z : List ℕ). Chain (half b z) bs ws) (sym e) k.2))
    (same_bytes v w) refl
  where
    go : (v ≡ w → Shows vs ws (first_difference vs ws)) → (t : Bool) → same_bytes v w ≡ t
        → Shows (v ∷ vs) (w ∷ ws) (choose t (first_difference vs ws) (differ v w))
    go rest true e = shows_more v w vs ws (same_true v w e) (first_difference vs ws) (rest (same_true v w e))
    go rest false e =
        record { unequal = same_false v w e; left_64 = h.0; right_64 = k.0; one_hash = h.1 ∙ sym k.1 }

pub no_difference : (vs : List (List ℕ)) → first_difference vs vs ≡ same
unfolding first_difference
no_difference [] = refl
no_difference (v ∷ vs) = rw (same_refl v) (no_difference vs)

-- two parts, one after the other
abbrev pub or_else : Difference → Difference → Difference
or_else same r = r
or_else (differ a b) r = differ a b

choose_else : (t : Bool) (r q : Difference) (v w : List ℕ)
    → choose t (or_else r q) (differ v w) ≡ or_else (choose t r (differ v w)) q
choose_else true r q v w = refl
choose_else false r q v w = refl

pub difference_append : (us bs cs ds : List (List ℕ)) → length us ≡ length cs
    → first_difference (us ++ bs) (cs ++ ds) ≡ or_else (first_difference us cs) (first_difference bs ds)
unfolding first_difference
difference_append [] bs [] ds h = refl
difference_append [] bs (c ∷ cs) ds h = absurd (omega arith)
difference_append (a ∷ us) bs [] ds h = absurd (omega arith)
difference_append (a ∷ us) bs (c ∷ cs) ds h =
    rw (difference_append us bs cs ds (omega arith))
    (choose_else (same_bytes a c) (first_difference us cs) (first_difference bs ds) a c)

pub two_parts : (us bs cs ds : List (List ℕ)) → length us ≡ length cs → Shows us cs (first_difference us cs)
    → (us ≡ cs → Shows bs ds (first_difference bs ds))
    → Shows (us ++ bs) (cs ++ ds) (first_difference (us ++ bs) (cs ++ ds))
two_parts us bs cs ds l f g =
    subst (Shows (us ++ bs) (cs ++ ds)) (sym (difference_append us bs cs ds l)) (go (first_difference us cs) f)
  where
    below : us ≡ cs → (r : Difference) → Shows bs ds r → Shows (us ++ bs) (cs ++ ds) r
    below e same h = ap₂ ◌++◌ e h
    below e (differ a b) h = h

    go : (r : Difference) → Shows us cs r → Shows (us ++ bs) (cs ++ ds) (or_else r (first_difference bs ds))
    go same e = below e (first_difference bs ds) (g e)
    go (differ a b) e = e
