-- Bytes that are the fields of a table, with nothing after them, are not those of a longer table.
use Rattle.std.specs.Prelude.{◌≡◌, refl, Bool, true, false, ℕ, List, [], ◌∷◌, ◌++◌, length, eqb}
use Rattle.std.proofs.Common.{ap, arith, eqb-true}
use Rattle.rules.specs.Choice.{choose}
use Rattle.fields.specs.Table.{Taken, taken, refused, take_field, Contents, contents, malformed, add_content, on_taken}
use Rattle.fields.specs.Table.{read_contents}
use Rattle.fields.specs.declared.FieldRule.{FieldRule}

no_contents : {A : Type 0} {cs : List (List ℕ)} → malformed ≡ contents cs → A
no_contents e = let z : ◌≡◌ {A = ℕ} 0 1 = cc in absurd (omega arith)

-- no field is read where nothing is left
nothing_left : (f : FieldRule) (fs : List FieldRule) (r : List ℕ) → length r ≡ 0 → read_contents (f ∷ fs) r ≡ malformed
unfolding read_contents take_field
nothing_left f fs [] e = refl
nothing_left f fs (x ∷ xs) e = absurd (omega arith)

ended : (t : Bool) (cs : List (List ℕ)) → choose t (contents []) malformed ≡ contents cs → t ≡ true
ended true cs e = refl
ended false cs e = no_contents e

later_read : (c : List ℕ) (k : Contents) (cs : List (List ℕ)) → add_content c k ≡ contents cs
    → (ds : List (List ℕ)) × (k ≡ contents ds)
later_read c (contents ds) cs e = (ds, refl)
later_read c malformed cs e = no_contents e

-- the first field of a table, and the rest by a table of which this is known
first_read : (k : Taken) (gs hs : List FieldRule) (cs : List (List ℕ)) → on_taken k (read_contents gs) ≡ contents cs
    → ((rest : List ℕ) (ds : List (List ℕ)) → read_contents gs rest ≡ contents ds → read_contents hs rest ≡ malformed)
    → on_taken k (read_contents hs) ≡ malformed
first_read (taken c rest) gs hs cs e later =
    let d = later_read c (read_contents gs rest) cs e in ap (add_content c) (later rest d.0 d.1)
first_read refused gs hs cs e later = refl

pub longer_table : (fs : List FieldRule) (f : FieldRule) (r : List ℕ) (cs : List (List ℕ))
    → read_contents fs r ≡ contents cs → read_contents (fs ++ (f ∷ [])) r ≡ malformed
unfolding read_contents
longer_table [] f r cs e = nothing_left f [] r (eqb-true (length r) 0 (ended (eqb (length r) 0) cs e))
longer_table (g ∷ gs) f r cs e =
    first_read (take_field g r) gs (gs ++ (f ∷ [])) cs e (λ rest ds. longer_table gs f rest ds)
