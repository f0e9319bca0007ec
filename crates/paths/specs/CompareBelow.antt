-- Comparing on top of what was seen below: the difference along the paths, or else the one below.
use Rattle.std.specs.Prelude.{◌≡◌, refl, Bool, true, false, ℕ, zero, suc, ◌/◌, List, take, drop, Option, Some, None}
use Rattle.std.specs.Option.{option_or}
use Rattle.std.proofs.Common.{sym, ap, ◌∙◌}
use Rattle.rules.specs.Choice.{choose}
use Rattle.octets.specs.Equality.{same_bytes}
use Rattle.node.specs.Node.{node_hash}
use Rattle.merkle.specs.NodeSource.{NodeSource}
use Rattle.paths.specs.Path.{pair_of}
use Rattle.paths.specs.Siblings.{pair_at}
use Rattle.paths.specs.Difference.{Difference, same, differ}
use Rattle.paths.specs.Compare.{equal, unequal, compared, compared_above, compared_up, seen_as}
use Rattle.paths.specs.CompareOwn.{compared_with_own}
use Rattle.paths.specs.declared.Compared.{Compared}
use Rattle.paths.specs.declared.Difference as D

-- the first part's difference, or else the second's
abbrev pub or_compared : Compared → Compared → Compared
or_compared first second = choose first.differs first second

choose_or : (t : Bool) (a b : Compared) (v w : List ℕ)
    → choose t (or_compared a b) (unequal v w) ≡ or_compared (choose t a (unequal v w)) b
choose_or true a b v w = refl
choose_or false a b v w = refl

-- one more pair of strings above the first part is above both
pub above_or : (a b : Compared) (v w : List ℕ)
    → compared_above (or_compared a b) v w ≡ or_compared (compared_above a v w) b
above_or a b v w = choose_or (same_bytes v w) a b v w

-- what stands below shows where nothing above it differs: n levels up along two paths
pub up_or : (n p : ℕ) (x s y t : List ℕ) (a b : Compared)
    → compared_up n p x s y t (or_compared a b) ≡ or_compared (compared_up n p x s y t a) b
unfolding compared_up
up_or zero p x s y t a b = refl
up_or (suc n) p x s y t a b =
    let v = pair_of p x (take 32 s) in
    let w = pair_of p y (take 32 t) in
    ap (compared_up n (p / 2) (node_hash v) (drop 32 s) (node_hash w) (drop 32 t)) (above_or a b v w)
    ∙ up_or n (p / 2) (node_hash v) (drop 32 s) (node_hash w) (drop 32 t) (compared_above a v w) b

-- n levels up along a path and a source's own pairs
pub own_or : (nodes : NodeSource) (n level q : ℕ) (x s : List ℕ) (a b : Compared)
    → compared_with_own nodes n level q x s (or_compared a b) ≡ or_compared (compared_with_own nodes n level q x s a) b
unfolding compared_with_own
own_or nodes zero level q x s a b = refl
own_or nodes (suc n) level q x s a b =
    let v = pair_of q x (take 32 s) in
    let w = pair_at nodes level q in
    ap (compared_with_own nodes n (suc level) (q / 2) (node_hash v) (drop 32 s)) (above_or a b v w)
    ∙ own_or nodes n (suc level) (q / 2) (node_hash v) (drop 32 s) (compared_above a v w) b

-- the same in the code's answers
pub seen_or : (r below : Option D.Difference) → seen_as (option_or r below) ≡ or_compared (seen_as r) (seen_as below)
seen_or None below = refl
seen_or (Some strings) below = refl

-- an answer for two paths, or else the one for what stands below: it is the answer for both
pub up_below : (n p : ℕ) (x s y t : List ℕ) (r below : Option D.Difference)
    → seen_as r ≡ compared_up n p x s y t equal
    → seen_as (option_or r below) ≡ compared_up n p x s y t (seen_as below)
up_below n p x s y t r below e =
    seen_or r below
    ∙ ap (λ (found : Compared). or_compared found (seen_as below)) e
    ∙ sym (up_or n p x s y t equal (seen_as below))

-- an answer for a path and a source's own pairs, or else the one for what stands below
pub own_below : (nodes : NodeSource) (n level q : ℕ) (x s : List ℕ) (r below : Option D.Difference)
    → seen_as r ≡ compared_with_own nodes n level q x s equal
    → seen_as (option_or r below) ≡ compared_with_own nodes n level q x s (seen_as below)
own_below nodes n level q x s r below e =
    seen_or r below
    ∙ ap (λ (found : Compared). or_compared found (seen_as below)) e
    ∙ sym (own_or nodes n level q x s equal (seen_as below))

-- the strings shown of what was found: all of it, where it is the first difference of two lists
pub shown : (d : Difference) {found : Compared} → found ≡ compared d → or_compared found equal ≡ compared d
shown d e = ap (λ (c : Compared). or_compared c equal) e ∙ go d
  where
    go : (d : Difference) → or_compared (compared d) equal ≡ compared d
    go same = refl
    go (differ v w) = refl

-- and where all is shown of what stands below: n levels up along two paths
pub up_shown : (n p : ℕ) (x s y t : List ℕ) (seen : Compared) → or_compared seen equal ≡ seen
    → or_compared (compared_up n p x s y t seen) equal ≡ compared_up n p x s y t seen
up_shown n p x s y t seen e = sym (up_or n p x s y t seen equal) ∙ ap (compared_up n p x s y t) e

-- n levels up along a path and a source's own pairs
pub own_shown : (nodes : NodeSource) (n level q : ℕ) (x s : List ℕ) (seen : Compared) → or_compared seen equal ≡ seen
    → or_compared (compared_with_own nodes n level q x s seen) equal ≡ compared_with_own nodes n level q x s seen
own_shown nodes n level q x s seen e =
    sym (own_or nodes n level q x s seen equal) ∙ ap (compared_with_own nodes n level q x s) e
