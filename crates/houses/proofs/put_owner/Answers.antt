use mathlib.Core.Path.{◌≡◌, refl, ap, ◌∙◌}
use mathlib.Core.List.{List, [], ◌∷◌, ◌++◌}
use Prim.Native.Nat.{ℕ, zero, suc, ◌+◌, ◌<◌}
use native.Mathlib.Omega.{arith}
use lib.ListN.{length, take, drop, set}
use Rattle.octets.specs.Splice.{splice}
use Rattle.houses.specs.Houses.{with_owner}
use Rattle.houses.proofs.SlotIn.{slot_in}
use Rattle.houses.proofs.put_owner.Goals as goal

-- a string with one byte written
one_written : (xs : List ℕ) (i x : ℕ) → i < length xs → set xs i x ≡ splice xs i (x ∷ [])
unfolding splice
one_written [] i x h = absurd (omega arith)
one_written (y ∷ xs) zero x h = refl
one_written (y ∷ xs) (suc i) x h =
    let next : suc (i + 1) ≡ suc i + 1 = omega arith in
    ap (λ (l : List ℕ). y ∷ l) (one_written xs i x (omega arith))
    ∙ ap (λ (n : ℕ). y ∷ (take i xs ++ (x ∷ []) ++ drop n (y ∷ xs))) next

pub bounds-table-slot_at : goal.bounds-table-slot_at
bounds-table-slot_at c =
    let r = c.requires in
    omega (arith, slot_in c.args.size c.args.place c.args.table.now r.size_value.0 r.size_value.1 r.table_value)

pub returns : goal.returns
unfolding with_owner
returns c =
    let r = c.requires in
    let inside = slot_in c.args.size c.args.place c.args.table.now r.size_value.0 r.size_value.1 r.table_value in
    one_written c.args.table.now c.slot_at.result c.args.owner (omega (arith, inside, c.slot_at.ensures))
    ∙ ap (λ (i : ℕ). splice c.args.table.now i (c.args.owner ∷ [])) c.slot_at.ensures
