-- The entry strings of two accepted records of one entry place: as many on each side, and where they are the same so
-- are the entries.
use Rattle.std.specs.Prelude.{◌≡◌, ℕ, [], ◌∷◌, length}
use Rattle.std.proofs.Common.{sym, ap, ◌∙◌}
use Rattle.node.specs.Node.{node_hash, node_hash_length}
use Rattle.paths.specs.Strings.{strings_from}
use Rattle.paths.specs.PathLaws.{strings_length, same_strings}
use Rattle.paths.specs.DealStarts.{entry_start}
use Rattle.record.specs.Form.{Fields}
use Rattle.record.specs.Check.{DealTerms, entry_for}
use Rattle.record.specs.CheckLaws.{Accepted}
use Rattle.settle.specs.Settle.{entry_strings}

pub entry_strings_length : (d : ℕ) (x y : Fields) → length (entry_strings d x) ≡ length (entry_strings d y)
unfolding entry_strings
entry_strings_length d x y =
    strings_length (entry_start d x.place) (node_hash (entry_for x)) x.entry_path (entry_for x ∷ [])
    ∙ sym (strings_length (entry_start d y.place) (node_hash (entry_for y)) y.entry_path (entry_for y ∷ []))

-- the same strings: the same siblings and the same entry
pub same_entry : (terms : DealTerms) (x y : Fields) → Accepted terms x → Accepted terms y → x.place ≡ y.place
    → entry_strings terms.size x ≡ entry_strings terms.size y
    → (x.entry_path ≡ y.entry_path) × (entry_for x ≡ entry_for y)
unfolding entry_strings
same_entry terms x y ax ay at e =
    let start = entry_start terms.size in
    let r = same_strings (start x.place) (node_hash (entry_for x)) (node_hash (entry_for y)) x.entry_path
    y.entry_path (entry_for x ∷ []) (entry_for y ∷ []) (node_hash_length (entry_for x)) (node_hash_length (entry_for y))
    ax.entry_path_length ay.entry_path_length
    (e ∙ ap (λ (p : ℕ). strings_from (start p) (node_hash (entry_for y)) y.entry_path (entry_for y ∷ [])) (sym at)) in
    let q : entry_for x ∷ [] ≡ entry_for y ∷ [] = r.same_below in
    (r.same_siblings, cc)
