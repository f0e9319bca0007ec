-- Settling by comparing paths from the bottom up: the entry paths first, and the segment paths where nothing differed.
use Rattle.std.specs.Prelude.{◌≡◌, refl, ℕ, List, ◌++◌, length}
use Rattle.std.proofs.Common.{sym, ap, ◌∙◌}
use Rattle.rules.specs.Choice.{choose}
use Rattle.paths.specs.Difference.{Difference, same, differ, first_difference}
use Rattle.paths.specs.DifferenceLaws.{or_else, difference_append}
use Rattle.paths.specs.Compare.{compared}
use Rattle.paths.specs.CompareBelow.{or_compared}
use Rattle.paths.specs.declared.Compared.{Compared}
use Rattle.entries.specs.Entry.{commitment_in, offset_in, size_in}
use Rattle.entries.specs.EntryLaws.{commitment_back, offset_back, size_back}
use Rattle.record.specs.Form.{Fields}
use Rattle.record.specs.FormLaws.{Sized}
use Rattle.record.specs.Check.{entry_for}
use Rattle.settle.specs.Settle.{not_settled, settled_by}
use Rattle.settle.specs.Settle.{Settled}

-- what comparing found, as an answer
abbrev pub settled_from : Compared → Settled
settled_from found =
    choose found.differs (record { code = 17; left = found.left; right = found.right }) (not_settled 0)

settled_compared : (d : Difference) → settled_by d ≡ settled_from (compared d)
settled_compared same = refl
settled_compared (differ v w) = refl

or_compared_lem : (d e : Difference) → compared (or_else d e) ≡ or_compared (compared d) (compared e)
or_compared_lem same e = refl
or_compared_lem (differ v w) e = refl

-- the answer from the two parts
pub settled_parts : (vs us ws ts : List (List ℕ)) → length vs ≡ length ws
    → settled_by (first_difference (vs ++ us) (ws ++ ts))
    ≡ settled_from (or_compared (compared (first_difference vs ws)) (compared (first_difference us ts)))
settled_parts vs us ws ts l =
    ap settled_by (difference_append vs us ws ts l)
    ∙ settled_compared (or_else (first_difference vs ws) (first_difference us ts))
    ∙ ap settled_from (or_compared_lem (first_difference vs ws) (first_difference us ts))

-- the fields that an entry names
module _ (x : Fields) (h : Sized x) where
  pub named_commitment : commitment_in (entry_for x) ≡ x.commitment
  named_commitment = commitment_back x.commitment x.offset x.size h.commitment_32

  pub named_offset : offset_in (entry_for x) ≡ x.offset
  named_offset = offset_back x.commitment x.offset x.size h.commitment_32 h.offset_8

  pub named_size : size_in (entry_for x) ≡ x.size
  named_size = size_back x.commitment x.offset x.size h.commitment_32 h.size_8

-- equal entries name equal fields
pub same_fields : (x y : Fields) → Sized x → Sized y → entry_for x ≡ entry_for y
    → (x.commitment ≡ y.commitment) × (x.offset ≡ y.offset) × (x.size ≡ y.size)
same_fields x y h g e = (
  sym (named_commitment x h) ∙ ap commitment_in e ∙ named_commitment y g,
  sym (named_offset x h) ∙ ap offset_in e ∙ named_offset y g,
  sym (named_size x h) ∙ ap size_in e ∙ named_size y g,
)
