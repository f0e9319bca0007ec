-- The check of a record (document 01, "Codes and their order": check, 1 to 10 as numbered; document 02, request (v): 19
-- after 8, request (ix): 21 after 3).
use Rattle.std.specs.Prelude.{Bool, true, false, ◌&&◌, ℕ, ◌*◌, List, [], ◌∷◌, length, eqb}
use Rattle.rules.specs.Refusals.{Rule, rule, first_refusal}
use Rattle.octets.specs.Equality.{same_bytes}
use Rattle.node.specs.Node.{node_hash}
use Rattle.stray.specs.StrayBits.{clear_node, no_stray_bits}
use Rattle.paths.specs.Path.{path_root}
use Rattle.sizes.specs.Sizes.{deal_size_allowed, segment_size_allowed, offset_allowed, place_allowed, segment_path_levels}
use Rattle.sizes.specs.Sizes.{entry_path_levels, segment_position, entry_position}
use Rattle.entries.specs.Entry.{entry_of}
use Rattle.record.specs.Form.{Fields, Parsed, parsed, broken, parse}

-- what a record is checked against: a deal's commitment, its size D and its number
pub record DealTerms : Type 0 where
  pub commitment : List ℕ
  pub size : ℕ
  pub number : ℕ

abbrev pub deal_terms : List ℕ → ℕ → ℕ → DealTerms
deal_terms commitment size number = record { commitment = commitment; size = size; number = number }

-- the entry that a record names, rebuilt from tags 1 to 3
abbrev pub entry_for : Fields → List ℕ
entry_for x = entry_of x.commitment x.offset x.size

-- where the segment path leads, and where the entry path leads from the node hash of the entry
abbrev pub segment_path_root : ℕ → Fields → List ℕ
segment_path_root d x = path_root (segment_path_levels d x.size) x.commitment (segment_position x.offset x.size)
    x.segment_path

abbrev pub entry_path_root : ℕ → Fields → List ℕ
entry_path_root d x = path_root (entry_path_levels d) (node_hash (entry_for x)) (entry_position x.place) x.entry_path

-- the paths have the numbers of nodes that the record table asks
abbrev pub paths_sized : ℕ → Fields → Bool
paths_sized d x = eqb (length x.segment_path) (32 * segment_path_levels d x.size) && eqb (length x.entry_path)
    (32 * entry_path_levels d)

-- no node of either path has stray bits
abbrev pub paths_clear : Fields → Bool
paths_clear x = no_stray_bits x.segment_path && no_stray_bits x.entry_path

abbrev pub well_formed : Parsed → Bool
well_formed (parsed x) = true
well_formed broken = false

-- the judgement over the fields
abbrev pub judgement : DealTerms → Parsed → List Rule
judgement terms broken = []
judgement terms (parsed x) =
    rule (eqb x.number terms.number) 21
    ∷ rule (segment_size_allowed terms.size x.size) 4
    ∷ rule (offset_allowed terms.size x.offset x.size) 5
    ∷ rule (place_allowed terms.size x.place) 6
    ∷ rule (paths_sized terms.size x) 7
    ∷ rule (clear_node x.commitment) 8
    ∷ rule (paths_clear x) 19
    ∷ rule (same_bytes (segment_path_root terms.size x) terms.commitment) 9
    ∷ rule (same_bytes (entry_path_root terms.size x) terms.commitment) 10
    ∷ []

-- the code of the check
unfoldable pub check_of : DealTerms → List ℕ → ℕ
check_of terms r =
    first_refusal
    (rule (eqb (length terms.commitment) 32) 1
    ∷ rule (deal_size_allowed terms.size) 2
    ∷ rule (well_formed (parse r)) 3
    ∷ judgement terms (parse r))
