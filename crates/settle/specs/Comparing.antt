-- What settling compares (document 01, "Booking, finding, building, settling": settle): the strings of two entry paths,
-- or of two segment paths, from one position.
use Rattle.std.specs.Prelude.{ℕ, List, [], ◌∷◌}
use Rattle.node.specs.Node.{node_hash}
use Rattle.paths.specs.Difference.{first_difference}
use Rattle.paths.specs.Compare.{compared, paths_compared}
use Rattle.paths.specs.declared.Compared.{Compared}
use Rattle.record.specs.Form.{Fields}
use Rattle.lent.specs.LentDeal.{LentDeal, deal_size}
use Rattle.settle.specs.Settle.{entry_strings, segment_strings, deal_entry_strings, deal_segment_strings}

-- the first difference of the strings of two entry paths, and below them the entries themselves
abbrev pub entries_compared : ℕ → List ℕ → List ℕ → List ℕ → List ℕ → Compared
entries_compared position e s f t = paths_compared position (node_hash e) s (e ∷ []) (node_hash f) t (f ∷ [])

-- the first difference of the strings of two segment paths
abbrev pub segments_compared : ℕ → List ℕ → List ℕ → List ℕ → List ℕ → Compared
segments_compared position x s y t = paths_compared position x s [] y t []

-- the first difference of a record's strings and a deal's, in the entry part and in the segment part
abbrev pub entry_with_deal : LentDeal → Fields → Compared
entry_with_deal deal x = compared (first_difference (entry_strings (deal_size deal) x) (deal_entry_strings deal x))

abbrev pub segment_with_deal : LentDeal → Fields → Compared
segment_with_deal deal x = compared (first_difference (segment_strings (deal_size deal) x) (deal_segment_strings deal x))
