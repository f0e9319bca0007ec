-- 2, 23 for either table, 12, 11, 12, then the ranges of the deal's slots and 20.
use Rattle.std.specs.Prelude.{option_map}
use Rattle.std.proofs.Common.{◌≡◌, sym, ◌∙◌, take, length, arith}
use Rattle.lent.specs.LentDeal.{lent_of}
use Rattle.room.specs.RoomLaws.{first_length}
use Rattle.houses.specs.HousesLaws.{sized_length}
use Rattle.collect.proofs.Gathered.{among, bounded, first_gathered, first_slots, first_test}
use Rattle.collect.proofs.Refused as R
use Rattle.collect.proofs.refusal.Goals as goal

pub returns-then-not-lent_size_allowed : goal.returns-then-not-lent_size_allowed
returns-then-not-lent_size_allowed c =
    let a = c.args in
    R.refused_2 a.deal.now a.table.now (lent_of a.second.now (option_map (λ t. t.now) a.tree)) a.second_table.now
    (sym c.lent_size_allowed.ensures ∙ c.if-not-lent_size_allowed.true)

pub returns-then-not-table_sized : goal.returns-then-not-table_sized
returns-then-not-table_sized c =
    let a = c.args in
    R.refused_23 a.deal.now a.table.now (lent_of a.second.now (option_map (λ t. t.now) a.tree)) a.second_table.now
    (sym c.lent_size_allowed.ensures ∙ c.if-not-lent_size_allowed.false)
    (sym c.table_sized.ensures ∙ c.if-not-table_sized.true)

pub returns-then-not-table_sized-2 : goal.returns-then-not-table_sized-2
returns-then-not-table_sized-2 c =
    let a = c.args in
    R.refused_second_23 a.deal.now a.table.now (lent_of a.second.now (option_map (λ t. t.now) a.tree)) a.second_table.now
    (sym c.lent_size_allowed.ensures ∙ c.if-not-lent_size_allowed.false)
    (sym c.table_sized.ensures ∙ c.if-not-table_sized.false)
    (sym c.table_sized-2.ensures ∙ c.if-not-table_sized-2.true)

pub returns-then-second-deal : goal.returns-then-second-deal
returns-then-second-deal c =
    let a = c.args in
    R.refused_12 a.deal.now a.table.now (lent_of a.second.now (option_map (λ t. t.now) a.tree)) a.second_table.now
    (sym c.lent_size_allowed.ensures ∙ c.if-not-lent_size_allowed.false)
    (sym c.table_sized.ensures ∙ c.if-not-table_sized.false)
    (sym c.table_sized-2.ensures ∙ c.if-not-table_sized-2.false) c.if-second-deal.true

pub returns-then-not-no_stray_bits : goal.returns-then-not-no_stray_bits
returns-then-not-no_stray_bits c =
    let a = c.args in
    R.refused_11 a.deal.now a.table.now (lent_of a.second.now (option_map (λ t. t.now) a.tree)) a.second_table.now
    (sym c.lent_size_allowed.ensures ∙ c.if-not-lent_size_allowed.false)
    (sym c.table_sized.ensures ∙ c.if-not-table_sized.false)
    (sym c.table_sized-2.ensures ∙ c.if-not-table_sized-2.false) c.if-second-deal.false
    (sym c.no_stray_bits.ensures ∙ c.if-not-no_stray_bits.true)

pub returns-then-not-tree_sized : goal.returns-then-not-tree_sized
returns-then-not-tree_sized c =
    let a = c.args in
    R.refused_tree a.deal.now a.table.now (lent_of a.second.now (option_map (λ t. t.now) a.tree)) a.second_table.now
    (sym c.lent_size_allowed.ensures ∙ c.if-not-lent_size_allowed.false)
    (sym c.table_sized.ensures ∙ c.if-not-table_sized.false)
    (sym c.table_sized-2.ensures ∙ c.if-not-table_sized-2.false) c.if-second-deal.false
    (sym c.no_stray_bits.ensures ∙ c.if-not-no_stray_bits.false)
    (sym c.tree_sized.ensures ∙ c.if-not-tree_sized.true)

-- the ranges are gathered
pub slice_bounds-ranges-end : goal.slice_bounds-ranges-end
slice_bounds-ranges-end c =
    let deal = c.args.deal.now in
    let table = c.args.table.now in
    let lent = sym c.lent_size_allowed.ensures ∙ c.if-not-lent_size_allowed.false in
    let slots_are = sized_length (length deal) table (sym c.table_sized.ensures ∙ c.if-not-table_sized.false) in
    let full : length c.gather-ranges.result ≡ 128 = omega arith in
    let within = among deal c.gather-ranges.result (length table) lent c.gather-ranges.ensures slots_are full in
    within

pub slice_bounds-none_overlaps-end : goal.slice_bounds-none_overlaps-end
slice_bounds-none_overlaps-end c =
    let deal = c.args.deal.now in
    let table = c.args.table.now in
    let lent = sym c.lent_size_allowed.ensures ∙ c.if-not-lent_size_allowed.false in
    let slots_are = sized_length (length deal) table (sym c.table_sized.ensures ∙ c.if-not-table_sized.false) in
    let full : length c.gather-ranges.result ≡ 128 = omega arith in
    let within = among deal c.gather-ranges.result (length table) lent c.gather-ranges.ensures slots_are full in
    sym (first_length (length table) c.gather-ranges.result within)

pub none_overlaps-requires : goal.none_overlaps-requires
none_overlaps-requires c =
    let deal = c.args.deal.now in
    let table = c.args.table.now in
    let ranges = c.gather-ranges.result in
    let full : length c.gather-ranges.result ≡ 128 = omega arith in
    let lent = sym c.lent_size_allowed.ensures ∙ c.if-not-lent_size_allowed.false in
    let slots_are = sized_length (length deal) table (sym c.table_sized.ensures ∙ c.if-not-table_sized.false) in
    bounded deal (take (length table) ranges) lent
    (first_gathered deal ranges (length table) lent c.gather-ranges.ensures slots_are full)
    (first_slots deal ranges (length table) lent c.gather-ranges.ensures slots_are full)

-- the test for 20, and the code by it
pub returns-then-not-none_overlaps : goal.returns-then-not-none_overlaps
returns-then-not-none_overlaps c =
    let a = c.args in
    let lent = sym c.lent_size_allowed.ensures ∙ c.if-not-lent_size_allowed.false in
    let table_fits = sym c.table_sized.ensures ∙ c.if-not-table_sized.false in
    let full : length c.gather-ranges.result ≡ 128 = omega arith in
    let test = c.none_overlaps.ensures
    ∙ first_test a.deal.now c.gather-ranges.result (length a.table.now) lent c.gather-ranges.ensures
    (sized_length (length a.deal.now) a.table.now table_fits) full in
    R.refused_20 a.deal.now a.table.now (lent_of a.second.now (option_map (λ t. t.now) a.tree)) a.second_table.now lent
    table_fits (sym c.table_sized-2.ensures ∙ c.if-not-table_sized-2.false) c.if-second-deal.false
    (sym c.no_stray_bits.ensures ∙ c.if-not-no_stray_bits.false)
    (sym c.tree_sized.ensures ∙ c.if-not-tree_sized.false) (sym test ∙ c.if-not-none_overlaps.true)

pub returns : goal.returns
returns c =
    let a = c.args in
    let lent = sym c.lent_size_allowed.ensures ∙ c.if-not-lent_size_allowed.false in
    let table_fits = sym c.table_sized.ensures ∙ c.if-not-table_sized.false in
    let full : length c.gather-ranges.result ≡ 128 = omega arith in
    let test = c.none_overlaps.ensures
    ∙ first_test a.deal.now c.gather-ranges.result (length a.table.now) lent c.gather-ranges.ensures
    (sized_length (length a.deal.now) a.table.now table_fits) full in
    R.not_refused a.deal.now a.table.now (lent_of a.second.now (option_map (λ t. t.now) a.tree)) a.second_table.now lent
    table_fits (sym c.table_sized-2.ensures ∙ c.if-not-table_sized-2.false) c.if-second-deal.false
    (sym c.no_stray_bits.ensures ∙ c.if-not-no_stray_bits.false)
    (sym c.tree_sized.ensures ∙ c.if-not-tree_sized.false) (sym test ∙ c.if-not-none_overlaps.false)
