-- Request (vii): the forms that take the tree beside the deal, and the plain forms (document 02: "Filling it, and
-- booking with it in hand, which also brings it up to date, must leave exactly the nodes of the definition. .. Records
-- built from it equal those of the plain way"). The premise is the state `FilledFor deal tree`: the buffer holds the
-- inner nodes of this deal; the paper's history gives it (TreeHistoryLaws.history_filled). With any other buffer the
-- routines still answer: that is their own promise, an equation for every buffer over `tree_deal deal tree`, whose
-- nodes are those that stand in the buffer.
use Rattle.std.specs.Prelude.{◌≡◌, refl, Bool, true, false, ◌≢◌, ℕ, ◌-◌, ◌<◌, List, length, leb}
use Rattle.std.proofs.Common.{sym, ap, ◌∙◌, subst, arith}
use Rattle.rules.specs.Choice.{choose}
use Rattle.octets.specs.Splice.{part, splice}
use Rattle.merkle.specs.Tree.{commitment_of}
use Rattle.merkle.specs.TreeLaws.{top_node}
use Rattle.stray.specs.StrayBits.{no_stray_bits}
use Rattle.sizes.specs.Sizes.{lent_size_allowed, deal_level}
use Rattle.sizes.specs.SizesLaws.{lent_size}
use Rattle.tree.specs.TreeNodes.{SizedFor, FilledFor}
use Rattle.tree.specs.TreeNodesLaws.{test_of_sized, node_of_buffer, filled_node, filled_once}
use Rattle.tree.specs.Place.{node_place}
use Rattle.tree.specs.PlaceLaws.{node_in_tree, root_place}
use Rattle.tree.specs.FilledLaws.{filled_filled}
use Rattle.lent.specs.LentDeal.{LentDeal, lent_deal, tree_deal, deal_refusal}
use Rattle.lent.specs.LentDealLaws.{none_refusal, usable}
use Rattle.lent.specs.UsableLaws.{usable_power}
use Rattle.lent.specs.FilledTree.{filled_tree}
use Rattle.lent.specs.FilledTreeLaws.{is_filled, not_filled}
use Rattle.booking.specs.Booking.{book_answer, booked_deal, booked_table}
use Rattle.booking.specs.BookedTree.{booked_tree}
use Rattle.booking.proofs.BookingLaws.{refused_same, refused_table}
use Rattle.booking.proofs.BookedTreeLaws.{refused_tree}
use Rattle.booking.proofs.TreeBookingLaws.{same_answer_lem, same_deal, same_table, booked_filled}
use Rattle.cancel.specs.Cancel.{cancel_code, cancelled_deal, cancelled_table, cancelled_tree}
use Rattle.cancel.proofs.CancelLaws as D
use Rattle.cancel.proofs.OwnerCancelLaws as O
use Rattle.cancel.proofs.TreeCancelLaws as C
use Rattle.collect.specs.Collect.{collect_code, second_deal, second_owners, second_tree}
use Rattle.collect.specs.AnswerLaws.{deal_left, owners_left, tree_left}
use Rattle.collect.proofs.TreeCollectLaws as T
use Rattle.builder.specs.Build.{BuildAnswer}
use Rattle.builder.specs.Build.{Building, built, not_built, record_at, answer_for, output_for, build_answer}
use Rattle.builder.specs.Build.{build_output}
use Rattle.builder.specs.TreeBuildLaws.{filled_answer, filled_output}
use Rattle.settle.specs.Settle.{settle_with_deal}
use Rattle.settle.specs.TreeSettleLaws.{filled_settled}

-- For a deal that gets neither 2 nor 11, filling any buffer of D - 32 bytes answers 0, ..
pub any_buffer_fills : (deal buffer : List ℕ) → lent_size_allowed (length deal) ≡ true → no_stray_bits deal ≡ true
    → SizedFor deal buffer → deal_refusal (tree_deal deal buffer) ≡ 0
any_buffer_fills deal buffer l c s =
    none_refusal (tree_deal deal buffer) l c (test_of_sized deal buffer (omega arith) s)

-- .. and where it answers 0 it leaves exactly the nodes of the definition, whatever the buffer held, ..
pub filling_leaves_the_nodes : (deal buffer : List ℕ) → deal_refusal (tree_deal deal buffer) ≡ 0
    → FilledFor deal (filled_tree deal buffer)
filling_leaves_the_nodes deal buffer e =
    subst (FilledFor deal) (sym (is_filled deal buffer e))
    (filled_filled deal (deal_level (length deal)) (usable_power (usable (tree_deal deal buffer) e)))

-- .. and nothing else: one buffer alone holds them.
pub one_tree : (deal x y : List ℕ) → lent_size_allowed (length deal) ≡ true → FilledFor deal x → FilledFor deal y
    → x ≡ y
one_tree deal x y l = filled_once deal x y (deal_level (length deal)) (lent_size (length deal) l).deal.is_power_lem

-- The buffer holds the inner nodes of this deal.
module _ (deal tree : List ℕ) (f : FilledFor deal tree) where
  -- The deal's commitment stands in the last 32 of the D - 32 bytes.
  pub commitment_stands_last : lent_size_allowed (length deal) ≡ true
      → part tree (length deal - 64) 32 ≡ commitment_of (deal_level (length deal)) deal
  commitment_stands_last l =
      let top = deal_level (length deal) in
      let s = (lent_size (length deal) l).deal in
      let e = s.is_power_lem in
      let up : 0 < top = omega (arith, s.level_low) in
      let at : length deal - 64 ≡ node_place (length deal) top 0 = omega (arith, root_place (length deal) top up e) in
      ap (λ (n : ℕ). part tree n 32) at
      ∙ sym (node_of_buffer deal tree top 0 up)
      ∙ filled_node deal tree f top 0 (node_in_tree (length deal) top 0 top 0 e (omega arith) (omega arith))
      ∙ top_node deal top e

  module _ (table : List ℕ) (house : ℕ) where
    -- Booking with the tree: answer, deal and table of the plain form; the tree holds the nodes of the deal as it then
    -- is.
    module _ (segment : List ℕ) where
      pub same_booking :
          book_answer (tree_deal deal tree) table house segment ≡ book_answer (lent_deal deal) table house segment
      same_booking = same_answer_lem deal tree f table house segment

      pub same_booked_deal :
          booked_deal (tree_deal deal tree) table house segment ≡ booked_deal (lent_deal deal) table house segment
      same_booked_deal = same_deal deal tree f table house segment

      pub same_booked_table :
          booked_table (tree_deal deal tree) table house segment ≡ booked_table (lent_deal deal) table house segment
      same_booked_table = same_table deal tree f table house segment

      pub booking_leaves_the_nodes :
          FilledFor (booked_deal (tree_deal deal tree) table house segment) (booked_tree deal tree table house segment)
      booking_leaves_the_nodes = booked_filled deal tree f table house segment

    -- Cancelling with the tree: code, deal and table of the plain form; the tree holds the nodes of the deal as it then
    -- is.
    module _ (place : ℕ) where
      pub same_cancelling :
          cancel_code (tree_deal deal tree) table house place ≡ cancel_code (lent_deal deal) table house place
      same_cancelling = C.same_code deal tree f table house place

      pub same_cancelled_deal :
          cancelled_deal (tree_deal deal tree) table house place ≡ cancelled_deal (lent_deal deal) table house place
      same_cancelled_deal = C.same_deal deal tree f table house place

      pub same_cancelled_table :
          cancelled_table (tree_deal deal tree) table house place ≡ cancelled_table (lent_deal deal) table house place
      same_cancelled_table = C.same_table deal tree f table house place

      pub cancelling_leaves_the_nodes :
          FilledFor (cancelled_deal (tree_deal deal tree) table house place)
          (cancelled_tree deal tree table house place)
      cancelling_leaves_the_nodes = C.cancelled_filled deal tree f table house place

  -- Building with the tree: answer and output of the plain form, for every deal number.
  module _ (number place : ℕ) (out : List ℕ) where
    pub same_building : build_answer (tree_deal deal tree) number place out
        ≡ build_answer (lent_deal deal) number place out
    same_building = filled_answer deal tree f number place out

    pub same_output : build_output (tree_deal deal tree) number place out
        ≡ build_output (lent_deal deal) number place out
    same_output = filled_output deal tree f number place out

  -- Settling with the deal and the tree: the answer of the plain form.
  pub same_settling : (number : ℕ) (r : List ℕ)
      → settle_with_deal (tree_deal deal tree) number r ≡ settle_with_deal (lent_deal deal) number r
  same_settling = filled_settled deal tree f

-- Collection with a tree beside the second deal, of the length that this asks, whatever it holds: code, second deal and
-- second table of the plain form.
module _ (deal table second tree second_table : List ℕ) where
  module _ (s : SizedFor second tree) where
    pub same_collecting : collect_code deal table (tree_deal second tree) second_table
        ≡ collect_code deal table (lent_deal second) second_table
    same_collecting = T.same_code deal table second tree second_table (test_of_sized second tree (omega arith) s)

    pub same_second_deal : second_deal deal table (tree_deal second tree) second_table
        ≡ second_deal deal table (lent_deal second) second_table
    same_second_deal = T.same_deal deal table second tree second_table (test_of_sized second tree (omega arith) s)

    pub same_second_table : second_owners deal table (tree_deal second tree) second_table
        ≡ second_owners deal table (lent_deal second) second_table
    same_second_table = T.same_owners deal table second tree second_table (test_of_sized second tree (omega arith) s)

  -- With code 0 the tree then holds the nodes of the second deal.
  pub collecting_leaves_the_nodes : collect_code deal table (tree_deal second tree) second_table ≡ 0
      → FilledFor (second_deal deal table (tree_deal second tree) second_table)
      (second_tree deal table second tree second_table)
  collecting_leaves_the_nodes = T.collected_filled deal table second tree second_table

-- Refusals change nothing, whatever the buffer holds: filling leaves the tree, ..
pub refused_filling : (deal tree : List ℕ) → deal_refusal (tree_deal deal tree) ≢ 0 → filled_tree deal tree ≡ tree
refused_filling = not_filled

-- .. booking leaves deal, tree and table, ..
pub refused_booking : (deal tree table : List ℕ) (house : ℕ) (segment : List ℕ)
    → (book_answer (tree_deal deal tree) table house segment).code ≢ 0
    → (booked_deal (tree_deal deal tree) table house segment ≡ deal)
    × (booked_tree deal tree table house segment ≡ tree)
    × (booked_table (tree_deal deal tree) table house segment ≡ table)
refused_booking deal tree table house segment h = (
  refused_same (tree_deal deal tree) table house segment h,
  refused_tree deal tree table house segment h,
  refused_table (tree_deal deal tree) table house segment h,
)

-- .. cancelling does so, ..
pub refused_cancelling : (deal tree table : List ℕ) (house place : ℕ)
    → cancel_code (tree_deal deal tree) table house place ≢ 0
    → (cancelled_deal (tree_deal deal tree) table house place ≡ deal)
    × (cancelled_tree deal tree table house place ≡ tree)
    × (cancelled_table (tree_deal deal tree) table house place ≡ table)
refused_cancelling deal tree table house place h = (
  D.refused_same (tree_deal deal tree) table house place h,
  C.refused_tree deal tree table house place h,
  O.refused_table (tree_deal deal tree) table house place h,
)

-- .. collection leaves the second deal, the tree beside it and the second table, ..
pub refused_collecting : (deal table second tree second_table : List ℕ)
    → collect_code deal table (tree_deal second tree) second_table ≢ 0
    → (second_deal deal table (tree_deal second tree) second_table ≡ second)
    × (second_tree deal table second tree second_table ≡ tree)
    × (second_owners deal table (tree_deal second tree) second_table ≡ second_table)
refused_collecting deal table second tree second_table h = (
  deal_left deal table (tree_deal second tree) second_table h,
  tree_left deal table second tree second_table h,
  owners_left deal table (tree_deal second tree) second_table h,
)

not_written : (x : Building) (out : List ℕ) → (answer_for x out).code ≢ 0 → output_for x out ≡ out
not_written (not_built code) out h = refl
not_written (built r) out h = go (leb (length r) (length out)) h
  where
    go : (b : Bool)
        → let answer : BuildAnswer =
        choose b (record { code = 0; length = length r }) (record { code = 12; length = 0 }) in
        answer.code ≢ 0 → choose b (splice out 0 r) out ≡ out
    go true k = absurd (k refl)
    go false k = refl

-- .. and building leaves the output, with the tree and without.
pub refused_building : (deal : LentDeal) (number place : ℕ) (out : List ℕ)
    → (build_answer deal number place out).code ≢ 0 → build_output deal number place out ≡ out
unfolding build_answer build_output
refused_building deal number place out h = not_written (record_at deal number place) out h
