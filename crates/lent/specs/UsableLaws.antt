-- Where the nodes of a lent deal may be looked up.
use Rattle.std.specs.Prelude.{◌≡◌, Bool, true, ℕ, ◌+◌, ◌-◌, ◌*◌, ◌^◌, ◌≤◌, ◌<◌, List, length, eqb, Option, Some, None, option_map}
use Rattle.std.proofs.Common.{refl, sym, ap, ap₂, ◌∙◌, le_trans, le_of_eq, arith}
use Rattle.merkle.specs.TreeLaws.{within, node_at_length}
use Rattle.sizes.specs.Sizes.{lent_size_allowed, deal_level}
use Rattle.sizes.specs.SizesLaws.{LentSize, lent_size}
use Rattle.paths.specs.Start.{PathStart, InTree}
use Rattle.paths.specs.NodesSized.{NodesSized}
use Rattle.tree.specs.Place.{NodeInTree}
use Rattle.tree.specs.TreeNodes.{SizedFor}
use Rattle.tree.specs.TreeNodesLaws.{sized_of_test, node_length}
use Rattle.lent.specs.LentDeal.{LentDeal, deal_size, lent_of, tree_fits, tree_deal}
use Rattle.lent.specs.Usable.{Usable}

module _ {deal : LentDeal} (u : Usable deal) where
  pub usable_size : LentSize (deal_size deal)
  usable_size = lent_size (deal_size deal) u.size_allowed

  pub usable_power : deal_size deal ≡ 32 * 2 ^ deal_level (deal_size deal)
  usable_power = usable_size.deal.is_power_lem

  -- a node of the deal's tree
  module _ (start : PathStart) (w : InTree (deal_level (deal_size deal)) start) where
    sized : deal_size deal ≡ 32 * 2 ^ (start.level + start.levels)
    sized = usable_power ∙ ap (λ (n : ℕ). 32 * 2 ^ n) (sym w.up)

    pub node_in_tree : NodeInTree (deal_size deal) start.level start.position
    node_in_tree =
        let h : start.position < 2 ^ start.levels = w.among in
        record { levels = start.levels; sized = sized; inside = omega arith }

    pub node_level : start.level < 32
    node_level =
        let e : start.level + start.levels ≡ deal_level (deal_size deal) = w.up in
        let l : deal_level (deal_size deal) ≤ 19 = usable_size.lent_level in
        omega arith

    pub node_room : (start.position + 1) * (32 * 2 ^ start.level) ≤ deal_size deal
    node_room = le_trans (within start.levels start.level start.position w.among) (le_of_eq (sym sized))

-- the tree beside a deal that may be looked up
pub tree_sized_lem : (bytes tree : List ℕ) → Usable (tree_deal bytes tree) → SizedFor bytes tree
tree_sized_lem bytes tree u =
    let l : 512 ≤ length bytes = (usable_size u).deal.size_low in
    sized_of_test bytes tree (omega arith) u.tree_sized_lem

-- whether a tree of a length fits
abbrev fits_by : ℕ → Option ℕ → Bool
fits_by size (Some n) = eqb n (size - 32)
fits_by size None = true

fits_by_length : (size : ℕ) (tree : Option (List ℕ)) → tree_fits size tree ≡ fits_by size (option_map length tree)
fits_by_length size (Some tree) = refl
fits_by_length size None = refl

-- only the two lengths are asked, with a tree or without one
pub usable_same : (bytes : List ℕ) (tree : Option (List ℕ)) (new_bytes : List ℕ) (new_tree : Option (List ℕ))
    → length new_bytes ≡ length bytes → option_map length new_tree ≡ option_map length tree
    → Usable (lent_of bytes tree) → Usable (lent_of new_bytes new_tree)
usable_same bytes tree new_bytes new_tree e f u =
    record {
      size_allowed = ap lent_size_allowed e ∙ u.size_allowed;
      tree_sized_lem = fits_by_length (length new_bytes) new_tree
          ∙ ap₂ fits_by e f
          ∙ sym (fits_by_length (length bytes) tree)
          ∙ u.tree_sized_lem;
    }

-- every node has 32 bytes, with a tree as it stands or without one
pub nodes_sized : (bytes : List ℕ) (tree : Option (List ℕ)) → Usable (lent_of bytes tree)
    → NodesSized (lent_of bytes tree).nodes (deal_level (length bytes))
nodes_sized bytes (Some tree) u =
    record {
      sized = λ start w. node_length bytes tree (tree_sized_lem bytes tree u) start.level start.position
          (node_in_tree u start w);
    }
nodes_sized bytes None u =
    record { sized = λ start w. node_at_length start.level start.position bytes (node_room u start w) }
