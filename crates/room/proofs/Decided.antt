-- What is decided, by the quota and the searches on the way.
use mathlib.Core.Path.{◌≡◌, sym}
use mathlib.Core.Bool.{false}
use Prim.Native.Nat.{ℕ, ◌*◌, ◌≤◌, ◌<◌}
use borrow.Author.Tests.{le-leb, lt-leb}
use Rattle.std.proofs.Common.{Option}
use Rattle.std.proofs.Common.{Some, None}
use Rattle.sizes.specs.Sizes.{entry_count, index_start}
use Rattle.room.specs.Room.{Range, lowest_free_slot, lowest_place}
use Rattle.room.specs.Decide.{holds_half, decide}
use Rattle.room.specs.Decide.{Refuse, Already, Place}

module _ (d : ℕ) (ranges : ℕ → Range) (held n : ℕ) (keeping : Option ℕ) where
  pub is_kept_lem : (i : ℕ) → keeping ≡ Some i → Already i ≡ decide d ranges held n keeping
  unfolding decide
  is_kept_lem i k = rw k

  module _ (k : keeping ≡ None) (slots : ℕ) (c : slots ≡ entry_count d) where
    pub half_held : slots ≤ 2 * held → Refuse 22 ≡ decide d ranges held n keeping
    unfolding decide
    half_held h = rw (k, sym c, le-leb slots (2 * held) h)

    module _ (few : 2 * held < slots) where
      quota : holds_half slots held ≡ false
      quota = lt-leb slots (2 * held) few

      pub no_slot : lowest_free_slot ranges slots ≡ None → Refuse 13 ≡ decide d ranges held n keeping
      unfolding decide
      no_slot s = rw (k, sym c, quota, s)

      module _ (i : ℕ) (s : lowest_free_slot ranges slots ≡ Some i) (limit : ℕ) (l : limit ≡ index_start d) where
        pub no_place : lowest_place ranges slots n limit ≡ None → Refuse 14 ≡ decide d ranges held n keeping
        unfolding decide
        no_place p = rw (k, sym c, sym l, quota, s, p)

        pub is_placed : (q : ℕ) → lowest_place ranges slots n limit ≡ Some q
            → Place i (q * n) ≡ decide d ranges held n keeping
        unfolding decide
        is_placed q p = rw (k, sym c, sym l, quota, s, p)
