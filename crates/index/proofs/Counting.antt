-- The three counts of a tally, slot by slot.
use mathlib.Core.Path.{◌≡◌, sym, ap, ◌∙◌}
use mathlib.Core.Bool.{Bool}
use mathlib.Core.List.{List}
use Prim.Native.Nat.{ℕ, ◌+◌, ◌-◌, ◌≤◌, ◌<◌}
use native.Mathlib.Omega.{arith}
use lib.ListN.{length, take, drop}
use lib.Dec.{eqb}
use Rattle.rules.specs.Search.{one, count}
use Rattle.rules.specs.SearchLaws.{count_start, count_turn, count_over}
use Rattle.octets.specs.Splice.{part}
use Rattle.octets.specs.SpliceLaws.{part_range}
use Rattle.sizes.specs.Sizes.{entry_count, slot_place}
use Rattle.entries.specs.Entry.{kind_of, kind_number, is_kind}
use Rattle.entries.specs.declared.EntryKind.{EntryKind}
use Rattle.entries.specs.declared.EntryKind.TheVariants.{Blank, Damaged, Valid}
use Rattle.index.specs.Slots.{slot_at}
use Rattle.index.specs.Tally.{count_of, counts_of}

-- whether slot i is of a kind
abbrev of_kind : EntryKind → List ℕ → ℕ → Bool
of_kind kind deal i = is_kind kind (slot_at deal i)

-- m slots of a kind below i were counted; with those from i on they are all of the first n
abbrev pub Counted : EntryKind → List ℕ → ℕ → ℕ → ℕ → Type 0
Counted kind deal n i m = (m ≤ i) × (m + count (of_kind kind deal) i (n - i) ≡ count (of_kind kind deal) 0 n)

module _ (kind : EntryKind) (deal : List ℕ) (n : ℕ) where
  counted_turn : (i m m' : ℕ) (read : EntryKind) → read ≡ kind_of (slot_at deal i) → i < n → Counted kind deal n i m
      → m' ≡ m + one (eqb (kind_number read) (kind_number kind))
      → Counted kind deal n (i + 1) m'
  unfolding is_kind
  counted_turn i m m' read e h inv q =
      let s : m' ≡ m + one (of_kind kind deal i) =
      q ∙ ap (λ (k : EntryKind). m + one (eqb (kind_number k) (kind_number kind))) e in
      let t = count_turn (of_kind kind deal) n i m m' h inv.0 s inv.1 in
      (t.1, t.2)

  counted_over : (i m : ℕ) → n ≤ i → n ≡ entry_count (length deal) → Counted kind deal n i m → m ≡ count_of kind deal
  unfolding count_of
  counted_over i m h e inv = sym (count_over (of_kind kind deal) n i m h) ∙ inv.1 ∙ ap (count (of_kind kind deal) 0) e

-- the invariant: the slots below i were counted, each by its kind
abbrev pub Counting : List ℕ → ℕ → ℕ → ℕ → ℕ → ℕ → Type 0
Counting deal n i blank damaged valid =
    (i ≤ n)
    × (Counted Blank deal n i blank
    × (Counted Damaged deal n i damaged
    × Counted Valid deal n i valid))

-- the bytes of slot i as they are lent
pub slot_is : (deal : List ℕ) (i place : ℕ) → place ≡ slot_place (length deal) i
    → take (place + 64 - place) (drop place deal) ≡ slot_at deal i
slot_is deal i place e = part_range deal place 64 ∙ ap (λ (at : ℕ). part deal at 64) e

module _ (deal : List ℕ) (n : ℕ) where
  pub counting_start : Counting deal n 0 0 0 0
  counting_start =
      let start : (kind : EntryKind) → Counted kind deal n 0 0 =
      λ kind. (omega arith, count_start (of_kind kind deal) n) in
      (omega arith, (start Blank, (start Damaged, start Valid)))

  -- a turn at slot i, whose kind was read: its count is one more
  pub counting_turn : (i blank damaged valid blank' damaged' valid' : ℕ) (read : EntryKind) → i < n
      → Counting deal n i blank damaged valid → read ≡ kind_of (slot_at deal i)
      → blank' ≡ blank + one (eqb (kind_number read) 0)
      → damaged' ≡ damaged + one (eqb (kind_number read) 1)
      → valid' ≡ valid + one (eqb (kind_number read) 2)
      → Counting deal n (i + 1) blank' damaged' valid'
  counting_turn i blank damaged valid blank' damaged' valid' read h inv e b d v =
      let blanks = counted_turn Blank deal n i blank blank' read e h inv.1.0 b in
      let damages = counted_turn Damaged deal n i damaged damaged' read e h inv.1.1.0 d in
      let valids = counted_turn Valid deal n i valid valid' read e h inv.1.1.1 v in
      (omega arith, (blanks, (damages, valids)))

  pub counting_over : (i blank damaged valid : ℕ) → n ≤ i → n ≡ entry_count (length deal)
      → Counting deal n i blank damaged valid
      → record { code = 0; blank = blank; damaged = damaged; valid = valid } ≡ counts_of deal
  counting_over i blank damaged valid h e inv =
      rw (
        counted_over Blank deal n i blank h e inv.1.0,
        counted_over Damaged deal n i damaged h e inv.1.1.0,
        counted_over Valid deal n i valid h e inv.1.1.1,
      )
