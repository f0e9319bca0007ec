-- Every state that is reached from a new start fits into its bytes, so that handing on the bytes is handing on the
-- state.
use Rattle.std.specs.Prelude.{◌≡◌, refl, List, ℕ}
use Rattle.std.proofs.Common.{sym, ap, subst, arith}
use Rattle.stream.specs.Stream.{failed_with, take_piece}
use Rattle.stream.specs.Packed.{packed, packed_take}
use Rattle.stream.specs.PackedLaws.{Packable, unpack_packed}
use Rattle.stream.specs.After.{After, runs, stray_node, too_long}
use Rattle.stream.specs.declared.Stream.{Stream}

failed_packable : (code : ℕ) (s : Stream) → s ≡ failed_with code → Packable s
failed_packable code s e =
    subst Packable (sym e) (record { count_8 = omega arith; partial_sized = refl; waiting_sized = refl })

pub packable : (bytes : List ℕ) (s : Stream) → After bytes s → Packable s
packable bytes s (runs r) =
    record {
      count_8 = omega (arith, r.counts, r.allowed);
      partial_sized = r.partial_sized;
      waiting_sized = r.waiting_sized;
    }
packable bytes s (stray_node x) = failed_packable 11 s x.state_is
packable bytes s (too_long x) = failed_packable 2 s x.state_is

pub packed_take_lem : (bytes : List ℕ) (s : Stream) → After bytes s → (piece : List ℕ)
    → packed_take (packed s) piece ≡ packed (take_piece s piece)
packed_take_lem bytes s a piece =
    ap (λ (t : Stream). packed (take_piece t piece)) (unpack_packed s (packable bytes s a))
