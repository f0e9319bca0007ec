-- The parts of a line's content by their places in the log.
use Rattle.std.specs.Prelude.{◌≡◌, ℕ, ◌+◌, ◌≤◌, ◌<◌, List, length, get_or}
use Rattle.std.proofs.Common.{ap, ◌∙◌, arith, add-zero}
use Rattle.octets.specs.LittleEndian.{number_of}
use Rattle.octets.specs.Splice.{part}
use Rattle.octets.specs.SpliceLaws.{get_d_part, part_part}
use Rattle.clerk_log.specs.Log.{booking_in, cancelling_in}

module _ (log : List ℕ) (start : ℕ) where
  -- the first byte of a content
  head_read : (n : ℕ) → 0 < n → get_or (part log start n) 0 0 ≡ get_or log start 0
  head_read n h = get_d_part log start n 0 h ∙ ap (λ (i : ℕ). get_or log i 0) (add-zero start)

  pub booking_read : start + 58 ≤ length log
      → booking_in (part log start 58) ≡ record {
        house = get_or log start 0;
        commitment = part log (start + 1) 32;
        size = number_of (part log (start + 33) 8);
        answer = record {
          code = get_or log (start + 41) 0;
          offset = number_of (part log (start + 42) 8);
          place = number_of (part log (start + 50) 8);
        };
      }
  booking_read h =
      rw (
        head_read 58 (omega arith),
        part_part log start 58 1 32 (omega arith) h,
        part_part log start 58 33 8 (omega arith) h,
        get_d_part log start 58 41 (omega arith),
        part_part log start 58 42 8 (omega arith) h,
        part_part log start 58 50 8 (omega arith) h,
      )

  pub cancelling_read : start + 10 ≤ length log
      → cancelling_in (part log start 10) ≡ record {
        house = get_or log start 0;
        place = number_of (part log (start + 1) 8);
        code = get_or log (start + 9) 0;
      }
  cancelling_read h =
      rw (
        head_read 10 (omega arith),
        part_part log start 10 1 8 (omega arith) h,
        get_d_part log start 10 9 (omega arith),
      )
