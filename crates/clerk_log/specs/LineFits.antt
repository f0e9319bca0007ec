-- Lines that fit the bytes of a log.
use Rattle.std.specs.Prelude.{◌≡◌, true, ℕ, ◌^◌, ◌<◌, List, [], ◌∷◌, length}
use Rattle.clerk_log.specs.Log.{line_allowed}
use Rattle.clerk_log.specs.declared.Line.{Line}
use Rattle.clerk_log.specs.declared.Line.TheVariants.{Booking as booking, Cancelling as cancelling}
use Rattle.clerk_log.specs.declared.BookingLine.{BookingLine}

-- the commitment has 32 bytes, and each number fits its 8
pub record BookingFits (line : BookingLine) : Type 0 where
  pub commitment_fits : length line.commitment ≡ 32
  pub size_fits : line.size < 2 ^ 64
  pub offset_fits : line.answer.offset < 2 ^ 64
  pub place_fits : line.answer.place < 2 ^ 64

abbrev pub LineFits : Line → Type 0
LineFits (booking line) = BookingFits line
LineFits (cancelling line) = line.place < 2 ^ 64

-- lines that may stand in the log of a deal of d bytes
abbrev pub AllFit : ℕ → List Line → Type 0
AllFit d [] = Unit {0}
AllFit d (line ∷ later) = (line_allowed d line ≡ true) × LineFits line × AllFit d later
