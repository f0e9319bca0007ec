-- What vz_playback answers, and what it writes to lent outputs.
use Rattle.std.specs.Prelude.{ℕ, List}
use Rattle.playback.specs.Playback.{Verdict}
use Rattle.playback.specs.Playback.{Code, LineNumber}
use Rattle.playback.specs.Playback.{playback}
use Rattle.vizhuthamen.specs.Export.{lent_code}

-- a code is answered as it is, and a line as 256, past all codes, so that line 3 is told apart from code 3
abbrev pub verdict_number : Verdict → ℕ
verdict_number (Code code) = code
verdict_number (LineNumber number) = 256

-- the line's number; 0 where a code is answered
abbrev pub verdict_line : Verdict → ℕ
verdict_line (Code code) = 0
verdict_line (LineNumber number) = number

-- 12, before all else, where the output for rows has not the length of all of them
abbrev pub playback_code : ℕ → List ℕ → List ℕ → ℕ
playback_code size log rows = lent_code 7296 rows (verdict_number (playback size log).verdict)
