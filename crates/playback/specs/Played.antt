-- The answers that the results of playing a log back stand for.
use Rattle.std.specs.Prelude.{Result, Ok, Err}
use Rattle.rules.specs.Answers.{number}
use Rattle.playback.specs.Playback.{Playback, Code, LineNumber, code_alone, says, no_rows}
use Rattle.playback.specs.declared.Standing.{Standing}
use Rattle.playback.specs.declared.NotPlayed.{NotPlayed}
use Rattle.playback.specs.declared.NotPlayed.TheVariants.{Refused, Line}

-- 0 with the rows that stand
abbrev pub with_standing : Standing → Playback
with_standing s = record { verdict = Code 0; ruling = code_alone 0; count = s.count; rows = s.rows }

-- a code alone, or a line's number with what the rules give for it
abbrev pub without : NotPlayed → Playback
without (Refused refusal) = says (Code (number refusal))
without (Line number ruling) = no_rows (LineNumber number) ruling

abbrev pub played : Result Standing NotPlayed → Playback
played (Ok standing) = with_standing standing
played (Err reason) = without reason
