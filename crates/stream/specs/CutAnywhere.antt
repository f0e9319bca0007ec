-- Document 02, request (i): from a new start, with each state handed on as it came back, and however the bytes were
-- cut, the answer is that of the definition over all of them. (Over the bytes that a caller in another language keeps:
-- `calls_cut_anywhere` in crates/vizhuthamen/specs/CallsCutAnywhere.antt.)
use Rattle.std.specs.Prelude.{◌≡◌, List, ℕ}
use Rattle.stream.specs.Stream.{streamed, started, ending, take_pieces, together}
use Rattle.stream.specs.AfterLaws.{after_pieces}
use Rattle.stream.specs.EndLaws.{end_after}

pub cut_anywhere : (pieces : List (List ℕ)) → ending (take_pieces started pieces) ≡ streamed (together pieces)
cut_anywhere pieces = end_after (together pieces) (take_pieces started pieces) (after_pieces pieces)
