-- The state as bytes, for a program in another language to keep: count, 8 bytes; code, 1; seven zeros; the partial
-- node, 32; the waiting nodes, 1,024.
use Rattle.std.specs.Prelude.{ℕ, List, ◌∷◌, ◌++◌, get_or, replicate}
use Rattle.octets.specs.LittleEndian.{number_of, bytes_of}
use Rattle.octets.specs.Splice.{part}
use Rattle.stream.specs.Stream.{Streamed, started, take_piece, ending}
use Rattle.stream.specs.declared.Stream.{Stream}

abbrev pub packed_length : ℕ
packed_length = 1072

unfoldable pub packed : Stream → List ℕ
packed s = bytes_of 8 s.count ++ ((s.code ∷ replicate 7 0) ++ (s.partial ++ s.waiting))

-- any bytes are a state; the seven that are zero in a packed one are not looked at
unfoldable pub unpacked : List ℕ → Stream
unpacked bytes =
    record {
      code = get_or bytes 8 0;
      count = number_of (part bytes 0 8);
      partial = part bytes 16 32;
      waiting = part bytes 48 1024;
    }

-- the bytes of a new start, the bytes after one more piece, and the answer at the end
abbrev pub packed_start : List ℕ
packed_start = packed started

abbrev pub packed_take : List ℕ → List ℕ → List ℕ
packed_take bytes piece = packed (take_piece (unpacked bytes) piece)

abbrev pub packed_end : List ℕ → Streamed
packed_end bytes = ending (unpacked bytes)
