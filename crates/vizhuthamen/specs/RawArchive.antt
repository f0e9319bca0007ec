-- A raw archive that is too long to be held (document 02, requests (i), (iii) and (iv)), part by part, as a caller
-- works on it with the functions of include/vizhuthamen.h.
use Rattle.std.specs.Prelude.{ℕ, ◌*◌, ◌^◌, List, replicate}
use Rattle.octets.specs.Splice.{part}
use Rattle.merkle.specs.NodeSource.{NodeSource}
use Rattle.merkle.specs.Commitment.{committed}
use Rattle.fr32.specs.Answers.{pad_output}

-- the raw bytes of part q of those of 2 ^ j blocks, 127 for each block; in the last part fewer, and none after it
abbrev pub raw_part : List ℕ → ℕ → ℕ → List ℕ
raw_part raw j q = part raw (127 * (q * 2 ^ j)) (127 * 2 ^ j)

-- vz_fr32_pad into zeros, 128 for each block: they stay where no raw bytes are left
abbrev pub filled_part : List ℕ → ℕ → ℕ → List ℕ
filled_part raw j q = pad_output (raw_part raw j q) (replicate (128 * 2 ^ j) 0)

-- vz_commitment of that: the nodes that vz_stream_take is given, one after the other
abbrev pub part_nodes : List ℕ → ℕ → NodeSource
part_nodes raw j level q = (committed (filled_part raw j q)).node
