-- Fr32 padding (document 02, request (iv)): raw bytes are read as one little-endian number, and each node of 32 bytes
-- takes the next 254 bits of it; its two high bits are zero.
use Rattle.std.specs.Prelude.{ℕ, zero, suc, ◌+◌, ◌*◌, ◌/◌, ◌%◌, ◌^◌, Bool, ◌&&◌, List, [], ◌++◌, length, take, drop}
use Rattle.std.specs.Prelude.{nat_le, nat_lt}
use Rattle.octets.specs.LittleEndian.{number_of, bytes_of}
use Rattle.stray.specs.StrayBits.{no_stray_bits}

-- from one byte to those whose segment fills 2^23 bytes
abbrev pub raw_length_allowed : ℕ → Bool
raw_length_allowed n = nat_le 1 n && nat_le n 8323072

-- the bytes of a segment: raw × 128 / 127, rounded up
abbrev pub segment_length : ℕ → ℕ
segment_length n = (n * 128 + 126) / 127

-- its nodes, of which the last may be cut short
abbrev pub segment_nodes : ℕ → ℕ
segment_nodes n = (segment_length n + 31) / 32

-- m nodes for a number: 254 bits for each, the lowest first
unfoldable pub nodes_of : ℕ → ℕ → List ℕ
nodes_of zero v = []
nodes_of (suc m) v = bytes_of 32 (v % 2 ^ 254) ++ nodes_of m (v / 2 ^ 254)

-- the number in m nodes
unfoldable pub data_of : ℕ → List ℕ → ℕ
data_of zero nodes = 0
data_of (suc m) nodes = number_of (take 32 nodes) % 2 ^ 254 + 2 ^ 254 * data_of m (drop 32 nodes)

-- the segment of raw bytes
unfoldable pub padded : List ℕ → List ℕ
padded raw = take (segment_length (length raw)) (nodes_of (segment_nodes (length raw)) (number_of raw))

-- the n raw bytes in a segment
unfoldable pub unpadded : ℕ → List ℕ → List ℕ
unpadded n segment = bytes_of n (data_of (segment_nodes n) segment)

-- a segment without other bits than those of n raw bytes: no stray bits in whole nodes, and zeros past the last raw bit
unfoldable pub only_raw_bits : ℕ → List ℕ → Bool
only_raw_bits n segment = no_stray_bits segment && nat_lt (data_of (segment_nodes n) segment) (2 ^ (8 * n))
