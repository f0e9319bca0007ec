-- What a state is after bytes, from a new start: no code sticks yet, or 11 does, or 2 does.
use Rattle.std.specs.Prelude.{◌≡◌, List, ℕ, ◌+◌, ◌-◌, ◌*◌, ◌/◌, ◌%◌, ◌^◌, ◌≤◌, ◌<◌, length, take, drop, get_or}
use Rattle.octets.specs.Splice.{part}
use Rattle.merkle.specs.Tree.{node_at}
use Rattle.stream.specs.Stream.{largest, failed_with}
use Rattle.stream.specs.declared.Stream.{Stream}

-- n whole nodes give n / 2 ^ h nodes of height h. Where that is odd, the last of them has no right neighbour yet: it
-- waits
abbrev pub Waits : List ℕ → List ℕ → ℕ → Type 0
Waits bytes waiting n = (h : ℕ) → h < 32 → n / 2 ^ h % 2 ≡ 1
    → part waiting (32 * h) 32 ≡ node_at bytes h (n / 2 ^ h - 1)

-- no code sticks: no node has stray bits, the count is that of the bytes, the last bytes are in the partial node, and
-- the nodes of the tree wait
pub record Runs (bytes : List ℕ) (s : Stream) : Type 0 where
  pub allowed : length bytes ≤ largest
  pub clear : (i : ℕ) → i < length bytes / 32 → get_or bytes (i * 32 + 31) 0 < 64
  pub no_code : s.code ≡ 0
  pub counts : s.count ≡ length bytes
  pub partial_sized : length s.partial ≡ 32
  pub waiting_sized : length s.waiting ≡ 1024
  pub last : take (length bytes % 32) s.partial ≡ drop (length bytes / 32 * 32) bytes
  pub waits : Waits bytes s.waiting (length bytes / 32)

-- 11 sticks: a whole node of the first 2^36 bytes has stray bits
pub record StrayNode (bytes : List ℕ) (s : Stream) : Type 0 where
  pub node : ℕ
  pub whole : node * 32 + 31 < length bytes
  pub within : node * 32 + 31 < largest
  pub stray : 64 ≤ get_or bytes (node * 32 + 31) 0
  pub state_is : s ≡ failed_with 11

-- 2 sticks: there are more than 2^36 bytes, and no node of the first 2^36 has stray bits
pub record TooLong (bytes : List ℕ) (s : Stream) : Type 0 where
  pub more : largest < length bytes
  pub clear : (i : ℕ) → i * 32 + 31 < largest → get_or bytes (i * 32 + 31) 0 < 64
  pub state_is : s ≡ failed_with 2

pub data After (bytes : List ℕ) (s : Stream) : Type 0 where
  runs : Runs bytes s → After bytes s
  stray_node : StrayNode bytes s → After bytes s
  too_long : TooLong bytes s → After bytes s
