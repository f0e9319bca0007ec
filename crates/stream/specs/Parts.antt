-- The parts that the code takes a piece by, and what it promises of each: the state is what the bytes one by one leave.
use Rattle.std.specs.Prelude.{◌≡◌, ℕ, ◌+◌, ◌*◌, ◌%◌, ◌^◌, ◌≤◌, ◌<◌, Result, Ok, Err}
use Rattle.rules.specs.declared.Refusal.{Refusal}
use Rattle.rules.specs.Answers.{number}
use Rattle.stream.specs.Stream.{largest, failed_with}
use Rattle.stream.specs.declared.Stream.{Stream}

-- n bytes that come after `count` others are a block: 2 ^ height whole nodes, at least sixteen, and blocks of that size
-- come before it
pub record Block (count n : ℕ) : Type 0 where
  pub height : ℕ
  pub sixteen : 4 ≤ height
  pub sized : n ≡ 32 * 2 ^ height
  pub starts : count % n ≡ 0

-- n bytes that are taken at once: up to 32 within one node, more as a block
pub record Part (count n : ℕ) : Type 0 where
  pub some : 0 < n
  pub allowed : count + n ≤ largest
  pub within : n ≤ 32 → count % 32 + n ≤ 32
  pub block : 32 < n → Block count n

-- the state after such bytes, or one in which the code of the refusal sticks
abbrev pub unless_failed : {A : Type 0} → Result A Refusal → Stream → Stream
unless_failed (Ok x) s = s
unless_failed (Err r) s = failed_with (number r)
