-- The reader holds the record, and its place leads to the field that is asked for, past as many fields as are left.
use Rattle.std.proofs.Common.{◌≡◌, ◌-◌, ◌≤◌}
use Rattle.reader.specs.Reader.{place_after}
use Rattle.reader.proofs.field.Given as goal

abbrev pub invariant-loop : goal.invariant-loop
invariant-loop l =
    (l.reader.bytes.now ≡ l.bytes)
    × (place_after (l.number - l.counter) l.bytes l.reader.place ≡ place_after l.number l.bytes 0)
