use mathlib.Core.Path.{sym}
use lib.Seq.{length-take-le}
use native.Mathlib.Omega.{arith}
use Rattle.check_input.proofs.Cases.{no_commitment, no_number, too_long_lem, checked}
use Rattle.check_input.proofs.check_input.Goals as goal

pub returns-then-input-lt32 : goal.returns-then-input-lt32
returns-then-input-lt32 c = no_commitment c.args.input.now (omega arith)

pub returns-then-input-lt48 : goal.returns-then-input-lt48
returns-then-input-lt48 c = no_number c.args.input.now (omega arith) (omega arith)

pub returns-then-input-gt4144 : goal.returns-then-input-gt4144
returns-then-input-gt4144 c = too_long_lem c.args.input.now (omega arith)

pub slice_bounds-check-end : goal.slice_bounds-check-end
slice_bounds-check-end c = sym (length-take-le 32
    c.args.input.now (omega arith))

pub returns : goal.returns
returns c =
    checked c.args.input.now (omega arith) (omega arith)
    c.read_u64-size.ensures c.read_u64-number.ensures c.check.ensures
