-- `padded_byte`: a byte of the message, the byte 128 after it, a zero, a byte of the length.
use Rattle.std.proofs.Common.{◌+◌, ◌-◌, sym, arith}
use Rattle.sha256.specs.PaddingLaws.{pad_message, pad_one, pad_zero, pad_end}
use Rattle.sha256.proofs.padding.padded_byte.Goals as goal

pub returns-then-p-m : goal.returns-then-p-m
returns-then-p-m c = let a = c.args in sym (pad_message a.m.now a.p (omega arith))

pub returns-then-p-m-2 : goal.returns-then-p-m-2
returns-then-p-m-2 c = let a = c.args in rw c.if-p-m-2.true (sym (pad_one a.m.now))

pub returns-then-p-n : goal.returns-then-p-n
returns-then-p-n c = let a = c.args in sym (pad_zero a.m.now a.p (omega arith) (omega arith))

pub returns : goal.returns
returns c =
    let a =
    c.args in sym (pad_end a.m.now a.p (a.p + 8 - a.n) (omega arith) (omega arith))
