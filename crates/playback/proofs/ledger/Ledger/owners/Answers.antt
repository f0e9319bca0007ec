use Rattle.std.specs.Prelude.{◌≡◌, ℕ, ◌<◌, length, replicate}
use Rattle.std.proofs.Common.{rules, sym, ap, ◌∙◌, arith}
use Rattle.std.proofs.lemmas.List.{length-replicate}
use Rattle.playback.specs.declared.LedgerRow.{LedgerRow}
use Rattle.playback.specs.Ledger.{vacant}
use Rattle.playback.proofs.Read.{read_is}
use Rattle.playback.proofs.Mapped.{mapped_start, mapped_next, mapped_all}
use Rattle.playback.proofs.ledger.Ledger.owners.Goals as goal

pub loop-i-init : goal.loop-i-init
loop-i-init c =
    let rows = c.args.self.now.rows in
    let all : length rows ≡ 128 = search rules in
    mapped_start (λ (row : LedgerRow). row.house) rows vacant (replicate 128 0)
    (length-replicate {A = ℕ} 128 0 ∙ sym all)

pub loop-i-preserved : goal.loop-i-preserved
loop-i-preserved c =
    let rows = c.args.self.now.rows in
    let l = c.loop-i in
    let all : length rows ≡ 128 = search rules in
    let inside : l.i < length rows = omega (arith, all, c.loop-i-test.true) in
    mapped_next (λ (row : LedgerRow). row.house) rows vacant l.i l.owners _ inside
    (ap (λ (row : LedgerRow). row.house) (read_is rows l.i inside)) l.invariant

pub returns : goal.returns
returns c =
    let rows = c.args.self.now.rows in
    let l = c.loop-i in
    let all : length rows ≡ 128 = search rules in
    mapped_all (λ (row : LedgerRow). row.house) rows vacant l.i l.owners (omega (arith, all, c.loop-i-test.false))
    l.invariant
