use Rattle.std.proofs.Common.{
  ◌≡◌,
  ◌≢◌,
  sym,
  ◌∙◌,
  ℕ,
  Bool,
  true,
  false,
  not,
  List,
  get_or,
  length,
  arith,
  eq-eqb,
  ne_eqb,
}
use Rattle.rules.specs.SearchLaws.{count_start, count_turn, count_over, one_on, one_off}
use Rattle.room.specs.Room.{Range, ranges_in}
use Rattle.houses.specs.Houses.{holds, held_count}
use Rattle.houses.proofs.held_count.Goals as goal
use Rattle.houses.proofs.held_count.Goals.{
  then-range-ne0+then-table-i,
  else-range-ne0,
  else-range-ne0-via-then-range-ne0+else-table-i,
  else-range-ne0-via-else-range-ne0,
}

-- whether a slot is held, by the two tests
module _ (ranges : List Range) (table : List ℕ) (house i : ℕ) where
  held : (ranges_in ranges i).area ≢ 0 → get_or table i 0 ≡ house → holds (ranges_in ranges) table house i ≡ true
  held n e = rw (ne_eqb (ranges_in ranges i).area 0 n, eq-eqb (get_or table i 0) house e)

  other : (ranges_in ranges i).area ≢ 0 → get_or table i 0 ≢ house → holds (ranges_in ranges) table house i ≡ false
  other n e = rw (ne_eqb (ranges_in ranges i).area 0 n, ne_eqb (get_or table i 0) house e)

  empty : (ranges_in ranges i).area ≡ 0 → holds (ranges_in ranges) table house i ≡ false
  empty z = rw (eq-eqb (ranges_in ranges i).area 0 z)

pub loop-i-preserved : goal.loop-i-preserved
loop-i-preserved c =
    let a = c.args in
    let i = c.loop-i.i in
    let test = holds (ranges_in a.ranges.now) a.table.now a.house in
    let turn = count_turn test (length a.ranges.now) i c.loop-i.held c.if-range-ne0.held c.loop-i-test.true
    c.loop-i.invariant.0 in
    elim c.if-range-ne0.branch [
      | then-range-ne0+then-table-i w ↦
          let t = turn (w.held-is
          ∙ one_on (test i) c.loop-i.held (held a.ranges.now a.table.now a.house i w.if-range-ne0.true w.if-table-i.true))
          c.loop-i.invariant.1 in
          (t.1, t.2)
      | else-range-ne0 w ↦
          let no : test i ≡ false = elim w.else-range-ne0.branch [
            | else-range-ne0-via-then-range-ne0+else-table-i x ↦
                other a.ranges.now a.table.now a.house i x.if-range-ne0.true x.if-table-i.false
            | else-range-ne0-via-else-range-ne0 x ↦ empty a.ranges.now a.table.now a.house i x.if-range-ne0.false
          ] in
          let t = turn (w.held-is ∙ one_off (test i) c.loop-i.held no) c.loop-i.invariant.1 in
          (t.1, t.2)
    ]

pub returns : goal.returns
unfolding held_count
returns c =
    let a = c.args in
    let test = holds (ranges_in a.ranges.now) a.table.now a.house in
    sym (count_over test (length a.ranges.now) c.loop-i.i c.loop-i.held c.loop-i-test.false) ∙ c.loop-i.invariant.1
