use mathlib.Core.Path.{◌≡◌, sym, ◌∙◌}
use mathlib.Core.Bool.{Bool}
use Rattle.houses.specs.HousesLaws.{housed, refusal_house, refusal_size, refusal_table}
use Rattle.houses.proofs.refusal.Goals as goal

-- what an answered test says of its value
told : {r t u : Bool} → r ≡ t → r ≡ u → t ≡ u
told e f = sym e ∙ f

pub returns-then-not-house_allowed : goal.returns-then-not-house_allowed
returns-then-not-house_allowed c =
    sym (refusal_house c.args.size c.args.table.now c.args.house
    (told c.house_allowed.ensures c.if-not-house_allowed.true))

pub returns-then-not-lent_size_allowed : goal.returns-then-not-lent_size_allowed
returns-then-not-lent_size_allowed c =
    sym (refusal_size c.args.size c.args.table.now c.args.house
    (told c.house_allowed.ensures c.if-not-house_allowed.false)
    (told c.lent_size_allowed.ensures c.if-not-lent_size_allowed.true))

pub returns-then-not-table_sized : goal.returns-then-not-table_sized
returns-then-not-table_sized c =
    sym (refusal_table c.args.size c.args.table.now c.args.house
    (told c.house_allowed.ensures c.if-not-house_allowed.false)
    (told c.lent_size_allowed.ensures c.if-not-lent_size_allowed.false)
    (told c.table_sized.ensures c.if-not-table_sized.true))

pub returns : goal.returns
returns c =
    sym ((housed c.args.size c.args.table.now c.args.house).1
    (record {
      house_allowed_lem = told c.house_allowed.ensures c.if-not-house_allowed.false;
      size_allowed = told c.lent_size_allowed.ensures c.if-not-lent_size_allowed.false;
      table_sized_lem = told c.table_sized.ensures c.if-not-table_sized.false;
    }))
