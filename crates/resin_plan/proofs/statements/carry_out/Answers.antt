use Rattle.std.proofs.Common.{ap}
use Rattle.resin_plan.specs.Statements.{plan}
use Rattle.resin_plan.proofs.Runs.{ends_same}
use Rattle.resin_plan.proofs.statements.carry_out.Goals as goal

pub returns-in-Create : goal.returns-in-Create
unfolding plan
returns-in-Create g c = ends_same (ap (λ s. plan s c.args.values.now) c.in-Create.is) c.create.ensures

pub returns-in-Insert : goal.returns-in-Insert
unfolding plan
returns-in-Insert g c = ends_same (ap (λ s. plan s c.args.values.now) c.in-Insert.is) c.insert.ensures

pub returns-in-Select : goal.returns-in-Select
unfolding plan
returns-in-Select g c = ends_same (ap (λ s. plan s c.args.values.now) c.in-Select.is) c.select.ensures

pub returns-in-Update : goal.returns-in-Update
unfolding plan
returns-in-Update g c = ends_same (ap (λ s. plan s c.args.values.now) c.in-Update.is) c.update.ensures

pub returns-in-Delete : goal.returns-in-Delete
unfolding plan
returns-in-Delete g c = ends_same (ap (λ s. plan s c.args.values.now) c.in-Delete.is) c.delete.ensures
