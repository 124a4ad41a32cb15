use Rattle.std.proofs.Common.{ap, sym, ◌∙◌}
use Rattle.std.proofs.lemmas.Bool.{eqb-true}
use Rattle.resin_target.specs.Targets.{store_there, put_at_place}
use Rattle.resin_target.proofs.Indexed.{none_left}
use Rattle.resin_target.proofs.Ends.{as_step, loosely}
use Rattle.resin_target.proofs.targets.store_there.Goals as goal

pub returns-then-is_empty : goal.returns-then-is_empty
returns-then-is_empty c = record {
  acts = as_step (store_there c.args.at.now c.args.indices.now c.args.v) (put_at_place c.args.at.now c.args.v) _ _ _
      (ap (λ is. store_there c.args.at.now is c.args.v c.args.m.now) (none_left c.args.indices.now (eqb-true _ _ (sym c.is_empty.ensures ∙ c.if-is_empty.true)))) (loosely _ _ _ _ c.put.ensures.acts);
}
