use Rattle.std.proofs.Common.{ap, sym, ◌∙◌}
use Rattle.resin_machine.specs.Variables.{assign}
use Rattle.resin_target.specs.Targets.{store}
use Rattle.resin_target.proofs.Ends.{as_step, loosely}
use Rattle.resin_target.proofs.targets.store.Goals as goal

pub returns-then-is_alone : goal.returns-then-is_alone
returns-then-is_alone c = record {
  acts = as_step (store c.args.name.now c.args.path.now c.args.v) (assign c.as_slice.result.now c.args.v) _ _ _
      (ap (λ p. store c.args.name.now p c.args.v c.args.m.now) (c.is_alone.ensures.0 c.if-is_alone.true) ∙ ap (λ n. assign n c.args.v c.args.m.now) (sym c.as_slice.ensures))
      (loosely _ _ _ _ c.assign.ensures.acts);
}
