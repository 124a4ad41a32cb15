use Rattle.std.proofs.Common.{refl, sym, subst}
use Rattle.resin_stage.specs.Stages.{Stage}
use Rattle.resin_stage.specs.Writes.{IsOpen, MayAsk, MaySend}
use Rattle.resin_stage.proofs.Laws.{lawful_denied}
use Rattle.resin_stage.proofs.stage.Stage.denied.Goals as goal

pub invariant_of-self-2 : goal.invariant_of-self-2
invariant_of-self-2 c =
    rw c.in_ok-push.ensures.ok (lawful_denied _ _ _ _ _ _ _ _ _ c.self.invariant (subst (λ (s : Stage). MayAsk c.args.write c.args.policy s.journal s.writes) (sym c.self.view_is) c.requires.may) c.requires.leaving c.requires.range c.requires.names.0 c.requires.names.1)
