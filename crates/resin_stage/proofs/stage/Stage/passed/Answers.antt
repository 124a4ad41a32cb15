use Rattle.std.proofs.Common.{refl, sym, subst}
use Rattle.resin_stage.specs.Stages.{Stage}
use Rattle.resin_stage.specs.Writes.{IsOpen, MayAsk, MaySend}
use Rattle.resin_stage.proofs.Laws.{lawful_passed}
use Rattle.resin_stage.proofs.stage.Stage.passed.Goals as goal

pub invariant_of-self-2 : goal.invariant_of-self-2
invariant_of-self-2 c =
    rw c.in_ok-push.ensures.ok (lawful_passed _ _ _ _ c.self.invariant (subst (λ (s : Stage). MayAsk c.args.write c.args.policy s.journal s.writes) (sym c.self.view_is) c.requires))
