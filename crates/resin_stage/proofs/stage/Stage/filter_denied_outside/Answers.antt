use Rattle.std.proofs.Common.{refl, sym, subst}
use Rattle.resin_stage.specs.Stages.{Stage}
use Rattle.resin_stage.specs.Writes.{IsOpen, MayAsk, MaySend}
use Rattle.resin_stage.proofs.Laws.{lawful_kept}
use Rattle.resin_stage.proofs.stage.Stage.filter_denied_outside.Goals as goal

pub invariant_of-self-2 : goal.invariant_of-self-2
invariant_of-self-2 c = rw c.in_ok-push.ensures.ok (lawful_kept _ _ _ _ _ _ _ c.self.invariant c.requires.kept c.requires.names.0 c.requires.names.1)
