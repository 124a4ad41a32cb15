use Rattle.std.proofs.Common.{[], refl, sym, subst}
use Rattle.resin_stage.specs.Stages.{Stage}
use Rattle.resin_stage.specs.Writes.{IsOpen, MayAsk, MaySend}
use Rattle.resin_stage.proofs.Laws.{lawful_filtered}
use Rattle.resin_stage.proofs.stage.Stage.filter_denied.Goals as goal

pub invariant_of-self-2 : goal.invariant_of-self-2
invariant_of-self-2 c =
    rw c.in_ok-push.ensures.ok (lawful_filtered _ _ _ _ _ _ _ _ c.self.invariant (subst (λ (s : Stage). IsOpen c.args.write [] s.journal s.writes) (sym c.self.view_is) c.requires.way) c.requires.leaving c.requires.names.0 c.requires.names.1)
