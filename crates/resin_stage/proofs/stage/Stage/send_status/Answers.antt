use Rattle.std.proofs.Common.{refl, sym, subst}
use Rattle.resin_stage.specs.Stages.{Stage}
use Rattle.resin_stage.specs.Writes.{IsOpen, MayAsk, MaySend}
use Rattle.resin_stage.specs.Ties.{IsTied}
use Rattle.resin_stage.proofs.Laws.{lawful_sent}
use Rattle.resin_stage.proofs.Tied.{tied_status}
use Rattle.resin_stage.proofs.stage.Stage.send_status.Goals as goal

pub invariant_of-self-2 : goal.invariant_of-self-2
invariant_of-self-2 c =
    rw c.in_ok-push.ensures.ok (lawful_sent _ _ _ _ _ c.self.invariant (subst (λ (s : Stage). MaySend c.args.write c.args.text s.journal s.writes) (sym c.self.view_is) c.requires.may) refl)

pub returns-clause-tied : goal.returns-clause-tied
returns-clause-tied c = λ q t. rw (c.in_ok-push.ensures.ok) (tied_status q c.args.write c.args.text c.args.status _ c.requires.told (subst (λ (s : Stage). IsTied q s) (sym c.self.view_is) t))
