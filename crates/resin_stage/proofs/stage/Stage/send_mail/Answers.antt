use Rattle.std.proofs.Common.{refl, sym, subst}
use Rattle.resin_stage.specs.Stages.{Stage}
use Rattle.resin_stage.specs.Writes.{IsOpen, MayAsk, MaySend}
use Rattle.resin_stage.specs.Ties.{IsTied}
use Rattle.resin_stage.proofs.Laws.{lawful_sent}
use Rattle.resin_stage.proofs.Tied.{tied_mail}
use Rattle.resin_stage.proofs.stage.Stage.send_mail.Goals as goal

pub invariant_of-self-2 : goal.invariant_of-self-2
invariant_of-self-2 c =
    rw c.in_ok-push.ensures.ok (lawful_sent _ _ _ _ _ c.self.invariant (subst (λ (s : Stage). MaySend c.args.write c.args.text s.journal s.writes) (sym c.self.view_is) c.requires) refl)

pub returns-clause-tied : goal.returns-clause-tied
returns-clause-tied c = λ t. rw (c.in_ok-push_slice.ensures.ok, c.in_ok-push.ensures.ok, c.as_slice.ensures, c.in_ok-letter.ensures) (tied_mail c.args.request c.args.write c.args.text _ (subst (λ (s : Stage). IsTied c.args.request s) (sym c.self.view_is) t))
