use Rattle.std.proofs.Common.{refl}
use Rattle.resin_serve.proofs.Giving.{gave_out, gave_mail, gave_log}
use Rattle.resin_serve.proofs.give.give_three.Goals as goal

pub returns-in-Whole-give_all-clause-gave : goal.returns-in-Whole-give_all-clause-gave
returns-in-Whole-give_all-clause-gave g c = λ store store' told told' made made'.
    gave_out _ _ _ _ _ _ c.in-Whole.ensures.gave c.in-Whole-give_all.ensures.gave c.give_all-in-Whole-give_all.ensures.gave

pub returns-in_default-give_all-clause-gave : goal.returns-in_default-give_all-clause-gave
returns-in_default-give_all-clause-gave g c = λ store store' told told' made made'.
    gave_mail _ _ _ _ _ _ c.in_default-give_all.not-Whole c.in-Whole.ensures.gave c.give_all-in-Whole.ensures.gave refl

pub returns-in_default-clause-gave : goal.returns-in_default-clause-gave
returns-in_default-clause-gave g c = λ store store' told told' made made'.
    gave_log _ _ _ _ _ _ c.in_default.not-Whole c.give_all.ensures.gave refl refl
