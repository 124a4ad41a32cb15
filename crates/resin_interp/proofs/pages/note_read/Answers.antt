use Rattle.resin_eval_calls.proofs.meaning_lemmas.Composition.{does_act}
use Rattle.resin_interp.proofs.Arms.{noted_elsewhere}
use Rattle.resin_interp.proofs.pages.note_read.Goals as goal

pub returns-in-Code : goal.returns-in-Code
returns-in-Code c = λ f t k. rw c.in-Code.is (does_act _ f t k c.import.ensures.acts)

pub returns-in_default : goal.returns-in_default
returns-in_default c = λ f t k. noted_elsewhere c.args.channel c.args.path.now c.in_default.not-Code
