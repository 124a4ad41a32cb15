use Rattle.resin_eval_calls.proofs.meaning_lemmas.Composition.{does_give}
use Rattle.resin_interp.proofs.Places.{read_none, read_syntax, read_deep}
use Rattle.resin_interp.proofs.sources.read_source.Goals as goal

pub returns-in-Ok : goal.returns-in-Ok
returns-in-Ok c = λ w. rw c.in-Ok.ensures.exact (does_give c.in-Ok.p w)

pub returns-in-Err-Syntax : goal.returns-in-Err-Syntax
returns-in-Err-Syntax c = λ w. read_syntax _ _ _ _ w c.in-Err-Syntax.ensures.exact c.in-Err-Syntax.field-0-is c.line_at.ensures

pub returns-in-Err-TooDeep : goal.returns-in-Err-TooDeep
returns-in-Err-TooDeep c = λ w. read_deep _ _ _ _ w c.in-Err-TooDeep.ensures.exact c.in-Err-TooDeep.field-0-is c.line_at-in-Err-TooDeep.ensures

pub returns-in-Err-Memory : goal.returns-in-Err-Memory
returns-in-Err-Memory c = λ w. read_none _ _ w
