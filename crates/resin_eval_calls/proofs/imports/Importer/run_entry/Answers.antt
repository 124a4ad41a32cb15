use Rattle.resin_eval_channels.proofs.eval_nested_lemmas.Arms.{does_given}
use Rattle.resin_eval_channels.proofs.meaning_lemmas.Composition.{does_exit, does_next}
use Rattle.std.proofs.Common.{arith}
use Rattle.std.proofs.lemmas.List.{length-map}
use Rattle.resin_eval_calls.proofs.imports.Importer.run_entry.Goals as goal

pub returns-in_err-src : goal.returns-in_err-src
returns-in_err-src g c =
    does_exit _ _ _ c.from_residual.ensures.1 c.in_err-src.ensures

pub source-requires-clause-short : goal.source-requires-clause-short
source-requires-clause-short g c =
    rw (c.bytes.ensures, length-map) (omega (arith, c.len-len.ensures.value, c.len-len.ensures.short))

pub returns-in_err-course : goal.returns-in_err-course
returns-in_err-course g c =
    does_next _ _ c.in_ok-src.ensures (does_exit _ _ _ c.from_residual-in_err-course.ensures.1 (rw c.bytes.ensures at c.in_err-course.ensures))

pub returns : goal.returns
returns g c =
    does_next _ _ c.in_ok-src.ensures (does_next _ _ (rw c.bytes.ensures at c.in_ok-course.ensures) (does_given _ _ c.value_of_course.ensures))
