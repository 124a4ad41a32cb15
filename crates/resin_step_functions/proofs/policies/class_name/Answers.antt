use Rattle.resin_step_parts.specs.Under.heap.declared.prelude.PreludeClass.TheVariants.{TypeError}
use Rattle.resin_step_parts.proofs.meaning_lemmas.Composition.{does_unbegun}
use Rattle.resin_step_parts.proofs.Loops.{handed_seen}
use Rattle.resin_step_functions.proofs.Marks.{class_told, no_class, throw_there}
use Rattle.resin_step_parts.specs.Under.value.Seen.{tree_of}
use Rattle.resin_step_functions.proofs.policies.class_name.Goals as goal

pub returns-in_default : goal.returns-in_default
returns-in_default c =
    throw_there _ TypeError _ _ _ (no_class c.args.v.now c.in_default.not-Obj) c.throw.ensures.acts

pub returns-in_err-plain : goal.returns-in_err-plain
returns-in_err-plain c =
    rw c.in-Obj.is (λ f t k. handed_seen tree_of _ _ c.from_residual.ensures.1 (does_unbegun _ _))

pub returns : goal.returns
returns c =
    rw c.in-Obj.is (class_told c.in-Obj.o _ c.name_of.result.now _ c.name_of.ensures.value c.in_ok-plain.ensures)
