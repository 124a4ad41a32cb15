use Rattle.resin_step_parts.specs.Under.heap.declared.prelude.PreludeClass.TheVariants.{ArgumentCountError}
use Rattle.resin_step_parts.specs.Under.value.Seen.{tree_of}
use Rattle.resin_step_functions.proofs.Guarded.{no_page, no_page_class}
use Rattle.resin_step_functions.proofs.Marks.{throw_there}
use Rattle.resin_step_functions.proofs.guards.page_structure.Goals as goal

pub returns-in_default : goal.returns-in_default
returns-in_default c =
    throw_there _ ArgumentCountError _ _ _ (no_page (tree_of c.args.class.now) c.args.text.now c.in_default.not-Text) c.throw.ensures.acts

pub returns-in_default-class : goal.returns-in_default-class
returns-in_default-class c =
    rw c.in-Text.is (throw_there _ ArgumentCountError _ _ _ (no_page_class c.in-Text.text c.args.class.now c.in_default-class.not-Text) c.throw-in_default-class.ensures.acts)

pub returns : goal.returns
returns c =
    rw (c.in-Text.is, c.in-Text-class.is) c.guarded_page.ensures
