use Rattle.resin_heap.proofs.Lines.{above_given, none_above}
use Rattle.resin_heap.proofs.classes.Classes.giver_above.Goals as goal

pub returns-in-Some-clause-all : goal.returns-in-Some-clause-all
returns-in-Some-clause-all c = above_given c.args.self.now c.args.c c.in-Some.parent _ c.in-Some.ensures.value c.giver.ensures.all

pub returns-in-None-clause-all : goal.returns-in-None-clause-all
returns-in-None-clause-all c = none_above c.args.self.now c.args.c c.in-None.ensures.value
