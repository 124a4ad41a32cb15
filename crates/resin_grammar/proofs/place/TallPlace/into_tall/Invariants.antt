use Rattle.std.proofs.Common.{◌≡◌}
use Rattle.std.specs.List.{fold}
use Rattle.resin_grammar.specs.Places.{read_further}
use Rattle.resin_grammar.specs.Trees as tree
use Rattle.resin_grammar.proofs.place.TallPlace.into_tall.Given as goal

abbrev pub invariant-loop-step : goal.invariant-loop-step
invariant-loop-step l = l.tree ≡ fold read_further (tree.variable l.fn.self.variable) l.yielded
