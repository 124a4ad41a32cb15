use Rattle.std.proofs.Common.{◌≡◌, drop}
use Rattle.resin_text_fn.specs.Rows.{str_replace}
use Rattle.resin_text_fn.proofs.replace.replaced_in_turn.Given as goal

abbrev pub invariant-loop-k : goal.invariant-loop-k
invariant-loop-k l = str_replace (drop l.k l.searches) (drop l.k l.with) l.text l.ticks.left ≡ str_replace l.searches l.with l.s l.fn.ticks.left
