-- Those that were looked at so far answer themselves alone.
use Rattle.std.proofs.Common.{All, take}
use Rattle.std.specs.Prelude.{IfSome}
use Rattle.resin_eval_merges.specs.OwnMerge.{AnswersItself, HasOwnMerge}
use Rattle.resin_eval_merges.proofs.own_merge.answer_themselves.Given as goal

abbrev pub invariant-loop-o : goal.invariant-loop-o
invariant-loop-o l = record {
  known : IfSome l.known (HasOwnMerge l.m.classes);
  so_far : All (AnswersItself l.m) (take l.o-index l.policies);
}
