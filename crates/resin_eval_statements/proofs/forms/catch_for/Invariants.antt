use Rattle.std.proofs.Common.{◌≡◌, drop}
use Rattle.resin_eval_writes.specs.Under.meaning_forms.Statements.{catch_for}
use Rattle.resin_eval_statements.proofs.forms.catch_for.Given as goal

abbrev pub invariant-loop-c : goal.invariant-loop-c
invariant-loop-c l = catch_for l.o l.cs l.m ≡ catch_for l.o (drop l.c-index l.cs) l.m
