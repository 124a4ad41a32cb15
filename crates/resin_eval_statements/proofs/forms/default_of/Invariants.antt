use Rattle.std.proofs.Common.{◌≡◌, drop}
use Rattle.resin_eval_writes.specs.Under.meaning_forms.Statements.{from_default}
use Rattle.resin_eval_statements.proofs.forms.default_of.Given as goal

abbrev pub invariant-loop-c : goal.invariant-loop-c
invariant-loop-c l = (l.i ≡ l.c-index) × (from_default l.cs ≡ from_default (drop l.c-index l.cs))
