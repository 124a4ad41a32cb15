use Rattle.std.proofs.Common.{◌≡◌, ◌≤◌, ◌++◌, length, take}
use Rattle.resin_lstr.specs.declared.limits.TheConstants.{LONGEST}
use Rattle.resin_lstr.specs.Runs.{last_end, text_of}
use Rattle.resin_escape_fn.specs.Escapes.{escaped}
use Rattle.resin_escape_fn.specs.Rules.{rule_of}
use Rattle.resin_escape_fn.proofs.escapes.append_runs_written.Given as goal

abbrev pub invariant-loop-run : goal.invariant-loop-run
invariant-loop-run l = record {
  at : l.from ≡ last_end 0 (take l.run-index l.runs);
  is : l.out ≡ l.fn.out ++ escaped (rule_of l.how) (take l.from (text_of l.bytes l.runs));
  short : length l.out ≤ LONGEST;
}
