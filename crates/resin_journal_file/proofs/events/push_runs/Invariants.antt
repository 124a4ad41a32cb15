use Rattle.std.proofs.Common.{◌≡◌, ◌++◌, take}
use Rattle.std.specs.List.{flat_map}
use Rattle.resin_lstr.specs.Runs.{last_end}
use Rattle.resin_journal_file.specs.Files.{run_line, lengths}
use Rattle.resin_journal_file.proofs.events.push_runs.Given as goal

abbrev pub invariant-loop-run : goal.invariant-loop-run
invariant-loop-run l = record {
  text_is : l.text ≡ l.initial.text ++ flat_map run_line (lengths 0 (take l.run-index l.runs));
  from_is : l.from ≡ last_end 0 (take l.run-index l.runs);
}
