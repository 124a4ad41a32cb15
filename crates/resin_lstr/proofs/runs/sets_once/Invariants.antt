use Rattle.std.proofs.Common.{◌≡◌, take}
use Rattle.resin_label.specs.Sets.{same}
use Rattle.resin_lstr.specs.Texts.{distinct}
use Rattle.resin_lstr.specs.Runs.{spell}
use Rattle.resin_lstr.proofs.runs.sets_once.Given as goal

abbrev pub invariant-loop-run : goal.invariant-loop-run
invariant-loop-run l = l.seen.keys ≡ distinct same (spell 0 (take l.run-index l.runs))
