use Rattle.std.proofs.Common.{◌≡◌, take}
use Rattle.std.specs.Prelude.{nat_eq}
use Rattle.std.specs.List.{flat_map}
use Rattle.resin_label.specs.Sets.{numbers}
use Rattle.resin_lstr.specs.Texts.{distinct}
use Rattle.resin_lstr.specs.Runs.{spell}
use Rattle.resin_lstr.proofs.runs.numbers_once.Given as goal

abbrev pub invariant-loop-run : goal.invariant-loop-run
invariant-loop-run l = l.seen.keys ≡ distinct nat_eq (flat_map numbers (spell 0 (take l.run-index l.runs)))
