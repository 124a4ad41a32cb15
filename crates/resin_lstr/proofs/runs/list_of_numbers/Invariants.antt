use Rattle.std.proofs.Common.{◌≡◌, take}
use Rattle.resin_lstr.proofs.runs.list_of_numbers.Given as goal

abbrev pub invariant-loop-n : goal.invariant-loop-n
invariant-loop-n l = l.list ≡ take l.n-index l.numbers
