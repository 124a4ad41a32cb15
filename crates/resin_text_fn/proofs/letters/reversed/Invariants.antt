use Rattle.std.proofs.Common.{◌≡◌, ◌≤◌, length, take, drop}
use Rattle.std.specs.Prelude.{reverse}
use Rattle.resin_lstr.specs.declared.limits.TheConstants.{LONGEST}
use Rattle.resin_lstr.specs.Runs.{last_end}
use Rattle.resin_text_fn.proofs.letters.reversed.Given as goal

abbrev pub invariant-loop-left : goal.invariant-loop-left
invariant-loop-left l = record {
  within : l.left ≤ length l.runs;
  is : l.out ≡ reverse (drop (last_end 0 (take l.left l.runs)) l.s);
  short : length l.out ≤ LONGEST;
}

abbrev pub decreases-loop-left : goal.decreases-loop-left
decreases-loop-left l = l.left
