-- The numbers rise where those from the last one that was compared rise.
use Rattle.std.proofs.Common.{◌≡◌, ◌-◌, drop}
use Rattle.resin_journal_file.specs.Reading.{is_rising}
use Rattle.resin_audit.proofs.labels.rises.Given as goal

abbrev pub invariant-loop-i : goal.invariant-loop-i
invariant-loop-i l = is_rising l.numbers ≡ is_rising (drop (l.i - 1) l.numbers)
