use Rattle.std.proofs.Common.{◌≤◌, ◌-◌, length}
use Rattle.std.specs.Prelude.{nat_lt}
use Rattle.std.specs.List.{prefix_len}
use Rattle.resin_parse_plain.proofs.lines.count_before.Given as goal

-- the answer is between the two
abbrev pub invariant-search : goal.invariant-search
invariant-search l = record {
  low : l.low ≤ prefix_len (λ end. nat_lt end l.place) l.ends;
  high : prefix_len (λ end. nat_lt end l.place) l.ends ≤ l.high;
  within : l.high ≤ length l.ends;
}

abbrev pub decreases-search : goal.decreases-search
decreases-search l = l.high - l.low
