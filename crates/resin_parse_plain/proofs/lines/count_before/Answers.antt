use Rattle.std.proofs.Common.{suc, ◌+◌, ◌-◌, ◌/◌, ◌≤◌, arith}
use Rattle.std.specs.Prelude.{nat_lt}
use Rattle.std.specs.List.{prefix_len}
use Rattle.resin_parse_plain.proofs.LineLaws.{at_most, left, right}
use Rattle.resin_parse_plain.proofs.lines.count_before.Goals as goal

pub search-init : goal.search-init
search-init c = record { low = omega arith; high = at_most c.args.place c.args.ends.now; within = omega arith }

pub search-preserved-then-ends-middle : goal.search-preserved-then-ends-middle
search-preserved-then-ends-middle c =
    let r : suc (c.search.low + (c.search.high - c.search.low) / 2) ≤ prefix_len (λ end. nat_lt end c.args.place) c.args.ends.now =
    right c.args.place c.args.ends.now (c.search.low + (c.search.high - c.search.low) / 2) 0 c.requires (omega arith) (omega arith) in
    record { low = omega (arith, r); high = omega arith; within = omega arith }

pub search-preserved : goal.search-preserved
search-preserved c =
    let l : prefix_len (λ end. nat_lt end c.args.place) c.args.ends.now ≤ c.search.low + (c.search.high - c.search.low) / 2 =
    left c.args.place c.args.ends.now (c.search.low + (c.search.high - c.search.low) / 2) 0 (omega arith) (omega arith) in
    record { low = omega arith; high = omega (arith, l); within = omega arith }
