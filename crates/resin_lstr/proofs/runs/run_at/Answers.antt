use Rattle.std.proofs.Common.{leb, rules, of_calls}
use Rattle.std.proofs.lemmas.List.Sorted.{IsPartitionPoint-from_clause, IsPartitionedBy-leb}
use Rattle.resin_lstr.specs.declared.text.Run.{Run}
use Rattle.resin_lstr.proofs.Places.{ends_rise, found_inside, found_begins, found_ends}
use Rattle.resin_lstr.proofs.runs.run_at.Goals as goal

pub returns-clause-inside : goal.returns-clause-inside
returns-clause-inside c =
    found_inside c.args.runs.now c.args.i c.partition_point.result c.requires.coalesced c.requires.within c.partition_point.ensures.bound
    (IsPartitionPoint-from_clause (λ (r : Run). leb r.end c.args.i) c.args.runs.now c.partition_point.result c.partition_point.ensures.partitioned
    (IsPartitionedBy-leb (λ (r : Run). r.end) c.args.runs.now c.args.i (ends_rise 0 c.args.runs.now c.requires.coalesced)) (λ a r f k. search (rules, of_calls)))

pub returns-clause-begins : goal.returns-clause-begins
returns-clause-begins c =
    found_begins c.args.runs.now c.args.i c.partition_point.result c.requires.coalesced c.requires.within c.partition_point.ensures.bound
    (IsPartitionPoint-from_clause (λ (r : Run). leb r.end c.args.i) c.args.runs.now c.partition_point.result c.partition_point.ensures.partitioned
    (IsPartitionedBy-leb (λ (r : Run). r.end) c.args.runs.now c.args.i (ends_rise 0 c.args.runs.now c.requires.coalesced)) (λ a r f k. search (rules, of_calls)))

pub returns-clause-ends : goal.returns-clause-ends
returns-clause-ends c =
    found_ends c.args.runs.now c.args.i c.partition_point.result c.requires.coalesced c.requires.within c.partition_point.ensures.bound
    (IsPartitionPoint-from_clause (λ (r : Run). leb r.end c.args.i) c.args.runs.now c.partition_point.result c.partition_point.ensures.partitioned
    (IsPartitionedBy-leb (λ (r : Run). r.end) c.args.runs.now c.args.i (ends_rise 0 c.args.runs.now c.requires.coalesced)) (λ a r f k. search (rules, of_calls)))
