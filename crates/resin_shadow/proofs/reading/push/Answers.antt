use Rattle.resin_shadow.specs.Runs.{marks_of}
use Rattle.resin_shadow.proofs.Kept.{count_of}
use Rattle.resin_shadow.proofs.Ending.{longer_over, longer_within, sum_over, sum_within}
use Rattle.resin_shadow.proofs.reading.push.Goals as goal

pub returns-then-is_none-clause-reads : goal.returns-then-is_none-clause-reads
returns-then-is_none-clause-reads c =
    longer_over (marks_of c.args.table.now.runs.items) c.args.len c.args.table.now.len c.args.kind.now.set (count_of c.args.table.now c.requires.table) (sum_over _ _ _ c.checked_add.ensures c.if-is_none.ensures)

pub returns-clause-reads : goal.returns-clause-reads
returns-clause-reads c =
    longer_within (marks_of c.args.table.now.runs.items) (marks_of c.push_kind.new.self.runs.items) c.args.len c.args.table.now.len c.args.kind.now.set (count_of c.args.table.now c.requires.table) c.if-len-eq0.false
    (sum_within _ _ _ c.checked_add.ensures c.if-is_none.ensures) c.in_ok-push_kind.ensures.ok
