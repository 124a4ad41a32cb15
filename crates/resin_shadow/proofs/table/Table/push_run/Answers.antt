use Rattle.std.proofs.Common.{refl, sym, subst}
use Rattle.resin_shadow.specs.Runs.{IsKind}
use Rattle.resin_shadow.specs.Ends.{EndsApart}
use Rattle.resin_shadow.proofs.Tables.{pushed_table}
use Rattle.resin_shadow.proofs.table.Table.push_run.Goals as goal

pub returns-clause-table : goal.returns-clause-table
returns-clause-table c =
    pushed_table c.args.self.now _ _ c.in_ok-push.ensures.items refl refl refl c.requires.some c.requires.count
    (subst (IsKind c.args.self.now c.args.kind.now.number) (sym c.in_ok-set.ensures.cases) c.requires.known) (subst (λ s. EndsApart s c.args.self.now.runs.items) (sym c.in_ok-set.ensures.cases) c.requires.ends) c.requires.table
