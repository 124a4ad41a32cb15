use Rattle.std.proofs.Common.{nat_eq, refl}
use Rattle.std.specs.Cmp.Lexicographic.{pointwise}
use Rattle.resin_shadow.proofs.Kept.{grows_key}
use Rattle.resin_shadow.proofs.Tables.{more_sets, same_table}
use Rattle.resin_shadow.proofs.table.Table.kind_in.Goals as goal

pub returns-in_err-number-clause-table : goal.returns-in_err-number-clause-table
returns-in_err-number-clause-table c = same_table c.args.self.now _ refl refl c.in_err-number.ensures.err refl c.requires.table

pub returns-clause-table : goal.returns-clause-table
returns-clause-table c =
    more_sets c.args.self.now _ refl refl (grows_key (pointwise nat_eq) c.args.self.now.sets.keys c.insert_full.new.self.keys c.args.numbers c.in_ok-number.ensures.keys) refl c.in_ok-number.ensures.unique c.requires.table
