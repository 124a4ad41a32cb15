use Rattle.std.proofs.Common.{nat_eq, refl}
use Rattle.std.specs.Cmp.Lexicographic.{pointwise}
use Rattle.resin_frozen.specs.Policies.{IsPolicyText}
use Rattle.resin_shadow.proofs.Kept.{grows_key, each_key}
use Rattle.resin_shadow.proofs.Tables.{more_texts, same_table}
use Rattle.resin_shadow.proofs.table.Table.number_of.Goals as goal

pub returns-in_err-number-clause-table : goal.returns-in_err-number-clause-table
returns-in_err-number-clause-table c = same_table c.args.self.now _ refl refl refl c.in_err-number.ensures.err c.requires.table

pub returns-clause-table : goal.returns-clause-table
returns-clause-table c =
    let old = c.args.self.now.texts.keys in
    let new = c.insert_full.new.self.keys in
    more_texts c.args.self.now _ refl refl refl (grows_key (pointwise nat_eq) old new c.args.text c.in_ok-number.ensures.keys)
    (each_key IsPolicyText (pointwise nat_eq) old new c.args.text c.in_ok-number.ensures.keys c.requires.table.texts_are c.requires.policy) c.in_ok-number.ensures.unique c.requires.table
