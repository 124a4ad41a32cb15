use Rattle.std.proofs.Common.{◌∷◌, [], sym, subst}
use Rattle.resin_shadow.specs.Marks.{Each}
use Rattle.resin_shadow.specs.Runs.{IsKindOf}
use Rattle.resin_shadow.proofs.Kept.{kinds_kept, each-append}
use Rattle.resin_shadow.proofs.reading.read_set.Goals as goal

pub returns-in_err-kind-clause-kinds : goal.returns-in_err-kind-clause-kinds
returns-in_err-kind-clause-kinds c = kinds_kept c.args.table.now c.told.new.table c.args.kinds.now.items c.told.ensures.stays c.requires.kinds

pub returns-in_err-keep-clause-kinds : goal.returns-in_err-keep-clause-kinds
returns-in_err-keep-clause-kinds c =
    subst (Each (IsKindOf c.told.new.table)) (sym c.in_err-keep.ensures.err) (kinds_kept c.args.table.now c.told.new.table c.args.kinds.now.items c.told.ensures.stays c.requires.kinds)

pub returns-clause-kinds : goal.returns-clause-kinds
returns-clause-kinds c =
    subst (Each (IsKindOf c.told.new.table)) (sym c.in_ok-keep.ensures.ok)
    (each-append (IsKindOf c.told.new.table) c.args.kinds.now.items (c.in_ok-kind.kind ∷ []) (kinds_kept c.args.table.now c.told.new.table c.args.kinds.now.items c.told.ensures.stays c.requires.kinds) (c.in_ok-kind.ensures.kind, tt))
