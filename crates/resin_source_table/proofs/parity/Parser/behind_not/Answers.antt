use Rattle.std.proofs.Common.{suc, sym, subst}
use Rattle.resin_form.specs.Meaning.{always, reading}
use Rattle.resin_source_table.specs.Parity.{rules}
use Rattle.resin_form.specs.Reads.{Reads}
use Rattle.resin_source_table.specs.declared.parity.Construct.TheVariants.{Negated}
use Rattle.resin_source_table.proofs.parity.Parser.behind_not.Goals as goal

pub returns-then-self-eq0 : goal.returns-then-self-eq0
unfolding reading
returns-then-self-eq0 g c =
    subst (λ n. Reads (reading rules always (suc n) Negated c.args.signs.now) c.no_room.result c.no_room.new.signs) (sym c.if-self-eq0.true) c.no_room.ensures
