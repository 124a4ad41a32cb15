use Rattle.std.proofs.Common.{[], ◌∙◌, sym, subst, arith}
use Rattle.std.proofs.lemmas.Bool.{eqb-true}
use Rattle.std.specs.Rc.{rc_slice_items}
use Rattle.resin_label.specs.Sets.{IsRising}
use Rattle.resin_label.proofs.Members.{numbers-of_rising, no_items}
use Rattle.resin_label.proofs.set.PSet.kept.Goals as goal

pub returns-then-is_empty : goal.returns-then-is_empty
returns-then-is_empty c = numbers-of_rising [] tt ∙ sym (no_items c.args.members.items (omega (arith, c.args.members.ok.0, eqb-true _ _ (sym c.is_empty.ensures ∙ c.if-is_empty.true))))

pub returns : goal.returns
returns c =
    numbers-of_rising (rc_slice_items c.in_ok-numbers.numbers) (subst IsRising (sym c.in_ok-numbers.ensures) c.requires) ∙ c.in_ok-numbers.ensures
