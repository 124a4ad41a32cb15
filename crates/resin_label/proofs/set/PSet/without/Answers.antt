use Rattle.std.proofs.Common.{ap, ◌∙◌, sym}
use Rattle.std.specs.Prelude.{not, nat_eq}
use Rattle.std.specs.List.{filter}
use Rattle.resin_label.proofs.Members.{if_copied, if_ok_map, remove_is, remove_absent}
use Rattle.resin_label.proofs.Rising.{rising_filter}
use Rattle.resin_label.proofs.set.PSet.without.Goals as goal

pub returns-then-not-contains : goal.returns-then-not-contains
returns-then-not-contains c = if_copied c.clone.result _ (remove_absent c.args.self.now c.args.n (sym c.contains.ensures ∙ c.if-not-contains.true)) c.clone.ensures.cases

pub kept-requires : goal.kept-requires
kept-requires c = rw c.in_ok-others.ensures (rising_filter _ _ c.as_slice.ensures.rising)

pub returns : goal.returns
returns c =
    if_ok_map c.kept.result
    (λ t e. remove_is c.args.self.now t c.args.n (e ∙ c.in_ok-others.ensures ∙ ap (filter (λ x. not (nat_eq x c.args.n))) c.as_slice.ensures.members))
    c.kept.ensures
