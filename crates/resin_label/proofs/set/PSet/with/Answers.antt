use Rattle.std.proofs.Common.{[], ◌∷◌, ap, ◌∙◌, sym}
use Rattle.resin_label.specs.Kept.{merge}
use Rattle.resin_label.proofs.Members.{if_copied, if_ok_map, insert_is, insert_there}
use Rattle.resin_label.proofs.Rising.{rising_merge}
use Rattle.resin_label.proofs.set.PSet.with.Goals as goal

pub returns-then-contains : goal.returns-then-contains
returns-then-contains c = if_copied c.clone.result _ (insert_there c.args.self.now c.args.n (sym c.if-contains.ensures)) c.clone.ensures.cases

pub kept-requires : goal.kept-requires
kept-requires c = rw c.in_ok-merged.ensures (rising_merge _ _ c.as_slice.ensures.rising (tt, tt))

pub returns : goal.returns
returns c =
    if_ok_map c.kept.result
    (λ t e. insert_is c.args.self.now t c.args.n (e ∙ c.in_ok-merged.ensures ∙ ap (λ ns. merge ns (c.args.n ∷ [])) c.as_slice.ensures.members))
    c.kept.ensures
