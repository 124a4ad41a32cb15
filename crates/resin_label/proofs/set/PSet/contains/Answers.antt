use Rattle.std.proofs.Common.{◌∙◌, sym, ap}
use Rattle.std.specs.Prelude.{nat_eq}
use Rattle.std.specs.List.{list_any}
use Rattle.resin_label.proofs.Members.{contains-numbers}
use Rattle.resin_label.proofs.set.PSet.contains.Goals as goal

pub returns : goal.returns
returns c =
    c.has.ensures ∙ ap (list_any (λ x. nat_eq x c.args.n)) c.as_slice.ensures.members ∙ sym (contains-numbers c.args.self.now c.args.n)
