use Rattle.std.proofs.Common.{◌∙◌, sym, ap}
use Rattle.resin_label.specs.Sets.{numbers}
use Rattle.resin_label.specs.Kept.{numbers_of}
use Rattle.resin_label.proofs.Members.{numbers-of_rising}
use Rattle.resin_label.proofs.set.PSet.as_slice.Goals as goal

pub returns-in-None-clause-members : goal.returns-in-None-clause-members
returns-in-None-clause-members c =
    sym (ap numbers (sym c.self.view_is) ∙ numbers-of_rising (numbers_of c.self.inside.numbers) c.self.invariant ∙ ap numbers_of c.in-None.is)

pub returns-in-Some-clause-members : goal.returns-in-Some-clause-members
returns-in-Some-clause-members c =
    c.as_slice.ensures.value
    ∙ sym (ap numbers (sym c.self.view_is) ∙ numbers-of_rising (numbers_of c.self.inside.numbers) c.self.invariant ∙ ap numbers_of c.in-Some.is)
