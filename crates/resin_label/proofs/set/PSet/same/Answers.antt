use Rattle.std.proofs.Common.{◌∙◌, ap, sym}
use Rattle.std.proofs.lemmas.Slice.Eq.{slice_eq-Decides}
use Rattle.std.proofs.lemmas.Bool.Decides.{Decides-eqb}
use Rattle.resin_label.specs.Sets.{numbers}
use Rattle.resin_label.proofs.Members.{same_numbers}
use Rattle.resin_label.proofs.set.PSet.same.Goals as goal

pub returns-clause-equal : goal.returns-clause-equal
returns-clause-equal c =
    let decides = slice_eq-Decides Decides-eqb _ _ _ c.eq.ensures in (
      λ t. same_numbers c.args.self.now c.args.o.now (sym c.as_slice.ensures.members ∙ decides.0 t ∙ c.as_slice-2.ensures.members),
      λ e. decides.1 (c.as_slice.ensures.members ∙ ap numbers e ∙ sym c.as_slice-2.ensures.members),
    )
