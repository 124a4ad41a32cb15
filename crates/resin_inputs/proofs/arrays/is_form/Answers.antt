use Rattle.std.proofs.Common.{ap, ◌∙◌, take}
use Rattle.std.proofs.lemmas.List.{take_min}
use Rattle.resin_inputs.specs.Names.{is_named}
use Rattle.resin_inputs.specs.Inputs.{form_type}
use Rattle.resin_inputs.proofs.arrays.is_form.Goals as goal

pub returns : goal.returns
returns c = c.is_named.ensures ∙ ap (λ w. is_named form_type w) (ap (λ n. take n c.args.value.now) c.min.ensures ∙ take_min 33 c.args.value.now)
