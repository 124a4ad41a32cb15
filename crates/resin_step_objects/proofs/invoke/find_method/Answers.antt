use Rattle.resin_step_functions.proofs.meaning_lemmas.Composition.{does_unbegun}
use Rattle.resin_step_objects.proofs.Found.{method_found, method_unfound}
use Rattle.resin_step_functions.proofs.step_parts_lemmas.Loops.{handed_seen}
use Rattle.resin_step_objects.specs.Methods.{seen_method}
use Rattle.std.proofs.Common.{ap, sym, ◌∙◌}
use Rattle.std.specs.Option.{option_map}
use Rattle.resin_step_objects.proofs.invoke.find_method.Goals as goal

pub returns-in_err-method : goal.returns-in_err-method
returns-in_err-method c =
    λ f t k. handed_seen seen_method _ _ c.from_residual.ensures.1 (does_unbegun _ _)

pub returns-in-Some : goal.returns-in-Some
returns-in-Some c =
    method_found c.args.class c.args.name.now c.args.m.now _ (sym (ap (option_map seen_method) c.in-Some.is) ∙ c.in_ok-method.ensures)

pub returns-in-None : goal.returns-in-None
returns-in-None c =
    method_unfound c.args.class c.args.name.now c.args.m.now _ (sym (ap (option_map seen_method) c.in-None.is) ∙ c.in_ok-method.ensures) c.fault.ensures
