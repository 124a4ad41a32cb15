use Rattle.std.proofs.Common.{rules, tests, sym, ap, ◌∙◌, Bor}
use Rattle.std.specs.Prelude.{codes}
use Rattle.std.specs.Option.{option_map}
use Rattle.std.proofs.lemmas.Iterator.{YieldsList-from_slice}
use Rattle.std.proofs.lemmas.Iterator.Search.{find_from_yields_List}
use Rattle.resin_value.specs.Under.bytes.declared.header.Header.{Header}
use Rattle.resin_inputs.specs.Names.{is_named}
use Rattle.resin_inputs.specs.Inputs.{is_form, is_form_field}
use Rattle.resin_inputs.proofs.arrays.tells_form.Goals as goal

abbrev is_type : Header → Rattle.std.specs.Prelude.Bool
is_type f = is_named (codes "content-type") f.name

pub returns-in-Some : goal.returns-in-Some
returns-in-Some c =
    let found = find_from_yields_List is_type _ _ c.find.result c.find.ensures.ran (YieldsList-from_slice c.args.fields.now cc) (λ x b q k. search (rules, tests)) in
    c.is_form.ensures ∙ ap is_form c.as_slice.ensures
    ∙ ap is_form_field (sym (ap (option_map (λ (x : Bor Header). x.now)) c.in-Some.is) ∙ found)

pub returns-in-None : goal.returns-in-None
returns-in-None c =
    let found = find_from_yields_List is_type _ _ c.find.result c.find.ensures.ran (YieldsList-from_slice c.args.fields.now cc) (λ x b q k. search (rules, tests)) in
    ap is_form_field (sym (ap (option_map (λ (x : Bor Header). x.now)) c.in-None.is) ∙ found)
