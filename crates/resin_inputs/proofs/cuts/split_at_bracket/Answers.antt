use Rattle.std.proofs.Common.{rules, tests}
use Rattle.std.proofs.lemmas.Iterator.{YieldsList-from_slice}
use Rattle.std.proofs.lemmas.Iterator.Search.{position_from_yields_List}
use Rattle.resin_inputs.specs.Names.{is_bracket}
use Rattle.resin_inputs.proofs.CutLemmas.{some_before, some_from, all_before, none_from}
use Rattle.resin_inputs.proofs.cuts.split_at_bracket.Goals as goal

pub returns-in-Some-clause-before : goal.returns-in-Some-clause-before
returns-in-Some-clause-before c =
    let is = position_from_yields_List (is_bracket) _ _ c.position.result c.position.ensures.ran (YieldsList-from_slice c.args.name.now cc) (λ x b q k. search (rules, tests)) in
    some_before (is_bracket) c.args.name.now c.position.result c.in-Some.place is c.in-Some.is

pub returns-in-Some-clause-from : goal.returns-in-Some-clause-from
returns-in-Some-clause-from c =
    let is = position_from_yields_List (is_bracket) _ _ c.position.result c.position.ensures.ran (YieldsList-from_slice c.args.name.now cc) (λ x b q k. search (rules, tests)) in
    some_from (is_bracket) c.args.name.now c.position.result c.in-Some.place is c.in-Some.is

pub returns-in-None-clause-before : goal.returns-in-None-clause-before
returns-in-None-clause-before c =
    let is = position_from_yields_List (is_bracket) _ _ c.position.result c.position.ensures.ran (YieldsList-from_slice c.args.name.now cc) (λ x b q k. search (rules, tests)) in
    all_before (is_bracket) c.args.name.now c.position.result is c.in-None.is

pub returns-in-None-clause-from : goal.returns-in-None-clause-from
returns-in-None-clause-from c =
    let is = position_from_yields_List (is_bracket) _ _ c.position.result c.position.ensures.ran (YieldsList-from_slice c.args.name.now cc) (λ x b q k. search (rules, tests)) in
    none_from (is_bracket) c.args.name.now c.position.result is c.in-None.is
