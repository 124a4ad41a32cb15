use Rattle.std.proofs.Common.{rules, tests}
use Rattle.std.specs.Prelude.{◌==◌}
use Rattle.std.proofs.lemmas.Iterator.{YieldsList-from_slice}
use Rattle.std.proofs.lemmas.Iterator.Search.{position_from_yields_List}
use Rattle.resin_inputs.proofs.CutLemmas.{some_before, some_after, all_before, none_after}
use Rattle.resin_inputs.proofs.cuts.split_once.Goals as goal

pub returns-in-Some-clause-before : goal.returns-in-Some-clause-before
returns-in-Some-clause-before c =
    let is = position_from_yields_List (λ b. b == c.args.byte) _ _ c.position.result c.position.ensures.ran (YieldsList-from_slice c.args.bytes.now cc) (λ x b q k. search (rules, tests)) in
    some_before (λ b. b == c.args.byte) c.args.bytes.now c.position.result c.in-Some.place is c.in-Some.is

pub returns-in-Some-clause-after : goal.returns-in-Some-clause-after
returns-in-Some-clause-after c =
    let is = position_from_yields_List (λ b. b == c.args.byte) _ _ c.position.result c.position.ensures.ran (YieldsList-from_slice c.args.bytes.now cc) (λ x b q k. search (rules, tests)) in
    some_after (λ b. b == c.args.byte) c.args.bytes.now c.position.result c.in-Some.place is c.in-Some.is

pub returns-in-None-clause-before : goal.returns-in-None-clause-before
returns-in-None-clause-before c =
    let is = position_from_yields_List (λ b. b == c.args.byte) _ _ c.position.result c.position.ensures.ran (YieldsList-from_slice c.args.bytes.now cc) (λ x b q k. search (rules, tests)) in
    all_before (λ b. b == c.args.byte) c.args.bytes.now c.position.result is c.in-None.is

pub returns-in-None-clause-after : goal.returns-in-None-clause-after
returns-in-None-clause-after c =
    let is = position_from_yields_List (λ b. b == c.args.byte) _ _ c.position.result c.position.ensures.ran (YieldsList-from_slice c.args.bytes.now cc) (λ x b q k. search (rules, tests)) in
    none_after (λ b. b == c.args.byte) c.args.bytes.now c.position.result is c.in-None.is
