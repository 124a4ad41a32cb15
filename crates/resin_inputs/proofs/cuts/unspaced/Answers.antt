use Rattle.std.proofs.Common.{rules, tests, not}
use Rattle.std.specs.Prelude.{◌==◌}
use Rattle.std.proofs.lemmas.Iterator.{YieldsList-from_slice}
use Rattle.std.proofs.lemmas.Iterator.Search.{position_from_yields_List}
use Rattle.resin_inputs.proofs.CutLemmas.{some_from, none_from}
use Rattle.resin_inputs.proofs.cuts.unspaced.Goals as goal

pub returns-in-Some : goal.returns-in-Some
returns-in-Some c =
    let is = position_from_yields_List (λ b. not (b == 32)) _ _ c.position.result c.position.ensures.ran (YieldsList-from_slice c.args.part.now cc) (λ x b q k. search (rules, tests)) in
    some_from (λ b. not (b == 32)) c.args.part.now c.position.result c.in-Some.place is c.in-Some.is

pub returns-in-None : goal.returns-in-None
returns-in-None c =
    let is = position_from_yields_List (λ b. not (b == 32)) _ _ c.position.result c.position.ensures.ran (YieldsList-from_slice c.args.part.now cc) (λ x b q k. search (rules, tests)) in
    none_from (λ b. not (b == 32)) c.args.part.now c.position.result is c.in-None.is
