use Rattle.std.proofs.Common.{rules, tests, not}
use Rattle.std.specs.Prelude.{◌==◌}
use Rattle.std.proofs.lemmas.Iterator.{YieldsList-from_slice}
use Rattle.std.proofs.lemmas.Iterator.Search.{position_from_yields_List}
use Rattle.resin_eval_writes.proofs.HeaderLines.{front_skipped, all_skipped}
use Rattle.resin_eval_writes.proofs.headers.without_front.Goals as goal

pub returns-in-Some : goal.returns-in-Some
returns-in-Some c =
    let is = position_from_yields_List (λ b. not (b == 32)) _ _ c.position.result c.position.ensures.ran (YieldsList-from_slice c.args.value.now cc) (λ x b q k. search (rules, tests)) in
    front_skipped c.args.value.now c.position.result c.in-Some.place is c.in-Some.is

pub returns-in-None : goal.returns-in-None
returns-in-None c =
    let is = position_from_yields_List (λ b. not (b == 32)) _ _ c.position.result c.position.ensures.ran (YieldsList-from_slice c.args.value.now cc) (λ x b q k. search (rules, tests)) in
    all_skipped c.args.value.now c.position.result is c.in-None.is
