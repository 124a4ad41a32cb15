use Rattle.std.proofs.Common.{rules, tests, not}
use Rattle.std.specs.Char.{is_ascii_digit}
use Rattle.std.proofs.lemmas.Iterator.{YieldsList-from_slice}
use Rattle.std.proofs.lemmas.Iterator.Search.{position_from_yields_List}
use Rattle.resin_bytes.proofs.Counts.{some_place, no_place}
use Rattle.resin_format.proofs.form.count_digits.Goals as goal

pub returns-in-Some-clause-len : goal.returns-in-Some-clause-len
returns-in-Some-clause-len c =
    let is = position_from_yields_List (λ c. not (is_ascii_digit c)) _ _ c.position.result c.position.ensures.ran (YieldsList-from_slice c.args.bytes.now cc) (λ x b q k. search (rules, tests)) in
    some_place (λ c. not (is_ascii_digit c)) c.args.bytes.now c.position.result c.in-Some.place is c.in-Some.is

pub returns-in-None-clause-len : goal.returns-in-None-clause-len
returns-in-None-clause-len c =
    let is = position_from_yields_List (λ c. not (is_ascii_digit c)) _ _ c.position.result c.position.ensures.ran (YieldsList-from_slice c.args.bytes.now cc) (λ x b q k. search (rules, tests)) in
    no_place (λ c. not (is_ascii_digit c)) c.args.bytes.now c.position.result is c.in-None.is
