use Rattle.std.proofs.Common.{rules, tests, ◌≡◌, ℕ, ltb, length, take, Some, None, cond, Bool, true, false, sym, ap, ◌∙◌, arith}
use Rattle.std.specs.List.{position_or_len}
use Rattle.std.proofs.lemmas.List.{take_all}
use Rattle.std.proofs.lemmas.Bool.Decides.{nat_tests}
use Rattle.std.proofs.lemmas.Iterator.{YieldsList-from_slice}
use Rattle.std.proofs.lemmas.Iterator.Search.{position_from_yields_List}
use Rattle.resin_joint.specs.Joins.{is_dot}
use Rattle.resin_joint.proofs.joins.table_of.Goals as goal

at_some : (b : Bool) (a end : ℕ) → Some end ≡ cond b (Some a) None → end ≡ a
at_some true a end e = cc
at_some false a end e = cc

at_none : (b : Bool) (a : ℕ) → None ≡ cond b (Some a) None → b ≡ false
at_none true a e = cc
at_none false a e = cc

pub returns-in-Some : goal.returns-in-Some
returns-in-Some c =
    let name = c.args.name.now in
    let is = position_from_yields_List is_dot _ _ c.position.result c.position.ensures.ran (YieldsList-from_slice name cc) (λ x b q k. search (rules, tests)) in
    ap (λ n. take n name) (at_some _ _ _ (sym c.in-Some.is ∙ is))

pub returns-in-None : goal.returns-in-None
returns-in-None c =
    let name = c.args.name.now in
    let is = position_from_yields_List is_dot _ _ c.position.result c.position.ensures.ran (YieldsList-from_slice name cc) (λ x b q k. search (rules, tests)) in
    let past : ltb (position_or_len is_dot name) (length name) ≡ false = at_none _ _ (sym c.in-None.is ∙ is) in
    sym (take_all (position_or_len is_dot name) name (grind (arith, nat_tests)))
