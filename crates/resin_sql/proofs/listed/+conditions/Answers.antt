use Rattle.std.proofs.Common.{◌≡◌, ◌++◌, List, subst}
use Rattle.std.specs.Prelude.{OnOk}
use Rattle.std.specs.List.{flat_map}
use Rattle.resin_sql.specs.declared.tree.Condition.{Condition}
use Rattle.resin_sql.specs.Literals.{of_condition}
use Rattle.resin_sql.proofs.Listing.{of_one, of_all, of_any, put_more}
use Rattle.resin_sql.proofs.listed.+conditions.Goals as goal

pub put_condition-returns-in-Test : goal.put_condition-returns-in-Test
put_condition-returns-in-Test t c = rw (c.in-Test.is, of_one c.in-Test.test) c.put_test.ensures

pub put_condition-returns-in-All : goal.put_condition-returns-in-All
put_condition-returns-in-All t c =
    rw (c.in-All.is, of_all c.in-All.parts)
    (subst (λ (ps : List Condition). OnOk c.put_conditions.result (c.put_conditions.new.found ≡ c.args.found.now ++ flat_map of_condition ps)) c.as_slice.ensures c.put_conditions.ensures)

pub put_condition-returns-in-Any : goal.put_condition-returns-in-Any
put_condition-returns-in-Any t c =
    rw (c.in-Any.is, of_any c.in-Any.parts)
    (subst (λ (ps : List Condition). OnOk c.put_conditions-in-Any.result (c.put_conditions-in-Any.new.found ≡ c.args.found.now ++ flat_map of_condition ps)) c.as_slice-in-Any.ensures c.put_conditions-in-Any.ensures)

pub put_conditions-loop-part-preserved : goal.put_conditions-loop-part-preserved
put_conditions-loop-part-preserved t c =
    put_more of_condition c.args.parts.now c.loop-part.part-index c.part-item.result c.args.found.now c.loop-part.found c.put_condition.new.found
    c.loop-part-test.true c.part-item.is c.loop-part.invariant c.in_ok-put_condition.ensures
