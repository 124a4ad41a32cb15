use Rattle.resin_value.proofs.LawLemmas.{finds_what_was_put, puts_at_one_key, forgets_what_was_removed, removes_one_key, appends_last, ignores_labels}
use Rattle.resin_value.proofs.laws.array_laws.Goals as goal

pub returns-clause-finds_what_was_put : goal.returns-clause-finds_what_was_put
returns-clause-finds_what_was_put c = finds_what_was_put

pub returns-clause-puts_at_one_key : goal.returns-clause-puts_at_one_key
returns-clause-puts_at_one_key c = puts_at_one_key

pub returns-clause-forgets_what_was_removed : goal.returns-clause-forgets_what_was_removed
returns-clause-forgets_what_was_removed c = forgets_what_was_removed

pub returns-clause-removes_one_key : goal.returns-clause-removes_one_key
returns-clause-removes_one_key c = removes_one_key

pub returns-clause-appends_last : goal.returns-clause-appends_last
returns-clause-appends_last c = appends_last

pub returns-clause-ignores_labels : goal.returns-clause-ignores_labels
returns-clause-ignores_labels c = ignores_labels
