use Rattle.resin_statement_laws.proofs.Statements.{statements_are_effects}
use Rattle.resin_statement_laws.proofs.More.{joins_are_effects, totals_are_effects}
use Rattle.resin_statement_laws.proofs.Literals.{keeps_literals}
use Rattle.resin_statement_laws.proofs.Kept.{reads_kept}
use Rattle.resin_statement_laws.proofs.laws.statement_laws.Goals as goal

pub returns-clause-literals : goal.returns-clause-literals
returns-clause-literals c = keeps_literals

pub returns-clause-kept : goal.returns-clause-kept
returns-clause-kept c = reads_kept

pub returns-clause-statements : goal.returns-clause-statements
returns-clause-statements c = statements_are_effects

pub returns-clause-joins : goal.returns-clause-joins
returns-clause-joins c = joins_are_effects

pub returns-clause-totals : goal.returns-clause-totals
returns-clause-totals c = totals_are_effects
