use Rattle.resin_statement_laws.proofs.Programs.{programs_carry, literals_carry, worlds_carry, join_programs_answer, join_worlds_answer, total_programs_answer, total_worlds_answer}
use Rattle.resin_statement_laws.proofs.laws.statement_program_laws.Goals as goal

pub returns-clause-programs : goal.returns-clause-programs
returns-clause-programs c = programs_carry

pub returns-clause-literals : goal.returns-clause-literals
returns-clause-literals c = literals_carry

pub returns-clause-worlds : goal.returns-clause-worlds
returns-clause-worlds c = worlds_carry

pub returns-clause-joins : goal.returns-clause-joins
returns-clause-joins c = join_programs_answer

pub returns-clause-join_worlds : goal.returns-clause-join_worlds
returns-clause-join_worlds c = join_worlds_answer

pub returns-clause-totals : goal.returns-clause-totals
returns-clause-totals c = total_programs_answer

pub returns-clause-total_worlds : goal.returns-clause-total_worlds
returns-clause-total_worlds c = total_worlds_answer
