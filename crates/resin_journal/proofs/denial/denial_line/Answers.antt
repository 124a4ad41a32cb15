use Rattle.std.proofs.Common.{rules}
use Rattle.resin_journal.proofs.denial.denial_line.Goals as goal

pub returns-in-Passed : goal.returns-in-Passed
returns-in-Passed c = search rules
