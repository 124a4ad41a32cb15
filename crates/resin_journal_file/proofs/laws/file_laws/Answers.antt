use Rattle.std.proofs.Common.{ap, ◌∙◌}
use Rattle.resin_journal_file.specs.Reading.{item}
use Rattle.resin_journal_file.proofs.Items.{item-item}
use Rattle.resin_journal_file.proofs.Once.{says_one_thing}
use Rattle.resin_journal_file.proofs.Fronts.{item_read}
use Rattle.resin_journal_file.proofs.laws.file_laws.Goals as goal

pub returns-clause-one : goal.returns-clause-one
returns-clause-one c = says_one_thing

pub returns-clause-read : goal.returns-clause-read
returns-clause-read c = λ xs i rest. (item_read xs i rest, λ h. ap item h.0 ∙ item-item i h.1 rest)
