use Rattle.resin_shadow.proofs.Versions.{has_one_text, has_one_version}
use Rattle.resin_shadow.proofs.Whole.{spells_one}
use Rattle.resin_shadow.proofs.laws.shadow_laws.Goals as goal

pub returns-clause-text : goal.returns-clause-text
returns-clause-text c = has_one_text

pub returns-clause-one : goal.returns-clause-one
returns-clause-one c = spells_one

pub returns-clause-version : goal.returns-clause-version
returns-clause-version c = has_one_version
