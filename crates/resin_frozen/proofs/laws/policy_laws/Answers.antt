use Rattle.resin_frozen.proofs.One_text.{says_one_policy, reads_policies, finds_texts}
use Rattle.resin_frozen.proofs.Told.{says_its_fields}
use Rattle.resin_frozen.proofs.laws.policy_laws.Goals as goal

pub returns-clause-one : goal.returns-clause-one
returns-clause-one c = says_one_policy

pub returns-clause-read : goal.returns-clause-read
returns-clause-read c = reads_policies

pub returns-clause-found : goal.returns-clause-found
returns-clause-found c = finds_texts

pub returns-clause-fields : goal.returns-clause-fields
returns-clause-fields c = says_its_fields
