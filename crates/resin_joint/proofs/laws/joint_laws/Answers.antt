use Rattle.resin_sql.proofs.Endings.{one_reading}
use Rattle.resin_joint.specs.Answers.{start}
use Rattle.resin_joint.specs.Joint.{joint}
use Rattle.resin_joint.specs.Readings.{read_more_as}
use Rattle.resin_joint.proofs.Whole.{nothing_read}
use Rattle.resin_joint.proofs.laws.joint_laws.Goals as goal

pub returns : goal.returns
returns c = λ bytes. unfold read_more_as in one_reading joint start nothing_read bytes
