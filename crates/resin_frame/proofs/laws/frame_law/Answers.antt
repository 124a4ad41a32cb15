use Rattle.resin_frame.proofs.framed_forms.Programs.{program_framed}
use Rattle.resin_frame.proofs.laws.frame_law.Goals as goal

pub returns : goal.returns
returns c = λ p. program_framed p
