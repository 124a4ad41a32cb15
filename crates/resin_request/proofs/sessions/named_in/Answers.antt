use Rattle.resin_request.proofs.Stored.{no_name}
use Rattle.resin_request.proofs.sessions.named_in.Goals as goal

pub returns-in-Text : goal.returns-in-Text
returns-in-Text c = rw (c.in-Text.is, ← c.bytes.ensures) c.name_in.ensures

pub returns-in_default : goal.returns-in_default
returns-in_default c = no_name c.args.value.now c.in_default.not-Text
