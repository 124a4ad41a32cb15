use Rattle.resin_step_functions.proofs.Marks.{channel_found, channel_missing}
use Rattle.resin_step_functions.proofs.policies.named_channel.Goals as goal

pub returns-in-Some : goal.returns-in-Some
returns-in-Some c =
    channel_found c.args.name.now c.channel_among.result c.in-Some.channel _ (rw c.bytes.ensures at c.channel_among.ensures) c.in-Some.is

pub returns-in-None : goal.returns-in-None
returns-in-None c =
    channel_missing c.args.name.now c.channel_among.result _ _ _ (rw c.bytes.ensures at c.channel_among.ensures) c.in-None.is c.throw.ensures.acts
