use Rattle.std.proofs.Common.{sym, ◌∙◌}
use Rattle.resin_step_parts.proofs.Named.{own_state, own_channel, own_is}
use Rattle.resin_step_parts.proofs.names.own_named.Goals as goal

pub returns-in-Some : goal.returns-in-Some
returns-in-Some c = sym (own_state c.args.name.now c.in-Some.f (sym c.state_named.ensures ∙ c.in-Some.is))

pub returns-in-Some-channel_named : goal.returns-in-Some-channel_named
returns-in-Some-channel_named c = sym (own_channel c.args.name.now c.in-Some-channel_named.f (sym c.state_named.ensures ∙ c.in_default.is) (sym c.channel_named.ensures ∙ c.in-Some-channel_named.is))

pub returns-in-Some-builtin_named : goal.returns-in-Some-builtin_named
returns-in-Some-builtin_named c = sym (own_is c.args.name.now _ _ _ (sym c.state_named.ensures ∙ c.in_default.is) (sym c.channel_named.ensures ∙ c.in_default-channel_named.is) (sym c.builtin_named.ensures ∙ c.in-Some-builtin_named.is))

pub returns-in-None : goal.returns-in-None
returns-in-None c = sym (own_is c.args.name.now _ _ _ (sym c.state_named.ensures ∙ c.in_default.is) (sym c.channel_named.ensures ∙ c.in_default-channel_named.is) (sym c.builtin_named.ensures ∙ c.in-None.is))
