use Rattle.resin_eval_nested.proofs.Arms.{does_looked}
use Rattle.resin_eval_writes.proofs.Prepared.{may_send, prepared_kept, told_answered, told_prepared}
use Rattle.resin_eval_nested.proofs.meaning_lemmas.Composition.{does_act, does_exit, does_next, does_stop, does_unbegun_exit}
use Rattle.resin_eval_writes.proofs.writes.Writer.leave.Goals as goal

pub returns-in_err-chain : goal.returns-in_err-chain
returns-in_err-chain g c =
    does_unbegun_exit _ _ _ c.from_residual.ensures.1

pub returns-in_err-write : goal.returns-in_err-write
returns-in_err-write g c =
    does_next _ _ (does_looked _ _ c.in_ok-chain.ensures) (does_exit _ _ _ c.from_residual-in_err-write.ensures.1 (does_act _ _ _ _ c.in_err-write.ensures.acts))

pub ask_filters-requires-clause-begun : goal.ask_filters-requires-clause-begun
ask_filters-requires-clause-begun g c =
    c.in_ok-write.ensures.begun

pub ask_filters-requires-clause-leaving : goal.ask_filters-requires-clause-leaving
ask_filters-requires-clause-leaving g c =
    c.channel_of-channel.ensures.leaving

pub returns-in_err-answer : goal.returns-in_err-answer
returns-in_err-answer g c =
    does_next _ _ (does_looked _ _ c.in_ok-chain.ensures) (does_next _ _ (does_act _ _ _ _ c.in_ok-write.ensures.acts) (does_exit _ _ _ c.from_residual-in_err-answer.ensures.1 (does_stop _ _ (rw (c.as_slice.ensures.value, c.channel_of-channel.ensures.value) at c.in_err-answer.ensures.does))))

pub returns-in_err-data : goal.returns-in_err-data
returns-in_err-data g c =
    does_next _ _ (does_looked _ _ c.in_ok-chain.ensures) (does_next _ _ (does_act _ _ _ _ c.in_ok-write.ensures.acts) (does_exit _ _ _ c.from_residual-in_err-data.ensures.1 (does_next _ _ (rw (c.as_slice.ensures.value, c.channel_of-channel.ensures.value) at c.in_ok-answer.ensures.does) ((c.in_err-data.ensures) _ _ _))))

pub ask_policies-requires-clause-begun : goal.ask_policies-requires-clause-begun
ask_policies-requires-clause-begun g c =
    rw (prepared_kept _ _ _ c.in_ok-data.ensures) c.in_ok-answer.ensures.begun

pub ask_policies-requires-clause-leaving : goal.ask_policies-requires-clause-leaving
ask_policies-requires-clause-leaving g c =
    c.channel_of-channel.ensures.leaving

pub returns-in_err-ask_policies : goal.returns-in_err-ask_policies
returns-in_err-ask_policies g c =
    does_next _ _ (does_looked _ _ c.in_ok-chain.ensures) (does_next _ _ (does_act _ _ _ _ c.in_ok-write.ensures.acts) (does_next _ _ (does_next _ _ (rw (c.as_slice.ensures.value, c.channel_of-channel.ensures.value) at c.in_ok-answer.ensures.does) ((c.in_ok-data.ensures) _ _ _)) (does_exit _ _ _ c.from_residual-in_err-ask_policies.ensures.1 (rw (c.channel_of-channel.ensures.value) at c.in_err-ask_policies.ensures.does))))

pub send-requires-clause-may : goal.send-requires-clause-may
send-requires-clause-may g c =
    may_send c.in_ok-ask_policies.ensures.passed

pub send-requires-clause-told : goal.send-requires-clause-told
send-requires-clause-told g c =
    (told_prepared _ _ _ c.in_ok-data.ensures (told_answered _ _ _ _ _ c.in_ok-chain.ensures (rw c.as_slice.ensures.value at c.in_ok-answer.ensures.unasked) c.requires.told))

pub returns : goal.returns
returns g c =
    does_next _ _ (does_looked _ _ c.in_ok-chain.ensures) (does_next _ _ (does_act _ _ _ _ c.in_ok-write.ensures.acts) (does_next _ _ (does_next _ _ (rw (c.as_slice.ensures.value, c.channel_of-channel.ensures.value) at c.in_ok-answer.ensures.does) ((c.in_ok-data.ensures) _ _ _)) (does_next _ _ (rw (c.channel_of-channel.ensures.value) at c.in_ok-ask_policies.ensures.does) ((c.send.ensures) _ _ _))))
