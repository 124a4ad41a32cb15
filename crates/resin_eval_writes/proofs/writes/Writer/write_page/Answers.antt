use Rattle.resin_eval_nested.proofs.Arms.{does_looked, does_no, does_yes}
use Rattle.resin_eval_writes.proofs.Exits.{is_zero, nonzero}
use Rattle.resin_eval_nested.proofs.meaning_lemmas.Composition.{does_loosely, does_next, does_unbegun_exit}
use Rattle.resin_eval_writes.proofs.writes.Writer.write_page.Goals as goal

pub buffer-requires : goal.buffer-requires
buffer-requires g c =
    rw (rw c.stage.ensures.value at c.open_buffers.ensures) at c.if-open_buffers-gt0.true

pub returns-then-open_buffers-gt0 : goal.returns-then-open_buffers-gt0
returns-then-open_buffers-gt0 g c =
    does_next _ _ (does_looked _ _ (rw c.stage.ensures.value at c.open_buffers.ensures)) (does_no _ _ _ (nonzero _ c.if-open_buffers-gt0.true) (does_loosely _ _ _ _ c.buffer.ensures.acts))

pub returns-in_err-context_of : goal.returns-in_err-context_of
returns-in_err-context_of g c =
    does_next _ _ (does_looked _ _ (rw c.stage.ensures.value at c.open_buffers.ensures)) (does_yes _ _ _ (is_zero _ c.if-open_buffers-gt0.false) (does_unbegun_exit _ _ _ c.from_residual.ensures.1))

pub leave-requires-clause-told : goal.leave-requires-clause-told
leave-requires-clause-told g c =
    tt

pub returns : goal.returns
returns g c =
    does_next _ _ (does_looked _ _ (rw c.stage.ensures.value at c.open_buffers.ensures)) (does_yes _ _ _ (is_zero _ c.if-open_buffers-gt0.false) (rw (c.in_ok-context_of.ensures) at c.leave.ensures))
