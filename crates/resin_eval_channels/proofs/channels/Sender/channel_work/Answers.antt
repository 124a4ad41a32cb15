use Rattle.resin_eval_queries.specs.Under.meaning_forms.Channels.{channel_work}
use Rattle.resin_eval_queries.specs.Under.meaning_forms.Programs.{evals}
use Rattle.resin_eval_queries.specs.Under.meaning_forms.declared.callee.ChannelFunction.{ChannelFunction}
use Rattle.resin_eval_queries.proofs.eval_nested_lemmas.Arms.{does_given}
use Rattle.resin_eval_queries.proofs.eval_nested_lemmas.Exits.{does_is, does_seen_exit}
use Rattle.resin_eval_queries.proofs.meaning_lemmas.Composition.{does_act, does_give, does_loosely, does_next}
use Rattle.resin_eval_queries.specs.Under.value.Seen.{trees_of}
use Rattle.std.proofs.Common.{ap}
use Rattle.resin_eval_channels.proofs.channels.Sender.channel_work.Goals as goal

pub returns-in_err-open_buffer-in-BufferStart : goal.returns-in_err-open_buffer-in-BufferStart
returns-in_err-open_buffer-in-BufferStart g c =
    does_is (ap (λ (x : ChannelFunction). channel_work (evals c.args.self.now.by.now.room) x (trees_of c.args.args.now)) c.in-BufferStart.is) (does_seen_exit _ _ _ _ c.from_residual.ensures.1 (does_act _ _ _ _ c.in_err-open_buffer-in-BufferStart.ensures.acts))

pub returns-in_ok-open_buffer-in-BufferStart : goal.returns-in_ok-open_buffer-in-BufferStart
returns-in_ok-open_buffer-in-BufferStart g c =
    does_is (ap (λ (x : ChannelFunction). channel_work (evals c.args.self.now.by.now.room) x (trees_of c.args.args.now)) c.in-BufferStart.is) (does_next _ _ (does_act _ _ _ _ c.in_ok-open_buffer-in-BufferStart.ensures.acts) (does_give _ _))

pub returns-in_err-close_buffer-in-BufferGetClean : goal.returns-in_err-close_buffer-in-BufferGetClean
returns-in_err-close_buffer-in-BufferGetClean g c =
    does_is (ap (λ (x : ChannelFunction). channel_work (evals c.args.self.now.by.now.room) x (trees_of c.args.args.now)) c.in-BufferGetClean.is) (does_seen_exit _ _ _ _ c.from_residual-in_err-close_buffer-in-BufferGetClean.ensures.1 (does_loosely _ _ _ _ c.in_err-close_buffer-in-BufferGetClean.ensures.acts))

pub returns-in_ok-close_buffer-in-BufferGetClean : goal.returns-in_ok-close_buffer-in-BufferGetClean
returns-in_ok-close_buffer-in-BufferGetClean g c =
    does_is (ap (λ (x : ChannelFunction). channel_work (evals c.args.self.now.by.now.room) x (trees_of c.args.args.now)) c.in-BufferGetClean.is) (does_next _ _ (does_loosely _ _ _ _ c.in_ok-close_buffer-in-BufferGetClean.ensures.acts) (does_given _ _ c.text_or_false.ensures))

pub returns-in_err-close_buffer-in-BufferEndClean : goal.returns-in_err-close_buffer-in-BufferEndClean
returns-in_err-close_buffer-in-BufferEndClean g c =
    does_is (ap (λ (x : ChannelFunction). channel_work (evals c.args.self.now.by.now.room) x (trees_of c.args.args.now)) c.in-BufferEndClean.is) (does_seen_exit _ _ _ _ c.from_residual-in_err-close_buffer-in-BufferEndClean.ensures.1 (does_loosely _ _ _ _ c.in_err-close_buffer-in-BufferEndClean.ensures.acts))

pub returns-in_ok-close_buffer-in-BufferEndClean : goal.returns-in_ok-close_buffer-in-BufferEndClean
returns-in_ok-close_buffer-in-BufferEndClean g c =
    does_is (ap (λ (x : ChannelFunction). channel_work (evals c.args.self.now.by.now.room) x (trees_of c.args.args.now)) c.in-BufferEndClean.is) (does_next _ _ (does_loosely _ _ _ _ c.in_ok-close_buffer-in-BufferEndClean.ensures.acts) (does_given _ _ c.is_open.ensures))

pub returns-in_err-closed-in-BufferEndFlush : goal.returns-in_err-closed-in-BufferEndFlush
returns-in_err-closed-in-BufferEndFlush g c =
    does_is (ap (λ (x : ChannelFunction). channel_work (evals c.args.self.now.by.now.room) x (trees_of c.args.args.now)) c.in-BufferEndFlush.is) (does_seen_exit _ _ _ _ c.from_residual-in_err-closed-in-BufferEndFlush.ensures.1 (does_loosely _ _ _ _ c.in_err-closed-in-BufferEndFlush.ensures.acts))

pub returns-in_ok-closed-in-BufferEndFlush : goal.returns-in_ok-closed-in-BufferEndFlush
returns-in_ok-closed-in-BufferEndFlush g c =
    does_is (ap (λ (x : ChannelFunction). channel_work (evals c.args.self.now.by.now.room) x (trees_of c.args.args.now)) c.in-BufferEndFlush.is) (does_next _ _ (does_loosely _ _ _ _ c.in_ok-closed-in-BufferEndFlush.ensures.acts) (c.flushed.ensures))

pub returns-in-Header : goal.returns-in-Header
returns-in-Header g c =
    does_is (ap (λ (x : ChannelFunction). channel_work (evals c.args.self.now.by.now.room) x (trees_of c.args.args.now)) c.in-Header.is) (c.header_work.ensures)

pub returns-in-ResponseCode : goal.returns-in-ResponseCode
returns-in-ResponseCode g c =
    does_is (ap (λ (x : ChannelFunction). channel_work (evals c.args.self.now.by.now.room) x (trees_of c.args.args.now)) c.in-ResponseCode.is) (c.status_work.ensures)

pub returns-in-Mail : goal.returns-in-Mail
returns-in-Mail g c =
    does_is (ap (λ (x : ChannelFunction). channel_work (evals c.args.self.now.by.now.room) x (trees_of c.args.args.now)) c.in-Mail.is) (c.mail_work.ensures)

pub returns-in-FilePutContents : goal.returns-in-FilePutContents
returns-in-FilePutContents g c =
    does_is (ap (λ (x : ChannelFunction). channel_work (evals c.args.self.now.by.now.room) x (trees_of c.args.args.now)) c.in-FilePutContents.is) (c.put_work.ensures)

pub returns-in-FileGetContents : goal.returns-in-FileGetContents
returns-in-FileGetContents g c =
    does_is (ap (λ (x : ChannelFunction). channel_work (evals c.args.self.now.by.now.room) x (trees_of c.args.args.now)) c.in-FileGetContents.is) (c.get_work.ensures)

pub returns-in-Unlink : goal.returns-in-Unlink
returns-in-Unlink g c =
    does_is (ap (λ (x : ChannelFunction). channel_work (evals c.args.self.now.by.now.room) x (trees_of c.args.args.now)) c.in-Unlink.is) (c.unlink_work.ensures)

pub returns-in-FileExists : goal.returns-in-FileExists
returns-in-FileExists g c =
    does_is (ap (λ (x : ChannelFunction). channel_work (evals c.args.self.now.by.now.room) x (trees_of c.args.args.now)) c.in-FileExists.is) (c.exists_work.ensures)

pub returns-in-SqlQuery : goal.returns-in-SqlQuery
returns-in-SqlQuery g c =
    does_is (ap (λ (x : ChannelFunction). channel_work (evals c.args.self.now.by.now.room) x (trees_of c.args.args.now)) c.in-SqlQuery.is) (c.query_work.ensures)
