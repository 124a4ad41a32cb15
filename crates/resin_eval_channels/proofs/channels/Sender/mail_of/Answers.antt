use Rattle.std.proofs.Common.{[]}
use Rattle.resin_eval_queries.specs.Under.value.Seen.{tree_of}
use Rattle.resin_eval_queries.specs.Under.meaning_forms.Programs.{evals}
use Rattle.resin_eval_channels.proofs.Values.{no_address, no_message, no_subject}
use Rattle.resin_eval_queries.proofs.eval_nested_lemmas.Exits.{does_is}
use Rattle.resin_eval_channels.proofs.Unfit.{does_unfit}
use Rattle.resin_eval_channels.proofs.channels.Sender.mail_of.Goals as goal

pub returns-in-Text-message : goal.returns-in-Text-message
returns-in-Text-message g c =
    rw (c.in-Text.is, c.in-Text-subject.is, c.in-Text-message.is) c.leave_mail.ensures

pub returns-in_default-message : goal.returns-in_default-message
returns-in_default-message g c =
    rw (c.in-Text.is, c.in-Text-subject.is) (does_is (no_message (evals c.args.self.now.by.now.room) c.in-Text.to c.in-Text-subject.subject c.args.message.now [] c.in_default-message.not-Text) (does_unfit _ _ _ c.unfit.ensures))

pub returns-in_default-subject : goal.returns-in_default-subject
returns-in_default-subject g c =
    rw c.in-Text.is (does_is (no_subject (evals c.args.self.now.by.now.room) c.in-Text.to c.args.subject.now (tree_of c.args.message.now) [] c.in_default-subject.not-Text) (does_unfit _ _ _ c.unfit-in_default-subject.ensures))

pub returns-in_default : goal.returns-in_default
returns-in_default g c =
    does_is (no_address (evals c.args.self.now.by.now.room) c.args.to.now (tree_of c.args.subject.now) (tree_of c.args.message.now) [] c.in_default.not-Text) (does_unfit _ _ _ c.unfit-in_default.ensures)
