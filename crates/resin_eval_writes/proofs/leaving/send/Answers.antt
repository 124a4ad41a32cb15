use Rattle.resin_eval_nested.proofs.meaning_lemmas.Composition.{does_act, does_loosely, does_unbegun_exit}
use Rattle.resin_eval_writes.proofs.WriteLemmas.{line_sent, line_unsent}
use Rattle.std.proofs.Common.{sym, ◌∙◌}
use Rattle.resin_eval_writes.proofs.leaving.send.Goals as goal

pub send_status-requires-clause-told : goal.send_status-requires-clause-told
send_status-requires-clause-told c =
    rw c.in-Status.is at c.requires.told

pub returns-in-Page : goal.returns-in-Page
returns-in-Page c =
    rw c.in-Page.is (λ f t k. does_loosely _ f t k c.send_page.ensures.acts)

pub returns-in_err-h-in-Header : goal.returns-in_err-h-in-Header
returns-in_err-h-in-Header c =
    rw c.in-Header.is (λ f t k. does_unbegun_exit _ _ _ c.from_residual.ensures.1)

pub send_header-requires-clause-line : goal.send_header-requires-clause-line
send_header-requires-clause-line c =
    rw (c.as_slice.ensures, c.as_slice-in-Some.ensures) (sym (rw c.bytes.ensures at c.in_ok-h-in-Header.ensures) ∙ c.in-Some.is)

pub returns-in-Some : goal.returns-in-Some
returns-in-Some c =
    rw c.in-Header.is
    (line_sent c.args.write c.args.text c.in-Header.replace _ c.in-Some.h _ _ _ (rw c.bytes.ensures at c.in_ok-h-in-Header.ensures) c.in-Some.is
    (rw (c.as_slice.ensures, c.as_slice-in-Some.ensures) at c.send_header.ensures.acts))

pub returns-in-None : goal.returns-in-None
returns-in-None c =
    rw c.in-Header.is (line_unsent c.args.write c.args.text c.in-Header.replace _ _ _ _ (rw c.bytes.ensures at c.in_ok-h-in-Header.ensures) c.in-None.is c.throw.ensures.acts)

pub returns-in-Status : goal.returns-in-Status
returns-in-Status c =
    rw c.in-Status.is (λ f t k. does_act _ f t k c.send_status.ensures.acts)

pub returns-in-Mail : goal.returns-in-Mail
returns-in-Mail c =
    rw c.in-Mail.is (λ f t k. does_loosely _ f t k c.send_mail.ensures.acts)
