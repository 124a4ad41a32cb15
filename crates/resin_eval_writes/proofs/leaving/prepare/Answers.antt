use Rattle.resin_eval_nested.proofs.meaning_lemmas.Composition.{does_give, does_unbegun_exit}
use Rattle.resin_eval_writes.proofs.WriteLemmas.{line_passes, line_throws}
use Rattle.resin_eval_writes.proofs.leaving.prepare.Goals as goal

pub returns-in-Page : goal.returns-in-Page
returns-in-Page c =
    rw c.in-Page.is (λ f t k. does_give _ _)

pub returns-in-Status : goal.returns-in-Status
returns-in-Status c =
    rw c.in-Status.is (λ f t k. does_give _ _)

pub returns-in_err-header_line-in-Header : goal.returns-in_err-header_line-in-Header
returns-in_err-header_line-in-Header c =
    rw c.in-Header.is (λ f t k. does_unbegun_exit _ _ _ c.from_residual.ensures.1)

pub returns-in-Some : goal.returns-in-Some
returns-in-Some c =
    rw c.in-Header.is (line_passes c.args.text _ _ _ (rw c.bytes.ensures at c.in_ok-header_line-in-Header.ensures) c.in-Some.is)

pub returns-in-None : goal.returns-in-None
returns-in-None c =
    rw c.in-Header.is (line_throws c.args.text _ _ _ _ (rw c.bytes.ensures at c.in_ok-header_line-in-Header.ensures) c.in-None.is c.throw.ensures.acts)

pub returns-in-Mail : goal.returns-in-Mail
returns-in-Mail c =
    rw c.in-Mail.is c.joined_mail.ensures
