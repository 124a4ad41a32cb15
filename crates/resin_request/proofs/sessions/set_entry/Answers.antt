use Rattle.std.proofs.Common.{ap, sym, ◌∙◌, length}
use Rattle.resin_interp.proofs.meaning_lemmas.Composition.{does_act, does_exit, does_lost_exit, does_next}
use Rattle.resin_request.proofs.Stored.{size_is}
use Rattle.resin_request.proofs.sessions.set_entry.Goals as goal

pub returns-in_err-charge_bytes : goal.returns-in_err-charge_bytes
returns-in_err-charge_bytes c = λ f t k.
    does_exit _ _ _ c.from_residual.ensures.1 (does_act _ f t k (rw (ap length c.as_slice.ensures ∙ sym (size_is c.args.e.now)) at c.in_err-charge_bytes.ensures))

pub returns-in_err-text : goal.returns-in_err-text
returns-in_err-text c = λ f t k.
    does_next _ _ (does_act _ f t k (rw (ap length c.as_slice.ensures ∙ sym (size_is c.args.e.now)) at c.in_ok-charge_bytes.ensures))
    (does_exit _ _ _ c.from_residual-in_err-text.ensures.1 (c.in_err-text.ensures f t k))

pub returns-in_err-kept : goal.returns-in_err-kept
returns-in_err-kept c = λ f t k.
    does_next _ _ (does_act _ f t k (rw (ap length c.as_slice.ensures ∙ sym (size_is c.args.e.now)) at c.in_ok-charge_bytes.ensures))
    (does_lost_exit _ _ _ c.from_residual-in_err-kept.ensures.1 (c.in_ok-text.ensures f t k))

pub returns : goal.returns
returns c = λ f t k.
    does_next _ _ (does_act _ f t k (rw (ap length c.as_slice.ensures ∙ sym (size_is c.args.e.now)) at c.in_ok-charge_bytes.ensures))
    (does_next _ _ (c.in_ok-text.ensures f t k) (rw c.in_ok-kept.ensures.read at (c.set_kept.ensures f t k)))
