use Rattle.std.proofs.Common.{ap, sym, arith, ◌+◌, ◌-◌}
use Rattle.resin_eval_calls.specs.Under.machine.Leaving.{close_buffer}
use Rattle.resin_eval_calls.specs.Under.meaning.Programs.{act}
use Rattle.resin_eval_calls.proofs.meaning_lemmas.Composition.{does_loosely, does_give, does_exit, does_lost_exit, leads_here, leads_next, leads_by}
use Rattle.resin_interp.specs.Pages.{close_more, with_closed}
use Rattle.resin_interp.proofs.Buffered.{close_first, close_next, close_last}
use Rattle.resin_interp.proofs.pages.close_all.Goals as goal

pub loop-init : goal.loop-init
loop-init c = λ f t k. leads_by _ _ _ (close_first c.args.count c.new-texts.result c.new-texts.ensures) (leads_here _ _)

pub loop-preserved : goal.loop-preserved
loop-preserved c = λ f t k. leads_by _ _ _ (ap (λ ts. close_more (c.args.count - (c.loop.counter + 1)) ts) (sym c.in_ok-texts.ensures)) (leads_next _ (act close_buffer) (λ x. close_more (c.args.count - (c.loop.counter + 1)) (with_closed c.loop.texts x)) (leads_by _ _ _ (close_next c.args.count c.loop.counter c.loop.texts c.loop-test.true) (c.loop.invariant f t k)) (does_loosely _ f t k c.in_ok-text.ensures.acts))

pub returns-in_err-text : goal.returns-in_err-text
returns-in_err-text c = λ f t k. (leads_by _ _ _ (close_next c.args.count c.loop.counter c.loop.texts c.loop-test.true) (c.loop.invariant f t k)).goes_on _ _ (does_exit _ _ _ c.from_residual.ensures.1 (does_loosely _ f t k c.in_err-text.ensures.acts))

pub returns-in_err-texts : goal.returns-in_err-texts
returns-in_err-texts c = λ f t k. (leads_by _ _ _ (close_next c.args.count c.loop.counter c.loop.texts c.loop-test.true) (c.loop.invariant f t k)).goes_on _ _ (does_lost_exit _ _ _ c.from_residual-in_err-texts.ensures.1 (does_loosely _ f t k c.in_ok-text.ensures.acts))

pub returns : goal.returns
returns c = λ f t k. (leads_by _ _ _ (close_last c.args.count c.loop.counter c.loop.texts (omega (arith, c.loop-test.false))) (c.loop.invariant f t k)).goes_on _ _ (does_give _ _)
