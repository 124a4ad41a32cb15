use Rattle.std.proofs.Common.{ap, sym, subst, ◌∙◌}
use Rattle.std.specs.Prelude.{IsTrue}
use Rattle.std.specs.FinMap.{contains_key}
use Rattle.resin_scope.specs.Chained.{appended_to_function}
use Rattle.resin_scope.specs.contracts.chains.Chains.{the_view}
use Rattle.resin_scope.proofs.ChainLemmas.{has_inserted, longer, unchanged}
use Rattle.std.proofs.lemmas.Result.{on_ok_weaker, on_err_weaker}
use Rattle.resin_scope.proofs.chains.Chains.append_func.Goals as goal

pub exchange-empty-requires : goal.exchange-empty-requires
exchange-empty-requires c =
    subst (λ m. IsTrue (contains_key m c.args.name.now)) (sym c.exchange-chain.ensures.after) (has_inserted c.self.inside.functions c.args.name.now _)

pub returns-then-has-clause-ok : goal.returns-then-has-clause-ok
returns-then-has-clause-ok c =
    on_ok_weaker c.push-answer.result
    (λ e. longer (the_view c.self.inside) c.args.name.now c.exchange-chain.result _ c.push-answer.new.self c.exchange-chain.new.self c.exchange-empty.new.self
    c.exchange-chain.ensures.was c.exchange-chain.ensures.after c.exchange-empty.ensures.after c.args.f e
    ∙ ap (appended_to_function c.args.name.now c.args.f) c.self.view_is)
    c.push-answer.ensures.ok

pub returns-then-has-clause-err : goal.returns-then-has-clause-err
returns-then-has-clause-err c =
    on_err_weaker c.push-answer.result
    (λ e. unchanged (the_view c.self.inside) c.args.name.now c.exchange-chain.result _ c.push-answer.new.self c.exchange-chain.new.self c.exchange-empty.new.self
    c.exchange-chain.ensures.was c.exchange-chain.ensures.after c.exchange-empty.ensures.after e
    ∙ c.self.view_is)
    c.push-answer.ensures.err
