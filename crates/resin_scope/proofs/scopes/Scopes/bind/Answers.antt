use Rattle.std.proofs.Common.{ap, ◌∙◌}
use Rattle.resin_scope.specs.Frames.{with_bound}
use Rattle.resin_scope.proofs.StackLemmas.{last_place, bound_done}
use Rattle.std.proofs.lemmas.Result.{on_ok_weaker}
use Rattle.resin_scope.proofs.scopes.Scopes.bind.Goals as goal

pub returns-clause-ok : goal.returns-clause-ok
returns-clause-ok c =
    let xs = c.self.inside.calls.items in
    let last = last_place _ c.len-innermost.result _ _ c.is_empty.ensures c.if-is_empty.false c.len-innermost.ensures c.self.inside.calls.ok.0 in
    on_ok_weaker c.bind.result
    (λ e. bound_done c.args.name.now c.self.inside.top xs _ last c.index_mut.result.now c.bind.new.self c.index_mut.ensures.value e
    ∙ ap (with_bound c.args.name.now) c.self.view_is)
    c.bind.ensures.ok
