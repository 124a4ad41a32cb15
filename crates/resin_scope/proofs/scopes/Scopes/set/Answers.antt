use Rattle.std.proofs.Common.{ap, sym, subst, ◌∙◌, length}
use Rattle.std.specs.Prelude.{IsTrue}
use Rattle.std.proofs.lemmas.List.{length-reverse}
use Rattle.resin_scope.specs.Frames.{Frames, is_own, assigned}
use Rattle.resin_scope.proofs.StackLemmas.{set_done}
use Rattle.std.proofs.lemmas.Result.{on_ok_weaker}
use Rattle.resin_scope.proofs.scopes.Scopes.set.Goals as goal

pub returns-in-Some-clause-ok : goal.returns-in-Some-clause-ok
returns-in-Some-clause-ok c =
    let xs = c.self.inside.calls.items in
    let last = c.in-Some.ensures.0 ∙ ap (λ (s : Frames). length s.calls) (sym c.self.view_is) ∙ length-reverse xs in
    let own = subst (λ (s : Frames). IsTrue (is_own c.args.name.now s.calls)) (sym c.self.view_is) c.in-Some.ensures.1 in
    on_ok_weaker c.set.result
    (λ e. set_done c.args.name.now c.self.inside.top xs c.in-Some.i last c.index_mut.result.now c.set.new.self c.index_mut.ensures.value c.args.v own e
    ∙ ap (assigned c.args.name.now c.args.v) c.self.view_is)
    c.set.ensures.ok
