use Rattle.std.proofs.Common.{ap, ◌∙◌}
use Rattle.resin_scope.specs.Frames.{without_name}
use Rattle.resin_scope.proofs.StackLemmas.{last_place, unset_done}
use Rattle.resin_scope.proofs.scopes.Scopes.unset.Goals as goal

pub returns-else-is_empty : goal.returns-else-is_empty
returns-else-is_empty c =
    let xs = c.self.inside.calls.items in
    let last = last_place _ c.len-innermost.result _ _ c.is_empty.ensures c.if-is_empty.false c.len-innermost.ensures c.self.inside.calls.ok.0 in
    unset_done c.args.name.now c.self.inside.top xs _ last c.index_mut.result.now c.unset.new.self c.index_mut.ensures.value c.unset.ensures
    ∙ ap (without_name c.args.name.now) c.self.view_is
