use Rattle.std.proofs.Common.{rules, ◌≡◌, ap, ◌∙◌}
use Rattle.std.proofs.lemmas.Fn.{filter_same}
use Rattle.resin_scope.specs.Chained.{without_filter}
use Rattle.resin_scope.proofs.chains.Chain.take_out.Goals as goal

pub returns : goal.returns
returns c =
    let kept : c.retain.new.self.items ≡ without_filter c.args.f c.self.inside.filters.items =
    filter_same _ _ _ (λ x b f' k. search rules) _ _ c.retain.ensures.filtered in
    kept ∙ ap (without_filter c.args.f) c.self.view_is
