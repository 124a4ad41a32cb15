use Rattle.std.proofs.Common.{◌∙◌, ap, map}
use Rattle.std.proofs.lemmas.Result.{IfOk-weaker}
use Rattle.resin_scope.proofs.StandingLemmas.{header_of}
use Rattle.resin_scope.proofs.headers.Headers.into_list.Goals as goal

pub returns : goal.returns
returns c = IfOk-weaker c.list_of.result _ _ (λ list is. is ∙ ap (map header_of) c.sweep.ensures ∙ c.self.view_is) c.list_of.ensures
