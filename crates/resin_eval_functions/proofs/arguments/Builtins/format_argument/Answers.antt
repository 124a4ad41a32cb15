use Rattle.resin_eval_merges.proofs.eval_nested_lemmas.Arms.{does_given, does_no, does_yes}
use Rattle.resin_eval_merges.proofs.eval_nested_lemmas.Exits.{does_seen_none}
use Rattle.resin_eval_merges.specs.Under.value.Seen.{tree_of}
use Rattle.std.proofs.Common.{ap, sym, ◌∙◌}
use Rattle.resin_eval_functions.proofs.arguments.Builtins.format_argument.Goals as goal

pub returns-then-int_places : goal.returns-then-int_places
returns-then-int_places g c =
    does_yes _ _ _ (sym c.int_places.ensures ∙ c.if-int_places.true) c.cast_argument.ensures

pub returns-in_err-clone : goal.returns-in_err-clone
returns-in_err-clone g c =
    does_no _ _ _ (sym c.int_places.ensures ∙ c.if-int_places.false) (does_seen_none _ _ _ c.from_residual.ensures.1)

pub returns : goal.returns
returns g c =
    does_no _ _ _ (sym c.int_places.ensures ∙ c.if-int_places.false) (does_given _ _ (ap tree_of c.in_ok-clone.ensures.cases))
