use Rattle.resin_eval_merges.specs.Under.builtin.declared.builtin.Builtin.TheVariants.{Intdiv}
use Rattle.resin_eval_merges.specs.Under.meaning_forms.Functions.{answer_set}
use Rattle.resin_eval_merges.specs.Under.meaning_forms.Programs.{evals}
use Rattle.resin_eval_functions.proofs.Places.{no_short_quotient, quotient_more}
use Rattle.resin_eval_merges.proofs.eval_nested_lemmas.Arms.{does_given}
use Rattle.resin_eval_functions.proofs.Counts.{opened_twice}
use Rattle.resin_eval_merges.proofs.eval_nested_lemmas.Exits.{does_is}
use Rattle.resin_eval_merges.specs.Under.value.Seen.{trees_of}
use Rattle.resin_eval_merges.specs.Under.value.declared.value.Value.{Value}
use Rattle.std.proofs.Common.{List, ap, ◌∙◌}
use Rattle.std.proofs.lemmas.List.{length-map}
use Rattle.resin_eval_functions.proofs.arguments.Builtins.quotients_set.Goals as goal

pub returns-in-len2-up : goal.returns-in-len2-up
returns-in-len2-up g c =
    does_is ((ap (λ (xs : List Value). answer_set (evals c.args.self.now.by.now.room) Intdiv (trees_of xs)) (opened_twice _ _ _ c.in-len2-up.len_at_least c.a-item.is c.b-item.is)) ∙ quotient_more (evals c.args.self.now.by.now.room) _ _ _) c.quotient_set.ensures

pub returns-in_default : goal.returns-in_default
returns-in_default g c =
    does_is (no_short_quotient (evals c.args.self.now.by.now.room) _ (rw (length-map) c.in_default.len_below)) (does_given _ _ c.empty.ensures)
