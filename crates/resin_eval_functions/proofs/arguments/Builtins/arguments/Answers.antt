use Rattle.resin_eval_merges.specs.Under.builtin.declared.builtin.Builtin.{Builtin}
use Rattle.resin_eval_merges.specs.Under.meaning_forms.Functions.{arguments}
use Rattle.resin_eval_merges.specs.Under.meaning_forms.Programs.{evals}
use Rattle.resin_eval_functions.proofs.Places.{by_place}
use Rattle.resin_eval_merges.proofs.eval_nested_lemmas.Exits.{does_is}
use Rattle.resin_eval_merges.specs.Under.value.Seen.{trees_of}
use Rattle.std.proofs.Common.{ap}
use Rattle.resin_eval_functions.proofs.arguments.Builtins.arguments.Goals as goal

pub format_arguments-requires-clause-format : goal.format_arguments-requires-clause-format
format_arguments-requires-clause-format g c =
    c.in-Sprintf.is

pub returns-in-Sprintf : goal.returns-in-Sprintf
returns-in-Sprintf g c =
    does_is (ap (λ (x : Builtin). arguments (evals c.args.self.now.by.now.room) x (trees_of c.args.args.now)) c.in-Sprintf.is) c.format_arguments.ensures

pub returns-in_default : goal.returns-in_default
returns-in_default g c =
    does_is (by_place (evals c.args.self.now.by.now.room) _ _ c.in_default.not-Sprintf) c.placed_arguments.ensures
