use Rattle.resin_eval_merges.specs.Under.builtin.declared.builtin.Builtin.TheVariants.{Intval}
use Rattle.resin_eval_merges.specs.Under.meaning_forms.Functions.{answer_set}
use Rattle.resin_eval_merges.specs.Under.meaning_forms.Programs.{evals}
use Rattle.resin_eval_functions.proofs.Places.{no_text_first}
use Rattle.resin_eval_merges.proofs.eval_nested_lemmas.Arms.{does_given}
use Rattle.resin_eval_merges.proofs.eval_nested_lemmas.Arguments.{empty_list, opened}
use Rattle.resin_eval_merges.proofs.eval_nested_lemmas.Exits.{does_is}
use Rattle.resin_eval_merges.specs.Under.value.Seen.{trees_of}
use Rattle.resin_eval_merges.specs.Under.value.declared.value.Value.{Value}
use Rattle.std.proofs.Common.{List, ap, ◌∙◌}
use Rattle.resin_eval_functions.proofs.arguments.Builtins.text_set.Goals as goal

pub returns-in_default : goal.returns-in_default
returns-in_default g c =
    does_is (ap (λ (xs : List Value). answer_set (evals c.args.self.now.by.now.room) Intval (trees_of xs)) (empty_list _ c.in_default.len_below)) (does_given _ _ c.empty.ensures)

pub returns-in-Text : goal.returns-in-Text
returns-in-Text g c =
    does_is (ap (λ (xs : List Value). answer_set (evals c.args.self.now.by.now.room) Intval (trees_of xs)) (opened _ _ c.in-len1-up.len_at_least c.first-item.is)) (rw c.in-Text.is c.folded.ensures)

pub returns-in_default-first : goal.returns-in_default-first
returns-in_default-first g c =
    does_is ((ap (λ (xs : List Value). answer_set (evals c.args.self.now.by.now.room) Intval (trees_of xs)) (opened _ _ c.in-len1-up.len_at_least c.first-item.is)) ∙ no_text_first (evals c.args.self.now.by.now.room) _ _ c.in_default-first.not-Text) (does_given _ _ c.empty-in_default-first.ensures)
