use Rattle.resin_eval_merges.specs.Under.builtin.declared.builtin.Builtin.{Builtin}
use Rattle.resin_eval_merges.specs.Under.meaning_forms.Functions.{answer_set}
use Rattle.resin_eval_merges.specs.Under.meaning_forms.Programs.{evals}
use Rattle.resin_eval_functions.proofs.Places.{digest_set, other_set}
use Rattle.resin_eval_merges.proofs.eval_nested_lemmas.Arms.{does_given}
use Rattle.resin_eval_merges.proofs.eval_nested_lemmas.Exits.{does_is}
use Rattle.resin_eval_merges.specs.Under.value.Seen.{trees_of}
use Rattle.std.proofs.Common.{ap}
use Rattle.resin_eval_functions.proofs.arguments.Builtins.answer_set.Goals as goal

pub returns-in-Digest : goal.returns-in-Digest
returns-in-Digest g c =
    does_is (ap (λ (x : Builtin). answer_set (evals c.args.self.now.by.now.room) x (trees_of c.args.args.now)) c.in-Digest.is) (does_is (digest_set (evals c.args.self.now.by.now.room) c.in-Digest.field-0 (trees_of c.args.args.now)) c.text_set.ensures)

pub returns-in-Intval : goal.returns-in-Intval
returns-in-Intval g c =
    does_is (ap (λ (x : Builtin). answer_set (evals c.args.self.now.by.now.room) x (trees_of c.args.args.now)) c.in-Intval.is) c.text_set-in-Intval.ensures

pub returns-in-Intdiv : goal.returns-in-Intdiv
returns-in-Intdiv g c =
    does_is (ap (λ (x : Builtin). answer_set (evals c.args.self.now.by.now.room) x (trees_of c.args.args.now)) c.in-Intdiv.is) c.quotients_set.ensures

pub returns-in_default : goal.returns-in_default
returns-in_default g c =
    does_is (other_set (evals c.args.self.now.by.now.room) _ _ c.in_default.not-Digest c.in_default.not-Intval c.in_default.not-Intdiv) (does_given _ _ c.empty.ensures)
