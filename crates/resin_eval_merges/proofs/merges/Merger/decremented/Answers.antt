use Rattle.resin_eval_nested.specs.Under.meaning_forms.Assignments.{decremented}
use Rattle.resin_eval_nested.specs.Under.meaning_forms.Programs.{evals}
use Rattle.resin_eval_nested.proofs.Arms.{does_faulted}
use Rattle.resin_eval_nested.proofs.Exits.{does_is}
use Rattle.resin_eval_merges.proofs.Others.{no_less}
use Rattle.resin_eval_nested.proofs.meaning_lemmas.Composition.{does_exit, does_give, does_loosely, does_next}
use Rattle.resin_eval_nested.specs.Under.value.declared.value.Value.{Value}
use Rattle.std.proofs.Common.{ap, rules, w64}
use Rattle.std.proofs.lemmas.Int.{to_z-of_z}
use mir.Val.{SFits}
use Rattle.resin_eval_merges.proofs.merges.Merger.decremented.Goals as goal

pub returns-in_err-n-in-Int : goal.returns-in_err-n-in-Int
returns-in_err-n-in-Int g c =
    let f0 : SFits w64 c.in-Int.n = search rules in does_is (ap (λ (x : Value). decremented (evals c.args.self.now.by.now.room) x) c.in-Int.is) (does_exit _ _ _ c.from_residual.ensures.1 (does_loosely _ _ _ _ (rw (c.arith.ensures, to_z-of_z w64 c.in-Int.n f0) at c.in_err-n-in-Int.ensures.acts)))

pub returns-in_err-set-in-Int : goal.returns-in_err-set-in-Int
returns-in_err-set-in-Int g c =
    let f0 : SFits w64 c.in-Int.n = search rules in does_is (ap (λ (x : Value). decremented (evals c.args.self.now.by.now.room) x) c.in-Int.is) (does_next _ _ (does_loosely _ _ _ _ (rw (c.arith.ensures, to_z-of_z w64 c.in-Int.n f0) at c.in_ok-n-in-Int.ensures.acts)) (does_exit _ _ _ c.from_residual-in_err-set-in-Int.ensures.1 (rw (c.empty-empty.ensures) at c.in_err-set-in-Int.ensures)))

pub returns-in_ok-set-in-Int : goal.returns-in_ok-set-in-Int
returns-in_ok-set-in-Int g c =
    let f0 : SFits w64 c.in-Int.n = search rules in let f1 : SFits w64 c.in_ok-n-in-Int.n = search rules in does_is (ap (λ (x : Value). decremented (evals c.args.self.now.by.now.room) x) c.in-Int.is) (rw (to_z-of_z w64 c.in_ok-n-in-Int.n f1) (does_next _ _ (does_loosely _ _ _ _ (rw (c.arith.ensures, to_z-of_z w64 c.in-Int.n f0) at c.in_ok-n-in-Int.ensures.acts)) (does_next _ _ (rw (c.empty-empty.ensures) at c.in_ok-set-in-Int.ensures) (does_give _ _))))

pub returns-in_default : goal.returns-in_default
returns-in_default g c =
    does_is (no_less (evals c.args.self.now.by.now.room) _ c.in_default.not-Int) (does_faulted _ _ c.fault.ensures)
