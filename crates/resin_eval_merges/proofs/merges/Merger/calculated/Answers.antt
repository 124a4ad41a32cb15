use Rattle.resin_eval_nested.proofs.meaning_lemmas.Composition.{does_exit, does_give, does_loosely, does_next}
use Rattle.std.proofs.Common.{rules, w64}
use Rattle.std.proofs.lemmas.Int.{to_z-of_z}
use mir.Val.{SFits}
use Rattle.resin_eval_merges.proofs.merges.Merger.calculated.Goals as goal

pub returns-in_err-a : goal.returns-in_err-a
returns-in_err-a g c =
    does_exit _ _ _ c.from_residual.ensures.1 (does_loosely _ _ _ _ (rw (c.ruled.ensures, c.to_number.ensures) at c.in_err-a.ensures.acts))

pub returns-in_err-b : goal.returns-in_err-b
returns-in_err-b g c =
    does_next _ _ (does_loosely _ _ _ _ (rw (c.ruled.ensures, c.to_number.ensures) at c.in_ok-a.ensures.acts)) (does_exit _ _ _ c.from_residual-in_err-b.ensures.1 (does_loosely _ _ _ _ (rw (c.ruled-2.ensures, c.to_number-2.ensures) at c.in_err-b.ensures.acts)))

pub returns-in_err-n : goal.returns-in_err-n
returns-in_err-n g c =
    let f0 : SFits w64 c.in_ok-a.a = search rules in let f1 : SFits w64 c.in_ok-b.b = search rules in does_next _ _ (does_loosely _ _ _ _ (rw (c.ruled.ensures, c.to_number.ensures) at c.in_ok-a.ensures.acts)) (does_next _ _ (does_loosely _ _ _ _ (rw (c.ruled-2.ensures, c.to_number-2.ensures) at c.in_ok-b.ensures.acts)) (does_exit _ _ _ c.from_residual-in_err-n.ensures.1 (does_loosely _ _ _ _ (rw (c.arith.ensures, to_z-of_z w64 c.in_ok-a.a f0, to_z-of_z w64 c.in_ok-b.b f1) at c.in_err-n.ensures.acts))))

pub returns-in_err-left : goal.returns-in_err-left
returns-in_err-left g c =
    let f0 : SFits w64 c.in_ok-a.a = search rules in let f1 : SFits w64 c.in_ok-b.b = search rules in does_next _ _ (does_loosely _ _ _ _ (rw (c.ruled.ensures, c.to_number.ensures) at c.in_ok-a.ensures.acts)) (does_next _ _ (does_loosely _ _ _ _ (rw (c.ruled-2.ensures, c.to_number-2.ensures) at c.in_ok-b.ensures.acts)) (does_next _ _ (does_loosely _ _ _ _ (rw (c.arith.ensures, to_z-of_z w64 c.in_ok-a.a f0, to_z-of_z w64 c.in_ok-b.b f1) at c.in_ok-n.ensures.acts)) (does_exit _ _ _ c.from_residual-in_err-left.ensures.1 (c.in_err-left.ensures))))

pub returns-in_err-right : goal.returns-in_err-right
returns-in_err-right g c =
    let f0 : SFits w64 c.in_ok-a.a = search rules in let f1 : SFits w64 c.in_ok-b.b = search rules in does_next _ _ (does_loosely _ _ _ _ (rw (c.ruled.ensures, c.to_number.ensures) at c.in_ok-a.ensures.acts)) (does_next _ _ (does_loosely _ _ _ _ (rw (c.ruled-2.ensures, c.to_number-2.ensures) at c.in_ok-b.ensures.acts)) (does_next _ _ (does_loosely _ _ _ _ (rw (c.arith.ensures, to_z-of_z w64 c.in_ok-a.a f0, to_z-of_z w64 c.in_ok-b.b f1) at c.in_ok-n.ensures.acts)) (does_next _ _ (c.in_ok-left.ensures) (does_exit _ _ _ c.from_residual-in_err-right.ensures.1 (c.in_err-right.ensures)))))

pub returns-in_err-set : goal.returns-in_err-set
returns-in_err-set g c =
    let f0 : SFits w64 c.in_ok-a.a = search rules in let f1 : SFits w64 c.in_ok-b.b = search rules in does_next _ _ (does_loosely _ _ _ _ (rw (c.ruled.ensures, c.to_number.ensures) at c.in_ok-a.ensures.acts)) (does_next _ _ (does_loosely _ _ _ _ (rw (c.ruled-2.ensures, c.to_number-2.ensures) at c.in_ok-b.ensures.acts)) (does_next _ _ (does_loosely _ _ _ _ (rw (c.arith.ensures, to_z-of_z w64 c.in_ok-a.a f0, to_z-of_z w64 c.in_ok-b.b f1) at c.in_ok-n.ensures.acts)) (does_next _ _ (c.in_ok-left.ensures) (does_next _ _ (c.in_ok-right.ensures) (does_exit _ _ _ c.from_residual-in_err-set.ensures.1 (c.in_err-set.ensures))))))

pub returns : goal.returns
returns g c =
    let f0 : SFits w64 c.in_ok-a.a = search rules in let f1 : SFits w64 c.in_ok-b.b = search rules in let f2 : SFits w64 c.in_ok-n.n = search rules in rw (to_z-of_z w64 c.in_ok-n.n f2) (does_next _ _ (does_loosely _ _ _ _ (rw (c.ruled.ensures, c.to_number.ensures) at c.in_ok-a.ensures.acts)) (does_next _ _ (does_loosely _ _ _ _ (rw (c.ruled-2.ensures, c.to_number-2.ensures) at c.in_ok-b.ensures.acts)) (does_next _ _ (does_loosely _ _ _ _ (rw (c.arith.ensures, to_z-of_z w64 c.in_ok-a.a f0, to_z-of_z w64 c.in_ok-b.b f1) at c.in_ok-n.ensures.acts)) (does_next _ _ (c.in_ok-left.ensures) (does_next _ _ (c.in_ok-right.ensures) (does_next _ _ (c.in_ok-set.ensures) (does_give _ _)))))))
