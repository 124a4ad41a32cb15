use mir.Val.{SFits}
use Rattle.resin_eval_queries.specs.Under.meaning_forms.Files.{append_flag}
use Rattle.resin_eval_queries.proofs.eval_nested_lemmas.Arms.{does_no, does_yes}
use Rattle.resin_eval_queries.proofs.eval_nested_lemmas.Exits.{does_seen_exit}
use Rattle.resin_eval_queries.proofs.meaning_lemmas.Composition.{does_give, does_next}
use Rattle.std.specs.Ordering.{int_eq}
use Rattle.std.proofs.Common.{ap, rules, sym, w64, ℤ, ◌∙◌}
use Rattle.std.proofs.lemmas.Int.{to_z-of_z}
use Rattle.resin_eval_channels.proofs.files.to_hold.Goals as goal

pub returns-then-not-is_append-clause-does : goal.returns-then-not-is_append-clause-does
returns-then-not-is_append-clause-does g c =
    let fits : SFits w64 c.args.flags = search rules in
    does_no _ _ _ (ap (λ (n : ℤ). int_eq n append_flag) (sym (to_z-of_z w64 c.args.flags fits)) ∙ (sym c.is_append.ensures ∙ c.if-not-is_append.true)) (does_give _ _)

pub returns-in_err-entry-clause-does : goal.returns-in_err-entry-clause-does
returns-in_err-entry-clause-does g c =
    let fits : SFits w64 c.args.flags = search rules in
    does_yes _ _ _ (ap (λ (n : ℤ). int_eq n append_flag) (sym (to_z-of_z w64 c.args.flags fits)) ∙ (sym c.is_append.ensures ∙ c.if-not-is_append.false)) (does_seen_exit _ _ _ _ c.from_residual.ensures.1 c.in_err-entry.ensures)

pub returns-in-Some-clause-does : goal.returns-in-Some-clause-does
returns-in-Some-clause-does g c =
    let fits : SFits w64 c.args.flags = search rules in
    does_yes _ _ _ (ap (λ (n : ℤ). int_eq n append_flag) (sym (to_z-of_z w64 c.args.flags fits)) ∙ (sym c.is_append.ensures ∙ c.if-not-is_append.false)) (does_next _ _ c.in_ok-entry.ensures (rw c.in-Some.is (c.behind_held.ensures.does _ _ _)))

pub returns-in-None-clause-does : goal.returns-in-None-clause-does
returns-in-None-clause-does g c =
    let fits : SFits w64 c.args.flags = search rules in
    does_yes _ _ _ (ap (λ (n : ℤ). int_eq n append_flag) (sym (to_z-of_z w64 c.args.flags fits)) ∙ (sym c.is_append.ensures ∙ c.if-not-is_append.false)) (does_next _ _ c.in_ok-entry.ensures (rw c.in-None.is (does_give _ _)))
