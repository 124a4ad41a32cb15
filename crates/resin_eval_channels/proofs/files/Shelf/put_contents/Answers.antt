use mir.Val.{SFits}
use Rattle.resin_eval_queries.specs.Under.heap.declared.prelude.PreludeClass.TheVariants.{ValueError}
use Rattle.resin_eval_queries.specs.Under.meaning_forms.Files.{is_flag, put_data}
use Rattle.resin_eval_queries.specs.Under.meaning_forms.Programs.{evals}
use Rattle.resin_eval_queries.proofs.eval_nested_lemmas.Arms.{does_no, does_yes}
use Rattle.resin_eval_queries.proofs.eval_nested_lemmas.Exits.{does_is}
use Rattle.resin_eval_queries.proofs.step_parts_lemmas.Steps.{thrown_seen}
use Rattle.std.proofs.Common.{ap, rules, sym, w64, ℤ, ◌∙◌}
use Rattle.std.proofs.lemmas.Int.{to_z-of_z}
use Rattle.resin_eval_channels.proofs.files.Shelf.put_contents.Goals as goal

pub returns-then-not-lawful_path : goal.returns-then-not-lawful_path
returns-then-not-lawful_path g c =
    does_no _ _ _ (sym c.lawful_path.ensures ∙ c.if-not-lawful_path.true) (thrown_seen _ ValueError _ _ _ c.throw.ensures.acts _ _ _)

pub returns-then-not-is_flag : goal.returns-then-not-is_flag
returns-then-not-is_flag g c =
    let fits : SFits w64 c.args.flags = search rules in
    does_yes _ _ _ (sym c.lawful_path.ensures ∙ c.if-not-lawful_path.false) (does_no _ _ _ (ap (λ (n : ℤ). is_flag n) (sym (to_z-of_z w64 c.args.flags fits)) ∙ (sym c.is_flag.ensures ∙ c.if-not-is_flag.true)) (thrown_seen _ ValueError _ _ _ c.throw-then-not-is_flag.ensures.acts _ _ _))

pub returns : goal.returns
returns g c =
    let fits : SFits w64 c.args.flags = search rules in
    does_yes _ _ _ (sym c.lawful_path.ensures ∙ c.if-not-lawful_path.false) (does_yes _ _ _ (ap (λ (n : ℤ). is_flag n) (sym (to_z-of_z w64 c.args.flags fits)) ∙ (sym c.is_flag.ensures ∙ c.if-not-is_flag.false)) (does_is (ap (λ (n : ℤ). put_data (evals c.args.self.now.by.now.room) c.args.path.now c.args.text.now n) (sym (to_z-of_z w64 c.args.flags fits))) c.put_data.ensures))
