use Rattle.resin_eval_queries.specs.Under.label.Sets.{empty as no_labels}
use Rattle.resin_eval_queries.specs.Under.value.Trees.{integer}
use Rattle.resin_eval_queries.specs.Under.value.Seen.{tree_of}
use Rattle.resin_eval_queries.proofs.eval_nested_lemmas.Arms.{does_given}
use Rattle.resin_eval_queries.proofs.eval_nested_lemmas.Exits.{does_seen_exit, does_seen_unbegun}
use Rattle.resin_eval_queries.proofs.meaning_lemmas.Composition.{does_next}
use Rattle.resin_eval_channels.proofs.Holding.{are_written}
use Rattle.std.proofs.Common.{ap, arith, length, pos, w64, ◌<◌, ◌^◌, rules, ℤ, ◌∙◌}
use Rattle.std.proofs.lemmas.Int.{to_z_pos}
use Rattle.resin_eval_channels.proofs.files.write_held.Goals as goal

pub returns-in_err-shadow : goal.returns-in_err-shadow
returns-in_err-shadow g c =
    does_seen_unbegun _ _ _ _ c.from_residual.ensures.1

pub returns-in_err-write_file : goal.returns-in_err-write_file
returns-in_err-write_file g c =
    let short : length c.as_slice-2.result.now < 2 ^ 64 = search rules in
    let d = are_written c.args.held.now _ _ c.requires c.len.ensures.marks c.as_slice.ensures (c.as_slice-2.ensures ∙ c.in_ok-shadow.ensures) short in
    does_seen_exit _ _ _ _ c.from_residual-in_err-write_file.ensures.1 (c.in_err-write_file.ensures _ d)

pub returns : goal.returns
returns g c =
    let short : length c.as_slice-2.result.now < 2 ^ 64 = search rules in
    let d = are_written c.args.held.now _ _ c.requires c.len.ensures.marks c.as_slice.ensures (c.as_slice-2.ensures ∙ c.in_ok-shadow.ensures) short in
    does_next _ _ (c.in_ok-write_file.ensures _ d) (does_given _ _ (ap tree_of c.number.ensures ∙ ap (λ (n : ℤ). integer n no_labels) (to_z_pos w64 c.len-3.result (omega (arith, c.len-3.ensures.short)) ∙ ap pos c.len-3.ensures.value)))
