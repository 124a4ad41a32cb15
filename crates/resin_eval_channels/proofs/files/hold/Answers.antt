use mir.Val.{SFits}
use Rattle.resin_eval_queries.specs.Under.meaning_forms.Files.{to_hold}
use Rattle.resin_eval_queries.proofs.eval_nested_lemmas.Exits.{does_is}
use Rattle.resin_eval_queries.specs.Under.lstr.Texts.{bytes_of}
use Rattle.resin_eval_channels.specs.Held.{marked}
use Rattle.resin_eval_channels.proofs.Holding.{hold_lost}
use Rattle.std.proofs.Common.{ap, length, rules, sym, w64, ◌∙◌}
use Rattle.std.proofs.lemmas.Int.{to_z-of_z}
use Rattle.std.specs.Prelude.{zip}
use Rattle.resin_eval_channels.proofs.files.hold.Goals as goal

pub returns-in_err-bytes-clause-does : goal.returns-in_err-bytes-clause-does
returns-in_err-bytes-clause-does g c =
    hold_lost c.args.path.now c.args.flags (zip (bytes_of c.args.kept.now) c.args.marks) marked _ c.from_residual.ensures.1

pub to_hold-requires : goal.to_hold-requires
to_hold-requires g c =
    ap length c.in_ok-bytes.ensures ∙ (ap length c.bytes.ensures ∙ c.requires)

pub returns-clause-does : goal.returns-clause-does
returns-clause-does g c =
    let fits : SFits w64 c.args.flags = search rules in
    does_is (λ i. to_hold c.args.path.now (sym (to_z-of_z w64 c.args.flags fits) i) (zip (sym (c.in_ok-bytes.ensures ∙ c.bytes.ensures) i) c.args.marks)) c.to_hold.ensures.does
