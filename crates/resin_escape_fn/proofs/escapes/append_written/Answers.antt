use Rattle.std.proofs.Common.{◌++◌, length, ap, subst, ◌∙◌, sym}
use Rattle.std.specs.List.{zip}
use Rattle.resin_lstr.specs.Texts.{bytes_of}
use Rattle.resin_lstr.specs.Runs.{AreRunsOf, text_of}
use Rattle.resin_lstr.proofs.Pieces.{gives_same}
use Rattle.resin_escape_fn.specs.Escapes.{escaped}
use Rattle.resin_escape_fn.specs.Rules.{rule_of}
use Rattle.resin_escape_fn.proofs.Walk.{text_again, length-bytes_of}
use Rattle.resin_escape_fn.proofs.escapes.append_written.Goals as goal

pub append_runs_written-requires : goal.append_runs_written-requires
append_runs_written-requires c =
    subst (λ n. AreRunsOf n c.runs.result.now) (sym (ap length c.bytes.ensures ∙ length-bytes_of c.args.s.now)) c.runs.ensures.runs

pub returns : goal.returns
returns c =
    gives_same c.append_runs_written.result
    (ap (λ t. c.args.out ++ escaped (rule_of c.args.how) t)
    (ap (λ bs. text_of bs c.runs.result.now) c.bytes.ensures ∙ ap (zip (bytes_of c.args.s.now)) c.runs.ensures.spelled ∙ text_again c.args.s.now))
    c.append_runs_written.ensures
