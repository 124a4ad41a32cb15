use Rattle.std.proofs.Common.{◌≡◌, ◌≤◌, ◌++◌, length, ap, ◌∙◌, sym, arith}
use Rattle.std.proofs.lemmas.List.{take_all}
use Rattle.std.proofs.lemmas.Result.{err_from_is_err_and}
use Rattle.resin_lstr.specs.Runs.{last_end, text_of}
use Rattle.resin_lstr.proofs.Spelled.{rises_more, end_more}
use Rattle.resin_lstr.proofs.Zips.{length_text}
use Rattle.resin_lstr.proofs.Pieces.{ends_within, fault_front}
use Rattle.resin_escape_fn.specs.Escapes.{escaped}
use Rattle.resin_escape_fn.specs.Rules.{rule_of}
use Rattle.resin_escape_fn.proofs.Walk.{escaped_run, escaped_front}
use Rattle.resin_escape_fn.proofs.escapes.append_runs_written.Goals as goal

pub append_run_written-requires-clause-ordered : goal.append_run_written-requires-clause-ordered
append_run_written-requires-clause-ordered c =
    omega (arith, rises_more c.args.runs.now c.loop-run.run-index c.run-item.result c.requires.coalesced c.loop-run-test.true, ap (λ r. r.end) c.run-item.is, c.loop-run.invariant.at)

pub append_run_written-requires-clause-within : goal.append_run_written-requires-clause-within
append_run_written-requires-clause-within c =
    omega (arith, ends_within c.args.bytes.now c.args.runs.now c.requires c.loop-run.run-index c.run-item.result c.loop-run-test.true, ap (λ r. r.end) c.run-item.is)

pub returns-in_err-out : goal.returns-in_err-out
returns-in_err-out c =
    let whole = text_of c.args.bytes.now c.args.runs.now in
    let rule = rule_of c.args.how in
    let p = err_from_is_err_and c.from_residual.result c.from_residual.ensures.1 in
    rw (p.1, p.2)
    (fault_front _ _ (c.args.out ++ escaped rule whole)
    (omega (
      arith,
      ap length (escaped_run c.args.bytes.now c.args.runs.now c.requires c.loop-run.run-index c.run-item.result c.loop-run-test.true c.run-item.is rule c.loop-run.from c.args.out c.loop-run.out c.loop-run.invariant.at c.loop-run.invariant.is),
      escaped_front rule c.args.out whole c.run-item.result.end,
    ))
    c.in_err-out.ensures)

pub loop-run-preserved : goal.loop-run-preserved
loop-run-preserved c = record {
  at = ap (λ r. r.end) c.run-item.is ∙ sym (end_more c.args.runs.now c.loop-run.run-index c.run-item.result c.requires.coalesced c.loop-run-test.true);
  is = c.in_ok-out.ensures.0
      ∙ escaped_run c.args.bytes.now c.args.runs.now c.requires c.loop-run.run-index c.run-item.result c.loop-run-test.true c.run-item.is (rule_of c.args.how) c.loop-run.from c.args.out c.loop-run.out c.loop-run.invariant.at c.loop-run.invariant.is;
  short = omega (arith, c.in_ok-out.ensures.1, ap length c.in_ok-out.ensures.0);
}

pub returns : goal.returns
returns c =
    let whole = text_of c.args.bytes.now c.args.runs.now in
    let rule = rule_of c.args.how in
    let end : length (text_of c.args.bytes.now c.args.runs.now) ≤ c.loop-run.from
    = omega (arith, c.loop-run.invariant.at, ap (last_end 0) (take_all c.loop-run.run-index c.args.runs.now (omega arith)), c.requires.last, length_text c.args.bytes.now c.args.runs.now c.requires) in
    let is : c.loop-run.out ≡ c.args.out ++ escaped (rule_of c.args.how) (text_of c.args.bytes.now c.args.runs.now)
    = c.loop-run.invariant.is ∙ ap (λ t. c.args.out ++ escaped rule t) (take_all c.loop-run.from whole end) in
    (is, omega (arith, ap length is, c.loop-run.invariant.short))
