use Rattle.std.proofs.Common.{◌++◌, sym, ap, ◌∙◌, arith}
use Rattle.std.specs.Prelude.{replicate}
use Rattle.resin_label.specs.Sets.{NumberSet, remove}
use Rattle.resin_lstr.specs.Runs.{spell}
use Rattle.resin_lstr.proofs.Spelled.{rises_more, end_more, mapped}
use Rattle.resin_lstr.proofs.runs.runs_without.Goals as goal

pub push_run-requires-clause-rises : goal.push_run-requires-clause-rises
push_run-requires-clause-rises c =
    omega (arith, rises_more c.args.runs.now c.loop-run.run-index c.run-item.result c.requires c.loop-run-test.true, ap (λ r. r.end) c.run-item.is, c.loop-run.invariant.ends)

pub loop-run-preserved : goal.loop-run-preserved
loop-run-preserved c = record {
  coalesced = c.in_ok-push_run.ensures.coalesced;
  ends = c.in_ok-push_run.ensures.ends ∙ ap (λ r. r.end) c.run-item.is ∙ sym (end_more c.args.runs.now c.loop-run.run-index c.run-item.result c.requires c.loop-run-test.true);
  spelled = mapped c.args.runs.now c.loop-run.run-index c.run-item.result c.requires c.loop-run-test.true
      (λ (s : NumberSet). remove s c.args.n) (spell 0 c.loop-run.out.items) (spell 0 c.push_run.new.runs.items) c.in_ok-without.field-0
      (c.in_ok-without.ensures ∙ ap (λ r. remove r.set c.args.n) c.run-item.is) c.loop-run.invariant.spelled
      (c.in_ok-push_run.ensures.spelled ∙ ap (λ n. spell 0 c.loop-run.out.items ++ replicate n c.in_ok-without.field-0) (omega (arith, ap (λ r. r.end) c.run-item.is, c.loop-run.invariant.ends)));
}
