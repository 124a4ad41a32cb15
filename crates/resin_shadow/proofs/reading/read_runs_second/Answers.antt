use Rattle.std.proofs.Common.{◌≡◌, ◌-◌, ◌+◌, map, ap, arith, ◌∙◌}
use Rattle.resin_shadow.specs.Runs.{marks_of, set_of}
use Rattle.resin_shadow.specs.Readers.{times, run_set2, run_step}
use Rattle.resin_shadow.proofs.Kept.{kinds_kept}
use Rattle.resin_shadow.proofs.Loops.{turn}
use Rattle.resin_shadow.proofs.Tables.{kinds_same, kind_same}
use Rattle.resin_shadow.proofs.reading.read_runs_second.Goals as goal

pub loop-i-init : goal.loop-i-init
loop-i-init c = record {
  table = c.in_ok-none.ensures.table;
  kinds = kinds_kept c.args.table.now _ c.args.kinds.now c.in_ok-none.ensures.stays c.requires.kinds;
  none = c.in_ok-none.ensures.kind;
  empty = c.in_ok-none.ensures.set ∙ ap set_of c.new.ensures;
  reads = ap (λ n. times (run_step (run_set2 (map (λ k. k.set) c.args.kinds.now))) n (marks_of c.kind_of-2.new.self.runs.items) c.args.rest.now) (let e : c.args.count - 0 ≡ c.args.count = omega arith in e);
}

pub loop-i-preserved : goal.loop-i-preserved
loop-i-preserved c = record {
  table = c.read_run_second.ensures.table;
  kinds = kinds_same c.loop-i.table c.read_run_second.new.table c.args.kinds.now c.read_run_second.ensures.sets c.read_run_second.ensures.texts c.loop-i.invariant.kinds;
  none = kind_same c.loop-i.table c.read_run_second.new.table c.in_ok-none.none.number c.in_ok-none.none.set c.read_run_second.ensures.sets c.read_run_second.ensures.texts c.loop-i.invariant.none;
  empty = c.loop-i.invariant.empty;
  reads =
      turn (run_step (run_set2 (map (λ k. k.set) c.args.kinds.now))) (c.args.count - c.loop-i._i) (c.args.count - (c.loop-i._i + 1)) (marks_of c.loop-i.table.runs.items) (marks_of c.read_run_second.new.table.runs.items) c.loop-i.rest c.read_run_second.new.rest (omega (arith, c.loop-i-test.true)) c.in_ok-read_run_second.ensures.reads
      ∙ c.loop-i.invariant.reads;
}
