use Rattle.std.proofs.Common.{◌-◌, ◌+◌, [], map, arith, ◌∙◌}
use Rattle.std.proofs.lemmas.Result.{err_from_is_err_and}
use Rattle.std.specs.declared.alloc.Global.{Global}
use Rattle.resin_shadow.specs.Readers.{set_step}
use Rattle.resin_shadow.proofs.Loops.{turn}
use Rattle.resin_shadow.proofs.Turning.{kinds_fail}
use Rattle.resin_shadow.proofs.reading.read_sets.Goals as goal

pub loop-i-preserved : goal.loop-i-preserved
loop-i-preserved c = record {
  table = c.read_set.ensures.table;
  runs = c.read_set.ensures.runs ∙ c.loop-i.invariant.runs;
  kinds = c.read_set.ensures.kinds;
  reads =
      turn (set_step c.args.policies.now) (c.args.count - c.loop-i._i) (c.args.count - (c.loop-i._i + 1)) (map (λ k. k.set) c.loop-i.kinds.items) (map (λ k. k.set) c.read_set.new.kinds.items) c.loop-i.rest c.read_set.new.rest (omega (arith, c.loop-i-test.true)) c.in_ok-read_set.ensures.reads
      ∙ c.loop-i.invariant.reads;
}

pub returns-in_err-read_set-clause-reads : goal.returns-in_err-read_set-clause-reads
returns-in_err-read_set-clause-reads c =
    let p = err_from_is_err_and c.from_residual.result c.from_residual.ensures.1 in
    rw (p.1, p.2) (kinds_fail Global (set_step c.args.policies.now) (c.args.count - c.loop-i._i) c.args.count (map (λ k. k.set) c.loop-i.kinds.items) [] (map (λ k. k.set) c.read_set.new.kinds.items) c.loop-i.rest c.args.rest.now c.read_set.new.rest c.read_set.new.rest c.in_err-read_set.field-0.0
    (omega (arith, c.loop-i-test.true)) c.loop-i.invariant.reads c.in_err-read_set.ensures.reads)
