use Rattle.std.proofs.Common.{refl, ap, arith, ◌∙◌, length-take}
use Rattle.resin_serve.specs.Asked.{served}
use Rattle.resin_serve.proofs.Serve_runs.{begin_run, join_at, ends_bad, ends_long, ends_fault, ends_memory, ends_read, ends_trace, ends_numbers, ends_full, fed_run, falls_fed}
use Rattle.resin_serve.proofs.Ends.{ends_run}
use Rattle.resin_serve.proofs.Keeping.{kept_none, kept_then, passes}
use Rattle.resin_serve.proofs.serving.serve_trace.Goals as goal

pub reads-init : goal.reads-init
reads-init g c = record {
  service = refl;
  numbered = c.requires.numbered;
  faults = refl;
  buf = refl;
  kept = kept_none _;
  cause = refl;
  so_far = begin_run _ _ _ _ _ _ _ _ c.new-reader.ensures c.requires.number c.requires.new;
}

pub returns-in-Bad-clause-kept : goal.returns-in-Bad-clause-kept
returns-in-Bad-clause-kept g c = kept_then _ _ _ c.reads.invariant.kept c.in-Bad.ensures.kept

pub returns-in-Bad-clause-ran : goal.returns-in-Bad-clause-ran
returns-in-Bad-clause-ran g c = ends_bad _ _ _ _ _ _ _ _ _ _ _ _ (join_at _ _ _ _ _ _ _ _ _ _ _ _ _ _ _ _ _ _ c.reads.invariant.so_far (passes _ _ c.in-Bad.ensures.kept) (ap served c.reads.invariant.service) c.in-Bad.ensures.went)

pub returns-in-TooLong-clause-kept : goal.returns-in-TooLong-clause-kept
returns-in-TooLong-clause-kept g c = kept_then _ _ _ c.reads.invariant.kept c.in-TooLong.ensures.kept

pub returns-in-TooLong-clause-ran : goal.returns-in-TooLong-clause-ran
returns-in-TooLong-clause-ran g c = ends_long _ _ _ _ _ _ _ _ _ _ _ (join_at _ _ _ _ _ _ _ _ _ _ _ _ _ _ _ _ _ _ c.reads.invariant.so_far (passes _ _ c.in-TooLong.ensures.kept) (ap served c.reads.invariant.service) c.in-TooLong.ensures.went)

pub returns-in-Fault-clause-kept : goal.returns-in-Fault-clause-kept
returns-in-Fault-clause-kept g c = kept_then _ _ _ c.reads.invariant.kept c.in-Fault.ensures.kept

pub returns-in-Fault-clause-ran : goal.returns-in-Fault-clause-ran
returns-in-Fault-clause-ran g c = let j = join_at _ _ _ _ _ _ _ _ _ _ _ _ _ _ _ _ _ _ c.reads.invariant.so_far (passes _ _ c.in-Fault.ensures.kept) (ap served c.reads.invariant.service) c.in-Fault.ensures.went in ends_fault _ _ _ _ _ _ _ _ _ _ _ j.0

pub returns-in-Memory-clause-kept : goal.returns-in-Memory-clause-kept
returns-in-Memory-clause-kept g c = kept_then _ _ _ c.reads.invariant.kept c.in-Memory.ensures.kept

pub returns-in-Memory-clause-ran : goal.returns-in-Memory-clause-ran
returns-in-Memory-clause-ran g c = let j = join_at _ _ _ _ _ _ _ _ _ _ _ _ _ _ _ _ _ _ c.reads.invariant.so_far (passes _ _ c.in-Memory.ensures.kept) (ap served c.reads.invariant.service) c.in-Memory.ensures.went in ends_memory _ _ _ _ _ _ _ _ _ _ _ j.0

pub returns-in-Err-clause-kept : goal.returns-in-Err-clause-kept
returns-in-Err-clause-kept g c = kept_then _ _ _ c.reads.invariant.kept c.in-Wait.ensures.kept

pub returns-in-Err-clause-ran : goal.returns-in-Err-clause-ran
returns-in-Err-clause-ran g c = ends_read _ _ _ _ _ _ _ _ _ _ _ _ _ _ _ (join_at _ _ _ _ _ _ _ _ _ _ _ _ _ _ _ _ _ _ c.reads.invariant.so_far (passes _ _ c.in-Wait.ensures.kept) (ap served c.reads.invariant.service) c.in-Wait.ensures.went) c.in-Err.ensures.moved

pub returns-then-count-eq0-clause-serves : goal.returns-then-count-eq0-clause-serves
returns-then-count-eq0-clause-serves g c = ends_run _ _ c.finished.ensures

pub returns-then-count-eq0-clause-kept : goal.returns-then-count-eq0-clause-kept
returns-then-count-eq0-clause-kept g c = kept_then _ _ _ c.reads.invariant.kept c.in-Wait.ensures.kept

pub returns-then-count-eq0-clause-ran : goal.returns-then-count-eq0-clause-ran
returns-then-count-eq0-clause-ran g c = ends_trace _ _ _ _ _ _ _ _ _ _ _ _ _ _ _ _ (join_at _ _ _ _ _ _ _ _ _ _ _ _ _ _ _ _ _ _ c.reads.invariant.so_far (passes _ _ c.in-Wait.ensures.kept) (ap served c.reads.invariant.service) c.in-Wait.ensures.went) c.in-Ok.ensures.moved c.if-count-eq0.true c.finished.ensures

pub returns-then-count-eq0-clause-numbers : goal.returns-then-count-eq0-clause-numbers
returns-then-count-eq0-clause-numbers g c = λ all p. ends_numbers _ _ _ _ _ _ _ _ _ _ _ _ _ _ _ _ (join_at _ _ _ _ _ _ _ _ _ _ _ _ _ _ _ _ _ _ c.reads.invariant.so_far (passes _ _ c.in-Wait.ensures.kept) (ap served c.reads.invariant.service) c.in-Wait.ensures.went) c.in-Ok.ensures.moved c.if-count-eq0.true all p

pub returns-in_default-clause-kept : goal.returns-in_default-clause-kept
returns-in_default-clause-kept g c = kept_then _ _ _ c.reads.invariant.kept c.in-Wait.ensures.kept

pub returns-in_default-clause-ran : goal.returns-in_default-clause-ran
returns-in_default-clause-ran g c = ends_full _ _ _ _ _ _ _ _ _ _ _ _ _ _ _ (join_at _ _ _ _ _ _ _ _ _ _ _ _ _ _ _ _ _ _ c.reads.invariant.so_far (passes _ _ c.in-Wait.ensures.kept) (ap served c.reads.invariant.service) c.in-Wait.ensures.went) c.in-Ok.ensures.moved

pub reads-preserved : goal.reads-preserved
reads-preserved g c = record {
  service = c.in-Wait.ensures.service ∙ c.reads.invariant.service;
  numbered = c.in-Wait.ensures.numbered;
  faults = c.in-Ok.ensures.cause ∙ c.reads.invariant.faults;
  buf = c.take.auto.buf ∙ c.reads.invariant.buf;
  kept = kept_then _ _ _ c.reads.invariant.kept c.in-Wait.ensures.kept;
  cause = c.in-Wait.ensures.cause ∙ c.reads.invariant.cause;
  so_far = fed_run _ _ _ _ _ _ _ _ _ _ _ _ _ _ _ _ _ (join_at _ _ _ _ _ _ _ _ _ _ _ _ _ _ _ _ _ _ c.reads.invariant.so_far (passes _ _ c.in-Wait.ensures.kept) (ap served c.reads.invariant.service) c.in-Wait.ensures.went) c.in-Ok.ensures.moved refl (c.take.auto.buf ∙ c.reads.invariant.buf) c.in-Ok-take_in.ensures;
}

pub reads-smaller : goal.reads-smaller
reads-smaller g c =
    falls_fed _ _ _ _ _ _ _ _ _ _ _ _ _ _ _ _ _ _ _ c.reads.invariant.so_far c.in-Wait.ensures.went
    (omega (arith, c.in-Ok.ensures.bound, c.take.auto.buf, length-take c.in-Ok.count c.take.new.buf)) c.in-Ok-take_in.ensures
