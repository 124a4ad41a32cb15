use Rattle.std.proofs.Common.{refl, ap, arith, ◌∙◌, length, ◌<◌, length-append}
use Rattle.resin_trace.proofs.Existing.{some_word}
use Rattle.resin_serve.specs.declared.give.Given.TheVariants.{Fault, Memory}
use Rattle.resin_serve.specs.Asked.{served}
use Rattle.resin_serve.proofs.Ready_runs.{begin_on, goes_on, stops_at}
use Rattle.resin_serve.proofs.Keeping.{kept_none, kept_then, passes}
use Rattle.resin_serve.proofs.Causing.{caused_then}
use Rattle.resin_serve.proofs.run.serve_ready.Goals as goal

pub records-init : goal.records-init
records-init g c = record { service = refl; numbered = c.requires; kept = kept_none _; cause = refl; so_far = λ seen b h f. begin_on _ b seen _ _ _ _ _ _ h f }

pub returns-in-Fault-clause-went : goal.returns-in-Fault-clause-went
returns-in-Fault-clause-went g c = λ seen b hold f.
    let h = rw c.in-Ok-Some.field-0-is at c.in-Ok-Some.ensures in
    record { on = goes_on _ _ _ b seen _ _ _ _ _ _ _ _ _ _ _ _ _ _ _ _ (c.records.invariant.so_far seen b hold f) h (passes _ _ c.in-Fault.ensures.kept) (ap served c.records.invariant.service) c.in-Fault.ensures.ran; stands = tt }

pub returns-in-Fault-clause-cause : goal.returns-in-Fault-clause-cause
returns-in-Fault-clause-cause g c = caused_then Fault _ _ _ c.records.invariant.cause c.in-Fault.ensures.cause

pub returns-in-Fault-clause-kept : goal.returns-in-Fault-clause-kept
returns-in-Fault-clause-kept g c = kept_then _ _ _ c.records.invariant.kept c.in-Fault.ensures.kept

pub returns-in-Memory-clause-went : goal.returns-in-Memory-clause-went
returns-in-Memory-clause-went g c = λ seen b hold f.
    let h = rw c.in-Ok-Some.field-0-is at c.in-Ok-Some.ensures in
    record { on = goes_on _ _ _ b seen _ _ _ _ _ _ _ _ _ _ _ _ _ _ _ _ (c.records.invariant.so_far seen b hold f) h (passes _ _ c.in-Memory.ensures.kept) (ap served c.records.invariant.service) c.in-Memory.ensures.ran; stands = tt }

pub returns-in-Memory-clause-cause : goal.returns-in-Memory-clause-cause
returns-in-Memory-clause-cause g c = caused_then Memory _ _ _ c.records.invariant.cause c.in-Memory.ensures.cause

pub returns-in-Memory-clause-kept : goal.returns-in-Memory-clause-kept
returns-in-Memory-clause-kept g c = kept_then _ _ _ c.records.invariant.kept c.in-Memory.ensures.kept

pub returns-in-Err-Memory-clause-went : goal.returns-in-Err-Memory-clause-went
returns-in-Err-Memory-clause-went g c = λ seen b hold f.
    let m = rw c.in-Err-Memory.field-0-is at c.in-Err-Memory.ensures in
    stops_at _ b seen _ _ _ _ _ _ _ _ _ _ (c.records.invariant.so_far seen b hold f) m.0

pub records-preserved : goal.records-preserved
records-preserved g c =
    let h = rw c.in-Ok-Some.field-0-is at c.in-Ok-Some.ensures in
    let s = c.in-Whole.ensures in
    record {
      service = s.service ∙ c.records.invariant.service;
      numbered = s.numbered;
      kept = kept_then _ _ _ c.records.invariant.kept s.kept;
      cause = s.cause ∙ c.records.invariant.cause;
      so_far = λ seen b hold f. goes_on _ _ _ b seen _ _ _ _ _ _ _ _ _ _ _ _ _ _ _ _ (c.records.invariant.so_far seen b hold f) h (passes _ _ s.kept) (ap served c.records.invariant.service) s.ran;
    }

pub records-smaller : goal.records-smaller
records-smaller g c =
    let h = rw c.in-Ok-Some.field-0-is at c.in-Ok-Some.ensures in
    let some : 0 < length h.word = some_word h.word _ h.spells in
    let is = ap length h.is ∙ length-append h.word c.next.new.self.rest in
    omega arith
