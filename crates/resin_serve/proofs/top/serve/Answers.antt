use Rattle.std.proofs.Common.{map, sym, subst}
use Rattle.std.specs.String.{string_bytes}
use Rattle.resin_serve.specs.Whole_run.{given_of_status}
use Rattle.resin_serve.specs.Audits.{CompletesAudit}
use Rattle.resin_serve.specs.Headline.{Completes}
use Rattle.resin_serve.proofs.Exchanging.{exchanges}
use Rattle.resin_serve.proofs.Ends.{kept_ended, no_task, caused_out, completes_audit, completes_sample}
use Rattle.resin_serve.proofs.Wording.{sized_sample, sample_alone}
use Rattle.resin_serve.proofs.top.serve.Goals as goal

pub returns-in-None-clause-run : goal.returns-in-None-clause-run
returns-in-None-clause-run g c = λ logging fuel all f p. no_task _ _ c.in-None.ensures f

pub returns-in-None-clause-kept : goal.returns-in-None-clause-kept
returns-in-None-clause-kept g c = kept_ended _ _ _ _ _ _ c.ended.ensures.1 c.ended.ensures.2

pub returns-in-Some-Audit-clause-kept : goal.returns-in-Some-Audit-clause-kept
returns-in-Some-Audit-clause-kept g c = kept_ended _ _ _ _ _ _ c.ended-in-Some-Audit.ensures.1 c.ended-in-Some-Audit.ensures.2

pub returns-in-Some-Audit-clause-answers : goal.returns-in-Some-Audit-clause-answers
returns-in-Some-Audit-clause-answers g c = λ all f p short calm.
    subst CompletesAudit (sym c.ended-in-Some-Audit.ensures.0)
    (completes_audit c.audit_source.result all _ _ _ _ _ _ _ _ (c.audit_source.ensures.audits all p) short
    (caused_out (given_of_status c.audit_source.result) _ _ _ _ c.audit_source.ensures.cause) c.audit_source.ensures.read calm)

pub returns-in-Some-Run-clause-complete : goal.returns-in-Some-Run-clause-complete
returns-in-Some-Run-clause-complete g c = λ logging fuel all f p good calm. c.serve_site.ensures.complete all p good calm

pub show_sample-requires : goal.show_sample-requires
show_sample-requires g c = sized_sample (map string_bytes c.args.words.now) _ _ c.in-Some-Sample.ensures c.in-Some-Sample.field-0-is

pub returns-in-Some-Sample-clause-run : goal.returns-in-Some-Sample-clause-run
returns-in-Some-Sample-clause-run g c = λ logging fuel all f p. sample_alone _ _ _ _ _ c.in-Some-Sample.ensures c.in-Some-Sample.field-0-is f

pub returns-in-Some-Sample-clause-kept : goal.returns-in-Some-Sample-clause-kept
returns-in-Some-Sample-clause-kept g c = kept_ended _ _ _ _ _ _ c.ended-in-Some-Sample.ensures.1 c.ended-in-Some-Sample.ensures.2

pub returns-in-Some-Sample-clause-shows : goal.returns-in-Some-Sample-clause-shows
returns-in-Some-Sample-clause-shows g c = λ number f calm.
    subst Completes (sym c.ended-in-Some-Sample.ensures.0)
    (completes_sample c.show_sample.result _ _ _ _ _ c.show_sample.ensures.samples c.show_sample.ensures.cause calm)

pub returns-in-None-clause-exchange : goal.returns-in-None-clause-exchange
returns-in-None-clause-exchange g c = λ logging fuel f. exchanges logging fuel

pub returns-in-Some-Audit-clause-exchange : goal.returns-in-Some-Audit-clause-exchange
returns-in-Some-Audit-clause-exchange g c = λ logging fuel f. exchanges logging fuel

pub returns-in-Some-Run-clause-exchange : goal.returns-in-Some-Run-clause-exchange
returns-in-Some-Run-clause-exchange g c = λ logging fuel f. exchanges logging fuel

pub returns-in-Some-Sample-clause-exchange : goal.returns-in-Some-Sample-clause-exchange
returns-in-Some-Sample-clause-exchange g c = λ logging fuel f. exchanges logging fuel
