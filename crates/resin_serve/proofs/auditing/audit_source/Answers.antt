use Rattle.std.proofs.Common.{◌≡◌, ◌≤◌, ℕ, List, length, sym, ◌∙◌, subst}
use Rattle.resin_trace.specs.Records.{limit}
use Rattle.resin_serve.specs.Audits.{Audits}
use Rattle.resin_serve.proofs.Runs.{grew_none}
use Rattle.resin_serve.proofs.auditing.audit_source.Goals as goal

pub returns-in-Ok-clause-audits : goal.returns-in-Ok-clause-audits
returns-in-Ok-clause-audits g c = λ all p.
    let w = c.in-Ok.ensures.whole all p in
    let e : c.as_slice.result.now ≡ all = c.as_slice.ensures ∙ w.0 in
    subst (λ t. Audits c.audit_text.result t (g.O.Sink.written c.args.out.now) (g.O.Sink.written c.audit_text.new.out)) e
    (c.audit_text.ensures.audits (subst (λ (t : List ℕ). length t ≤ limit) (sym e) w.1))

pub returns-in-Err-TooLong-clause-audits : goal.returns-in-Err-TooLong-clause-audits
returns-in-Err-TooLong-clause-audits g c = λ all p.
    let w = rw c.in-Err-TooLong.field-0-is at c.in-Err-TooLong.ensures.whole in
    (w all p, grew_none _)
