use Rattle.std.proofs.Common.{refl, sym, ap, subst, ◌∙◌, ◌≡◌}
use Rattle.resin_site.specs.Under.base.declared.calls.Calls.{Calls}
use Rattle.resin_site.specs.Keeping.{Later}
use Rattle.resin_trace.specs.Lines.{at, stream_of}
use Rattle.resin_serve.specs.declared.run.Service.{Service}
use Rattle.resin_serve.specs.Asked.{served}
use Rattle.resin_serve.proofs.Streams.{need_at, ask_at, refuse_at, used_some}
use Rattle.resin_serve.proofs.Line_runs.{line_begin, line_step, line_stop, line_memory, line_whole, line_end, line_last, line_done, on_stop}
use Rattle.resin_serve.proofs.Keeping.{kept_none, kept_then, passes}
use Rattle.resin_serve.proofs.Causing.{caused_then}
use Rattle.resin_serve.proofs.run.serve_connection.Goals as goal

pub answers-init : goal.answers-init
answers-init g c = record {
  service = refl;
  others = λ d ne. refl;
  some = c.requires.some;
  numbered = c.requires.numbered;
  kept = kept_none _;
  cause = refl;
  so_far = line_begin _ _ _ _ _ _ _;
}

pub returns-in-Ok-Need-clause-ran : goal.returns-in-Ok-Need-clause-ran
returns-in-Ok-Need-clause-ran g c =
    let f = rw c.in-Ok-Need.field-0-is at c.in-Ok-Need.ensures.steps in
    line_whole _ _ _ _ _ _ _ _ _ _ c.answers.invariant.so_far (need_at _ _ refl f)

pub returns-in-Ok-Need-clause-line : goal.returns-in-Ok-Need-clause-line
returns-in-Ok-Need-clause-line g c =
    let f = rw c.in-Ok-Need.field-0-is at c.in-Ok-Need.ensures.steps in
    rw c.next_request.ensures.same (line_end _ _ _ _ _ _ _ _ _ _ c.answers.invariant.so_far (need_at _ _ refl f))

pub returns-in_default : goal.returns-in_default
returns-in_default g c =
    let f = rw c.in-Ok-Got.field-0-is at c.in-Ok-Got.ensures.steps in
    let same = c.next_request.ensures.same in
    let so_far = rw (sym same) at c.answers.invariant.so_far in
    let s = c.serve_request.ensures in
    let t = ask_at _ _ _ _ _ (ap (λ l. stream_of (at l c.args.conn)) (sym same)) f (ap (λ l. at l c.args.conn) s.same.1 ∙ c.used.ensures.here) in
    record {
      service = s.same.0 ∙ c.answers.invariant.service;
      others = λ d ne. ap (λ l. at l d) s.same.1 ∙ c.used.ensures.others d ne ∙ ap (λ l. at l d) same ∙ c.answers.invariant.others d ne;
      numbered = s.numbered;
      kept = kept_then _ _ _ c.answers.invariant.kept s.kept;
      ran = line_stop _ _ _ _ _ _ _ _ _ _ _ _ _ _ _ _ _ c.in_default.not-Whole so_far t.0 (passes _ _ s.kept) (ap served c.answers.invariant.service) s.ran;
      cause = caused_then _ _ _ _ c.answers.invariant.cause s.cause;
      line = on_stop _ _ c.in_default.not-Whole;
    }

pub answers-preserved : goal.answers-preserved
answers-preserved g c =
    let f = rw c.in-Ok-Got.field-0-is at c.in-Ok-Got.ensures.steps in
    let same = c.next_request.ensures.same in
    let so_far = rw (sym same) at c.answers.invariant.so_far in
    let s = c.in-Whole.ensures in
    let here : at c.serve_request.new.run.connections c.args.conn ≡ _ = ap (λ l. at l c.args.conn) s.same.1 ∙ c.used.ensures.here in
    let t = ask_at _ _ _ _ _ (ap (λ l. stream_of (at l c.args.conn)) (sym same)) f here in
    record {
      service = s.same.0 ∙ c.answers.invariant.service;
      others = λ d ne. ap (λ l. at l d) s.same.1 ∙ c.used.ensures.others d ne ∙ ap (λ l. at l d) same ∙ c.answers.invariant.others d ne;
      some = used_some _ _ _ here (rw (sym same) at c.answers.invariant.some);
      numbered = s.numbered;
      kept = kept_then _ _ _ c.answers.invariant.kept s.kept;
      cause = s.cause ∙ c.answers.invariant.cause;
      so_far = line_step _ _ _ _ _ _ _ _ _ _ _ _ _ _ _ _ _ so_far t.0 (passes _ _ s.kept) s.number (ap served c.answers.invariant.service) s.ran;
    }

pub answers-smaller : goal.answers-smaller
answers-smaller g c =
    let f = rw c.in-Ok-Got.field-0-is at c.in-Ok-Got.ensures.steps in
    let same = c.next_request.ensures.same in
    let here : at c.serve_request.new.run.connections c.args.conn ≡ _ = ap (λ l. at l c.args.conn) c.in-Whole.ensures.same.1 ∙ c.used.ensures.here in
    rw (sym same) (ask_at _ _ _ _ _ (ap (λ l. stream_of (at l c.args.conn)) (sym same)) f here).1

pub returns-in-Ok-Refuse-clause-ran : goal.returns-in-Ok-Refuse-clause-ran
returns-in-Ok-Refuse-clause-ran g c = λ place K k.
    let f = rw c.in-Ok-Refuse.field-0-is at c.in-Ok-Refuse.ensures.steps in
    let same = c.next_request.ensures.same in
    let so_far = rw (sym same) at c.answers.invariant.so_far in
    let s = c.serve_refusal.ensures in
    let t = refuse_at _ _ _ _ (ap (λ l. stream_of (at l c.args.conn)) (sym same)) f c.refuse.ensures.here in
    line_last _ _ _ _ _ _ _ _ _ _ _ _ _ _ so_far t.0 t.1 place K (s.ran place K _ _ c.args.run.now.service (sym (ap (λ (x : Service). x.logging) c.answers.invariant.service))) (subst (λ (x : Calls). Later x.made x.failed K) s.same.2 k)

pub returns-in-Ok-Refuse-clause-line : goal.returns-in-Ok-Refuse-clause-line
returns-in-Ok-Refuse-clause-line g c =
    let f = rw c.in-Ok-Refuse.field-0-is at c.in-Ok-Refuse.ensures.steps in
    let same = c.next_request.ensures.same in
    let so_far = rw (sym same) at c.answers.invariant.so_far in
    let s = c.serve_refusal.ensures in
    let t = refuse_at _ _ _ _ (ap (λ l. stream_of (at l c.args.conn)) (sym same)) f (ap (λ l. at l c.args.conn) s.same.1 ∙ c.refuse.ensures.here) in
    line_done _ _ _ _ _ _ _ _ _ _ _ _ _ _ so_far t.0 t.1 s.number

pub returns-in-Err-clause-ran : goal.returns-in-Err-clause-ran
returns-in-Err-clause-ran g c = line_memory _ _ _ _ _ _ _ _ _ _ c.answers.invariant.so_far
