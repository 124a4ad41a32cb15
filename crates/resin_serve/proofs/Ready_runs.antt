-- The answers of the records that stand whole.
use Rattle.std.proofs.Common.{◌≡◌, ℕ, ◌+◌, ◌<◌, List, [], ◌∷◌, ◌++◌, length, Option, refl, sym, ap, ◌∙◌, arith, append_assoc, length-append, subst}
use Rattle.std.proofs.lemmas.List.{append-nil}
use Rattle.resin_trace.specs.declared.event.TraceEvent.{TraceEvent}
use Rattle.resin_trace.specs.Seen.{Seen}
use Rattle.resin_trace.specs.Reads.{HandsOut}
use Rattle.resin_trace.specs.Lines.{Waiting}
use Rattle.resin_trace.specs.Verdicts.{HasRead}
use Rattle.resin_trace.proofs.Verdicts_of.{hands}
use Rattle.resin_site.specs.Keeping.{Passes}
use Rattle.resin_serve.specs.declared.give.Given.{Given}
use Rattle.resin_serve.specs.declared.give.Given.TheVariants.{Whole, Memory}
use Rattle.resin_serve.specs.declared.run.Ready.TheVariants.{Memory as ReadyMemory}
use Rattle.resin_serve.specs.Meaning.{Meaning, fresh, order}
use Rattle.resin_serve.specs.Ran.{World, Ran}
use Rattle.resin_serve.specs.Lines.{Hold}
use Rattle.resin_serve.specs.Top.{RanEvent, WentOn, Beyond, Past, events, Went}
use Rattle.resin_serve.proofs.Runs.{ran_none, ran_stop, ran_then, ran_near}
use Rattle.resin_serve.proofs.Line_runs.{AtPlace, on_whole}

events_more : (es : List (TraceEvent × ℕ)) (e : TraceEvent × ℕ) → events (es ++ e ∷ []) ≡ events es ++ e.0 ∷ []
events_more [] e = refl
events_more (x ∷ es) e = ap (λ l. x.0 ∷ l) (events_more es e)

pub order_more : (seen : List TraceEvent) (es : List (TraceEvent × ℕ)) (e : TraceEvent × ℕ) → order seen (es ++ e ∷ []) ≡ order seen es ++ fresh (seen ++ events es) e
order_more seen [] e = append-nil (fresh seen e) ∙ ap (λ l. fresh l e) (sym (append-nil seen))
order_more seen (x ∷ es) e =
    ap (λ l. fresh seen x ++ l) (order_more (seen ++ x.0 ∷ []) es e ∙ ap (λ l. order (seen ++ x.0 ∷ []) es ++ fresh l e) (append_assoc seen (x.0 ∷ []) (events es)))
    ∙ sym (append_assoc (fresh seen x) _ _)

beyond_next : (b : ℕ) (old new : Seen) (e : TraceEvent) → HandsOut old e new → Beyond b old → (b < new.place) × Beyond b new
beyond_next b old new e h f =
    let lt : b < old.place + length h.word = f h.word new.rest e h.spells h.is in
    let at : new.place ≡ old.place + length h.word = h.place in
    (omega arith, λ word more e' sp is. omega arith)

pub begin_on : (R : Meaning) (b : ℕ) (seen : List TraceEvent) (read : Seen) (n made : ℕ) (failed : List ℕ) (lines : List (Option Waiting)) (w : World)
    → Hold lines seen → Beyond b read → WentOn Whole R b seen read read n n made failed lines w w
begin_on R b seen read n made failed lines w h f = record {
  es = [];
  reads = λ trace handed r. subst (λ l. HasRead trace l read) (sym (append-nil handed)) r;
  ends = refl;
  over = refl;
  ran = λ K k. ran_none _ R K n w;
  whole = (subst (Hold lines) (sym (append-nil seen)) h, omega arith, f);
}

-- one more record, served whole or in part
pub goes_on : (g : Given) (R R' : Meaning) (b : ℕ) (seen : List TraceEvent) (read read' read'' : Seen) (n n' n'' made made' : ℕ) (failed failed' : List ℕ) (lines lines' : List (Option Waiting)) (old mid new : World) (e : TraceEvent)
    → WentOn Whole R b seen read read' n n' made failed lines old mid
    → HandsOut read' e read''
    → Passes made failed made' failed' → R' ≡ R
    → ((place : ℕ) (seen : List TraceEvent) → Hold lines seen → RanEvent g R' seen (e, place) n' n'' made' failed' lines' mid new)
    → WentOn g R b seen read read'' n n'' made' failed' lines' old new
goes_on g R R' b seen read read' read'' n n' n'' made made' failed failed' lines lines' old mid new e o h p q f =
    let hold : Hold lines (seen ++ events o.es) = o.whole.0 in
    let num : n' ≡ n + length (order seen o.es) = o.whole.1 in
    let past : (b < read''.place) × Beyond b read'' = beyond_next b read' read'' e h o.whole.2 in
    let r = subst (λ S. RanEvent g S (seen ++ events o.es) (e, read''.place) n' n'' made' failed' lines' mid new) q (f read''.place (seen ++ events o.es) hold) in
    let ends : read'.place + length read'.rest ≡ read.place + length read.rest = o.ends in
    let is : length read'.rest ≡ length h.word + length read''.rest = ap length h.is ∙ length-append h.word read''.rest in
    let at : read''.place ≡ read'.place + length h.word = h.place in
    let more = order_more seen o.es (e, read''.place) in
    record {
      es = o.es ++ (e, read''.place) ∷ [];
      reads = λ trace handed x. subst (λ l. HasRead trace l read'') (append_assoc handed o.es ((e, read''.place) ∷ [])) (hands trace (handed ++ o.es) read' read'' e (o.reads trace handed x) h);
      ends = omega arith;
      over = h.over ∙ o.over;
      ran = λ K k. subst (λ xs. Ran g (Past b) R K n xs old new) (sym more)
          (ran_then g (Past b) (Past b) R K n n' (order seen o.es) (fresh (seen ++ events o.es) (e, read''.place)) old mid new num (o.ran K (p K k))
          (ran_near g (AtPlace read''.place) (Past b) R K n' _ mid new (λ a q. let q' : a.place ≡ read''.place = q in let lt : b < read''.place = past.0 in omega arith) (r.ran K k)));
      whole = on_whole g _ _ (λ (w : Hold lines' ((seen ++ events o.es) ++ e ∷ []) × (n'' ≡ n' + length (fresh (seen ++ events o.es) (e, read''.place)))). (
        subst (Hold lines') (append_assoc seen (events o.es) (e ∷ []) ∙ ap (λ l. seen ++ l) (sym (events_more o.es (e, read''.place)))) w.0,
        (let k : n'' ≡ n' + length (fresh (seen ++ events o.es) (e, read''.place)) = w.1 in
            let j : length (order seen (o.es ++ (e, read''.place) ∷ [])) ≡ length (order seen o.es) + length (fresh (seen ++ events o.es) (e, read''.place)) = ap length more ∙ length-append (order seen o.es) _ in omega arith),
        past.1,
      )) r.whole;
    }

-- nothing more was read, for want of memory
stops_on : (R : Meaning) (b : ℕ) (seen : List TraceEvent) (read read' : Seen) (n n' made : ℕ) (failed : List ℕ) (lines : List (Option Waiting)) (old mid : World)
    → WentOn Whole R b seen read read' n n' made failed lines old mid
    → WentOn Memory R b seen read read' n n' made failed lines old mid
stops_on R b seen read read' n n' made failed lines old mid o = record {
  es = o.es;
  reads = o.reads;
  ends = o.ends;
  over = o.over;
  ran = λ K k. subst (λ xs. Ran Memory (Past b) R K n xs old mid) (append-nil (order seen o.es))
      (ran_then Memory (Past b) (Past b) R K n n' (order seen o.es) [] old mid mid (o.whole.1) (o.ran K k) (ran_stop _ R K n' [] mid));
  whole = tt;
}

pub stops_at : (R : Meaning) (b : ℕ) (seen : List TraceEvent) (read read' read'' : Seen) (n n' made : ℕ) (failed : List ℕ) (lines : List (Option Waiting)) (old mid : World)
    → WentOn Whole R b seen read read' n n' made failed lines old mid → read'' ≡ read'
    → Went ReadyMemory R b seen read read'' n n' made failed lines old mid
stops_at R b seen read read' read'' n n' made failed lines old mid o e =
    subst (λ r. Went ReadyMemory R b seen read r n n' made failed lines old mid) (sym e)
    (record { on = stops_on R b seen read read' n n' made failed lines old mid o; stands = tt })
