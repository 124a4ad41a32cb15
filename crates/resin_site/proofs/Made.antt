-- How outcomes and logs are made.
use Rattle.std.proofs.Common.{◌≡◌, ℕ, ◌+◌, ◌≤◌, Bool, List, [], ◌∷◌, ◌++◌, length, drop, Result, Ok, Err, refl, sym, ap, ◌∙◌, append_assoc, append-nil, subst}
use Rattle.std.specs.Prelude.{IfOk, OnOk, unwrap_or}
use Rattle.resin_request.specs.Under.bytes.declared.header.Header.{Header}
use Rattle.resin_request.specs.Under.http.Response.{response, response_head, shown_body}
use Rattle.resin_request.specs.Under.journal.declared.event.Event.{Event}
use Rattle.resin_request.specs.Under.journal.Events.{EventList}
use Rattle.resin_request.specs.Under.journal.Lines.{line_of, log_of}
use Rattle.resin_request.specs.Under.stage.Stages.{Stage}
use Rattle.resin_request.specs.Under.machine.declared.stop.Stop.{Stop}
use Rattle.resin_request.specs.Under.machine.State.{State}
use Rattle.resin_request.proofs.meaning_lemmas.Composition.{nothing_left}
use Rattle.resin_request.specs.declared.request.Finish.{Finish}
use Rattle.resin_site.specs.declared.outcome.End.{End}
use Rattle.resin_site.specs.declared.outcome.Outcome.{Outcome}
use Rattle.resin_site.specs.Outcomes.{end_of, status_of, fixed_text, kind_at, with_parts, outcome}

-- one event more
pub logged : (n : ℕ) (js : EventList) (i : ℕ) (e : Event) (text longer : List ℕ) → drop i js ≡ e ∷ drop (i + 1) js → longer ≡ text ++ unwrap_or (line_of n e) []
    → text ++ log_of n (drop i js) ≡ log_of n js → longer ++ log_of n (drop (i + 1) js) ≡ log_of n js
logged n js i e text longer here more inv =
    ap (λ x. x ++ log_of n (drop (i + 1) js)) more ∙ append_assoc text (unwrap_or (line_of n e) []) (log_of n (drop (i + 1) js))
    ∙ sym (ap (λ l. text ++ log_of n l) here) ∙ inv

pub logged_all : (n : ℕ) (js : EventList) (i : ℕ) (text : List ℕ) → length js ≤ i → text ++ log_of n (drop i js) ≡ log_of n js → text ≡ log_of n js
logged_all n js i text le inv = sym (append-nil text) ∙ sym (ap (λ l. text ++ log_of n l) (nothing_left js i le)) ∙ inv

abbrev made : End → ℕ → List Header → List ℕ → List ℕ → List ℕ → EventList → Outcome
made end status headers body response mail journal = record {
  end = end;
  status = status;
  headers = headers;
  body = body;
  response = response;
  mail = mail;
  journal = journal;
}

-- a head before what is shown of its body is a response
pub response_is : (status : ℕ) (headers : List Header) (kind body head : List ℕ) (head_only : Bool) → head ≡ response_head status headers kind (length body)
    → head ++ shown_body head_only body ≡ response status headers kind body head_only
unfolding response
response_is status headers kind body head head_only e = ap (λ h. h ++ shown_body head_only body) e

-- an outcome is made of its parts
pub parts_are : (path : List ℕ) (head_only : Bool) (end : End) (s : Stage) (o : Outcome) → o.end ≡ end → o.status ≡ status_of end s.status → o.headers ≡ s.headers
    → o.body ≡ s.body ++ fixed_text end → o.response ≡ response o.status o.headers (kind_at end path) o.body head_only → o.mail ≡ s.mail → o.journal ≡ s.journal
    → o ≡ with_parts path head_only end s
parts_are path head_only end s o e1 e2 e3 e4 e5 e6 e7 =
    let r : o.response ≡ response (status_of end s.status) s.headers (kind_at end path) (s.body ++ fixed_text end) head_only =
    e5 ∙ ap (λ x. response x o.headers (kind_at end path) o.body head_only) e2 ∙ ap (λ x. response (status_of end s.status) x (kind_at end path) o.body head_only) e3
    ∙ ap (λ x. response (status_of end s.status) s.headers (kind_at end path) x head_only) e4 in
    ap (λ x. made x o.status o.headers o.body o.response o.mail o.journal) e1
    ∙ ap (λ x. made end x o.headers o.body o.response o.mail o.journal) e2
    ∙ ap (λ x. made end (status_of end s.status) x o.body o.response o.mail o.journal) e3
    ∙ ap (λ x. made end (status_of end s.status) s.headers x o.response o.mail o.journal) e4
    ∙ ap (λ x. made end (status_of end s.status) s.headers (s.body ++ fixed_text end) x o.mail o.journal) r
    ∙ ap (λ x. made end (status_of end s.status) s.headers (s.body ++ fixed_text end) (response (status_of end s.status) s.headers (kind_at end path) (s.body ++ fixed_text end) head_only) x o.journal) e6
    ∙ ap (λ x. made end (status_of end s.status) s.headers (s.body ++ fixed_text end) (response (status_of end s.status) s.headers (kind_at end path) (s.body ++ fixed_text end) head_only) s.mail x) e7

-- the outcome by the end that the steps came to
pub parts_is : (path : List ℕ) (head_only : Bool) (finish : Result Finish Stop) (m : State) (end : End) → end ≡ end_of finish m
    → with_parts path head_only end m.stage ≡ outcome path head_only finish m
parts_is path head_only finish m end e = ap (λ x. with_parts path head_only x m.stage) e

pub if_ok_map : {A E : Type 0} (r : Result A E) (P Q : A → Type 0) → ((v : A) → P v → Q v) → IfOk r P → IfOk r Q
if_ok_map (Ok v) P Q f h = f v h
if_ok_map (Err e) P Q f h = tt

pub on_any : {A E : Type 0} (r : Result A E) {P : Type 0} → P → OnOk r P
on_any (Ok v) p = p
on_any (Err e) p = tt
