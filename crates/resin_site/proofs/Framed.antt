-- An answer keeps to its frame.
use Rattle.std.proofs.Common.{◌⊎◌, ◌≡◌, ℕ, ◌+◌, ◌<◌, ◌≤◌, Bool, List, [], ◌∷◌, length, Option, Some, None, Result, Ok, Err, inl, inr, refl, sym, ap, subst, ◌∙◌, arith}
use Rattle.resin_request.specs.Under.base.Causes.{last_count}
use Rattle.resin_request.specs.Under.frame.Frames.{SameAt, AgreeOn, KeepsTheRest, KeepAgreeing, FailAlike, HasNumbers, HaveNumbers, renumbered, Near, Alike, IsFramed}
use Rattle.resin_request.specs.Under.http.Inputs.{inputs_of}
use Rattle.resin_request.specs.Under.http.Stream.{Answer, asks, refuses}
use Rattle.resin_request.specs.Under.http.declared.request.Request.{Request}
use Rattle.resin_request.specs.Under.journal.Lines.{log_of}
use Rattle.resin_request.specs.Under.scalar.declared.faults.ScriptFault.TheVariants.{FuelSpent}
use Rattle.resin_request.specs.Under.machine.declared.stop.Stop.{Stop}
use Rattle.resin_request.specs.Under.machine.declared.stop.Stop.TheVariants.{Thrown, Exit, Keeper, Memory}
use Rattle.resin_request.specs.Under.machine.declared.stop.Stop.TheVariants as stop
use Rattle.resin_request.specs.Under.machine.State.{State}
use Rattle.resin_request.specs.Under.meaning.Programs.{Whole, KeeperCall, Out}
use Rattle.resin_request.specs.Under.stage.Ties.{sent_mails}
use Rattle.resin_request.specs.declared.request.Finish.{Finish}
use Rattle.resin_request.specs.declared.request.Finish.TheVariants.{Answered, Missing}
use Rattle.resin_request.specs.Paths.{path_of}
use Rattle.resin_request.specs.Requests.{request_program}
use Rattle.resin_request.specs.Sessions.{session_of}
use Rattle.resin_request.proofs.Framed.{request_framed}
use Rattle.resin_request.proofs.frame_lemmas.{same_refl, agree_then, agree_same}
use Rattle.resin_site.specs.declared.outcome.End.{End}
use Rattle.resin_site.specs.declared.outcome.End.TheVariants.{Fault}
use Rattle.resin_site.specs.declared.outcome.Outcome.{Outcome}
use Rattle.resin_site.specs.Framing.{SayTheSame, SayTheSameAs, NeedsNoMore, KeepsToFrame}
use Rattle.resin_site.specs.Framing as framing
use Rattle.resin_site.specs.Keeping.{Store, state}
use Rattle.resin_site.specs.Outcomes.{end_of, outcome, with_parts}
use Rattle.resin_site.specs.Replies.{Reply, is_head, begun, steps, request, refusal, answer}

-- ---- the number of a request in its outcome

-- an outcome, had its request this number
abbrev as_numbered : ℕ → Outcome → Outcome
as_numbered number a = record a { mail = sent_mails number a.journal }

end_numberless : (number : ℕ) (end : Result Finish Stop) (m : State) → end_of end (renumbered number m) ≡ end_of end m
end_numberless number (Ok Answered) m = refl
end_numberless number (Ok Missing) m = refl
end_numberless number (Err (Thrown o)) m = refl
end_numberless number (Err Exit) m = refl
end_numberless number (Err (stop.Fault f line)) m = refl
end_numberless number (Err Keeper) m = refl
end_numberless number (Err Memory) m = refl

outcome_numberless : (number : ℕ) (path : List ℕ) (head_only : Bool) (end : Result Finish Stop) (m : State)
    → outcome path head_only end (renumbered number m) ≡ as_numbered number (outcome path head_only end m)
outcome_numberless number path head_only end m = ap (λ e. with_parts path head_only e (renumbered number m).stage) (end_numberless number end m)

-- ---- answers that keep to their frames

-- two replies have the same numbers for their calls, or each has as many as the first needs
abbrev pub EachHasNumbers : ℕ → ℕ → Reply → Type 0
EachHasNumbers made made' r = (made' ≡ made) ⊎ (NeedsNoMore made r × (made' + length r.calls ≤ last_count))

-- a second reply says the same, had it this number, and where the stores before were the same, those after are
pub record Follows (number : ℕ) (s t : Store) (r r' : Reply) : Type 0 where
  pub says : SayTheSameAs number r r'
  pub stores : KeepAgreeing s t r.after.store r'.after.store

-- by the failing calls, the store, the calls made before it and its number, an answer is framed
pub record FramedAnswer (R : List ℕ → Store → ℕ → ℕ → Reply) : Type 0 where
  pub counts : (K : List ℕ) (s : Store) (made number : ℕ) → (R K s made number).after.made ≡ made + length (R K s made number).calls
  pub keeps : (K : List ℕ) (s : Store) (made number : ℕ) → KeepsTheRest (R K s made number).calls s (R K s made number).after.store
  pub frames :
      (K K' : List ℕ) (s t : Store) (made made' number number' : ℕ) → AgreeOn (R K s made number).calls s t
      → FailAlike K made K' made' (length (R K s made number).calls) → EachHasNumbers made made' (R K s made number)
      → Follows number' s t (R K s made number) (R K' t made' number')

numbers_of : (fuel : ℕ) (K : List ℕ) (s : Store) (made number made' : ℕ) (r : Request) → EachHasNumbers made made' (request fuel K s made number r)
    → HaveNumbers made made' (steps fuel K s made number r)
unfolding request
numbers_of fuel K s made number made' r (inl h) = inl h
numbers_of fuel K s made number made' r (inr h) =
    let m = (steps fuel K s made number r).whole.state in
    inr (record { most = h.0.most; spare = λ line e. h.0.spare line (ap (λ end. Some (end_of end m)) e) }, h.1)

pub framed_request : (fuel : ℕ) (r : Request) → FramedAnswer (λ K s made number. request fuel K s made number r)
unfolding steps request
framed_request fuel r = record {
  counts = λ K s made number. f.counts K (begun fuel s made number);
  keeps = λ K s made number. f.keeps K (begun fuel s made number);
  frames = λ K K' s t made made' number number' agree fail numbers.
      let o = steps fuel K s made number r in
      let o' = steps fuel K' t made' number' r in
      let a : Alike number' s t o o' = f.frames number' K K' (begun fuel s made number) (begun fuel t made' number') (record {
        state = refl;
        agree = agree;
        fail = fail;
        numbers = numbers_of fuel K s made number made' r numbers;
      }) in
      let same : outcome path head o'.end o'.whole.state ≡ as_numbered number' (outcome path head o.end o.whole.state) =
      (λ i. outcome path head (a.end i) (a.state i)) ∙ outcome_numberless number' path head o.end o.whole.state in
      record {
        says = record {
          end = sym (ap (λ (x : Outcome). Some x.end) same);
          status = sym (ap (λ (x : Outcome). x.status) same);
          headers = sym (ap (λ (x : Outcome). x.headers) same);
          body = sym (ap (λ (x : Outcome). x.body) same);
          response = sym (ap (λ (x : Outcome). x.response) same);
          mail = ap (λ (x : Outcome). x.mail) same;
          journal = sym (ap (λ (x : Outcome). x.journal) same);
          log = ap (λ (x : Outcome). log_of number' x.journal) same;
          calls = sym a.calls;
        };
        stores = a.stores;
      };
}
  where
    path : List ℕ
    path = path_of r.target

    head : Bool
    head = is_head r.method

    f : IsFramed (session_of (inputs_of r)) (request_program path (inputs_of r))
    f = request_framed path (inputs_of r)

pub framed_refusal : (status : ℕ) → FramedAnswer (λ K s made number. refusal s made status)
framed_refusal status = record {
  counts = λ K s made number. omega arith;
  keeps = λ K s made number b n h. same_refl b n s;
  frames = λ K K' s t made made' number number' agree fail numbers. record {
    says = record { end = refl; status = refl; headers = refl; body = refl; response = refl; mail = refl; journal = refl; log = refl; calls = refl };
    stores = λ b n h. h;
  };
}

pub framed_answer : (fuel : ℕ) (a : Answer) → FramedAnswer (λ K s made number. answer fuel K s made number a)
framed_answer fuel (asks r) = framed_request fuel r
framed_answer fuel (refuses status) = framed_refusal status

-- ---- with the same number

-- mail and log of a request are what its journal tells under its number
own_number : (fuel : ℕ) (K : List ℕ) (s : Store) (made number : ℕ) (r : Request) → SayTheSameAs number (request fuel K s made number r) (request fuel K s made number r)
own_number fuel K s made number r =
    ((framed_request fuel r).frames K K s s made made number number (agree_same (request fuel K s made number r).calls s) (λ i lt. refl) (inl refl)).says

pub same_number : (fuel : ℕ) (K K' : List ℕ) (s t : Store) (made made' number : ℕ) (r : Request)
    → SayTheSameAs number (request fuel K s made number r) (request fuel K' t made' number r) → SayTheSame (request fuel K s made number r) (request fuel K' t made' number r)
same_number fuel K K' s t made made' number r says =
    let own = own_number fuel K s made number r in
    record {
      end = says.end;
      status = says.status;
      headers = says.headers;
      body = says.body;
      response = says.response;
      mail = own.mail ∙ sym says.mail;
      journal = says.journal;
      log = own.log ∙ sym says.log;
      calls = says.calls;
    }

pub is_framed : (fuel made number : ℕ) (r : Request) → framing.IsFramed fuel made number r
is_framed fuel made number r K K' s t made' agree fail needs most =
    let f = framed_request fuel r in
    let a = request fuel K s made number r in
    let a' = request fuel K' t made' number r in
    let follows = f.frames K K' s t made made' number number agree fail (inr (needs, most)) in
    record {
      same = same_number fuel K K' s t made made' number r follows.says;
      agree = agree_then a.calls s t a.after.store a'.after.store follows.stores agree;
      kept = f.keeps K s made number;
      kept_too = subst (λ calls. KeepsTheRest calls t a'.after.store) (sym follows.says.calls) (f.keeps K' t made' number);
    }
