-- What a write under way keeps while its text is made ready, and what it is told.
use Rattle.std.proofs.Common.{◌≡◌, ◌≢◌, ℕ, List, [], ◌++◌, length, Bool, true, false, cond, nat_le, nat_lt, Option, Some, None, Result, Ok, Err, refl, sym, subst, ◌∙◌}
use Rattle.std.specs.FinMap.{empty}
use Rattle.resin_eval_nested.specs.Under.base.declared.calls.Calls.{Calls}
use Rattle.resin_eval_nested.specs.Under.bytes.declared.header.Header.{Header as HeaderField}
use Rattle.resin_eval_nested.specs.Under.lstr.declared.limits.TheConstants.{LONGEST}
use Rattle.resin_eval_nested.specs.Under.lstr.Texts.{Text, bytes_of, policies_in_order}
use Rattle.resin_eval_nested.specs.Under.journal.Access.{is_among}
use Rattle.resin_eval_nested.specs.Under.scalar.declared.faults.CallStop.TheVariants.{Fault as CallFault}
use Rattle.resin_eval_nested.specs.Under.scalar.declared.faults.ScriptFault.TheVariants.{TextTooLong, FuelSpent}
use Rattle.resin_eval_nested.specs.Under.stage.Lines.{header_line}
use Rattle.resin_eval_nested.specs.Under.machine.declared.stop.Stop.{Stop}
use Rattle.resin_eval_nested.specs.Under.machine.declared.stop.Stop.TheVariants.{Memory}
use Rattle.resin_eval_nested.specs.Under.machine.State.{State}
use Rattle.resin_eval_nested.specs.Under.machine.Steps.{faults}
use Rattle.resin_eval_nested.specs.Under.machine.Objects.{settled, last_number}
use Rattle.resin_eval_nested.specs.Under.machine.Leaving.{IsUnderWay, MayAskNow, MaySendNow}
use Rattle.resin_eval_nested.specs.Under.meaning.Programs.{Whole, Prog, give, then_by, on_value, ◌>>=◌, act}
use Rattle.resin_eval_nested.specs.Under.meaning.Runs.{seen, done}
use Rattle.resin_eval_nested.specs.Under.meaning_forms.Runs.{Runs}
use Rattle.resin_eval_nested.specs.Under.meaning_forms.Writes.{behind, chain_for, header_or_throw, new_line, prepared, IsTold}
use Rattle.resin_eval_nested.specs.Under.meaning_forms.declared.outgoing.Outgoing.{Outgoing}
use Rattle.resin_eval_nested.specs.Under.meaning_forms.declared.outgoing.Outgoing.TheVariants.{Page, Header, Status, Mail}

-- ---- a run that makes no keeper call ends as its program does, whatever the keepers hold

abbrev alone : State → Whole
alone m = record { state = m; store = record { files = empty; tables = empty }; made = 0 }

abbrev no_calls : Calls
no_calls = record { made = 0; failed = [] }

ran_to : {A : Type 0} (p : Prog A) (m m' : State) (r : Result A Stop) → r ≢ Err Memory → Runs p m r m' → ((p [] (alone m)).end ≡ r) × ((p [] (alone m)).whole.state ≡ m')
ran_to p m m' r ne h =
    let d = done (h (seen (Some empty) 0 None) (seen (Some empty) 0 None) no_calls) in
    let s = (d.means tt (alone m) (record { state = refl; files = refl; tables = refl; made = refl }) [] (λ k le. refl)).same ne in
    (s.0, s.1.state)

-- ---- a program that leaves the state as it was where it has a value

abbrev Still : {A : Type 0} → Prog A → Type 0
Still {A = A} p = (failing : List ℕ) (at : Whole) (x : A) → (p failing at).end ≡ Ok x → (p failing at).whole.state ≡ at.state

still_next : {A B : Type 0} (p : Prog A) (f : A → Prog B) → Still p → ((x : A) → Still (f x)) → Still (p >>= f)
still_next {A = A} {B = B} p f h k failing at y = unfold ◌>>=◌ then_by in by (p failing at).end refl
  where
    by : (r : Result A Stop) → (p failing at).end ≡ r → (on_value f r failing (p failing at).whole).end ≡ Ok y → (on_value f r failing (p failing at).whole).whole.state ≡ at.state
    by (Ok x) e g = k x failing (p failing at).whole y g ∙ h failing at x e
    by (Err s) e g = absurd (cc)

still_give : {A : Type 0} (v : A) → Still (give v)
still_give v failing at x e = refl

still_long : (b : Bool) (t : Text) (m : State) → (settled (cond b (Ok t) (Err (CallFault TextTooLong))) m).1 ≡ m
still_long true t m = refl
still_long false t m = refl

still_behind : (t u : Text) → Still (behind t u)
still_behind t u failing at x e = unfold act in still_long (nat_le (length (t ++ u)) LONGEST) (t ++ u) at.state

still_header : (h : Option HeaderField) → Still (header_or_throw h)
still_header (Some h) failing at x = λ e. refl
still_header None failing at x = unfold act in by (nat_lt (length at.state.heap) last_number) _ _
  where
    by : (b : Bool) (m : State) (s : Stop) → (cond b (Err s, m) (faults FuelSpent at.state)).0 ≡ Ok x → (cond b (Err s, m) (faults {A = HeaderField} FuelSpent at.state)).1 ≡ at.state
    by true m s e = absurd (cc)
    by false m s e = refl

still_prepared : (what : Outgoing) (t : Text) → Still (prepared what t)
still_prepared Page t = still_give t
still_prepared (Header replace) t = still_next (header_or_throw (header_line (bytes_of t))) (λ h. give t) (still_header (header_line (bytes_of t))) (λ h. still_give t)
still_prepared (Status status) t = still_give t
still_prepared (Mail to subject) t =
    still_next (behind new_line t) _ (still_behind new_line t) (λ below.
    still_next (behind subject below) _ (still_behind subject below) (λ named.
    still_next (behind new_line named) _ (still_behind new_line named) (λ line. still_behind to line)))

pub prepared_kept : (what : Outgoing) (t d : Text) {m m' : State} → Runs (prepared what t) m (Ok d) m' → m' ≡ m
prepared_kept what t d {m = m} {m' = m'} h =
    let r = ran_to (prepared what t) m m' (Ok d) (λ e. cc) h in
    sym r.1 ∙ still_prepared what t [] (alone m) d r.0

-- ---- what a status is told by

pub told_prepared : (what : Outgoing) (t d : Text) {m m' : State} → Runs (prepared what t) m (Ok d) m' → IsTold what t → IsTold what d
told_prepared Page t d h k = tt
told_prepared (Header replace) t d h k = tt
told_prepared (Status status) t d {m = m} {m' = m'} h k =
    let r : Ok t ≡ Ok d = (ran_to (give t) m m' (Ok d) (λ e. cc) h).0 in
    let e : t ≡ d = cc in
    subst (λ (x : Text). IsTold (Status status) x) e k
told_prepared (Mail to subject) t d h k = tt

-- no filter is asked about a status
pub told_answered : (what : Outgoing) (m : State) (chain : List ℕ) (t d : Text) → chain ≡ chain_for what m → (chain ≡ [] → d ≡ t) → IsTold what t → IsTold what d
told_answered Page m chain t d e h k = tt
told_answered (Header replace) m chain t d e h k = tt
told_answered (Status status) m chain t d e h k = subst (λ (x : Text). IsTold (Status status) x) (sym (h e)) k
told_answered (Mail to subject) m chain t d e h k = tt

-- ---- the write under way

pub may_ask : {w p : ℕ} {ps : List ℕ} {m : State} → IsUnderWay w ps m → is_among p ps ≡ false → MayAskNow w p m
may_ask {ps = ps} o e = record { may = record { passed = ps; way = o.way; out = e }; awake = o.awake }

pub may_send : {w : ℕ} {t : Text} {m : State} → IsUnderWay w (policies_in_order t) m → MaySendNow w t m
may_send o = record { may = o.way; awake = o.awake }
