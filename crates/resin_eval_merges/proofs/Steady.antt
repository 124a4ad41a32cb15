-- Programs whose end and whole are known: they end with a value and make no keeper call.
use Rattle.std.proofs.Common.{◌≡◌, ℕ, List, [], ◌++◌, Result, Ok, Err, refl, sym, ap, subst, ◌∙◌}
use Rattle.resin_eval_nested.specs.Under.scalar.declared.faults.CallStop.{CallStop}
use Rattle.resin_eval_nested.specs.Under.machine.declared.stop.Stop.{Stop}
use Rattle.resin_eval_nested.specs.Under.machine.declared.stop.Stop.TheVariants.{Memory}
use Rattle.resin_eval_nested.specs.Under.machine.State.{State}
use Rattle.resin_eval_nested.specs.Under.machine.Steps.{Act}
use Rattle.resin_eval_nested.specs.Under.machine.Objects.{settled}
use Rattle.resin_eval_nested.specs.Under.meaning.Programs.{Whole, Prog, give, on_value, then_by, ◌>>=◌, act, within}
use Rattle.resin_eval_nested.specs.Under.meaning.Runs.{World, IsAt, Does, does}
use Rattle.resin_eval_nested.specs.Under.meaning_forms.Parts.{looked, computed}
use Rattle.resin_eval_nested.proofs.meaning_lemmas.Composition.{goes_nowhere, none_here}

-- from one whole the program ends with a value and leaves another one, whatever calls are taken to fail
pub record Ends {A : Type 0} (p : Prog A) (at : Whole) (v : A) (left : Whole) : Type 0 where
  pub end : (failing : List ℕ) → (p failing at).end ≡ Ok v
  pub whole : (failing : List ℕ) → (p failing at).whole ≡ left
  pub calls : (failing : List ℕ) → (p failing at).calls ≡ []

-- the whole in another state
abbrev pub in_state : State → Whole → Whole
in_state m at = record { state = m; store = at.store; made = at.made }

pub gives : {A : Type 0} (v : A) (at : Whole) → Ends (give v) at v at
gives v at = record { end = λ failing. refl; whole = λ failing. refl; calls = λ failing. refl }

pub then : {A B : Type 0} (p : Prog A) (f : A → Prog B) {at mid left : Whole} {x : A} {y : B} → Ends p at x mid → Ends (f x) mid y left → Ends (p >>= f) at y left
unfolding ◌>>=◌ then_by
then p f d e = record {
  end = λ failing. (λ i. (on_value f (d.end failing i) failing (d.whole failing i)).end) ∙ e.end failing;
  whole = λ failing. (λ i. (on_value f (d.end failing i) failing (d.whole failing i)).whole) ∙ e.whole failing;
  calls = λ failing. (λ i. d.calls failing i ++ (on_value f (d.end failing i) failing (d.whole failing i)).calls) ∙ e.calls failing;
}

pub steps : {A : Type 0} (a : Act A) (at : Whole) (v : A) (m : State) → a at.state ≡ (Ok v, m) → Ends (act a) at v (in_state m at)
unfolding act
steps {A = A} a at v m e = record {
  end = λ failing. ap (λ (o : Result A Stop × State). o.0) e;
  whole = λ failing. ap (λ (o : Result A Stop × State). in_state o.1 at) e;
  calls = λ failing. refl;
}

pub looks : {A : Type 0} (read : State → A) (at : Whole) (v : A) → read at.state ≡ v → Ends (looked read) at v at
looks {A = A} read at v e = steps (λ m. (Ok (read m), m)) at v at.state (ap (λ (x : A). let o : Result A Stop × State = (Ok x, at.state) in o) e)

pub computes : {A : Type 0} (r : Result A CallStop) (at : Whole) (v : A) → r ≡ Ok v → Ends (computed r) at v at
computes {A = A} r at v e = steps (settled r) at v at.state (ap (λ (x : Result A CallStop). settled x at.state) e)

pub encloses : {A : Type 0} (enter : State → State) (leave : State → State → State) (p : Prog A) (at left : Whole) (v : A) → Ends p (in_state (enter at.state) at) v left → Ends (within enter leave p) at v (in_state (leave at.state left.state) left)
unfolding within
encloses enter leave p at left v d = record {
  end = d.end;
  whole = λ failing. ap (λ (w : Whole). in_state (leave at.state w.state) w) (d.whole failing);
  calls = d.calls;
}

-- it changes nothing, wherever it begins
pub does_steadily : {A : Type 0} (p : Prog A) (v : A) (w : World) → ((at : Whole) → IsAt at w → Ends p at v at) → Does p w (Ok v) w
does_steadily {A = A} p v w e = does (record {
  goes = goes_nowhere w;
  blames = none_here w;
  ties = λ ne t. t;
  means = λ n at is failing a. record {
    same = λ ne. ((e at is).end failing, subst (λ (x : Whole). IsAt x w) (sym ((e at is).whole failing)) is, (e at is).calls failing);
    front = λ h. absurd (no_memory h);
  };
})
  where
    no_memory : ◌≡◌ {A = Result A Stop} (Ok v) (Err Memory) → ⊥
    no_memory h = cc
