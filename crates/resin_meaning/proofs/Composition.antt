-- How the parts of a program make a whole.
use Rattle.std.proofs.Common.{◌≡◌, ◌≢◌, ℕ, suc, ◌+◌, ◌-◌, ◌≤◌, ◌<◌, List, [], ◌∷◌, ◌++◌, length, drop, get_or, true, false, Result, Ok, Err, inl, inr, refl, sym, ap, subst, ◌∙◌, arith, map, length-append, IsErrAnd}
use Rattle.std.proofs.Math.Seq.{drop-cons}
use Rattle.std.proofs.lemmas.Result.{err_from_is_err_and}
use Rattle.std.proofs.lemmas.Grind.{common_steps}
use Rattle.std.proofs.lemmas.List.{append-nil}
use Rattle.resin_base.specs.Causes.{is_listed}
use Rattle.resin_store.specs.Files.{LabelledFiles}
use Rattle.resin_base.specs.TableStore.{TableStore}
use Rattle.resin_base.specs.Numbering.{AreNumbered}
use Rattle.resin_base.specs.declared.calls.Calls.{Calls}
use Rattle.resin_machine.specs.declared.stop.Stop.{Stop}
use Rattle.resin_machine.specs.declared.stop.Stop.TheVariants.{Thrown, Exit, Fault, Keeper, Memory}
use Rattle.resin_machine.specs.State.{State}
use Rattle.resin_machine.specs.Keeping.{Keeps, Tied}
use Rattle.resin_machine.specs.Steps.{Act, Acts, Acted, ActsLoosely, ActedLoosely}
use Rattle.resin_machine.proofs.Kept.{keeps_same, keeps_then}
use Rattle.resin_meaning.specs.Programs.{Whole, KeeperCall, Moment, moment, later, Out, Prog, ended, give, stop, then_by, on_value, ◌>>=◌, caught, tried, act, within}
use Rattle.resin_meaning.specs.Runs.{Seen, World, world, IsAt, Goes, NoneFailed, LastFailed, Blames, Agrees, Reached, IsAmong, Meets, Does, does, done, Leads}
use Rattle.resin_meaning.proofs.Parts.{failures-split, told_then, told_nothing, reached_left, reached_right, reached_map, listed_other, rise_more, rise_last}

-- ---- no call failed, and at most the last one failed

pub none_here : (w : World) → NoneFailed w w
none_here w = record { failed = refl; files = refl; tables = refl }

none_then : (u v w : World) → NoneFailed u v → NoneFailed v w → NoneFailed u w
none_then u v w a b = record { failed = b.failed ∙ a.failed; files = b.files ∙ a.files; tables = b.tables ∙ a.tables }

last_then : (u v w : World) → NoneFailed u v → u.calls.made ≤ v.calls.made → LastFailed v w → LastFailed u w
last_then u v w a le b = record {
  failed = b.failed ∙ ap (λ ns. ns ++ w.calls.made ∷ []) a.failed;
  made = omega (arith, b.made, le);
  rose = rw (← a.files, ← a.tables) b.rose;
}

blames_then : {A : Type 0} (r : Result A Stop) (u v w : World) → NoneFailed u v → u.calls.made ≤ v.calls.made → Blames r v w → Blames r u w
blames_then (Ok x) u v w a le b = none_then u v w a b
blames_then (Err (Thrown o)) u v w a le b = none_then u v w a b
blames_then (Err Exit) u v w a le b = none_then u v w a b
blames_then (Err (Fault f line)) u v w a le b = none_then u v w a b
blames_then (Err Keeper) u v w a le b = last_then u v w a le b
blames_then (Err Memory) u v w a le b = none_then u v w a b

-- what the list says of earlier calls stays
older : {A : Type 0} (r : Result A Stop) (v w : World) → v.calls.made ≤ w.calls.made → Blames r v w → (k : ℕ) → k ≤ v.calls.made → is_listed w.calls.failed k ≡ is_listed v.calls.failed k
older {A = A} r v w le b k kle = cases r b
  where
    none : NoneFailed v w → is_listed w.calls.failed k ≡ is_listed v.calls.failed k
    none n = ap (λ ns. is_listed ns k) n.failed

    cases : (r : Result A Stop) → Blames r v w → is_listed w.calls.failed k ≡ is_listed v.calls.failed k
    cases (Ok x) b = none b
    cases (Err (Thrown o)) b = none b
    cases (Err Exit) b = none b
    cases (Err (Fault f line)) b = none b
    cases (Err Keeper) b = ap (λ ns. is_listed ns k) b.failed ∙ listed_other v.calls.failed w.calls.made k (λ e. omega (arith, e, b.made, kle))
    cases (Err Memory) b = none b

-- the numbers of the calls stay in order
pub numbered_after : {A : Type 0} (r : Result A Stop) (v w : World) → v.calls.made ≤ w.calls.made → Blames r v w → AreNumbered v.calls → AreNumbered w.calls
numbered_after {A = A} r v w le b n = cases r b
  where
    none : NoneFailed v w → AreNumbered w.calls
    none h = rw h.failed (rise_more 0 v.calls.made w.calls.made v.calls.failed le n)

    cases : (r : Result A Stop) → Blames r v w → AreNumbered w.calls
    cases (Ok x) b = none b
    cases (Err (Thrown o)) b = none b
    cases (Err Exit) b = none b
    cases (Err (Fault f line)) b = none b
    cases (Err Keeper) b = rw b.failed (rise_last 0 v.calls.made w.calls.made v.calls.failed (omega arith) b.made n)
    cases (Err Memory) b = none b

-- ---- one part and then another

made_grows : (u v : World) → Goes u v → u.calls.made ≤ v.calls.made
made_grows u v g = omega (arith, g.made)

abbrev pub goes_then : (u v w : World) → (AreNumbered u.calls → AreNumbered v.calls) → ((k : ℕ) → k ≤ v.calls.made → is_listed w.calls.failed k ≡ is_listed v.calls.failed k) → Goes u v → Goes v w → Goes u w
goes_then u v w after same g h = record {
  calls = g.calls ++ h.calls;
  made = omega (arith, g.made, h.made, length-append g.calls h.calls);
  files = λ n. rw (failures-split false w.calls.failed v.calls.failed u.calls.made v.calls.made g.calls h.calls g.made same) (told_then u.files.answers v.files.answers w.files.answers _ _ (g.files n) (h.files (after n)));
  tables = λ n. rw (failures-split true w.calls.failed v.calls.failed u.calls.made v.calls.made g.calls h.calls g.made same) (told_then u.tables.answers v.tables.answers w.tables.answers _ _ (g.tables n) (h.tables (after n)));
  ticks = omega (arith, g.ticks, h.ticks);
  keeps = keeps_then u.state v.state w.state g.keeps h.keeps;
}

abbrev pub goes_nowhere : (w : World) → Goes w w
goes_nowhere w = record {
  calls = [];
  made = omega arith;
  files = λ n. told_nothing w.files.answers;
  tables = λ n. told_nothing w.tables.answers;
  ticks = omega arith;
  keeps = keeps_same w.state;
}

-- what agrees later agrees before
earlier : (failing : List ℕ) (v w : World) → v.calls.made ≤ w.calls.made → ((k : ℕ) → k ≤ v.calls.made → is_listed w.calls.failed k ≡ is_listed v.calls.failed k) → Agrees failing w → Agrees failing v
earlier failing v w le same a k kle = a k (omega (arith, kle, le)) ∙ same k kle

among_more : (w : World) (ms ns : List Moment) (x : Moment) (cs : List KeeperCall) → IsAmong ms w cs → IsAmong (x ∷ (ms ++ ns)) w cs
among_more w ms ns x cs m = record {
  at = m.at;
  reached = inr (reached_left m.at ms ns m.reached);
  journal = m.journal;
  files = m.files;
  tables = m.tables;
  so_far = m.so_far;
}

among_here : (ms : List Moment) (at : Whole) (w : World) → IsAt at w → IsAmong (moment [] at ∷ ms) w []
among_here ms at w is = record {
  at = moment [] at;
  reached = inl refl;
  journal = ap (λ (m : State). m.stage.journal) is.state;
  files = is.files;
  tables = is.tables;
  so_far = refl;
}

-- where no call failed in the first part, and memory sufficed
pub does_then : {A B : Type 0} (p : Prog A) (next : Result A Stop → Prog B) {u v w : World} {r : Result A Stop} {r' : Result B Stop} → r ≢ Err Memory → NoneFailed u v → Does p u r v → Does (next r) v r' w → Does (then_by p next) u r' w
does_then {A = A} {B = B} p next {u = u} {v = v} {w = w} {r = r} {r' = r'} ne none d e = unfold then_by in does (record {
  goes = goes_then u v w (numbered_after r u v first (done d).blames) same (done d).goes (done e).goes;
  blames = blames_then r' u v w none first (done e).blames;
  ties = λ h t. (done e).ties h ((done d).ties ne t);
  means = λ n at is failing a.
      let m = (done d).means n at is failing (earlier failing v w second same a) in
      let s = m.same ne in
      let m1 = (done e).means (numbered_after r u v first (done d).blames n) (p failing at).whole s.1 failing a in
      let m2 = subst (λ (x : Result A Stop). Meets (next x failing (p failing at).whole) r' w (done e).goes.calls) (sym s.0) m1 in
      record {
        same = λ h. let t = m2.same h in (t.0, t.1, λ i. s.2 i ++ t.2 i);
        front = λ h. among_front at is failing s.2 (m2.front h);
      };
})
  where
    first : u.calls.made ≤ v.calls.made
    first = made_grows u v (done d).goes

    second : v.calls.made ≤ w.calls.made
    second = made_grows v w (done e).goes

    same : (k : ℕ) → k ≤ v.calls.made → is_listed w.calls.failed k ≡ is_listed v.calls.failed k
    same = older r' v w second (done e).blames

    among_front : (at : Whole) → IsAt at u → (failing : List ℕ) → (p failing at).calls ≡ (done d).goes.calls
        → IsAmong (next (p failing at).end failing (p failing at).whole).moments w (done e).goes.calls
        → IsAmong (moment [] at ∷ ((p failing at).moments ++ moment (p failing at).calls (p failing at).whole ∷ map (later (p failing at).calls) (next (p failing at).end failing (p failing at).whole).moments)) w ((done d).goes.calls ++ (done e).goes.calls)
    among_front at is failing c m = record {
      at = later (p failing at).calls m.at;
      reached = inr (reached_right _ (p failing at).moments _ (inr (reached_map (later (p failing at).calls) m.at _ m.reached)));
      journal = m.journal;
      files = m.files;
      tables = m.tables;
      so_far = λ i. c i ++ m.so_far i;
    }

-- a stop in the first part, which the second passes on
pub does_stopped : {A B : Type 0} (p : Prog A) (next : Result A Stop → Prog B) {u v : World} {s : Stop} → next (Err s) ≡ stop s → Does p u (Err s) v → Does (then_by p next) u (Err s) v
does_stopped {A = A} {B = B} p next {u = u} {v = v} {s = s} e d = unfold then_by in does (record {
  goes = (done d).goes;
  blames = stop_blames s (done d).blames;
  ties = λ h t. (done d).ties (still s h) t;
  means = λ n at is failing a.
      let m = (done d).means n at is failing a in
      record {
        same = λ h. stopped at failing (m.same (still s h));
        front = λ h. among_more v _ _ _ _ (m.front (memory s h));
      };
})
  where
    stop_blames : (s : Stop) → Blames {A = A} (Err s) u v → Blames {A = B} (Err s) u v
    stop_blames (Thrown o) b = b
    stop_blames Exit b = b
    stop_blames (Fault f line) b = b
    stop_blames Keeper b = b
    stop_blames Memory b = b

    same_stop : (X : Type 0) (x y : Stop) → ◌≡◌ {A = Result X Stop} (Err x) (Err y) → x ≡ y
    same_stop X x y h = cc

    memory : (s : Stop) → ◌≡◌ {A = Result B Stop} (Err s) (Err Memory) → ◌≡◌ {A = Result A Stop} (Err s) (Err Memory)
    memory s h = ap (λ (x : Stop). let r : Result A Stop = Err x in r) (same_stop B s Memory h)

    still : (s : Stop) → ◌≢◌ {A = Result B Stop} (Err s) (Err Memory) → ◌≢◌ {A = Result A Stop} (Err s) (Err Memory)
    still s h k = h (ap (λ (x : Stop). let r : Result B Stop = Err x in r) (same_stop A s Memory k))

    stopped : (at : Whole) (failing : List ℕ) → ((p failing at).end ≡ Err s) × IsAt (p failing at).whole v × ((p failing at).calls ≡ (done d).goes.calls)
        → ((next (p failing at).end failing (p failing at).whole).end ≡ Err s) × IsAt (next (p failing at).end failing (p failing at).whole).whole v × ((p failing at).calls ++ (next (p failing at).end failing (p failing at).whole).calls ≡ (done d).goes.calls)
    stopped at failing t =
        let k : next (p failing at).end failing (p failing at).whole ≡ stop s failing (p failing at).whole =
        ap (λ (x : Result A Stop). next x failing (p failing at).whole) t.0 ∙ ap (λ (q : Prog B). q failing (p failing at).whole) e in
        rw k (refl, t.1, append-nil (p failing at).calls ∙ t.2)

pub does_stop : {A B : Type 0} (p : Prog A) (f : A → Prog B) {u v : World} {s : Stop} → Does p u (Err s) v → Does (p >>= f) u (Err s) v
does_stop p f d = unfold ◌>>=◌ in does_stopped p (on_value f) refl d

-- a value in the first part
pub does_next : {A B : Type 0} (p : Prog A) (f : A → Prog B) {u v w : World} {x : A} {r : Result B Stop} → Does p u (Ok x) v → Does (f x) v r w → Does (p >>= f) u r w
does_next p f d e = unfold ◌>>=◌ in does_then p (on_value f) (λ k. cc) (done d).blames d e

pub does_ended : {A : Type 0} (r : Result A Stop) (w : World) → Blames r w w → Does (ended r) w r w
does_ended r w b = does (record {
  goes = goes_nowhere w;
  blames = b;
  ties = λ h t. t;
  means = λ n at is failing a. record { same = λ ne. (refl, is, refl); front = λ h. among_here [] at w is };
})

pub does_give : {A : Type 0} (v : A) (w : World) → Does (give v) w (Ok v) w
does_give v w = does_ended (Ok v) w (none_here w)

-- want of memory in place of a program
pub does_nothing : {A : Type 0} (p : Prog A) {u : World} → ((failing : List ℕ) (at : Whole) → Reached (moment [] at) (p failing at).moments) → Does p u (Err Memory) u
does_nothing p {u = u} starts = does (record {
  goes = goes_nowhere u;
  blames = none_here u;
  ties = λ h t. t;
  means = λ n at is failing a. record {
    same = λ ne. absurd (ne refl);
    front = λ h. record { at = moment [] at; reached = starts failing at; journal = ap (λ (m : State). m.stage.journal) is.state; files = is.files; tables = is.tables; so_far = refl };
  };
})

-- want of memory before the first part
pub does_unbegun : {A B : Type 0} (p : Prog A) (f : A → Prog B) {u : World} → Does (p >>= f) u (Err Memory) u
does_unbegun p f {u = u} = unfold ◌>>=◌ then_by in does_nothing (then_by p (on_value f)) (λ failing at. inl refl)

-- want of memory between the first part and the second
pub does_lost : {A B : Type 0} (p : Prog A) (f : A → Prog B) {u v : World} {x : A} → Does p u (Ok x) v → Does (p >>= f) u (Err Memory) v
does_lost {A = A} {B = B} p f {u = u} {v = v} {x = x} d = unfold ◌>>=◌ then_by in does (record {
  goes = (done d).goes;
  blames = (done d).blames;
  ties = λ ne t. absurd (ne refl);
  means = λ n at is failing a.
      let s = ((done d).means n at is failing a).same (λ k. cc) in
      record {
        same = λ ne. absurd (ne refl);
        front = λ h. record {
          at = moment (p failing at).calls (p failing at).whole;
          reached = inr (reached_right _ (p failing at).moments _ (inl refl));
          journal = ap (λ (m : State). m.stage.journal) s.1.state;
          files = s.1.files;
          tables = s.1.tables;
          so_far = s.2;
        };
      };
})

-- ---- steps on the state

abbrev goes_state : (m m' : State) (f : Seen LabelledFiles) (t : Seen TableStore) (c : Calls) → m'.ticks ≤ m.ticks → Keeps m m' → Goes (world m f t c) (world m' f t c)
goes_state m m' f t c le k = record {
  calls = [];
  made = omega arith;
  files = λ n. told_nothing f.answers;
  tables = λ n. told_nothing t.answers;
  ticks = le;
  keeps = k;
}

-- a longer step on the state
pub does_loosely : {A : Type 0} (a : Act A) {m m' : State} {r : Result A Stop} (f : Seen LabelledFiles) (t : Seen TableStore) (c : Calls) → ActsLoosely a m r m' → Does (act a) (world m f t c) r (world m' f t c)
does_loosely {A = A} a {m = m} {m' = m'} {r = r} f t c h = cases r h.ties h.acted
  where
    exact : (r : Result A Stop) → r ≢ Err Memory → (r ≢ Err Memory → Tied m → Tied m') → Blames r (world m f t c) (world m' f t c) → a m ≡ (r, m') → Does (act a) (world m f t c) r (world m' f t c)
    exact r ne ties b e = unfold act in does (record {
      goes = goes_state m m' f t c h.ticks h.keeps;
      blames = b;
      ties = ties;
      means = λ n at is failing ag.
          let e' : a at.state ≡ (r, m') = ap a is.state ∙ e in
          record {
            same = λ k. (ap (λ p. p.0) e', record { state = ap (λ p. p.1) e'; files = is.files; tables = is.tables; made = is.made }, refl);
            front = λ k. absurd (ne k);
          };
    })

    none : NoneFailed (world m f t c) (world m' f t c)
    none = record { failed = refl; files = refl; tables = refl }

    cases : (r : Result A Stop) → (r ≢ Err Memory → Tied m → Tied m') → ActedLoosely a m r m' → Does (act a) (world m f t c) r (world m' f t c)
    cases (Ok v) ties e = exact (Ok v) (λ k. cc) ties none e
    cases (Err (Thrown o)) ties e = exact (Err (Thrown o)) (λ k. cc) ties none e
    cases (Err Exit) ties e = exact (Err Exit) (λ k. cc) ties none e
    cases (Err (Fault x line)) ties e = exact (Err (Fault x line)) (λ k. cc) ties none e
    cases (Err Keeper) ties e = absurd e
    cases (Err Memory) ties e = unfold act in does (record {
      goes = goes_state m m' f t c h.ticks h.keeps;
      blames = none;
      ties = ties;
      means = λ n at is failing ag. record {
        same = λ k. absurd (k refl);
        front = λ k. record { at = moment [] at; reached = inl refl; journal = ap (λ (s : State). s.stage.journal) is.state ∙ sym e; files = is.files; tables = is.tables; so_far = refl };
      };
    })

loosely : {A : Type 0} (a : Act A) (m : State) (r : Result A Stop) (m' : State) → Acts a m r m' → ActsLoosely a m r m'
loosely {A = A} a m r m' h = record { acted = cases r h.acted; ticks = h.ticks; keeps = h.keeps; ties = h.ties }
  where
    cases : (r : Result A Stop) → Acted a m r m' → ActedLoosely a m r m'
    cases (Ok v) e = e
    cases (Err (Thrown o)) e = e
    cases (Err Exit) e = e
    cases (Err (Fault x line)) e = e
    cases (Err Keeper) e = e
    cases (Err Memory) e = ap (λ (s : State). s.stage.journal) e

-- a step on the state
pub does_act : {A : Type 0} (a : Act A) {m m' : State} {r : Result A Stop} (f : Seen LabelledFiles) (t : Seen TableStore) (c : Calls) → Acts a m r m' → Does (act a) (world m f t c) r (world m' f t c)
does_act a {m = m} {m' = m'} {r = r} f t c h = does_loosely a f t c (loosely a m r m' h)

-- ---- other compositions

-- an exception as a value
pub does_tried : {A : Type 0} (p : Prog A) {u v : World} (r : Result A Stop) → Does p u r v → Does (tried p) u (caught r) v
does_tried p {u = u} {v = v} (Ok x) d = unfold tried in does_then p (λ r. ended (caught r)) (λ k. cc) (done d).blames d (does_ended (Ok (Ok x)) v (none_here v))
does_tried p {u = u} {v = v} (Err (Thrown o)) d = unfold tried in does_then p (λ r. ended (caught r)) (λ k. cc) (done d).blames d (does_ended (Ok (Err o)) v (none_here v))
does_tried p (Err Exit) d = unfold tried in does_stopped p (λ r. ended (caught r)) refl d
does_tried p (Err (Fault f line)) d = unfold tried in does_stopped p (λ r. ended (caught r)) refl d
does_tried p (Err Keeper) d = unfold tried in does_stopped p (λ r. ended (caught r)) refl d
does_tried p (Err Memory) d = unfold tried in does_stopped p (λ r. ended (caught r)) refl d

pub does_tried_as : {A : Type 0} (p : Prog A) {u v : World} (r : Result A Stop) (r' : Result (Result A ℕ) Stop) → r' ≡ caught r → Does p u r v → Does (tried p) u r' v
does_tried_as p r r' e d = rw e (does_tried p r d)

-- what a change of the state before a program, and one after it, have to keep
pub record Encloses (enter : State → State) (leave : State → State → State) : Type 0 where
  pub journal : (m m' : State) → (leave m m').stage.journal ≡ m'.stage.journal
  pub ticks : (m m' : State) → m'.ticks ≤ (enter m).ticks → (leave m m').ticks ≤ m.ticks
  pub keeps : (m m' : State) → Keeps (enter m) m' → Keeps m (leave m m')
  pub enters : (m : State) → Tied m → Tied (enter m)
  pub ties : (m m' : State) → Tied m' → Tied (leave m m')

-- a program in a changed state
pub does_within : {A : Type 0} (enter : State → State) (leave : State → State → State) (p : Prog A) → Encloses enter leave → {m m' : State} {f f' : Seen LabelledFiles} {t t' : Seen TableStore} {c c' : Calls} {r : Result A Stop}
    → Does p (world (enter m) f t c) r (world m' f' t' c') → Does (within enter leave p) (world m f t c) r (world (leave m m') f' t' c')
does_within {A = A} enter leave p enc {m = m} {m' = m'} {f = f} {f' = f'} {t = t} {t' = t'} {c = c} {c' = c'} {r = r} d = unfold within in does (record {
  goes = record {
    calls = (done d).goes.calls;
    made = (done d).goes.made;
    files = (done d).goes.files;
    tables = (done d).goes.tables;
    ticks = enc.ticks m m' (done d).goes.ticks;
    keeps = enc.keeps m m' (done d).goes.keeps;
  };
  blames = blamed r (done d).blames;
  ties = λ h t. enc.ties m m' ((done d).ties h (enc.enters m t));
  means = λ n at is failing a.
      let inner : Whole = record { state = enter at.state; store = at.store; made = at.made } in
      let at_inner : IsAt inner (world (enter m) f t c) = record { state = ap enter is.state; files = is.files; tables = is.tables; made = is.made } in
      let x = (done d).means n inner at_inner failing a in
      record {
        same = λ h. let s = x.same h in (s.0, record { state = (λ i. leave (is.state i) (s.1.state i)); files = s.1.files; tables = s.1.tables; made = s.1.made }, s.2);
        front = λ h. among_in _ (x.front h);
      };
})
  where
    blamed : (r : Result A Stop) → Blames r (world (enter m) f t c) (world m' f' t' c') → Blames r (world m f t c) (world (leave m m') f' t' c')
    blamed (Ok v) b = record { failed = b.failed; files = b.files; tables = b.tables }
    blamed (Err (Thrown o)) b = record { failed = b.failed; files = b.files; tables = b.tables }
    blamed (Err Exit) b = record { failed = b.failed; files = b.files; tables = b.tables }
    blamed (Err (Fault x line)) b = record { failed = b.failed; files = b.files; tables = b.tables }
    blamed (Err Keeper) b = record { failed = b.failed; made = b.made; rose = b.rose }
    blamed (Err Memory) b = record { failed = b.failed; files = b.files; tables = b.tables }

    among_in : {ms : List Moment} {cs : List KeeperCall} (x : Moment) → IsAmong ms (world m' f' t' c') cs → IsAmong (x ∷ ms) (world (leave m m') f' t' c') cs
    among_in x g = record { at = g.at; reached = inr g.reached; journal = g.journal ∙ sym (enc.journal m m'); files = g.files; tables = g.tables; so_far = g.so_far }

-- another name of the same program
pub does_same : {A : Type 0} (p q : Prog A) {u w : World} {r : Result A Stop} → ((failing : List ℕ) (at : Whole) → IsAt at u → p failing at ≡ q failing at) → Does p u r w → Does q u r w
does_same {A = A} p q {u = u} {w = w} {r = r} e d = does (record {
  goes = (done d).goes;
  blames = (done d).blames;
  ties = (done d).ties;
  means = λ n at is failing a. subst (λ (o : Out A). Meets o r w (done d).goes.calls) (e failing at is) ((done d).means n at is failing a);
})

pub leads_here : {A : Type 0} (p : Prog A) (u : World) → Leads p u p u
leads_here p u = record { goes_on = λ r w d. d }

-- one part more
pub leads_next : {A B : Type 0} (p : Prog A) (q : Prog B) (f : B → Prog A) {u v w : World} {x : B} → Leads p u (q >>= f) v → Does q v (Ok x) w → Leads p u (f x) w
leads_next p q f l d = record { goes_on = λ r z e. l.goes_on r z (does_next q f d e) }

pub leads_by : {A : Type 0} (p q q' : Prog A) {u v : World} → q ≡ q' → Leads p u q v → Leads p u q' v
leads_by {A = A} p q q' {u = u} {v = v} e l = subst (λ (x : Prog A). Leads p u x v) e l

-- ---- the exits of `?`

pub does_exit : {A B : Type 0} (p : Prog A) (f : A → Prog B) {u v : World} {s : Stop} (r : Result B Stop) → IsErrAnd r (λ e. e ≡ s) → Does p u (Err s) v → Does (p >>= f) u r v
does_exit p f r h d = let e = err_from_is_err_and r h in rw (e.1, e.2) (does_stop p f d)

pub does_lost_exit : {A B : Type 0} (p : Prog A) (f : A → Prog B) {u v : World} {x : A} (r : Result B Stop) → IsErrAnd r (λ e. e ≡ Memory) → Does p u (Ok x) v → Does (p >>= f) u r v
does_lost_exit p f r h d = let e = err_from_is_err_and r h in rw (e.1, e.2) (does_lost p f d)

pub does_unbegun_exit : {A B : Type 0} (p : Prog A) (f : A → Prog B) {u : World} (r : Result B Stop) → IsErrAnd r (λ e. e ≡ Memory) → Does (p >>= f) u r u
does_unbegun_exit p f r h = let e = err_from_is_err_and r h in rw (e.1, e.2) (does_unbegun p f)

-- ---- lists that a loop goes through

-- the item at i, and those behind it
pub front : {A : Type 0} (xs : List A) (i : ℕ) (x : A) → i < length xs → x ≡ get_or xs i x → drop i xs ≡ x ∷ drop (i + 1) xs
front xs i x lt e = drop-cons xs i x lt ∙ (ap (λ y. y ∷ drop (suc i) xs) (sym e) ∙ ap (λ n. x ∷ drop n xs) (let h : suc i ≡ i + 1 = omega arith in h))

pub front_number : (xs : List ℕ) (i : ℕ) → i < length xs → drop i xs ≡ get_or xs i 0 ∷ drop (i + 1) xs
front_number xs i lt = drop-cons xs i 0 lt ∙ ap (λ n. get_or xs i 0 ∷ drop n xs) (let h : suc i ≡ i + 1 = omega arith in h)

-- the end of a list
pub nothing_left : {A : Type 0} (xs : List A) (i : ℕ) → length xs ≤ i → drop i xs ≡ []
nothing_left xs i le = grind (arith, common_steps)
