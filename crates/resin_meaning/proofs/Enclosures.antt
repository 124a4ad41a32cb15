-- Checks, lines and calls enclose a program.
use Rattle.std.proofs.Common.{inl, ◌<◌, cond, nat_lt, ◌≡◌, ℕ, suc, List, [], ◌∷◌, length, Bool, true, false, Option, Result, Err, refl, sym, ap, ◌∙◌, arith}
use Rattle.std.specs.Prelude.{◌==◌}
use Rattle.std.proofs.lemmas.Bool.Decides.{nat_tests}
use Rattle.resin_store.specs.Files.{LabelledFiles}
use Rattle.resin_base.specs.TableStore.{TableStore}
use Rattle.resin_base.specs.declared.calls.Calls.{Calls}
use Rattle.resin_machine.specs.Under.scope.Frames.{Frame, outer_of, left}
use Rattle.resin_machine.specs.declared.stop.Stop.{Stop}
use Rattle.resin_machine.specs.declared.stop.Stop.TheVariants.{Memory}
use Rattle.resin_machine.specs.State.{State}
use Rattle.resin_machine.specs.Under.journal.Events.{EventList}
use Rattle.resin_machine.specs.Under.journal.Access.{write_of, events_of}
use Rattle.resin_machine.specs.Keeping.{leaving}
use Rattle.resin_machine.specs.Steps.{at_line, back_at_line, hushed, unhushed}
use Rattle.resin_machine.specs.Variables.{in_call, after_call}
use Rattle.resin_machine.specs.Leaving.{IsUnderWay}
use Rattle.resin_meaning.specs.Programs.{Prog, within, quietly, on_line, framed}
use Rattle.resin_meaning.specs.Runs.{Seen, World, world, Does, done}
use Rattle.resin_meaning.proofs.Composition.{Encloses, does_within, does_nothing}

pub quiet : Encloses hushed unhushed
quiet = record {
  journal = λ m m'. refl;
  ticks = λ m m' h. h;
  keeps = λ m m' k. record {
    request = k.request;
    open_calls = k.open_calls;
    checking = refl;
    calm = λ t. let c = k.calm refl in record { grown = c.grown; journal = c.journal; writes = c.writes; status = c.status; headers = c.headers; body = c.body; mail = c.mail };
  };
  enters = λ m t. t;
  ties = λ m m' t. t;
}

pub lined : (n : ℕ) → Encloses (at_line n) back_at_line
lined n = record {
  journal = λ m m'. refl;
  ticks = λ m m' h. h;
  keeps = λ m m' k. record {
    request = k.request;
    open_calls = k.open_calls;
    checking = k.checking;
    calm = λ t. let c = k.calm t in record { grown = c.grown; journal = c.journal; writes = c.writes; status = c.status; headers = c.headers; body = c.body; mail = c.mail };
  };
  enters = λ m t. t;
  ties = λ m m' t. t;
}

outer_length : (fs : List Frame) (n : ℕ) → length fs ≡ suc n → length (outer_of fs) ≡ n
outer_length [] n e = absurd (omega (arith, e))
outer_length (f ∷ fs) n e = omega (arith, e)

pub calling : (class : Option ℕ) → Encloses (in_call class) after_call
calling class = record {
  journal = λ m m'. refl;
  ticks = λ m m' h. h;
  keeps = λ m m' k. record {
    request = k.request;
    open_calls = outer_length m'.frames.calls (length m.frames.calls) k.open_calls;
    checking = k.checking;
    calm = λ t. let c = k.calm t in record { grown = c.grown; journal = c.journal; writes = c.writes; status = c.status; headers = c.headers; body = c.body; mail = c.mail };
  };
  enters = λ m t. t;
  ties = λ m m' t. t;
}

-- a check, as the code has it: `hush` before it, and `restore` after it
pub does_quietly : {A : Type 0} (p : Prog A) (m mh m1 m2 : State) (was : Bool) {f f' : Seen LabelledFiles} {t t' : Seen TableStore} {c c' : Calls} {r : Result A Stop}
    → mh ≡ record m { checking = true } → was ≡ m.checking → m2 ≡ record m1 { checking = was }
    → Does p (world mh f t c) r (world m1 f' t' c') → Does (quietly p) (world m f t c) r (world m2 f' t' c')
does_quietly p m mh m1 m2 was eh ew e2 d = rw (e2, ew) (does_within hushed unhushed p quiet (rw eh at d))

-- the events of a write that leaves are among those of the writes that leave
of_filtered : (w : ℕ) → 0 < w → (j : EventList) → events_of w j ≡ events_of w (leaving j)
of_filtered w pos [] = refl
of_filtered w pos (e ∷ j) = by (of_filtered w pos j) (nat_lt 0 (write_of e)) refl
  where
    by : events_of w j ≡ events_of w (leaving j) → (b : Bool) → nat_lt 0 (write_of e) ≡ b → events_of w (e ∷ j) ≡ events_of w (cond b (e ∷ leaving j) (leaving j))
    by h true p = ap (λ xs. cond (write_of e == w) (e ∷ xs) xs) h
    by h false p = ap (λ x. cond x (e ∷ events_of w j) (events_of w j)) (zero_other p) ∙ h
      where
        zero_other : nat_lt 0 (write_of e) ≡ false → (write_of e == w) ≡ false
        zero_other q = grind (arith, nat_tests)

of_leaving : (w : ℕ) → 0 < w → (j k : EventList) → leaving j ≡ leaving k → events_of w j ≡ events_of w k
of_leaving w pos j k e = of_filtered w pos j ∙ (ap (events_of w) e ∙ sym (of_filtered w pos k))

-- a check leaves the write under way as it was
pub under_way_after : {A : Type 0} (p : Prog A) (m mh m1 m2 : State) (was : Bool) {f f' : Seen LabelledFiles} {t t' : Seen TableStore} {c c' : Calls} {r : Result A Stop} (w : ℕ) (ps : List ℕ)
    → mh ≡ record m { checking = true } → was ≡ m.checking → m2 ≡ record m1 { checking = was }
    → Does p (world mh f t c) r (world m1 f' t' c') → IsUnderWay w ps m → IsUnderWay w ps m2
under_way_after p m mh m1 m2 was w ps eh ew e2 d o =
    let k = (rw eh at (done d).goes.keeps).calm refl in
    rw e2 (record {
      way = record {
        last = o.way.last ∙ sym k.writes;
        positive = o.way.positive;
        events = of_leaving w o.way.positive m1.stage.journal m.stage.journal k.journal ∙ o.way.events;
        distinct = o.way.distinct;
      };
      awake = ew ∙ o.awake;
    })

-- a statement, as the code has it: `set_line` before it and after it
pub does_on_line : {A : Type 0} (n : ℕ) (p : Prog A) (m ml m1 m2 : State) (was : ℕ) {f f' : Seen LabelledFiles} {t t' : Seen TableStore} {c c' : Calls} {r : Result A Stop}
    → ml ≡ at_line n m → was ≡ m.line → m2 ≡ at_line was m1
    → Does p (world ml f t c) r (world m1 f' t' c') → Does (on_line n p) (world m f t c) r (world m2 f' t' c')
does_on_line n p m ml m1 m2 was el ew e2 d = rw (e2, ew) (does_within (at_line n) back_at_line p (lined n) (rw el at d))

-- a call, as the code has it: `enter` before it and `leave` after it
pub does_framed : {A : Type 0} (class : Option ℕ) (p : Prog A) (m mc m1 m2 : State) (was : Option ℕ) {f f' : Seen LabelledFiles} {t t' : Seen TableStore} {c c' : Calls} {r : Result A Stop}
    → mc ≡ in_call class m → was ≡ m.running → m2 ≡ record m1 { frames = left m1.frames; running = was }
    → Does p (world mc f t c) r (world m1 f' t' c') → Does (framed class p) (world m f t c) r (world m2 f' t' c')
does_framed class p m mc m1 m2 was ec ew e2 d = rw (e2, ew) (does_within (in_call class) after_call p (calling class) (rw ec at d))

-- no memory to open a call
pub does_unframed : {A : Type 0} (class : Option ℕ) (p : Prog A) {u : World} → Does (framed class p) u (Err Memory) u
does_unframed class p = does_nothing (framed class p) (λ failing at. unfold within in inl refl)

-- the call that was opened is open after what ran in it
pub call_is_open : {A : Type 0} (class : Option ℕ) (p : Prog A) (m mc m1 : State) {f f' : Seen LabelledFiles} {t t' : Seen TableStore} {c c' : Calls} {r : Result A Stop}
    → mc ≡ in_call class m → Does p (world mc f t c) r (world m1 f' t' c') → length m1.frames.calls ≡ suc (length m.frames.calls)
call_is_open class p m mc m1 ec d = (done d).goes.keeps.open_calls ∙ ap (λ (s : State). length s.frames.calls) ec
