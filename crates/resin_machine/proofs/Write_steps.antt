-- Steps of a write, by what the stage does in each.
use Rattle.std.proofs.Common.{◌≡◌, ℕ, ◌+◌, ◌-◌, ◌^◌, ◌≤◌, ◌<◌, List, Bool, true, false, cond, nat_lt, Result, Ok, Err, refl, sym, ap, subst, ◌∙◌, arith, IsErrAnd}
use Rattle.resin_heap.specs.Under.lstr.Texts.{Text}
use Rattle.resin_stage.specs.Under.journal.declared.channel.Channel.{Channel}
use Rattle.resin_stage.specs.Under.journal.declared.event.Event.{Event}
use Rattle.resin_stage.specs.Under.journal.declared.event.Event.TheVariants.{Passed, Denied, FilterDenied}
use Rattle.resin_heap.specs.Under.scalar.declared.faults.ScriptFault.TheVariants.{FuelSpent, ChannelInCheck}
use Rattle.resin_stage.specs.Stages.{Stage, drawn, noted, sent_page, sent_header, sent_status, sent_mail}
use Rattle.resin_stage.specs.Ties.{IsTied}
use Rattle.resin_machine.specs.declared.stop.Stop.{Stop}
use Rattle.resin_machine.specs.declared.stop.Stop.TheVariants.{Fault, Memory}
use Rattle.resin_machine.specs.State.{State}
use Rattle.resin_machine.specs.Keeping.{Tied}
use Rattle.resin_machine.specs.Steps.{Act, Acts, ActsLoosely, faults}
use Rattle.resin_machine.specs.Leaving.{on_stage, draw, class_name_of, note, pass, deny, deny_filter, send_page, send_header, send_status, send_mail}
use Rattle.resin_machine.proofs.Kept.{keeps_awake}
use Rattle.resin_machine.proofs.Taken.{faulted, fault_as, lost}
use Rattle.resin_machine.proofs.Noted.{stepped, stage_acts, noted_acts, outside_acts, acts_as, stage_loosely, lost_loosely}
use Rattle.resin_machine.proofs.Object_steps.{lt_true, lt_false}

-- the state m0 with another stage
abbrev staged : State → Stage → State
staged m0 s = record m0 { stage = s }

-- ---- a number

draws : (m : State) (checking room : Bool) → m.checking ≡ checking → nat_lt m.stage.writes (2 ^ 64 - 1) ≡ room → draw m ≡ cond checking (faults ChannelInCheck m) (cond room (Ok (m.stage.writes + 1), on_stage drawn m) (faults FuelSpent m))
draws m checking room c r = (λ i. cond (c i) (faults ChannelInCheck m) (cond (r i) (Ok (m.stage.writes + 1), on_stage drawn m) (faults FuelSpent m)))

pub number_drawn : (m m0 : State) (w : ℕ) (s : Stage) → m0 ≡ m → m0.checking ≡ false → m0.stage.writes < 2 ^ 64 - 1 → w ≡ m0.stage.writes + 1 → s ≡ drawn m0.stage → Acts draw m (Ok w) (staged m0 s)
number_drawn m m0 w s e0 awake lt n es =
    subst (λ (x : State). Acts draw x (Ok w) (staged m0 s)) e0
    (subst (λ (x : Stage). Acts draw m0 (Ok w) (staged m0 x)) (sym es)
    (record {
      acted = draws m0 false true awake (lt_true _ _ lt) ∙ ap (λ (k : ℕ). let p : Result ℕ Stop × State = (Ok k, on_stage drawn m0) in p) (sym n);
      ticks = omega arith;
      keeps = keeps_awake m0 (on_stage drawn m0) awake refl refl refl;
      ties = λ ne t. record { body = t.body; mail = t.mail; headers = t.headers; status = t.status };
    }))

pub number_in_check : (m m' : State) (line : ℕ) → m' ≡ m → line ≡ m.line → m'.checking ≡ true → Acts draw m (Err (Fault ChannelInCheck line)) m'
number_in_check m m' line e el c = fault_as draw m m' ChannelInCheck line e el (draws m true _ (sym (ap (λ (s : State). s.checking) e) ∙ c) refl)

pub no_number : (m m0 : State) (s : Stage) → m0 ≡ m → m0.checking ≡ false → 2 ^ 64 - 1 ≤ m0.stage.writes → s ≡ m0.stage → Acts draw m (Err (Fault FuelSpent m0.line)) (staged m0 s)
no_number m m0 s e0 awake le es =
    subst (λ (x : State). Acts draw x (Err (Fault FuelSpent m0.line)) (staged m0 s)) e0
    (subst (λ (x : Stage). Acts draw m0 (Err (Fault FuelSpent m0.line)) (staged m0 x)) (sym es)
    (faulted draw m0 FuelSpent (draws m0 false false awake (lt_false _ _ le))))

-- ---- events

pub passed_acts : (w p : ℕ) (m m0 : State) (s : Stage) → m0 ≡ m → m.checking ≡ false → s ≡ noted (Passed w p) m0.stage → Acts (pass w p) m (Ok tt) (staged m0 s)
passed_acts w p m m0 s e0 awake es = noted_acts m m0 (staged m0 s) (Passed w p) e0 refl es awake refl

-- with the names that the code copied
named : (w : ℕ) (c : Channel) (p : ℕ) (class class' : List ℕ) (from to : ℕ) (by by' : List ℕ) (m0 : State) (s : Stage) → class ≡ class' → by ≡ by' → s ≡ noted (Denied w c p class from to by) m0.stage → s ≡ noted (Denied w c p class' from to by') m0.stage
named w c p class class' from to by by' m0 s ec eb es = es ∙ (λ i. noted (Denied w c p (ec i) from to (eb i)) m0.stage)

pub denied_acts : (w : ℕ) (c : Channel) (p from to thrown : ℕ) (class by : List ℕ) (m m0 : State) (s : Stage) → m0 ≡ m → m.checking ≡ false → class ≡ class_name_of p m → by ≡ class_name_of thrown m → s ≡ noted (Denied w c p class from to by) m0.stage
    → Acts (deny w c p from to thrown) m (Ok tt) (staged m0 s)
denied_acts w c p from to thrown class by m m0 s e0 awake ec eb es =
    let e : Event = Denied w c p (class_name_of p m) from to (class_name_of thrown m) in
    acts_as (note e) (deny w c p from to thrown) m (Ok tt) (staged m0 s) refl
    (noted_acts m m0 (staged m0 s) e e0 refl (named w c p class (class_name_of p m) from to by (class_name_of thrown m) m0 s ec eb es) awake refl)

filter_named : (w : ℕ) (c : Channel) (f : ℕ) (class class' : List ℕ) (len : ℕ) (by by' : List ℕ) (m0 : State) (s : Stage) → class ≡ class' → by ≡ by' → s ≡ noted (FilterDenied w c f class len by) m0.stage → s ≡ noted (FilterDenied w c f class' len by') m0.stage
filter_named w c f class class' len by by' m0 s ec eb es = es ∙ (λ i. noted (FilterDenied w c f (ec i) len (eb i)) m0.stage)

pub filter_denied_acts : (w : ℕ) (c : Channel) (f len thrown : ℕ) (class by : List ℕ) (m m0 : State) (s : Stage) → m0 ≡ m → m.checking ≡ false → class ≡ class_name_of f m → by ≡ class_name_of thrown m → s ≡ noted (FilterDenied w c f class len by) m0.stage
    → Acts (deny_filter w c f len thrown) m (Ok tt) (staged m0 s)
filter_denied_acts w c f len thrown class by m m0 s e0 awake ec eb es =
    let e : Event = FilterDenied w c f (class_name_of f m) len (class_name_of thrown m) in
    acts_as (note e) (deny_filter w c f len thrown) m (Ok tt) (staged m0 s) refl
    (noted_acts m m0 (staged m0 s) e e0 refl (filter_named w c f class (class_name_of f m) len by (class_name_of thrown m) m0 s ec eb es) awake refl)

pub outside_denied_acts : (c : Channel) (f len thrown : ℕ) (class by : List ℕ) (m m0 : State) (s : Stage) → m0 ≡ m → class ≡ class_name_of f m → by ≡ class_name_of thrown m → s ≡ noted (FilterDenied 0 c f class len by) m0.stage
    → Acts (deny_filter 0 c f len thrown) m (Ok tt) (staged m0 s)
outside_denied_acts c f len thrown class by m m0 s e0 ec eb es =
    let e : Event = FilterDenied 0 c f (class_name_of f m) len (class_name_of thrown m) in
    acts_as (note e) (deny_filter 0 c f len thrown) m (Ok tt) (staged m0 s) refl
    (outside_acts m m0 (staged m0 s) e e0 refl (filter_named 0 c f class (class_name_of f m) len by (class_name_of thrown m) m0 s ec eb es) refl refl)

-- want of memory, after which the stage is as it was
pub stage_lost : {A : Type 0} (a : Act A) (m m0 : State) (s : Stage) (r : Result A Stop) → m0 ≡ m → s ≡ m0.stage → IsErrAnd r (λ e. e ≡ Memory) → Acts a m r (staged m0 s)
stage_lost a m m0 s r e0 es h = lost a m (staged m0 s) r (ap (λ (x : Stage). staged m0 x) es ∙ e0) h

-- ---- what goes out

tied_before : (m m0 : State) → m0 ≡ m → Tied m → Tied m0
tied_before m m0 e0 t = subst (λ (x : State). IsTied x.request x.stage) (sym e0) t

pub page_acts : (w : ℕ) (t : Text) (m m0 : State) (s : Stage) → m0 ≡ m → m.checking ≡ false → s ≡ sent_page w t m0.stage → ((q : ℕ) → IsTied q m0.stage → IsTied q s) → ActsLoosely (send_page w t) m (Ok tt) (staged m0 s)
page_acts w t m m0 s e0 awake es tie = stage_loosely m m0 (staged m0 s) (sent_page w t) e0 refl es awake (λ x. tie m0.request (tied_before m m0 e0 x))

pub header_acts : (w : ℕ) (t : Text) (name value : List ℕ) (replace : Bool) (m m0 : State) (s : Stage) → m0 ≡ m → m.checking ≡ false → s ≡ sent_header w t name value replace m0.stage → ((q : ℕ) → IsTied q m0.stage → IsTied q s)
    → ActsLoosely (send_header w t name value replace) m (Ok tt) (staged m0 s)
header_acts w t name value replace m m0 s e0 awake es tie = stage_loosely m m0 (staged m0 s) (sent_header w t name value replace) e0 refl es awake (λ x. tie m0.request (tied_before m m0 e0 x))

pub status_acts : (w : ℕ) (t : Text) (status : ℕ) (m m0 : State) (s : Stage) → m0 ≡ m → m.checking ≡ false → s ≡ sent_status w t status m0.stage → ((q : ℕ) → IsTied q m0.stage → IsTied q s)
    → Acts (send_status w t status) m (Ok tt) (staged m0 s)
status_acts w t status m m0 s e0 awake es tie =
    stage_acts m m0 (staged m0 s) (sent_status w t status) e0 refl es awake
    (λ x. subst (λ (y : State). IsTied y.request (sent_status w t status y.stage)) e0 (subst (IsTied m0.request) es (tie m0.request (tied_before m m0 e0 x))))

pub mail_acts : (w : ℕ) (t : Text) (m m0 : State) (s : Stage) → m0 ≡ m → m.checking ≡ false → s ≡ sent_mail m0.request w t m0.stage → (IsTied m0.request m0.stage → IsTied m0.request s) → ActsLoosely (send_mail w t) m (Ok tt) (staged m0 s)
mail_acts w t m m0 s e0 awake es tie =
    subst (λ (x : State). ActsLoosely (send_mail w t) x (Ok tt) (staged m0 s)) e0
    (loosely_as m0 (stage_loosely m0 m0 (staged m0 s) (sent_mail m0.request w t) refl refl es (ap (λ (x : State). x.checking) e0 ∙ awake) tie))
  where
    loosely_as : (x : State) → ActsLoosely (stepped (sent_mail x.request w t)) x (Ok tt) (staged m0 s) → ActsLoosely (send_mail w t) x (Ok tt) (staged m0 s)
    loosely_as x a = record { acted = a.acted; ticks = a.ticks; keeps = a.keeps; ties = a.ties }

-- want of memory, after which the journal is as it was
pub sending_lost : {A : Type 0} (a : Act A) (m m0 : State) (s : Stage) (r : Result A Stop) → m0 ≡ m → m.checking ≡ false → s.journal ≡ m0.stage.journal → IsErrAnd r (λ e. e ≡ Memory) → ActsLoosely a m r (staged m0 s)
sending_lost a m m0 s r e0 awake ej h = lost_loosely a m m0 (staged m0 s) r e0 refl ej awake h
