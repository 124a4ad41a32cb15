-- Steps that change the stage alone.
use Rattle.std.proofs.Common.{◌≡◌, ◌≤◌, length, [], ◌∷◌, ◌++◌, false, cond, nat_lt, Result, Ok, Err, refl, sym, ap, subst, ◌∙◌, arith, IsErrAnd}
use Rattle.std.proofs.lemmas.List.{append-nil}
use Rattle.std.proofs.lemmas.List.Elements.{filter-append}
use Rattle.std.proofs.lemmas.Result.{err_from_is_err_and}
use Rattle.resin_stage.specs.Under.journal.declared.event.Event.{Event}
use Rattle.resin_stage.specs.Under.journal.Events.{EventList}
use Rattle.resin_stage.specs.Under.journal.Access.{write_of}
use Rattle.resin_stage.specs.Stages.{Stage, noted}
use Rattle.resin_stage.specs.Ties.{nothing, sending_of}
use Rattle.resin_stage.proofs.Tied.{tied_noted}
use Rattle.resin_machine.specs.declared.stop.Stop.{Stop}
use Rattle.resin_machine.specs.declared.stop.Stop.TheVariants.{Thrown, Exit, Fault, Keeper, Memory}
use Rattle.resin_machine.specs.State.{State}
use Rattle.resin_machine.specs.Keeping.{Keeps, Tied, leaving}
use Rattle.resin_machine.specs.Steps.{Act, Acts, Acted, ActsLoosely}
use Rattle.resin_machine.specs.Leaving.{on_stage, note}
use Rattle.resin_machine.proofs.Kept.{keeps_awake}

-- a step that changes the stage
abbrev pub stepped : (Stage → Stage) → Act (Unit {0})
stepped change x = (Ok tt, on_stage change x)

-- a machine whose stage alone was changed
stage_changed : (m m0 m' : State) (change : Stage → Stage) → m0 ≡ m → m' ≡ record m0 { stage = m'.stage } → m'.stage ≡ change m0.stage → m' ≡ on_stage change m
stage_changed m m0 m' change e0 er es =
    er ∙ (ap (λ (s : Stage). let x : State = record m0 { stage = s } in x) es ∙ ap (λ (x : State). on_stage change x) e0)

-- a step that changes the stage where no check runs
pub stage_acts : (m m0 m' : State) (change : Stage → Stage) → m0 ≡ m → m' ≡ record m0 { stage = m'.stage } → m'.stage ≡ change m0.stage → m.checking ≡ false → (Tied m → Tied (on_stage change m))
    → Acts (stepped change) m (Ok tt) m'
stage_acts m m0 m' change e0 er es awake ties =
    subst (λ (x : State). Acts (stepped change) m (Ok tt) x) (sym (stage_changed m m0 m' change e0 er es))
    (record { acted = refl; ticks = omega arith; keeps = keeps_awake m (on_stage change m) awake refl refl refl; ties = λ ne t. ties t })

-- an event of the write under way that sends nothing
pub noted_acts : (m m0 m' : State) (e : Event) → m0 ≡ m → m' ≡ record m0 { stage = m'.stage } → m'.stage ≡ noted e m0.stage → m.checking ≡ false → sending_of e ≡ nothing → Acts (note e) m (Ok tt) m'
noted_acts m m0 m' e e0 er es awake quiet = stage_acts m m0 m' (noted e) e0 er es awake (λ t. tied_noted m.request e m.stage quiet t)

leaving_outside : (j : EventList) (e : Event) → write_of e ≡ 0 → leaving (j ++ e ∷ []) ≡ leaving j
leaving_outside j e z =
    filter-append (λ x. nat_lt 0 (write_of x)) j (e ∷ [])
    ∙ (ap (λ n. leaving j ++ cond (nat_lt 0 n) (e ∷ []) []) z ∙ append-nil (leaving j))

-- an event outside of the writes that leave
pub outside_acts : (m m0 m' : State) (e : Event) → m0 ≡ m → m' ≡ record m0 { stage = m'.stage } → m'.stage ≡ noted e m0.stage → write_of e ≡ 0 → sending_of e ≡ nothing → Acts (note e) m (Ok tt) m'
outside_acts m m0 m' e e0 er es zero quiet =
    subst (λ (x : State). Acts (note e) m (Ok tt) x) (sym (stage_changed m m0 m' (noted e) e0 er es))
    (record {
      acted = refl;
      ticks = omega arith;
      keeps = record {
        request = refl;
        open_calls = refl;
        checking = refl;
        calm = λ t. record { grown = (e ∷ [], refl); journal = leaving_outside m.stage.journal e zero; writes = refl; status = refl; headers = refl; body = refl; mail = refl };
      };
      ties = λ ne t. tied_noted m.request e m.stage quiet t;
    })

-- another name of the same step
pub acts_as : {A : Type 0} (a b : Act A) (m : State) (r : Result A Stop) (m' : State) → a m ≡ b m → Acts a m r m' → Acts b m r m'
acts_as {A = A} a b m r m' e h = record { acted = cases r h.acted; ticks = h.ticks; keeps = h.keeps; ties = h.ties }
  where
    cases : (r : Result A Stop) → Acted a m r m' → Acted b m r m'
    cases (Ok v) k = sym e ∙ k
    cases (Err (Thrown o)) k = sym e ∙ k
    cases (Err Exit) k = sym e ∙ k
    cases (Err (Fault f line)) k = sym e ∙ k
    cases (Err Keeper) k = k
    cases (Err Memory) k = k

-- a step that changes the stage, of which want of memory may leave a part
pub stage_loosely : (m m0 m' : State) (change : Stage → Stage) → m0 ≡ m → m' ≡ record m0 { stage = m'.stage } → m'.stage ≡ change m0.stage → m.checking ≡ false → (Tied m → Tied m')
    → ActsLoosely (stepped change) m (Ok tt) m'
stage_loosely m m0 m' change e0 er es awake ties =
    let e = stage_changed m m0 m' change e0 er es in
    record {
      acted = ap (λ (x : State). let p : Result (Unit {0}) Stop × State = (Ok tt, x) in p) (sym e);
      ticks = subst (λ (x : State). x.ticks ≤ m.ticks) (sym e) (omega arith);
      keeps = subst (Keeps m) (sym e) (keeps_awake m (on_stage change m) awake refl refl refl);
      ties = λ ne t. ties t;
    }

-- want of memory in a step that changes the stage alone, and its journal not
pub lost_loosely : {A : Type 0} (a : Act A) (m m0 m' : State) (r : Result A Stop) → m0 ≡ m → m' ≡ record m0 { stage = m'.stage } → m'.stage.journal ≡ m0.stage.journal → m.checking ≡ false → IsErrAnd r (λ e. e ≡ Memory) → ActsLoosely a m r m'
lost_loosely {A = A} a m m0 m' r e0 er ej awake h =
    let e = err_from_is_err_and r h in
    rw (e.1, e.2) (record {
      acted = ej ∙ ap (λ (x : State). x.stage.journal) e0;
      ticks = subst (λ (x : State). x.ticks ≤ m.ticks) (sym er) (subst (λ (x : State). x.ticks ≤ m.ticks) (sym e0) (omega arith));
      keeps = keeps_awake m m' awake (ap (λ (x : State). x.request) er ∙ ap (λ (x : State). x.request) e0) (ap (λ (x : State). length x.frames.calls) er ∙ ap (λ (x : State). length x.frames.calls) e0) (ap (λ (x : State). x.checking) er ∙ ap (λ (x : State). x.checking) e0);
      ties = λ ne. absurd (ne refl);
    })
