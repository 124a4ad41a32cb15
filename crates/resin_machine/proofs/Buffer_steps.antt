-- Steps on output buffers.
use Rattle.std.proofs.Common.{◌≡◌, ℕ, ◌≤◌, ◌<◌, List, [], ◌∷◌, ◌++◌, length, Bool, true, false, cond, nat_le, Some, None, Result, Ok, Err, refl, sym, ap, subst, ◌∙◌, arith}
use Rattle.std.proofs.lemmas.Bool.Decides.{nat_tests}
use Rattle.resin_heap.specs.Under.lstr.declared.limits.TheConstants.{LONGEST}
use Rattle.resin_heap.specs.Under.lstr.Texts.{Text}
use Rattle.resin_heap.specs.Under.lstr.declared.text.TextFault.{TextFault}
use Rattle.resin_heap.specs.Under.lstr.declared.text.TextFault.TheVariants.{TooLong, Memory as NoMemory}
use Rattle.resin_stage.specs.Buffered.{Joins}
use Rattle.resin_heap.specs.Under.scalar.declared.faults.ScriptFault.TheVariants.{TextTooLong}
use Rattle.resin_stage.specs.Under.scope.Pages.{innermost, appended_to_innermost}
use Rattle.resin_stage.specs.Stages.{Stage, opened, outer_buffers, buffered}
use Rattle.resin_machine.specs.declared.stop.Stop.{Stop}
use Rattle.resin_machine.specs.declared.stop.Stop.TheVariants.{Fault, Memory}
use Rattle.resin_machine.specs.State.{State}
use Rattle.resin_machine.specs.Keeping.{Keeps, Tied}
use Rattle.resin_machine.specs.Steps.{Act, Acts, ActsLoosely, faults}
use Rattle.resin_machine.proofs.Kept.{grown_same}
use Rattle.resin_machine.specs.Leaving.{on_stage, open_buffer, last_buffer, close_buffer, buffer, text_stop}

closed_is : (rest : List Text) (t : Text) → outer_buffers (rest ++ t ∷ []) ≡ rest
closed_is [] t = refl
closed_is (b ∷ []) t = refl
closed_is (b ∷ c ∷ rest) t = ap (λ xs. b ∷ xs) (closed_is (c ∷ rest) t)

inner_is : (rest : List Text) (t : Text) → innermost (rest ++ t ∷ []) ≡ t
inner_is [] t = refl
inner_is (b ∷ []) t = refl
inner_is (b ∷ c ∷ rest) t = inner_is (c ∷ rest) t

last_is : (rest : List Text) (t : Text) → last_buffer (rest ++ t ∷ []) ≡ Some t
last_is [] t = refl
last_is (b ∷ rest) t = ap Some (inner_is (b ∷ rest) t)

-- the state with other buffers
abbrev with_buffers : State → List Text → State
with_buffers m bs = record m { stage = record m.stage { buffers = bs } }

buffers_keep : (m : State) (bs : List Text) → Keeps m (with_buffers m bs)
buffers_keep m bs = record {
  request = refl;
  open_calls = refl;
  checking = refl;
  calm = λ t. record { grown = grown_same m.stage.journal m.stage.journal refl; journal = refl; writes = refl; status = refl; headers = refl; body = refl; mail = refl };
}

buffers_tied : (m : State) (bs : List Text) → Tied m → Tied (with_buffers m bs)
buffers_tied m bs t = record { body = t.body; mail = t.mail; headers = t.headers; status = t.status }

loosely : {A : Type 0} (a : Act A) (m : State) (v : A) (bs : List Text) → a m ≡ (Ok v, with_buffers m bs) → ActsLoosely a m (Ok v) (with_buffers m bs)
loosely a m v bs e = record { acted = e; ticks = omega arith; keeps = buffers_keep m bs; ties = λ ne t. buffers_tied m bs t }

lost_buffers : {A : Type 0} (a : Act A) (m : State) (bs : List Text) → ActsLoosely a m (Err Memory) (with_buffers m bs)
lost_buffers a m bs = record { acted = refl; ticks = omega arith; keeps = buffers_keep m bs; ties = λ ne. absurd (ne refl) }

-- the stage has other buffers, and nothing else is changed
other_buffers : (m0 : State) (s : Stage) → s ≡ record m0.stage { buffers = s.buffers } → (record m0 { stage = s }) ≡ with_buffers m0 s.buffers
other_buffers m0 s e = ap (λ (x : Stage). let y : State = record m0 { stage = x } in y) e

-- a buffer was opened
pub opened_acts : (m m0 : State) (s : Stage) → m0 ≡ m → s ≡ opened m0.stage → Acts open_buffer m (Ok tt) (record m0 { stage = s })
opened_acts m m0 s e0 e =
    subst (λ (x : State). Acts open_buffer x (Ok tt) (record m0 { stage = s })) e0
    (subst (λ (x : Stage). Acts open_buffer m0 (Ok tt) (record m0 { stage = x })) (sym e)
    (record { acted = refl; ticks = omega arith; keeps = buffers_keep m0 _; ties = λ ne t. buffers_tied m0 _ t }))

-- the innermost buffer was closed, and its text is the answer
pub closed_acts : (m m0 : State) (s : Stage) (t : Text) → m0 ≡ m → s ≡ record m0.stage { buffers = s.buffers } → m0.stage.buffers ≡ s.buffers ++ t ∷ [] → ActsLoosely close_buffer m (Ok (Some t)) (record m0 { stage = s })
closed_acts m m0 s t e0 e h =
    subst (λ (x : State). ActsLoosely close_buffer x (Ok (Some t)) (record m0 { stage = s })) e0
    (subst (λ (x : State). ActsLoosely close_buffer m0 (Ok (Some t)) x) (sym (other_buffers m0 s e))
    (loosely close_buffer m0 (Some t) s.buffers (λ i. (Ok ((ap last_buffer h ∙ last_is s.buffers t) i), with_buffers m0 ((ap outer_buffers h ∙ closed_is s.buffers t) i)))))

-- no memory for that text
pub closed_lost : (m m0 : State) (s : Stage) → m0 ≡ m → s ≡ record m0.stage { buffers = s.buffers } → ActsLoosely close_buffer m (Err Memory) (record m0 { stage = s })
closed_lost m m0 s e0 e =
    subst (λ (x : State). ActsLoosely close_buffer x (Err Memory) (record m0 { stage = s })) e0
    (subst (λ (x : State). ActsLoosely close_buffer m0 (Err Memory) x) (sym (other_buffers m0 s e)) (lost_buffers close_buffer m0 s.buffers))

-- none was open
pub none_closed : (m m0 : State) (s : Stage) → m0 ≡ m → s ≡ m0.stage → m0.stage.buffers ≡ [] → ActsLoosely close_buffer m (Ok None) (record m0 { stage = s })
none_closed m m0 s e0 e h =
    subst (λ (x : State). ActsLoosely close_buffer x (Ok None) (record m0 { stage = s })) e0
    (subst (λ (x : Stage). ActsLoosely close_buffer m0 (Ok None) (record m0 { stage = x })) (sym e)
    (loosely close_buffer m0 None m0.stage.buffers (λ i. (Ok (ap last_buffer h i), with_buffers m0 ((ap outer_buffers h ∙ sym h) i)))))

le_true : (a b : ℕ) → a ≤ b → nat_le a b ≡ true
le_true a b h = grind (arith, nat_tests)

le_false : (a b : ℕ) → b < a → nat_le a b ≡ false
le_false a b h = grind (arith, nat_tests)

-- how putting a text into the innermost buffer goes on
goes_in : (t : Text) (m : State) (b : Bool) → nat_le (length (innermost m.stage.buffers ++ t)) LONGEST ≡ b → buffer t m ≡ cond b (Ok tt, on_stage (buffered t) m) (faults TextTooLong m)
goes_in t m b e = ap (λ x. cond x (Ok tt, on_stage (buffered t) m) (faults TextTooLong m)) e

-- a text went into the innermost buffer
pub buffered_acts : (t : Text) (m m0 : State) (s : Stage) → m0 ≡ m → s ≡ record m0.stage { buffers = s.buffers } → s.buffers ≡ appended_to_innermost t m0.stage.buffers → length (innermost m0.stage.buffers ++ t) ≤ LONGEST
    → ActsLoosely (buffer t) m (Ok tt) (record m0 { stage = s })
buffered_acts t m m0 s e0 e h le =
    subst (λ (x : State). ActsLoosely (buffer t) x (Ok tt) (record m0 { stage = s })) e0
    (subst (λ (x : State). ActsLoosely (buffer t) m0 (Ok tt) x) (sym (other_buffers m0 s e))
    (loosely (buffer t) m0 tt s.buffers (goes_in t m0 true (le_true _ _ le) ∙ ap (λ bs. let p : Result (Unit {0}) Stop × State = (Ok tt, with_buffers m0 bs) in p) (sym h))))

-- it was too long
pub too_long : (t : Text) (m m0 : State) (s : Stage) (line : ℕ) → m0 ≡ m → line ≡ m0.line → s ≡ record m0.stage { buffers = s.buffers } → s.buffers ≡ m0.stage.buffers → LONGEST < length (innermost m0.stage.buffers ++ t)
    → ActsLoosely (buffer t) m (Err (Fault TextTooLong line)) (record m0 { stage = s })
too_long t m m0 s line e0 el e h lt =
    subst (λ (x : State). ActsLoosely (buffer t) x (Err (Fault TextTooLong line)) (record m0 { stage = s })) e0
    (subst (λ (n : ℕ). ActsLoosely (buffer t) m0 (Err (Fault TextTooLong n)) (record m0 { stage = s })) (sym el)
    (subst (λ (x : State). ActsLoosely (buffer t) m0 (Err (Fault TextTooLong m0.line)) x) (sym (other_buffers m0 s e ∙ ap (with_buffers m0) h))
    (record { acted = goes_in t m0 false (le_false _ _ lt); ticks = omega arith; keeps = buffers_keep m0 m0.stage.buffers; ties = λ ne x. buffers_tied m0 m0.stage.buffers x })))

-- no memory for it
pub buffer_lost : (t : Text) (m m0 : State) (s : Stage) → m0 ≡ m → s ≡ record m0.stage { buffers = s.buffers } → ActsLoosely (buffer t) m (Err Memory) (record m0 { stage = s })
buffer_lost t m m0 s e0 e =
    subst (λ (x : State). ActsLoosely (buffer t) x (Err Memory) (record m0 { stage = s })) e0
    (subst (λ (x : State). ActsLoosely (buffer t) m0 (Err Memory) x) (sym (other_buffers m0 s e)) (lost_buffers (buffer t) m0 s.buffers))

-- it didn't go in
pub refused_loosely : (t : Text) (m m0 : State) (s : Stage) (fault : TextFault) (stop : Stop) (line : ℕ) → m0 ≡ m → line ≡ m0.line → s ≡ record m0.stage { buffers = s.buffers } → Joins t m0.stage.buffers (Err fault) s.buffers → stop ≡ text_stop fault line
    → ActsLoosely (buffer t) m (Err stop) (record m0 { stage = s })
refused_loosely t m m0 s fault stop line e0 el e j es =
    subst (λ (x : Stop). ActsLoosely (buffer t) m (Err x) (record m0 { stage = s })) (sym es) (cases fault j)
  where
    cases : (fault : TextFault) → Joins t m0.stage.buffers (Err fault) s.buffers → ActsLoosely (buffer t) m (Err (text_stop fault line)) (record m0 { stage = s })
    cases TooLong k = too_long t m m0 s line e0 el e k.0 k.1
    cases NoMemory k = buffer_lost t m m0 s e0 e
