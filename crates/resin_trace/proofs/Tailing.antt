-- The records of a text, one after another, and what stands after them.
use Rattle.std.proofs.Common.{◌≡◌, ℕ, ◌+◌, ◌-◌, ◌<◌, ◌≤◌, List, [], ◌∷◌, ◌++◌, length, take, drop, refl, sym, ◌∙◌, ap, subst, arith, length-append, true, false}
use Rattle.std.proofs.lemmas.List.{take_rest, drop_at, drop-drop, length-drop}
use Rattle.resin_trace.specs.declared.event.TraceEvent.{TraceEvent}
use Rattle.resin_trace.specs.Records.{Spells, NoRecord, CanGo, Splits}
use Rattle.resin_trace.specs.Reads.{WholeAt, Tails}
use Rattle.resin_trace.proofs.Existing.{some_word}

-- records of the text lead to the place, from wherever the text begins
pub record Led (text : List ℕ) (at : ℕ) : Type 0 where
  pub within : at ≤ length text
  pub leads : (place : ℕ) → (events : List (TraceEvent × ℕ)) × Splits place text events (drop at text)

pub led_none : (text : List ℕ) → Led text 0
led_none text = record { within = omega arith; leads = λ place. ([], refl) }

pub splits_more : (p q : ℕ) (text : List ℕ) (es : List (TraceEvent × ℕ)) (rest word more : List ℕ) (e : TraceEvent)
    → Splits p text es rest → q + length rest ≡ p + length text → Spells word e → rest ≡ word ++ more
    → Splits p text (es ++ (e, q + length word) ∷ []) more
splits_more p q text [] rest word more e s n sp is =
    let l : length text ≡ length rest = ap length s in
    (word, more, sp, s ∙ is, omega arith, refl)
splits_more p q text (x ∷ es) rest word more e (w, m, spw, tis, xis, s) n sp is =
    let l : length text ≡ length w + length m = ap length tis ∙ length-append w m in
    (w, m, spw, tis, xis, splits_more x.1 q m es rest word more e s (omega arith) sp is)

-- .. and one more record does
pub led_more : (text now : List ℕ) (at used : ℕ) (e : TraceEvent) → Led text at → now ≡ take (length text - at) (drop at text)
    → WholeAt now e used → used ≤ length now → Led text (at + used) × (0 < used)
led_more text now at used e l n w u =
    let in_text : at ≤ length text = l.within in
    let rest : drop at text ≡ w.word ++ w.rest = sym (take_rest text at) ∙ sym n ∙ w.is in
    let sizes : length now ≡ length text - at = ap length (n ∙ take_rest text at) ∙ length-drop at text in
    let size : length (drop at text) ≡ length text - at = length-drop at text in
    let more : w.rest ≡ drop (at + used) text = sym (drop_at w.word w.rest used (sym w.used_is)) ∙ ap (drop used) (sym rest) ∙ drop-drop used at text in
    let some : 0 < length w.word = some_word w.word e w.spells in
    let count : used ≡ length w.word = w.used_is in (
      record {
        within = omega arith;
        leads = λ place.
            let p = l.leads place in (
              p.0 ++ (e, (place + at) + length w.word) ∷ [],
              subst (λ r. Splits place text (p.0 ++ (e, (place + at) + length w.word) ∷ []) r) more
                  (splits_more place (place + at) text p.0 (drop at text) w.word w.rest e p.1 (omega arith) w.spells rest),
            );
      },
      omega arith,
    )

pub tail_goes : (text now : List ℕ) (at : ℕ) → Led text at → now ≡ take (length text - at) (drop at text) → NoRecord now × CanGo now
    → (place : ℕ) → Tails place text (record { at = at; goes = true })
tail_goes text now at l n s place =
    let is : now ≡ drop at text = n ∙ take_rest text at in
    let p = l.leads place in
    record { events = p.0; splits = p.1; within = l.within; longest = subst NoRecord is s.0; goes = subst CanGo is s.1 }

pub tail_stuck : (text now : List ℕ) (at : ℕ) → Led text at → now ≡ take (length text - at) (drop at text) → NoRecord now × (CanGo now → ⊥)
    → (place : ℕ) → Tails place text (record { at = at; goes = false })
tail_stuck text now at l n s place =
    let is : now ≡ drop at text = n ∙ take_rest text at in
    let p = l.leads place in
    record { events = p.0; splits = p.1; within = l.within; longest = subst NoRecord is s.0; goes = subst (λ r. CanGo r → ⊥) is s.1 }
