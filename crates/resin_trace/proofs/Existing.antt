-- Each text has a longest run of records.
use Rattle.std.proofs.Common.{◌≡◌, ℕ, zero, suc, ◌+◌, ◌<◌, ◌≤◌, List, [], ◌∷◌, length, take, refl, arith, ap, ◌∙◌, length-append}
use Rattle.resin_trace.specs.Records.{limit, Spells, NoRecord, Splits, HasRecords}
use Rattle.resin_trace.specs.Reads.{Stands}
use Rattle.resin_trace.specs.Front.{front}
use Rattle.resin_trace.specs.declared.event.TraceEvent.{TraceEvent}
use Rattle.resin_trace.specs.Front.{Found, Whole, Need, Bad}
use Rattle.resin_trace.proofs.Words.{word_of, front_stands}

pub some_word : (w : List ℕ) (e : TraceEvent) → Spells w e → 0 < length w
some_word [] e s = absurd (word_of [] e s)
some_word (b ∷ w) e s = omega arith

record Runs (place : ℕ) (text : List ℕ) : Type 0 where
  events : List (TraceEvent × ℕ)
  rest : List ℕ
  splits : Splits place text events rest
  longest : NoRecord rest

one_more : (n place : ℕ) (text : List ℕ) → length text ≤ n → (s : Found) → Stands text s
    → ((m p : ℕ) (t : List ℕ) → n ≡ suc m → length t ≤ m → Runs p t) → Runs place text
one_more zero place text h (Whole event used) w go =
    let some : 0 < length w.word = some_word w.word event w.spells in
    let sum : length text ≡ length w.word + length w.rest = ap length w.is ∙ length-append w.word w.rest in absurd (omega arith)
one_more (suc n) place text h (Whole event used) w go =
    let some : 0 < length w.word = some_word w.word event w.spells in
    let sum : length text ≡ length w.word + length w.rest = ap length w.is ∙ length-append w.word w.rest in
    let r : Runs (place + length w.word) w.rest = go n (place + length w.word) w.rest refl (omega arith) in
    record { events = (event, place + length w.word) ∷ r.events; rest = r.rest; splits = (w.word, w.rest, w.spells, w.is, refl, r.splits); longest = r.longest }
one_more n place text h Need w go = record { events = []; rest = text; splits = refl; longest = w.0 }
one_more n place text h Bad w go = record { events = []; rest = text; splits = refl; longest = w.0 }

exists : (n place : ℕ) (text : List ℕ) → length text ≤ n → Runs place text
exists zero place text h = one_more zero place text h (front text) (front_stands text) (λ m p t e l. absurd (omega arith))
exists (suc n) place text h = one_more (suc n) place text h (front text) (front_stands text) (λ m p t e l. exists n p t (omega arith))

pub exists_for : (text : List ℕ) → HasRecords text
exists_for text = let r : Runs 0 (take limit text) = exists (length (take limit text)) 0 (take limit text) (omega arith) in
    record { events = r.events; rest = r.rest; records = record { splits = r.splits; longest = r.longest } }
