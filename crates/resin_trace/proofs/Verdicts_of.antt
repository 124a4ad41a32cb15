-- How a trace ends, told by a reader that went over it.
use Rattle.std.proofs.Common.{◌≡◌, ◌≢◌, ℕ, ◌+◌, ◌-◌, ◌<◌, ◌≤◌, min, List, [], ◌∷◌, ◌++◌, length, take, arith, refl, sym, ap, subst, ◌∙◌, inl, inr, ◌⊎◌, true, false, append_assoc, length-append, length-take}
use Rattle.std.specs.Prelude.{◌||◌, nat_lt, Result, Ok, Err}
use Rattle.std.proofs.lemmas.Bool.{ltb-true, ltb-false}
use Rattle.std.proofs.lemmas.Bool.Decides.{nat_tests}
use Rattle.std.proofs.lemmas.List.{take_all, take_at, take-append-le}
use Rattle.std.proofs.Math.Seq.{take-append-add}
use Rattle.resin_trace.specs.declared.event.TraceEvent.{TraceEvent}
use Rattle.resin_trace.specs.declared.reader.TraceFault.{TraceFault}
use Rattle.resin_trace.specs.declared.reader.TraceFault.TheVariants.{Bad, TooLong, Memory}
use Rattle.resin_trace.specs.Front.{Found, Whole, Need, front}
use Rattle.resin_trace.specs.Front as f
use Rattle.resin_trace.specs.Records.{limit, CanGo, Splits, Records, HasRecords}
use Rattle.resin_trace.specs.Seen.{Seen, begin, fed}
use Rattle.resin_trace.specs.Reads.{HandsOut, Reads, Left, IsTooLong, BreaksAt, Finishes, Stands}
use Rattle.resin_trace.specs.Verdicts.{IsGood, IsBad, IsLong, Ends, HasRead, HasEnd, IsMemoryOr}
use Rattle.resin_trace.proofs.Once.{once}
use Rattle.resin_trace.proofs.Existing.{exists_for}
use Rattle.resin_trace.proofs.Tailing.{splits_more}
use Rattle.resin_trace.proofs.Words.{front_stands}

pub splits_append : (p q : ℕ) (text : List ℕ) (es fs : List (TraceEvent × ℕ)) (rest rest' : List ℕ) → Splits p text es rest → q + length rest ≡ p + length text → Splits q rest fs rest' → Splits p text (es ++ fs) rest'
splits_append p q text [] fs rest rest' s n t =
    let l : length text ≡ length rest = ap length s in
    let e : q ≡ p = omega arith in
    subst (λ k. Splits k text fs rest') e (subst (λ l. Splits q l fs rest') (sym s) t)
splits_append p q text (x ∷ es) fs rest rest' (w, m, spw, tis, xis, s) n t =
    let l : length text ≡ length w + length m = ap length tis ∙ length-append w m in
    (w, m, spw, tis, xis, splits_append x.1 q m es fs rest rest' s (omega arith) t)

pub splits_feed : (p : ℕ) (text piece : List ℕ) (es : List (TraceEvent × ℕ)) (rest : List ℕ) → Splits p text es rest → Splits p (text ++ piece) es (rest ++ piece)
splits_feed p text piece [] rest s = ap (λ l. l ++ piece) s
splits_feed p text piece (x ∷ es) rest (w, m, spw, tis, xis, s) =
    (w, m ++ piece, spw, ap (λ l. l ++ piece) tis ∙ append_assoc w m piece, xis, splits_feed x.1 m piece es rest s)

cut_more : (xs ys : List ℕ) (n m : ℕ) → n ≡ length xs + m → take n (xs ++ ys) ≡ xs ++ take m ys
cut_more xs ys n m e = ap (λ k. take k (xs ++ ys)) e ∙ take-append-add xs ys m

not_over : (n : ℕ) → nat_lt limit n ≡ false → n ≤ limit
not_over n e = ltb-false limit n e

is_over : (n : ℕ) → nat_lt limit n ≡ true → limit < n
is_over n e = ltb-true limit n e

lt_test : (n : ℕ) → limit < n → nat_lt limit n ≡ true
lt_test n h = grind (arith, nat_tests)

pub begins : HasRead [] [] begin
begins = record { splits = take_all limit [] (omega arith); place = ap length (sym (take_all {A = ℕ} limit [] (omega arith))); over = refl }

-- the bytes past the limit change nothing
feeds_over : (trace piece : List ℕ) (handed : List (TraceEvent × ℕ)) (s : Seen) → HasRead trace handed s → limit < length trace → HasRead (trace ++ piece) handed (fed s piece)
feeds_over trace piece handed s h l =
    let size : length (take limit trace) ≡ limit = length-take limit trace ∙ (let m : min limit (length trace) ≡ limit = omega arith in m) in
    let at : s.place + length s.rest ≡ length (take limit trace) = h.place in
    let same : take limit (trace ++ piece) ≡ take limit trace = take-append-le limit trace piece (omega arith) in
    let rest : take (limit - s.place) (s.rest ++ piece) ≡ s.rest = take_at s.rest piece (limit - s.place) (omega arith) in
    let all : length (trace ++ piece) ≡ length trace + length piece = length-append trace piece in
    let before : s.over ≡ true = h.over ∙ lt_test (length trace) l in
    record {
      splits = subst (λ r. Splits 0 (take limit (trace ++ piece)) handed r) (sym rest) (subst (λ t. Splits 0 t handed s.rest) (sym same) h.splits);
      place = ap (λ r. s.place + length r) rest ∙ h.place ∙ ap length (sym same);
      over = ap (λ b. b || nat_lt limit (s.place + length (s.rest ++ piece))) before ∙ sym (lt_test (length (trace ++ piece)) (omega arith));
    }

feeds_within : (trace piece : List ℕ) (handed : List (TraceEvent × ℕ)) (s : Seen) → HasRead trace handed s → length trace ≤ limit → s.over ≡ false → HasRead (trace ++ piece) handed (fed s piece)
feeds_within trace piece handed s h fits not_yet =
    let same : take limit trace ≡ trace = take_all limit trace fits in
    let ends : s.place + length s.rest ≡ length trace = h.place ∙ ap length same in
    let room : ℕ = limit - length trace in
    let text : take limit (trace ++ piece) ≡ trace ++ take room piece = cut_more trace piece limit room (omega arith) in
    let rest : take (limit - s.place) (s.rest ++ piece) ≡ s.rest ++ take room piece = cut_more s.rest piece (limit - s.place) room (omega arith) in
    let tl : length (take limit (trace ++ piece)) ≡ length trace + length (take room piece) = ap length text ∙ length-append trace (take room piece) in
    let rl : length (take (limit - s.place) (s.rest ++ piece)) ≡ length s.rest + length (take room piece) = ap length rest ∙ length-append s.rest (take room piece) in
    let all : length (trace ++ piece) ≡ length trace + length piece = length-append trace piece in
    let rall : length (s.rest ++ piece) ≡ length s.rest + length piece = length-append s.rest piece in
    let sum : s.place + length (s.rest ++ piece) ≡ length (trace ++ piece) = omega arith in
    record {
      splits = subst (λ t. Splits 0 t handed (take (limit - s.place) (s.rest ++ piece))) (sym text) (subst (Splits 0 (trace ++ take room piece) handed) (sym rest)
          (splits_feed 0 trace (take room piece) handed s.rest (subst (λ t. Splits 0 t handed s.rest) same h.splits)));
      place = omega arith;
      over = ap (λ b. b || nat_lt limit (s.place + length (s.rest ++ piece))) not_yet ∙ ap (nat_lt limit) sum;
    }

pub feeds : (trace piece : List ℕ) (handed : List (TraceEvent × ℕ)) (s : Seen) → HasRead trace handed s → HasRead (trace ++ piece) handed (fed s piece)
feeds trace piece handed s h = elim s.over as (λ b. s.over ≡ b → HasRead (trace ++ piece) handed (fed s piece)) [
  | true ↦ λ e. feeds_over trace piece handed s h (is_over (length trace) (sym h.over ∙ e))
  | false ↦ λ e. feeds_within trace piece handed s h (not_over (length trace) (sym h.over ∙ e)) e
] refl

pub hands : (trace : List ℕ) (handed : List (TraceEvent × ℕ)) (s t : Seen) (event : TraceEvent) → HasRead trace handed s → HandsOut s event t → HasRead trace (handed ++ (event, t.place) ∷ []) t
hands trace handed s t event h o =
    let at : t.place ≡ s.place + length o.word = o.place in
    let is : length s.rest ≡ length o.word + length t.rest = ap length o.is ∙ length-append o.word t.rest in
    let ends : s.place + length s.rest ≡ length (take limit trace) = h.place in
    record {
      splits = subst (λ p. Splits 0 (take limit trace) (handed ++ (event, p) ∷ []) t.rest) (sym at) (splits_more 0 s.place (take limit trace) handed s.rest o.word t.rest event h.splits (omega arith) o.spells o.is);
      place = omega arith;
      over = o.over ∙ h.over;
    }

-- the records of the whole trace: those handed out, and those that are left
all_records : (trace : List ℕ) (handed events : List (TraceEvent × ℕ)) (s : Seen) (rest : List ℕ) → HasRead trace handed s → Left s events rest → Records trace (handed ++ events) rest
all_records trace handed events s rest h l =
    let at : s.place + length s.rest ≡ length (take limit trace) = h.place in
    record { splits = splits_append 0 s.place (take limit trace) handed events s.rest rest h.splits (omega arith) l.splits; longest = l.longest }

long_of : (trace : List ℕ) (handed : List (TraceEvent × ℕ)) (s : Seen) → HasRead trace handed s → IsTooLong s → IsLong trace
long_of trace handed s h l = record {
  events = handed ++ l.events;
  rest = l.rest;
  records = all_records trace handed l.events s l.rest h l.left;
  long = is_over (length trace) (sym h.over ∙ l.over);
  goes = l.goes;
}

-- a record can come after nothing
goes_nil : CanGo []
goes_nil = (front_stands []).1

some_length : (rest : List ℕ) → rest ≢ [] → 0 < length rest
some_length [] n = absurd (n refl)
some_length (x ∷ rest) n = omega arith

some_rest : (s : Seen) (rest : List ℕ) → (((rest ≢ []) × (s.over ≡ false)) ⊎ (CanGo rest → ⊥)) → rest ≢ []
some_rest s rest (inl h) e = h.0 e
some_rest s rest (inr h) e = h (subst CanGo (sym e) goes_nil)

short_or : (trace : List ℕ) (handed : List (TraceEvent × ℕ)) (s : Seen) (rest : List ℕ) → HasRead trace handed s
    → (((rest ≢ []) × (s.over ≡ false)) ⊎ (CanGo rest → ⊥)) → (length trace ≤ limit) ⊎ (CanGo rest → ⊥)
short_or trace handed s rest h (inl k) = inl (not_over (length trace) (sym h.over ∙ k.1))
short_or trace handed s rest h (inr k) = inr k

bad_of : (trace : List ℕ) (handed : List (TraceEvent × ℕ)) (s : Seen) (offset : ℕ) → HasRead trace handed s → BreaksAt s offset → IsBad trace offset
bad_of trace handed s offset h b =
    let some : 0 < length b.rest = some_length b.rest (some_rest s b.rest b.stuck) in
    let at : offset + length b.rest ≡ s.place + length s.rest = b.place in
    let ends : s.place + length s.rest ≡ length (take limit trace) = h.place in
    let cut : length (take limit trace) ≡ min limit (length trace) = length-take limit trace in
    record {
      events = handed ++ b.events;
      rest = b.rest;
      records = all_records trace handed b.events s b.rest h b.left;
      place = omega arith;
      before = omega arith;
      stuck = short_or trace handed s b.rest h b.stuck;
    }

pub breaks : (trace : List ℕ) (handed : List (TraceEvent × ℕ)) (s t : Seen) (fault : TraceFault) → HasRead trace handed s → Reads s (Err fault) t → IsMemoryOr fault (Ends trace (Err fault))
breaks trace handed s t (Bad offset) h r = bad_of trace handed s offset h (record { events = []; rest = s.rest; left = record { splits = refl; longest = r.0.none }; place = ap (λ n. n + length s.rest) r.1; stuck = inr r.0.stuck })
breaks trace handed s t TooLong h r = long_of trace handed s h (record { over = r.1; events = []; rest = s.rest; left = record { splits = refl; longest = r.0.none }; goes = r.0.goes })
breaks trace handed s t Memory h r = tt

pub finishes : (trace : List ℕ) (handed : List (TraceEvent × ℕ)) (s : Seen) (answer : Result Unit TraceFault) → HasRead trace handed s → Finishes s answer → Ends trace answer
finishes trace handed s (Ok done) h f = record { events = handed ++ f.0; records = all_records trace handed f.0 s [] h f.1; short = not_over (length trace) (sym h.over ∙ f.2) }
finishes trace handed s (Err (Bad offset)) h f = bad_of trace handed s offset h f
finishes trace handed s (Err TooLong) h f = long_of trace handed s h f
finishes trace handed s (Err Memory) h f = absurd f

rest_within : (p : ℕ) (text : List ℕ) (es : List (TraceEvent × ℕ)) (rest : List ℕ) → Splits p text es rest → length rest ≤ length text
rest_within p text [] rest s = let l : length text ≡ length rest = ap length s in omega arith
rest_within p text (x ∷ es) rest (w, m, spw, tis, xis, s) =
    let l : length text ≡ length w + length m = ap length tis ∙ length-append w m in
    let k : length rest ≤ length m = rest_within x.1 m es rest s in
    omega arith

end_at : (trace : List ℕ) (events : List (TraceEvent × ℕ)) (rest : List ℕ) → Records trace events rest → rest ≢ [] → ((length trace ≤ limit) ⊎ (CanGo rest → ⊥)) → HasEnd trace
end_at trace events rest r n k =
    let some : 0 < length rest = some_length rest n in
    let cut : length (take limit trace) ≡ min limit (length trace) = length-take limit trace in
    let within : length rest ≤ length (take limit trace) = rest_within 0 (take limit trace) events rest r.splits in
    record {
      answer = Err (Bad (length (take limit trace) - length rest));
      ends = record { events = events; rest = rest; records = r; place = omega arith; before = omega arith; stuck = k };
    }

short_end : (trace : List ℕ) (events : List (TraceEvent × ℕ)) (rest : List ℕ) → Records trace events rest → length trace ≤ limit → HasEnd trace
short_end trace events [] r l = record { answer = Ok tt; ends = record { events = events; records = r; short = l } }
short_end trace events (x ∷ rest) r l = end_at trace events (x ∷ rest) r (λ e. cc) (inl l)

long_end : (trace : List ℕ) (events : List (TraceEvent × ℕ)) (rest : List ℕ) (found : Found) → Records trace events rest → limit < length trace → Stands rest found → HasEnd trace
long_end trace events rest (Whole event used) r l w = absurd (r.longest (record { event = event; word = w.word; rest = w.rest; spells = w.spells; is = w.is }))
long_end trace events rest Need r l w = record { answer = Err TooLong; ends = record { events = events; rest = rest; records = r; long = l; goes = w.1 } }
long_end trace events rest f.Bad r l w = end_at trace events rest r (λ e. w.1 (subst CanGo (sym e) goes_nil)) (inr w.1)

pub has_end : (trace : List ℕ) → HasEnd trace
has_end trace =
    let r : HasRecords trace = exists_for trace in
    elim (nat_lt limit (length trace)) as (λ b. nat_lt limit (length trace) ≡ b → HasEnd trace) [
      | true ↦ λ e. long_end trace r.events r.rest (front r.rest) r.records (is_over (length trace) e) (front_stands r.rest)
      | false ↦ λ e. short_end trace r.events r.rest r.records (not_over (length trace) e)
    ] refl

same_rest : (trace : List ℕ) (es fs : List (TraceEvent × ℕ)) (rest left : List ℕ) → Records trace es rest → Records trace fs left → rest ≡ left
same_rest trace es fs rest left r s = (once 0 (take limit trace) es fs rest left r.splits s.splits r.longest s.longest).1

good_bad : (trace : List ℕ) (offset : ℕ) → IsGood trace → IsBad trace offset → ⊥
good_bad trace offset g b =
    let none : length b.rest ≡ 0 = ap length (same_rest trace b.events g.events b.rest [] b.records g.records) in
    let at : offset + length b.rest ≡ length (take limit trace) = b.place in
    let cut : length (take limit trace) ≡ min limit (length trace) = length-take limit trace in
    let short : length trace ≤ limit = g.short in
    let before : offset < length trace = b.before in
    omega arith

good_long : (trace : List ℕ) → IsGood trace → IsLong trace → ⊥
good_long trace g l = let short : length trace ≤ limit = g.short in let long : limit < length trace = l.long in omega arith

bad_long : (trace : List ℕ) (offset : ℕ) → IsBad trace offset → IsLong trace → ⊥
bad_long trace offset b l = elim b.stuck as (λ _. ⊥) [
  | inl short ↦ (let long : limit < length trace = l.long in omega arith)
  | inr stuck ↦ stuck (subst CanGo (same_rest trace l.events b.events l.rest b.rest l.records b.records) l.goes)
]

bad_bad : (trace : List ℕ) (a b : ℕ) → IsBad trace a → IsBad trace b → a ≡ b
bad_bad trace a b h k =
    let same : length h.rest ≡ length k.rest = ap length (same_rest trace h.events k.events h.rest k.rest h.records k.records) in
    let at : a + length h.rest ≡ length (take limit trace) = h.place in
    let at' : b + length k.rest ≡ length (take limit trace) = k.place in
    omega arith

unit_same : (x y : Unit {0}) → x ≡ y
unit_same x y = refl

pub one_end : (trace : List ℕ) (a b : Result Unit TraceFault) → Ends trace a → Ends trace b → a ≡ b
one_end trace (Ok x) (Ok y) h k = ap (λ u. Ok u) (unit_same x y)
one_end trace (Ok x) (Err (Bad offset)) h k = absurd (good_bad trace offset h k)
one_end trace (Ok x) (Err TooLong) h k = absurd (good_long trace h k)
one_end trace (Ok x) (Err Memory) h k = absurd k
one_end trace (Err (Bad offset)) (Ok y) h k = absurd (good_bad trace offset k h)
one_end trace (Err (Bad offset)) (Err (Bad other)) h k = ap (λ n. Err (Bad n)) (bad_bad trace offset other h k)
one_end trace (Err (Bad offset)) (Err TooLong) h k = absurd (bad_long trace offset h k)
one_end trace (Err (Bad offset)) (Err Memory) h k = absurd k
one_end trace (Err TooLong) (Ok y) h k = absurd (good_long trace k h)
one_end trace (Err TooLong) (Err (Bad other)) h k = absurd (bad_long trace other k h)
one_end trace (Err TooLong) (Err TooLong) h k = refl
one_end trace (Err TooLong) (Err Memory) h k = absurd k
one_end trace (Err Memory) b h k = absurd h
