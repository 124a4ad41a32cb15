-- The run of a whole trace.
use Rattle.std.proofs.Common.{◌≡◌, ℕ, ◌+◌, ◌-◌, ◌<◌, ◌≤◌, min, Bool, true, false, nat_lt, cond, List, [], ◌∷◌, ◌++◌, length, take, drop, Option, Some, None, refl, sym, ap, ◌∙◌, arith, append_assoc, length-append, length-take, subst}
use Rattle.std.specs.Prelude.{Ok, Err, ◌||◌}
use Rattle.std.proofs.lemmas.List.{append-nil, take_all, take-append-le, take_at, take-append-drop, append_cancel_left}
use Rattle.std.proofs.lemmas.Bool.{ltb-true, ltb-false}
use Rattle.std.proofs.Math.Seq.{take-append-add}
use Rattle.resin_site.specs.Under.base.Contents.{Told}
use Rattle.resin_site.specs.Under.base.Moves.{Takes}
use Rattle.resin_site.specs.Under.base.declared.faults.Failed.{Failed}
use Rattle.resin_trace.specs.declared.event.TraceEvent.{TraceEvent}
use Rattle.resin_trace.specs.declared.reader.TraceFault.TheVariants.{Bad as BadFault, TooLong as LongFault}
use Rattle.resin_trace.specs.Records.{limit, Spells, Splits, NoRecord, CanGo, Front, Records}
use Rattle.resin_trace.specs.Seen.{Seen, begin, fed}
use Rattle.resin_trace.specs.Lines.{Waiting, at}
use Rattle.resin_trace.specs.Verdicts.{IsBad, IsLong, HasRead}
use Rattle.resin_trace.proofs.Once.{once, sure_record}
use Rattle.resin_trace.proofs.Existing.{some_word}
use Rattle.resin_trace.proofs.Verdicts_of.{begins, feeds, breaks, finishes}
use Rattle.resin_site.specs.Keeping.{Later, Passes}
use Rattle.resin_serve.specs.declared.give.Given.{Given}
use Rattle.resin_serve.specs.declared.give.Given.TheVariants.{Whole, Fault, Memory}
use Rattle.resin_serve.specs.declared.run.Ready.{Ready}
use Rattle.resin_serve.specs.declared.run.Ready.TheVariants.{Wait, Bad, TooLong}
use Rattle.resin_serve.specs.declared.status.Status.{Status}
use Rattle.resin_serve.specs.declared.status.Status.TheVariants.{Usage, BadTrace, ReadFault, WriteFault, TraceTooLong, AuditRefused}
use Rattle.resin_serve.specs.declared.status.Status.TheVariants.{Ok as StatusOk, Memory as StatusMemory}
use Rattle.resin_site.specs.Under.http.Stream.{answers_in}
use Rattle.resin_serve.specs.Meaning.{Meaning, Owed, fresh, order, life}
use Rattle.resin_serve.specs.Ran.{World, Ran}
use Rattle.resin_serve.specs.Lines.{Hold}
use Rattle.resin_serve.specs.Top.{OnWhole, WentOn, Went, Beyond, Past, events, given_of, Stands}
use Rattle.resin_serve.specs.Whole_run.{Took, Near, RunOf, Runs, RunsFrom, RunsSo, Finished, Numbers}
use Rattle.resin_serve.proofs.Runs.{ran_none, ran_then, ran_near, ran_stop, ran_any, ran_more}
use Rattle.resin_serve.proofs.Line_runs.{on_whole}
use Rattle.resin_serve.proofs.Streams.{still_nothing}

pub order_append : (seen : List TraceEvent) (es fs : List (TraceEvent × ℕ)) → order seen (es ++ fs) ≡ order seen es ++ order (seen ++ events es) fs
order_append seen [] fs = ap (λ l. order l fs) (sym (append-nil seen))
order_append seen (x ∷ es) fs =
    ap (λ l. fresh seen x ++ l) (order_append (seen ++ x.0 ∷ []) es fs ∙ ap (λ l. order (seen ++ x.0 ∷ []) es ++ order l fs) (append_assoc seen (x.0 ∷ []) (events es)))
    ∙ sym (append_assoc (fresh seen x) _ _)

events_append : (es fs : List (TraceEvent × ℕ)) → events (es ++ fs) ≡ events es ++ events fs
events_append [] fs = refl
events_append (x ∷ es) fs = ap (λ l. x.0 ∷ l) (events_append es fs)

took_none : (a : Option (List ℕ)) → Took a a []
took_none None = tt
took_none (Some xs) = refl

took_then : (a b c : Option (List ℕ)) (taken buf filled : List ℕ) (n : ℕ) → Took a b taken → Told b c (Takes buf filled (Ok n)) → Took a c (taken ++ take n filled)
took_then None b c taken buf filled n h k = tt
took_then (Some xs) None c taken buf filled n h k = absurd h
took_then (Some xs) (Some ys) None taken buf filled n h k = absurd k
took_then (Some xs) (Some ys) (Some zs) taken buf filled n h k = h ∙ ap (λ l. taken ++ l) k.0 ∙ sym (append_assoc taken (take n filled) zs)

took_err : (a b c : Option (List ℕ)) (taken buf filled : List ℕ) (e : Failed) → Took a b taken → Told b c (Takes buf filled (Err e)) → Took a c taken
took_err None b c taken buf filled e h k = tt
took_err (Some xs) None c taken buf filled e h k = absurd h
took_err (Some xs) (Some ys) None taken buf filled e h k = absurd k
took_err (Some xs) (Some ys) (Some zs) taken buf filled e h k = h ∙ ap (λ l. taken ++ l) (sym k.0)

-- a source that told its bytes tells those that are left, and those that were taken stood before them
told_as : (a b : Option (List ℕ)) (taken T : List ℕ) → Took a b taken → a ≡ Some T → (U : List ℕ) × (b ≡ Some U) × (T ≡ taken ++ U)
told_as a None taken T h p = let k : Took (Some T) None taken = subst (λ o. Took o None taken) p h in absurd k
told_as a (Some U) taken T h p = (U, refl, subst (λ o. Took o (Some U) taken) p h)

-- the run of what a source held, by the bytes that were taken of it
runs_over : (status : Status) (R : Meaning) (K T : List ℕ) (left left' : Option (List ℕ)) (old new : World) (taken : List ℕ) → Took left left' taken → left ≡ Some T
    → ((U : List ℕ) → T ≡ taken ++ U → Runs status R K T taken old new) → RunsFrom status R K T left' old new
runs_over status R K T left left' old new taken h p f =
    let u = told_as left left' taken T h p in
    record { taken = taken; left = u.0; told = u.1; front = u.2; runs = f u.0 u.2 }

-- where nothing was left, all was taken
told_end : (a b c : Option (List ℕ)) (taken buf filled T U : List ℕ) (n : ℕ) → Took a b taken → Told b c (Takes buf filled (Ok n)) → n ≡ 0 → a ≡ Some T → c ≡ Some U → T ≡ taken
told_end a None c taken buf filled T U n h k z p q =
    let j : Took (Some T) None taken = subst (λ o. Took o None taken) p h in absurd j
told_end a (Some ys) None taken buf filled T U n h k z p q = absurd (cc)
told_end a (Some ys) (Some zs) taken buf filled T U n h k z p q =
    let j : T ≡ taken ++ ys = subst (λ o. Took o (Some ys) taken) p h in
    j ∙ ap (λ l. taken ++ l) (k.2 z) ∙ append-nil taken

new_hold : (lines : List (Option Waiting)) → ((c : ℕ) → at lines c ≡ None) → Hold lines []
unfolding life answers_in
new_hold lines h c more = sym (still_nothing (at lines c) more (h c))

pub begin_run : (R : Meaning) (left : Option (List ℕ)) (reader : Seen) (n made : ℕ) (failed : List ℕ) (lines : List (Option Waiting)) (w : World)
    → reader ≡ begin → n ≡ 1 → ((c : ℕ) → at lines c ≡ None) → RunsSo R left left reader n made failed lines w w
begin_run R left reader n made failed lines w e o i =
    let rest : reader.rest ≡ [] = ap (λ (s : Seen). s.rest) e in
    let len : length reader.rest ≡ 0 = ap length rest in
    record {
      taken = [];
      es = [];
      told = took_none left;
      read = subst (HasRead [] []) (sym e) begins;
      before = 0;
      near = omega arith;
      beyond = λ word more ev sp is. (let k : 0 < length word = some_word word ev sp in omega arith);
      hold = new_hold lines i;
      number = o;
      ran = λ K k. ran_none _ R K 1 w;
    }

-- the records that stand whole were served too
pub record Joined (g : Given) (R : Meaning) (left left' : Option (List ℕ)) (reader : Seen) (n made : ℕ) (failed : List ℕ) (lines : List (Option Waiting)) (old new : World) (taken : List ℕ) : Type 0 where
  pub es : List (TraceEvent × ℕ)
  pub told : Took left left' taken
  pub read : HasRead taken es reader
  pub ran : (K : List ℕ) → Later made failed K → Ran g (Near taken) R K 1 (order [] es) old new
  pub whole : OnWhole g (Hold lines (events es) × (n ≡ 1 + length (order [] es)))

join : (g : Given) (R : Meaning) (left left' : Option (List ℕ)) (reader reader' : Seen) (n n' made made' : ℕ) (failed failed' : List ℕ) (lines lines' : List (Option Waiting)) (old mid new : World)
    → (l : RunsSo R left left' reader n made failed lines old mid)
    → Passes made failed made' failed'
    → WentOn g R l.before (events l.es) reader reader' n n' made' failed' lines' mid new
    → Joined g R left left' reader' n' made' failed' lines' old new l.taken
join g R left left' reader reader' n n' made made' failed failed' lines lines' old mid new l p w =
    let ord : order [] (l.es ++ w.es) ≡ order [] l.es ++ order (events l.es) w.es = order_append [] l.es w.es in
    let near : length l.taken ≤ l.before + 65536 = l.near in
    let num : n ≡ 1 + length (order [] l.es) = l.number in
    record {
      es = l.es ++ w.es;
      told = l.told;
      read = w.reads l.taken l.es l.read;
      ran = λ K k. subst (λ xs. Ran g (Near l.taken) R K 1 xs old new) (sym ord)
          (ran_then g (Near l.taken) (Near l.taken) R K 1 n (order [] l.es) (order (events l.es) w.es) old mid new num (l.ran K (p K k))
          (ran_near g (Past l.before) (Near l.taken) R K n _ mid new (λ a q. let q' : l.before < a.place = q in omega arith) (w.ran K k)));
      whole = on_whole g _ _ (λ (h : Hold lines' (events l.es ++ events w.es) × (n' ≡ n + length (order (events l.es) w.es)) × Beyond l.before reader'). (
        subst (Hold lines') (sym (events_append l.es w.es)) h.0,
        (let k : n' ≡ n + length (order (events l.es) w.es) = h.1 in
            let j : length (order [] (l.es ++ w.es)) ≡ length (order [] l.es) + length (order (events l.es) w.es) = ap length ord ∙ length-append (order [] l.es) _ in omega arith),
      )) w.whole;
    }

abbrev pub WentAll : Ready → Meaning → Seen → Seen → ℕ → ℕ → ℕ → List ℕ → List (Option Waiting) → List (Option Waiting) → World → World → Type 0
WentAll r R reader reader' n n' made failed lines lines' old new =
    (seen : List TraceEvent) (b : ℕ) → Hold lines seen → Beyond b reader → Went r R b seen reader reader' n n' made failed lines' old new

pub join_at : (r : Ready) (R R' : Meaning) (left left' : Option (List ℕ)) (reader reader' : Seen) (n n' made made' : ℕ) (failed failed' : List ℕ) (lines lines' : List (Option Waiting)) (old mid new : World)
    → (l : RunsSo R left left' reader n made failed lines old mid)
    → Passes made failed made' failed' → R' ≡ R → WentAll r R' reader reader' n n' made' failed' lines lines' mid new
    → Joined (given_of r) R left left' reader' n' made' failed' lines' old new l.taken × Stands r reader'
join_at r R R' left left' reader reader' n n' made made' failed failed' lines lines' old mid new l p q f =
    let w = subst (λ S. Went r S l.before (events l.es) reader reader' n n' made' failed' lines' mid new) q (f (events l.es) l.before l.hold l.beyond) in
    (join (given_of r) R left left' reader reader' n n' made made' failed failed' lines lines' old mid new l p w.on, w.stands)

not_over : (n : ℕ) → nat_lt limit n ≡ false → n ≤ limit
not_over n e = ltb-false limit n e

is_over : (n : ℕ) → nat_lt limit n ≡ true → limit < n
is_over n e = ltb-true limit n e

-- a record at the front of a rest with more bytes, where none stood before, ends past what was there
past_none : (rest piece word more : List ℕ) (e : TraceEvent) → NoRecord rest → Spells word e → rest ++ piece ≡ word ++ more → length word ≤ length rest → ⊥
past_none rest piece word more e none sp is le =
    let front : take (length word) rest ≡ word = sym (take-append-le (length word) rest piece le) ∙ ap (take (length word)) is ∙ take_at word more (length word) refl in
    none (record {
      event = e;
      word = word;
      rest = drop (length word) rest;
      spells = sp;
      is = sym (take-append-drop (length word) rest) ∙ ap (λ l. l ++ drop (length word) rest) front;
    })

not_le : (a b t p : ℕ) → (a ≤ b → ⊥) → t ≡ p + b → t < p + a
not_le a b t p apart e = omega (arith, apart)

cut_more : (xs ys : List ℕ) (n m : ℕ) → n ≡ length xs + m → take n (xs ++ ys) ≡ xs ++ take m ys
cut_more xs ys n m e = ap (λ k. take k (xs ++ ys)) e ∙ take-append-add xs ys m

-- what a reader holds is within the limit
held : (trace : List ℕ) (es : List (TraceEvent × ℕ)) (reader : Seen) → HasRead trace es reader → reader.place + length reader.rest ≤ limit
held trace es reader h =
    let at : reader.place + length reader.rest ≡ length (take limit trace) = h.place in
    let cut : length (take limit trace) ≡ min limit (length trace) = length-take limit trace in
    omega arith

-- the rest after one more piece begins with the rest before it
fed_rest : (trace piece : List ℕ) (es : List (TraceEvent × ℕ)) (reader : Seen) → HasRead trace es reader
    → (fed reader piece).rest ≡ reader.rest ++ take (limit - (reader.place + length reader.rest)) piece
fed_rest trace piece es reader h =
    let within : reader.place + length reader.rest ≤ limit = held trace es reader h in
    cut_more reader.rest piece (limit - reader.place) (limit - (reader.place + length reader.rest)) (omega arith)

-- after one more piece
pub fed_run : (R : Meaning) (left mid_left left' : Option (List ℕ)) (reader reader' : Seen) (n made : ℕ) (failed : List ℕ) (lines : List (Option Waiting)) (old new : World) (taken buf filled piece : List ℕ) (count : ℕ)
    → Joined Whole R left mid_left reader n made failed lines old new taken × Stands Wait reader
    → Told mid_left left' (Takes buf filled (Ok count)) → piece ≡ take count filled → length filled ≡ 65536
    → reader' ≡ fed reader piece
    → RunsSo R left left' reader' n made failed lines old new
fed_run R left mid_left left' reader reader' n made failed lines old new taken buf filled piece count (j, s) takes is len f =
    let none : NoRecord reader.rest = s.0 in
    let fits : length taken ≤ limit = not_over (length taken) (sym j.read.over ∙ s.2) in
    let ends : reader.place + length reader.rest ≡ length taken = j.read.place ∙ ap length (take_all limit taken fits) in
    let rest : reader'.rest ≡ reader.rest ++ take (limit - (reader.place + length reader.rest)) piece = ap (λ (r : Seen). r.rest) f ∙ fed_rest taken piece j.es reader j.read in
    let place : reader'.place ≡ reader.place = ap (λ (r : Seen). r.place) f in
    let all : length (taken ++ piece) ≡ length taken + length piece = length-append taken piece in
    let small : length piece ≤ 65536 = omega (arith, ap length is, length-take count filled) in
    record {
      taken = taken ++ piece;
      es = j.es;
      told = subst (λ l. Took left left' (taken ++ l)) (sym is) (took_then left mid_left left' taken buf filled count j.told takes);
      read = subst (HasRead (taken ++ piece) j.es) (sym f) (feeds taken piece j.es reader j.read);
      before = length taken;
      near = omega arith;
      beyond = λ word more e sp eq.
          let no : length word ≤ length reader.rest → ⊥ = past_none reader.rest (take (limit - (reader.place + length reader.rest)) piece) word more e none sp (sym rest ∙ eq) in
          not_le (length word) (length reader.rest) (length taken) reader'.place no (omega arith);
      hold = j.whole.0;
      number = j.whole.1;
      ran = λ K k. ran_any (Near taken) (Near (taken ++ piece)) R K 1 _ old new (j.ran K k);
    }

-- ---- the records of a text that goes on

-- of two readings of a text, one with no record after it goes on from the other
goes_past : (p : ℕ) (text : List ℕ) (es fs : List (TraceEvent × ℕ)) (rest rest' : List ℕ) → Splits p text es rest → Splits p text fs rest' → NoRecord rest'
    → (gs : List (TraceEvent × ℕ)) × (fs ≡ es ++ gs)
goes_past p text [] fs rest rest' s t none = (fs, refl)
goes_past p text (e ∷ es) [] rest rest' (w, m, sp, is, at, s) t none =
    absurd (none (record { event = e.0; word = w; rest = m; spells = sp; is = sym t ∙ is }))
goes_past p text (e ∷ es) (f ∷ fs) rest rest' (w, m, sp, is, at, s) (v, n, sq, it, bt, t) none =
    let same = sure_record w v m n e.0 f.0 sp sq (sym is ∙ it) in
    let rests : m ≡ n = append_cancel_left w m n (sym is ∙ it ∙ ap (λ l. l ++ n) (sym same.0)) in
    let ends : e.1 ≡ f.1 = at ∙ ap (λ l. p + length l) same.0 ∙ sym bt in
    let go = goes_past f.1 n es fs rest rest' (subst (λ k. Splits k n es rest) ends (subst (λ l. Splits e.1 l es rest) rests s)) t none in
    (go.0, ap (λ x. (x, f.1) ∷ fs) (sym same.1) ∙ ap (λ k. (e.0, k) ∷ fs) (sym ends) ∙ ap (λ l. e ∷ l) go.1)

-- the run of a whole trace stopped where that of a front of its records did
stopped_of : (g : Given) (Q : Owed → Type 0) (R : Meaning) (K T : List ℕ) (es : List (TraceEvent × ℕ)) (reader : Seen) (old new : World) → (g ≡ Whole → ⊥)
    → HasRead T es reader → Ran g Q R K 1 (order [] es) old new → RunOf g Q R K T old new
stopped_of g Q R K T es reader old new ne h r fs rest f =
    let go = goes_past 0 (take limit T) es fs reader.rest rest h.splits f.splits f.longest in
    subst (λ xs. Ran g Q R K 1 xs old new) (sym (ap (order []) go.1 ∙ order_append [] es go.0))
    (ran_more g Q R K 1 (order [] es) (order (events es) go.0) old new ne r)

-- the run of a trace whose records are these
pub whole_of : (Q : Owed → Type 0) (R : Meaning) (K T : List ℕ) (es : List (TraceEvent × ℕ)) (rest : List ℕ) (old new : World) → Records T es rest → Ran Whole Q R K 1 (order [] es) old new → RunOf Whole (λ _. Unit {0}) R K T old new
whole_of Q R K T es rest old new r h fs left f =
    subst (λ xs. Ran Whole (λ _. Unit {0}) R K 1 (order [] xs) old new) (once 0 (take limit T) es fs rest left r.splits f.splits r.longest f.longest).0
    (ran_any Q (λ _. Unit {0}) R K 1 _ old new h)

records_of : (T : List ℕ) (es : List (TraceEvent × ℕ)) (reader : Seen) → HasRead T es reader → NoRecord reader.rest → Records T es reader.rest
records_of T es reader h n = record { splits = h.splits; longest = n }

-- no record can come at a rest that goes on where none could come before
stays_stuck : (rest more : List ℕ) → (CanGo rest → ⊥) → CanGo (rest ++ more) → ⊥
stays_stuck rest more n g = n (more ++ g.0, subst Front (append_assoc rest more g.0) g.1)

stays_none : (rest more : List ℕ) → (CanGo rest → ⊥) → NoRecord (rest ++ more)
stays_none rest more n f = n (more, f)

-- ---- how a run ends

pub ends_bad : (R : Meaning) (left left' : Option (List ℕ)) (reader : Seen) (n made offset : ℕ) (failed : List ℕ) (lines : List (Option Waiting)) (old new : World) (taken : List ℕ)
    → Joined Whole R left left' reader n made failed lines old new taken × Stands (Bad offset) reader
    → (K T : List ℕ) → Later made failed K → left ≡ Some T → RunsFrom (BadTrace offset) R K T left' old new
ends_bad R left left' reader n made offset failed lines old new taken (j, s) K T k p = runs_over (BadTrace offset) R K T left left' old new taken j.told p (λ U e.
    let next : Seen = fed reader U in
    let more : List ℕ = take (limit - (reader.place + length reader.rest)) U in
    let h : HasRead (taken ++ U) j.es next = feeds taken U j.es reader j.read in
    let rest : next.rest ≡ reader.rest ++ more = fed_rest taken U j.es reader j.read in
    let none : NoRecord next.rest = subst NoRecord (sym rest) (stays_none reader.rest more s.1) in
    let stuck : CanGo next.rest → ⊥ = subst (λ l. CanGo l → ⊥) (sym rest) (stays_stuck reader.rest more s.1) in
    let bad : IsBad (taken ++ U) offset = breaks (taken ++ U) j.es next next (BadFault offset) h (record { same = refl; none = none; stuck = stuck }, s.2) in
    subst (λ t. IsBad t offset × RunOf Whole (λ _. Unit {0}) R K t old new) (sym e)
    (bad, whole_of (Near taken) R K (taken ++ U) j.es next.rest old new (records_of (taken ++ U) j.es next h none) (j.ran K k)))

pub ends_long : (R : Meaning) (left left' : Option (List ℕ)) (reader : Seen) (n made : ℕ) (failed : List ℕ) (lines : List (Option Waiting)) (old new : World) (taken : List ℕ)
    → Joined Whole R left left' reader n made failed lines old new taken × Stands TooLong reader
    → (K T : List ℕ) → Later made failed K → left ≡ Some T → RunsFrom TraceTooLong R K T left' old new
ends_long R left left' reader n made failed lines old new taken (j, s) K T k p = runs_over TraceTooLong R K T left left' old new taken j.told p (λ U e.
    let long : limit < length taken = is_over (length taken) (sym j.read.over ∙ s.2) in
    let all : length (taken ++ U) ≡ length taken + length U = length-append taken U in
    let same : take limit (taken ++ U) ≡ take limit taken = take-append-le limit taken U (omega arith) in
    let r : Records (taken ++ U) j.es reader.rest = record { splits = subst (λ t. Splits 0 t j.es reader.rest) (sym same) j.read.splits; longest = s.0 } in
    subst (λ t. IsLong t × RunOf Whole (λ _. Unit {0}) R K t old new) (sym e)
    (record { events = j.es; rest = reader.rest; records = r; long = omega arith; goes = s.1 }, whole_of (Near taken) R K (taken ++ U) j.es reader.rest old new r (j.ran K k)))

-- the reader after all that is left was fed too
read_on : (taken T U : List ℕ) (es : List (TraceEvent × ℕ)) (reader : Seen) → T ≡ taken ++ U → HasRead taken es reader → HasRead T es (fed reader U)
read_on taken T U es reader e h = subst (λ t. HasRead t es (fed reader U)) (sym e) (feeds taken U es reader h)

pub ends_fault : (R : Meaning) (left left' : Option (List ℕ)) (reader : Seen) (n made : ℕ) (failed : List ℕ) (lines : List (Option Waiting)) (old new : World) (taken : List ℕ)
    → Joined Fault R left left' reader n made failed lines old new taken
    → (K T : List ℕ) → Later made failed K → left ≡ Some T → RunsFrom WriteFault R K T left' old new
ends_fault R left left' reader n made failed lines old new taken j K T k p = runs_over WriteFault R K T left left' old new taken j.told p (λ U e.
    stopped_of Fault (Near taken) R K T j.es (fed reader U) old new (λ f. cc) (read_on taken T U j.es reader e j.read) (j.ran K k))

pub ends_memory : (R : Meaning) (left left' : Option (List ℕ)) (reader : Seen) (n made : ℕ) (failed : List ℕ) (lines : List (Option Waiting)) (old new : World) (taken : List ℕ)
    → Joined Memory R left left' reader n made failed lines old new taken
    → (K T : List ℕ) → Later made failed K → left ≡ Some T → RunsFrom StatusMemory R K T left' old new
ends_memory R left left' reader n made failed lines old new taken j K T k p = runs_over StatusMemory R K T left left' old new taken j.told p (λ U e.
    stopped_of Memory (λ _. Unit {0}) R K T j.es (fed reader U) old new (λ f. cc) (read_on taken T U j.es reader e j.read)
    (ran_near Memory (Near taken) (λ _. Unit {0}) R K 1 _ old new (λ a c. tt) (j.ran K k)))

pub ends_read : (R : Meaning) (left mid left' : Option (List ℕ)) (reader : Seen) (n made : ℕ) (failed : List ℕ) (lines : List (Option Waiting)) (old new : World) (taken buf filled : List ℕ) (f : Failed)
    → Joined Whole R left mid reader n made failed lines old new taken × Stands Wait reader → Told mid left' (Takes buf filled (Err f))
    → (K T : List ℕ) → Later made failed K → left ≡ Some T → RunsFrom ReadFault R K T left' old new
ends_read R left mid left' reader n made failed lines old new taken buf filled f (j, s) t K T k p =
    runs_over ReadFault R K T left left' old new taken (took_err left mid left' taken buf filled f j.told t) p
    (λ U e. whole_of (Near taken) R K taken j.es reader.rest old new (records_of taken j.es reader j.read s.0) (j.ran K k))

ends_as : (status : Status) (R : Meaning) (reader : Seen) (es : List (TraceEvent × ℕ)) (old new : World) (K T U : List ℕ) → HasRead T es reader → Finished reader status
    → RunOf Whole (λ _. Unit {0}) R K T old new → Runs status R K T U old new
ends_as StatusOk R reader es old new K T U h f r = (finishes T es reader (Ok tt) h f, r)
ends_as Usage R reader es old new K T U h f r = f
ends_as (BadTrace offset) R reader es old new K T U h f r = (finishes T es reader (Err (BadFault offset)) h f, r)
ends_as ReadFault R reader es old new K T U h f r = absurd f
ends_as WriteFault R reader es old new K T U h f r = absurd f
ends_as TraceTooLong R reader es old new K T U h f r = (finishes T es reader (Err LongFault) h f, r)
ends_as StatusMemory R reader es old new K T U h f r = absurd f
ends_as AuditRefused R reader es old new K T U h f r = absurd f

pub ends_trace : (status : Status) (R : Meaning) (left mid left' : Option (List ℕ)) (reader : Seen) (n made : ℕ) (failed : List ℕ) (lines : List (Option Waiting)) (old new : World) (taken buf filled : List ℕ) (count : ℕ)
    → Joined Whole R left mid reader n made failed lines old new taken × Stands Wait reader → Told mid left' (Takes buf filled (Ok count)) → count ≡ 0 → Finished reader status
    → (K T : List ℕ) → Later made failed K → left ≡ Some T → RunsFrom status R K T left' old new
ends_trace status R left mid left' reader n made failed lines old new taken buf filled count (j, s) t z f K T k p =
    let all : List ℕ = taken ++ take count filled in
    let u = told_as left left' all T (took_then left mid left' taken buf filled count j.told t) p in
    let e : taken ≡ T = sym (told_end left mid left' taken buf filled T u.0 count j.told t z p u.1) in
    record {
      taken = all;
      left = u.0;
      told = u.1;
      front = u.2;
      runs = ends_as status R reader j.es old new K T all (subst (λ l. HasRead l j.es reader) e j.read) f
          (subst (λ l. RunOf Whole (λ _. Unit {0}) R K l old new) e (whole_of (Near taken) R K taken j.es reader.rest old new (records_of taken j.es reader j.read s.0) (j.ran K k)));
    }

as_numbers : (status : Status) (T : List ℕ) (n : ℕ) → ((fs : List (TraceEvent × ℕ)) (rest : List ℕ) → Records T fs rest → n ≡ 1 + length (order [] fs)) → Numbers status T n
as_numbers StatusOk T n f = f
as_numbers Usage T n f = tt
as_numbers (BadTrace offset) T n f = tt
as_numbers ReadFault T n f = tt
as_numbers WriteFault T n f = tt
as_numbers TraceTooLong T n f = tt
as_numbers StatusMemory T n f = tt
as_numbers AuditRefused T n f = tt

-- the next answer's number, where nothing was left
pub ends_numbers : (status : Status) (R : Meaning) (left mid left' : Option (List ℕ)) (reader : Seen) (n made : ℕ) (failed : List ℕ) (lines : List (Option Waiting)) (old new : World) (taken buf filled : List ℕ) (count : ℕ)
    → Joined Whole R left mid reader n made failed lines old new taken × Stands Wait reader → Told mid left' (Takes buf filled (Ok count)) → count ≡ 0
    → (T : List ℕ) → left ≡ Some T → Numbers status T n
ends_numbers status R left mid left' reader n made failed lines old new taken buf filled count (j, s) t z T p =
    let u = told_as left left' (taken ++ take count filled) T (took_then left mid left' taken buf filled count j.told t) p in
    let e : taken ≡ T = sym (told_end left mid left' taken buf filled T u.0 count j.told t z p u.1) in
    let r : Records T j.es reader.rest = subst (λ l. Records l j.es reader.rest) e (records_of taken j.es reader j.read s.0) in
    as_numbers status T n (λ fs rest f. j.whole.1 ∙ ap (λ xs. 1 + length (order [] xs)) (once 0 (take limit T) j.es fs reader.rest rest r.splits f.splits r.longest f.longest).0)

-- the piece found no room
pub ends_full : (R : Meaning) (left mid left' : Option (List ℕ)) (reader : Seen) (n made : ℕ) (failed : List ℕ) (lines : List (Option Waiting)) (old new : World) (taken buf filled : List ℕ) (count : ℕ)
    → Joined Whole R left mid reader n made failed lines old new taken × Stands Wait reader → Told mid left' (Takes buf filled (Ok count))
    → (K T : List ℕ) → Later made failed K → left ≡ Some T → RunsFrom StatusMemory R K T left' old new
ends_full R left mid left' reader n made failed lines old new taken buf filled count (j, s) t K T k p = runs_over StatusMemory R K T left left' old new (taken ++ take count filled) (took_then left mid left' taken buf filled count j.told t) p (λ U e.
    let e' : T ≡ taken ++ (take count filled ++ U) = e ∙ append_assoc taken (take count filled) U in
    stopped_of Memory (λ _. Unit {0}) R K T j.es (fed reader (take count filled ++ U)) old new (λ f. cc) (read_on taken T (take count filled ++ U) j.es reader e' j.read)
    (subst (λ xs. Ran Memory (λ _. Unit {0}) R K 1 xs old new) (append-nil (order [] j.es))
    (ran_then Memory (λ _. Unit {0}) (Near taken) R K 1 n (order [] j.es) [] old new new j.whole.1 (j.ran K k) (ran_stop _ R K n [] new))))

-- ---- what feeding does to the measure

abbrev pub measure : Seen → ℕ
measure s = (limit - (s.place + length s.rest)) + cond s.over 0 1

count_less : (lim sum place rest piece rest' : ℕ) (b : Bool) → sum ≡ place + rest → sum ≤ lim → 0 < piece → rest' ≡ min (lim - place) (rest + piece) → nat_lt lim (place + (rest + piece)) ≡ b
    → (lim - (place + rest')) + cond b 0 1 < (lim - sum) + 1
count_less lim sum place rest piece rest' true e h p r t = let k : lim < place + (rest + piece) = grind arith in omega arith
count_less lim sum place rest piece rest' false e h p r t = let k : place + (rest + piece) ≤ lim = grind arith in omega arith

falls_on : (r0 r1 r2 : Seen) (piece : List ℕ) → r1.place + length r1.rest ≡ r0.place + length r0.rest → r1.over ≡ r0.over → r1.over ≡ false → r0.place + length r0.rest ≤ limit → 0 < length piece
    → r2.rest ≡ take (limit - r1.place) (r1.rest ++ piece) → r2.place ≡ r1.place → r2.over ≡ (r1.over || nat_lt limit (r1.place + length (r1.rest ++ piece))) → measure r2 < measure r0
falls_on r0 r1 r2 piece s o n w p r q v =
    let len : length (r1.rest ++ piece) ≡ length r1.rest + length piece = length-append r1.rest piece in
    let rl : length r2.rest ≡ min (limit - r1.place) (length r1.rest + length piece) = ap length r ∙ length-take (limit - r1.place) (r1.rest ++ piece) ∙ ap (min (limit - r1.place)) len in
    let t : nat_lt limit (r1.place + (length r1.rest + length piece)) ≡ r2.over = ap (λ k. nat_lt limit (r1.place + k)) (sym len) ∙ sym (v ∙ ap (λ b. b || nat_lt limit (r1.place + length (r1.rest ++ piece))) n) in
    let less = count_less limit (r0.place + length r0.rest) r1.place (length r1.rest) (length piece) (length r2.rest) r2.over (sym s) w p rl t in
    let none : cond r0.over 0 1 ≡ 1 = ap (λ b. cond b 0 1) (sym o ∙ n) in
    subst (λ k. (limit - (k + length r2.rest)) + cond r2.over 0 1 < measure r0) (sym q)
    (subst (λ k. (limit - (r1.place + length r2.rest)) + cond r2.over 0 1 < (limit - (r0.place + length r0.rest)) + k) (sym none) less)

-- .. where the reader went on and was fed a piece
pub falls_fed : (R R' : Meaning) (left left' : Option (List ℕ)) (r0 r1 r2 : Seen) (n n' made made' : ℕ) (failed failed' : List ℕ) (lines lines' : List (Option Waiting)) (old mid new : World) (piece : List ℕ)
    → (l : RunsSo R left left' r0 n made failed lines old mid) → WentAll Wait R' r0 r1 n n' made' failed' lines lines' mid new → 0 < length piece → r2 ≡ fed r1 piece → measure r2 < measure r0
falls_fed R R' left left' r0 r1 r2 n n' made made' failed failed' lines lines' old mid new piece l f p e =
    let w = f (events l.es) l.before l.hold l.beyond in
    falls_on r0 r1 r2 piece w.on.ends w.on.over w.stands.2 (held l.taken l.es r0 l.read) p (ap (λ (s : Seen). s.rest) e) (ap (λ (s : Seen). s.place) e) (ap (λ (s : Seen). s.over) e)
