-- The answers of one record.
use Rattle.std.proofs.Common.{◌≡◌, ◌≢◌, ℕ, ◌+◌, true, false, cond, nat_eq, List, [], ◌∷◌, ◌++◌, length, drop, Option, Some, None, refl, sym, ap, ◌∙◌, arith, append_assoc, subst}
use Rattle.std.proofs.lemmas.List.{append-nil, length-map, drop_at}
use Rattle.std.proofs.lemmas.Bool.Decides.{nat_tests}
use Rattle.resin_site.specs.Under.http.Stream.{answers, answers_in}
use Rattle.resin_trace.specs.declared.event.TraceEvent.{TraceEvent}
use Rattle.resin_trace.specs.declared.event.TraceEvent.TheVariants.{Piece, End}
use Rattle.resin_trace.specs.Lines.{Waiting, at, added as added_to}
use Rattle.resin_site.specs.Keeping.{Later}
use Rattle.resin_serve.specs.declared.give.Given.{Given}
use Rattle.resin_serve.specs.declared.give.Given.TheVariants.{Whole, Fault, Memory}
use Rattle.resin_serve.specs.Meaning.{Meaning, life, life_from, grown, added, fresh}
use Rattle.resin_serve.specs.Ran.{World, Ran}
use Rattle.resin_serve.specs.Lines.{still, Ready, asked, Hold}
use Rattle.resin_serve.specs.Top.{RanLine, RanEvent, OnWhole}
use Rattle.resin_serve.proofs.Runs.{ran_none, ran_stop}
use Rattle.resin_serve.proofs.Line_runs.{AtPlace}
use Rattle.resin_serve.proofs.Streams.{still_added, still_nothing}

life_from_more : (c : ℕ) (s : List ℕ) (es : List TraceEvent) (e : TraceEvent) → life_from c s (es ++ e ∷ []) ≡ grown c (life_from c s es) e
life_from_more c s [] e = refl
life_from_more c s (x ∷ es) e = life_from_more c (grown c s x) es e

pub life_more : (c : ℕ) (es : List TraceEvent) (e : TraceEvent) → life c (es ++ e ∷ []) ≡ grown c (life c es) e
unfolding life
life_more c es e = life_from_more c [] es e

same_nat : (c : ℕ) → nat_eq c c ≡ true
same_nat c = grind (arith, nat_tests)

pub life_piece : (c : ℕ) (es : List TraceEvent) (bytes : List ℕ) → life c (es ++ Piece c bytes ∷ []) ≡ life c es ++ bytes
life_piece c es bytes = life_more c es (Piece c bytes) ∙ ap (λ b. cond b (life c es ++ bytes) (life c es)) (same_nat c)

life_end : (c : ℕ) (es : List TraceEvent) → life c (es ++ End c ∷ []) ≡ []
life_end c es = life_more c es (End c) ∙ ap (λ b. cond b [] (life c es)) (same_nat c)

differs : (c d : ℕ) → (c ≡ d → ⊥) → nat_eq c d ≡ false
differs c d ne = grind (arith, nat_tests)

life_other : (c d : ℕ) (es : List TraceEvent) (bytes : List ℕ) → (c ≡ d → ⊥) → life d (es ++ Piece c bytes ∷ []) ≡ life d es
life_other c d es bytes ne = life_more d es (Piece c bytes) ∙ ap (λ b. cond b (life d es ++ bytes) (life d es)) (differs c d ne)

life_other_end : (c d : ℕ) (es : List TraceEvent) → (c ≡ d → ⊥) → life d (es ++ End c ∷ []) ≡ life d es
life_other_end c d es ne = life_more d es (End c) ∙ ap (λ b. cond b [] (life d es)) (differs c d ne)

-- the answers that a piece completes are those that the connection gives with it
pub fresh_is : (place c : ℕ) (seen : List TraceEvent) (bytes : List ℕ) (w w1 : Option Waiting) → Ready (life c seen) (answers (life c seen)) w
    → ((more : List ℕ) → still w1 more ≡ still w (bytes ++ more)) → fresh seen (Piece c bytes, place) ≡ asked c place (still w1 [])
unfolding added
fresh_is place c seen bytes w w1 r a =
    let s = life c seen in
    let all : answers (s ++ bytes) ≡ answers s ++ still w1 [] =
    ap (λ l. answers (s ++ l)) (sym (append-nil bytes)) ∙ r (bytes ++ []) ∙ ap (λ l. answers s ++ l) (sym (a [])) in
    ap (λ l. asked c place (drop (length (answers s)) l)) all ∙ ap (asked c place) (drop_at (answers s) (still w1 []) (length (answers s)) refl)

ready_next : (s bytes : List ℕ) (w w1 w2 : Option Waiting) → Ready s (answers s) w → ((more : List ℕ) → still w1 more ≡ still w (bytes ++ more))
    → ((more : List ℕ) → still w1 more ≡ still w1 [] ++ still w2 more) → Ready (s ++ bytes) (answers (s ++ bytes)) w2
ready_next s bytes w w1 w2 r a b more =
    let all : answers (s ++ bytes) ≡ answers s ++ still w1 [] =
    ap (λ l. answers (s ++ l)) (sym (append-nil bytes)) ∙ r (bytes ++ []) ∙ ap (λ l. answers s ++ l) (sym (a [])) in
    ap answers (append_assoc s bytes more) ∙ r (bytes ++ more) ∙ ap (λ l. answers s ++ l) (sym (a more) ∙ b more)
    ∙ sym (append_assoc (answers s) (still w1 []) (still w2 more)) ∙ ap (λ l. l ++ still w2 more) (sym all)

-- one connection moved on, and the others stand where they stood
hold_on : (lines lines' : List (Option Waiting)) (seen : List TraceEvent) (e : TraceEvent) (c : ℕ) → Hold lines seen
    → ((d : ℕ) → d ≢ c → at lines' d ≡ at lines d)
    → ((d : ℕ) → (c ≡ d → ⊥) → life d (seen ++ e ∷ []) ≡ life d seen)
    → Ready (life c (seen ++ e ∷ [])) (answers (life c (seen ++ e ∷ []))) (at lines' c)
    → Hold lines' (seen ++ e ∷ [])
hold_on lines lines' seen e c h others other here d =
    elim (nat_eq c d) as (λ b. nat_eq c d ≡ b → Ready (life d (seen ++ e ∷ [])) (answers (life d (seen ++ e ∷ []))) (at lines' d)) [
      | true ↦ λ is. let same : c ≡ d = grind arith in
          subst (λ k. Ready (life k (seen ++ e ∷ [])) (answers (life k (seen ++ e ∷ []))) (at lines' k)) same here
      | false ↦ λ is. let ne : d ≢ c = grind arith in
          let ne' : c ≡ d → ⊥ = λ q. ne (sym q) in
          subst (λ s. Ready s (answers s) (at lines' d)) (sym (other d ne'))
          (subst (Ready (life d seen) (answers (life d seen))) (sym (others d ne)) (h d))
    ] refl

on_whole : (g : Given) (P Q : Type 0) → (P → Q) → OnWhole g P → OnWhole g Q
on_whole Whole P Q f h = f h
on_whole Fault P Q f h = h
on_whole Memory P Q f h = h

-- a piece was served: put last on its connection, and the answers there given
pub at_piece : (g : Given) (R : Meaning) (seen : List TraceEvent) (e : TraceEvent) (c place n n' made : ℕ) (failed bytes piece : List ℕ) (lines mid lines' : List (Option Waiting)) (old new : World)
    → Hold lines seen → e ≡ Piece c bytes → piece ≡ bytes
    → at mid c ≡ Some (added_to (at lines c) piece) → ((d : ℕ) → d ≢ c → at mid d ≡ at lines d) → ((d : ℕ) → d ≢ c → at lines' d ≡ at mid d)
    → ((K : List ℕ) → Later made failed K → Ran g (AtPlace place) R K n (asked c place (still (at mid c) [])) old new)
    → OnWhole g (RanLine (at mid c) (at lines' c) n n')
    → RanEvent g R seen (e, place) n n' made failed lines' old new
at_piece g R seen e c place n n' made failed bytes piece lines mid lines' old new h is p here before others ran line =
    let a : (more : List ℕ) → still (at mid c) more ≡ still (at lines c) (bytes ++ more) =
    λ more. ap (λ o. still o more) here ∙ still_added (at lines c) piece more ∙ ap (λ l. still (at lines c) (l ++ more)) p in
    let is_fresh : fresh seen (Piece c bytes, place) ≡ asked c place (still (at mid c) []) = fresh_is place c seen bytes (at lines c) (at mid c) (h c) a in
    subst (λ v. RanEvent g R seen (v, place) n n' made failed lines' old new) (sym is)
    (record {
      ran = λ K k. subst (λ xs. Ran g (AtPlace place) R K n xs old new) (sym is_fresh) (ran K k);
      whole = on_whole g _ _ (λ (l : RanLine (at mid c) (at lines' c) n n'). (
        hold_on lines lines' seen (Piece c bytes) c h (λ d ne. others d ne ∙ before d ne) (λ d ne. life_other c d seen bytes ne)
            (subst (λ s. Ready s (answers s) (at lines' c)) (sym (life_piece c seen bytes)) (ready_next (life c seen) bytes (at lines c) (at mid c) (at lines' c) (h c) a l.goes)),
        l.number ∙ ap (λ k. n + k) (sym (ap length is_fresh ∙ length-map (still (at mid c) []) _)),
      )) line;
    })

-- there was no memory for a piece
pub event_stop : (R : Meaning) (seen : List TraceEvent) (e : TraceEvent × ℕ) (n n' made : ℕ) (failed : List ℕ) (lines : List (Option Waiting)) (old : World)
    → RanEvent Memory R seen e n n' made failed lines old old
event_stop R seen e n n' made failed lines old = record { ran = λ K k. ran_stop _ R K n _ old; whole = tt }

-- a connection ended
pub at_end : (R : Meaning) (seen : List TraceEvent) (e : TraceEvent) (c place n made : ℕ) (failed : List ℕ) (lines lines' : List (Option Waiting)) (old : World)
    → Hold lines seen → e ≡ End c → at lines' c ≡ None → ((d : ℕ) → d ≢ c → at lines' d ≡ at lines d) → RanEvent Whole R seen (e, place) n n made failed lines' old old
unfolding answers_in
at_end R seen e c place n made failed lines lines' old h is here others =
    subst (λ v. RanEvent Whole R seen (v, place) n n made failed lines' old old) (sym is)
    (record {
      ran = λ K k. ran_none _ R K n old;
      whole = (
        hold_on lines lines' seen (End c) c h others (λ d ne. life_other_end c d seen ne)
            (subst (λ s. Ready s (answers s) (at lines' c)) (sym (life_end c seen)) (λ more. sym (still_nothing (at lines' c) more here))),
        omega arith,
      );
    })
