-- What the lives of a connection ask.
use Rattle.std.proofs.Common.{◌≡◌, ℕ, true, false, List, [], ◌∷◌, ◌++◌, length, drop, map, refl, sym, ap, ◌∙◌, append_assoc, arith}
use Rattle.std.specs.Prelude.{◌==◌, if◌then◌else◌}
use Rattle.std.specs.List.{flat_map}
use Rattle.std.proofs.lemmas.List.{drop_at}
use Rattle.std.proofs.lemmas.Bool.{eqb-true}
use Rattle.std.proofs.lemmas.Bool.Decides.{nat_tests}
use Rattle.resin_site.specs.Under.http.Stream.{Answer, answers, answers_in}
use Rattle.resin_site.proofs.http_lemmas.StreamLemmas.{answers_grow}
use Rattle.resin_trace.specs.declared.event.TraceEvent.{TraceEvent}
use Rattle.resin_trace.specs.declared.event.TraceEvent.TheVariants.{Piece, End}
use Rattle.resin_serve.specs.Meaning.{Owed, life, added, order}
use Rattle.resin_serve.specs.Top.{events}
use Rattle.resin_serve.specs.Cutting.{lives_from, asked_on, LivesTell, SameLives}
use Rattle.resin_serve.proofs.Event_runs.{life_more}

on_append : (c : ℕ) (xs ys : List Owed) → asked_on c (xs ++ ys) ≡ asked_on c xs ++ asked_on c ys
on_append c [] ys = refl
on_append c (x ∷ xs) ys =
    elim (x.conn == c) as (λ t. (if t then x.asked ∷ asked_on c (xs ++ ys) else asked_on c (xs ++ ys)) ≡ (if t then x.asked ∷ asked_on c xs else asked_on c xs) ++ asked_on c ys) [
      | true ↦ ap (λ l. x.asked ∷ l) (on_append c xs ys)
      | false ↦ on_append c xs ys
    ]

abbrev owed : ℕ → ℕ → List Answer → List Owed
owed place c as_ = map (λ a. record { conn = c; asked = a; place = place }) as_

itself : (c : ℕ) → (c == c) ≡ true
itself c = grind (arith, nat_tests)

on_here : (place c : ℕ) (as_ : List Answer) → asked_on c (owed place c as_) ≡ as_
on_here place c [] = refl
on_here place c (a ∷ as_) =
    ap (λ t. if t then a ∷ asked_on c (owed place c as_) else asked_on c (owed place c as_)) (itself c) ∙ ap (λ l. a ∷ l) (on_here place c as_)

on_other : (place d c : ℕ) (as_ : List Answer) → (d == c) ≡ false → asked_on c (owed place d as_) ≡ []
on_other place d c [] e = refl
on_other place d c (a ∷ as_) e =
    ap (λ t. if t then a ∷ asked_on c (owed place d as_) else asked_on c (owed place d as_)) e ∙ on_other place d c as_ e

added_here : (place c : ℕ) (s bytes : List ℕ) → asked_on c (added place c s bytes) ≡ drop (length (answers s)) (answers (s ++ bytes))
unfolding added
added_here place c s bytes = on_here place c (drop (length (answers s)) (answers (s ++ bytes)))

added_other : (place d c : ℕ) (s bytes : List ℕ) → (d == c) ≡ false → asked_on c (added place d s bytes) ≡ []
unfolding added
added_other place d c s bytes e = on_other place d c (drop (length (answers s)) (answers (s ++ bytes))) e

-- the answers of a longer stream are those so far and then the new ones
grown_answers : (s bytes : List ℕ) → answers (s ++ bytes) ≡ answers s ++ drop (length (answers s)) (answers (s ++ bytes))
grown_answers s bytes =
    let g = answers_grow s bytes in
    g.1 ∙ ap (λ l. answers s ++ l) (sym (ap (drop (length (answers s))) g.1 ∙ drop_at (answers s) g.0 (length (answers s)) refl))

no_answers : answers [] ≡ []
unfolding answers_in
no_answers = refl

-- what the lives ask from a place on, the life so far counted too
told : (c : ℕ) (seen : List TraceEvent) (es : List (TraceEvent × ℕ))
    → flat_map answers (lives_from c (life c seen) (events es)) ≡ answers (life c seen) ++ asked_on c (order seen es)
told c seen [] = refl
told c seen ((Piece d bytes, place) ∷ es) =
    let s = life c seen in
    let seen' = seen ++ Piece d bytes ∷ [] in
    let later = asked_on c (order seen' es) in
    let new = added place d (life d seen) bytes in
    elim (d == c) as (λ t. (d == c) ≡ t → flat_map answers (lives_from c (if t then s ++ bytes else s) (events es)) ≡ answers s ++ asked_on c (new ++ order seen' es)) [
      | true ↦ λ e.
          let grows : life c seen' ≡ s ++ bytes = life_more c seen (Piece d bytes) ∙ ap (λ t. if t then s ++ bytes else s) e in
          let fresh = drop (length (answers s)) (answers (s ++ bytes)) in
          ap (λ w. flat_map answers (lives_from c w (events es))) (sym grows) ∙ told c seen' es ∙ ap (λ w. answers w ++ later) grows
          ∙ ap (λ l. l ++ later) (grown_answers s bytes) ∙ append_assoc (answers s) fresh later
          ∙ ap (λ l. answers s ++ l) (sym (on_append c new (order seen' es) ∙ ap (λ l. l ++ later) (ap (λ k. asked_on c (added place k (life k seen) bytes)) (eqb-true d c e) ∙ added_here place c s bytes)))
      | false ↦ λ e.
          let stays : life c seen' ≡ s = life_more c seen (Piece d bytes) ∙ ap (λ t. if t then s ++ bytes else s) e in
          ap (λ w. flat_map answers (lives_from c w (events es))) (sym stays) ∙ told c seen' es ∙ ap (λ w. answers w ++ later) stays
          ∙ ap (λ l. answers s ++ l) (sym (on_append c new (order seen' es) ∙ ap (λ l. l ++ later) (added_other place d c (life d seen) bytes e)))
    ] refl
told c seen ((End d, place) ∷ es) =
    let s = life c seen in
    let seen' = seen ++ End d ∷ [] in
    let later = asked_on c (order seen' es) in
    elim (d == c) as (λ t. (d == c) ≡ t → flat_map answers (if t then s ∷ lives_from c [] (events es) else lives_from c s (events es)) ≡ answers s ++ later) [
      | true ↦ λ e.
          let ends : life c seen' ≡ [] = life_more c seen (End d) ∙ ap (λ t. if t then [] else s) e in
          ap (λ l. answers s ++ l) (ap (λ w. flat_map answers (lives_from c w (events es))) (sym ends) ∙ told c seen' es ∙ ap (λ w. answers w ++ later) ends ∙ ap (λ l. l ++ later) no_answers)
      | false ↦ λ e.
          let stays : life c seen' ≡ s = life_more c seen (End d) ∙ ap (λ t. if t then [] else s) e in
          ap (λ w. flat_map answers (lives_from c w (events es))) (sym stays) ∙ told c seen' es ∙ ap (λ w. answers w ++ later) stays
    ] refl

no_life : (c : ℕ) → life c [] ≡ []
unfolding life
no_life c = refl

pub lives_tell : LivesTell
lives_tell c records =
    sym (ap (λ w. flat_map answers (lives_from c w (events records))) (sym (no_life c)) ∙ told c [] records
    ∙ ap (λ w. answers w ++ asked_on c (order [] records)) (no_life c) ∙ ap (λ l. l ++ asked_on c (order [] records)) no_answers)

pub same_lives : SameLives
same_lives trace trace' rest rest' xs ys rx ry c e = lives_tell c xs ∙ ap (flat_map answers) e ∙ sym (lives_tell c ys)
