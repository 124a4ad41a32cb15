-- Traces that ask the same have the same runs.
use Rattle.std.proofs.Common.{◌≡◌, ℕ, ◌+◌, true, List, [], ◌∷◌, ◌++◌, length, drop, map, Option, Some, None, refl, sym, ap, ◌∙◌, arith, subst}
use Rattle.std.specs.Prelude.{◌==◌, if◌then◌else◌, ⊤}
use Rattle.std.proofs.lemmas.Bool.Decides.{nat_tests}
use Rattle.resin_site.specs.Keeping.{St, Store, WhereTold}
use Rattle.resin_site.specs.Under.http.Stream.{Answer, answers}
use Rattle.resin_trace.specs.declared.event.TraceEvent.{TraceEvent}
use Rattle.resin_trace.specs.declared.event.TraceEvent.TheVariants.{Piece, End}
use Rattle.resin_serve.specs.declared.give.Given.TheVariants.{Whole}
use Rattle.resin_serve.specs.Meaning.{Meaning, Owed, Reply, added, order, IsLawfulAnswer, AllObey}
use Rattle.resin_serve.specs.Ran.{World, Gained, IsState, Called, Through, Ran}
use Rattle.resin_serve.specs.Top.{events}
use Rattle.resin_serve.specs.Cutting.{all_told, asked_on, AreOn, AskSame, SameRuns, OneConnection}
use Rattle.resin_serve.proofs.Cuttings.{asked_tells}
use Rattle.resin_serve.proofs.Lives.{same_lives}
use Rattle.resin_serve.proofs.Serve_runs.{whole_of}

obey_same : (R : Meaning) (K : List ℕ) (s : St) (n : ℕ) (xs ys : List Owed) → all_told xs ≡ all_told ys → AllObey R K s n xs → AllObey R K s n ys
obey_same R K s n [] [] e h = tt
obey_same R K s n [] (y ∷ ys) e h = absurd (cc)
obey_same R K s n (x ∷ xs) [] e h = absurd (cc)
obey_same R K s n (x ∷ xs) (y ∷ ys) e h =
    let head : (x.conn, x.asked) ≡ (y.conn, y.asked) = cc in
    let tail : all_told xs ≡ all_told ys = cc in
    let same : R K s n x.conn x.asked ≡ R K s n y.conn y.asked = ap (λ (p : ℕ × Answer). R K s n p.0 p.1) head in (
      subst (IsLawfulAnswer n) same h.0,
      subst (λ (r : Reply). AllObey R K r.after (n + 1) ys) same (obey_same R K (R K s n x.conn x.asked).after (n + 1) xs ys tail h.1),
    )

through_same : (R : Meaning) (K : List ℕ) (s : St) (n : ℕ) (xs ys : List Owed) (old new : World) → all_told xs ≡ all_told ys → Through R K s n xs old new → Through R K s n ys old new
through_same R K s n xs ys old new e h =
    let t = asked_tells R K s n xs ys e in
    record {
      lawful = obey_same R K s n xs ys e h.lawful;
      gained = subst (Gained old new) t.0 h.gained;
      called = subst (λ l. Called K l old new) t.2 h.called;
      state = subst (IsState new) t.1 h.state;
    }

where_same : (o : Option Store) (A B : Store → Type 0) → ((s : Store) → A s → B s) → WhereTold o A → WhereTold o B
where_same None A B f h = tt
where_same (Some s) A B f h = f s h

ran_same : (Q : Owed → Type 0) (R : Meaning) (K : List ℕ) (n : ℕ) (xs ys : List Owed) (old new : World) → all_told xs ≡ all_told ys → Ran Whole Q R K n xs old new → Ran Whole Q R K n ys old new
unfolding Ran
ran_same Q R K n xs ys old new e h = where_same old.store _ _ (λ s t. through_same R K (record { store = s; made = old.made }) n xs ys old new e t) h

pub same_runs : SameRuns
same_runs trace trace' rest rest' xs ys rx ry e R K old new run =
    whole_of (λ _. Unit {0}) R K trace' ys rest' old new ry (ran_same (λ _. Unit {0}) R K 1 (order [] xs) (order [] ys) old new e (run xs rest rx))

-- ---- one connection

abbrev EachOn : ℕ → List Owed → Type 0
EachOn c [] = ⊤
EachOn c (a ∷ xs) = (a.conn ≡ c) × EachOn c xs

each_append : (c : ℕ) (xs ys : List Owed) → EachOn c xs → EachOn c ys → EachOn c (xs ++ ys)
each_append c [] ys h k = k
each_append c (x ∷ xs) ys h k = (h.0, each_append c xs ys h.1 k)

each_owed : (c d place : ℕ) (as_ : List Answer) → d ≡ c → EachOn c (map (λ a. record { conn = d; asked = a; place = place }) as_)
each_owed c d place [] e = tt
each_owed c d place (a ∷ as_) e = (e, each_owed c d place as_ e)

each_added : (c d place : ℕ) (s bytes : List ℕ) → d ≡ c → EachOn c (added place d s bytes)
unfolding added
each_added c d place s bytes e = each_owed c d place (drop (length (answers s)) (answers (s ++ bytes))) e

each_on : (c : ℕ) (seen : List TraceEvent) (es : List (TraceEvent × ℕ)) → AreOn c (events es) → EachOn c (order seen es)
each_on c seen [] h = tt
each_on c seen ((Piece d bytes, place) ∷ es) h =
    each_append c (added place d _ bytes) _ (each_added c d place _ bytes h.0) (each_on c (seen ++ Piece d bytes ∷ []) es h.1)
each_on c seen ((End d, place) ∷ es) h = each_on c (seen ++ End d ∷ []) es h.1

same_nat : (c d : ℕ) → d ≡ c → (d == c) ≡ true
same_nat c d e = grind (arith, nat_tests)

-- what is asked, each on this connection
abbrev told_with : ℕ → List Answer → List (ℕ × Answer)
told_with c as_ = map {B = ℕ × Answer} (λ a. (c, a)) as_

told_on : (c : ℕ) (xs : List Owed) → EachOn c xs → all_told xs ≡ told_with c (asked_on c xs)
told_on c [] h = refl
told_on c (x ∷ xs) h =
    let here : all_told (x ∷ xs) ≡ told_with c (x.asked ∷ []) ++ all_told xs = ap (λ d. told_with d (x.asked ∷ []) ++ all_told xs) h.0 in
    here ∙ ap (λ l. told_with c (x.asked ∷ []) ++ l) (told_on c xs h.1)
    ∙ ap (λ b. told_with c (if b then x.asked ∷ asked_on c xs else asked_on c xs)) (sym (same_nat c x.conn h.0))

pub one_connection : OneConnection
one_connection c trace trace' rest rest' xs ys rx ry hx hy e =
    let asks : AskSame xs ys = told_on c (order [] xs) (each_on c [] xs hx) ∙ ap (told_with c) (same_lives trace trace' rest rest' xs ys rx ry c e)
    ∙ sym (told_on c (order [] ys) (each_on c [] ys hy)) in
    (asks, same_runs trace trace' rest rest' xs ys rx ry asks)
