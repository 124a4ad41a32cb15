-- No cutting of a stream changes what it asks.
use Rattle.std.proofs.Common.{◌≡◌, ℕ, ◌+◌, List, [], ◌∷◌, ◌++◌, length, drop, map, refl, sym, ap, ◌∙◌, append_assoc, arith}
use Rattle.std.proofs.lemmas.List.{append-nil, drop_at, drop_all}
use Rattle.resin_site.specs.Under.http.Stream.{Answer, answers}
use Rattle.resin_site.proofs.http_lemmas.StreamLemmas.{answers_grow}
use Rattle.resin_trace.specs.declared.event.TraceEvent.TheVariants.{Piece}
use Rattle.resin_serve.specs.Meaning.{Owed, Reply, life, added, order, tagged, bytes_of, after_of, calls_of}
use Rattle.resin_serve.specs.Cutting.{pieces_on, joined, all_asked, all_told, AnyCutting, AskedTells}
use Rattle.resin_serve.proofs.Event_runs.{life_piece}

asked_append : (xs ys : List Owed) → all_asked (xs ++ ys) ≡ all_asked xs ++ all_asked ys
asked_append [] ys = refl
asked_append (x ∷ xs) ys = ap (λ l. x.asked ∷ l) (asked_append xs ys)

asked_map : (place c : ℕ) (as_ : List Answer) → all_asked (map (λ a. record { conn = c; asked = a; place = place }) as_) ≡ as_
asked_map place c [] = refl
asked_map place c (a ∷ as_) = ap (λ l. a ∷ l) (asked_map place c as_)

added_asks : (place c : ℕ) (s bytes : List ℕ) → all_asked (added place c s bytes) ≡ drop (length (answers s)) (answers (s ++ bytes))
unfolding added
added_asks place c s bytes = asked_map place c (drop (length (answers s)) (answers (s ++ bytes)))

-- what a piece adds, and what those after it do
adds_up : (s a b : List ℕ) → drop (length (answers s)) (answers (s ++ a)) ++ drop (length (answers (s ++ a))) (answers ((s ++ a) ++ b)) ≡ drop (length (answers s)) (answers ((s ++ a) ++ b))
adds_up s a b =
    let g = answers_grow s a in
    let h = answers_grow (s ++ a) b in
    let x : drop (length (answers s)) (answers (s ++ a)) ≡ g.0 = ap (drop (length (answers s))) g.1 ∙ drop_at (answers s) g.0 (length (answers s)) refl in
    let y : drop (length (answers (s ++ a))) (answers ((s ++ a) ++ b)) ≡ h.0 = ap (drop (length (answers (s ++ a)))) h.1 ∙ drop_at (answers (s ++ a)) h.0 (length (answers (s ++ a))) refl in
    let all : answers ((s ++ a) ++ b) ≡ answers s ++ (g.0 ++ h.0) = h.1 ∙ ap (λ l. l ++ h.0) g.1 ∙ append_assoc (answers s) g.0 h.0 in
    ap (λ l. l ++ drop (length (answers (s ++ a))) (answers ((s ++ a) ++ b))) x ∙ ap (λ l. g.0 ++ l) y
    ∙ sym (drop_at (answers s) (g.0 ++ h.0) (length (answers s)) refl) ∙ ap (drop (length (answers s))) (sym all)

pub any_cutting : AnyCutting
any_cutting seen c [] =
    let s = life c seen in
    sym (ap (λ l. drop (length (answers s)) (answers l)) (append-nil s) ∙ drop_all (length (answers s)) (answers s) (omega arith))
any_cutting seen c (p ∷ ps) =
    let s = life c seen in
    asked_append (added p.1 c s p.0) (order (seen ++ Piece c p.0 ∷ []) (pieces_on c ps))
    ∙ ap (λ l. l ++ all_asked (order (seen ++ Piece c p.0 ∷ []) (pieces_on c ps))) (added_asks p.1 c s p.0)
    ∙ ap (λ l. drop (length (answers s)) (answers (s ++ p.0)) ++ l) (any_cutting (seen ++ Piece c p.0 ∷ []) c ps
    ∙ ap (λ t. drop (length (answers t)) (answers (t ++ joined ps))) (life_piece c seen p.0))
    ∙ adds_up s p.0 (joined ps) ∙ ap (λ l. drop (length (answers s)) (answers l)) (append_assoc s p.0 (joined ps))

pub asked_tells : AskedTells
asked_tells R K s number [] [] e = (refl, refl, refl)
asked_tells R K s number [] (y ∷ ys) e = absurd (cc)
asked_tells R K s number (x ∷ xs) [] e = absurd (cc)
asked_tells R K s number (x ∷ xs) (y ∷ ys) e =
    let head : (x.conn, x.asked) ≡ (y.conn, y.asked) = cc in
    let tail : all_told xs ≡ all_told ys = cc in
    let same : R K s number x.conn x.asked ≡ R K s number y.conn y.asked = ap (λ (p : ℕ × Answer). R K s number p.0 p.1) head in
    let go = asked_tells R K (R K s number x.conn x.asked).after (number + 1) xs ys tail in (
      ap (λ l. tagged (R K s number x.conn x.asked) ++ l) go.0 ∙ ap (λ (r : Reply). tagged r ++ bytes_of R K r.after (number + 1) ys) same,
      go.1 ∙ ap (λ (r : Reply). after_of R K r.after (number + 1) ys) same,
      ap (λ l. (R K s number x.conn x.asked).is.calls ++ l) go.2 ∙ ap (λ (r : Reply). r.is.calls ++ calls_of R K r.after (number + 1) ys) same,
    )
