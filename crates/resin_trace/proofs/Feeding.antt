-- What a reader holds after one more piece, and what its answers say.
use Rattle.std.proofs.Common.{◌≡◌, ◌≢◌, ℕ, zero, suc, ◌+◌, ◌-◌, ◌<◌, ◌≤◌, min, List, [], ◌∷◌, ◌++◌, length, take, drop, arith, refl, sym, ap, subst, ◌∙◌, inl, inr, ◌⊎◌, Bool, true, false}
use Rattle.std.specs.Prelude.{◌||◌, nat_lt, MatchBool, IsTrue}
use Rattle.std.proofs.lemmas.List.{take_min, drop_all, length-drop, length-append}
use Rattle.std.proofs.lemmas.Bool.Decides.{nat_tests}
use Rattle.resin_trace.specs.declared.event.TraceEvent.{TraceEvent}
use Rattle.resin_trace.specs.declared.scan.Tail.{Tail}
use Rattle.resin_trace.specs.Records.{limit, CanGo, Front, Splits}
use Rattle.resin_trace.specs.Seen.{Seen, fed}
use Rattle.resin_trace.specs.Reads.{WholeAt, Tails, Left, IsTooLong, BreaksAt}
use Rattle.resin_trace.proofs.Once.{once}

take_past : (xs ys : List ℕ) (n m : ℕ) → n ≡ length xs + m → take n (xs ++ ys) ≡ xs ++ take m ys
take_past [] ys n m e = let f : n ≡ m = omega arith in ap (λ k. take k ys) f
take_past (x ∷ xs) ys zero m e = absurd (omega arith)
take_past (x ∷ xs) ys (suc n) m e = ap (λ l. x ∷ l) (take_past xs ys n m (omega arith))

lt_same : (a b c d : ℕ) → (a < b → c < d) → (c < d → a < b) → nat_lt a b ≡ nat_lt c d
lt_same a b c d f g = grind (arith, nat_tests)

over_same : (over : Bool) (a b : Bool) → a ≡ b → (over || a) ≡ (over || b)
over_same over a b e = ap (λ t. over || t) e

-- the reader after a piece, of which as much as there is room for was kept
pub fed_is : (s : Seen) (unread now new piece : List ℕ) (place kept : ℕ) (over : Bool)
    → record { rest = unread; place = place; over = over } ≡ s → now ≡ unread → place + length unread ≤ limit
    → new ≡ unread ++ take kept piece → kept ≡ min (limit - place - length now) (length piece)
    → record { rest = new; place = place; over = over || nat_lt (limit - place - length now) (length piece) } ≡ fed s piece
fed_is s unread now new piece place kept over v n w a k =
    let room : ℕ = limit - place - length unread in
    let size : length now ≡ length unread = ap length n in
    let text : new ≡ take (limit - place) (unread ++ piece) =
    a ∙ ap (λ m. unread ++ take m piece) (k ∙ ap (λ m. min (limit - place - m) (length piece)) size)
    ∙ ap (λ l. unread ++ l) (take_min room piece) ∙ sym (take_past unread piece (limit - place) room (omega arith)) in
    let both : length (unread ++ piece) ≡ length unread + length piece = length-append unread piece in
    let past : nat_lt (limit - place - length now) (length piece) ≡ nat_lt limit (place + length (unread ++ piece)) =
    lt_same (limit - place - length now) (length piece) limit (place + length (unread ++ piece)) (λ h. omega arith) (λ h. omega arith) in
    ap (λ l. record { rest = l; place = place; over = over || nat_lt (limit - place - length now) (length piece) }) text
    ∙ ap (λ b. record { rest = take (limit - place) (unread ++ piece); place = place; over = over || b }) past
    ∙ ap (λ r. fed r piece) v

yes_of : (b : Bool) (P Q : Type 0) → MatchBool b P Q → IsTrue b → P
yes_of true P Q m t = m
yes_of false P Q m t = absurd (cc)

is_yes : (b : Bool) (P Q : Type 0) → MatchBool b P Q → (Q → ⊥) → IsTrue b
is_yes true P Q m n = refl
is_yes false P Q m n = absurd (n m)

left_of : (s : Seen) (now : List ℕ) (tail : Tail) → now ≡ s.rest → ((place : ℕ) → Tails place now tail) → (events : List (TraceEvent × ℕ)) × Left s events (drop tail.at now)
left_of s now tail e t =
    let at = t s.place in
    (at.events, record { splits = subst (λ text. Splits s.place text at.events (drop tail.at now)) e at.splits; longest = at.longest })

too_long_of : (s : Seen) (now : List ℕ) (tail : Tail) → now ≡ s.rest → s.over ≡ true → ((place : ℕ) → Tails place now tail) → IsTrue tail.goes → IsTooLong s
too_long_of s now tail e o t y =
    let l = left_of s now tail e t in
    record { over = o; events = l.0; rest = drop tail.at now; left = l.1; goes = yes_of tail.goes _ _ (t s.place).goes y }

goes_of : (s : Seen) (now : List ℕ) (tail : Tail) → now ≡ s.rest → ((place : ℕ) → Tails place now tail) → IsTooLong s → IsTrue tail.goes
goes_of s now tail e t l =
    let m = left_of s now tail e t in
    let same : l.rest ≡ drop tail.at now = (once s.place s.rest l.events m.0 l.rest (drop tail.at now) l.left.splits m.1.splits l.left.longest m.1.longest).1 in
    is_yes tail.goes _ _ (t s.place).goes (λ stuck. stuck (subst CanGo same l.goes))

-- the test of a trace that is too long
pub tells_too_long : (s : Seen) (now : List ℕ) (tail : Tail) → now ≡ s.rest → s.over ≡ true → ((place : ℕ) → Tails place now tail)
    → (IsTrue tail.goes → IsTooLong s) × (IsTooLong s → IsTrue tail.goes)
tells_too_long s now tail e o t = (too_long_of s now tail e o t, goes_of s now tail e t)

-- the record at the front, for which there was no memory
pub stands_front : (s : Seen) (now : List ℕ) (event : TraceEvent) (used : ℕ) → now ≡ s.rest → WholeAt now event used → Front s.rest
stands_front s now event used e w = record { event = event; word = w.word; rest = w.rest; spells = w.spells; is = sym e ∙ w.is }

-- the answers of `finish`
pub finish_long : (s : Seen) (now : List ℕ) (tail : Tail) → now ≡ s.rest → s.over ≡ true → tail.goes ≡ true → ((place : ℕ) → Tails place now tail) → IsTooLong s
finish_long s now tail e o y t = too_long_of s now tail e o t y

pub finish_good : (s : Seen) (now : List ℕ) (tail : Tail) → now ≡ s.rest → tail.at ≡ length now → ((place : ℕ) → Tails place now tail) → (events : List (TraceEvent × ℕ)) × Left s events []
finish_good s now tail e at t =
    let l = left_of s now tail e t in
    (l.0, subst (Left s l.0) (drop_all tail.at now (omega arith)) l.1)

breaks_with : (s : Seen) (now : List ℕ) (tail : Tail) → now ≡ s.rest → ((place : ℕ) → Tails place now tail)
    → (((drop tail.at now ≢ []) × (s.over ≡ false)) ⊎ (CanGo (drop tail.at now) → ⊥)) → BreaksAt s (s.place + tail.at)
breaks_with s now tail e t stuck =
    let l = left_of s now tail e t in
    let within : tail.at ≤ length now = (t s.place).within in
    let size : length now ≡ length s.rest = ap length e in
    let left : length (drop tail.at now) ≡ length now - tail.at = length-drop tail.at now in
    record { events = l.0; rest = drop tail.at now; left = l.1; place = omega arith; stuck = stuck }

pub finish_short : (s : Seen) (now : List ℕ) (tail : Tail) → now ≡ s.rest → s.over ≡ false → tail.at ≢ length now → ((place : ℕ) → Tails place now tail) → BreaksAt s (s.place + tail.at)
finish_short s now tail e o at t =
    let within : tail.at ≤ length now = (t s.place).within in
    let left : length (drop tail.at now) ≡ length now - tail.at = length-drop tail.at now in
    breaks_with s now tail e t (inl (λ q. (let none : length (drop tail.at now) ≡ 0 = ap length q in at (omega arith)), o))

no_of : (b : Bool) (P Q : Type 0) → MatchBool b P Q → b ≡ false → Q
no_of true P Q m e = absurd (cc)
no_of false P Q m e = m

pub finish_stuck : (s : Seen) (now : List ℕ) (tail : Tail) → now ≡ s.rest → tail.goes ≡ false → ((place : ℕ) → Tails place now tail) → BreaksAt s (s.place + tail.at)
finish_stuck s now tail e n t = breaks_with s now tail e t (inr (no_of tail.goes _ _ (t s.place).goes n))
