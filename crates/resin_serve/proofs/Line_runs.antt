-- The answers of one line, one after another.
use Rattle.std.proofs.Common.{◌≡◌, ℕ, ◌+◌, List, [], ◌∷◌, ◌++◌, length, refl, sym, ap, ◌∙◌, arith, append_assoc, length-append, subst, Option}
use Rattle.std.proofs.lemmas.List.{append-nil, map-append, length-map}
use Rattle.resin_site.specs.Under.http.Stream.{Answer}
use Rattle.resin_trace.specs.Lines.{Waiting}
use Rattle.resin_serve.specs.declared.give.Given.{Given}
use Rattle.resin_serve.specs.declared.give.Given.TheVariants.{Whole, Fault, Memory}
use Rattle.resin_serve.specs.Meaning.{Meaning, Owed}
use Rattle.resin_site.specs.Keeping.{Later}
use Rattle.resin_serve.specs.Ran.{World, Ran}
use Rattle.resin_site.specs.Keeping.{Passes}
use Rattle.resin_serve.specs.Lines.{still, asked}
use Rattle.resin_serve.specs.Top.{RanLine, OnWhole}
use Rattle.resin_serve.proofs.Runs.{ran_none, ran_then, ran_more, ran_stop}

abbrev pub AtPlace : ℕ → Owed → Type 0
AtPlace place a = a.place ≡ place

-- these answers were served, and the line goes on from there
pub record LineLoop (R : Meaning) (conn n0 : ℕ) (old : Option Waiting) (w0 : World) (now : Option Waiting) (n made : ℕ) (failed : List ℕ) (w : World) : Type 0 where
  pub done : List Answer
  pub goes : (more : List ℕ) → still old more ≡ done ++ still now more
  pub number : n ≡ n0 + length done
  pub ran : (place : ℕ) (K : List ℕ) → Later made failed K → Ran Whole (AtPlace place) R K n0 (asked conn place done) w0 w

pub line_begin : (R : Meaning) (conn n0 : ℕ) (old : Option Waiting) (w0 : World) (made : ℕ) (failed : List ℕ) → LineLoop R conn n0 old w0 old n0 made failed w0
line_begin R conn n0 old w0 made failed = record {
  done = [];
  goes = λ more. refl;
  number = omega arith;
  ran = λ place K k. ran_none (AtPlace place) R K n0 w0;
}

asked_append : (conn place : ℕ) (xs ys : List Answer) → asked conn place (xs ++ ys) ≡ asked conn place xs ++ asked conn place ys
asked_append conn place xs ys = map-append _ xs ys

asked_length : (conn place : ℕ) (xs : List Answer) → length (asked conn place xs) ≡ length xs
asked_length conn place xs = length-map xs _

-- a run goes on with answers of the line
on_then : (g : Given) (R : Meaning) (conn n0 : ℕ) (old : Option Waiting) (w0 : World) (now : Option Waiting) (n made : ℕ) (failed : List ℕ) (w w' : World) (items : List Answer) (place : ℕ) (K : List ℕ)
    (l : LineLoop R conn n0 old w0 now n made failed w) → Later made failed K
    → Ran g (AtPlace place) R K n (asked conn place items) w w'
    → Ran g (AtPlace place) R K n0 (asked conn place (l.done ++ items)) w0 w'
on_then g R conn n0 old w0 now n made failed w w' items place K l k h =
    subst (λ xs. Ran g (AtPlace place) R K n0 xs w0 w') (sym (asked_append conn place l.done items))
    (ran_then g (AtPlace place) (AtPlace place) R K n0 n (asked conn place l.done) (asked conn place items) w0 w w'
    (l.number ∙ ap (λ k. n0 + k) (sym (asked_length conn place l.done))) (l.ran place K k) h)

pub line_step : (R R' : Meaning) (conn n0 : ℕ) (old : Option Waiting) (w0 : World) (now now' : Option Waiting) (n n' made made' : ℕ) (failed failed' : List ℕ) (w w' : World) (item : Answer)
    → LineLoop R conn n0 old w0 now n made failed w
    → ((more : List ℕ) → still now more ≡ item ∷ still now' more)
    → Passes made failed made' failed'
    → n' ≡ n + 1 → R' ≡ R
    → ((place : ℕ) (K : List ℕ) → Later made' failed' K → Ran Whole (AtPlace place) R' K n (record { conn = conn; asked = item; place = place } ∷ []) w w')
    → LineLoop R conn n0 old w0 now' n' made' failed' w'
line_step R R' conn n0 old w0 now now' n n' made made' failed failed' w w' item l t p e q h = record {
  done = l.done ++ item ∷ [];
  goes = λ more. l.goes more ∙ ap (λ xs. l.done ++ xs) (t more) ∙ sym (append_assoc l.done (item ∷ []) (still now' more));
  number = let f : n ≡ n0 + length l.done = l.number in omega (arith, length-append l.done (item ∷ []));
  ran = λ place K k. on_then Whole R conn n0 old w0 now n made failed w w' (item ∷ []) place K l (p K k) (subst (λ S. Ran Whole (AtPlace place) S K n (record { conn = conn; asked = item; place = place } ∷ []) w w') q (h place K k));
}

pub line_stop : (g : Given) (R R' : Meaning) (conn n0 : ℕ) (old : Option Waiting) (w0 : World) (now now' : Option Waiting) (n made made' : ℕ) (failed failed' : List ℕ) (w w' : World) (item : Answer)
    → (g ≡ Whole → ⊥)
    → LineLoop R conn n0 old w0 now n made failed w
    → ((more : List ℕ) → still now more ≡ item ∷ still now' more)
    → Passes made failed made' failed' → R' ≡ R
    → ((place : ℕ) (K : List ℕ) → Later made' failed' K → Ran g (AtPlace place) R' K n (record { conn = conn; asked = item; place = place } ∷ []) w w')
    → (place : ℕ) (K : List ℕ) → Later made' failed' K → Ran g (AtPlace place) R K n0 (asked conn place (still old [])) w0 w'
line_stop g R R' conn n0 old w0 now now' n made made' failed failed' w w' item ne l t p q h place K k =
    subst (λ xs. Ran g (AtPlace place) R K n0 (asked conn place xs) w0 w') (sym (l.goes []))
    (on_then g R conn n0 old w0 now n made failed w w' (still now []) place K l (p K k)
    (subst (λ xs. Ran g (AtPlace place) R K n (asked conn place xs) w w') (sym (t []))
    (ran_more g (AtPlace place) R K n (record { conn = conn; asked = item; place = place } ∷ []) (asked conn place (still now' [])) w w' ne
    (subst (λ S. Ran g (AtPlace place) S K n (record { conn = conn; asked = item; place = place } ∷ []) w w') q (h place K k)))))

pub line_memory : (R : Meaning) (conn n0 : ℕ) (old : Option Waiting) (w0 : World) (now : Option Waiting) (n made : ℕ) (failed : List ℕ) (w : World)
    → LineLoop R conn n0 old w0 now n made failed w
    → (place : ℕ) (K : List ℕ) → Later made failed K → Ran Memory (AtPlace place) R K n0 (asked conn place (still old [])) w0 w
line_memory R conn n0 old w0 now n made failed w l place K k =
    subst (λ xs. Ran Memory (AtPlace place) R K n0 (asked conn place xs) w0 w) (sym (l.goes []))
    (on_then Memory R conn n0 old w0 now n made failed w w (still now []) place K l k (ran_stop _ R K n _ w))

pub line_whole : (R : Meaning) (conn n0 : ℕ) (old : Option Waiting) (w0 : World) (now : Option Waiting) (n made : ℕ) (failed : List ℕ) (w : World)
    → LineLoop R conn n0 old w0 now n made failed w → still now [] ≡ []
    → (place : ℕ) (K : List ℕ) → Later made failed K → Ran Whole (AtPlace place) R K n0 (asked conn place (still old [])) w0 w
line_whole R conn n0 old w0 now n made failed w l e place K k =
    subst (λ xs. Ran Whole (AtPlace place) R K n0 (asked conn place xs) w0 w) (sym (l.goes [] ∙ ap (λ xs. l.done ++ xs) e ∙ append-nil l.done))
    (l.ran place K k)

pub line_end : (R : Meaning) (conn n0 : ℕ) (old : Option Waiting) (w0 : World) (now : Option Waiting) (n made : ℕ) (failed : List ℕ) (w : World)
    → LineLoop R conn n0 old w0 now n made failed w → still now [] ≡ [] → RanLine old now n0 n
line_end R conn n0 old w0 now n made failed w l e =
    let d : still old [] ≡ l.done = l.goes [] ∙ ap (λ xs. l.done ++ xs) e ∙ append-nil l.done in
    record {
      none = e;
      goes = λ more. l.goes more ∙ ap (λ xs. xs ++ still now more) (sym d);
      number = l.number ∙ ap (λ xs. n0 + length xs) (sym d);
    }

-- the last answer of a connection, as far as it was given
pub line_last : (g : Given) (R : Meaning) (conn n0 : ℕ) (old : Option Waiting) (w0 : World) (now now' : Option Waiting) (n made : ℕ) (failed : List ℕ) (w w' : World) (item : Answer)
    → LineLoop R conn n0 old w0 now n made failed w
    → ((more : List ℕ) → still now more ≡ item ∷ still now' more) → ((more : List ℕ) → still now' more ≡ [])
    → (place : ℕ) (K : List ℕ) → Ran g (AtPlace place) R K n (record { conn = conn; asked = item; place = place } ∷ []) w w' → Later made failed K
    → Ran g (AtPlace place) R K n0 (asked conn place (still old [])) w0 w'
line_last g R conn n0 old w0 now now' n made failed w w' item l t z place K h k =
    subst (λ xs. Ran g (AtPlace place) R K n0 (asked conn place xs) w0 w') (sym (l.goes [] ∙ ap (λ xs. l.done ++ xs) (t [] ∙ ap (λ xs. item ∷ xs) (z []))))
    (on_then g R conn n0 old w0 now n made failed w w' (item ∷ []) place K l k h)

pub on_whole : (g : Given) (P Q : Type 0) → (P → Q) → OnWhole g P → OnWhole g Q
on_whole Whole P Q f h = f h
on_whole Fault P Q f h = h
on_whole Memory P Q f h = h

pub line_done : (g : Given) (R : Meaning) (conn n0 : ℕ) (old : Option Waiting) (w0 : World) (now now' : Option Waiting) (n n' made : ℕ) (failed : List ℕ) (w : World) (item : Answer)
    → LineLoop R conn n0 old w0 now n made failed w
    → ((more : List ℕ) → still now more ≡ item ∷ still now' more) → ((more : List ℕ) → still now' more ≡ [])
    → OnWhole g (n' ≡ n + 1) → OnWhole g (RanLine old now' n0 n')
line_done g R conn n0 old w0 now now' n n' made failed w item l t z =
    on_whole g (n' ≡ n + 1) (RanLine old now' n0 n') (λ e.
    let all : still old [] ≡ l.done ++ item ∷ [] = l.goes [] ∙ ap (λ xs. l.done ++ xs) (t [] ∙ ap (λ xs. item ∷ xs) (z [])) in
    let count : n ≡ n0 + length l.done = l.number in
    let size : length (still old []) ≡ length l.done + 1 = ap length all ∙ length-append l.done (item ∷ []) in
    record {
      none = z [];
      goes = λ more. l.goes more ∙ ap (λ xs. l.done ++ xs) (t more) ∙ sym (append_assoc l.done (item ∷ []) (still now' more)) ∙ ap (λ xs. xs ++ still now' more) (sym all);
      number = omega arith;
    })

-- of a run that stopped nothing is said of what a whole one leaves
pub on_stop : (g : Given) (P : Type 0) → (g ≡ Whole → ⊥) → OnWhole g P
on_stop Whole P ne = absurd (ne refl)
on_stop Fault P ne = tt
on_stop Memory P ne = tt
