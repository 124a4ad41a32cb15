-- Reading gives exactly what the form spells, and runs out of tokens exactly where they only begin it.
use Rattle.std.proofs.Common.{◌≡◌, ℕ, zero, suc, ◌≤◌, Bool, true, List, [], ◌∷◌, ◌⊎◌, inl, inr, length, refl, ◌∙◌, ap, subst, arith}
use Rattle.resin_form.specs.Form.{Begin, Form, give, andthen, next, maybe, many, Weight, After, plain, limited, followed, call, EndsBefore, Many, done, more, ManyBegins, inside, after, Spells, SpellsAfter, Begins, BeginsAfter}
use Rattle.resin_form.specs.Reading.{Outcome, Got, Stop, Deep, Reader, and_then, left, loop, read, read_after}
use Rattle.resin_form.proofs.Cases.{chosen, then_got, then_stop, if_true, if_false, after_got, after_stop}
use Rattle.resin_form.proofs.Shrinks.{end_length, Shrinks, after_shrinks}

-- `Spelling`: ts begin with something that gives v, and go on with rest
abbrev pub Spelling : Type 0 → Type 0 → Type 1
Spelling Token A = List Token → A → List Token → Type 0

pub record Exact {Token A : Type 0} (p : Reader Token A) (S : Spelling Token A) (B : List Token → Type 0) : Type 0 where
  pub got : (ts : List Token) (v : A) (rest : List Token) → p ts ≡ Got v rest → S ts v rest
  pub spelled : (ts : List Token) (v : A) (rest : List Token) → S ts v rest → p ts ≡ Got v rest
  pub stopped : (w : List Token) → p w ≡ Stop [] → B w
  pub begun : (w : List Token) → B w → p w ≡ Stop []

left_of : {Token A : Type 0} {o : Outcome Token A} {v : A} {rest : List Token} → o ≡ Got v rest → left o ≡ rest
left_of e = ap left e

abbrev GotOf : {Token A : Type 0} → (A → List Token → Type 0) → Outcome Token A → Type 0
GotOf S (Got v rest) = S v rest
GotOf S (Stop rest) = Unit {0}
GotOf S (Deep rest) = Unit {0}

module _ {Token A : Type 0} (test : A → Token → Bool) (step : A → Token → Reader Token A) (each : (b : A) (t : Token) → Shrinks (step b t)) (S : A → Token → Spelling Token A) (B : A → Token → List Token → Type 0) (exact : (b : A) (t : Token) → Exact (step b t) (S b t) (B b t)) where
  shorter : (a b : A) (t : Token) (ts mid : List Token) (n : ℕ) → step a t ts ≡ Got b mid → length ts ≤ n → length mid ≤ n
  shorter a b t ts mid n e h = let k : length (left (step a t ts)) ≤ length ts = end_length (each a t ts) in let l : length (left (step a t ts)) ≡ length mid = ap length (left_of e) in omega arith

  pub loop_got : (n : ℕ) (a : A) (ts : List Token) (v : A) (rest : List Token) → length ts ≤ n → loop test step n a ts ≡ Got v rest → Many test S a ts v rest
  loop_got zero a [] v rest h e = subst (GotOf (λ v rest. Many test S a [] v rest)) e (done tt)
  loop_got zero a (t ∷ ts) v rest h e = absurd (omega arith)
  loop_got (suc n) a [] v rest h e = subst (GotOf (λ v rest. Many test S a [] v rest)) e (done tt)
  loop_got (suc n) a (t ∷ ts) v rest h e = elim (chosen (test a t) (and_then (step a t ts) (loop test step n)) (Got a (t ∷ ts)) e) [
    | inl p ↦ (let q = then_got (step a t ts) (loop test step n) p.1 in
        more p.0 ((exact a t).got ts q.0 q.1 q.2) (loop_got n q.0 q.1 v rest (shorter a q.0 t ts q.1 n q.2 (omega arith)) q.3))
    | inr p ↦ subst (GotOf (λ v rest. Many test S a (t ∷ ts) v rest)) p.1 (done p.0)
  ]

  loop_ends : (n : ℕ) (a : A) (ts : List Token) → EndsBefore (test a) ts → loop test step n a ts ≡ Got a ts
  loop_ends zero a ts h = refl
  loop_ends (suc n) a [] h = refl
  loop_ends (suc n) a (t ∷ ts) h = if_false (and_then (step a t ts) (loop test step n)) (Got a (t ∷ ts)) h

  loop_turns : (n : ℕ) (a b : A) (t : Token) (ts mid : List Token) → test a t ≡ true → step a t ts ≡ Got b mid → loop test step (suc n) a (t ∷ ts) ≡ loop test step n b mid
  loop_turns n a b t ts mid h e = if_true (and_then (step a t ts) (loop test step n)) (Got a (t ∷ ts)) h ∙ after_got (loop test step n) e

  pub loop_spelled : (n : ℕ) (a : A) (ts : List Token) (v : A) (rest : List Token) → length ts ≤ n → Many test S a ts v rest → loop test step n a ts ≡ Got v rest
  loop_spelled n a ts v rest h (done ends) = loop_ends n a ts ends
  loop_spelled zero a ts v rest h (more passes first others) = absurd (omega arith)
  loop_spelled (suc n) a ts v rest h (more {b = b} {t = t} {ts = us} {mid = mid} passes first others) =
      let e : step a t us ≡ Got b mid = (exact a t).spelled us b mid first in
      loop_turns n a b t us mid passes e ∙ loop_spelled n b mid v rest (shorter a b t us mid n e (omega arith)) others

  pub loop_stopped : (n : ℕ) (a : A) (w : List Token) → length w ≤ n → loop test step n a w ≡ Stop [] → ManyBegins test S B a w
  loop_stopped zero a w h e = cc
  loop_stopped (suc n) a [] h e = cc
  loop_stopped (suc n) a (t ∷ w) h e = elim (chosen (test a t) (and_then (step a t w) (loop test step n)) (Got a (t ∷ w)) e) [
    | inl p ↦ elim (then_stop (step a t w) (loop test step n) p.1) [
      | inl q ↦ inside p.0 ((exact a t).stopped w q)
      | inr q ↦ after p.0 ((exact a t).got w q.0 q.1 q.2) (loop_stopped n q.0 q.1 (shorter a q.0 t w q.1 n q.2 (omega arith)) q.3)
    ]
    | inr p ↦ cc
  ]

  pub loop_begun : (n : ℕ) (a : A) (w : List Token) → length w ≤ n → ManyBegins test S B a w → loop test step n a w ≡ Stop []
  loop_begun zero a w h (inside passes first) = absurd (omega arith)
  loop_begun zero a w h (after passes first others) = absurd (omega arith)
  loop_begun (suc n) a w h (inside {t = t} {w = us} passes first) =
      if_true (and_then (step a t us) (loop test step n)) (Got a (t ∷ us)) passes ∙ after_stop (loop test step n) ((exact a t).begun us first)
  loop_begun (suc n) a w h (after {b = b} {t = t} {w = us} {mid = mid} passes first others) =
      let e : step a t us ≡ Got b mid = (exact a t).spelled us b mid first in
      loop_turns n a b t us mid passes e ∙ loop_begun n b mid (shorter a b t us mid n e (omega arith)) others

-- two steps, one after the other
module _ {Token A B : Type 0} (p : Reader Token B) (q : B → Reader Token A) (S : Spelling Token B) (SB : List Token → Type 0) (T : B → Spelling Token A) (TB : B → List Token → Type 0) (first : Exact p S SB) (second : (b : B) → Exact (q b) (T b) (TB b)) where
  abbrev ThenBegins : List Token → Type 0
  ThenBegins w = SB w ⊎ ((b : B) × (mid : List Token) × S w b mid × TB b mid)

  then_stopped : (w : List Token) → (p w ≡ Stop []) ⊎ ((b : B) × (mid : List Token) × (p w ≡ Got b mid) × (q b mid ≡ Stop [])) → ThenBegins w
  then_stopped w (inl e) = inl (first.stopped w e)
  then_stopped w (inr r) = inr (r.0, r.1, first.got w r.0 r.1 r.2, (second r.0).stopped r.1 r.3)

  then_begun : (w : List Token) → ThenBegins w → and_then (p w) q ≡ Stop []
  then_begun w (inl b) = after_stop q (first.begun w b)
  then_begun w (inr r) = after_got q (first.spelled w r.0 r.1 r.2) ∙ (second r.0).begun r.1 r.3

  pub then_exact : Exact (λ ts. and_then (p ts) q) (λ ts v rest. (b : B) × (mid : List Token) × S ts b mid × T b mid v rest) ThenBegins
  then_exact = record {
    got = λ ts v rest e. let r = then_got (p ts) q e in (r.0, r.1, first.got ts r.0 r.1 r.2, (second r.0).got r.1 v rest r.3);
    spelled = λ ts v rest s. after_got q (first.spelled ts s.0 s.1 s.2) ∙ (second s.0).spelled s.1 v rest s.3;
    stopped = λ w e. then_stopped w (then_stop (p w) q e);
    begun = then_begun;
  }

module _ {Token Name : Type 0} {Value : Name → Type 0} (allows : Weight → ℕ → Bool) (calls : (n : Name) → Reader Token (Value n)) (calls_shrink : (n : Name) → Shrinks (calls n)) (N : (n : Name) → Spelling Token (Value n)) (NB : Name → List Token → Type 0) (calls_exact : (n : Name) → Exact (calls n) (N n) (NB n)) where
  abbrev AfterExact : {b : Begin} {A : Type 0} → After Token Name Value b A → Type 0
  AfterExact F = Exact (read_after allows calls F) (SpellsAfter allows N F) (BeginsAfter allows N NB F)

  abbrev FormExact : {A : Type 0} → Form Token Name Value A → Type 0
  FormExact F = Exact (read allows calls F) (Spells allows N F) (Begins allows N NB F)

  steps_shrink : {begin : Begin} {A : Type 0} (F : A → Token → After Token Name Value begin A) (b : A) (t : Token) → Shrinks (read_after allows calls (F b t))
  steps_shrink F b t = after_shrinks allows calls calls_shrink (F b t)

  give_exact : {A : Type 0} (a : A) → FormExact (give a)
  give_exact a = record {
    got = λ ts v rest e. (let h : v ≡ a = cc in h, let h : rest ≡ ts = cc in h);
    spelled = λ ts v rest s. cc;
    stopped = λ w e. cc;
    begun = λ w b. absurd b;
  }

  module _ {begin : Begin} {A : Type 0} (test : Token → Bool) (F : Token → After Token Name Value begin A) (each : (t : Token) → AfterExact (F t)) where
    next_got : (ts : List Token) (v : A) (rest : List Token) → read allows calls (next test F) ts ≡ Got v rest → Spells allows N (next test F) ts v rest
    next_got [] v rest e = cc
    next_got (t ∷ ts) v rest e = elim (chosen (test t) (read_after allows calls (F t) ts) (Stop (t ∷ ts)) e) [ inl p ↦ (p.0, (each t).got ts v rest p.1) | inr p ↦ cc ]

    next_spelled : (ts : List Token) (v : A) (rest : List Token) → Spells allows N (next test F) ts v rest → read allows calls (next test F) ts ≡ Got v rest
    next_spelled [] v rest s = absurd s
    next_spelled (t ∷ ts) v rest s = if_true (read_after allows calls (F t) ts) (Stop (t ∷ ts)) s.0 ∙ (each t).spelled ts v rest s.1

    next_stopped : (w : List Token) → read allows calls (next test F) w ≡ Stop [] → Begins allows N NB (next test F) w
    next_stopped [] e = tt
    next_stopped (t ∷ w) e = elim (chosen (test t) (read_after allows calls (F t) w) (Stop (t ∷ w)) e) [ inl p ↦ (p.0, (each t).stopped w p.1) | inr p ↦ cc ]

    next_begun : (w : List Token) → Begins allows N NB (next test F) w → read allows calls (next test F) w ≡ Stop []
    next_begun [] b = refl
    next_begun (t ∷ w) b = if_true (read_after allows calls (F t) w) (Stop (t ∷ w)) b.0 ∙ (each t).begun w b.1

    next_exact : FormExact (next test F)
    next_exact = record { got = next_got; spelled = next_spelled; stopped = next_stopped; begun = next_begun }

    module _ (a : A) where
      maybe_got : (ts : List Token) (v : A) (rest : List Token) → read allows calls (maybe test F a) ts ≡ Got v rest → Spells allows N (maybe test F a) ts v rest
      maybe_got [] v rest e = (let h : v ≡ a = cc in h, let h : rest ≡ [] = cc in h)
      maybe_got (t ∷ ts) v rest e = elim (chosen (test t) (read_after allows calls (F t) ts) (Got a (t ∷ ts)) e) [ inl p ↦ inl (p.0, (each t).got ts v rest p.1) | inr p ↦ inr (p.0, let h : v ≡ a = cc in h, let h : rest ≡ t ∷ ts = cc in h) ]

      maybe_spelled : (ts : List Token) (v : A) (rest : List Token) → Spells allows N (maybe test F a) ts v rest → read allows calls (maybe test F a) ts ≡ Got v rest
      maybe_spelled [] v rest s = cc
      maybe_spelled (t ∷ ts) v rest (inl s) = if_true (read_after allows calls (F t) ts) (Got a (t ∷ ts)) s.0 ∙ (each t).spelled ts v rest s.1
      maybe_spelled (t ∷ ts) v rest (inr s) = if_false (read_after allows calls (F t) ts) (Got a (t ∷ ts)) s.0 ∙ cc

      maybe_stopped : (w : List Token) → read allows calls (maybe test F a) w ≡ Stop [] → Begins allows N NB (maybe test F a) w
      maybe_stopped [] e = cc
      maybe_stopped (t ∷ w) e = elim (chosen (test t) (read_after allows calls (F t) w) (Got a (t ∷ w)) e) [ inl p ↦ (p.0, (each t).stopped w p.1) | inr p ↦ cc ]

      maybe_begun : (w : List Token) → Begins allows N NB (maybe test F a) w → read allows calls (maybe test F a) w ≡ Stop []
      maybe_begun [] b = absurd b
      maybe_begun (t ∷ w) b = if_true (read_after allows calls (F t) w) (Got a (t ∷ w)) b.0 ∙ (each t).begun w b.1

      maybe_exact : FormExact (maybe test F a)
      maybe_exact = record { got = maybe_got; spelled = maybe_spelled; stopped = maybe_stopped; begun = maybe_begun }

  many_exact : {begin : Begin} {A : Type 0} (test : A → Token → Bool) (F : A → Token → After Token Name Value begin A) (a : A) → ((b : A) (t : Token) → AfterExact (F b t)) → FormExact (many test F a)
  many_exact test F a each = record {
    got = λ ts v rest e. loop_got test (λ b t. read_after allows calls (F b t)) (steps_shrink F) (λ b t. SpellsAfter allows N (F b t)) (λ b t. BeginsAfter allows N NB (F b t)) each (length ts) a ts v rest (omega arith) e;
    spelled = λ ts v rest s. loop_spelled test (λ b t. read_after allows calls (F b t)) (steps_shrink F) (λ b t. SpellsAfter allows N (F b t)) (λ b t. BeginsAfter allows N NB (F b t)) each (length ts) a ts v rest (omega arith) s;
    stopped = λ w e. loop_stopped test (λ b t. read_after allows calls (F b t)) (steps_shrink F) (λ b t. SpellsAfter allows N (F b t)) (λ b t. BeginsAfter allows N NB (F b t)) each (length w) a w (omega arith) e;
    begun = λ w b. loop_begun test (λ b t. read_after allows calls (F b t)) (steps_shrink F) (λ b t. SpellsAfter allows N (F b t)) (λ b t. BeginsAfter allows N NB (F b t)) each (length w) a w (omega arith) b;
  }

  module _ (b : Begin) {A : Type 0} (F : After Token Name Value b A) (whole : AfterExact F) where
    limited_exact : (k : Weight) (n : ℕ) → AfterExact (limited k n F)
    limited_exact k n = record {
      got = λ ts v rest e. elim (chosen (allows k n) (read_after allows calls F ts) (Deep ts) e) [ inl p ↦ (p.0, whole.got ts v rest p.1) | inr p ↦ cc ];
      spelled = λ ts v rest s. if_true (read_after allows calls F ts) (Deep ts) s.0 ∙ whole.spelled ts v rest s.1;
      stopped = λ w e. elim (chosen (allows k n) (read_after allows calls F w) (Deep w) e) [ inl p ↦ (p.0, whole.stopped w p.1) | inr p ↦ cc ];
      begun = λ w s. if_true (read_after allows calls F w) (Deep w) s.0 ∙ whole.begun w s.1;
    }

  mutual
    pub exact : {A : Type 0} (F : Form Token Name Value A) → Exact (read allows calls F) (Spells allows N F) (Begins allows N NB F)
    exact (give a) = give_exact a
    exact (andthen F G) = then_exact (read allows calls F) (λ b. read allows calls (G b)) (Spells allows N F) (Begins allows N NB F) (λ b. Spells allows N (G b)) (λ b. Begins allows N NB (G b)) (exact F) (λ b. exact (G b))
    exact (next test F) = next_exact test F (λ t. exact_after (F t))
    exact (maybe test F a) = maybe_exact test F (λ t. exact_after (F t)) a
    exact (many test F a) = many_exact test F a (λ b t. exact_after (F b t))

    pub exact_after : {b : Begin} {A : Type 0} (F : After Token Name Value b A) → Exact (read_after allows calls F) (SpellsAfter allows N F) (BeginsAfter allows N NB F)
    exact_after (plain F) = exact F
    exact_after (limited {b = b} k n F) = limited_exact b F (exact_after F) k n
    exact_after (followed F G) = then_exact (read_after allows calls F) (λ b. read allows calls (G b)) (SpellsAfter allows N F) (BeginsAfter allows N NB F) (λ b. Spells allows N (G b)) (λ b. Begins allows N NB (G b)) (exact_after F) (λ b. exact (G b))
    exact_after (call n) = calls_exact n
