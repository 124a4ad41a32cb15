-- Reading a form from a token on is what the form does with its first token.
use Rattle.std.proofs.Common.{◌≡◌, ℕ, suc, Bool, true, false, List, [], ◌∷◌, length, Option, Some, refl, sym, ◌∙◌, ap, subst}
use Rattle.std.specs.Prelude.{if◌then◌else◌}
use Rattle.resin_form.specs.Form.{Begin, Own, Named, Form, give, andthen, next, maybe, many, Weight, After, plain, limited, followed, call}
use Rattle.resin_form.specs.Reading.{Outcome, Got, Stop, Deep, Reader, and_then, loop, read, read_after}
use Rattle.resin_form.specs.Meaning.{allows_at, reading}
use Rattle.resin_form.specs.Reads.{first}
use Rattle.resin_form.proofs.Cases.{if_true, if_false}
use Rattle.resin_form.proofs.Loops.{many_turns, many_stops, many_deepens, many_ends}
use Rattle.resin_program_grammar.specs.Start.{Start, Takes, Passes, Refuses, named, then_start, takes_if, start, is_taken, begins, goes_on, behind_first, optional}

module _ {Token Name : Type 0} {Value : Name → Type 0} (rules : (n : Name) → After Token Name Value Own (Value n)) (allows : ℕ → Bool) (depth : ℕ) where
  abbrev under : {A : Type 0} → Form Token Name Value A → Reader Token A
  under F = read (allows_at allows depth) (reading rules allows depth) F

  abbrev behind : {b : Begin} {A : Type 0} → After Token Name Value b A → Reader Token A
  behind F = read_after (allows_at allows depth) (reading rules allows depth) F

  -- what reading comes to by what a form does with the first token
  abbrev pub by_start : {A : Type 0} → Start Token Name Value A → Token → List Token → Outcome Token A
  by_start (Takes F) t ts = behind F ts
  by_start (Passes a) t ts = Got a (t ∷ ts)
  by_start Refuses t ts = Stop (t ∷ ts)

  pub named_same : {b : Begin} {A : Type 0} (F : After Token Name Value b A) (ts : List Token) → behind (named F) ts ≡ behind F ts
  named_same (plain F) ts = refl
  named_same (limited weight height F) ts = ap (λ o. if allows_at allows depth weight height then o else Deep ts) (named_same F ts)
  named_same (followed F G) ts = ap (λ o. and_then o (λ b rest. under (G b) rest)) (named_same F ts)
  named_same (call n) ts = refl

  then_by : {A B : Type 0} (s : Start Token Name Value B) (k : B → Start Token Name Value A) (G : B → Form Token Name Value A) (t : Token) (ts : List Token) → ((b : B) → under (G b) (t ∷ ts) ≡ by_start (k b) t ts) → and_then (by_start s t ts) (λ b rest. under (G b) rest) ≡ by_start (then_start s k G) t ts
  then_by (Takes F) k G t ts h = refl
  then_by (Passes b) k G t ts h = h b
  then_by Refuses k G t ts h = refl

  takes_by : {A : Type 0} (b : Bool) (F : After Token Name Value Named A) (other : Start Token Name Value A) (o : Outcome Token A) (t : Token) (ts : List Token) → (b ≡ true → o ≡ behind F ts) → (if b then o else by_start other t ts) ≡ by_start (takes_if b F other) t ts
  takes_by true F other o t ts h = h refl
  takes_by false F other o t ts h = refl

  -- a repetition from its first step on
  many_by : {begin : Begin} {A : Type 0} (test : A → Token → Bool) (F : A → Token → After Token Name Value begin A) (a : A) (t : Token) (ts : List Token) (o : Outcome Token A) → behind (F a t) ts ≡ o → test a t ≡ true → under (many test F a) (t ∷ ts) ≡ and_then o (λ b rest. under (many test F b) rest)
  many_by test F a t ts (Got b mid) e h = many_turns rules allows depth test F a b t ts mid h e
  many_by test F a t ts (Stop rest) e h = many_stops rules allows depth test F a t ts rest h e
  many_by test F a t ts (Deep rest) e h = many_deepens rules allows depth test F a t ts rest h e

  many_start : {begin : Begin} {A : Type 0} (test : A → Token → Bool) (F : A → Token → After Token Name Value begin A) (a : A) (t : Token) (ts : List Token) (b : Bool) → test a t ≡ b → under (many test F a) (t ∷ ts) ≡ by_start (takes_if b (followed (named (F a t)) (many test F)) (Passes a)) t ts
  many_start test F a t ts true h = many_by test F a t ts (behind (F a t) ts) refl h ∙ ap (λ o. and_then o (λ b rest. under (many test F b) rest)) (sym (named_same (F a t) ts))
  many_start test F a t ts false h = many_ends rules allows depth test F a t ts h

  pub starts : {A : Type 0} (F : Form Token Name Value A) (t : Token) (ts : List Token) → under F (t ∷ ts) ≡ by_start (start F t) t ts
  starts (give a) t ts = refl
  starts (andthen F G) t ts = ap (λ o. and_then o (λ b rest. under (G b) rest)) (starts F t ts) ∙ then_by (start F t) (λ b. start (G b) t) G t ts (λ b. starts (G b) t ts)
  starts (next test F) t ts = takes_by (test t) (named (F t)) Refuses (behind (F t) ts) t ts (λ _. sym (named_same (F t) ts))
  starts (maybe test F a) t ts = takes_by (test t) (named (F t)) (Passes a) (behind (F t) ts) t ts (λ _. sym (named_same (F t) ts))
  starts (many test F a) t ts = many_start test F a t ts (test a t) refl

  goes_by : {A B : Type 0} (s : Start Token Name Value A) (G : A → Form Token Name Value B) (other : B) (t : Token) (ts : List Token) → is_taken s ≡ true → behind (goes_on s G other) ts ≡ and_then (by_start s t ts) (λ a rest. under (G a) rest)
  goes_by (Takes F) G other t ts h = refl
  goes_by (Passes a) G other t ts h = (let k : false ≡ true = h in cc)
  goes_by Refuses G other t ts h = (let k : false ≡ true = h in cc)

  -- a form and then another, behind the first token, are the two from this token on
  pub behind_first_reads : {A B : Type 0} (F : Form Token Name Value A) (G : A → Form Token Name Value B) (other : B) (t : Token) (ts : List Token) → begins F t ≡ true → behind (behind_first F G other t) ts ≡ and_then (under F (t ∷ ts)) (λ a rest. under (G a) rest)
  unfolding begins behind_first
  behind_first_reads F G other t ts h = goes_by (start F t) G other t ts h ∙ sym (ap (λ o. and_then o (λ a rest. under (G a) rest)) (starts F t ts))

  -- an optional form where the next token begins it
  pub optional_reads : {A B : Type 0} (F : Form Token Name Value A) (G : A → Form Token Name Value B) (other : B) (t : Token) (ts : List Token) → begins F t ≡ true → under (optional F G other) (t ∷ ts) ≡ and_then (under F (t ∷ ts)) (λ a rest. under (G a) rest)
  optional_reads F G other t ts h = if_true (behind (behind_first F G other t) ts) (Got other (t ∷ ts)) h ∙ behind_first_reads F G other t ts h

  pub optional_passes : {A B : Type 0} (F : Form Token Name Value A) (G : A → Form Token Name Value B) (other : B) (t : Token) (ts : List Token) → begins F t ≡ false → under (optional F G other) (t ∷ ts) ≡ Got other (t ∷ ts)
  optional_passes F G other t ts h = if_false (behind (behind_first F G other t) ts) (Got other (t ∷ ts)) h

  -- the same from any list whose first token is this
  pub optional_takes : {A B : Type 0} (F : Form Token Name Value A) (G : A → Form Token Name Value B) (other : B) (t : Token) (old : List Token) → first old ≡ Some t → begins F t ≡ true → under (andthen F G) old ≡ under (optional F G other) old
  optional_takes F G other t [] e h = cc
  optional_takes F G other t (x ∷ ts) e h = (let same : t ≡ x = cc in sym (optional_reads F G other x ts (subst (λ y. begins F y ≡ true) same h)))

  pub optional_ends : {A B : Type 0} (F : Form Token Name Value A) (G : A → Form Token Name Value B) (other : B) (o : Option Token) (old : List Token) → first old ≡ o → ((t : Token) → o ≡ Some t → begins F t ≡ false) → under (optional F G other) old ≡ Got other old
  optional_ends F G other o [] e h = refl
  optional_ends F G other o (x ∷ ts) e h = optional_passes F G other x ts (h x (sym e))

  -- a form from its first token on
  pub next_takes : {A B : Type 0} (F : Form Token Name Value A) (G : Token → A → Form Token Name Value B) (other : Token → B) (t : Token) (old : List Token) → first old ≡ Some t → begins F t ≡ true → under (andthen F (G t)) old ≡ under (next (begins F) (λ x. behind_first F (G x) (other x) x)) old
  next_takes F G other t [] e h = cc
  next_takes F G other t (x ∷ ts) e h =
      let same : x ≡ t = cc in
      let b : begins F x ≡ true = subst (λ y. begins F y ≡ true) (sym same) h in
      ap (λ y. under (andthen F (G y)) (x ∷ ts)) (sym same)
      ∙ sym (behind_first_reads F (G x) (other x) x ts b)
      ∙ sym (if_true (behind (behind_first F (G x) (other x) x) ts) (Stop (x ∷ ts)) b)

  pub next_ends : {begin : Begin} {A : Type 0} (p : Token → Bool) (F : Token → After Token Name Value begin A) (o : Option Token) (old : List Token) → first old ≡ o → ((t : Token) → o ≡ Some t → p t ≡ false) → under (next p F) old ≡ Stop old
  next_ends p F o [] e h = refl
  next_ends p F o (x ∷ ts) e h = if_false (behind (F x) ts) (Stop (x ∷ ts)) (h x (sym e))
