-- Lifted forms read as the forms do.
use Rattle.std.proofs.Common.{◌≡◌, ℕ, zero, suc, Bool, true, false, List, [], ◌∷◌, length, refl, ◌∙◌, ap}
use Rattle.std.specs.Prelude.{if◌then◌else◌}
use Rattle.resin_form.specs.Form.{Begin, Own, Form, give, andthen, next, maybe, many, Weight, After, plain, limited, followed, call}
use Rattle.resin_form.specs.Reading.{Outcome, Got, Stop, Deep, Reader, and_then, loop, read, read_after}
use Rattle.resin_form.specs.Meaning.{allows_at, reading}
use Rattle.resin_form.specs.Lift.{lift, lift_after}

then_alike : {Token A B : Type 0} (o p : Outcome Token B) (f g : B → Reader Token A) → o ≡ p → ((b : B) (ts : List Token) → f b ts ≡ g b ts) → and_then o f ≡ and_then p g
then_alike (Got b mid) p f g e h = h b mid ∙ ap (λ o. and_then o g) e
then_alike (Stop rest) p f g e h = ap (λ o. and_then o g) e
then_alike (Deep rest) p f g e h = ap (λ o. and_then o g) e

if_alike : {A : Type 0} (b : Bool) (x y z : A) → x ≡ y → (if b then x else z) ≡ (if b then y else z)
if_alike true x y z e = e
if_alike false x y z e = refl

module _ {Token A : Type 0} (test : A → Token → Bool) (step step' : A → Token → Reader Token A) (each : (a : A) (t : Token) (ts : List Token) → step a t ts ≡ step' a t ts) where
  loop_alike : (n : ℕ) (a : A) (ts : List Token) → loop test step n a ts ≡ loop test step' n a ts
  loop_alike zero a ts = refl
  loop_alike (suc n) a [] = refl
  loop_alike (suc n) a (t ∷ ts) = if_alike (test a t) (and_then (step a t ts) (loop test step n)) (and_then (step' a t ts) (loop test step' n)) (Got a (t ∷ ts))
      (then_alike (step a t ts) (step' a t ts) (loop test step n) (loop test step' n) (each a t ts) (loop_alike n))

module _ {Token Few Many : Type 0} {Value : Many → Type 0} (among : Few → Many) (allows : Weight → ℕ → Bool) (calls : (m : Many) → Reader Token (Value m)) (few : (n : Few) → Reader Token (Value (among n))) (same : (n : Few) (ts : List Token) → calls (among n) ts ≡ few n ts) where
  mutual
    pub read_alike : {A : Type 0} (F : Form Token Few (λ n. Value (among n)) A) (ts : List Token) → read allows calls (lift among F) ts ≡ read allows few F ts
    read_alike (give a) ts = refl
    read_alike (andthen F G) ts = then_alike (read allows calls (lift among F) ts) (read allows few F ts) (λ b rest. read allows calls (lift among (G b)) rest) (λ b rest. read allows few (G b) rest) (read_alike F ts) (λ b rest. read_alike (G b) rest)
    read_alike (next test F) [] = refl
    read_alike (next test F) (t ∷ ts) = if_alike (test t) (read_after allows calls (lift_after among (F t)) ts) (read_after allows few (F t) ts) (Stop (t ∷ ts)) (after_alike (F t) ts)
    read_alike (maybe test F a) [] = refl
    read_alike (maybe test F a) (t ∷ ts) = if_alike (test t) (read_after allows calls (lift_after among (F t)) ts) (read_after allows few (F t) ts) (Got a (t ∷ ts)) (after_alike (F t) ts)
    read_alike (many test F a) ts = loop_alike test (λ b t. read_after allows calls (lift_after among (F b t))) (λ b t. read_after allows few (F b t)) (λ b t us. after_alike (F b t) us) (length ts) a ts

    pub after_alike : {b : Begin} {A : Type 0} (F : After Token Few (λ n. Value (among n)) b A) (ts : List Token) → read_after allows calls (lift_after among F) ts ≡ read_after allows few F ts
    after_alike (plain F) ts = read_alike F ts
    after_alike (limited weight height F) ts = if_alike (allows weight height) (read_after allows calls (lift_after among F) ts) (read_after allows few F ts) (Deep ts) (after_alike F ts)
    after_alike (followed F G) ts = then_alike (read_after allows calls (lift_after among F) ts) (read_after allows few F ts) (λ b rest. read allows calls (lift among (G b)) rest) (λ b rest. read allows few (G b) rest) (after_alike F ts) (λ b rest. read_alike (G b) rest)
    after_alike (call n) ts = same n ts

-- `all_lift`: the larger grammar has the rules of the smaller one for its names
module _ {Token Few Many : Type 0} {Value : Many → Type 0} (among : Few → Many) (rules : (n : Few) → After Token Few (λ n. Value (among n)) Own (Value (among n))) (more : (m : Many) → After Token Many Value Own (Value m)) (all_lift : (n : Few) → more (among n) ≡ lift_after among (rules n)) (allows : ℕ → Bool) where
  pub reading_alike : (depth : ℕ) (n : Few) (ts : List Token) → reading more allows depth (among n) ts ≡ reading rules allows depth n ts
  unfolding reading
  reading_alike zero n ts = refl
  reading_alike (suc depth) n ts =
      ap (λ F. read_after (allows_at allows depth) (reading more allows depth) F ts) (all_lift n)
      ∙ after_alike among (allows_at allows depth) (reading more allows depth) (reading rules allows depth) (reading_alike depth) (rules n) ts

  -- a lifted form reads as the form does
  pub lifted : {A : Type 0} (depth : ℕ) (F : Form Token Few (λ n. Value (among n)) A) (ts : List Token)
      → read (allows_at allows depth) (reading more allows depth) (lift among F) ts ≡ read (allows_at allows depth) (reading rules allows depth) F ts
  lifted depth F ts = read_alike among (allows_at allows depth) (reading more allows depth) (reading rules allows depth) (reading_alike depth) F ts
