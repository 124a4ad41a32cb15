-- One turn of a loop that reads a repeated form, and the loop's exits.
use Rattle.std.proofs.Common.{◌≡◌, ℕ, suc, ◌≤◌, Bool, true, false, List, [], ◌∷◌, length, Option, Some, Err, refl, sym, ◌∙◌, ap, arith}
use Rattle.resin_form.specs.Form.{Begin, Own, Form, After, many}
use Rattle.resin_form.specs.Reading.{Outcome, Got, Reader, read, read_after}
use Rattle.resin_form.specs.Meaning.{reading, allows_at}
use Rattle.resin_form.specs.Reads.{Reads, first}
use Rattle.resin_form.specs.declared.fault.Fault.{Fault}
use Rattle.resin_form.specs.declared.fault.Fault.TheVariants.{Syntax, TooDeep, Memory}
use Rattle.resin_form.proofs.Loops.{many_turns, many_stops, many_deepens, many_ends, got_shorter}

module _ {Token Name : Type 0} {Value : Name → Type 0} (rules : (n : Name) → After Token Name Value Own (Value n)) (allows : ℕ → Bool) (depth : ℕ) where
  abbrev under : {A : Type 0} → Form Token Name Value A → Reader Token A
  under F = read (allows_at allows depth) (reading rules allows depth) F

  abbrev behind : {b : Begin} {A : Type 0} → After Token Name Value b A → Reader Token A
  behind F = read_after (allows_at allows depth) (reading rules allows depth) F

  pub smaller : {begin : Begin} {A : Type 0} (F : After Token Name Value begin A) (old : List Token) (t : Token) (ts : List Token) (v : A) (mid : List Token) → old ≡ t ∷ ts → behind F ts ≡ Got v mid → suc (length mid) ≤ length old
  smaller F old t ts v mid e g = let k : length mid ≤ length ts = got_shorter rules allows depth F ts v mid g in let l = ap length e in omega arith

  module _ {begin : Begin} {A : Type 0} (test : A → Token → Bool) (F : A → Token → After Token Name Value begin A) where
    ends_at : (a : A) (old : List Token) (next : Option Token) → first old ≡ next → ((t : Token) → next ≡ Some t → test a t ≡ false) → under (many test F a) old ≡ Got a old
    ends_at a [] next e h = refl
    ends_at a (t ∷ ts) next e h = many_ends rules allows depth test F a t ts (h t (sym e))

    -- `outcome`: what the whole loop comes to
    module _ (outcome : Outcome Token A) (a : A) (old : List Token) (so_far : under (many test F a) old ≡ outcome) where
      pub goes_on : (t : Token) (ts mid : List Token) (b : A) → old ≡ t ∷ ts → test a t ≡ true → behind (F a t) ts ≡ Got b mid → under (many test F b) mid ≡ outcome
      goes_on t ts mid b e h g = sym (ap (under (many test F a)) e ∙ many_turns rules allows depth test F a b t ts mid h g) ∙ so_far

      pub fails : (t : Token) (ts new : List Token) (fault : Fault) → old ≡ t ∷ ts → test a t ≡ true → Reads (behind (F a t) ts) (Err fault) new → Reads outcome (Err fault) new
      fails t ts new Syntax e h g = sym so_far ∙ ap (under (many test F a)) e ∙ many_stops rules allows depth test F a t ts new h g
      fails t ts new TooDeep e h g = sym so_far ∙ ap (under (many test F a)) e ∙ many_deepens rules allows depth test F a t ts new h g
      fails t ts new Memory e h g = tt

      pub ends : (next : Option Token) → first old ≡ next → ((t : Token) → next ≡ Some t → test a t ≡ false) → outcome ≡ Got a old
      ends next e h = sym so_far ∙ ends_at a old next e h
