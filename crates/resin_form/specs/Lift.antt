-- The forms of one grammar as forms of a larger one, whose names include its names: what a grammar of programs takes
-- from the grammar of expressions.
use Rattle.resin_form.specs.Form.{Begin, Form, give, andthen, next, maybe, many, After, plain, limited, followed, call}

-- `among`: the names of the smaller grammar among those of the larger one
module _ {Token Few Many : Type 0} {Value : Many → Type 0} (among : Few → Many) where
  abbrev mutual
    pub lift : {A : Type 0} → Form Token Few (λ n. Value (among n)) A → Form Token Many Value A
    lift (give a) = give a
    lift (andthen F G) = andthen (lift F) (λ b. lift (G b))
    lift (next test F) = next test (λ t. lift_after (F t))
    lift (maybe test F a) = maybe test (λ t. lift_after (F t)) a
    lift (many test F a) = many test (λ b t. lift_after (F b t)) a

    pub lift_after : {b : Begin} {A : Type 0} → After Token Few (λ n. Value (among n)) b A → After Token Many Value b A
    lift_after (plain F) = plain (lift F)
    lift_after (limited weight height F) = limited weight height (lift_after F)
    lift_after (followed F G) = followed (lift_after F) (λ b. lift (G b))
    lift_after (call n) = call (among n)
