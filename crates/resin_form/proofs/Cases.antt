-- What an outcome of two steps says of each.
use Rattle.std.proofs.Common.{◌≡◌, Bool, true, false, List, ◌⊎◌, inl, inr, refl}
use Rattle.std.specs.Prelude.{if◌then◌else◌}
use Rattle.resin_form.specs.Reading.{Outcome, Got, Stop, Deep, Reader, and_then}

pub chosen : {A : Type 0} (b : Bool) (x y : A) {z : A} → (if b then x else y) ≡ z → ((b ≡ true) × (x ≡ z)) ⊎ ((b ≡ false) × (y ≡ z))
chosen true x y e = inl (refl, e)
chosen false x y e = inr (refl, e)

pub then_got : {Token A B : Type 0} (o : Outcome Token B) (f : B → Reader Token A) {v : A} {rest : List Token} → and_then o f ≡ Got v rest → (b : B) × (mid : List Token) × (o ≡ Got b mid) × (f b mid ≡ Got v rest)
then_got (Got b mid) f e = (b, mid, refl, e)
then_got (Stop r) f e = cc
then_got (Deep r) f e = cc

pub then_stop : {Token A B : Type 0} (o : Outcome Token B) (f : B → Reader Token A) {rest : List Token} → and_then o f ≡ Stop rest → (o ≡ Stop rest) ⊎ ((b : B) × (mid : List Token) × (o ≡ Got b mid) × (f b mid ≡ Stop rest))
then_stop (Got b mid) f e = inr (b, mid, refl, e)
then_stop (Stop r) f e = inl cc
then_stop (Deep r) f e = cc

pub if_true : {A : Type 0} {b : Bool} (x y : A) → b ≡ true → (if b then x else y) ≡ x
if_true {b = b} x y e = rw e refl

pub if_false : {A : Type 0} {b : Bool} (x y : A) → b ≡ false → (if b then x else y) ≡ y
if_false {b = b} x y e = rw e refl

pub after_got : {Token A B : Type 0} {o : Outcome Token B} {b : B} {mid : List Token} (f : B → Reader Token A) → o ≡ Got b mid → and_then o f ≡ f b mid
after_got f e = rw e refl

pub after_stop : {Token A B : Type 0} {o : Outcome Token B} {rest : List Token} (f : B → Reader Token A) → o ≡ Stop rest → and_then o f ≡ Stop rest
after_stop f e = rw e refl
