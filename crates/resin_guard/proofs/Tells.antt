-- Forms that read a text, and the text literals that they read: the bytes between its quotes.
use Rattle.std.proofs.Common.{◌≡◌, ℕ, suc, Bool, true, false, List, [], ◌∷◌, ◌++◌, inl, inr, refl, sym, ap, subst, ◌∙◌}
use Rattle.std.specs.List.{flat_map}
use Rattle.resin_form.specs.Form.{Many, done, more, give, next, maybe, many, taken}
use Rattle.resin_sql_words.specs.declared.cursor.Placed.{Placed}
use Rattle.resin_sql_words.specs.declared.literals.Literal.{Literal}
use Rattle.resin_sql_words.specs.Places.{placed}
use Rattle.resin_sql_words.specs.Forms.{Rule, Behind, ◌>>=◌, either, never, within}
use Rattle.resin_guard.specs.Pages.{Places}
use Rattle.resin_guard.specs.Requoted.{Requoted, stretches, of_text}
use Rattle.resin_guard.specs.Requoted as quo
use Rattle.resin_guard.proofs.Follows.{Spells, SpellsBehind, apart}

-- where the texts among literals stand
abbrev pub texts : List Literal → Places
texts ls = flat_map of_text ls

-- what is left of a text, of which all these places were those of texts before; `now`: the literals that were read
pub record Told (now : List Literal) (rest : List Placed) (all : Places) : Type 0 where
  pub there : ℕ
  pub others : List ℕ
  pub others_too : List ℕ
  pub left : Requoted others others_too
  pub at : rest ≡ placed there others
  pub sum : all ≡ texts now ++ stretches there left

-- A form goes on from these literals to those of its value.
pub record Tells {A : Type 0} (before : List Literal) (L : A → List Literal) (F : Rule A) : Type 0 where
  pub tell : (n : ℕ) (bs cs : List ℕ) (v : A) (rest : List Placed) (r : Requoted bs cs) → Spells F (placed n bs) v rest → Told (L v) rest (texts before ++ stretches n r)

pub record TellsBehind {A : Type 0} (before : List Literal) (L : A → List Literal) (F : Behind A) : Type 0 where
  pub tell : (n : ℕ) (bs cs : List ℕ) (v : A) (rest : List Placed) (r : Requoted bs cs) → SpellsBehind F (placed n bs) v rest → Told (L v) rest (texts before ++ stretches n r)

-- a form without literals
abbrev pub Plain : {A : Type 0} → List Literal → Rule A → Type 0
Plain before F = Tells before (λ _. before) F

pub behind_taken : {A : Type 0} {B : List Literal} {L : A → List Literal} {F : Rule A} → Tells B L F → TellsBehind B L (taken F)
behind_taken f = record { tell = f.tell }

pub gives : {A : Type 0} {B : List Literal} {L : A → List Literal} {a : A} → texts (L a) ≡ texts B → Tells B L (give a)
gives {L = L} e = record { tell = λ n bs cs v rest r s. record { there = n; others = bs; others_too = cs; left = r; at = s.1; sum = ap (λ x. x ++ stretches n r) (sym e ∙ ap (λ x. texts (L x)) (sym s.0)) } }

pub and_then : {A C : Type 0} {B : List Literal} {K : A → List Literal} {L : C → List Literal} {F : Rule A} {G : A → Rule C} → Tells B K F → ((a : A) → Tells (K a) L (G a)) → Tells B L (F >>= G)
and_then {G = G} f g = record {
  tell = λ n bs cs v rest r s.
      let k = f.tell n bs cs s.0 s.1 r s.2 in
      let j = (g s.0).tell k.there k.others k.others_too v rest k.left (subst (λ us. Spells (G s.0) us v rest) k.at s.3) in
      record { there = j.there; others = j.others; others_too = j.others_too; left = j.left; at = j.at; sum = k.sum ∙ j.sum };
}

-- from the same literals
pub from : {A : Type 0} {B C : List Literal} {L : A → List Literal} {F : Rule A} → B ≡ C → Tells B L F → Tells C L F
from {L = L} {F = F} e f = subst (λ x. Tells x L F) e f

module _ {A : Type 0} {B : List Literal} {L : A → List Literal} (test : Placed → Bool) (F : Placed → Rule A) (quoteless : (n : ℕ) → test (record { at = n; byte = 39 }) ≡ false) (each : (n b : ℕ) → Tells B L (F (record { at = n; byte = b }))) where
  next_on : (n : ℕ) (bs cs : List ℕ) (v : A) (rest : List Placed) (r : Requoted bs cs) → Spells (next test (λ t. taken (F t))) (placed n bs) v rest → Told (L v) rest (texts B ++ stretches n r)
  next_on n bs cs v rest quo.done s = absurd s
  next_on n bs cs v rest (quo.same {b = b} {r = r} {s = x} ne q) s = (each n b).tell (suc n) r x v rest q s.1
  next_on n bs cs v rest (quo.other x y e h z q) s = apart s.0 (quoteless n)

  module _ (a : A) (default : texts (L a) ≡ texts B) where
    here : (n : ℕ) (bs cs : List ℕ) (v : A) (rest : List Placed) (r : Requoted bs cs) → v ≡ a → rest ≡ placed n bs → Told (L v) rest (texts B ++ stretches n r)
    here n bs cs v rest r e h = record { there = n; others = bs; others_too = cs; left = r; at = h; sum = ap (λ x. x ++ stretches n r) (sym default ∙ ap (λ x. texts (L x)) (sym e)) }

    maybe_on : (n : ℕ) (bs cs : List ℕ) (v : A) (rest : List Placed) (r : Requoted bs cs) → Spells (maybe test (λ t. taken (F t)) a) (placed n bs) v rest → Told (L v) rest (texts B ++ stretches n r)
    maybe_on n bs cs v rest quo.done s = here n [] [] v rest quo.done s.0 s.1
    maybe_on n bs cs v rest (quo.same {b = c} {r = r} {s = x} ne q) (inl s) = (each n c).tell (suc n) r x v rest q s.1
    maybe_on n bs cs v rest (quo.same {b = c} {r = r} {s = x} ne q) (inr s) = here n (c ∷ r) (c ∷ x) v rest (quo.same ne q) s.1 s.2
    maybe_on n bs cs v rest (quo.other w y e h z q) (inl s) = apart s.0 (quoteless n)
    maybe_on n bs cs v rest (quo.other w y {bs = r} {cs = x} e h z q) (inr s) = here n (39 ∷ r) (39 ∷ x) v rest (quo.other w y e h z q) s.1 s.2

pub nexts : {A : Type 0} {B : List Literal} {L : A → List Literal} {test : Placed → Bool} {F : Placed → Rule A} → ((n : ℕ) → test (record { at = n; byte = 39 }) ≡ false) → ((n b : ℕ) → Tells B L (F (record { at = n; byte = b }))) → Tells B L (next test (λ t. taken (F t)))
nexts {test = test} {F = F} quoteless each = record { tell = next_on test F quoteless each }

pub maybes : {A : Type 0} {B : List Literal} {L : A → List Literal} {test : Placed → Bool} {F : Placed → Rule A} {a : A} → ((n : ℕ) → test (record { at = n; byte = 39 }) ≡ false) → ((n b : ℕ) → Tells B L (F (record { at = n; byte = b }))) → texts (L a) ≡ texts B → Tells B L (maybe test (λ t. taken (F t)) a)
maybes {test = test} {F = F} {a = a} quoteless each e = record { tell = maybe_on test F quoteless each a e }

module _ {A : Type 0} (L : A → List Literal) (test : A → Placed → Bool) (F : A → Placed → Behind A) (quoteless : (a : A) (n : ℕ) → test a (record { at = n; byte = 39 }) ≡ false) (each : (a : A) (n c : ℕ) → TellsBehind (L a) L (F a (record { at = n; byte = c }))) where
  many_on : (a : A) (us : List Placed) (v : A) (rest : List Placed) → Many test (λ a t. SpellsBehind (F a t)) a us v rest → (n : ℕ) (bs cs : List ℕ) → us ≡ placed n bs → (r : Requoted bs cs) → Told (L v) rest (texts (L a) ++ stretches n r)
  many_on a us v rest (done h) n bs cs is r = record { there = n; others = bs; others_too = cs; left = r; at = is; sum = refl }
  many_on a us v rest (more {b = x} {t = t} {ts = ts} {mid = mid} p g o) n bs cs is quo.done = cc
  many_on a us v rest (more {b = x} {t = t} {ts = ts} {mid = mid} p g o) n bs cs is (quo.same {b = c} {r = r} {s = y} ne q) =
      let here : t ≡ record { at = n; byte = c } = cc in
      let left : ts ≡ placed (suc n) r = cc in
      let step = subst (λ u. SpellsBehind (F a u) (placed (suc n) r) x mid) here (subst (λ us. SpellsBehind (F a t) us x mid) left g) in
      let k = (each a n c).tell (suc n) r y x mid q step in
      let j = many_on x mid v rest o k.there k.others k.others_too k.at k.left in
      record { there = j.there; others = j.others; others_too = j.others_too; left = j.left; at = j.at; sum = k.sum ∙ j.sum }
  many_on a us v rest (more {b = x} {t = t} {ts = ts} {mid = mid} p g o) n bs cs is (quo.other w u {bs = r} y h z q) =
      let here : t ≡ record { at = n; byte = 39 } = cc in
      apart (subst (λ u. test a u ≡ true) here p) (quoteless a n)

pub manys : {A : Type 0} {L : A → List Literal} {test : A → Placed → Bool} {F : A → Placed → Behind A} {a : A} → ((a : A) (n : ℕ) → test a (record { at = n; byte = 39 }) ≡ false) → ((a : A) (n c : ℕ) → TellsBehind (L a) L (F a (record { at = n; byte = c }))) → Tells (L a) L (many test F a)
manys {L = L} {test = test} {F = F} {a = a} quoteless each = record { tell = λ n bs cs v rest r s. many_on L test F quoteless each a (placed n bs) v rest s n bs cs refl r }

pub choices : {A : Type 0} {B : List Literal} {L : A → List Literal} {F G : Rule A} (b : Bool) → Tells B L F → Tells B L G → Tells B L (either b F G)
choices true f g = f
choices false f g = g

pub nevers : {A : Type 0} {B : List Literal} {L : A → List Literal} (a : A) → Tells B L (never a)
nevers {A} {B = B} {L = L} a = record { tell = none }
  where
    none : (n : ℕ) (bs cs : List ℕ) (v : A) (rest : List Placed) (r : Requoted bs cs) → Spells (never a) (placed n bs) v rest → Told (L v) rest (texts B ++ stretches n r)
    none n [] cs v rest r s = absurd s
    none n (c ∷ bs) cs v rest r s = apart {b = false} s.0 refl

pub withins : {A : Type 0} {B : List Literal} {L : A → List Literal} {F : Rule A} (b : Bool) → Tells B L F → TellsBehind B L (within b F)
withins true f = record { tell = λ n bs cs v rest r s. f.tell n bs cs v rest r s.1 }
withins false f = record { tell = λ n bs cs v rest r s. apart {b = false} s.0 refl }
