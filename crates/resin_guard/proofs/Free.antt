-- The forms of pages have no limits, so that reading one gives a value or stops.
use Rattle.std.proofs.Common.{ℕ, zero, suc, Bool, true, false, List, [], ◌∷◌, length}
use Rattle.std.specs.Prelude.{◌==◌, ◌+◌, ◌&&◌, not, codes}
use Rattle.resin_form.specs.Form.{give, next, maybe, many, taken}
use Rattle.resin_form.specs.Reading.{Outcome, Got, Stop, Deep, Reader, and_then, loop}
use Rattle.resin_form.proofs.Local.{IsSettled, if_settled}
use Rattle.resin_sql_words.specs.declared.cursor.Placed.{Placed}
use Rattle.resin_sql_words.specs.Forms.{Rule, under, either, never, ◌>>=◌}
use Rattle.resin_sql_words.specs.Words as words
use Rattle.resin_guard.specs.Pages as p
use Rattle.resin_guard.specs.Pages.{Places, Attributes, is_raw, is_blank, is_harmful}

-- ---- forms that meet no limit

record Settles {A : Type 0} (F : Rule A) : Type 0 where
  settles : (ts : List Placed) → IsSettled (under F ts)

then_settled : {A B : Type 0} (o : Outcome Placed B) (f : B → Reader Placed A) → IsSettled o → ((b : B) (rest : List Placed) → IsSettled (f b rest)) → IsSettled (and_then o f)
then_settled (Got b rest) f s each = each b rest
then_settled (Stop rest) f s each = tt
then_settled (Deep rest) f s each = s

loop_settled : {A : Type 0} (test : A → Placed → Bool) (step : A → Placed → Reader Placed A) → ((a : A) (t : Placed) (ts : List Placed) → IsSettled (step a t ts)) → (n : ℕ) (a : A) (ts : List Placed) → IsSettled (loop test step n a ts)
loop_settled test step each zero a ts = tt
loop_settled test step each (suc n) a [] = tt
loop_settled test step each (suc n) a (t ∷ ts) =
    if_settled (test a t) (and_then (step a t ts) (loop test step n)) (Got a (t ∷ ts))
    (then_settled (step a t ts) (loop test step n) (each a t ts) (λ b rest. loop_settled test step each n b rest)) tt

gives : {A : Type 0} {a : A} → Settles (give a)
gives = record { settles = λ ts. tt }

and_next : {A B : Type 0} {F : Rule B} {G : B → Rule A} → Settles F → ((b : B) → Settles (G b)) → Settles (F >>= G)
and_next {F = F} {G = G} f g = record { settles = λ ts. then_settled (under F ts) (λ b rest. under (G b) rest) (f.settles ts) (λ b rest. let h = g b in h.settles rest) }

next_on : {A : Type 0} (test : Placed → Bool) (F : Placed → Rule A) → ((t : Placed) → Settles (F t)) → (ts : List Placed) → IsSettled (under (next test (λ t. taken (F t))) ts)
next_on test F f [] = tt
next_on test F f (t ∷ ts) = let h = f t in if_settled (test t) (under (F t) ts) (Stop (t ∷ ts)) (h.settles ts) tt

nexts : {A : Type 0} {test : Placed → Bool} {F : Placed → Rule A} → ((t : Placed) → Settles (F t)) → Settles (next test (λ t. taken (F t)))
nexts {test = test} {F = F} f = record { settles = next_on test F f }

maybe_on : {A : Type 0} (test : Placed → Bool) (F : Placed → Rule A) (a : A) → ((t : Placed) → Settles (F t)) → (ts : List Placed) → IsSettled (under (maybe test (λ t. taken (F t)) a) ts)
maybe_on test F a f [] = tt
maybe_on test F a f (t ∷ ts) = let h = f t in if_settled (test t) (under (F t) ts) (Got a (t ∷ ts)) (h.settles ts) tt

maybes : {A : Type 0} {test : Placed → Bool} {F : Placed → Rule A} {a : A} → ((t : Placed) → Settles (F t)) → Settles (maybe test (λ t. taken (F t)) a)
maybes {test = test} {F = F} {a = a} f = record { settles = maybe_on test F a f }

manys : {A : Type 0} {test : A → Placed → Bool} {F : A → Placed → Rule A} {a : A} → ((b : A) (t : Placed) → Settles (F b t)) → Settles (many test (λ b t. taken (F b t)) a)
manys {test = test} {F = F} {a = a} f = record { settles = λ ts. loop_settled test (λ b t rest. under (F b t) rest) (λ b t rest. let h = f b t in h.settles rest) (length ts) a ts }

choices : {A : Type 0} {F G : Rule A} (b : Bool) → Settles F → Settles G → Settles (either b F G)
choices true f g = f
choices false f g = g

nevers : {A : Type 0} (a : A) → Settles (never a)
nevers a = nexts (λ t. gives)

-- ---- the forms of pages

letters_settle : (ks : List ℕ) → Settles (words.letters ks)
unfolding words.letters
letters_settle [] = gives
letters_settle (k ∷ ks) = nexts (λ t. letters_settle ks)

name_settles : (of_attribute : Bool) (b : ℕ) → Settles (p.name of_attribute b)
unfolding p.name p.more_of_name p.longer
name_settles of_attribute b = manys (λ x t. gives)

blanks_settle : Settles p.blanks
unfolding p.blanks
blanks_settle = manys (λ u t. gives)

byte_settles : (b : ℕ) → Settles (p.byte b)
unfolding p.byte
byte_settles b = nexts (λ t. gives)

before_settles : (b to : ℕ) → Settles (p.before b to)
unfolding p.before
before_settles b to = manys (λ n t. gives)

ended_settles : (done : Bool) → Settles (p.ended done)
ended_settles done = choices done gives (nevers tt)

comment_settles : Settles p.comment
unfolding p.comment p.comment_from
comment_settles = and_next (manys (λ n t. gives)) (λ n. ended_settles (n == 3))

doctype_settles : Settles p.doctype
unfolding p.doctype
doctype_settles = and_next (and_next (letters_settle (codes "octype")) (λ u. before_settles 62 0)) (λ n. byte_settles 62)

raw_settles : (x : List ℕ) → Settles (p.raw x)
unfolding p.raw p.raw_from
raw_settles x = and_next (manys (λ n t. gives)) (λ n. and_next (and_next (ended_settles (n == length x + 2)) (λ u. blanks_settle)) (λ u. byte_settles 62))

put_settles : (places : Places) (from to : ℕ) → Settles (p.put places from to)
unfolding p.put
put_settles places from to = gives

quoted_settles : (safe : Bool) (places : Places) (t : Placed) → Settles (p.quoted safe places t)
unfolding p.quoted
quoted_settles safe places t = and_next (before_settles t.byte (t.at + 1)) (λ to. and_next (byte_settles t.byte) (λ u. choices safe (put_settles places (t.at + 1) to) gives))

valued_settles : (safe : Bool) (places : Places) → Settles (p.valued safe places)
unfolding p.valued p.value
valued_settles safe places = maybes (λ e. nexts (λ t. quoted_settles safe places t))

attribute_settles : (safe : Bool) (places : Places) (b : ℕ) → Settles (p.attribute safe places b)
unfolding p.attribute
attribute_settles safe places b = and_next (name_settles true b) (λ x. valued_settles (safe && not (is_harmful x)) places)

attributes_settle : (safe : Bool) (s : Attributes) → Settles (p.attributes safe s)
unfolding p.attributes p.blank_or_attribute
attributes_settle safe s = manys (λ a t. choices (is_blank t.byte) gives (and_next (attribute_settles safe a.0 t.byte) (λ ps. gives)))

slash_settles : Settles p.slash
unfolding p.slash
slash_settles = maybes (λ t. gives)

tag_end_settles : (safe : Bool) (places : Places) → Settles (p.tag_end safe places)
unfolding p.tag_end
tag_end_settles safe places = and_next (attributes_settle safe (places, false)) (λ s. and_next (and_next slash_settles (λ u. byte_settles 62)) (λ u. gives))

closing_settles : (places : Places) → Settles (p.closing places)
unfolding p.closing p.closing_from
closing_settles places = nexts (λ t. and_next (name_settles false t.byte) (λ x. choices (is_raw x) (nevers places) (tag_end_settles true places)))

behind_opening_settles : (x : List ℕ) (places : Places) → Settles (p.behind_opening x places)
unfolding p.behind_opening
behind_opening_settles x places = choices (is_raw x) (and_next (raw_settles x) (λ u. gives)) gives

opening_settles : (places : Places) (b : ℕ) → Settles (p.opening places b)
unfolding p.opening
opening_settles places b = and_next (name_settles false b) (λ x. and_next (tag_end_settles (not (is_raw x)) places) (λ ps. behind_opening_settles x ps))

declared_settles : Settles p.declared
unfolding p.declared p.declared_from
declared_settles = nexts (λ t. choices (t.byte == 45) (and_next (byte_settles 45) (λ u. comment_settles)) doctype_settles)

item_settles : (places : Places) → Settles (p.item places)
unfolding p.item p.item_from
item_settles places = nexts (λ t. choices (t.byte == 33) (and_next declared_settles (λ u. gives)) (choices (t.byte == 47) (closing_settles places) (opening_settles places t.byte)))

text_settles : (places : Places) (t : Placed) → Settles (p.text places t)
unfolding p.text
text_settles places t = and_next (before_settles 60 (t.at + 1)) (λ to. put_settles places t.at to)

page_settles : (places : Places) → Settles (p.page places)
unfolding p.page p.piece
page_settles places = manys (λ ps t. choices (t.byte == 60) (item_settles ps) (text_settles ps t))

pub page_settled : (places : Places) (ts : List Placed) → IsSettled (under (p.page places) ts)
page_settled places ts = let h = page_settles places in h.settles ts
