-- Forms that read a text with other bytes between its quotes as they read the text.
use Rattle.std.proofs.Common.{◌≡◌, ℕ, suc, Bool, true, false, List, [], ◌∷◌, inl, inr, refl, sym, ap, subst, ◌∙◌}
use Rattle.resin_form.specs.Form.{EndsBefore, Many, done, more, give, next, maybe, many, taken, SpellsAfter}
use Rattle.resin_form.specs.Meaning.{SpellsWithin, NameSpells, allows_at}
use Rattle.resin_sql_words.specs.declared.cursor.Placed.{Placed}
use Rattle.resin_sql_words.specs.Places.{placed}
use Rattle.resin_sql_words.specs.Forms.{Rule, Behind, rules, in_limits, ◌>>=◌, either, never, within}
use Rattle.resin_guard.specs.Requoted.{Requoted, doubled}
use Rattle.resin_guard.specs.Requoted as quo

abbrev pub Spells : {A : Type 0} → Rule A → List Placed → A → List Placed → Type 0
Spells F ts v rest = SpellsWithin rules in_limits 1 F ts v rest

abbrev pub SpellsBehind : {A : Type 0} → Behind A → List Placed → A → List Placed → Type 0
SpellsBehind F ts v rest = SpellsAfter (allows_at in_limits 1) (NameSpells rules in_limits 1) F ts v rest

-- what another text gives: a value that is alike, and what is left
pub record Followed {A B : Type 0} (E : A → B) (v : A) (rest : List Placed) (S : A → List Placed → Type 0) : Type 0 where
  pub value : A
  pub there : ℕ
  pub there_too : ℕ
  pub others : List ℕ
  pub others_too : List ℕ
  pub at : rest ≡ placed there others
  pub spelt : S value (placed there_too others_too)
  pub requoted : Requoted others others_too
  pub alike : E value ≡ E v

pub record Follows {A B : Type 0} (E : A → B) (F G : Rule A) : Type 0 where
  pub follow : (n m : ℕ) (bs cs : List ℕ) (v : A) (rest : List Placed) → Requoted bs cs → Spells F (placed n bs) v rest → Followed E v rest (Spells G (placed m cs))

pub record FollowsBehind {A B : Type 0} (E : A → B) (F G : Behind A) : Type 0 where
  pub follow : (n m : ℕ) (bs cs : List ℕ) (v : A) (rest : List Placed) → Requoted bs cs → SpellsBehind F (placed n bs) v rest → Followed E v rest (SpellsBehind G (placed m cs))

abbrev pub whole : {A : Type 0} → A → A
whole x = x

pub behind_taken : {A B : Type 0} {E : A → B} {F G : Rule A} → Follows E F G → FollowsBehind E (taken F) (taken G)
behind_taken f = record { follow = f.follow }

pub gives : {A B : Type 0} {E : A → B} {a b : A} → E b ≡ E a → Follows E (give a) (give b)
gives {E = E} {b = b} e = record { follow = λ n m bs cs v rest q s. record { value = b; there = n; there_too = m; others = bs; others_too = cs; at = s.1; spelt = (refl, refl); requoted = q; alike = e ∙ sym (ap E s.0) } }

pub followed_by : {A B C D : Type 0} {E : A → B} {H : C → D} {F K : Rule A} {G L : A → Rule C} → Follows E F K → ((a b : A) → E b ≡ E a → Follows H (G a) (L b)) → Follows H (F >>= G) (K >>= L)
followed_by {G = G} f g = record {
  follow = λ n m bs cs v rest q s.
      let k = f.follow n m bs cs s.0 s.1 q s.2 in
      let j = (g s.0 k.value k.alike).follow k.there k.there_too k.others k.others_too v rest k.requoted (subst (λ us. Spells (G s.0) us v rest) k.at s.3) in
      record { value = j.value; there = j.there; there_too = j.there_too; others = j.others; others_too = j.others_too; at = j.at; spelt = (k.value, placed k.there_too k.others_too, k.spelt, j.spelt); requoted = j.requoted; alike = j.alike };
}

-- the same where the first gives the same value
pub and_then : {A C D : Type 0} {H : C → D} {F K : Rule A} {G L : A → Rule C} → Follows whole F K → ((a : A) → Follows H (G a) (L a)) → Follows H (F >>= G) (K >>= L)
and_then {H = H} {G = G} {L = L} f g = followed_by {E = whole} f (λ a b e. subst (λ x. Follows H (G a) (L x)) (sym e) (g a))

-- where the value is the same, it is alike
pub weaken : {A B : Type 0} {E : A → B} {F G : Rule A} → Follows whole F G → Follows E F G
weaken {E = E} f = record { follow = λ n m bs cs v rest q s. let k = f.follow n m bs cs v rest q s in record { value = k.value; there = k.there; there_too = k.there_too; others = k.others; others_too = k.others_too; at = k.at; spelt = k.spelt; requoted = k.requoted; alike = ap E k.alike } }

by_test : (b c : Bool) → b ≡ c → b ≡ true → c ≡ true
by_test b c e h = sym e ∙ h

pub apart : {A : Type 0} {b : Bool} → b ≡ true → b ≡ false → A
apart h e = absurd (let f : true ≡ false = sym h ∙ e in cc)

module _ {A B : Type 0} {E : A → B} (test check : Placed → Bool) (F G : Placed → Rule A) (tests : (n m b : ℕ) → test (record { at = n; byte = b }) ≡ check (record { at = m; byte = b })) (quoteless : (n : ℕ) → test (record { at = n; byte = 39 }) ≡ false)
    (each : (n m b : ℕ) → Follows E (F (record { at = n; byte = b })) (G (record { at = m; byte = b }))) where
  next_on : (n m : ℕ) (bs cs : List ℕ) (v : A) (rest : List Placed) → Requoted bs cs → Spells (next test (λ t. taken (F t))) (placed n bs) v rest → Followed E v rest (Spells (next check (λ t. taken (G t))) (placed m cs))
  next_on n m bs cs v rest quo.done s = absurd s
  next_on n m bs cs v rest (quo.same {b = b} {r = r} {s = x} ne q) s =
      let k = (each n m b).follow (suc n) (suc m) r x v rest q s.1 in
      record { value = k.value; there = k.there; there_too = k.there_too; others = k.others; others_too = k.others_too; at = k.at; spelt = (by_test _ _ (tests n m b) s.0, k.spelt); requoted = k.requoted; alike = k.alike }
  next_on n m bs cs v rest (quo.other x y e h z q) s = apart s.0 (quoteless n)

  module _ (a b : A) (alike : E b ≡ E a) where
    maybe_on : (n m : ℕ) (bs cs : List ℕ) (v : A) (rest : List Placed) → Requoted bs cs → Spells (maybe test (λ t. taken (F t)) a) (placed n bs) v rest → Followed E v rest (Spells (maybe check (λ t. taken (G t)) b) (placed m cs))
    maybe_on n m bs cs v rest quo.done s = record { value = b; there = n; there_too = m; others = []; others_too = []; at = s.1; spelt = (refl, refl); requoted = quo.done; alike = alike ∙ sym (ap E s.0) }
    maybe_on n m bs cs v rest (quo.same {b = c} {r = r} {s = x} ne q) (inl s) =
        let k = (each n m c).follow (suc n) (suc m) r x v rest q s.1 in
        record { value = k.value; there = k.there; there_too = k.there_too; others = k.others; others_too = k.others_too; at = k.at; spelt = inl (by_test _ _ (tests n m c) s.0, k.spelt); requoted = k.requoted; alike = k.alike }
    maybe_on n m bs cs v rest (quo.same {b = c} {r = r} {s = x} ne q) (inr s) =
        record { value = b; there = n; there_too = m; others = c ∷ r; others_too = c ∷ x; at = s.2; spelt = inr (sym (tests n m c) ∙ s.0, refl, refl); requoted = quo.same ne q; alike = alike ∙ sym (ap E s.1) }
    maybe_on n m bs cs v rest (quo.other w y e h z q) (inl s) = apart s.0 (quoteless n)
    maybe_on n m bs cs v rest (quo.other w y {bs = r} {cs = x} e h z q) (inr s) =
        record { value = b; there = n; there_too = m; others = 39 ∷ r; others_too = 39 ∷ x; at = s.2; spelt = inr (sym (tests n m 39) ∙ quoteless n, refl, refl); requoted = quo.other w y e h z q; alike = alike ∙ sym (ap E s.1) }

pub nexts : {A B : Type 0} {E : A → B} {test check : Placed → Bool} {F G : Placed → Rule A} → ((n m b : ℕ) → test (record { at = n; byte = b }) ≡ check (record { at = m; byte = b })) → ((n : ℕ) → test (record { at = n; byte = 39 }) ≡ false)
    → ((n m b : ℕ) → Follows E (F (record { at = n; byte = b })) (G (record { at = m; byte = b }))) → Follows E (next test (λ t. taken (F t))) (next check (λ t. taken (G t)))
nexts {test = test} {check = check} {F = F} {G = G} tests quoteless each = record { follow = next_on test check F G tests quoteless each }

pub maybes : {A B : Type 0} {E : A → B} {test check : Placed → Bool} {F G : Placed → Rule A} {a b : A} → ((n m b : ℕ) → test (record { at = n; byte = b }) ≡ check (record { at = m; byte = b })) → ((n : ℕ) → test (record { at = n; byte = 39 }) ≡ false)
    → ((n m b : ℕ) → Follows E (F (record { at = n; byte = b })) (G (record { at = m; byte = b }))) → E b ≡ E a → Follows E (maybe test (λ t. taken (F t)) a) (maybe check (λ t. taken (G t)) b)
maybes {test = test} {check = check} {F = F} {G = G} {a = a} {b = b} tests quoteless each e = record { follow = maybe_on test check F G tests quoteless each a b e }

module _ {A B : Type 0} {E : A → B} (test check : A → Placed → Bool) (F G : A → Placed → Behind A) (tests : (a b : A) → E b ≡ E a → (n m c : ℕ) → test a (record { at = n; byte = c }) ≡ check b (record { at = m; byte = c }))
    (quoteless : (a : A) (n : ℕ) → test a (record { at = n; byte = 39 }) ≡ false) (each : (a b : A) → E b ≡ E a → (n m c : ℕ) → FollowsBehind E (F a (record { at = n; byte = c })) (G b (record { at = m; byte = c }))) where
  ends_too : (a b : A) → E b ≡ E a → (n m : ℕ) (bs cs : List ℕ) → Requoted bs cs → EndsBefore (test a) (placed n bs) → EndsBefore (check b) (placed m cs)
  ends_too a b e n m bs cs quo.done h = tt
  ends_too a b e n m bs cs (quo.same {b = c} ne q) h = sym (tests a b e n m c) ∙ h
  ends_too a b e n m bs cs (quo.other w u x y z q) h = sym (tests a b e n m 39) ∙ h

  many_on : (a b : A) → E b ≡ E a → (us : List Placed) (v : A) (rest : List Placed) → Many test (λ a t. SpellsBehind (F a t)) a us v rest → (n m : ℕ) (bs cs : List ℕ) → us ≡ placed n bs → Requoted bs cs → Followed E v rest (Spells (many check G b) (placed m cs))
  many_on a b e us v rest (done h) n m bs cs is q =
      record { value = b; there = n; there_too = m; others = bs; others_too = cs; at = is; spelt = done (ends_too a b e n m bs cs q (subst (EndsBefore (test a)) is h)); requoted = q; alike = e }
  many_on a b e us v rest (more {b = x} {t = t} {ts = ts} {mid = mid} p g o) n m bs cs is quo.done = cc
  many_on a b e us v rest (more {b = x} {t = t} {ts = ts} {mid = mid} p g o) n m bs cs is (quo.same {b = c} {r = r} {s = y} ne q) =
      let here : t ≡ record { at = n; byte = c } = cc in
      let left : ts ≡ placed (suc n) r = cc in
      let step = subst (λ u. SpellsBehind (F a u) (placed (suc n) r) x mid) here (subst (λ us. SpellsBehind (F a t) us x mid) left g) in
      let k = (each a b e n m c).follow (suc n) (suc m) r y x mid q step in
      let j = many_on x k.value k.alike mid v rest o k.there k.there_too k.others k.others_too k.at k.requoted in
      record {
        value = j.value;
        there = j.there;
        there_too = j.there_too;
        others = j.others;
        others_too = j.others_too;
        at = j.at;
        spelt = more {b = k.value} {mid = placed k.there_too k.others_too} (sym (tests a b e n m c) ∙ subst (λ u. test a u ≡ true) here p) k.spelt j.spelt;
        requoted = j.requoted;
        alike = j.alike;
      }
  many_on a b e us v rest (more {b = x} {t = t} {ts = ts} {mid = mid} p g o) n m bs cs is (quo.other w u {bs = r} y h z q) =
      let here : t ≡ record { at = n; byte = 39 } = cc in
      apart (subst (λ u. test a u ≡ true) here p) (quoteless a n)

pub manys : {A B : Type 0} {E : A → B} {test check : A → Placed → Bool} {F G : A → Placed → Behind A} {a b : A} → ((a b : A) → E b ≡ E a → (n m c : ℕ) → test a (record { at = n; byte = c }) ≡ check b (record { at = m; byte = c }))
    → ((a : A) (n : ℕ) → test a (record { at = n; byte = 39 }) ≡ false) → ((a b : A) → E b ≡ E a → (n m c : ℕ) → FollowsBehind E (F a (record { at = n; byte = c })) (G b (record { at = m; byte = c }))) → E b ≡ E a → Follows E (many test F a) (many check G b)
manys {test = test} {check = check} {F = F} {G = G} {a = a} {b = b} tests quoteless each e = record { follow = λ n m bs cs v rest q s. many_on test check F G tests quoteless each a b e (placed n bs) v rest s n m bs cs refl q }

pub choices : {A B : Type 0} {E : A → B} {F G K L : Rule A} (b : Bool) → Follows E F K → Follows E G L → Follows E (either b F G) (either b K L)
choices true f g = f
choices false f g = g

pub nevers : {A B : Type 0} {E : A → B} (a b : A) → Follows E (never a) (never b)
nevers {A} {E = E} a b = record { follow = none }
  where
    none : (n m : ℕ) (bs cs : List ℕ) (v : A) (rest : List Placed) → Requoted bs cs → Spells (never a) (placed n bs) v rest → Followed E v rest (Spells (never b) (placed m cs))
    none n m [] cs v rest q s = absurd s
    none n m (c ∷ bs) cs v rest q s = apart {b = false} s.0 refl

pub withins : {A B : Type 0} {E : A → B} {F G : Rule A} (b : Bool) → Follows E F G → FollowsBehind E (within b F) (within b G)
withins true f = record { follow = λ n m bs cs v rest q s. let k = f.follow n m bs cs v rest q s.1 in record { value = k.value; there = k.there; there_too = k.there_too; others = k.others; others_too = k.others_too; at = k.at; spelt = (s.0, k.spelt); requoted = k.requoted; alike = k.alike } }
withins false f = record { follow = λ n m bs cs v rest q s. apart {b = false} s.0 refl }
