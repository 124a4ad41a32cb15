-- Numbers that stand once: the policies of a text in the order in which they are asked.
use Rattle.std.proofs.Common.{◌≡◌, ℕ, nat_eq, ◌==◌, ◌||◌, Bool, true, false, not, cond, List, [], ◌∷◌, refl, sym, ap, ◌∙◌, true≢false, filter}
use Rattle.std.proofs.lemmas.Bool.{and_parts, and_from, ne_eqb, eqb-false}
use Rattle.resin_scope.specs.Under.lstr.Texts.{distinct}
use Rattle.resin_scope.specs.Under.journal.Access.{is_among, are_distinct}

pub never : {A : Type 0} → false ≡ true → A
never e = absurd (true≢false (sym e))

pub gone : (x : ℕ) (zs : List ℕ) → is_among x (filter (λ y. not (nat_eq x y)) zs) ≡ false
gone x [] = refl
gone x (z ∷ zs) = by (nat_eq x z) refl (gone x zs)
  where
    by : (b : Bool) → nat_eq x z ≡ b → is_among x (filter (λ y. not (nat_eq x y)) zs) ≡ false
        → is_among x (cond (not b) (z ∷ filter (λ y. not (nat_eq x y)) zs) (filter (λ y. not (nat_eq x y)) zs)) ≡ false
    by true e rest = rest
    by false e rest = λ i. ne_eqb z x (λ same. eqb-false x z e (sym same)) i || rest i

pub among_cond : (b : Bool) (q z : ℕ) (zs : List ℕ) → is_among q (cond b (z ∷ zs) zs) ≡ cond b ((z == q) || is_among q zs) (is_among q zs)
among_cond true q z zs = refl
among_cond false q z zs = refl

pub not_among_filter : (p : ℕ → Bool) (q : ℕ) (zs : List ℕ) → not (is_among q zs) ≡ true → not (is_among q (filter p zs)) ≡ true
not_among_filter p q [] h = refl
not_among_filter p q (z ∷ zs) h = ap not (among_cond (p z) q z (filter p zs)) ∙ by (p z) (z == q) h (not_among_filter p q zs)
  where
    by : (b a : Bool) → not (a || is_among q zs) ≡ true → (not (is_among q zs) ≡ true → not (is_among q (filter p zs)) ≡ true)
        → not (cond b (a || is_among q (filter p zs)) (is_among q (filter p zs))) ≡ true
    by true true n rest = never n
    by true false n rest = rest n
    by false true n rest = never n
    by false false n rest = rest n

pub distinct_filter : (p : ℕ → Bool) (zs : List ℕ) → are_distinct zs ≡ true → are_distinct (filter p zs) ≡ true
distinct_filter p [] h = refl
distinct_filter p (z ∷ zs) h =
    let both = and_parts (not (is_among z zs)) (are_distinct zs) h in by (p z) both.0 (distinct_filter p zs both.1)
  where
    by : (b : Bool) → not (is_among z zs) ≡ true → are_distinct (filter p zs) ≡ true → are_distinct (cond b (z ∷ filter p zs) (filter p zs)) ≡ true
    by true n rest = and_from (not (is_among z (filter p zs))) (are_distinct (filter p zs)) (not_among_filter p z zs n) rest
    by false n rest = rest

-- the order of the policies of a text has none twice
pub order_distinct : (xs : List ℕ) → are_distinct (distinct nat_eq xs) ≡ true
order_distinct [] = refl
order_distinct (x ∷ xs) =
    and_from (not (is_among x (filter (λ y. not (nat_eq x y)) (distinct nat_eq xs)))) (are_distinct (filter (λ y. not (nat_eq x y)) (distinct nat_eq xs)))
    (ap not (gone x (distinct nat_eq xs))) (distinct_filter (λ y. not (nat_eq x y)) (distinct nat_eq xs) (order_distinct xs))
