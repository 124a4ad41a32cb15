-- The policies of a text, in the order in which they are asked: none stands twice.
use Rattle.std.proofs.Common.{◌≡◌, ℕ, suc, ◌+◌, ◌<◌, nat_eq, ◌==◌, ◌||◌, Bool, true, false, not, cond, List, [], ◌∷◌, ◌++◌, length, take, drop, get_or, IsTrue, refl, sym, ap, subst, ◌∙◌, arith, true≢false, filter}
use Rattle.std.specs.List.{flat_map}
use Rattle.std.proofs.lemmas.Bool.{and_parts, and_from, ne_eqb, eqb-false}
use Rattle.std.proofs.lemmas.List.{take-append-drop}
use Rattle.resin_eval_nested.specs.Under.label.Sets.{numbers}
use Rattle.resin_eval_nested.specs.Under.lstr.Texts.{Text, distinct, policies_in_order, sets_of}
use Rattle.resin_eval_nested.specs.Under.journal.Access.{is_among, are_distinct}
use Rattle.std.proofs.Math.Seq.{drop-cons, take-suc}

never : {A : Type 0} → false ≡ true → A
never e = absurd (true≢false (sym e))

gone : (x : ℕ) (zs : List ℕ) → is_among x (filter (λ y. not (nat_eq x y)) zs) ≡ false
gone x [] = refl
gone x (z ∷ zs) = by (nat_eq x z) refl (gone x zs)
  where
    by : (b : Bool) → nat_eq x z ≡ b → is_among x (filter (λ y. not (nat_eq x y)) zs) ≡ false
        → is_among x (cond (not b) (z ∷ filter (λ y. not (nat_eq x y)) zs) (filter (λ y. not (nat_eq x y)) zs)) ≡ false
    by true e rest = rest
    by false e rest = λ i. ne_eqb z x (λ same. eqb-false x z e (sym same)) i || rest i

among_cond : (b : Bool) (q z : ℕ) (zs : List ℕ) → is_among q (cond b (z ∷ zs) zs) ≡ cond b ((z == q) || is_among q zs) (is_among q zs)
among_cond true q z zs = refl
among_cond false q z zs = refl

not_among_filter : (p : ℕ → Bool) (q : ℕ) (zs : List ℕ) → not (is_among q zs) ≡ true → not (is_among q (filter p zs)) ≡ true
not_among_filter p q [] h = refl
not_among_filter p q (z ∷ zs) h = ap not (among_cond (p z) q z (filter p zs)) ∙ by (p z) (z == q) h (not_among_filter p q zs)
  where
    by : (b a : Bool) → not (a || is_among q zs) ≡ true → (not (is_among q zs) ≡ true → not (is_among q (filter p zs)) ≡ true)
        → not (cond b (a || is_among q (filter p zs)) (is_among q (filter p zs))) ≡ true
    by true true n rest = never n
    by true false n rest = rest n
    by false true n rest = never n
    by false false n rest = rest n

distinct_filter : (p : ℕ → Bool) (zs : List ℕ) → are_distinct zs ≡ true → are_distinct (filter p zs) ≡ true
distinct_filter p [] h = refl
distinct_filter p (z ∷ zs) h =
    let both = and_parts (not (is_among z zs)) (are_distinct zs) h in by (p z) both.0 (distinct_filter p zs both.1)
  where
    by : (b : Bool) → not (is_among z zs) ≡ true → are_distinct (filter p zs) ≡ true → are_distinct (cond b (z ∷ filter p zs) (filter p zs)) ≡ true
    by true n rest = and_from (not (is_among z (filter p zs))) (are_distinct (filter p zs)) (not_among_filter p z zs n) rest
    by false n rest = rest

order_distinct : (xs : List ℕ) → are_distinct (distinct nat_eq xs) ≡ true
order_distinct [] = refl
order_distinct (x ∷ xs) =
    and_from (not (is_among x (filter (λ y. not (nat_eq x y)) (distinct nat_eq xs)))) (are_distinct (filter (λ y. not (nat_eq x y)) (distinct nat_eq xs)))
    (ap not (gone x (distinct nat_eq xs))) (distinct_filter (λ y. not (nat_eq x y)) (distinct nat_eq xs) (order_distinct xs))

-- ---- a number between others

same_number : (a : ℕ) → (a == a) ≡ true
same_number a = by (a == a) refl
  where
    by : (b : Bool) → (a == a) ≡ b → b ≡ true
    by true e = refl
    by false e = absurd (eqb-false a a e refl)

among_between : (before behind : List ℕ) (x : ℕ) → is_among x (before ++ x ∷ behind) ≡ true
among_between [] behind x = ap (λ b. b || is_among x behind) (same_number x)
among_between (y ∷ before) behind x = by (y == x) (among_between before behind x)
  where
    by : (b : Bool) → is_among x (before ++ x ∷ behind) ≡ true → (b || is_among x (before ++ x ∷ behind)) ≡ true
    by true h = refl
    by false h = h

apart_from : (y x : ℕ) (before behind : List ℕ) → not (is_among y (before ++ x ∷ behind)) ≡ true → (y == x) ≡ false
apart_from y x before behind h = by (y == x) refl
  where
    yes : (a b : ℕ) → (a == b) ≡ true → a ≡ b
    yes a b e = grind (arith)

    by : (b : Bool) → (y == x) ≡ b → b ≡ false
    by false e = refl
    by true e = never (sym (ap not (subst (λ z. is_among z (before ++ x ∷ behind) ≡ true) (sym (yes y x e)) (among_between before behind x))) ∙ h)

out_between : (before behind : List ℕ) (x : ℕ) → are_distinct (before ++ x ∷ behind) ≡ true → is_among x before ≡ false
out_between [] behind x h = refl
out_between (y ∷ before) behind x h =
    let both = and_parts (not (is_among y (before ++ x ∷ behind))) (are_distinct (before ++ x ∷ behind)) h in
    λ i. apart_from y x before behind both.0 i || out_between before behind x both.1 i

-- ---- the policies that were asked so far, and the next

split_at : (xs : List ℕ) (i : ℕ) → i < length xs → xs ≡ take i xs ++ get_or xs i 0 ∷ drop (i + 1) xs
split_at xs i lt = sym (take-append-drop i xs) ∙ ap (λ ys. take i xs ++ ys) (drop-cons xs i 0 lt ∙ ap (λ n. get_or xs i 0 ∷ drop n xs) (let h : suc i ≡ i + 1 = omega arith in h))

-- it was not asked before
pub next_is_out : (t : Text) (i : ℕ) → i < length (policies_in_order t) → is_among (get_or (policies_in_order t) i 0) (take i (policies_in_order t)) ≡ false
next_is_out t i lt =
    let ps = policies_in_order t in
    out_between (take i ps) (drop (i + 1) ps) (get_or ps i 0) (subst (λ qs. are_distinct qs ≡ true) (split_at ps i lt) (order_distinct (flat_map numbers (sets_of t))))

-- the text carries it
pub next_is_carried : (t : Text) (i : ℕ) → i < length (policies_in_order t) → IsTrue (is_among (get_or (policies_in_order t) i 0) (policies_in_order t))
next_is_carried t i lt =
    let ps = policies_in_order t in
    subst (λ qs. is_among (get_or ps i 0) qs ≡ true) (sym (split_at ps i lt)) (among_between (take i ps) (drop (i + 1) ps) (get_or ps i 0))

-- with it, it is one more
pub one_more : (ps : List ℕ) (i : ℕ) → i < length ps → take i ps ++ get_or ps i 0 ∷ [] ≡ take (i + 1) ps
one_more ps i lt = sym (ap (λ n. take n ps) (let h : i + 1 ≡ suc i = omega arith in h) ∙ take-suc ps i 0 lt)

-- the same of a list that is the order
pub out_next : (t : Text) (ps : List ℕ) (i : ℕ) → ps ≡ policies_in_order t → i < length ps → is_among (get_or ps i 0) (take i ps) ≡ false
out_next t ps i e lt = subst (λ (qs : List ℕ). i < length qs → is_among (get_or qs i 0) (take i qs) ≡ false) (sym e) (next_is_out t i) lt

pub carried_next : (t : Text) (ps : List ℕ) (i : ℕ) → ps ≡ policies_in_order t → i < length ps → IsTrue (is_among (get_or ps i 0) (policies_in_order t))
carried_next t ps i e lt = subst (λ (qs : List ℕ). i < length qs → IsTrue (is_among (get_or qs i 0) (policies_in_order t))) (sym e) (next_is_carried t i) lt
