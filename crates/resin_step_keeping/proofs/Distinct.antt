-- Lists with each item once (the same stands in resin_lstr, whose lemmas no crate passes on this far).
use Rattle.std.proofs.Common.{◌≡◌, ℕ, ◌<◌, Bool, true, false, cond, List, [], ◌∷◌, ◌++◌, refl, sym, ap, ◌∙◌, arith, zero, suc, append_assoc, append-nil}
use Rattle.std.specs.Prelude.{not, ◌||◌, replicate, fold}
use Rattle.std.specs.List.{filter, list_any, flat_map}
use Rattle.std.proofs.lemmas.Bool.{true≢false, cond-true, cond-false, or_left, or_right}
use Rattle.std.proofs.lemmas.List.Concat.{flat_map-append}
use Rattle.indexmap.specs.IndexSet.{insert_key}
use Rattle.resin_step_parts.specs.Under.lstr.Texts.{distinct}

filter-append : {X : Type 0} (p : X → Bool) (xs ys : List X) → filter p (xs ++ ys) ≡ filter p xs ++ filter p ys
filter-append p [] ys = refl
filter-append p (x ∷ xs) ys =
    elim (p x) as (λ b. cond b (x ∷ filter p (xs ++ ys)) (filter p (xs ++ ys)) ≡ cond b (x ∷ filter p xs) (filter p xs) ++ filter p ys) [
      | true ↦ ap (λ zs. x ∷ zs) (filter-append p xs ys)
      | false ↦ filter-append p xs ys
    ]

any-push : {X : Type 0} (p : X → Bool) (xs : List X) (y : X) → p y ≡ true → list_any p (xs ++ y ∷ []) ≡ true
any-push p [] y h = or_left (p y) false h
any-push p (x ∷ xs) y h = or_right (p x) (list_any p (xs ++ y ∷ [])) (any-push p xs y h)

any-front : {X : Type 0} (p : X → Bool) (xs ys : List X) → list_any p xs ≡ true → list_any p (xs ++ ys) ≡ true
any-front p [] ys h = absurd (true≢false (sym h))
any-front p (x ∷ xs) ys h =
    elim (p x) as (λ b. (b || list_any p xs) ≡ true → (b || list_any p (xs ++ ys)) ≡ true) [ true ↦ λ _. refl | false ↦ λ g. any-front p xs ys g ] h

fold-append : {A B : Type 0} (f : B → A → B) (a : B) (xs ys : List A) → fold f a (xs ++ ys) ≡ fold f (fold f a xs) ys
fold-append f a [] ys = refl
fold-append f a (x ∷ xs) ys = fold-append f (f a x) xs ys

module _ {X : Type 0} (eq : X → X → Bool) (decides : (x y : X) → (eq x y ≡ true → x ≡ y) × (x ≡ y → eq x y ≡ true)) where
  turned : (x y : X) → eq x y ≡ false → eq y x ≡ false
  turned x y h = elim (eq y x) as (λ b. eq y x ≡ b → b ≡ false) [
    | true ↦ λ e. absurd (true≢false (sym ((decides x y).1 (sym ((decides y x).0 e))) ∙ h))
    | false ↦ λ e. refl
  ] refl

  -- what is left without x has y where it had it before
  any_others : (x y : X) → eq x y ≡ false → (zs : List X) → list_any (eq y) (filter (λ z. not (eq x z)) zs) ≡ list_any (eq y) zs
  any_others x y h [] = refl
  any_others x y h (z ∷ zs) =
      elim (eq x z) as (λ b. eq x z ≡ b → list_any (eq y) (cond (not b) (z ∷ filter (λ z. not (eq x z)) zs) (filter (λ z. not (eq x z)) zs)) ≡ (eq y z || list_any (eq y) zs)) [
        | true ↦ λ e. any_others x y h zs ∙ sym (ap (λ b. b || list_any (eq y) zs) (ap (eq y) (sym ((decides x z).0 e)) ∙ turned x y h))
        | false ↦ λ e. ap (λ b. eq y z || b) (any_others x y h zs)
      ] refl

  -- one more item
  pub distinct_push : (xs : List X) (y : X) → distinct eq (xs ++ y ∷ []) ≡ insert_key eq (distinct eq xs) y
  distinct_push [] y = refl
  distinct_push (x ∷ xs) y =
      let D = distinct eq xs in
      let F = filter (λ z. not (eq x z)) (distinct eq xs) in
      ap (λ ds. x ∷ filter (λ z. not (eq x z)) ds) (distinct_push xs y)
      ∙ elim (eq x y) as (λ b. eq x y ≡ b → x ∷ filter (λ z. not (eq x z)) (insert_key eq (distinct eq xs) y) ≡ insert_key eq (x ∷ filter (λ z. not (eq x z)) (distinct eq xs)) y) [
        | true ↦ λ e.
            ap (λ fs. x ∷ fs) (dropped x y e (distinct eq xs))
            ∙ sym (cond-true _ (x ∷ F) ((x ∷ F) ++ y ∷ []) (or_left (eq y x) (list_any (eq y) F) ((decides y x).1 (sym ((decides x y).0 e)))))
        | false ↦ λ e.
            elim (list_any (eq y) (distinct eq xs)) as (λ b. list_any (eq y) (distinct eq xs) ≡ b → x ∷ filter (λ z. not (eq x z)) (insert_key eq (distinct eq xs) y) ≡ insert_key eq (x ∷ filter (λ z. not (eq x z)) (distinct eq xs)) y) [
              | true ↦ λ f.
                  ap (λ ds. x ∷ filter (λ z. not (eq x z)) ds) (cond-true _ D (D ++ y ∷ []) f)
                  ∙ sym (cond-true _ (x ∷ F) ((x ∷ F) ++ y ∷ []) (or_right (eq y x) (list_any (eq y) F) (any_others x y e D ∙ f)))
              | false ↦ λ f.
                  ap (λ ds. x ∷ filter (λ z. not (eq x z)) ds) (cond-false _ D (D ++ y ∷ []) f)
                  ∙ ap (λ fs. x ∷ fs) (filter-append (λ z. not (eq x z)) D (y ∷ []) ∙ ap (λ fs. F ++ fs) (ap (λ b. cond (not b) (y ∷ []) []) e))
                  ∙ sym (cond-false _ (x ∷ F) ((x ∷ F) ++ y ∷ []) (ap (λ b. b || list_any (eq y) F) (turned x y e) ∙ any_others x y e D ∙ f))
            ] refl
      ] refl
    where
      dropped : (x y : X) → eq x y ≡ true → (D : List X) → filter (λ z. not (eq x z)) (insert_key eq D y) ≡ filter (λ z. not (eq x z)) D
      dropped x y e D =
          elim (list_any (eq y) D) as (λ b. filter (λ z. not (eq x z)) (cond b D (D ++ y ∷ [])) ≡ filter (λ z. not (eq x z)) D) [
            | true ↦ refl
            | false ↦ filter-append (λ z. not (eq x z)) D (y ∷ []) ∙ ap (λ fs. filter (λ z. not (eq x z)) D ++ fs) (ap (λ b. cond (not b) (y ∷ []) []) e) ∙ append-nil _
          ]

  -- more items
  pub distinct_more : (xs ys : List X) → distinct eq (xs ++ ys) ≡ fold (insert_key eq) (distinct eq xs) ys
  distinct_more xs [] = ap (distinct eq) (append-nil xs)
  distinct_more xs (y ∷ ys) =
      ap (distinct eq) (sym (append_assoc xs (y ∷ []) ys)) ∙ distinct_more (xs ++ y ∷ []) ys ∙ ap (λ ds. fold (insert_key eq) ds ys) (distinct_push xs y)

  -- ---- items that are there already
  Within : List X → List X → Type 0
  Within [] ks = Unit {0}
  Within (y ∷ ys) ks = (list_any (eq y) ks ≡ true) × Within ys ks

  keeps : (q y : X) (ks : List X) → list_any (eq q) ks ≡ true → list_any (eq q) (insert_key eq ks y) ≡ true
  keeps q y ks h = elim (list_any (eq y) ks) as (λ b. list_any (eq q) (cond b ks (ks ++ y ∷ [])) ≡ true) [ true ↦ h | false ↦ any-front (eq q) ks (y ∷ []) h ]

  keeps_all : (q : X) (ys ks : List X) → list_any (eq q) ks ≡ true → list_any (eq q) (fold (insert_key eq) ks ys) ≡ true
  keeps_all q [] ks h = h
  keeps_all q (y ∷ ys) ks h = keeps_all q ys (insert_key eq ks y) (keeps q y ks h)

  has_it : (y : X) (ks : List X) → list_any (eq y) (insert_key eq ks y) ≡ true
  has_it y ks = elim (list_any (eq y) ks) as (λ b. list_any (eq y) ks ≡ b → list_any (eq y) (cond b ks (ks ++ y ∷ [])) ≡ true) [
    | true ↦ λ h. h
    | false ↦ λ h. any-push (eq y) ks y ((decides y y).1 refl)
  ] refl

  all_within : (ys ks : List X) → Within ys (fold (insert_key eq) ks ys)
  unfolding Within
  all_within [] ks = tt
  all_within (y ∷ ys) ks = (keeps_all y ys (insert_key eq ks y) (has_it y ks), all_within ys (insert_key eq ks y))

  no_more : (ys ks : List X) → Within ys ks → fold (insert_key eq) ks ys ≡ ks
  unfolding Within
  no_more [] ks w = refl
  no_more (y ∷ ys) ks w = ap (λ ds. fold (insert_key eq) ds ys) (cond-true _ ks (ks ++ y ∷ []) w.0) ∙ no_more ys ks w.1

  pub again : (ys ks : List X) → fold (insert_key eq) (fold (insert_key eq) ks ys) ys ≡ fold (insert_key eq) ks ys
  again ys ks = no_more ys (fold (insert_key eq) ks ys) (all_within ys ks)

  -- ---- the items of an item that is repeated
  module _ {S : Type 0} (f : S → List X) (s : S) where
    pub repeated : (m : ℕ) (ks : List X) → fold (insert_key eq) ks (flat_map f (replicate (suc m) s)) ≡ fold (insert_key eq) ks (f s)
    repeated zero ks = ap (fold (insert_key eq) ks) (append-nil (f s))
    repeated (suc m) ks = fold-append (insert_key eq) ks (f s) (flat_map f (replicate (suc m) s)) ∙ repeated m (fold (insert_key eq) ks (f s)) ∙ again (f s) ks

    pub distinct_run : (xs : List S) (m : ℕ) → 0 < m → distinct eq (flat_map f (xs ++ replicate m s)) ≡ fold (insert_key eq) (distinct eq (flat_map f xs)) (f s)
    distinct_run xs zero h = absurd (omega arith)
    distinct_run xs (suc m) h =
        ap (distinct eq) (flat_map-append f xs (replicate (suc m) s)) ∙ distinct_more (flat_map f xs) (flat_map f (replicate (suc m) s)) ∙ repeated m (distinct eq (flat_map f xs))

pub each_alone : {S : Type 0} (xs : List S) → flat_map (λ s. s ∷ []) xs ≡ xs
each_alone [] = refl
each_alone (x ∷ xs) = ap (λ zs. x ∷ zs) (each_alone xs)
