-- Items that are kept once.
use Rattle.std.proofs.Common.{◌≡◌, ℕ, ◌+◌, ◌≤◌, ◌<◌, List, [], ◌∷◌, ◌++◌, length, get_or, drop, map, Bool, true, false, not, cond, ◌||◌, filter, refl, sym, ap, subst, ◌∙◌, append_assoc}
use Rattle.std.proofs.lemmas.List.{append-nil}
use Rattle.std.specs.Str.{bytes_eq}
use Rattle.std.specs.Cmp.Lexicographic.{bytes_decides}
use Rattle.resin_joint.specs.declared.tree.TotalItem.{TotalItem}
use Rattle.resin_rows.specs.Columns.{is_among}
use Rattle.resin_rows.proofs.Lists.{front, nothing_left}
use Rattle.resin_sql_more.specs.Totals.{item_name, first_items}

-- the items behind those whose names are kept
abbrev pub kept_with : List (List ℕ) → List TotalItem → List TotalItem
kept_with done [] = []
kept_with done (it ∷ its) = cond (is_among (item_name it) done) (kept_with done its) (it ∷ kept_with (done ++ item_name it ∷ []) its)

-- a name that equals one that is left out anyway
filter-under : (done : List (List ℕ)) (name : List ℕ) (xs : List TotalItem) → is_among name done ≡ true
    → filter (λ m. not (is_among (item_name m) done)) (filter (λ m. not (bytes_eq name (item_name m))) xs) ≡ filter (λ m. not (is_among (item_name m) done)) xs
filter-under done name [] h = refl
filter-under done name (x ∷ xs) h =
    elim (bytes_eq name (item_name x)) as (λ b. bytes_eq name (item_name x) ≡ b → filter (λ m. not (is_among (item_name m) done)) (cond (not b) (x ∷ filter (λ m. not (bytes_eq name (item_name m))) xs) (filter (λ m. not (bytes_eq name (item_name m))) xs))
    ≡ cond (not (is_among (item_name x) done)) (x ∷ filter (λ m. not (is_among (item_name m) done)) xs) (filter (λ m. not (is_among (item_name m) done)) xs)) [
      | true ↦ λ e.
          let same : name ≡ item_name x = (bytes_decides name (item_name x)).0 e in
          let among : is_among (item_name x) done ≡ true = ap (λ y. is_among y done) (sym same) ∙ h in
          rw among (filter-under done name xs h)
      | false ↦ λ e. ap (λ ys. cond (not (is_among (item_name x) done)) (x ∷ ys) ys) (filter-under done name xs h)
    ] refl

any-behind : (name m : List ℕ) (done : List (List ℕ)) → is_among m (done ++ name ∷ []) ≡ (is_among m done || bytes_eq name m)
any-behind name m [] = elim (bytes_eq name m) as (λ b. (b || false) ≡ (false || b)) [ true ↦ refl | false ↦ refl ]
any-behind name m (d ∷ done) =
    elim (bytes_eq d m) as (λ b. (b || is_among m (done ++ name ∷ [])) ≡ ((b || is_among m done) || bytes_eq name m)) [ true ↦ refl | false ↦ any-behind name m done ]

-- without the one and without the others is without all
filter-behind : (done : List (List ℕ)) (name : List ℕ) (xs : List TotalItem)
    → filter (λ m. not (is_among (item_name m) (done ++ name ∷ []))) xs ≡ filter (λ m. not (is_among (item_name m) done)) (filter (λ m. not (bytes_eq name (item_name m))) xs)
filter-behind done name [] = refl
filter-behind done name (x ∷ xs) =
    let rest = filter-behind done name xs in
    let whole = filter (λ m. not (is_among (item_name m) (done ++ name ∷ []))) xs in
    let fewer = filter (λ m. not (bytes_eq name (item_name m))) xs in
    rw (any-behind name (item_name x) done)
    (elim (bytes_eq name (item_name x)) as (λ b. cond (not (is_among (item_name x) done || b)) (x ∷ whole) whole
    ≡ filter (λ m. not (is_among (item_name m) done)) (cond (not b) (x ∷ fewer) fewer)) [
      | true ↦ elim (is_among (item_name x) done) as (λ d. cond (not (d || true)) (x ∷ whole) whole ≡ filter (λ m. not (is_among (item_name m) done)) fewer) [ true ↦ rest | false ↦ rest ]
      | false ↦ elim (is_among (item_name x) done) as (λ d. cond (not (d || false)) (x ∷ whole) whole
          ≡ cond (not d) (x ∷ filter (λ m. not (is_among (item_name m) done)) fewer) (filter (λ m. not (is_among (item_name m) done)) fewer)) [ true ↦ rest | false ↦ ap (λ ys. x ∷ ys) rest ]
    ])

kept-first : (done : List (List ℕ)) (its : List TotalItem) → kept_with done its ≡ filter (λ m. not (is_among (item_name m) done)) (first_items its)
kept-first done [] = refl
kept-first done (it ∷ its) =
    let others = filter (λ n. not (bytes_eq (item_name it) (item_name n))) (first_items its) in
    elim (is_among (item_name it) done) as (λ b. is_among (item_name it) done ≡ b → cond b (kept_with done its) (it ∷ kept_with (done ++ item_name it ∷ []) its)
    ≡ cond (not b) (it ∷ filter (λ m. not (is_among (item_name m) done)) others) (filter (λ m. not (is_among (item_name m) done)) others)) [
      | true ↦ λ e. kept-first done its ∙ sym (filter-under done (item_name it) (first_items its) e)
      | false ↦ λ e. ap (λ ys. it ∷ ys) (kept-first (done ++ item_name it ∷ []) its ∙ filter-behind done (item_name it) (first_items its))
    ] refl

filter-all : (xs : List TotalItem) → filter (λ m. not (is_among (item_name m) [])) xs ≡ xs
filter-all [] = refl
filter-all (x ∷ xs) = ap (λ ys. x ∷ ys) (filter-all xs)

-- all items, each once
pub kept_from_none : (its : List TotalItem) → kept_with [] its ≡ first_items its
kept_from_none its = kept-first [] its ∙ filter-all (first_items its)

turned : {B : Type 0} (g : TotalItem → B) (it : TotalItem) (rest : List TotalItem) (names : List (List ℕ)) (out all : List B) (b : Bool)
    → out ++ map g (cond b (kept_with names rest) (it ∷ kept_with (names ++ item_name it ∷ []) rest)) ≡ all
    → cond b out (out ++ g it ∷ []) ++ map g (kept_with (cond b names (names ++ item_name it ∷ [])) rest) ≡ all
turned g it rest names out all true h = h
turned g it rest names out all false h = append_assoc out (g it ∷ []) (map g (kept_with (names ++ item_name it ∷ []) rest)) ∙ h

-- one more item, and what is made of it
pub kept_turn : {B : Type 0} (g : TotalItem → B) (its : List TotalItem) (i : ℕ) (it : TotalItem) (names next : List (List ℕ)) (out longer all : List B)
    → i < length its → it ≡ get_or its i it → next ≡ cond (is_among (item_name it) names) names (names ++ item_name it ∷ [])
    → longer ≡ cond (is_among (item_name it) names) out (out ++ g it ∷ [])
    → out ++ map g (kept_with names (drop i its)) ≡ all → longer ++ map g (kept_with next (drop (i + 1) its)) ≡ all
kept_turn g its i it names next out longer all lt at n o h =
    let h' : out ++ map g (kept_with names (it ∷ drop (i + 1) its)) ≡ all = subst (λ (xs : List TotalItem). out ++ map g (kept_with names xs) ≡ all) (front its i it lt at) h in
    rw (n, o) (turned g it (drop (i + 1) its) names out all (is_among (item_name it) names) h')

-- behind the last item
pub kept_done : {B : Type 0} (g : TotalItem → B) (its : List TotalItem) (i : ℕ) (names : List (List ℕ)) (out : List B)
    → length its ≤ i → out ++ map g (kept_with names (drop i its)) ≡ map g (kept_with [] its) → out ≡ map g (first_items its)
kept_done g its i names out le h =
    sym (append-nil out) ∙ (sym (ap (λ (xs : List TotalItem). out ++ map g (kept_with names xs)) (nothing_left its i le)) ∙ (h ∙ ap (map g) (kept_from_none its)))

pub same_items : (its : List TotalItem) → map (λ it. it) its ≡ its
same_items [] = refl
same_items (it ∷ its) = ap (λ xs. it ∷ xs) (same_items its)
