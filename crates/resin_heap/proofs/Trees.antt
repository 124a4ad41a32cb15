-- What trees keep, as their branches go on.
use Rattle.std.proofs.Common.{◌≡◌, ℕ, zero, suc, ◌+◌, ◌-◌, ◌<◌, ◌≤◌, ◌/◌, ◌%◌, Bool, true, false, List, [], ◌∷◌, ◌++◌, length, slice_get, refl, sym, ap, ◌∙◌, subst, arith, inl, inr, ◌⊎◌, Option, Some, None, append_assoc, length-append}
use Rattle.std.specs.Prelude.{nat_eq, IfSome, Result, Ok, Err, IfOk, OnOk, OnErr, if◌then◌else◌}
use Rattle.std.specs.Option.{option_map_or}
use Rattle.std.proofs.lemmas.Bool.{cases_lt, eqb-true, eqb-false, eq-eqb}
use Rattle.std.proofs.lemmas.Bool.Decides.{eqb_tells}
use Rattle.std.proofs.lemmas.List.{append-nil}
use Rattle.resin_heap.specs.declared.branches.Branch.{Branch}
use Rattle.resin_heap.specs.declared.classes.MethodAt.{MethodAt}
use Rattle.resin_heap.specs.Branches.{bare, branch_of, is_odd, child_for, place_below, with_child, with_method, found_within, found_at, HasChildrenBelow, IsClosed, Grown}
use Rattle.resin_heap.proofs.Seats.{get_left, get_seam, get_some}

-- how far down it is looked makes no difference
within_room : (m n : ℕ) (bs : List Branch) (tree : Option ℕ) (place : ℕ) → place < m → place < n → found_within m bs tree place ≡ found_within n bs tree place
unfolding found_within
within_room zero n bs tree place h g = absurd (omega arith)
within_room (suc m) zero bs tree place h g = absurd (omega arith)
within_room (suc m) (suc n) bs tree zero h g = refl
within_room (suc m) (suc n) bs tree (suc place) h g =
    within_room m n bs (child_for (branch_of bs tree) (suc place)) (place_below (suc place)) (omega arith) (omega arith)

pub found_here : (bs : List Branch) (tree : Option ℕ) → found_at bs tree 0 ≡ (branch_of bs tree).method
unfolding found_at found_within
found_here bs tree = refl

pub found_down : (bs : List Branch) (tree : Option ℕ) (place : ℕ) → 0 < place → found_at bs tree place ≡ found_at bs (child_for (branch_of bs tree) place) (place_below place)
unfolding found_at found_within
found_down bs tree zero h = absurd (omega arith)
found_down bs tree (suc place) h =
    within_room (suc place) (suc (place_below (suc place))) bs (child_for (branch_of bs tree) (suc place)) (place_below (suc place)) (omega arith) (omega arith)

-- a tree without branches keeps nothing
no_child : (b : Bool) → (if b then bare.odd else bare.even) ≡ None
no_child true = refl
no_child false = refl

none_within : (n : ℕ) (bs : List Branch) (place : ℕ) → found_within n bs None place ≡ None
unfolding found_within
none_within zero bs place = refl
none_within (suc n) bs zero = refl
none_within (suc n) bs (suc place) =
    ap (λ child. found_within n bs child (place_below (suc place))) (no_child (is_odd (suc place))) ∙ none_within n bs (place_below (suc place))

pub nothing_found : (bs : List Branch) (place : ℕ) → found_at bs None place ≡ None
unfolding found_at
nothing_found bs place = none_within (suc place) bs place

-- ---- the children of a branch
pub below_more : (o : Option ℕ) (m n : ℕ) → m ≤ n → IfSome o (λ k. k < m) → IfSome o (λ k. k < n)
below_more None m n h g = tt
below_more (Some k) m n h g = omega arith

pub children_below_more : (b : Branch) (m n : ℕ) → m ≤ n → HasChildrenBelow m b → HasChildrenBelow n b
children_below_more b m n h g = record { odd = below_more b.odd m n h g.odd; even = below_more b.even m n h g.even }

pub children_there : (bs : List Branch) → IsClosed bs → (tree : Option ℕ) → HasChildrenBelow (length bs) (branch_of bs tree)
children_there bs closed None = record { odd = tt; even = tt }
children_there bs closed (Some n) =
    elim (slice_get bs n) as (λ o. slice_get bs n ≡ o → HasChildrenBelow (length bs) (option_map_or (λ b. b) o bare)) [
      | None ↦ λ _. record { odd = tt; even = tt }
      | Some b ↦ λ e. children_below_more b n (length bs) (omega (arith, get_some bs n b e)) (closed n b e)
    ] refl

chosen_there : (b : Branch) (n : ℕ) (odd : Bool) → HasChildrenBelow n b → IfSome (if odd then b.odd else b.even) (λ child. child < n)
chosen_there b n true h = h.odd
chosen_there b n false h = h.even

pub child_there : (bs : List Branch) → IsClosed bs → (tree : Option ℕ) (place : ℕ) → IfSome (child_for (branch_of bs tree) place) (λ child. child < length bs)
child_there bs closed tree place = chosen_there (branch_of bs tree) (length bs) (is_odd place) (children_there bs closed tree)

-- ---- more branches
same_branch : (bs more : List Branch) (tree : Option ℕ) → IfSome tree (λ n. n < length bs) → branch_of (bs ++ more) tree ≡ branch_of bs tree
same_branch bs more None h = refl
same_branch bs more (Some n) h = ap (λ o. option_map_or (λ b. b) o bare) (get_left bs more n h)

same_within : (n : ℕ) (bs more : List Branch) → IsClosed bs → (tree : Option ℕ) → IfSome tree (λ k. k < length bs) → (place : ℕ) → found_within n (bs ++ more) tree place ≡ found_within n bs tree place
unfolding found_within
same_within zero bs more closed tree h place = refl
same_within (suc n) bs more closed tree h zero = ap (λ b. b.method) (same_branch bs more tree h)
same_within (suc n) bs more closed tree h (suc place) =
    ap (λ b. found_within n (bs ++ more) (child_for b (suc place)) (place_below (suc place))) (same_branch bs more tree h)
    ∙ same_within n bs more closed (child_for (branch_of bs tree) (suc place)) (child_there bs closed tree (suc place)) (place_below (suc place))

-- a tree keeps what it kept
pub same_found : (bs more : List Branch) → IsClosed bs → (tree : Option ℕ) → IfSome tree (λ k. k < length bs) → (place : ℕ) → found_at (bs ++ more) tree place ≡ found_at bs tree place
unfolding found_at
same_found bs more closed tree h place = same_within (suc place) bs more closed tree h place

last_branch : (bs : List Branch) (b : Branch) → branch_of (bs ++ b ∷ []) (Some (length bs)) ≡ b
last_branch bs b = ap (λ o. option_map_or (λ b. b) o bare) (get_seam bs b)

some_same : (a b : Branch) → Some a ≡ Some b → a ≡ b
some_same a b e = cc

pub closed_push : (bs : List Branch) (b : Branch) → IsClosed bs → HasChildrenBelow (length bs) b → IsClosed (bs ++ b ∷ [])
closed_push bs b closed h i x e =
    elim (cases_lt i (length bs)) [
      | inl within ↦ closed i x (sym (get_left bs (b ∷ []) i within) ∙ e)
      | inr past ↦
          let at : i ≡ length bs = omega (arith, get_some (bs ++ b ∷ []) i x e, length-append bs (b ∷ [])) in
          let is : b ≡ x = some_same b x (sym (get_seam bs b) ∙ ap (slice_get (bs ++ b ∷ [])) (sym at) ∙ e) in
          subst (λ (y : Branch). HasChildrenBelow i y) is (subst (λ (n : ℕ). HasChildrenBelow n b) (sym at) h)
    ]

pub grown_not : {X : Type 0} (xs : List X) → Grown xs xs
grown_not xs = ([], sym (append-nil xs))

pub grown_twice : {X : Type 0} (xs ys zs : List X) → Grown xs ys → Grown ys zs → Grown xs zs
grown_twice xs ys zs (more, e) (further, f) = (more ++ further, f ∙ ap (λ l. l ++ further) e ∙ append_assoc xs more further)

pub longer : {X : Type 0} (xs ys : List X) → Grown xs ys → length xs ≤ length ys
longer xs ys (more, e) = omega (arith, ap length e, length-append xs more)

-- ---- a branch with another method, or another child
pub children_with_method : (b : Branch) (n : ℕ) (method : MethodAt) → HasChildrenBelow n b → HasChildrenBelow n (with_method b method)
children_with_method b n method h = record { odd = h.odd; even = h.even }

children_chosen : (b : Branch) (n child : ℕ) (odd : Bool) → child < n → HasChildrenBelow n b → HasChildrenBelow n (if odd then record { method = b.method; odd = Some child; even = b.even } else record { method = b.method; odd = b.odd; even = Some child })
children_chosen b n child true h g = record { odd = h; even = g.even }
children_chosen b n child false h g = record { odd = g.odd; even = h }

pub children_with_child : (b : Branch) (n place child : ℕ) → child < n → HasChildrenBelow n b → HasChildrenBelow n (with_child b place child)
children_with_child b n place child h g = children_chosen b n child (is_odd place) h g

-- the branch with another child on one side
on_side : Branch → ℕ → Bool → Branch
on_side b child odd = if odd then record { method = b.method; odd = Some child; even = b.even } else record { method = b.method; odd = b.odd; even = Some child }

same_method : (b : Branch) (child : ℕ) (odd : Bool) → (on_side b child odd).method ≡ b.method
unfolding on_side
same_method b child true = refl
same_method b child false = refl

-- its child on that side is the new one, and on the other what it was
new_side : (b : Branch) (child : ℕ) (p w : Bool) → w ≡ p → (if w then (on_side b child p).odd else (on_side b child p).even) ≡ Some child
unfolding on_side
new_side b child true true e = refl
new_side b child false false e = refl
new_side b child true false e = cc
new_side b child false true e = cc

old_side : (b : Branch) (child : ℕ) (p w : Bool) → (w ≡ p → ⊥) → (if w then (on_side b child p).odd else (on_side b child p).even) ≡ (if w then b.odd else b.even)
unfolding on_side
old_side b child true true n = absurd (n refl)
old_side b child false false n = absurd (n refl)
old_side b child true false n = refl
old_side b child false true n = refl

is_on_side : (b : Branch) (place child : ℕ) → with_child b place child ≡ on_side b child (is_odd place)
unfolding on_side
is_on_side b place child = refl

kept_method : (b : Branch) (place child : ℕ) → (with_child b place child).method ≡ b.method
kept_method b place child = ap (λ x. x.method) (is_on_side b place child) ∙ same_method b child (is_odd place)

new_child : (b : Branch) (place child wanted : ℕ) → is_odd wanted ≡ is_odd place → child_for (with_child b place child) wanted ≡ Some child
new_child b place child wanted e = ap (λ x. child_for x wanted) (is_on_side b place child) ∙ new_side b child (is_odd place) (is_odd wanted) e

old_child : (b : Branch) (place child wanted : ℕ) → (is_odd wanted ≡ is_odd place → ⊥) → child_for (with_child b place child) wanted ≡ child_for b wanted
old_child b place child wanted n = ap (λ x. child_for x wanted) (is_on_side b place child) ∙ old_side b child (is_odd place) (is_odd wanted) n

bools : (a b : Bool) → (a ≡ b) ⊎ (a ≡ b → ⊥)
bools true true = inl refl
bools false false = inl refl
bools true false = inr (λ e. cc)
bools false true = inr (λ e. cc)

-- ---- places
not_same : (m n : ℕ) → (m ≡ n → ⊥) → nat_eq m n ≡ false
not_same m n h = elim (eqb_tells m n) [ inl e ↦ absurd (h e.1) | inr e ↦ e.0 ]

alike_parity : (m n : ℕ) → is_odd m ≡ is_odd n → m % 2 ≡ n % 2
alike_parity m n e =
    elim (eqb_tells (m % 2) 1) [
      | inl a ↦ let f : n % 2 ≡ 1 = eqb-true (n % 2) 1 (sym e ∙ a.0) in omega (arith, f, a.1)
      | inr a ↦ let f : n % 2 ≡ 1 → ⊥ = eqb-false (n % 2) 1 (sym e ∙ a.0) in omega (arith, f, a.1)
    ]

-- on one side a place is another one where it is so below
places_below : (m n : ℕ) → 0 < m → 0 < n → is_odd m ≡ is_odd n → nat_eq (place_below m) (place_below n) ≡ nat_eq m n
places_below m n a b e =
    elim (eqb_tells m n) [
      | inl s ↦ eq-eqb (place_below m) (place_below n) (ap place_below s.1) ∙ sym s.0
      | inr s ↦ not_same (place_below m) (place_below n) (λ same. s.1 (omega (arith, alike_parity m n e, same))) ∙ sym s.0
    ]

-- ---- a tree with one more method, which goes last
pub put_here : (bs : List Branch) → IsClosed bs → (tree : Option ℕ) (method : MethodAt) (wanted : ℕ)
    → found_at (bs ++ with_method (branch_of bs tree) method ∷ []) (Some (length bs)) wanted ≡ (if nat_eq wanted 0 then Some method else found_at bs tree wanted)
put_here bs closed tree method zero =
    let new = with_method (branch_of bs tree) method in
    found_here (bs ++ new ∷ []) (Some (length bs)) ∙ ap (λ b. b.method) (last_branch bs new)
put_here bs closed tree method (suc wanted) =
    let new = with_method (branch_of bs tree) method in
    found_down (bs ++ new ∷ []) (Some (length bs)) (suc wanted) (omega arith)
    ∙ ap (λ b. found_at (bs ++ new ∷ []) (child_for b (suc wanted)) (place_below (suc wanted))) (last_branch bs new)
    ∙ same_found bs (new ∷ []) closed (child_for (branch_of bs tree) (suc wanted)) (child_there bs closed tree (suc wanted)) (place_below (suc wanted))
    ∙ sym (found_down bs tree (suc wanted) (omega arith))
    ∙ ap (λ t. if t then Some method else found_at bs tree (suc wanted)) (sym (not_same (suc wanted) 0 (λ e. omega (arith, e))))

module _ (bs mid : List Branch) (closed : IsClosed bs) (closed_mid : IsClosed mid) (grown : Grown bs mid) (tree : Option ℕ) (place child : ℕ) (method : MethodAt)
    (further : 0 < place) (within : child < length mid)
    (below : (wanted : ℕ) → found_at mid (Some child) wanted ≡ (if nat_eq wanted (place_below place) then Some method else found_at bs (child_for (branch_of bs tree) place) wanted)) where
  on_its_side : (wanted : ℕ) → 0 < wanted → is_odd wanted ≡ is_odd place
      → found_at (mid ++ with_child (branch_of bs tree) place child ∷ []) (child_for (with_child (branch_of bs tree) place child) wanted) (place_below wanted) ≡ (if nat_eq wanted place then Some method else found_at bs tree wanted)
  on_its_side wanted h side =
      let b = branch_of bs tree in
      let new = with_child b place child in
      ap (λ k. found_at (mid ++ new ∷ []) k (place_below wanted)) (new_child b place child wanted side)
      ∙ same_found mid (new ∷ []) closed_mid (Some child) within (place_below wanted)
      ∙ below (place_below wanted)
      ∙ ap (λ t. if t then Some method else found_at bs (child_for b place) (place_below wanted)) (places_below wanted place h further side)
      ∙ ap (λ odd. if nat_eq wanted place then Some method else found_at bs (if odd then b.odd else b.even) (place_below wanted)) (sym side)
      ∙ ap (λ o. if nat_eq wanted place then Some method else o) (sym (found_down bs tree wanted h))

  on_the_other : (wanted : ℕ) → 0 < wanted → (is_odd wanted ≡ is_odd place → ⊥)
      → found_at (mid ++ with_child (branch_of bs tree) place child ∷ []) (child_for (with_child (branch_of bs tree) place child) wanted) (place_below wanted) ≡ (if nat_eq wanted place then Some method else found_at bs tree wanted)
  on_the_other wanted h side =
      let b = branch_of bs tree in
      let new = with_child b place child in
      let there = child_there bs closed tree wanted in
      ap (λ k. found_at (mid ++ new ∷ []) k (place_below wanted)) (old_child b place child wanted side)
      ∙ same_found mid (new ∷ []) closed_mid (child_for b wanted) (below_more (child_for b wanted) (length bs) (length mid) (longer bs mid grown) there) (place_below wanted)
      ∙ ap (λ l. found_at l (child_for b wanted) (place_below wanted)) grown.1
      ∙ same_found bs grown.0 closed (child_for b wanted) there (place_below wanted)
      ∙ sym (found_down bs tree wanted h)
      ∙ ap (λ t. if t then Some method else found_at bs tree wanted) (sym (not_same wanted place (λ e. side (ap is_odd e))))

  pub put_below : (wanted : ℕ) → found_at (mid ++ with_child (branch_of bs tree) place child ∷ []) (Some (length mid)) wanted ≡ (if nat_eq wanted place then Some method else found_at bs tree wanted)
  put_below zero =
      let b = branch_of bs tree in
      let new = with_child b place child in
      found_here (mid ++ new ∷ []) (Some (length mid))
      ∙ ap (λ x. x.method) (last_branch mid new)
      ∙ kept_method b place child
      ∙ sym (found_here bs tree)
      ∙ ap (λ t. if t then Some method else found_at bs tree 0) (sym (not_same 0 place (λ e. omega (arith, e, further))))
  put_below (suc wanted) =
      let b = branch_of bs tree in
      let new = with_child b place child in
      found_down (mid ++ new ∷ []) (Some (length mid)) (suc wanted) (omega arith)
      ∙ ap (λ x. found_at (mid ++ new ∷ []) (child_for x (suc wanted)) (place_below (suc wanted))) (last_branch mid new)
      ∙ elim (bools (is_odd (suc wanted)) (is_odd place)) [
        | inl side ↦ on_its_side (suc wanted) (omega arith) side
        | inr side ↦ on_the_other (suc wanted) (omega arith) side
      ]

-- ---- a branch that is kept, where there is memory for it
pub pushed_grown : {E : Type 0} (r : Result ℕ E) (old mid new : List Branch) (b : Branch) → Grown old mid → OnOk r (new ≡ mid ++ b ∷ []) → OnErr r (new ≡ mid) → Grown old new
pushed_grown (Ok n) old mid new b grown e f = grown_twice old mid new grown (b ∷ [], e)
pushed_grown (Err x) old mid new b grown e f = grown_twice old mid new grown ([], f ∙ sym (append-nil mid))

pub pushed_within : {E : Type 0} (r : Result ℕ E) (mid new : List Branch) (b : Branch) → IfOk r (λ n. n ≡ length mid) → OnOk r (new ≡ mid ++ b ∷ []) → IfOk r (λ n. n < length new)
pushed_within (Ok n) mid new b is e = omega (arith, is, ap length e, length-append mid (b ∷ []))
pushed_within (Err x) mid new b is e = tt

pub pushed_found : {E : Type 0} (r : Result ℕ E) (mid new : List Branch) (b : Branch) (P : List Branch → ℕ → Type 0) → IfOk r (λ n. n ≡ length mid) → OnOk r (new ≡ mid ++ b ∷ [])
    → P (mid ++ b ∷ []) (length mid) → IfOk r (λ n. P new n)
pushed_found (Ok n) mid new b P is e h = subst (λ m. P new m) (sym is) (subst (λ (l : List Branch). P l (length mid)) (sym e) h)
pushed_found (Err x) mid new b P is e h = tt

-- ---- what a tree with one more method has, in the words of its making
pub children_first : (bs : List Branch) (own b : Branch) (tree : Option ℕ) (method : MethodAt) → IsClosed bs → own ≡ branch_of bs tree → b ≡ with_method own method → HasChildrenBelow (length bs) b
children_first bs own b tree method closed e f =
    subst (λ (x : Branch). HasChildrenBelow (length bs) x) (sym (f ∙ ap (λ x. with_method x method) e)) (children_with_method (branch_of bs tree) (length bs) method (children_there bs closed tree))

pub child_further : (bs : List Branch) (own : Branch) (tree kid : Option ℕ) (place : ℕ) → IsClosed bs → own ≡ branch_of bs tree → kid ≡ child_for own place → IfSome kid (λ n. n < length bs)
child_further bs own tree kid place closed e f =
    subst (λ (o : Option ℕ). IfSome o (λ n. n < length bs)) (sym (f ∙ ap (λ x. child_for x place) e)) (child_there bs closed tree place)

pub children_further : (bs mid : List Branch) (own b : Branch) (tree : Option ℕ) (place child : ℕ) → IsClosed bs → Grown bs mid → own ≡ branch_of bs tree → b ≡ with_child own place child → child < length mid
    → HasChildrenBelow (length mid) b
children_further bs mid own b tree place child closed grown e f within =
    subst (λ (x : Branch). HasChildrenBelow (length mid) x) (sym (f ∙ ap (λ x. with_child x place child) e))
    (children_with_child (branch_of bs tree) (length mid) place child within (children_below_more (branch_of bs tree) (length bs) (length mid) (longer bs mid grown) (children_there bs closed tree)))

pub put_first : {E : Type 0} (r : Result ℕ E) (bs new : List Branch) (own b : Branch) (tree : Option ℕ) (place : ℕ) (method : MethodAt) → IsClosed bs → own ≡ branch_of bs tree → b ≡ with_method own method → place ≡ 0
    → IfOk r (λ n. n ≡ length bs) → OnOk r (new ≡ bs ++ b ∷ [])
    → IfOk r (λ n. (wanted : ℕ) → found_at new (Some n) wanted ≡ (if nat_eq wanted place then Some method else found_at bs tree wanted))
put_first r bs new own b tree place method closed e f first number pushed =
    pushed_found r bs new b (λ l n. (wanted : ℕ) → found_at l (Some n) wanted ≡ (if nat_eq wanted place then Some method else found_at bs tree wanted)) number pushed
    (λ wanted.
    ap (λ x. found_at (bs ++ x ∷ []) (Some (length bs)) wanted) (f ∙ ap (λ x. with_method x method) e)
    ∙ put_here bs closed tree method wanted
    ∙ ap (λ p. if nat_eq wanted p then Some method else found_at bs tree wanted) (sym first))

pub put_further : {E : Type 0} (r : Result ℕ E) (bs mid new : List Branch) (own b : Branch) (tree kid : Option ℕ) (place child : ℕ) (method : MethodAt) → IsClosed bs → IsClosed mid → Grown bs mid
    → own ≡ branch_of bs tree → kid ≡ child_for own place → b ≡ with_child own place child → (place ≡ 0 → ⊥) → child < length mid
    → ((wanted : ℕ) → found_at mid (Some child) wanted ≡ (if nat_eq wanted ((place - 1) / 2) then Some method else found_at bs kid wanted))
    → IfOk r (λ n. n ≡ length mid) → OnOk r (new ≡ mid ++ b ∷ [])
    → IfOk r (λ n. (wanted : ℕ) → found_at new (Some n) wanted ≡ (if nat_eq wanted place then Some method else found_at bs tree wanted))
put_further r bs mid new own b tree kid place child method closed closed_mid grown e f g further within below number pushed =
    pushed_found r mid new b (λ l n. (wanted : ℕ) → found_at l (Some n) wanted ≡ (if nat_eq wanted place then Some method else found_at bs tree wanted)) number pushed
    (λ wanted.
    ap (λ x. found_at (mid ++ x ∷ []) (Some (length mid)) wanted) (g ∙ ap (λ x. with_child x place child) e)
    ∙ put_below bs mid closed closed_mid grown tree place child method (omega (arith, further)) within
    (λ k. below k ∙ ap (λ o. if nat_eq k (place_below place) then Some method else found_at bs o k) (f ∙ ap (λ x. child_for x place) e))
    wanted)

pub found_next : (bs : List Branch) (tree kid : Option ℕ) (place : ℕ) (own : Branch) → own ≡ branch_of bs tree → kid ≡ child_for own place → 0 < place → found_at bs tree place ≡ found_at bs kid ((place - 1) / 2)
found_next bs tree kid place own e f h = found_down bs tree place h ∙ ap (λ o. found_at bs o (place_below place)) (sym (f ∙ ap (λ x. child_for x place) e))

pub found_last : (bs : List Branch) (tree : Option ℕ) (place : ℕ) (own : Branch) → own ≡ branch_of bs tree → place ≤ 0 → own.method ≡ found_at bs tree place
found_last bs tree place own e h =
    let none : 0 ≡ place = omega arith in
    ap (λ x. x.method) e ∙ sym (found_here bs tree) ∙ ap (found_at bs tree) none
