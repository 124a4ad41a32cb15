-- The methods that trees keep at the numbers of names.
use Rattle.std.proofs.Common.{◌≡◌, ℕ, ◌+◌, ◌<◌, ◌≤◌, Bool, true, false, cond, List, [], ◌∷◌, ◌++◌, length, position, get_or, refl, sym, ap, ◌∙◌, subst, arith, inl, inr, Option, Some, None, drop, is_some, true≢false}
use Rattle.std.specs.Prelude.{nat_eq, IfSome, Result, Ok, Err, IfOk, if◌then◌else◌}
use Rattle.std.specs.Cmp.Lexicographic.{bytes_decides}
use Rattle.std.specs.List.{position_from}
use Rattle.std.specs.Map.{keys_of, lookup}
use Rattle.std.specs.Option.{option_map_or, option_and_then, option_or}
use Rattle.std.specs.Str.{bytes_eq, str_to_ascii_lowercase}
use Rattle.std.proofs.lemmas.Bool.Decides.{eqb_tells}
use Rattle.std.proofs.lemmas.Iterator.Adapters.{position_from-zero}
use Rattle.std.proofs.lemmas.List.{drop_all, drop_more, length-map, map-append}
use Rattle.std.proofs.lemmas.List.Quantifiers.{position-Some}
use Rattle.indexmap.specs.IndexMap.{insert_entry}
use Rattle.indexmap.proofs.MapLemmas.{insert_entry-absent, absent_from_lookup, some_index}
use Rattle.resin_tree.specs.declared.declaration.Function.{Function}
use Rattle.resin_heap.specs.declared.branches.Branch.{Branch}
use Rattle.resin_heap.specs.declared.classes.MethodAt.{MethodAt}
use Rattle.resin_names.specs.Names.{same_name, same_name_equiv}
use Rattle.resin_heap.specs.Classes.{method_names}
use Rattle.resin_heap.specs.Branches.{found_at, IsClosed, Grown}
use Rattle.resin_heap.specs.MethodIndex.{Index, reached, own_or, IsRoot, Keeps}
use Rattle.resin_heap.proofs.Seats.{none_of, position_push}
use Rattle.resin_heap.proofs.Trees.{nothing_found, same_found, below_more, longer}

-- ---- the numbers of names
from_more : {X : Type 0} (p : X → Bool) (n : ℕ) (xs ys : List X) (k : ℕ) → position_from p n xs ≡ Some k → position_from p n (xs ++ ys) ≡ Some k
from_more p n [] ys k e = cc
from_more p n (x ∷ xs) ys k e =
    elim (p x) as (λ b. cond b (Some n) (position_from p (n + 1) xs) ≡ Some k → cond b (Some n) (position_from p (n + 1) (xs ++ ys)) ≡ Some k) [
      | true ↦ λ f. f
      | false ↦ λ f. from_more p (n + 1) xs ys k f
    ] e

-- a name keeps its number
number_kept : {X : Type 0} (p : X → Bool) (xs ys : List X) (k : ℕ) → position p xs ≡ Some k → position p (xs ++ ys) ≡ Some k
number_kept p xs ys k e = position_from-zero p (xs ++ ys) ∙ from_more p 0 xs ys k (sym (position_from-zero p xs) ∙ e)

from_past : {X : Type 0} (p : X → Bool) (n : ℕ) (xs : List X) (k : ℕ) → position_from p n xs ≡ Some k → n ≤ k
from_past p n [] k e = cc
from_past p n (x ∷ xs) k e =
    elim (p x) as (λ b. cond b (Some n) (position_from p (n + 1) xs) ≡ Some k → n ≤ k) [
      | true ↦ λ f. let g : n ≡ k = cc in omega (arith, g)
      | false ↦ λ f. omega (arith, from_past p (n + 1) xs k f)
    ] e

from_new : {X : Type 0} (p : X → Bool) (n : ℕ) (xs ys : List X) (k : ℕ) → position_from p n xs ≡ None → position_from p n (xs ++ ys) ≡ Some k → n + length xs ≤ k
from_new p n [] ys k e f = omega (arith, from_past p n ys k f)
from_new p n (x ∷ xs) ys k e f =
    elim (p x) as (λ b. cond b (Some n) (position_from p (n + 1) xs) ≡ None → cond b (Some n) (position_from p (n + 1) (xs ++ ys)) ≡ Some k → n + length (x ∷ xs) ≤ k) [
      | true ↦ λ g h. cc
      | false ↦ λ g h. omega (arith, from_new p (n + 1) xs ys k g h)
    ] e f

-- a new one is larger than those before
number_new : {X : Type 0} (p : X → Bool) (xs ys : List X) (k : ℕ) → position p xs ≡ None → position p (xs ++ ys) ≡ Some k → length xs ≤ k
number_new p xs ys k e f = omega (arith, from_new p 0 xs ys k (sym (position_from-zero p xs) ∙ e) (sym (position_from-zero p (xs ++ ys)) ∙ f))

-- a name that is given a number
number_last : (names : List (List ℕ)) (name : List ℕ) → position (same_name name) names ≡ None → position (same_name name) (names ++ name ∷ []) ≡ Some (length names)
number_last names name e =
    position_push (same_name name) names name
    ∙ ap (λ o. option_or o (if same_name name name then Some (length names) else None)) e
    ∙ ap (λ b. if b then Some (length names) else None) (same_name_equiv.refl name)

module _ {X : Type 0} (es new : List (List ℕ × X)) (name key : List ℕ) (x : X) (same : key ≡ name) (absent : lookup (same_name name) es ≡ None) (is : new ≡ insert_entry same_name es key x) where
  name_last : new ≡ es ++ (name, x) ∷ []
  name_last = is ∙ ap (λ k. insert_entry same_name es k x) same ∙ insert_entry-absent same_name name x es (absent_from_lookup (same_name name) es absent)

  keys_last : keys_of new ≡ keys_of es ++ name ∷ []
  keys_last = ap keys_of name_last ∙ map-append (λ e. e.0) es ((name, x) ∷ [])

  pub names_grown : Grown (keys_of es) (keys_of new)
  names_grown = (name ∷ [], keys_last)

  pub number_given : (number : ℕ) → number ≡ length es → position (same_name name) (keys_of new) ≡ Some number
  number_given number count =
      ap (position (same_name name)) keys_last
      ∙ number_last (keys_of es) name (none_of (position (same_name name) (keys_of es)) (some_index (same_name name) es ∙ ap is_some absent))
      ∙ ap Some (length-map es (λ e. e.0) ∙ sym count)

-- ---- names and branches go on
found_later : (x y : Index) (tree : Option ℕ) (name : List ℕ) → Grown x.names y.names → IsRoot y tree
    → ((k : ℕ) → found_at y.branches tree k ≡ found_at x.branches tree k) → ((k : ℕ) → length x.names ≤ k → found_at x.branches tree k ≡ None)
    → (o : Option ℕ) → position (same_name name) x.names ≡ o → (p : Option ℕ) → position (same_name name) y.names ≡ p
    → option_and_then (found_at y.branches tree) p ≡ option_and_then (found_at x.branches tree) o
found_later x y tree name (more, e) root same beyond (Some k) f p g =
    let h : position (same_name name) y.names ≡ Some k = ap (position (same_name name)) e ∙ number_kept (same_name name) x.names more k f in
    ap (option_and_then (found_at y.branches tree)) (sym g ∙ h) ∙ same k
found_later x y tree name (more, e) root same beyond None f None g = refl
found_later x y tree name (more, e) root same beyond None f (Some k) g =
    same k ∙ beyond k (number_new (same_name name) x.names more k f (sym (ap (position (same_name name)) e) ∙ g))

keeps_found : (x y : Index) → Grown x.names y.names → length x.branches ≤ length y.branches
    → ((tree : Option ℕ) → IfSome tree (λ n. n < length x.branches) → (k : ℕ) → found_at y.branches tree k ≡ found_at x.branches tree k) → Keeps x y
keeps_found x y names longer_now same tree root =
    let still : IsRoot y tree = record {
      there = below_more tree (length x.branches) (length y.branches) longer_now root.there;
      named = λ k h. same tree root.there k ∙ root.named k (omega (arith, h, longer x.names y.names names));
    } in (
      still,
      λ name. found_later x y tree name names still (same tree root.there) root.named (position (same_name name) x.names) refl (position (same_name name) y.names) refl,
    )

pub keeps_grown : (x y : Index) → IsClosed x.branches → Grown x.names y.names → Grown x.branches y.branches → Keeps x y
keeps_grown x y closed names branches =
    keeps_found x y names (longer x.branches y.branches branches)
    (λ tree there k. ap (λ bs. found_at bs tree k) branches.1 ∙ same_found x.branches branches.0 closed tree there k)

pub keeps_named : (x y : Index) → Grown x.names y.names → y.branches ≡ x.branches → Keeps x y
keeps_named x y names same =
    keeps_found x y names (omega (arith, ap length same)) (λ tree there k. ap (λ bs. found_at bs tree k) same)

pub keeps_twice : (x y z : Index) → Keeps x y → Keeps y z → Keeps x z
keeps_twice x y z k l tree root =
    let a = k tree root in
    let b = l tree a.0 in
    (b.0, λ name. b.1 name ∙ a.1 name)

pub keeps_all : (x : Index) → Keeps x x
keeps_all x tree root = (root, λ name. refl)

pub no_root : (x : Index) → IsRoot x None
no_root x = record { there = tt; named = λ k h. nothing_found x.branches k }

number_reached : (bs : List Branch) (o : Option ℕ) → option_and_then (found_at bs None) o ≡ None
number_reached bs None = refl
number_reached bs (Some k) = nothing_found bs k

pub nothing_reached : (x : Index) (name : List ℕ) → reached x None name ≡ None
nothing_reached x name = number_reached x.branches (position (same_name name) x.names)

-- ---- one more method
alike_found : (a b : List ℕ) (names : List (List ℕ)) → same_name a b ≡ true → position (same_name a) names ≡ position (same_name b) names
alike_found a b names h = ap (λ f. position (λ k. bytes_eq f (str_to_ascii_lowercase k)) names) ((bytes_decides (str_to_ascii_lowercase a) (str_to_ascii_lowercase b)).0 h)

-- two names of one number are the same
one_number : (a b : List ℕ) (names : List (List ℕ)) (k : ℕ) → position (same_name a) names ≡ Some k → position (same_name b) names ≡ Some k → same_name a b ≡ true
one_number a b names k e f =
    let at = get_or names k [] in
    let first : same_name a at ≡ true = (position-Some (same_name a) names k [] e).1 in
    let second : same_name b at ≡ true = (position-Some (same_name b) names k [] f).1 in
    ap (λ x. bytes_eq x (str_to_ascii_lowercase b)) (bytes_same a at first ∙ sym (bytes_same b at second)) ∙ same_name_equiv.refl b
  where
    bytes_same : (x y : List ℕ) → same_name x y ≡ true → str_to_ascii_lowercase x ≡ str_to_ascii_lowercase y
    bytes_same x y h = (bytes_decides (str_to_ascii_lowercase x) (str_to_ascii_lowercase y)).0 h

module _ (x y : Index) (tree : Option ℕ) (name : List ℕ) (number new : ℕ) (method : MethodAt) (root : IsRoot x tree)
    (names : Grown x.names y.names) (is : position (same_name name) y.names ≡ Some number) (there : new < length y.branches)
    (put : (k : ℕ) → found_at y.branches (Some new) k ≡ (if nat_eq k number then Some method else found_at x.branches tree k)) where
  other_number : (k : ℕ) → (k ≡ number → ⊥) → found_at y.branches (Some new) k ≡ found_at x.branches tree k
  other_number k n =
      elim (eqb_tells k number) [
        | inl e ↦ absurd (n e.1)
        | inr e ↦ put k ∙ ap (λ t. if t then Some method else found_at x.branches tree k) e.0
      ]

  pub put_root : IsRoot y (Some new)
  put_root = record {
    there = there;
    named = λ k h.
        let n : number < length y.names = (position-Some (same_name name) y.names number [] is).0 in
        other_number k (λ e. omega (arith, e, h, n)) ∙ root.named k (omega (arith, h, longer x.names y.names names));
  }

  here : (wanted : List ℕ) → same_name wanted name ≡ true → reached y (Some new) wanted ≡ Some method
  here wanted h =
      ap (option_and_then (found_at y.branches (Some new))) (alike_found wanted name y.names h ∙ is)
      ∙ put number
      ∙ ap (λ t. if t then Some method else found_at x.branches tree number) (eq_itself number)
    where
      eq_itself : (n : ℕ) → nat_eq n n ≡ true
      eq_itself n = elim (eqb_tells n n) [ inl e ↦ e.0 | inr e ↦ absurd (e.1 refl) ]

  elsewhere : (wanted : List ℕ) → same_name wanted name ≡ false
      → (o : Option ℕ) → position (same_name wanted) x.names ≡ o → (p : Option ℕ) → position (same_name wanted) y.names ≡ p
      → option_and_then (found_at y.branches (Some new)) p ≡ option_and_then (found_at x.branches tree) o
  elsewhere wanted h (Some k) f p g =
      let later : position (same_name wanted) y.names ≡ Some k = ap (position (same_name wanted)) names.1 ∙ number_kept (same_name wanted) x.names names.0 k f in
      ap (option_and_then (found_at y.branches (Some new))) (sym g ∙ later)
      ∙ other_number k (λ e. true≢false (sym (one_number wanted name y.names k later (is ∙ ap Some (sym e))) ∙ h))
  elsewhere wanted h None f None g = refl
  elsewhere wanted h None f (Some k) g =
      other_number k (λ e. true≢false (sym (one_number wanted name y.names k g (is ∙ ap Some (sym e))) ∙ h))
      ∙ root.named k (number_new (same_name wanted) x.names names.0 k f (sym (ap (position (same_name wanted)) names.1) ∙ g))

  pub put_reached : (wanted : List ℕ) → reached y (Some new) wanted ≡ (if same_name wanted name then Some method else reached x tree wanted)
  put_reached wanted =
      elim (same_name wanted name) as (λ b. same_name wanted name ≡ b → reached y (Some new) wanted ≡ (if b then Some method else reached x tree wanted)) [
        | true ↦ λ h. here wanted h
        | false ↦ λ h. elsewhere wanted h (position (same_name wanted) x.names) refl (position (same_name wanted) y.names) refl
      ] refl

-- ---- what a tree with one more method has, in the words of its making
pub kept_named : (x0 x y : Index) → x0 ≡ x → Grown x0.names y.names → y.branches ≡ x0.branches → Keeps x y
kept_named x0 x y seen names same = subst (λ (z : Index). Keeps z y) seen (keeps_named x0 y names same)

pub kept_grown : (x0 x y : Index) → x0 ≡ x → IsClosed x0.branches → Grown x0.names y.names → Grown x0.branches y.branches → Keeps x y
kept_grown x0 x y seen closed names branches = subst (λ (z : Index). Keeps z y) seen (keeps_grown x0 y closed names branches)

module _ {E : Type 0} (r : Result ℕ E) (x0 x y : Index) (tree : Option ℕ) (name : List ℕ) (number : ℕ) (method : MethodAt) (seen : x0 ≡ x) (root : IsRoot x tree)
    (names : Grown x0.names y.names) (is : position (same_name name) y.names ≡ Some number) where
  was_root : IsRoot x0 tree
  was_root = subst (λ (z : Index). IsRoot z tree) (sym seen) root

  pub made_root : IfOk r (λ n. n < length y.branches) → IfOk r (λ n. (k : ℕ) → found_at y.branches (Some n) k ≡ (if nat_eq k number then Some method else found_at x0.branches tree k))
      → IfOk r (λ n. IsRoot y (Some n))
  made_root = made r
    where
      made : (s : Result ℕ E) → IfOk s (λ n. n < length y.branches) → IfOk s (λ n. (k : ℕ) → found_at y.branches (Some n) k ≡ (if nat_eq k number then Some method else found_at x0.branches tree k)) → IfOk s (λ n. IsRoot y (Some n))
      made (Ok n) there put = put_root x0 y tree name number n method was_root names is there put
      made (Err e) there put = tt

  pub made_reached : IfOk r (λ n. n < length y.branches) → IfOk r (λ n. (k : ℕ) → found_at y.branches (Some n) k ≡ (if nat_eq k number then Some method else found_at x0.branches tree k))
      → IfOk r (λ n. (wanted : List ℕ) → reached y (Some n) wanted ≡ (if same_name wanted name then Some method else reached x tree wanted))
  made_reached = made r
    where
      made : (s : Result ℕ E) → IfOk s (λ n. n < length y.branches) → IfOk s (λ n. (k : ℕ) → found_at y.branches (Some n) k ≡ (if nat_eq k number then Some method else found_at x0.branches tree k))
          → IfOk s (λ n. (wanted : List ℕ) → reached y (Some n) wanted ≡ (if same_name wanted name then Some method else reached x tree wanted))
      made (Ok n) there put = λ wanted.
          put_reached x0 y tree name number n method was_root names is there put wanted
          ∙ ap (λ z. if same_name wanted name then Some method else reached z tree wanted) seen
      made (Err e) there put = tt

-- ---- all methods of a class, from the last on
abbrev pub own_from : ℕ → ℕ → List Function → List ℕ → Option MethodAt → Option MethodAt
own_from c n methods name other = option_map_or (λ i. Some (record { class = c; index = i })) (position_from (same_name name) n (method_names methods)) other

pub own_whole : (c : ℕ) (methods : List Function) (name : List ℕ) (other : Option MethodAt) → own_from c 0 methods name other ≡ own_or c methods name other
own_whole c methods name other =
    ap (λ o. option_map_or (λ i. Some (record { class = c; index = i })) o other) (sym (position_from-zero (same_name name) (method_names methods)))

own_first : (c n : ℕ) (b : Bool) (rest : Option ℕ) (other : Option MethodAt)
    → (if b then Some (record { class = c; index = n }) else option_map_or (λ i. Some (record { class = c; index = i })) rest other)
    ≡ option_map_or (λ i. Some (record { class = c; index = i })) (cond b (Some n) rest) other
own_first c n true rest other = refl
own_first c n false rest other = refl

-- one more in front
pub own_more : (c n : ℕ) (m : Function) (methods : List Function) (name : List ℕ) (other : Option MethodAt)
    → (if same_name name m.name then Some (record { class = c; index = n }) else own_from c (n + 1) methods name other) ≡ own_from c n (m ∷ methods) name other
own_more c n m methods name other = own_first c n (same_name name m.name) (position_from (same_name name) (n + 1) (method_names methods)) other

-- the tree with a method in front of those behind it
pub own_at : (c n : ℕ) (ms : List Function) (d : Function) (name : List ℕ) (other new old : Option MethodAt) → n < length ms
    → new ≡ (if same_name name (get_or ms n d).name then Some (record { class = c; index = n }) else old) → old ≡ own_from c (n + 1) (drop (n + 1) ms) name other
    → new ≡ own_from c n (drop n ms) name other
own_at c n ms d name other new old h e f =
    e
    ∙ ap (λ o. if same_name name (get_or ms n d).name then Some (record { class = c; index = n }) else o) f
    ∙ own_more c n (get_or ms n d) (drop (n + 1) ms) name other
    ∙ ap (λ l. own_from c n l name other) (sym (drop_more ms n d h))

-- behind the last method there is none
pub own_none : (c n : ℕ) (ms : List Function) (name : List ℕ) (other : Option MethodAt) → length ms ≤ n → other ≡ own_from c n (drop n ms) name other
own_none c n ms name other h = ap (λ l. own_from c n l name other) (sym (drop_all n ms h))

-- and from the first on there are all
pub own_all : (c n : ℕ) (ms : List Function) (name : List ℕ) (other found : Option MethodAt) → n ≤ 0 → found ≡ own_from c n (drop n ms) name other → found ≡ own_or c ms name other
own_all c n ms name other found h e =
    let none : n ≡ 0 = omega arith in
    e ∙ ap (λ k. own_from c k (drop k ms) name other) none ∙ own_whole c ms name other
