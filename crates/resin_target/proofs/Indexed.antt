-- What stands under indices of null, and heights of what changes give.
use Rattle.std.specs.Prelude.{MatchResult, IfOk, ◌==◌, length}
use Rattle.std.proofs.Common.{◌≡◌, ℕ, ◌+◌, max, List, [], ◌∷◌, Bool, true, false, cond, nat_lt, Option, Some, None, Result, Ok, Err, unwrap_or, is_some, refl, sym, ap, subst, ◌∙◌, arith}
use Rattle.resin_ops.specs.Under.scalar.declared.faults.ScriptFault.TheVariants.{ArrayTooDeep}
use Rattle.resin_ops.specs.Under.scalar.declared.faults.CallStop.{CallStop}
use Rattle.resin_ops.specs.Under.scalar.declared.faults.CallStop.TheVariants.{Throw, Fault as CallFault, Memory as CallMemory}
use Rattle.resin_ops.specs.Under.value.declared.key.Key.{Key}
use Rattle.resin_ops.specs.Under.value.declared.value.Value.{Value}
use Rattle.resin_ops.specs.Under.value.declared.value.Value.TheVariants.{Null, Arr}
use Rattle.resin_ops.specs.Under.value.Seen.{tree_of}
use Rattle.resin_ops.specs.Under.value.Arrays.{Array}
use Rattle.resin_ops.specs.Under.value.Changes.{lookup, put, without, raised, height_in}
use Rattle.resin_ops.specs.Under.value.Trees.{Tree, null}
use Rattle.resin_ops.specs.Under.value.Values.{value_of, value_of-tree_of}
use Rattle.resin_target.specs.declared.path.Index.{Index}
use Rattle.resin_target.specs.Reads.{GivesOrNoMemory, on, value_at}
use Rattle.resin_target.specs.Stores.{put_in, found, key_in, with_change, changed_at, stored}
use Rattle.resin_target.specs.Heights.{height_of, raised_to}

-- nothing stands under null
pub if_ok : {A E : Type 0} (P : A → Type 0) (Q : E → Type 0) (r : Result A E) → MatchResult r P Q → IfOk r P
if_ok P Q (Ok v) h = h
if_ok P Q (Err e) h = tt

pub found_null : (is : List Index) → found is Null ≡ Ok Null
found_null [] = refl
found_null (i ∷ is) = refl

-- a rule that goes on after an answer: what is left of it
pub went_on : {A B : Type 0} (rule : Result A CallStop) (f : A → Result B CallStop) (v : A) → rule ≡ Ok v → on rule f ≡ f v
went_on rule f v e = ap (λ r. on r f) e

-- the height that putting a value into an array gives
height_chosen : (b : Bool) (k : Key) (v : Value) (a : Array)
    → height_of (cond b (Err (CallFault ArrayTooDeep)) (Ok (Arr (put k (tree_of v) a)))) ≡ cond b (Err (CallFault ArrayTooDeep)) (Ok (raised a.height (tree_of v) + 1))
height_chosen true k v a = refl
height_chosen false k v a = refl

pub height_put : (k : Key) (v : Value) (a : Array) → height_of (put_in k v a) ≡ raised_to a.height (height_in (tree_of v))
height_put k v a = height_chosen (nat_lt 100 (raised a.height (tree_of v))) k v a

-- the same where the value is an answer
pub height_on : (r : Result Value CallStop) (k : Key) (a : Array) → height_of (on r (λ below. put_in k below a)) ≡ on (height_of r) (raised_to a.height)
height_on (Ok v) k a = height_put k v a
height_on (Err stop) k a = refl

-- ---- the value at a key
pub value_there : (k : Key) (v : Value) (a : Array) → Some (tree_of v) ≡ lookup k a.entries → value_at k a ≡ v
value_there k v a e = ap (λ o. value_of (unwrap_or o null)) (sym e) ∙ value_of-tree_of v

pub value_missing : (k : Key) (a : Array) → None ≡ lookup k a.entries → value_at k a ≡ Null
value_missing k a e = ap (λ o. value_of (unwrap_or o null)) (sym e)

-- ---- answers
pub gives_rule : {X : Type 0} (r rule : Result X CallStop) → rule ≡ r → GivesOrNoMemory r rule
gives_rule (Ok x) rule e = e
gives_rule (Err (Throw kind)) rule e = e
gives_rule (Err (CallFault f)) rule e = e
gives_rule (Err CallMemory) rule e = tt

pub gives_as : {X : Type 0} (r rule rule' : Result X CallStop) → rule' ≡ rule → GivesOrNoMemory r rule → GivesOrNoMemory r rule'
gives_as r rule rule' e g = subst (λ x. GivesOrNoMemory r x) (sym e) g

raised_gives : (h : ℕ) (r rule : Result ℕ CallStop) → GivesOrNoMemory r rule → GivesOrNoMemory (on r (raised_to h)) (on rule (raised_to h))
raised_gives h (Ok n) rule g = gives_rule (raised_to h n) _ (ap (λ x. on x (raised_to h)) g)
raised_gives h (Err (Throw kind)) rule g = ap (λ x. on x (raised_to h)) g
raised_gives h (Err (CallFault f)) rule g = ap (λ x. on x (raised_to h)) g
raised_gives h (Err CallMemory) rule g = tt

-- the height of an array in which the value at a key changed
pub height_changed : (k : Key) (a : Array) (change : Value → Result Value CallStop) (below : Value) (r : Result ℕ CallStop) → value_at k a ≡ below → GivesOrNoMemory r (height_of (change below))
    → GivesOrNoMemory (on r (raised_to a.height)) (height_of (on (change (value_at k a)) (λ v. put_in k v a)))
height_changed k a change below r e g =
    gives_as _ _ _ (height_on (change (value_at k a)) k a) (raised_gives a.height r _ (gives_as r _ _ (ap (λ v. height_of (change v)) e) g))

-- the same behind an index
pub height_with_change : (i : Index) (k : Key) (a : Array) (change : Value → Result Value CallStop) (below : Value) (r : Result ℕ CallStop) → key_in i a ≡ Ok k → value_at k a ≡ below → GivesOrNoMemory r (height_of (change below))
    → GivesOrNoMemory (on r (raised_to a.height)) (height_of (with_change i change a))
height_with_change i k a change below r ek e g =
    gives_as _ _ _ (ap (λ x. height_of (on x (λ k. on (change (value_at k a)) (λ v. put_in k v a)))) ek) (height_changed k a change below r e g)

-- the same behind the last index, whatever stands there
pub height_with_last : (i : Index) (k : Key) (a : Array) (is : List Index) (v : Value) → key_in i a ≡ Ok k → is ≡ []
    → GivesOrNoMemory (raised_to a.height (height_in (tree_of v))) (height_of (with_change i (λ below. stored is v below) a))
height_with_last i k a is v ek e =
    height_with_change i k a (λ below. stored is v below) (value_at k a) (Ok (height_in (tree_of v))) ek refl (ap (λ js. height_of (stored js v (value_at k a))) e)

-- a list without items
pub none_left : (is : List Index) → length is ≡ 0 → is ≡ []
none_left [] e = refl
none_left (i ∷ is) e = absurd (omega arith)

-- ---- what is left where a key goes, behind more indices
abbrev changed_there : (Value → Result Value CallStop) → Key → Array → Result Value CallStop
changed_there change k a = cond (is_some (lookup k a.entries)) (on (change (value_at k a)) (λ below. put_in k below a)) (Ok (Arr a))

more : (is : List Index) (change : Value → Result Value CallStop) (k : Key) (a : Array) → (is ≡ [] → ⊥) → changed_at is change k a ≡ changed_there change k a
more [] change k a ne = absurd (ne refl)
more (i ∷ is) change k a ne = refl

pub changed_more : (is : List Index) (change : Value → Result Value CallStop) (k : Key) (a : Array) → (is ≡ [] → ⊥) → is_some (lookup k a.entries) ≡ true → changed_at is change k a ≡ on (change (value_at k a)) (λ below. put_in k below a)
changed_more is change k a ne e = more is change k a ne ∙ ap (λ b. cond b (on (change (value_at k a)) (λ below. put_in k below a)) (Ok (Arr a))) e

pub changed_none : (is : List Index) (change : Value → Result Value CallStop) (k : Key) (a : Array) → (is ≡ [] → ⊥) → is_some (lookup k a.entries) ≡ false → changed_at is change k a ≡ Ok (Arr a)
changed_none is change k a ne e = more is change k a ne ∙ ap (λ b. cond b (on (change (value_at k a)) (λ below. put_in k below a)) (Ok (Arr a))) e

true_false : true ≡ false → ⊥
true_false e = cc

cons_nil : (i : Index) (is : List Index) → i ∷ is ≡ [] → ⊥
cons_nil i is e = cc

-- a list that doesn't tell that it is empty
pub not_empty : (is : List Index) (b : Bool) → b ≡ (length is == 0) → b ≡ false → is ≡ [] → ⊥
not_empty [] b e f n = true_false (sym e ∙ f)
not_empty (i ∷ is) b e f n = cons_nil i is n
