-- Values of constant expressions, one level at a time.
use Rattle.std.proofs.Common.{◌≡◌, ℕ, ◌+◌, ◌<◌, List, length, drop, get_or, map, Option, None, Some, Result, Ok, Err, IsErrAnd, refl, sym, ap, subst, ◌∙◌}
use Rattle.std.proofs.lemmas.Result.{err_from_is_err_and}
use Rattle.resin_step_functions.specs.Under.scalar.declared.faults.CallStop.{CallStop}
use Rattle.resin_step_functions.specs.Under.scalar.declared.faults.CallStop.TheVariants.{Throw, Fault as CallFault, Memory as CallMemory}
use Rattle.resin_step_functions.specs.Under.value.declared.value.Value.{Value}
use Rattle.resin_step_functions.specs.Under.value.declared.value.Value.TheVariants.{Arr}
use Rattle.resin_step_functions.specs.Under.value.declared.key.Key.{Key}
use Rattle.resin_step_functions.specs.Under.value.Trees.{Tree}
use Rattle.resin_step_functions.specs.Under.value.Arrays.{Array}
use Rattle.resin_step_functions.specs.Under.value.Changes.{empty}
use Rattle.resin_step_functions.specs.Under.value.Seen.{tree_of}
use Rattle.resin_step_functions.specs.Under.value.Values.{value_of}
use Rattle.resin_step_functions.specs.Under.ops.Conversions.{key_of}
use Rattle.resin_step_functions.specs.Under.ops.Places.{seen_answer}
use Rattle.resin_step_functions.specs.Under.builtin.Under.array_fn.Filled.{and_then, added_at, Addition}
use Rattle.resin_step_functions.specs.Under.builtin.Rows.{mapped, tree_of_array}
use Rattle.resin_tree.specs.declared.declaration.Constant.{Constant, Constant-F, fold-Constant, fold-roll-Constant}
use Rattle.resin_tree.specs.declared.declaration.Constant.TheVariants as constant
use Rattle.resin_tree.specs.declared.declaration.ConstantItem.{ConstantItem, out-ConstantItem, fold-ConstantItem, fold_out-ConstantItem, map-ConstantItem}
use Rattle.resin_tree.specs.declared.expression.Literal.{Literal}
use Rattle.resin_tree.specs.declared.expression.Literal.TheVariants as literal
use Rattle.resin_tree.specs.declared.expression.ConstantName.{ConstantName}
use Rattle.resin_tree.specs.declared.expression.ConstantName.TheVariants as name
use Rattle.resin_step_functions.specs.Under.target.Reads.{GivesOrNoMemory}
use Rattle.resin_step_functions.proofs.meaning_lemmas.Composition.{front}
use Rattle.resin_step_functions.specs.Under.scalar.Stops.{Gives}
use Rattle.resin_step_functions.proofs.step_parts_lemmas.Answered.{gives_or}
use Rattle.resin_step_functions.specs.Under.meaning_forms.Invoke.{ItemValue, item_of, constant_layer, constant_value, item_value, literal_of, constant_of, addition_of, with_item, with_items}
use Rattle.resin_step_functions.proofs.step_parts_lemmas.Pure.{stopped_items}

-- ---- one level

pub value_literal : (l : Literal) → constant_value (constant.Literal l) ≡ Ok (literal_of l)
unfolding constant_value
value_literal l =
    ap (fold-Constant (Result Tree CallStop) ItemValue constant_layer item_of) (sym (constant.rolls-Literal l))
    ∙ fold-roll-Constant (Result Tree CallStop) ItemValue constant_layer item_of (Constant-F.Literal l)

pub value_array : (is : List ConstantItem) → constant_value (constant.Array is) ≡ mapped tree_of_array (with_items (Ok empty) (map item_value is))
unfolding constant_value item_value
value_array is =
    ap (fold-Constant (Result Tree CallStop) ItemValue constant_layer item_of) (sym (constant.rolls-Array is))
    ∙ fold-roll-Constant (Result Tree CallStop) ItemValue constant_layer item_of (Constant-F.Array is)

-- an item with another key
abbrev with_key : ConstantItem → Option Constant → ItemValue
with_key i k = item_of (map-ConstantItem Constant ConstantItem (Result Tree CallStop) ItemValue (fold-Constant (Result Tree CallStop) ItemValue constant_layer item_of) (fold-ConstantItem (Result Tree CallStop) ItemValue constant_layer item_of) (record { key = k; value = (out-ConstantItem i).value }))

plain_parts : (i : ConstantItem) → (out-ConstantItem i).key ≡ None → item_value i ≡ (None, constant_value (out-ConstantItem i).value)
unfolding constant_value item_value
plain_parts i none = fold_out-ConstantItem (Result Tree CallStop) ItemValue constant_layer item_of i ∙ ap (with_key i) none

keyed_parts : (i : ConstantItem) (k : Constant) → (out-ConstantItem i).key ≡ Some k → item_value i ≡ (Some (constant_value k), constant_value (out-ConstantItem i).value)
unfolding constant_value item_value
keyed_parts i k some = fold_out-ConstantItem (Result Tree CallStop) ItemValue constant_layer item_of i ∙ ap (with_key i) some

-- ---- stops

-- a stop of a first part ends the whole
gives_stop : {X Y : Type 0} (rule : Result X CallStop) (rest : X → Result Y CallStop) (s : CallStop) → GivesOrNoMemory {X = X} (Err s) rule → GivesOrNoMemory {X = Y} (Err s) (and_then rule rest)
gives_stop rule rest (Throw kind) h = ap (λ r. and_then r rest) h
gives_stop rule rest (CallFault fault) h = ap (λ r. and_then r rest) h
gives_stop rule rest CallMemory h = tt

mapped_stop : {X Y : Type 0} (f : X → Y) (rule : Result X CallStop) (s : CallStop) → GivesOrNoMemory {X = X} (Err s) rule → GivesOrNoMemory {X = Y} (Err s) (mapped f rule)
mapped_stop f rule (Throw kind) h = ap (mapped f) h
mapped_stop f rule (CallFault fault) h = ap (mapped f) h
mapped_stop f rule CallMemory h = tt

-- the stop that `?` hands on
handed_on : {X Y : Type 0} (f : X → Y) (rule : Result Y CallStop) (s : CallStop) (r : Result X CallStop) → IsErrAnd r (λ e. e ≡ s) → GivesOrNoMemory {X = Y} (Err s) rule → GivesOrNoMemory (mapped f r) rule
handed_on f rule s r h g = let e = err_from_is_err_and r h in rw (e.1, e.2) g

-- ---- items

abbrev pub seen_addition : Option Key × Value → Addition
seen_addition e = (e.0, tree_of e.1)

plain_item : (i : ConstantItem) → (out-ConstantItem i).key ≡ None → addition_of (item_value i) ≡ and_then (constant_value (out-ConstantItem i).value) (λ v. Ok (None, v))
plain_item i none = ap addition_of (plain_parts i none)

keyed_item : (i : ConstantItem) (k : Constant) → (out-ConstantItem i).key ≡ Some k
    → addition_of (item_value i) ≡ and_then (constant_value k) (λ x. and_then (constant_value (out-ConstantItem i).value) (λ v. and_then (key_of x) (λ at. Ok (Some at, v))))
keyed_item i k some = ap addition_of (keyed_parts i k some)

pub plain_added : (i : ConstantItem) (v : Value) → (out-ConstantItem i).key ≡ None → constant_value (out-ConstantItem i).value ≡ Ok (tree_of v) → addition_of (item_value i) ≡ Ok (None, tree_of v)
plain_added i v none e = plain_item i none ∙ ap (λ r. and_then r (λ x. Ok (None, x))) e

pub plain_stops : (i : ConstantItem) (s : CallStop) (r : Result (Option Key × Value) CallStop) → (out-ConstantItem i).key ≡ None → IsErrAnd r (λ e. e ≡ s) → GivesOrNoMemory {X = Tree} (Err s) (constant_value (out-ConstantItem i).value)
    → GivesOrNoMemory (mapped seen_addition r) (addition_of (item_value i))
plain_stops i s r none h g =
    handed_on seen_addition (addition_of (item_value i)) s r h
    (subst (λ (x : Result Addition CallStop). GivesOrNoMemory {X = Addition} (Err s) x) (sym (plain_item i none)) (gives_stop (constant_value (out-ConstantItem i).value) (λ v. Ok (None, v)) s g))

pub key_stops : (i : ConstantItem) (k : Constant) (s : CallStop) (r : Result (Option Key × Value) CallStop) → (out-ConstantItem i).key ≡ Some k → IsErrAnd r (λ e. e ≡ s) → GivesOrNoMemory {X = Tree} (Err s) (constant_value k)
    → GivesOrNoMemory (mapped seen_addition r) (addition_of (item_value i))
key_stops i k s r some h g =
    handed_on seen_addition (addition_of (item_value i)) s r h
    (subst (λ (x : Result Addition CallStop). GivesOrNoMemory {X = Addition} (Err s) x) (sym (keyed_item i k some))
    (gives_stop (constant_value k) (λ x. and_then (constant_value (out-ConstantItem i).value) (λ v. and_then (key_of x) (λ at. Ok (Some at, v)))) s g))

pub value_stops : (i : ConstantItem) (k : Constant) (x : Tree) (s : CallStop) (r : Result (Option Key × Value) CallStop) → (out-ConstantItem i).key ≡ Some k → IsErrAnd r (λ e. e ≡ s) → constant_value k ≡ Ok x
    → GivesOrNoMemory {X = Tree} (Err s) (constant_value (out-ConstantItem i).value) → GivesOrNoMemory (mapped seen_addition r) (addition_of (item_value i))
value_stops i k x s r some h first g =
    handed_on seen_addition (addition_of (item_value i)) s r h
    (subst (λ (y : Result Addition CallStop). GivesOrNoMemory {X = Addition} (Err s) y)
    (sym (keyed_item i k some ∙ ap (λ c. and_then c (λ z. and_then (constant_value (out-ConstantItem i).value) (λ v. and_then (key_of z) (λ at. Ok (Some at, v))))) first))
    (gives_stop (constant_value (out-ConstantItem i).value) (λ v. and_then (key_of x) (λ at. Ok (Some at, v))) s g))

keyed_rest : (i : ConstantItem) (k : Constant) (x v : Tree) → (out-ConstantItem i).key ≡ Some k → constant_value k ≡ Ok x → constant_value (out-ConstantItem i).value ≡ Ok v
    → addition_of (item_value i) ≡ and_then (key_of x) (λ at. Ok (Some at, v))
keyed_rest i k x v some first second =
    keyed_item i k some
    ∙ (ap (λ c. and_then c (λ z. and_then (constant_value (out-ConstantItem i).value) (λ w. and_then (key_of z) (λ at. Ok (Some at, w))))) first
    ∙ ap (λ c. and_then c (λ w. and_then (key_of x) (λ at. Ok (Some at, w)))) second)

pub turn_stops : (i : ConstantItem) (k : Constant) (x v : Tree) (s : CallStop) (r : Result (Option Key × Value) CallStop) → (out-ConstantItem i).key ≡ Some k → IsErrAnd r (λ e. e ≡ s) → constant_value k ≡ Ok x
    → constant_value (out-ConstantItem i).value ≡ Ok v → Gives {X = Key} (Err s) (key_of x) → GivesOrNoMemory (mapped seen_addition r) (addition_of (item_value i))
turn_stops i k x v s r some h first second g =
    handed_on seen_addition (addition_of (item_value i)) s r h
    (subst (λ (y : Result Addition CallStop). GivesOrNoMemory {X = Addition} (Err s) y) (sym (keyed_rest i k x v some first second)) (gives_stop (key_of x) (λ at. Ok (Some at, v)) s (gives_or (Err s) (key_of x) g)))

pub keyed_added : (i : ConstantItem) (k : Constant) (x : Tree) (v : Value) (at : Key) → (out-ConstantItem i).key ≡ Some k → constant_value k ≡ Ok x → constant_value (out-ConstantItem i).value ≡ Ok (tree_of v) → key_of x ≡ Ok at
    → addition_of (item_value i) ≡ Ok (Some at, tree_of v)
keyed_added i k x v at some first second third = keyed_rest i k x (tree_of v) some first second ∙ ap (λ c. and_then c (λ a. Ok (Some a, tree_of v))) third

-- ---- constants

pub array_made : (is : List ConstantItem) (a : Array) → with_items (Ok empty) (map item_value is) ≡ Ok a → constant_value (constant.Array is) ≡ Ok (tree_of (Arr a))
array_made is a e = value_array is ∙ ap (mapped tree_of_array) e

pub array_stops : (is : List ConstantItem) (s : CallStop) (r : Result Value CallStop) → IsErrAnd r (λ e. e ≡ s) → GivesOrNoMemory {X = Array} (Err s) (with_items (Ok empty) (map item_value is))
    → GivesOrNoMemory (seen_answer r) (constant_value (constant.Array is))
array_stops is s r h g =
    let e = err_from_is_err_and r h in
    rw (e.1, e.2) (subst (λ (y : Result Tree CallStop). GivesOrNoMemory {X = Tree} (Err s) y) (sym (value_array is)) (mapped_stop tree_of_array (with_items (Ok empty) (map item_value is)) s g))

-- ---- items, one after the other

pub items_more : (is : List ConstantItem) (j : ℕ) (i : ConstantItem) (a b : Array) (key : Option Key) (v : Tree) (whole : Result Array CallStop) → j < length is → i ≡ get_or is j i
    → addition_of (item_value i) ≡ Ok (key, v) → added_at key v a ≡ Ok b
    → whole ≡ with_items (Ok a) (map item_value (drop j is)) → whole ≡ with_items (Ok b) (map item_value (drop (j + 1) is))
items_more is j i a b key v whole lt at added put so_far =
    so_far
    ∙ (ap (λ ds. with_items (Ok a) (map item_value ds)) (front is j i lt at)
    ∙ ap (λ r. with_items r (map item_value (drop (j + 1) is))) (ap (λ d. and_then d (λ e. added_at e.0 e.1 a)) added ∙ put))

stop_ends : (is : List ConstantItem) (j : ℕ) (i : ConstantItem) (a : Array) (s : CallStop) (whole : Result Array CallStop) → j < length is → i ≡ get_or is j i
    → GivesOrNoMemory {X = Array} (Err s) (with_item (Ok a) (item_value i)) → whole ≡ with_items (Ok a) (map item_value (drop j is)) → GivesOrNoMemory {X = Array} (Err s) whole
stop_ends is j i a s whole lt at g so_far = by s g
  where
    cut : whole ≡ with_items (with_item (Ok a) (item_value i)) (map item_value (drop (j + 1) is))
    cut = so_far ∙ ap (λ ds. with_items (Ok a) (map item_value ds)) (front is j i lt at)

    by : (s : CallStop) → GivesOrNoMemory {X = Array} (Err s) (with_item (Ok a) (item_value i)) → GivesOrNoMemory {X = Array} (Err s) whole
    by (Throw kind) g = cut ∙ (ap (λ r. with_items r (map item_value (drop (j + 1) is))) g ∙ stopped_items (Throw kind) (map item_value (drop (j + 1) is)))
    by (CallFault fault) g = cut ∙ (ap (λ r. with_items r (map item_value (drop (j + 1) is))) g ∙ stopped_items (CallFault fault) (map item_value (drop (j + 1) is)))
    by CallMemory g = tt

handed_same : {X : Type 0} (rule : Result X CallStop) (s : CallStop) (r : Result X CallStop) → IsErrAnd r (λ e. e ≡ s) → GivesOrNoMemory {X = X} (Err s) rule → GivesOrNoMemory r rule
handed_same rule s r h g = let e = err_from_is_err_and r h in rw (e.1, e.2) g

pub item_stops : (is : List ConstantItem) (j : ℕ) (i : ConstantItem) (a : Array) (s : CallStop) (r : Result Array CallStop) (whole : Result Array CallStop) → j < length is → i ≡ get_or is j i
    → IsErrAnd r (λ e. e ≡ s) → GivesOrNoMemory {X = Addition} (Err s) (addition_of (item_value i))
    → whole ≡ with_items (Ok a) (map item_value (drop j is)) → GivesOrNoMemory r whole
item_stops is j i a s r whole lt at h g so_far =
    handed_same whole s r h (stop_ends is j i a s whole lt at (gives_stop (addition_of (item_value i)) (λ e. added_at e.0 e.1 a) s g) so_far)

pub entry_stops : (is : List ConstantItem) (j : ℕ) (i : ConstantItem) (a : Array) (key : Option Key) (v : Tree) (s : CallStop) (r : Result Array CallStop) (whole : Result Array CallStop) → j < length is → i ≡ get_or is j i
    → IsErrAnd r (λ e. e ≡ s) → addition_of (item_value i) ≡ Ok (key, v) → GivesOrNoMemory {X = Array} (Err s) (added_at key v a)
    → whole ≡ with_items (Ok a) (map item_value (drop j is)) → GivesOrNoMemory r whole
entry_stops is j i a key v s r whole lt at h added g so_far =
    handed_same whole s r h
    (stop_ends is j i a s whole lt at
    (subst (λ (y : Result Array CallStop). GivesOrNoMemory {X = Array} (Err s) y) (sym (ap (λ d. and_then d (λ e. added_at e.0 e.1 a)) added)) g) so_far)

-- ---- literals

constant_seen : (c : ConstantName) → tree_of (value_of (constant_of c)) ≡ constant_of c
constant_seen name.Null = refl
constant_seen name.True = refl
constant_seen name.False = refl
constant_seen name.IntMax = refl
constant_seen name.IntMin = refl
constant_seen name.EndOfLine = refl
constant_seen name.FileAppend = refl
constant_seen name.PadLeft = refl
constant_seen name.PadRight = refl

literal_seen : (l : Literal) → tree_of (value_of (literal_of l)) ≡ literal_of l
literal_seen (literal.Int n) = refl
literal_seen (literal.Text bytes) = refl
literal_seen (literal.Constant c) = constant_seen c

pub literal_made : (l : Literal) (v : Value) → v ≡ value_of (literal_of l) → constant_value (constant.Literal l) ≡ Ok (tree_of v)
literal_made l v e = value_literal l ∙ ap (λ (t : Tree). let r : Result Tree CallStop = Ok t in r) (sym (ap tree_of e ∙ literal_seen l))
