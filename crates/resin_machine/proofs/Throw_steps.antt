-- Exceptions that the runtime throws.
use Rattle.std.proofs.Common.{◌≡◌, ℕ, ◌+◌, ◌≤◌, ◌<◌, List, [], ◌∷◌, ◌++◌, length, cond, Result, Ok, Err, refl, sym, ap, subst, ◌∙◌, arith, pos, IsErrAnd}
use Rattle.std.specs.Prelude.{codes}
use Rattle.resin_heap.specs.Under.label.Sets.{NumberSet}
use Rattle.resin_heap.specs.Under.label.Sets.{empty as no_labels}
use Rattle.resin_heap.specs.Under.lstr.Texts.{carrying}
use Rattle.resin_heap.specs.Under.lstr.Texts.{Text as LabelledText}
use Rattle.resin_heap.specs.Under.scalar.declared.faults.CallStop.{CallStop}
use Rattle.resin_heap.specs.Under.scalar.declared.faults.CallStop.TheVariants.{Throw, Fault as CallFault}
use Rattle.resin_heap.specs.Under.scalar.declared.faults.ErrorKind.{ErrorKind}
use Rattle.resin_heap.specs.Under.scalar.declared.faults.ScriptFault.{ScriptFault}
use Rattle.resin_heap.specs.Under.scalar.declared.faults.ScriptFault.TheVariants.{FuelSpent}
use Rattle.resin_heap.specs.Under.value.declared.value.Value.{Value}
use Rattle.resin_heap.specs.Under.value.declared.value.Value.TheVariants.{Int, Text}
use Rattle.resin_heap.specs.Under.value.Values.{FieldList}
use Rattle.resin_heap.specs.Objects.{IsObject, with_field, fields_at, with_fields}
use Rattle.resin_heap.specs.Prelude.{number_of}
use Rattle.resin_heap.specs.declared.heap.Object.{Object}
use Rattle.resin_heap.specs.declared.prelude.PreludeClass.{PreludeClass}
use Rattle.resin_machine.specs.declared.stop.Stop.{Stop}
use Rattle.resin_machine.specs.declared.stop.Stop.TheVariants.{Thrown, Fault, Memory}
use Rattle.resin_machine.specs.State.{State}
use Rattle.resin_machine.specs.Keeping.{IsInside}
use Rattle.resin_machine.specs.Steps.{Act, ActsLoosely, faults}
use Rattle.resin_machine.specs.Objects.{last_number, exception_of, throw_new, class_of_error, settled}
use Rattle.resin_machine.proofs.Kept.{keeps_same, keeps_inside, tied_inside}
use Rattle.resin_machine.proofs.Taken.{lost_inside}
use Rattle.resin_machine.proofs.Made.{fields_at-last, with_fields-last, last_object}
use Rattle.resin_machine.proofs.Object_steps.{lt_true, lt_false}

-- a longer step that changes nothing
pub loosely_gives : {A : Type 0} (a : Act A) (m : State) (v : A) → a m ≡ (Ok v, m) → ActsLoosely a m (Ok v) m
loosely_gives a m v e = record { acted = e; ticks = omega arith; keeps = keeps_same m; ties = λ ne t. t }

pub loosely_faulted : {A : Type 0} (a : Act A) (m : State) (f : ScriptFault) → a m ≡ faults f m → ActsLoosely a m (Err (Fault f m.line)) m
loosely_faulted a m f e = record { acted = e; ticks = omega arith; keeps = keeps_same m; ties = λ ne t. t }

pub loosely_wanting : {A : Type 0} (a : Act A) (m : State) → ActsLoosely a m (Err Memory) m
loosely_wanting a m = record { acted = refl; ticks = omega arith; keeps = keeps_same m; ties = λ ne. absurd (ne refl) }

-- the object of an exception
abbrev exception : PreludeClass → List ℕ → Object
exception class message = record { class = number_of class; fields = exception_of (carrying no_labels message) }

abbrev thrown_end : {A : Type 0} → ℕ → State → Result A Stop × State
thrown_end o m = (Err (Thrown o), m)

-- an exception is thrown
pub thrown_loosely : {A : Type 0} (class : PreludeClass) (message : List ℕ) (m m0 : State) (o : ℕ) (heap : List Object) → m0 ≡ m → length m0.heap < last_number → o ≡ length m0.heap + 1 → heap ≡ m0.heap ++ exception class message ∷ []
    → ActsLoosely (throw_new {A = A} class message) m (Err (Thrown o)) (record m0 { heap = heap })
thrown_loosely {A = A} class message m m0 o heap e0 lt n e =
    let inside : IsInside m0 (record m0 { heap = heap }) = record { stage = refl; ticks = refl; request = refl; open_calls = refl; checking = refl } in
    subst (λ (x : State). ActsLoosely (throw_new {A = A} class message) x (Err (Thrown o)) (record m0 { heap = heap })) e0
    (record {
      acted = ap (λ b. cond b (thrown_end {A = A} (length m0.heap + 1) (record m0 { heap = m0.heap ++ exception class message ∷ [] })) (faults FuelSpent m0)) (lt_true _ _ lt)
          ∙ (λ i. thrown_end {A = A} (sym n i) (record m0 { heap = sym e i }));
      ticks = omega arith;
      keeps = keeps_inside m0 _ inside;
      ties = λ ne t. tied_inside m0 _ inside t;
    })

-- no number is left for it
pub none_thrown : {A : Type 0} (class : PreludeClass) (message : List ℕ) (m : State) → last_number ≤ length m.heap → ActsLoosely (throw_new {A = A} class message) m (Err (Fault FuelSpent m.line)) m
none_thrown {A = A} class message m le =
    loosely_faulted (throw_new {A = A} class message) m FuelSpent
    (ap (λ b. cond b (thrown_end {A = A} (length m.heap + 1) (record m { heap = m.heap ++ exception class message ∷ [] })) (faults FuelSpent m)) (lt_false _ _ le))

-- ---- making the object

abbrev of_class : ℕ → FieldList → Object
of_class class fields = record { class = class; fields = fields }

-- a field of the last object
field_last : (xs : List Object) (class : ℕ) (old : FieldList) (name : List ℕ) (v : Value)
    → with_fields (xs ++ of_class class old ∷ []) (length xs + 1) (with_field name v (fields_at (xs ++ of_class class old ∷ []) (length xs + 1))) ≡ xs ++ of_class class (with_field name v old) ∷ []
field_last xs class old name v =
    ap (λ (fs : FieldList). with_fields (xs ++ of_class class old ∷ []) (length xs + 1) (with_field name v fs)) (fields_at-last xs (of_class class old))
    ∙ with_fields-last xs class old (with_field name v old)

pub field_given : (xs ys zs : List Object) (class o : ℕ) (old : FieldList) (name : List ℕ) (v : Value) → ys ≡ xs ++ of_class class old ∷ [] → o ≡ length xs + 1 → zs ≡ with_fields ys o (with_field name v (fields_at ys o))
    → zs ≡ xs ++ of_class class (with_field name v old) ∷ []
field_given xs ys zs class o old name v ey eo ez =
    ez ∙ ((λ i. with_fields (ey i) (eo i) (with_field name v (fields_at (ey i) (eo i)))) ∙ field_last xs class old name v)

pub is_last : (xs ys : List Object) (x : Object) (o : ℕ) → ys ≡ xs ++ x ∷ [] → o ≡ length xs + 1 → IsObject ys o
is_last xs ys x o ey eo = subst (λ (n : ℕ). IsObject ys n) (sym eo) (subst (λ (zs : List Object). IsObject zs (length xs + 1)) (sym ey) (last_object xs x))

-- a fault, where the code has the line and the state in parts
pub loosely_fault_as : {A : Type 0} (a : Act A) (m m' : State) (f : ScriptFault) (line : ℕ) → m' ≡ m → line ≡ m.line → a m ≡ faults f m → ActsLoosely a m (Err (Fault f line)) m'
loosely_fault_as {A = A} a m m' f line e el h =
    subst (λ (x : State). ActsLoosely a m (Err (Fault f line)) x) (sym e) (subst (λ (n : ℕ). ActsLoosely a m (Err (Fault f n)) m) (sym el) (loosely_faulted a m f h))

pub none_thrown_as : {A : Type 0} (class : PreludeClass) (message : List ℕ) (m m0 : State) (line : ℕ) → m0 ≡ m → line ≡ m.line → last_number ≤ length m0.heap → ActsLoosely (throw_new {A = A} class message) m (Err (Fault FuelSpent line)) m
none_thrown_as {A = A} class message m m0 line e0 el le =
    subst (λ (n : ℕ). ActsLoosely (throw_new {A = A} class message) m (Err (Fault FuelSpent n)) m) (sym el)
    (none_thrown {A = A} class message m (subst (λ (x : State). last_number ≤ length x.heap) e0 le))

-- want of memory, and no change
pub loosely_lost : {A : Type 0} (a : Act A) (m : State) (r : Result A Stop) → IsErrAnd r (λ e. e ≡ Memory) → ActsLoosely a m r m
loosely_lost a m r h = lost_inside a m m r (record { stage = refl; ticks = refl; request = refl; open_calls = refl; checking = refl }) h

-- want of memory, which leaves the objects changed
pub heap_lost : {A : Type 0} (a : Act A) (m m0 : State) (r : Result A Stop) (heap : List Object) → m0 ≡ m → IsErrAnd r (λ e. e ≡ Memory) → ActsLoosely a m r (record m0 { heap = heap })
heap_lost a m m0 r heap e0 h =
    subst (λ (x : State). ActsLoosely a x r (record m0 { heap = heap })) e0
    (lost_inside a m0 _ r (record { stage = refl; ticks = refl; request = refl; open_calls = refl; checking = refl }) h)

-- the object is the exception
pub exception_made : (xs zs : List Object) (class : PreludeClass) (text : LabelledText) (n : ℕ) (labels : NumberSet) → n ≡ number_of class → labels ≡ no_labels
    → zs ≡ xs ++ of_class n ((codes "message", Text text) ∷ (codes "code", Int (pos 0) labels) ∷ []) ∷ [] → zs ≡ xs ++ of_class (number_of class) (exception_of text) ∷ []
exception_made xs zs class text n labels en el e = e ∙ (λ i. xs ++ of_class (en i) ((codes "message", Text text) ∷ (codes "code", Int (pos 0) (el i)) ∷ []) ∷ [])

-- what an operator answered
pub settled_throw : {A : Type 0} (answer : Result A CallStop) (e : CallStop) (kind : ErrorKind) (class : PreludeClass) (m m' : State) (r : Result A Stop) → answer ≡ Err e → e ≡ Throw kind → class ≡ class_of_error kind
    → ActsLoosely (throw_new {A = A} class []) m r m' → ActsLoosely (settled answer) m r m'
settled_throw {A = A} answer e kind class m m' r ea ee ec h =
    let k = subst (λ (x : PreludeClass). ActsLoosely (throw_new {A = A} x []) m r m') ec h in
    subst (λ (x : Result A CallStop). ActsLoosely (settled x) m r m') (sym (ea ∙ ap (λ (y : CallStop). let z : Result A CallStop = Err y in z) ee))
    (record { acted = k.acted; ticks = k.ticks; keeps = k.keeps; ties = k.ties })

pub settled_fault : {A : Type 0} (answer : Result A CallStop) (e : CallStop) (f : ScriptFault) (m : State) (line : ℕ) → answer ≡ Err e → e ≡ CallFault f → line ≡ m.line → ActsLoosely (settled answer) m (Err (Fault f line)) m
settled_fault {A = A} answer e f m line ea ee el =
    subst (λ (x : Result A CallStop). ActsLoosely (settled x) m (Err (Fault f line)) m) (sym (ea ∙ ap (λ (y : CallStop). let z : Result A CallStop = Err y in z) ee))
    (loosely_fault_as (settled {A = A} (Err (CallFault f))) m m f line refl el refl)
