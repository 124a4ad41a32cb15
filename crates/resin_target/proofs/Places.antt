-- A value that is put at a place from which one was taken just before.
use Rattle.std.proofs.Common.{◌≡◌, ℕ, zero, suc, ◌+◌, ◌-◌, ◌<◌, ◌≤◌, List, [], ◌∷◌, length, Bool, true, false, cond, ◌&&◌, nat_lt, nat_le, Option, Some, None, Result, Ok, Err, is_some, unwrap_or, refl, sym, ap, subst, ◌∙◌, arith}
use Rattle.std.specs.List.{slice_get, slice_set}
use Rattle.std.specs.Cmp.Lexicographic.{nat_list_eq_equiv}
use Rattle.std.specs.Option.{option_map_or}
use Rattle.std.specs.Str.{bytes_eq}
use Rattle.std.specs.FinMap.{get, insert, contains_key}
use Rattle.std.proofs.lemmas.Bool.Decides.{nat_tests}
use Rattle.indexmap.specs.IndexMap.{insert_entry}
use Rattle.resin_ops.specs.Under.scalar.declared.faults.ScriptFault.TheVariants.{BadOperand}
use Rattle.resin_ops.specs.Under.value.declared.value.Value.{Value}
use Rattle.resin_ops.specs.Under.value.declared.value.Value.TheVariants.{Null}
use Rattle.resin_ops.specs.Under.value.Values.{FieldList}
use Rattle.resin_machine.specs.Under.scope.Frames.{Frame, Frames, Variables, set_in, assigned}
use Rattle.resin_machine.proofs.scope_lemmas.NameLemmas.{insert_twice}
use Rattle.resin_machine.specs.Under.heap.declared.heap.Object.{Object}
use Rattle.resin_machine.specs.Under.heap.Objects.{IsObject, field, with_field, class_at, fields_at, with_fields}
use Rattle.resin_machine.specs.Under.stage.Stages.{Stage}
use Rattle.resin_machine.specs.declared.stop.Stop.{Stop}
use Rattle.resin_machine.specs.declared.stop.Stop.TheVariants.{Fault}
use Rattle.resin_machine.specs.State.{State}
use Rattle.resin_machine.specs.Steps.{Act, faults}
use Rattle.resin_machine.specs.Variables.{is_input, is_session, variable, with_variable, taken_from}
use Rattle.resin_machine.specs.Objects.{is_object, with_object, with_fields_of, set_field, take_field}
use Rattle.resin_machine.proofs.Variable_steps.{set_input, set_session_value, set_other}
use Rattle.resin_machine.proofs.Taken.{at_object, at_no_object}
use Rattle.resin_machine.proofs.Made.{object_of}
use Rattle.resin_target.specs.declared.place.Place.{Place}
use Rattle.resin_target.specs.declared.place.Place.TheVariants.{Variable, Property}
use Rattle.resin_target.specs.Targets.{standing, put_at_place, take_place}

-- ---- variables

set_in_twice : (name : List ℕ) (v w : Value) (top : Variables) (fs : List Frame) → assigned name w (set_in name v top fs) ≡ set_in name w top fs
set_in_twice name v w top [] = ap (λ (t : Variables). let s : Frames = record { top = t; calls = [] } in s) (insert_twice top name v w)
set_in_twice name v w top (f ∷ fs) =
    let with_top : Variables → Frames = λ t. record { top = t; calls = f ∷ fs } in
    let with_own : Variables → Frames = λ t. record { top = top; calls = record { variables = t; bound = f.bound } ∷ fs } in
    elim (contains_key f.bound name) as (λ b. contains_key f.bound name ≡ b → assigned name w (cond b (with_top (insert top name v)) (with_own (insert f.variables name v))) ≡ cond b (with_top (insert top name w)) (with_own (insert f.variables name w))) [
      | true ↦ λ e. ap (λ b. cond b (with_top (insert (insert top name v) name w)) (let s : Frames = record { top = insert top name v; calls = record { variables = insert f.variables name w; bound = f.bound } ∷ fs } in s)) e
          ∙ ap with_top (insert_twice top name v w)
      | false ↦ λ e. ap (λ b. cond b (let s : Frames = record { top = insert top name w; calls = record { variables = insert f.variables name v; bound = f.bound } ∷ fs } in s) (with_own (insert (insert f.variables name v) name w))) e
          ∙ ap with_own (insert_twice f.variables name v w)
    ] refl

assigned_twice : (name : List ℕ) (v w : Value) (s : Frames) → assigned name w (assigned name v s) ≡ assigned name w s
assigned_twice name v w s = set_in_twice name v w s.top s.calls

other_twice : (name : List ℕ) (v w : Value) (m : State) → is_input name ≡ false → with_variable name w (with_variable name v m) ≡ with_variable name w m
other_twice name v w m i =
    elim (is_session name) as (λ b. is_session name ≡ b → with_variable name w (with_variable name v m) ≡ with_variable name w m) [
      | true ↦ λ e. ap (with_variable name w) (set_session_value name v m i e) ∙ (set_session_value name w _ i e ∙ sym (set_session_value name w m i e))
      | false ↦ λ e. ap (with_variable name w) (set_other name v m i e)
          ∙ (set_other name w _ i e ∙ (ap (λ (x : Frames). let y : State = record m { frames = x } in y) (assigned_twice name v w m.frames) ∙ sym (set_other name w m i e)))
    ] refl

variable_twice : (name : List ℕ) (v w : Value) (m : State) → with_variable name w (with_variable name v m) ≡ with_variable name w m
variable_twice name v w m =
    elim (is_input name) as (λ b. is_input name ≡ b → with_variable name w (with_variable name v m) ≡ with_variable name w m) [
      | true ↦ λ e. ap (with_variable name w) (set_input name v m e)
          ∙ (set_input name w _ e ∙ (ap (λ (x : Variables). let y : State = record m { inputs = x } in y) (insert_twice m.inputs name v w) ∙ sym (set_input name w m e)))
      | false ↦ λ e. other_twice name v w m e
    ] refl

taken_twice : (name : List ℕ) (w : Value) (m : State) → with_variable name w (taken_from name m) ≡ with_variable name w m
taken_twice name w m = by (is_some (variable name m))
  where
    by : (b : Bool) → with_variable name w (cond b (with_variable name Null m) m) ≡ with_variable name w m
    by true = variable_twice name Null w m
    by false = refl

-- ---- properties

field_twice : (name : List ℕ) (v w : Value) (es : FieldList) → with_field name w (with_field name v es) ≡ with_field name w es
field_twice name v w [] = ap (λ b. cond b ((name, w) ∷ []) ((name, v) ∷ (name, w) ∷ [])) (same_name name)
  where
    same_name : (a : List ℕ) → bytes_eq a a ≡ true
    same_name a = nat_list_eq_equiv.refl a
field_twice name v w (e ∷ es) =
    elim (bytes_eq name e.0) as (λ b. bytes_eq name e.0 ≡ b → with_field name w (cond b ((e.0, v) ∷ es) (e ∷ with_field name v es)) ≡ cond b ((e.0, w) ∷ es) (e ∷ with_field name w es)) [
      | true ↦ λ f. ap (λ b. cond b ((e.0, w) ∷ es) ((e.0, v) ∷ with_field name w es)) f
      | false ↦ λ f. ap (λ b. cond b ((e.0, w) ∷ with_field name v es) (e ∷ with_field name w (with_field name v es))) f ∙ ap (λ zs. e ∷ zs) (field_twice name v w es)
    ] refl

set_twice : (xs : List Object) (i : ℕ) (x y : Object) → slice_set (slice_set xs i x) i y ≡ slice_set xs i y
set_twice [] i x y = refl
set_twice (z ∷ xs) zero x y = refl
set_twice (z ∷ xs) (suc i) x y = ap (λ zs. z ∷ zs) (set_twice xs i x y)

set_length : (xs : List Object) (i : ℕ) (x : Object) → length (slice_set xs i x) ≡ length xs
set_length [] i x = refl
set_length (z ∷ xs) zero x = refl
set_length (z ∷ xs) (suc i) x = ap suc (set_length xs i x)

set_read : (xs : List Object) (i : ℕ) (x : Object) → i < length xs → slice_get (slice_set xs i x) i ≡ Some x
set_read [] i x h = absurd (omega arith)
set_read (z ∷ xs) zero x h = refl
set_read (z ∷ xs) (suc i) x h = set_read xs i x (omega arith)

object_read : (heap : List Object) (o : ℕ) (fields : FieldList) → IsObject heap o → slice_get (with_fields heap o fields) (o - 1) ≡ Some (record { class = class_at heap o; fields = fields })
object_read heap o fields h = set_read heap (o - 1) _ (omega (arith, h.first, h.last))

fields_after : (heap : List Object) (o : ℕ) (fields : FieldList) → IsObject heap o → fields_at (with_fields heap o fields) o ≡ fields
fields_after heap o fields h = ap (λ x. option_map_or (λ (y : Object). y.fields) x []) (object_read heap o fields h)

class_after : (heap : List Object) (o : ℕ) (fields : FieldList) → IsObject heap o → class_at (with_fields heap o fields) o ≡ class_at heap o
class_after heap o fields h = ap (λ x. option_map_or (λ (y : Object). y.class) x 0) (object_read heap o fields h)

with_fields_twice : (heap : List Object) (o : ℕ) (fields others : FieldList) → IsObject heap o → with_fields (with_fields heap o fields) o others ≡ with_fields heap o others
with_fields_twice heap o fields others h =
    ap (λ c. slice_set (with_fields heap o fields) (o - 1) (let x : Object = record { class = c; fields = others } in x)) (class_after heap o fields h) ∙ set_twice heap (o - 1) _ _

still_object : (heap : List Object) (o : ℕ) (fields : FieldList) → is_object (with_fields heap o fields) o ≡ is_object heap o
still_object heap o fields = ap (λ n. nat_lt 0 o && nat_le o n) (set_length heap (o - 1) _)

abbrev setting : ℕ → List ℕ → Value → Act (Unit {0})
setting o name w x = (Ok tt, with_fields_of o (with_field name w) x)

property_twice : (o : ℕ) (name : List ℕ) (v w : Value) (m : State) → is_object m.heap o ≡ true → set_field o name w (with_fields_of o (with_field name v) m) ≡ set_field o name w m
property_twice o name v w m e =
    let is = object_of m.heap o e in
    at_object o (setting o name w) (with_fields_of o (with_field name v) m) (still_object m.heap o _ ∙ e)
    ∙ (ap (λ (h : List Object). let p : Result (Unit {0}) Stop × State = (Ok tt, record m { heap = h }) in p)
    (ap (λ fs. with_fields (with_fields m.heap o (with_field name v (fields_at m.heap o))) o (with_field name w fs)) (fields_after m.heap o _ is)
    ∙ (with_fields_twice m.heap o _ _ is ∙ ap (with_fields m.heap o) (field_twice name v w (fields_at m.heap o))))
    ∙ sym (at_object o (setting o name w) m e))

-- ---- places

abbrev taken_field : ℕ → List ℕ → State → State
taken_field o name m = cond (is_some (field name (fields_at m.heap o))) (with_fields_of o (with_field name Null) m) m

abbrev taking : ℕ → List ℕ → Act Value
taking o name x = (Ok (unwrap_or (field name (fields_at x.heap o)) Null), taken_field o name x)

same_ok : (x y : Value) → ◌≡◌ {A = Result Value Stop} (Ok x) (Ok y) → x ≡ y
same_ok x y e = cc

not_ok : (s : Stop) (x : Value) → ◌≡◌ {A = Result Value Stop} (Err s) (Ok x) → ⊥
not_ok s x e = cc

-- taking a property out gives a value only where there is an object
field_taken_as : (o : ℕ) (name : List ℕ) (v : Value) (m m1 : State) → take_field o name m ≡ (Ok v, m1)
    → (is_object m.heap o ≡ true) × (m1 ≡ taken_field o name m) × (unwrap_or (field name (fields_at m.heap o)) Null ≡ v)
field_taken_as o name v m m1 h = by (is_object m.heap o) refl
  where
    same_value : (x y : Value) (s t : State) → ◌≡◌ {A = Result Value Stop × State} (Ok x, s) (Ok y, t) → x ≡ y
    same_value x y s t e = same_ok x y (ap (λ (p : Result Value Stop × State). p.0) e)

    no_value : (s : Stop) (x : Value) (p q : State) → ◌≡◌ {A = Result Value Stop × State} (Err s, p) (Ok x, q) → ⊥
    no_value s x p q e = not_ok s x (ap (λ (p : Result Value Stop × State). p.0) e)

    by : (b : Bool) → is_object m.heap o ≡ b → (is_object m.heap o ≡ true) × (m1 ≡ taken_field o name m) × (unwrap_or (field name (fields_at m.heap o)) Null ≡ v)
    by true e =
        let k : taking o name m ≡ (Ok v, m1) = sym (at_object o (taking o name) m e) ∙ h in
        (e, sym (ap (λ (p : Result Value Stop × State). p.1) k), same_value (unwrap_or (field name (fields_at m.heap o)) Null) v (taken_field o name m) m1 k)
    by false e = absurd (no_value (Fault BadOperand m.line) v m m1 (sym (at_no_object o (taking o name) m e) ∙ h))

-- what is put where a value was taken out makes the same as before
pub put_taken : (at : Place) (v w : Value) (m m1 : State) → take_place at m ≡ (Ok v, m1) → put_at_place at w m1 ≡ put_at_place at w m
put_taken (Variable name) v w m m1 h =
    let e : m1 ≡ taken_from name m = sym (ap (λ (p : Result Value Stop × State). p.1) h) in
    ap (λ (x : State). let p : Result (Unit {0}) Stop × State = (Ok tt, with_variable name w x) in p) e
    ∙ ap (λ (x : State). let p : Result (Unit {0}) Stop × State = (Ok tt, x) in p) (taken_twice name w m)
put_taken (Property o name) v w m m1 h =
    let k = field_taken_as o name v m m1 h in
    ap (set_field o name w) k.1 ∙ by (is_some (field name (fields_at m.heap o))) k.0
  where
    by : (b : Bool) → is_object m.heap o ≡ true → set_field o name w (cond b (with_fields_of o (with_field name Null) m) m) ≡ set_field o name w m
    by true e = property_twice o name Null w m e
    by false e = refl

picked_stage : (b : Bool) (x y : State) (s : Stage) → x.stage ≡ s → y.stage ≡ s → (cond b x y).stage ≡ s
picked_stage true x y s e f = e
picked_stage false x y s e f = f

-- taking a value out leaves what left
pub stage_taken : (at : Place) (v : Value) (m m1 : State) → take_place at m ≡ (Ok v, m1) → m1.stage ≡ m.stage
stage_taken (Variable name) v m m1 h =
    let e : m1 ≡ taken_from name m = sym (ap (λ (p : Result Value Stop × State). p.1) h) in
    ap (λ (x : State). x.stage) e ∙ picked_stage (is_some (variable name m)) _ _ m.stage (picked_stage (is_input name) _ _ m.stage refl (picked_stage (is_session name) _ _ m.stage refl refl)) refl
stage_taken (Property o name) v m m1 h =
    ap (λ (x : State). x.stage) (field_taken_as o name v m m1 h).1 ∙ picked_stage (is_some (field name (fields_at m.heap o))) _ _ m.stage refl refl

-- the value that was taken is the one that stood there
pub taken_value : (at : Place) (v : Value) (m m1 : State) → take_place at m ≡ (Ok v, m1) → v ≡ standing at m
taken_value (Variable name) v m m1 h = sym (same_ok _ v (ap (λ (p : Result Value Stop × State). p.0) h))
taken_value (Property o name) v m m1 h =
    let k = field_taken_as o name v m m1 h in
    sym (ap (λ b. cond b (unwrap_or (field name (fields_at m.heap o)) Null) Null) k.0 ∙ k.2)
