-- Fields by their places.
use Rattle.std.proofs.Common.{◌≡◌, ℕ, true, false, cond, Bool, is_some, List, [], ◌∷◌, remove, position, refl, sym, ap, ◌∙◌, Some, None}
use Rattle.std.specs.Map.{keys_of, lookup, remove_entry}
use Rattle.std.specs.Str.{bytes_eq}
use Rattle.indexmap.specs.IndexMap.{set_value_at}
use Rattle.indexmap.proofs.MapLemmas.{Found-position, insert_entry-first, remove_entry-first, some_index}
use Rattle.resin_value.specs.declared.value.Value.{Value}
use Rattle.resin_value.specs.Values.{FieldList}
use Rattle.resin_heap.specs.Objects.{field, with_field, without_field}

-- a write at the place of a name
pub written_at : (name : List ℕ) (v : Value) (fields : FieldList) (i : ℕ) → Some i ≡ position (bytes_eq name) (keys_of fields) → set_value_at fields i v ≡ with_field name v fields
written_at name v fields i e = sym (insert_entry-first bytes_eq name v fields i (Found-position (bytes_eq name) fields i (sym e)).first)

-- where no field has the name there is nothing to take out
pub nothing_out : {X : Type 0} (test : List ℕ → Bool) (es : List (List ℕ × X)) → lookup test es ≡ None → remove_entry test es ≡ es
nothing_out test [] h = refl
nothing_out test (e ∷ es) h =
    elim (test e.0) as (λ b. cond b (Some e.1) (lookup test es) ≡ None → cond b es (e ∷ remove_entry test es) ≡ e ∷ es) [
      | true ↦ λ n. cc
      | false ↦ λ n. ap (λ zs. e ∷ zs) (nothing_out test es n)
    ] h

-- what is taken out at the place of a name
pub taken_at : (name : List ℕ) (fields : FieldList) (i : ℕ) → Some i ≡ position (bytes_eq name) (keys_of fields) → remove fields i ≡ without_field name fields
taken_at name fields i e = sym (remove_entry-first (bytes_eq name) fields i (Found-position (bytes_eq name) fields i (sym e)).first)

-- a field that has a place is there
pub there_at : (name : List ℕ) (fields : FieldList) (i : ℕ) → Some i ≡ position (bytes_eq name) (keys_of fields) → is_some (field name fields) ≡ true
there_at name fields i e = sym (some_index (bytes_eq name) fields) ∙ sym (ap is_some e)
