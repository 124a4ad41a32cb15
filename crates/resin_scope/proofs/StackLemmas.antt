-- Open calls, which are kept with the innermost last and seen with the innermost first.
use Rattle.std.proofs.Common.{◌≡◌, ℕ, zero, suc, ◌+◌, ◌-◌, eqb, Bool, true, false, List, [], ◌∷◌, length, get_or, set, take, reverse, refl, sym, ap, subst, ◌∙◌, arith, true≢false}
use Rattle.std.specs.Prelude.{IsTrue, not, if◌then◌else◌}
use Rattle.std.proofs.lemmas.List.{reverse-append, take_all, take_more, take_more_set, length-set}
use Rattle.std.specs.FinMap.{insert, contains_key}
use Rattle.resin_value.specs.declared.value.Value.{Value}
use Rattle.resin_scope.specs.Frames.{Variables, Frame, Frames, is_own, set_in, unset_frame, unset_in, bound_frame, bound_in}

-- the place of the last of some items
pub last_place : (empty : Bool) (n len k : ℕ) → empty ≡ eqb len 0 → empty ≡ false → n ≡ len → len ≡ k → (n - 1) + 1 ≡ k
last_place empty n zero k is none n_is k_is = absurd (true≢false (sym is ∙ none))
last_place empty n (suc len) k is none n_is k_is = omega (arith, n_is, k_is)

module _ {X : Type 0} (xs : List X) (i : ℕ) (last : i + 1 ≡ length xs) where
  -- the last item comes first in the reverse
  reverse-last : (d : X) → reverse xs ≡ get_or xs i d ∷ reverse (take i xs)
  reverse-last d =
      ap reverse (sym (take_all (i + 1) xs (omega (arith, last))) ∙ take_more xs i d (omega (arith, last)))
      ∙ reverse-append (take i xs) (get_or xs i d ∷ [])

  -- and so does one that is put in its place
  reverse-set_last : (y : X) → reverse (set xs i y) ≡ y ∷ reverse (take i xs)
  reverse-set_last y =
      ap reverse (sym (take_all (i + 1) (set xs i y) (omega (arith, last, length-set xs i y))) ∙ take_more_set xs i y (omega (arith, last)))
      ∙ reverse-append (take i xs) (y ∷ [])

-- a name that is the innermost call's own is set there
own_set : (name : List ℕ) (v : Value) (top : Variables) (f : Frame) (fs : List Frame) → IsTrue (is_own name (f ∷ fs))
    → set_in name v top (f ∷ fs) ≡ record { top = top; calls = record { variables = insert f.variables name v; bound = f.bound } ∷ fs }
own_set name v top f fs own = by (contains_key f.bound name) own
  where
    at_top : Frames
    at_top = record { top = insert top name v; calls = f ∷ fs }

    own_changed : Frames
    own_changed = record { top = top; calls = record { variables = insert f.variables name v; bound = f.bound } ∷ fs }

    by : (b : Bool) → IsTrue (not b) → (if b then at_top else own_changed) ≡ own_changed
    by true e = absurd (true≢false (sym e))
    by false e = refl

-- what a change of the last frame is, seen from the innermost
module _ (name : List ℕ) (top : Variables) (xs : List Frame) (i : ℕ) (last : i + 1 ≡ length xs) (old new : Frame) (old_is : old ≡ get_or xs i old) where
  with_calls : List Frame → Frames
  with_calls fs = record { top = top; calls = fs }

  pub set_done : (v : Value) → IsTrue (is_own name (reverse xs)) → new ≡ record { variables = insert old.variables name v; bound = old.bound }
      → record { top = top; calls = reverse (set xs i new) } ≡ set_in name v top (reverse xs)
  unfolding with_calls
  set_done v own new_is =
      let is : reverse xs ≡ old ∷ reverse (take i xs) = reverse-last xs i last old ∙ ap (λ f. f ∷ reverse (take i xs)) (sym old_is) in
      ap with_calls (reverse-set_last xs i last new ∙ ap (λ f. f ∷ reverse (take i xs)) new_is)
      ∙ sym (ap (set_in name v top) is ∙ own_set name v top old (reverse (take i xs)) (subst (λ fs. IsTrue (is_own name fs)) is own))

  pub unset_done : new ≡ unset_frame name old → record { top = top; calls = reverse (set xs i new) } ≡ unset_in name top (reverse xs)
  unfolding with_calls
  unset_done new_is =
      let is : reverse xs ≡ old ∷ reverse (take i xs) = reverse-last xs i last old ∙ ap (λ f. f ∷ reverse (take i xs)) (sym old_is) in
      ap with_calls (reverse-set_last xs i last new ∙ ap (λ f. f ∷ reverse (take i xs)) new_is) ∙ sym (ap (unset_in name top) is)

  pub bound_done : new ≡ bound_frame name old → ◌≡◌ {A = Frames} (record { top = top; calls = reverse (set xs i new) }) (record { top = top; calls = bound_in name (reverse xs) })
  unfolding with_calls
  bound_done new_is =
      let is : reverse xs ≡ old ∷ reverse (take i xs) = reverse-last xs i last old ∙ ap (λ f. f ∷ reverse (take i xs)) (sym old_is) in
      ap with_calls (reverse-set_last xs i last new ∙ ap (λ f. f ∷ reverse (take i xs)) new_is ∙ sym (ap (bound_in name) is))
