-- Changes of variables leave as many calls open.
use Rattle.std.proofs.Common.{◌≡◌, ℕ, List, [], ◌∷◌, length, Bool, true, false, cond, refl}
use Rattle.std.specs.FinMap.{contains_key}
use Rattle.resin_heap.specs.Under.value.declared.value.Value.{Value}
use Rattle.resin_stage.specs.Under.scope.Frames.{Frame, Frames, Variables, set_in, assigned, unset_in, without_name, bound_in, with_bound}

in_set : (b : Bool) (top top' : Variables) (f g : Frame) (fs : List Frame)
    → let s : Frames = cond b (record { top = top'; calls = f ∷ fs }) (record { top = top; calls = g ∷ fs }) in length s.calls ≡ length (f ∷ fs)
in_set true top top' f g fs = refl
in_set false top top' f g fs = refl

set_open : (name : List ℕ) (v : Value) (top : Variables) (fs : List Frame) → length (set_in name v top fs).calls ≡ length fs
set_open name v top [] = refl
set_open name v top (f ∷ fs) = in_set (contains_key f.bound name) top _ f _ fs

pub assigned_open : (name : List ℕ) (v : Value) (s : Frames) → length (assigned name v s).calls ≡ length s.calls
assigned_open name v s = set_open name v s.top s.calls

unset_open : (name : List ℕ) (top : Variables) (fs : List Frame) → length (unset_in name top fs).calls ≡ length fs
unset_open name top [] = refl
unset_open name top (f ∷ fs) = refl

pub without_open : (name : List ℕ) (s : Frames) → length (without_name name s).calls ≡ length s.calls
without_open name s = unset_open name s.top s.calls

bound_open_in : (name : List ℕ) (fs : List Frame) → length (bound_in name fs) ≡ length fs
bound_open_in name [] = refl
bound_open_in name (f ∷ fs) = refl

pub bound_open : (name : List ℕ) (s : Frames) → length (with_bound name s).calls ≡ length s.calls
bound_open name s = bound_open_in name s.calls
