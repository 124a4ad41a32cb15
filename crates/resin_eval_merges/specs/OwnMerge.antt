-- Policies that answer themselves alone where they meet others: what they are asked is the `merge` that `Policy` declares (this project, after
-- RESIN).
use Rattle.std.specs.Prelude.{◌≡◌, ℕ, ◌≤◌, true, codes, Some}
use Rattle.resin_eval_nested.specs.Under.heap.Classes.{Table, method_of}
use Rattle.resin_eval_nested.specs.Under.heap.Objects.{class_at}
use Rattle.resin_eval_nested.specs.Under.heap.Prelude.{StartsWithPrelude, number_of}
use Rattle.resin_eval_nested.specs.Under.heap.declared.classes.MethodAt.{MethodAt}
use Rattle.resin_eval_nested.specs.Under.heap.declared.prelude.PreludeClass.TheVariants.{Policy}
use Rattle.resin_eval_nested.specs.Under.machine.State.{State}
use Rattle.resin_eval_nested.specs.Under.machine.Objects.{is_object, last_number}

-- the `merge` that the objects of a class have is the one that `Policy` declares
pub record HasOwnMerge (t : Table) (class : ℕ) : Type 0 where
  -- the classes of the runtime stand first, so that `Policy` is the runtime's
  pub begins : StartsWithPrelude t
  pub at : MethodAt
  pub found : method_of t class (codes "merge") ≡ Some at
  pub own : at.class ≡ number_of Policy

-- there is such an object; its number is one that objects have
pub record AnswersItself (m : State) (o : ℕ) : Type 0 where
  pub made : is_object m.heap o ≡ true
  pub numbered : o ≤ last_number
  pub own : HasOwnMerge m.classes (class_at m.heap o)
