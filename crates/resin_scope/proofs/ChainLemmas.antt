-- A chain of a function that is taken out, changed and put back.
use Rattle.std.proofs.Common.{◌≡◌, ℕ, cond, List, [], ◌∷◌, ◌++◌, Some, sym, ap, ◌∙◌}
use Rattle.std.specs.Prelude.{IsTrue, is_some, unwrap_or}
use Rattle.std.specs.Cmp.{eq_by_cmp_equiv}
use Rattle.std.specs.FinMap.{get, insert, contains_key, get-insert}
use Rattle.resin_scope.specs.Names.{Named}
use Rattle.resin_scope.specs.Chained.{Chain, FilterChains, appended_to_function}
use Rattle.resin_scope.proofs.NameLemmas.{order, insert_twice, insert_same}

-- a name that was put is there
pub has_inserted : {X : Type 0} (m : Named X) (k : List ℕ) (v : X) → IsTrue (contains_key (insert m k v) k)
has_inserted m k v = ap is_some (get-insert order m k v k ∙ ap (λ b. cond b (Some v) (get m k)) ((eq_by_cmp_equiv order).refl k))

module _ (s : FilterChains) (name : List ℕ) (old e p : Chain) (m n : Named Chain) (was : get s.functions name ≡ Some old)
    (m_is : m ≡ insert s.functions name e) (n_is : n ≡ insert m name p) where
  put_back : n ≡ insert s.functions name p
  put_back = n_is ∙ ap (λ t. insert t name p) m_is ∙ insert_twice s.functions name e p

  pub longer : (f : ℕ) → p ≡ old ++ f ∷ [] → record s { functions = n } ≡ appended_to_function name f s
  longer f p_is =
      ap (λ (t : Named Chain). record s { functions = t })
      (put_back ∙ ap (insert s.functions name) (p_is ∙ ap (λ o. unwrap_or o [] ++ f ∷ []) (sym was)))

  pub unchanged : p ≡ old → record s { functions = n } ≡ s
  unchanged p_is =
      ap (λ (t : Named Chain). record s { functions = t }) (put_back ∙ ap (insert s.functions name) p_is ∙ insert_same s.functions name old was)
