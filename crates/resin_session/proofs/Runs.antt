-- What the runs of a text say of the sets of its bytes.
use Rattle.std.proofs.Common.{◌≡◌, ◌≢◌, ℕ, zero, suc, ◌-◌, ◌<◌, Bool, true, false, cond, List, [], ◌∷◌, ◌++◌, length, get_or, Some, None, refl, sym, ap, ◌∙◌, arith}
use Rattle.std.specs.Prelude.{◌&&◌, replicate}
use Rattle.std.specs.List.{list_all}
use Rattle.resin_value.specs.Under.label.Sets.{NumberSet, same, numbers}
use Rattle.resin_value.specs.Under.lstr.declared.text.Run.{Run}
use Rattle.resin_value.specs.Under.lstr.Texts.{Text, sets_of}
use Rattle.resin_value.specs.Under.lstr.Runs.{spell, IsCoalesced, AreRunsOf}
use Rattle.resin_value.proofs.label_lemmas.Members.{same-decides}
use Rattle.resin_session.specs.Reading.{one_set}
use Rattle.resin_session.proofs.Basics.{text_same}

twice : (a b : Bool) → (a && (a && b)) ≡ (a && b)
twice true b = refl
twice false b = refl

all_replicate : {X : Type 0} (p : X → Bool) (n : ℕ) (x : X) (ys : List X) → 0 < n → list_all p (replicate n x ++ ys) ≡ (p x && list_all p ys)
all_replicate p zero x ys h = absurd (omega arith)
all_replicate p (suc zero) x ys h = refl
all_replicate p (suc (suc m)) x ys h = ap (λ b. p x && b) (all_replicate p (suc m) x ys (omega arith)) ∙ twice (p x) (list_all p ys)

all_along : {X : Type 0} (p : X → Bool) (n : ℕ) (x : X) (ys : List X) → p x ≡ true → list_all p (replicate n x ++ ys) ≡ list_all p ys
all_along p zero x ys h = refl
all_along p (suc m) x ys h = ap (λ b. b && list_all p (replicate m x ++ ys)) h ∙ all_along p m x ys h

all_spelled : (s : NumberSet) (from : ℕ) (rs : List Run) → IsCoalesced from rs → list_all (λ (r : Run). same s r.set) rs ≡ list_all (λ u. same s u) (spell from rs)
all_spelled s from [] c = refl
all_spelled s from (r ∷ rs) c =
    ap (λ b. same s r.set && b) (all_spelled s r.end rs c.2) ∙ sym (all_replicate (λ u. same s u) (r.end - from) r.set (spell r.end rs) (let h = c.0 in omega arith))

-- all runs of a text have the set exactly where all of its bytes have it
pub all_runs : (s : NumberSet) (t : Text) (rs : List Run) → AreRunsOf (length t) rs → spell 0 rs ≡ sets_of t → list_all (λ (r : Run). same s r.set) rs ≡ list_all (λ u. same s u) (sets_of t)
all_runs s t rs h e = all_spelled s 0 rs h.coalesced ∙ ap (list_all (λ u. same s u)) e

one_run : (n : ℕ) (s : NumberSet) (ys : List NumberSet) → 0 < n → one_set (replicate n s ++ ys) ≡ cond (list_all (λ u. same s u) ys) (Some s) None
one_run zero s ys h = absurd (omega arith)
one_run (suc m) s ys h = ap (λ b. cond b (Some s) None) (all_along (λ u. same s u) m s ys (text_same (numbers s)))

other : (s u : NumberSet) → s ≢ u → same s u ≡ false
other s u ne = by (same s u) refl
  where
    by : (b : Bool) → same s u ≡ b → b ≡ false
    by true e = absurd (ne ((same-decides s u).0 e))
    by false e = refl

pub only_run : (t : Text) (rs : List Run) (r d : Run) → AreRunsOf (length t) rs → spell 0 rs ≡ sets_of t → length rs ≡ 1 → r ≡ get_or rs 0 d → one_set (sets_of t) ≡ Some r.set
only_run t [] r d h e one is = absurd (omega arith)
only_run t (q ∷ []) r d h e one is =
    ap one_set (sym e) ∙ one_run (q.end - 0) q.set [] (let l = h.coalesced.0 in omega arith) ∙ ap (λ (p : Run). Some p.set) (sym is)
only_run t (q ∷ p ∷ rs) r d h e one is = absurd (omega arith)

pub not_one_run : (t : Text) (rs : List Run) → AreRunsOf (length t) rs → spell 0 rs ≡ sets_of t → (length rs ≡ 1 → ⊥) → one_set (sets_of t) ≡ None
not_one_run t [] h e ne = ap one_set (sym e)
not_one_run t (q ∷ []) h e ne = absurd (ne refl)
not_one_run t (q ∷ p ∷ rs) h e ne =
    let c = h.coalesced in
    ap one_set (sym e) ∙ one_run (q.end - 0) q.set (spell q.end (p ∷ rs)) (let l = c.0 in omega arith)
    ∙ ap (λ b. cond b (Some q.set) None) (all_replicate (λ u. same q.set u) (p.end - q.end) p.set (spell p.end rs) (let l = c.2.0 in omega arith) ∙ ap (λ b. b && list_all (λ u. same q.set u) (spell p.end rs)) (other q.set p.set c.1))
