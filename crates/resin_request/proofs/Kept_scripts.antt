-- Kept programs are what their texts mean, whatever is looked up and put among them.
use Rattle.std.proofs.Common.{◌≡◌, ℕ, Bool, true, ◌⊎◌, List, Contains, Some, sym, subst, inl, inr, Ok, Err}
use Rattle.std.specs.Prelude.{Result, IsErrAnd}
use Rattle.std.specs.Map.{lookup}
use Rattle.std.specs.Str.{bytes_eq}
use Rattle.std.specs.Cmp.Lexicographic.{bytes_decides}
use Rattle.lru.specs.LruCache.{LruCache, promoted, put_entries}
use Rattle.lru.proofs.CallerLemmas.{Contains-lookup, Contains-promoted, Contains-put_entries}
use Rattle.resin_interp.specs.Under.machine.declared.stop.Stop.{Stop}
use Rattle.resin_interp.specs.Under.meaning.Programs.{Prog}
use Rattle.resin_interp.specs.Under.meaning.Runs.{World, Does}
use Rattle.resin_interp.specs.Under.tree.declared.declaration.Program.{Program}
use Rattle.resin_request.specs.Scripts.{Means, AreMeant}

-- a program that is found is what the text means
pub meant_found : (src : List ℕ) (kept : List (List ℕ × Program)) (p : Program) → AreMeant kept → lookup (bytes_eq src) kept ≡ Some p → Means src p
meant_found src kept p h e =
    let found = Contains-lookup (bytes_eq src) kept p e in
    subst (λ text. Means text p) (sym ((bytes_decides src found.0).0 found.2)) (h (found.0, p) found.1)

-- a look-up changes the order alone
pub meant_promoted : (test : List ℕ → Bool) (kept : List (List ℕ × Program)) → AreMeant kept → AreMeant (promoted test kept)
meant_promoted test kept h e c = h e (Contains-promoted test kept e c)

same_text : (src text : List ℕ) (kept : List (List ℕ × Program)) → (text ≡ src) ⊎ ((p : Program) × Contains kept (text, p) × (bytes_eq src text ≡ true)) → src ≡ text
same_text src text kept (inl e) = sym e
same_text src text kept (inr there) = (bytes_decides src text).0 there.2

-- what is put is what its text means
pub meant_put : (c : LruCache (List ℕ) Program) (src : List ℕ) (p : Program) → Means src p → AreMeant c.entries → AreMeant (put_entries bytes_eq c src p)
meant_put c src p m h e d = elim (Contains-put_entries bytes_eq c src p e d) [
  | inl there ↦ h e there
  | inr put ↦ subst (λ q. Means e.0 q) (sym put.0) (subst (λ text. Means text p) (same_text src e.0 c.entries put.1) m)
]

-- an error that is passed on
pub exits : {A : Type 0} (p : Prog A) (r : Result A Stop) {s : Stop} {u w : World} → IsErrAnd r (λ e. e ≡ s) → Does p u (Err s) w → Does p u r w
exits p (Ok x) h d = absurd h
exits p (Err e) {u = u} {w = w} h d = subst (λ x. Does p u (Err x) w) (sym h) d
