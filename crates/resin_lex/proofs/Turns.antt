-- One turn of the loop over a whole text.
use Rattle.std.proofs.Common.{◌≡◌, ◌≢◌, ℕ, ◌+◌, ◌-◌, ◌<◌, ◌≤◌, List, [], ◌∷◌, ◌++◌, take, drop, length, Option, Some, sym, ◌∙◌, ap, subst, arith, append_assoc, append-nil}
use Rattle.std.proofs.lemmas.List.{drop-drop, drop_all, length-drop}
use Rattle.resin_lex.specs.declared.modes.Open.{Open}
use Rattle.resin_lex.specs.declared.modes.Open.TheVariants.{Outside}
use Rattle.resin_lex.specs.declared.modes.Act.{Act}
use Rattle.resin_lex.specs.declared.modes.Shape.{Shape}
use Rattle.resin_lex.specs.declared.modes.Step.TheVariants.{Token, Skip, Fault}
use Rattle.resin_lex.specs.declared.token.Token as t
use Rattle.resin_lex.specs.First.{first}
use Rattle.resin_lex.specs.Modes.{after, top, blamed, innermost}
use Rattle.resin_lex.specs.Reads.{Reads, token, skip, fails, ends, token_of}

not_at_end : (src : List ℕ) (at : ℕ) → at < length src → drop at src ≢ []
not_at_end src at h e = absurd (omega (arith, length-drop at src, ap length e))

-- the bytes of a token, as the code slices them
pub slice_of : (src : List ℕ) (at n : ℕ) → take ((at + n) - at) (drop at src) ≡ take n (drop at src)
slice_of src at n = let e : (at + n) - at ≡ n = omega arith in ap (λ k. take k (drop at src)) e

module _ (src : List ℕ) (os : List Open) (at : ℕ) (so_far : List t.Token) (goes : (rest : List t.Token) (fault : Option ℕ) → Reads os at (drop at src) rest fault → Reads (Outside ∷ []) 0 src (so_far ++ rest) fault) where
  pub skips : at < length src → (n : ℕ) (act : Act) (new : List Open) → first (top os) at (drop at src) ≡ Skip n act → new ≡ after act os → (rest : List t.Token) (fault : Option ℕ) → Reads new (at + n) (drop (at + n) src) rest fault → Reads (Outside ∷ []) 0 src (so_far ++ rest) fault
  skips h n act new e a rest fault r = goes rest fault (skip (not_at_end src at h) e (subst (λ xs. Reads (after act os) (at + n) xs rest fault) (sym (drop-drop n at src)) (subst (λ o. Reads o (at + n) (drop (at + n) src) rest fault) a r)))

  pub takes : at < length src → (shape : Shape) (n : ℕ) (act : Act) (new : List Open) (tokens : List t.Token) → first (top os) at (drop at src) ≡ Token shape n act → new ≡ after act os → tokens ≡ so_far ++ token_of shape at (at + n) (take n (drop at src)) ∷ [] → (rest : List t.Token) (fault : Option ℕ) → Reads new (at + n) (drop (at + n) src) rest fault → Reads (Outside ∷ []) 0 src (tokens ++ rest) fault
  takes h shape n act new tokens e a p rest fault r =
      subst (λ ts. Reads (Outside ∷ []) 0 src ts fault) (sym (ap (λ ts. ts ++ rest) p ∙ append_assoc so_far (token_of shape at (at + n) (take n (drop at src)) ∷ []) rest))
      (goes (token_of shape at (at + n) (take n (drop at src)) ∷ rest) fault (token (not_at_end src at h) e (subst (λ xs. Reads (after act os) (at + n) xs rest fault) (sym (drop-drop n at src)) (subst (λ o. Reads o (at + n) (drop (at + n) src) rest fault) a r))))

  pub faults : at < length src → (place : ℕ) → first (top os) at (drop at src) ≡ Fault → place ≡ blamed (top os) at → Reads (Outside ∷ []) 0 src so_far (Some place)
  faults h place e b = subst (λ ts. Reads (Outside ∷ []) 0 src ts (Some place)) (append-nil so_far) (subst (λ p. Reads (Outside ∷ []) 0 src (so_far ++ []) (Some p)) (sym b) (goes [] (Some (blamed (top os) at)) (fails (not_at_end src at h) e)))

  pub stays_open : length src ≤ at → (found : Option ℕ) → found ≡ innermost os → Reads (Outside ∷ []) 0 src so_far found
  stays_open h found e = subst (λ ts. Reads (Outside ∷ []) 0 src ts found) (append-nil so_far) (goes [] found (subst (λ f. Reads os at (drop at src) [] f) (sym e) (subst (λ xs. Reads os at xs [] (innermost os)) (sym (drop_all at src h)) ends)))
