-- Counts of arguments, and what a builtin function is by its name.
use Rattle.std.specs.Prelude.{◌==◌}
use Rattle.std.proofs.lemmas.Bool.Decides.{nat_tests}
use Rattle.std.proofs.Common.{◌≡◌, ◌≢◌, ℕ, ◌≤◌, List, [], ◌∷◌, length, drop, get_or, true, false, Option, Some, None, sym, ap, ◌∙◌, arith}
use Rattle.std.proofs.lemmas.List.{length-map}
use Rattle.std.specs.Option.{option_map}
use Rattle.resin_eval_merges.specs.Under.value.declared.value.Value.{Value}
use Rattle.resin_eval_merges.specs.Under.value.Seen.{tree_of, trees_of}
use Rattle.resin_eval_merges.specs.Under.builtin.declared.builtin.Builtin.{Builtin}
use Rattle.resin_eval_merges.specs.Under.builtin.declared.signatures.Sig.{Sig}
use Rattle.resin_eval_merges.specs.Under.builtin.Signatures.{sig_of}

-- what a name's signature says of the function that has the name
pub sig_is : (o : Option Builtin) (known : Builtin) (found : Option Sig) (sig : Sig) → o ≡ Some known → found ≡ option_map sig_of o → found ≡ Some sig → sig ≡ sig_of known
sig_is o known found sig is e h =
    let k : Some sig ≡ Some (sig_of known) = sym h ∙ (e ∙ ap (option_map sig_of) is) in
    inside sig (sig_of known) k
  where
    inside : (x y : Sig) → Some x ≡ Some y → x ≡ y
    inside x y p = cc

pub sig_there : (o : Option Builtin) (known : Builtin) (found : Option Sig) → o ≡ Some known → found ≡ option_map sig_of o → found ≡ None → ⊥
sig_there o known found is e h =
    let k : None ≡ Some (sig_of known) = sym h ∙ (e ∙ ap (option_map sig_of) is) in
    never (sig_of known) k
  where
    never : (y : Sig) → None ≡ Some y → ⊥
    never y p = cc

-- ---- two arguments that stand first

pub opened_twice : {A : Type 0} (xs : List A) (x y : A) → 2 ≤ length xs → x ≡ get_or xs 0 x → y ≡ get_or xs 1 y → xs ≡ x ∷ y ∷ drop 2 xs
opened_twice [] x y lt e f = absurd (omega (arith, lt))
opened_twice (a ∷ []) x y lt e f = absurd (omega (arith, lt))
opened_twice (a ∷ b ∷ xs) x y lt e f = λ i. sym e i ∷ sym f i ∷ xs

-- ---- as many arguments as kinds

equal_numbers : (a b : ℕ) → a ≡ b → (a == b) ≡ true
equal_numbers a b h = grind (arith, nat_tests)

other_numbers : (a b : ℕ) → a ≢ b → (a == b) ≡ false
other_numbers a b h = grind (arith, nat_tests)

pub same_count : {K : Type 0} (vs : List Value) (ks : List K) (n k : ℕ) → n ≡ length vs → k ≡ length ks → n ≡ k → (length (trees_of vs) == length ks) ≡ true
same_count vs ks n k e h s = equal_numbers _ _ (length-map vs tree_of ∙ (sym e ∙ (s ∙ h)))

pub other_count : {K : Type 0} (vs : List Value) (ks : List K) (n k : ℕ) → n ≡ length vs → k ≡ length ks → n ≢ k → (length (trees_of vs) == length ks) ≡ false
other_count vs ks n k e h s = other_numbers _ _ (λ q. s (e ∙ (sym (length-map vs tree_of) ∙ (q ∙ sym h))))
