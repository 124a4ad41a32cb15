-- Exits of functions whose end is seen otherwise, and want of memory before a program begins.
use Rattle.std.proofs.Common.{◌≡◌, ℕ, ◌<◌, ◌≤◌, List, [], ◌∷◌, length, true, false, Result, Err, inl, refl, ap, arith, IsErrAnd}
use Rattle.std.specs.Prelude.{◌==◌}
use Rattle.std.proofs.lemmas.Bool.Decides.{nat_tests}
use Rattle.std.proofs.lemmas.Result.{err_from_is_err_and}
use Rattle.resin_eval_nested.specs.Under.lstr.Texts.{Text as LabelledText}
use Rattle.resin_eval_nested.specs.Under.journal.declared.channel.Channel.{Channel}
use Rattle.resin_eval_nested.specs.Under.machine.declared.stop.Stop.{Stop}
use Rattle.resin_eval_nested.specs.Under.machine.declared.stop.Stop.TheVariants.{Memory}
use Rattle.resin_eval_nested.specs.Under.meaning.Programs.{Prog, give}
use Rattle.resin_eval_nested.specs.Under.meaning.Runs.{World, Does}
use Rattle.resin_eval_nested.specs.Under.meaning.LeavingWrites.{ask_policies}
use Rattle.resin_eval_nested.proofs.meaning_lemmas.Composition.{does_unbegun, does_nothing}

unbegun_policies : (check : ℕ → Prog (Unit {0})) (w : ℕ) (c : Channel) (t : LabelledText) (ps : List ℕ) {u : World} → Does (ask_policies check w c t ps) u (Err Memory) u
unbegun_policies check w c t [] = does_nothing (give tt) (λ failing at. inl refl)
unbegun_policies check w c t (p ∷ ps) = does_unbegun _ _

pub does_unasked : (check : ℕ → Prog (Unit {0})) (w : ℕ) (c : Channel) (t : LabelledText) (ps : List ℕ) {u : World} (r : Result (Unit {0}) Stop) → IsErrAnd r (λ e. e ≡ Memory) → Does (ask_policies check w c t ps) u r u
does_unasked check w c t ps r h = let e = err_from_is_err_and r h in rw (e.1, e.2) (unbegun_policies check w c t ps)

-- ---- tests of lists

pub not_empty : {A : Type 0} (xs : List A) (i : ℕ) → i < length xs → xs ≡ [] → ⊥
not_empty xs i lt e = let h : length xs ≡ 0 = ap length e in omega (arith, lt, h)

pub nonzero : (n : ℕ) → 0 < n → (n == 0) ≡ false
nonzero n h = grind (arith, nat_tests)

pub is_zero : (n : ℕ) → n ≤ 0 → (n == 0) ≡ true
is_zero n h = grind (arith, nat_tests)
