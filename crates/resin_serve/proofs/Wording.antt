-- What words ask for.
use Rattle.std.proofs.Common.{◌≡◌, ◌≤◌, ℕ, Bool, true, false, cond, List, [], ◌∷◌, length, get_or, map, refl, sym, ap, ◌∙◌, arith, Option, Some, None}
use Rattle.std.specs.Prelude.{codes, nat_le, ◌&&◌}
use Rattle.std.specs.Str.Parse.{digits_value}
use Rattle.std.proofs.lemmas.Bool.{leb-true}
use Rattle.resin_serve.specs.declared.logging.Logging.{Logging}
use Rattle.resin_serve.specs.declared.words.Task.{Task}
use Rattle.resin_serve.specs.declared.words.Task.TheVariants.{Run, Audit, Sample}
use Rattle.resin_serve.specs.Words.{is_word, is_decimal, usual_fuel, most_fuel, most_sample, number_up_to, logging_of, run_with, sample_of, task_of}

pub task_three : {A : Type 0} (f : A → List ℕ) (xs : List A) (a b c : A) → length xs ≡ 3 → a ≡ get_or xs 0 a → b ≡ get_or xs 1 b → c ≡ get_or xs 2 c
    → is_word (f b) (codes "--fuel") ≡ true → task_of (map f xs) ≡ run_with (logging_of (f a)) (number_up_to most_fuel (f c))
task_three f [] a b c l x y z q = absurd (cc)
task_three f (u ∷ []) a b c l x y z q = absurd (omega arith)
task_three f (u ∷ v ∷ []) a b c l x y z q = absurd (omega arith)
task_three f (u ∷ v ∷ w ∷ []) a b c l x y z q =
    ap (λ t. cond t (run_with (logging_of (f u)) (number_up_to most_fuel (f w))) None) (ap (λ k. is_word (f k) (codes "--fuel")) (sym y) ∙ q)
    ∙ ap (λ k. run_with (logging_of (f k)) (number_up_to most_fuel (f w))) (sym x) ∙ ap (λ k. run_with (logging_of (f a)) (number_up_to most_fuel (f k))) (sym z)
task_three f (u ∷ v ∷ w ∷ t ∷ xs) a b c l x y z q = absurd (omega arith)

-- ---- the size of a sample

up_to : (most v n : ℕ) (b : Bool) → nat_le v most ≡ b → cond b (Some v) None ≡ Some n → n ≤ most
up_to most v n true q e = let s : v ≡ n = cc in let l : v ≤ most = leb-true v most q in omega arith
up_to most v n false q e = absurd (cc)

small_number : (most v n : ℕ) (b : Bool) → cond (b && nat_le v most) (Some v) None ≡ Some n → n ≤ most
small_number most v n true e = up_to most v n (nat_le v most) refl e
small_number most v n false e = absurd (cc)

small_sample : (most n : ℕ) (o : Option ℕ) → ((m : ℕ) → o ≡ Some m → m ≤ most) → sample_of o ≡ Some (Sample n) → n ≤ most
small_sample most n None f e = absurd (cc)
small_sample most n (Some m) f e = let s : m ≡ n = cc in let l : m ≤ most = f m refl in omega arith

no_sample : (l : Option Logging) (f : Option ℕ) (n : ℕ) → run_with l f ≡ Some (Sample n) → ⊥
no_sample None f n e = cc
no_sample (Some l) None n e = cc
no_sample (Some l) (Some f) n e = cc

one_word : (b : Bool) (l : Option Logging) (f : Option ℕ) (n : ℕ) → cond b (Some Audit) (run_with l f) ≡ Some (Sample n) → ⊥
one_word true l f n e = cc
one_word false l f n e = no_sample l f n e

two_words : (b : Bool) (w : List ℕ) (n : ℕ) → cond b (sample_of (number_up_to most_sample w)) None ≡ Some (Sample n) → n ≤ most_sample
two_words true w n e = small_sample most_sample n (number_up_to most_sample w) (λ m q. small_number most_sample (digits_value 10 w) m (is_decimal w) q) e
two_words false w n e = absurd (cc)

three_words : (b : Bool) (l : Option Logging) (f : Option ℕ) (n : ℕ) → cond b (run_with l f) None ≡ Some (Sample n) → ⊥
three_words true l f n e = no_sample l f n e
three_words false l f n e = cc

-- words ask for a sample of at most 10,000 pairs of requests
pub sample_size : (ws : List (List ℕ)) (n : ℕ) → task_of ws ≡ Some (Sample n) → n ≤ most_sample
sample_size [] n e = absurd (cc)
sample_size (w ∷ []) n e = absurd (one_word (is_word w (codes "audit")) (logging_of w) (Some usual_fuel) n e)
sample_size (w ∷ m ∷ []) n e = two_words (is_word w (codes "sample")) m n e
sample_size (w ∷ o ∷ m ∷ []) n e = absurd (three_words (is_word o (codes "--fuel")) (logging_of w) (number_up_to most_fuel m) n e)
sample_size (w ∷ o ∷ m ∷ x ∷ ws) n e = absurd (cc)

pub sized_sample : (ws : List (List ℕ)) (t : Task) (n : ℕ) → Some t ≡ task_of ws → t ≡ Sample n → n ≤ most_sample
sized_sample ws t n e f = sample_size ws n (sym e ∙ ap Some f)

-- words that ask for a sample ask for no run
pub sample_alone : {P : Type 0} (o : Option Task) (t : Task) (n : ℕ) (logging : Logging) (fuel : ℕ) → Some t ≡ o → t ≡ Sample n → o ≡ Some (Run logging fuel) → P
sample_alone o t n logging fuel e f h = let same : Some (Sample n) ≡ Some (Run logging fuel) = ap Some (sym f) ∙ e ∙ h in absurd (cc)
