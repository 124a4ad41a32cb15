-- What is found where a text was read.
use Rattle.std.proofs.Common.{◌≡◌, inl, inr, ℕ, ◌^◌, ◌<◌, List, [], length, codes, Option, Some, None, Ok, Err, Result, refl, sym, ap, ◌∙◌}
use Rattle.resin_frozen.specs.Reads.{Is}
use Rattle.resin_frozen.specs.Reading.{and_then, literal, natural}
use Rattle.resin_frozen.specs.declared.stop.Stop.{Stop}
use Rattle.resin_frozen.specs.declared.stop.Stop.TheVariants.{Form, Memory}
use Rattle.resin_shadow.specs.Marks.{Marks, TextSet, AreMarks}
use Rattle.resin_shadow.specs.Shadows.{Spells, written1, written2}
use Rattle.resin_shadow.specs.Readers.{times, Turns, policy_step, set_step, run_step, run_set1, run_set2, Found, DecodesBy, read1, read2}
use Rattle.resin_shadow.specs.Answers.{Decodes, Kept}
use Rattle.resin_shadow.proofs.Ending.{other_text1, other_text2}

-- ---- what is read behind the front of a text
pub read1_runs : (x a b c d : List ℕ) (u : Unit {0}) (p r : ℕ) (t : List (List ℕ)) (start : Marks)
    → literal (codes "resin1 ") x ≡ Some (u, a) → natural 32 a ≡ Some (p, b) → natural 10 b ≡ Some (r, c) → times policy_step p [] c ≡ Some (t, d) → start ≡ []
    → read1 x ≡ and_then (times (run_step (run_set1 t)) r start d) (λ v. Some v.0)
unfolding read1
read1_runs x a b c d u p r t start q0 q1 q2 q3 z = rw (q0, q1, q2, q3, z) refl

pub read2_runs : (x a b c d e f : List ℕ) (u : Unit {0}) (p n r : ℕ) (t : List (List ℕ)) (k : List TextSet) (start : Marks)
    → literal (codes "resin2 ") x ≡ Some (u, a) → natural 32 a ≡ Some (p, b) → natural 32 b ≡ Some (n, c) → natural 10 c ≡ Some (r, d) → times policy_step p [] d ≡ Some (t, e)
    → times (set_step t) n [] e ≡ Some (k, f) → start ≡ [] → read2 x ≡ and_then (times (run_step (run_set2 k)) r start f) (λ v. Some v.0)
unfolding read2
read2_runs x a b c d e f u p n r t k start q0 q1 q2 q3 q4 q5 z = rw (q0, q1, q2, q3, q4, q5, z) refl

pub runs_fail : (out : Option Marks) (o : Option (Marks × List ℕ)) (stop : Stop) (v : Marks) (rest : List ℕ) → out ≡ and_then o (λ v. Some v.0) → Turns {U = Unit {0}} o (Err stop) v rest → Is {A = Marks} out (Err stop)
runs_fail out o Form v rest e h = e ∙ ap (λ z. and_then z (λ v. Some v.0)) h
runs_fail out o Memory v rest e h = tt

-- ---- what was read
pub found_some : (out : Option Marks) (r : Result Marks Stop) (o : Option Marks) (w : Marks) → Is out r → Found {A = Marks} r (Ok o) → o ≡ Some w → out ≡ Some w
found_some out (Ok a) o w h f e = h ∙ sym f ∙ e
found_some out (Err Form) o w h f e = h ∙ sym f ∙ e
found_some out (Err Memory) o w h f e = absurd f

pub found_none : (out : Option Marks) (r : Result Marks Stop) (o : Option Marks) → Is out r → Found {A = Marks} r (Ok o) → o ≡ None → out ≡ None
found_none out (Ok a) o h f e = h ∙ sym f ∙ e
found_none out (Err Form) o h f e = h ∙ sym f ∙ e
found_none out (Err Memory) o h f e = absurd f

pub kept2 : (len : ℕ) (x text : List ℕ) (w : Marks) (o : Option Marks) → 0 < length x → length x < 2 ^ 64 → read2 x ≡ Some w → text ≡ written2 w → length w ≡ len → Kept w text x o → DecodesBy written2 len x o
kept2 len x text w (Some v) some small e t l k = (sym k.1 ∙ t ∙ ap written2 (sym k.0), ap length k.0 ∙ l)
kept2 len x text w None some small e t l k = other_text2 len x text w some small e t k

pub kept1 : (len : ℕ) (x text : List ℕ) (w : Marks) (o : Option Marks) → 0 < length x → length x < 2 ^ 64 → read1 x ≡ Some w → text ≡ written1 w → length w ≡ len → Kept w text x o → DecodesBy written1 len x o
kept1 len x text w (Some v) some small e t l k = (sym k.1 ∙ t ∙ ap written1 (sym k.0), ap length k.0 ∙ l)
kept1 len x text w None some small e t l k = other_text1 len x text w some small e t k

-- ---- what a text of either version spells
pub decoded2 : (len : ℕ) (x : List ℕ) (v : Marks) → DecodesBy written2 len x (Some v) → Decodes len x (Some v)
decoded2 len x v h = (inr h.0, h.1)

pub decoded1 : (len : ℕ) (x : List ℕ) (o : Option Marks) → DecodesBy written2 len x None → DecodesBy written1 len x o → Decodes len x o
decoded1 len x (Some v) none h = (inl h.0, h.1)
decoded1 len x None none h = by
  where
    by : (v : Marks) → AreMarks v → Spells x v → length v ≡ len → ⊥
    by v m (inl e) l = h v m e l
    by v m (inr e) l = none v m e l
