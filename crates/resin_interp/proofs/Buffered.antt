-- Texts of buffers, joined.
use Rattle.std.proofs.Common.{◌≡◌, ℕ, zero, suc, ◌+◌, ◌-◌, ◌<◌, ◌≤◌, ◌==◌, false, List, [], ◌∷◌, ◌++◌, length, drop, sym, ap, subst, ◌∙◌, arith, length-append, Result, Err, IsErrAnd, get_or}
use Rattle.std.proofs.lemmas.Result.{err_from_is_err_and}
use Rattle.std.proofs.lemmas.List.{drop_all}
use Rattle.resin_eval_calls.proofs.meaning_lemmas.Composition.{front}
use Rattle.resin_eval_calls.specs.Under.lstr.declared.limits.TheConstants.{LONGEST}
use Rattle.resin_eval_calls.specs.Under.lstr.Texts.{Text}
use Rattle.resin_eval_calls.specs.Under.lstr.Faults.{GivesText}
use Rattle.resin_eval_calls.specs.Under.lstr.declared.text.TextFault.{TextFault}
use Rattle.resin_eval_calls.specs.Under.lstr.declared.text.TextFault.TheVariants.{TooLong, Memory}
use Rattle.resin_eval_calls.specs.Under.meaning.Programs.{act, ◌>>=◌}
use Rattle.resin_eval_calls.specs.Under.machine.Leaving.{close_buffer}
use Rattle.resin_interp.specs.Pages.{joined_outwards, close_more, with_closed}

-- the inner texts are no longer than all
inner_short : (k : ℕ) (ts : List Text) → length (joined_outwards (drop k ts)) ≤ length (joined_outwards ts)
inner_short zero ts = omega arith
inner_short (suc k) [] = omega arith
inner_short (suc k) (t ∷ ts) =
    let h : length (joined_outwards (drop k ts)) ≤ length (joined_outwards ts) = inner_short k ts in
    let e : length (joined_outwards ts ++ t) ≡ length (joined_outwards ts) + length t = length-append (joined_outwards ts) t in
    omega arith

-- one buffer after another
pub close_next : (n i : ℕ) (ts : List Text) → i < n → close_more (n - i) ts ≡ (act close_buffer >>= λ t. close_more (n - (i + 1)) (with_closed ts t))
close_next n i ts lt = let e : n - i ≡ suc (n - (i + 1)) = omega arith in ap (λ k. close_more k ts) e

pub close_last : (n i : ℕ) (ts : List Text) → n ≤ i → close_more (n - i) ts ≡ close_more 0 ts
close_last n i ts le = let e : n - i ≡ 0 = omega arith in ap (λ k. close_more k ts) e

pub close_first : (n : ℕ) (ts : List Text) → ts ≡ [] → close_more n [] ≡ close_more (n - 0) ts
close_first n ts e = let z : n ≡ n - 0 = omega arith in ap (λ k. close_more k []) z ∙ ap (λ x. close_more (n - 0) x) (sym e)

pub some_open : (n : ℕ) → (n ≡ 0 → ⊥) → (n == 0) ≡ false
some_open n h = grind arith

-- ---- the loop that joins

pub joined_start : (ts : List Text) (all : Text) → all ≡ [] → (all ≡ joined_outwards (drop (length ts - 0) ts)) × (length all ≤ LONGEST)
joined_start ts all e =
    let n : length ts - 0 ≡ length ts = omega arith in
    let z : length all ≡ 0 = ap length e in
    (e ∙ sym (ap (λ k. joined_outwards (drop k ts)) n ∙ ap joined_outwards (drop_all (length ts) ts (omega arith))), omega arith)

-- one text more
pub joined_more : (ts : List Text) (i at : ℕ) (t all longer : Text) → at ≡ length ts - 1 - i → i < length ts → t ≡ get_or ts at t → all ≡ joined_outwards (drop (length ts - i) ts) → longer ≡ all ++ t
    → longer ≡ joined_outwards (drop (length ts - (i + 1)) ts)
joined_more ts i at t all longer ea lt is inv e =
    let here : length ts - (i + 1) ≡ at = omega arith in
    let next : at + 1 ≡ length ts - i = omega arith in
    e ∙ ap (λ x. x ++ t) (inv ∙ ap (λ k. joined_outwards (drop k ts)) (sym next)) ∙ sym (ap (λ k. joined_outwards (drop k ts)) here ∙ ap joined_outwards (front ts at t (omega arith) is))

-- where the inner texts are too long, all are
pub joined_lost : (ts : List Text) (k : ℕ) (x : Text) (fault : TextFault) (r : Result Text TextFault) → IsErrAnd r (λ e. e ≡ fault) → GivesText (Err fault) x → x ≡ joined_outwards (drop k ts)
    → GivesText r (joined_outwards ts)
joined_lost ts k x TooLong r h g ex =
    let p = err_from_is_err_and r h in
    let s : length (joined_outwards (drop k ts)) ≤ length (joined_outwards ts) = inner_short k ts in
    let l : length x ≡ length (joined_outwards (drop k ts)) = ap length ex in
    let m : LONGEST < length x = g in
    rw (p.1, p.2) (let n : LONGEST < length (joined_outwards ts) = omega arith in n)
joined_lost ts k x Memory r h g ex = let p = err_from_is_err_and r h in rw (p.1, p.2) tt

pub joined_memory : (r : Result Text TextFault) (x : Text) → IsErrAnd r (λ e. e ≡ Memory) → GivesText r x
joined_memory r x h = let p = err_from_is_err_and r h in rw (p.1, p.2) tt

pub joined_end : (ts : List Text) (i : ℕ) (all t : Text) → length ts ≤ i → all ≡ joined_outwards (drop (length ts - i) ts) → length all ≤ LONGEST → t ≡ all
    → (t ≡ joined_outwards ts) × (length (joined_outwards ts) ≤ LONGEST)
joined_end ts i all t le inv short e =
    let z : length ts - i ≡ 0 = omega arith in
    let is : all ≡ joined_outwards ts = inv ∙ ap (λ k. joined_outwards (drop k ts)) z in
    (e ∙ is, subst (λ (x : Text). length x ≤ LONGEST) is short)
