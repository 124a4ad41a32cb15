-- Replacement in turn, search by search.
use Rattle.std.proofs.Common.{◌≡◌, ℕ, ◌-◌, ◌/◌, ◌<◌, ◌≤◌, List, [], ◌∷◌, zero, suc, Result, Ok, Err, length, drop, refl, sym, ap, ◌∙◌, ⊎_elim}
use Rattle.std.specs.Prelude.{nat_le, unwrap_or, slice_get}
use Rattle.std.proofs.lemmas.Bool.{cases_Bool, cond-true, cond-false, lt-ltb, le-ltb, leb-true, leb-false, lt-leb, le-leb}
use Rattle.resin_lstr.specs.declared.limits.TheConstants.{LONGEST}
use Rattle.resin_lstr.specs.Texts.{Text}
use Rattle.resin_scalar.specs.declared.faults.CallStop.{CallStop}
use Rattle.resin_scalar.specs.declared.faults.CallStop.TheVariants.{Throw, Fault, Memory}
use Rattle.resin_scalar.specs.declared.faults.ScriptFault.TheVariants.{FuelSpent, TextTooLong}
use Rattle.resin_text_fn.specs.Stops.{fitting, GivesOrNoMemory, GivesCharged}
use Rattle.resin_text_fn.specs.Matches.{replaced}
use Rattle.resin_text_fn.specs.Rows.{str_replace}

-- a text that fits
pub fitting_ok : (u t : Text) → fitting u ≡ Ok t → (u ≡ t) × (length u ≤ LONGEST)
fitting_ok u t e = ⊎_elim
    (λ yes. let is : Ok u ≡ Ok t = sym (cond-true (nat_le (length u) LONGEST) (Ok u) (Err (Fault TextTooLong)) yes) ∙ e in (cc, leb-true (length u) LONGEST yes))
    (λ no. let is : Err (Fault TextTooLong) ≡ Ok t = sym (cond-false (nat_le (length u) LONGEST) (Ok u) (Err (Fault TextTooLong)) no) ∙ e in absurd (cc))
    (cases_Bool (nat_le (length u) LONGEST))

-- a text that doesn't
fitting_err : (u : Text) (stop : CallStop) → fitting u ≡ Err stop → (stop ≡ Fault TextTooLong) × (LONGEST < length u)
fitting_err u stop e = ⊎_elim
    (λ yes. let is : Ok u ≡ Err stop = sym (cond-true (nat_le (length u) LONGEST) (Ok u) (Err (Fault TextTooLong)) yes) ∙ e in absurd (cc))
    (λ no. let is : Err (Fault TextTooLong) ≡ Err stop = sym (cond-false (nat_le (length u) LONGEST) (Ok u) (Err (Fault TextTooLong)) no) ∙ e in (cc, leb-false (length u) LONGEST no))
    (cases_Bool (nat_le (length u) LONGEST))

-- the same of an answer that passes it on
pub stop_charged : (stop : CallStop) (u : Text) (rule : Result Text CallStop × ℕ) (left : ℕ) → GivesOrNoMemory (Err stop) (fitting u) → (LONGEST < length u → rule ≡ (Err (Fault TextTooLong), left)) → GivesCharged (Err stop) left rule
stop_charged (Throw kind) u rule left h too_long =
    let both = fitting_err u (Throw kind) h in too_long both.1 ∙ ap (λ s. (Err s, left)) (sym both.0)
stop_charged (Fault fault) u rule left h too_long =
    let both = fitting_err u (Fault fault) h in too_long both.1 ∙ ap (λ s. (Err s, left)) (sym both.0)
stop_charged Memory u rule left h too_long = tt

-- the entry at the front of what is left
pub entry_behind : (texts : List Text) (k : ℕ) → slice_get (drop k texts) 0 ≡ slice_get texts k
entry_behind texts zero = refl
entry_behind [] (suc k) = refl
entry_behind (t ∷ texts) (suc k) = entry_behind texts k

module _ (search : Text) (searches with : List Text) (s : Text) (left : ℕ) where
  abbrev after : Text
  after = replaced search (unwrap_or (slice_get with 0) []) s

  pub spent : left < length s / 256 → str_replace (search ∷ searches) with s left ≡ (Err (Fault FuelSpent), left)
  spent lt = cond-true _ _ _ (lt-ltb left (length s / 256) lt)

  pub too_long : length s / 256 ≤ left → LONGEST < length (replaced search (unwrap_or (slice_get with 0) []) s) → str_replace (search ∷ searches) with s left ≡ (Err (Fault TextTooLong), left - length s / 256)
  too_long le long = cond-false _ _ _ (le-ltb left (length s / 256) le) ∙ cond-false _ _ _ (lt-leb (length after) LONGEST long)

  pub goes_on : length s / 256 ≤ left → length (replaced search (unwrap_or (slice_get with 0) []) s) ≤ LONGEST → str_replace (search ∷ searches) with s left ≡ str_replace searches (drop 1 with) (replaced search (unwrap_or (slice_get with 0) []) s) (left - length s / 256)
  goes_on le short = cond-false _ _ _ (le-ltb left (length s / 256) le) ∙ cond-true _ _ _ (le-leb (length after) LONGEST short)
