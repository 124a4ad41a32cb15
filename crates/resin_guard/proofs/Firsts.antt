-- Ranges that are noted, and the first byte outside of them.
use Rattle.std.proofs.Common.{◌≡◌, ◌≢◌, ℕ, ◌+◌, ◌<◌, ◌≤◌, Bool, true, false, leb, ltb, min, List, length, take, get_or, set, Option, Some, None, Decides, refl, sym, ap, subst, ◌∙◌, inl, inr, arith, length-set, get_or-set_same, get_or-set_other}
use Rattle.std.specs.Prelude.{◌&&◌, ◌||◌, not}
use Rattle.std.proofs.lemmas.Bool.{cases_eq, cases_lt, leb-true, le-leb}
use Rattle.std.proofs.lemmas.Bool.Decides.{nat_tests, same_from_decides, Decides-and, Decides-ltb, Decides-like}
use Rattle.std.proofs.lemmas.List.{take_all}
use Rattle.std.proofs.lemmas.List.Folds.{list_any_more}
use Rattle.resin_label.specs.Sets.{NumberSet, empty}
use Rattle.resin_lstr.specs.Texts.{Text, sets_of}
use Rattle.resin_lstr.specs.Runs.{IsCoalesced, last_end, spell}
use Rattle.resin_lstr.specs.declared.text.Run.{Run}
use Rattle.resin_lstr.proofs.Spelled.{end_more}
use Rattle.resin_lstr.proofs.Pieces.{front_within}
use Rattle.resin_lstr.proofs.Places.{set_here}
use Rattle.resin_guard.specs.Pages.{Places}
use Rattle.resin_guard.specs.Judged.{meets, in_range, is_inside, is_untrusted, IsFirst}

-- ---- one offset more is noted

or_true : (a b : Bool) → b ≡ true → (a || b) ≡ true
or_true true b e = refl
or_true false b e = e

inside : (from to k : ℕ) → from ≤ k → k < to → in_range from to k ≡ true
inside from to k h l = grind (arith, nat_tests)

same_below : (from i k : ℕ) → k ≢ i → in_range from i k ≡ in_range from (i + 1) k
same_below from i k ne = grind (arith, nat_tests)

abbrev pub Noted : List Bool → List Bool → ℕ → ℕ → Type 0
Noted old s from i = (k : ℕ) → k < length s → get_or s k false ≡ (get_or old k false || in_range from i k)

module _ (old s : List Bool) (from i : ℕ) (le : from ≤ i) (lt : i < length s) (noted : Noted old s from i) where
  here : get_or (set s i true) i false ≡ (get_or old i false || in_range from (i + 1) i)
  here = get_or-set_same s i true false lt ∙ sym (or_true (get_or old i false) (in_range from (i + 1) i) (inside from (i + 1) i le (omega arith)))

  elsewhere : (k : ℕ) → k < length s → k ≢ i → get_or (set s i true) k false ≡ (get_or old k false || in_range from (i + 1) k)
  elsewhere k h ne = get_or-set_other s i k true false ne ∙ noted k h ∙ ap (λ b. get_or old k false || b) (same_below from i k ne)

  pub one_more : Noted old (set s i true) from (i + 1)
  one_more k h = elim (cases_eq k i) [
    | inl e ↦ subst (λ j. get_or (set s i true) j false ≡ (get_or old j false || in_range from (i + 1) j)) (sym e) here
    | inr ne ↦ elsewhere k (let l = length-set s i true in omega arith) ne
  ]

or_false : (a : Bool) → a ≡ (a || false)
or_false true = refl
or_false false = refl

none_before : (from k : ℕ) → in_range from from k ≡ false
none_before from k = grind (arith, nat_tests)

pub none_noted : (s : List Bool) (from : ℕ) → Noted s s from from
none_noted s from k h = or_false (get_or s k false) ∙ ap (λ b. get_or s k false || b) (sym (none_before from k))

decides_range : (from to k : ℕ) → Decides (in_range from to k) ((from ≤ k) × (k < to))
decides_range from to k = Decides-and (leb from k) (ltb k to) (leb-true from k, λ h. le-leb from k h) (Decides-ltb k to)

-- a range that is cut off at the end of a text is the same before that
pub same_end : (from to n start end i k : ℕ) → k < n → end ≡ min to n → start ≡ min from end → i ≡ end → in_range start i k ≡ in_range from to k
same_end from to n start end i k h e s j =
    same_from_decides (in_range start i k) (in_range from to k)
    (Decides-like (in_range start i k) (λ (p : (start ≤ k) × (k < i)). (let a = p.0 in let b = p.1 in omega arith, let a = p.0 in let b = p.1 in omega arith))
    (λ (p : (from ≤ k) × (k < to)). (let a = p.0 in let b = p.1 in omega arith, let a = p.0 in let b = p.1 in omega arith)) (decides_range start i k))
    (decides_range from to k)

-- ---- one place more

pub place_more : (places : Places) (i : ℕ) (d : ℕ × ℕ) (k : ℕ) → i < length places → is_inside (take (i + 1) places) k ≡ (is_inside (take i places) k || in_range (get_or places i d).0 (get_or places i d).1 k)
place_more places i d k lt = list_any_more (λ (p : ℕ × ℕ). in_range p.0 p.1 k) places i d lt

-- ---- the first byte of the runs

abbrev pub test : List Run → NumberSet → List Bool → ℕ → Bool
test rs bad safe k = meets bad (get_or (spell 0 rs) k empty) && not (get_or safe k false)

module _ (rs : List Run) (bad : NumberSet) (safe : List Bool) (c : IsCoalesced 0 rs) (whole : last_end 0 rs ≡ length safe) where
  abbrev pub BelowNone : ℕ → Type 0
  BelowNone from = (k : ℕ) → k < from → test rs bad safe k ≡ false

  module _ (i : ℕ) (d : Run) (lt : i < length rs) (is : d ≡ get_or rs i d) (from to : ℕ) (begins : from ≡ last_end 0 (take i rs)) (ends : to ≡ d.end) where
    end_is : to ≡ (get_or rs i d).end
    end_is = ends ∙ ap (λ (r : Run). r.end) is

    pub next : to ≡ last_end 0 (take (i + 1) rs)
    next = end_is ∙ sym (end_more rs i d c lt)

    pub within : to ≤ length safe
    within = let h = front_within rs (i + 1) c in let n = next in omega arith

    set_is : (k : ℕ) → from ≤ k → k < to → d.set ≡ get_or (spell 0 rs) k empty
    set_is k f t = ap (λ (r : Run). r.set) is ∙ set_here rs i k d empty c lt (let b = begins in omega arith) (let e = end_is in omega arith)

    same : (k : ℕ) → from ≤ k → k < to → (meets bad d.set && not (get_or safe k false)) ≡ test rs bad safe k
    same k f t = ap (λ s. meets bad s && not (get_or safe k false)) (set_is k f t)

    pub run_none : BelowNone from → IsFirst (λ k. meets bad d.set && not (get_or safe k false)) from to None → BelowNone to
    run_none below h k t = elim (cases_lt k from) [ inl l ↦ below k l | inr f ↦ sym (same k f t) ∙ h k f t ]

    pub run_some : (at : ℕ) → BelowNone from → IsFirst (λ k. meets bad d.set && not (get_or safe k false)) from to (Some at) → IsFirst (test rs bad safe) 0 (length safe) (Some at)
    run_some at below h = (
      omega arith,
      let l = h.1 in let w = within in omega arith,
      sym (same at h.0 h.1) ∙ h.2,
      λ k z l. elim (cases_lt k from) [ inl b ↦ below k b | inr f ↦ sym (same k f (let e = h.1 in omega arith)) ∙ h.3 k f l ],
    )

  pub none_left : (i from : ℕ) → length rs ≤ i → from ≡ last_end 0 (take i rs) → BelowNone from → IsFirst (test rs bad safe) 0 (length safe) None
  none_left i from le begins below k z l = below k (let e = begins ∙ ap (last_end 0) (take_all i rs le) ∙ whole in omega arith)

-- what is first by the notes is first by the places
module _ (bad : NumberSet) (places : Places) (d : Text) (rs : List Run) (safe : List Bool) (spelled : spell 0 rs ≡ sets_of d) (long : length safe ≡ length d)
    (noted : (k : ℕ) → k < length d → get_or safe k false ≡ is_inside places k) where
  alike : (k : ℕ) → k < length d → test rs bad safe k ≡ is_untrusted bad places d k
  alike k h = ap (λ ss. meets bad (get_or ss k empty) && not (get_or safe k false)) spelled ∙ ap (λ b. meets bad (get_or (sets_of d) k empty) && not b) (noted k h)

  pub by_places : (r : Option ℕ) → IsFirst (test rs bad safe) 0 (length safe) r → IsFirst (is_untrusted bad places d) 0 (length d) r
  by_places None h = λ k z l. sym (alike k l) ∙ h k z (omega arith)
  by_places (Some at) h = let a = h.1 in (omega arith, omega arith, sym (alike at (omega arith)) ∙ h.2, λ k z l. sym (alike k (omega arith)) ∙ h.3 k z l)
