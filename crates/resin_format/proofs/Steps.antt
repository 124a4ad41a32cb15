-- The directives of a format, form by form.
use Rattle.std.proofs.Common.{◌≡◌, ℕ, ◌<◌, ◌≤◌, ◌+◌, ◌-◌, Bool, true, false, List, [], ◌∷◌, ◌++◌, refl, sym, ap, ◌∙◌, arith, zero, suc, length, take, drop, get_or, append_assoc}
use Rattle.std.specs.Prelude.{if◌then◌else◌, cond, not, nat_lt, map, Some, None, position, slice_range}
use Rattle.std.specs.List.{position_or_len}
use Rattle.std.proofs.lemmas.Bool.{ltb-false}
use Rattle.std.proofs.lemmas.List.{get_or-drop, drop-map, drop-drop}
use Rattle.std.proofs.lemmas.List.Quantifiers.{position-Some}
use Rattle.resin_label.specs.Sets.{NumberSet, empty}
use Rattle.resin_lstr.specs.Texts.{Text, bytes_of, sets_of}
use Rattle.resin_lstr.proofs.Pieces.{all_behind}
use Rattle.resin_format.specs.declared.walk.Found.{Found}
use Rattle.resin_format.specs.declared.args.FormatArg.{FormatArg}
use Rattle.resin_format.specs.Forms.{form_of, form_len}
use Rattle.resin_format.specs.Directives.{Directive, literal, formed, is_percent, directives_from, kinds, thrown}
use Rattle.resin_format.specs.Found.{IsFirstForm}
use Rattle.resin_format.specs.Formats.{spelled, form_text, args_behind}

-- bytes that stand for themselves
abbrev pub literals : Text → List Directive
literals t = map literal t

-- bytes that were read are passed over
skip_read : (n : ℕ) (t : Text) → directives_from n t ≡ directives_from 0 (drop n t)
skip_read zero t = refl
skip_read (suc n) [] = refl
skip_read (suc n) (p ∷ t) = skip_read n t

plain_byte : (p : ℕ × NumberSet) (t : Text) → is_percent p.0 ≡ false → directives_from 0 (p ∷ t) ≡ literal p ∷ directives_from 0 t
plain_byte p t h =
    ap (λ (b : Bool). (if b then formed (form_of (bytes_of t)) p.1 else literal p) ∷ directives_from (if b then form_len (form_of (bytes_of t)) (bytes_of t) else 0) t) h

percent_byte : (p : ℕ × NumberSet) (t : Text) → is_percent p.0 ≡ true → directives_from 0 (p ∷ t) ≡ formed (form_of (bytes_of t)) p.1 ∷ directives_from 0 (drop (form_len (form_of (bytes_of t)) (bytes_of t)) t)
percent_byte p t h =
    ap (λ (b : Bool). (if b then formed (form_of (bytes_of t)) p.1 else literal p) ∷ directives_from (if b then form_len (form_of (bytes_of t)) (bytes_of t) else 0) t) h
    ∙ ap (λ ds. formed (form_of (bytes_of t)) p.1 ∷ ds) (skip_read (form_len (form_of (bytes_of t)) (bytes_of t)) t)

-- the first `%` of a text, at the place n
first_percent : (n : ℕ) (u : Text) → n < length (bytes_of u) → is_percent (get_or (bytes_of u) n 0) ≡ true → ((k : ℕ) → k < n → is_percent (get_or (bytes_of u) k 0) ≡ false) → directives_from 0 u ≡ literals (take n u) ++ formed (form_of (drop (suc n) (bytes_of u))) (get_or (sets_of u) n empty) ∷ directives_from 0 (drop (form_len (form_of (drop (suc n) (bytes_of u))) (drop (suc n) (bytes_of u))) (drop (suc n) u))
first_percent n [] lt here before = absurd (omega arith)
first_percent zero (p ∷ u) lt here before = percent_byte p u here
first_percent (suc n) (p ∷ u) lt here before =
    plain_byte p u (before 0 (omega arith)) ∙ ap (λ v. literal p ∷ v) (first_percent n u (omega arith) here (λ k low. before (suc k) (omega arith)))

all_literal_front : (b : Bool) (p : ℕ × NumberSet) (u : Text) → is_percent p.0 ≡ b → suc (length (bytes_of u)) ≤ cond (not b) (1 + position_or_len is_percent (bytes_of u)) 0 → (length (bytes_of u) ≤ position_or_len is_percent (bytes_of u) → directives_from 0 u ≡ literals u) → directives_from 0 (p ∷ u) ≡ literals (p ∷ u)
all_literal_front true p u is long rest = absurd (omega arith)
all_literal_front false p u is long rest = plain_byte p u is ∙ ap (λ v. literal p ∷ v) (rest (omega arith))

all_literal : (u : Text) → length (bytes_of u) ≤ position_or_len is_percent (bytes_of u) → directives_from 0 u ≡ literals u
all_literal [] long = refl
all_literal (p ∷ u) long = all_literal_front (is_percent p.0) p u refl long (all_literal u)

none_long : (b : Bool) (a n : ℕ) → nat_lt a n ≡ b → cond b (Some a) None ≡ None → n ≤ a
none_long true a n is none = absurd (let no : Some a ≡ None → ⊥ = λ e. cc in no none)
none_long false a n is none = ltb-false a n is

-- a format from a place on up to its next form, and behind it
pub next_directives : (t : Text) (bs : List ℕ) (at : ℕ) (f : Found) → bs ≡ bytes_of t → IsFirstForm bs at f → directives_from 0 (drop at t) ≡ literals (slice_range t at f.percent) ++ formed f.form (get_or (sets_of t) f.percent empty) ∷ directives_from 0 (drop f.end t)
next_directives t bs at f is found =
    let n = f.percent - at in
    let u = drop at t in
    let here : drop at bs ≡ bytes_of (drop at t) = ap (drop at) is ∙ drop-map (λ (p : ℕ × NumberSet). p.0) at t in
    let first = position-Some is_percent (bytes_of (drop at t)) (f.percent - at) 0 (ap (position is_percent) (sym here) ∙ found.place) in
    let sum : at + (f.percent - at) ≡ f.percent = omega (arith, found.from) in
    let next : at + suc (f.percent - at) ≡ f.percent + 1 = omega (arith, found.from) in
    let set_is : get_or (sets_of (drop at t)) (f.percent - at) empty ≡ get_or (sets_of t) f.percent empty
    = ap (λ ss. get_or ss n empty) (sym (drop-map (λ (p : ℕ × NumberSet). p.1) at t)) ∙ get_or-drop at (sets_of t) n empty ∙ ap (λ k. get_or (sets_of t) k empty) sum in
    let tail_is : drop (suc (f.percent - at)) (bytes_of (drop at t)) ≡ drop (f.percent + 1) bs
    = ap (drop (suc n)) (sym here) ∙ drop-drop (suc n) at bs ∙ ap (λ k. drop k bs) next in
    let form_is : form_of (drop (suc (f.percent - at)) (bytes_of (drop at t))) ≡ f.form = ap form_of tail_is ∙ sym found.form in
    let len_is : form_len (form_of (drop (suc (f.percent - at)) (bytes_of (drop at t)))) (drop (suc (f.percent - at)) (bytes_of (drop at t))) ≡ form_len f.form (drop (f.percent + 1) bs)
    = ap (λ k. form_len k (drop (suc n) (bytes_of u))) form_is ∙ ap (form_len f.form) tail_is in
    let rest_is : drop (form_len f.form (drop (f.percent + 1) bs)) (drop (suc (f.percent - at)) (drop at t)) ≡ drop f.end t
    = ap (drop (form_len f.form (drop (f.percent + 1) bs))) (drop-drop (suc n) at t ∙ ap (λ k. drop k t) next)
    ∙ drop-drop (form_len f.form (drop (f.percent + 1) bs)) (f.percent + 1) t
    ∙ ap (λ k. drop k t) (sym found.end) in
    first_percent n u first.0 first.1 first.2
    ∙ ap (λ k. literals (take n u) ++ formed k (get_or (sets_of u) n empty) ∷ directives_from 0 (drop (form_len (form_of (drop (suc n) (bytes_of u))) (drop (suc n) (bytes_of u))) (drop (suc n) u))) form_is
    ∙ ap (λ k. literals (take n u) ++ formed f.form k ∷ directives_from 0 (drop (form_len (form_of (drop (suc n) (bytes_of u))) (drop (suc n) (bytes_of u))) (drop (suc n) u))) set_is
    ∙ ap (λ k. literals (take n u) ++ formed f.form (get_or (sets_of t) f.percent empty) ∷ directives_from 0 (drop k (drop (suc n) u))) len_is
    ∙ ap (λ v. literals (take n u) ++ formed f.form (get_or (sets_of t) f.percent empty) ∷ directives_from 0 v) rest_is

pub last_directives : (t : Text) (bs : List ℕ) (at : ℕ) → bs ≡ bytes_of t → position is_percent (drop at bs) ≡ None → directives_from 0 (drop at t) ≡ literals (drop at t)
last_directives t bs at is none =
    let here : bytes_of (drop at t) ≡ drop at bs = sym (ap (drop at) is ∙ drop-map (λ (p : ℕ × NumberSet). p.0) at t) in
    let found : position is_percent (bytes_of (drop at t)) ≡ None = ap (position is_percent) here ∙ none in
    all_literal (drop at t) (none_long (nat_lt (position_or_len is_percent (bytes_of (drop at t))) (length (bytes_of (drop at t)))) _ _ refl found)

-- ---- literal bytes neither throw nor read an argument
thrown-literals : (t : Text) (ds : List Directive) (n : ℕ) → thrown (literals t ++ ds) n ≡ thrown ds n
thrown-literals [] ds n = refl
thrown-literals (p ∷ t) ds n = thrown-literals t ds n

kinds-literals : (t : Text) (ds : List Directive) → kinds (literals t ++ ds) ≡ kinds ds
kinds-literals [] ds = refl
kinds-literals (p ∷ t) ds = kinds-literals t ds

spelled-literals : (t : Text) (ds : List Directive) (args : List FormatArg) → spelled (literals t ++ ds) args ≡ t ++ spelled ds args
spelled-literals [] ds args = refl
spelled-literals (p ∷ t) ds args = ap (λ v. p ∷ v) (spelled-literals t ds args)

pub append_none : {X : Type 0} (xs : List X) → xs ≡ xs ++ []
append_none [] = refl
append_none (x ∷ xs) = ap (λ v. x ∷ v) (append_none xs)

-- ---- what one form more gives
module _ (t : Text) (bs : List ℕ) (at : ℕ) (f : Found) (is : bs ≡ bytes_of t) (found : IsFirstForm bs at f) where
  pub thrown_next : (n : ℕ) → thrown (directives_from 0 (drop at t)) n ≡ thrown (formed f.form (get_or (sets_of t) f.percent empty) ∷ directives_from 0 (drop f.end t)) n
  thrown_next n = ap (λ ds. thrown ds n) (next_directives t bs at f is found) ∙ thrown-literals (slice_range t at f.percent) _ n

  pub kinds_next : kinds (directives_from 0 (drop at t)) ≡ kinds (formed f.form (get_or (sets_of t) f.percent empty) ∷ directives_from 0 (drop f.end t))
  kinds_next = ap kinds (next_directives t bs at f is found) ∙ kinds-literals (slice_range t at f.percent) _

  pub spelled_next : (args : List FormatArg) → spelled (directives_from 0 (drop at t)) args ≡ slice_range t at f.percent ++ (form_text f.form (get_or (sets_of t) f.percent empty) args ++ spelled (directives_from 0 (drop f.end t)) (args_behind f.form args))
  spelled_next args = ap (λ ds. spelled ds args) (next_directives t bs at f is found) ∙ spelled-literals (slice_range t at f.percent) _ args

module _ (t : Text) (bs : List ℕ) (at : ℕ) (is : bs ≡ bytes_of t) (none : position is_percent (drop at bs) ≡ None) where
  pub thrown_last : (n : ℕ) → thrown (directives_from 0 (drop at t)) n ≡ None
  thrown_last n = ap (λ ds. thrown ds n) (last_directives t bs at is none ∙ append_none (literals (drop at t))) ∙ thrown-literals (drop at t) [] n

  pub kinds_last : kinds (directives_from 0 (drop at t)) ≡ []
  kinds_last = ap kinds (last_directives t bs at is none ∙ append_none (literals (drop at t))) ∙ kinds-literals (drop at t) []

  pub spelled_last : (args : List FormatArg) → spelled (directives_from 0 (drop at t)) args ≡ drop at t
  spelled_last args =
      ap (λ ds. spelled ds args) (last_directives t bs at is none ∙ append_none (literals (drop at t))) ∙ spelled-literals (drop at t) [] args ∙ sym (append_none (drop at t))

regroup : {X : Type 0} (a b c d : List X) → ((a ++ b) ++ c) ++ d ≡ a ++ (b ++ (c ++ d))
regroup a b c d = simp append_assoc

pub spelled_step : (t : Text) (bs : List ℕ) (at : ℕ) (f : Found) → bs ≡ bytes_of t → IsFirstForm bs at f → (out : Text) (args : List FormatArg) → ((out ++ slice_range t at f.percent) ++ form_text f.form (get_or (sets_of t) f.percent empty) args) ++ spelled (directives_from 0 (drop f.end t)) (args_behind f.form args) ≡ out ++ spelled (directives_from 0 (drop at t)) args
spelled_step t bs at f is found out args =
    regroup out (slice_range t at f.percent) (form_text f.form (get_or (sets_of t) f.percent empty) args) _ ∙ ap (λ v. out ++ v) (sym (spelled_next t bs at f is found args))

pub spelled_end : (t : Text) (bs : List ℕ) (at : ℕ) → bs ≡ bytes_of t → position is_percent (drop at bs) ≡ None → (len : ℕ) (out : Text) (args : List FormatArg) → len ≡ length t → out ++ slice_range t at len ≡ out ++ spelled (directives_from 0 (drop at t)) args
spelled_end t bs at is none len out args long =
    ap (λ n. out ++ take (n - at) (drop at t)) long ∙ ap (λ v. out ++ v) (all_behind t at ∙ sym (spelled_last t bs at is none args))
