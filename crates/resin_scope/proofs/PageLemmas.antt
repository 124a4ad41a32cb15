-- Headers without a name, and the innermost of some buffers.
use Rattle.std.proofs.Common.{◌≡◌, ℕ, zero, suc, ◌+◌, ◌<◌, ◌≤◌, Bool, true, false, cond, List, [], ◌∷◌, ◌++◌, length, get_or, take, refl, sym, ap, subst, ◌∙◌, arith, true≢false}
use Rattle.std.specs.Prelude.{not, ◌||◌, ◌&&◌, Ok, Err}
use Rattle.std.specs.List.{list_any}
use Rattle.resin_value.specs.Under.bytes.declared.header.Header.{Header}
use Rattle.resin_value.specs.Under.lstr.declared.limits.TheConstants.{LONGEST}
use Rattle.resin_value.specs.Under.lstr.Texts.{Text}
use Rattle.resin_value.specs.Under.lstr.Faults.{GivesText}
use Rattle.resin_value.specs.Under.lstr.declared.text.TextFault.{TextFault}
use Rattle.resin_value.specs.Under.lstr.declared.text.TextFault.TheVariants.{TooLong, Memory}
use Rattle.resin_scope.specs.Pages.{is_same_name, other_headers, headers_with, innermost, appended_to_innermost, Buffers}

-- the innermost buffer is the last
innermost-last : (bs : List Text) (i : ℕ) (d : Text) → i + 1 ≡ length bs → get_or bs i d ≡ innermost bs
innermost-last [] i d e = absurd (omega (arith, e))
innermost-last (b ∷ []) zero d e = refl
innermost-last (b ∷ []) (suc i) d e = absurd (omega (arith, e))
innermost-last (b ∷ c ∷ bs) zero d e = absurd (omega (arith, e))
innermost-last (b ∷ c ∷ bs) (suc i) d e = innermost-last (c ∷ bs) i d (omega (arith, e))

appended-last : (t : Text) (bs : List Text) (i : ℕ) → i + 1 ≡ length bs → take i bs ++ (innermost bs ++ t) ∷ [] ≡ appended_to_innermost t bs
appended-last t [] i e = absurd (omega (arith, e))
appended-last t (b ∷ []) zero e = refl
appended-last t (b ∷ []) (suc i) e = absurd (omega (arith, e))
appended-last t (b ∷ c ∷ bs) zero e = absurd (omega (arith, e))
appended-last t (b ∷ c ∷ bs) (suc i) e = ap (λ xs. b ∷ xs) (appended-last t (c ∷ bs) i (omega (arith, e)))

module _ (t : Text) (bs : List Text) (i : ℕ) (last : i + 1 ≡ length bs) (old : Text) (old_is : old ≡ get_or bs i old) where
  is_innermost : old ≡ innermost bs
  is_innermost = old_is ∙ innermost-last bs i old last

  pub refused : (e : TextFault) → GivesText (Err e) (old ++ t) → Buffers t bs (Err e) bs
  refused TooLong h = (refl, subst (λ x. LONGEST < length (x ++ t)) is_innermost h)
  refused Memory h = refl

  pub grown : (text : Text) (new : List Text) → GivesText (Ok text) (old ++ t) → new ≡ take i bs ++ text ∷ [] → Buffers t bs (Ok tt) new
  grown text new h is = (
    is ∙ ap (λ x. take i bs ++ x ∷ []) (h.0 ∙ ap (λ x. x ++ t) is_innermost) ∙ appended-last t bs i last,
    subst (λ x. length (x ++ t) ≤ LONGEST) is_innermost h.1,
  )
