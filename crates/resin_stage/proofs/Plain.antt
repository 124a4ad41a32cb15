-- A text without labels has no policies.
use Rattle.std.proofs.Common.{◌≡◌, ℕ, nat_eq, List, [], ◌∷◌, ◌++◌, refl, sym, ap, subst, ◌∙◌}
use Rattle.std.specs.List.{flat_map}
use Rattle.resin_scope.specs.Under.label.Sets.{NumberSet, empty, numbers}
use Rattle.resin_scope.proofs.label_lemmas.Members.{of_rising-nil, numbers-of_rising}
use Rattle.std.specs.Prelude.{Option, Some}
use Rattle.resin_scope.specs.Under.bytes.declared.header.Header.{Header}
use Rattle.resin_scope.specs.Under.lstr.Texts.{Text, carrying, bytes_of, sets_of, distinct, policies_in_order}
use Rattle.resin_scope.specs.Under.journal.Events.{EventList}
use Rattle.resin_stage.specs.Lines.{header_line}
use Rattle.resin_stage.specs.Writes.{IsOpen, MaySend}

none : numbers empty ≡ []
none = ap numbers (sym of_rising-nil) ∙ numbers-of_rising [] tt

no_numbers : (bs : List ℕ) → flat_map numbers (sets_of (carrying empty bs)) ≡ []
no_numbers [] = refl
no_numbers (b ∷ bs) = ap (λ ns. ns ++ flat_map numbers (sets_of (carrying empty bs))) none ∙ no_numbers bs

pub no_policies : (bs : List ℕ) → policies_in_order (carrying empty bs) ≡ []
no_policies bs = ap (distinct nat_eq) (no_numbers bs)

-- so it may be sent as soon as its write was drawn
pub may_send_plain : (w : ℕ) (t : Text) (bs : List ℕ) (j : EventList) (n : ℕ) → t ≡ carrying empty bs → IsOpen w [] j n → MaySend w t j n
may_send_plain w t bs j n e o = subst (λ (x : Text). MaySend w x j n) (sym e) (subst (λ ps. IsOpen w ps j n) (sym (no_policies bs)) o)

bytes_plain : (bs : List ℕ) → bytes_of (carrying empty bs) ≡ bs
bytes_plain [] = refl
bytes_plain (b ∷ bs) = ap (λ xs. b ∷ xs) (bytes_plain bs)

-- its bytes, and the header that it sets
pub text_plain : (t : Text) (bs : List ℕ) → t ≡ carrying empty bs → bytes_of t ≡ bs
text_plain t bs e = ap bytes_of e ∙ bytes_plain bs

pub line_plain : (t : Text) (bs : List ℕ) (h : Header) → t ≡ carrying empty bs → header_line bs ≡ Some h → header_line (bytes_of t) ≡ Some h
line_plain t bs h e k = ap header_line (text_plain t bs e) ∙ k
