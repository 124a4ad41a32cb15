-- The set of a list's numbers, from those of its halves.
use Rattle.std.proofs.Common.{◌≡◌, ℕ, ◌-◌, ◌<◌, ◌≤◌, List, [], ◌∷◌, ◌++◌, length, take, drop, get_or, sym, ap, ◌∙◌, arith}
use Rattle.std.specs.Prelude.{◌||◌, nat_eq}
use Rattle.std.specs.List.{list_any}
use Rattle.std.proofs.lemmas.List.{take-append-drop, take_all, length-drop}
use Rattle.std.proofs.lemmas.List.Folds.{list_any-append}
use Rattle.resin_step_parts.specs.Under.label.Sets.{NumberSet, contains, empty, insert, union, set_of}
use Rattle.resin_step_parts.proofs.label_lemmas.Members.{same_by, contains-union, contains-set_of}

-- a list of one number
pub one_number : (ns : List ℕ) (none : NumberSet) (n : ℕ) → 1 ≤ length ns → length ns < 2 → none ≡ empty → n ≡ get_or ns 0 0 → insert none n ≡ set_of ns
one_number [] none n some one e is = absurd (omega (arith, some))
one_number (x ∷ []) none n some one e is = λ i. insert (e i) (is i)
one_number (x ∷ y ∷ ns) none n some one e is = absurd (omega (arith, one))

both : (front behind : List ℕ) (a b : NumberSet) → a ≡ set_of front → b ≡ set_of behind → union a b ≡ set_of (front ++ behind)
both front behind a b e f = same_by (union a b) (set_of (front ++ behind)) (λ q.
    contains-union a b q
    ∙ (λ i. contains (e i) q || contains (f i) q)
    ∙ (λ i. contains-set_of front q i || contains-set_of behind q i)
    ∙ sym (list_any-append (λ x. nat_eq x q) front behind)
    ∙ sym (contains-set_of (front ++ behind) q))

behind_all : (half : ℕ) (ns : List ℕ) → take (length ns - half) (drop half ns) ≡ drop half ns
behind_all half ns = take_all (length ns - half) (drop half ns) (omega (arith, length-drop half ns))

pub halves : (half : ℕ) (ns front behind : List ℕ) (a b : NumberSet) → front ≡ take half ns → behind ≡ take (length ns - half) (drop half ns) → a ≡ set_of front → b ≡ set_of behind → union a b ≡ set_of ns
halves half ns front behind a b f g e h =
    both front behind a b e h ∙ ap set_of ((λ i. f i ++ (g ∙ behind_all half ns) i) ∙ take-append-drop half ns)
