-- When a call that moves as many bytes as it can moves none.
use Rattle.std.proofs.Common.{arith, ◌≡◌, ℕ, ◌<◌, min, List, [], ◌∷◌, ◌++◌, ◌+◌, ◌-◌, length, take, drop, refl, sym, ap, ◌∙◌}
use Rattle.std.proofs.lemmas.List.{take_all, take-append-drop, length-drop, drop-drop}

-- no byte moves only where none is left
pub taken_none : (left : List ℕ) (most room count : ℕ) → count ≡ min most (min room (length left)) → 0 < most → 0 < room → count ≡ 0 → left ≡ []
taken_none [] most room count is a b none = refl
taken_none (x ∷ xs) most room count is a b none = absurd (omega arith)

-- what is left from a place on is what moves and what is left after it
pub moved_front : (xs bytes : List ℕ) (place count : ℕ) (front : List ℕ) → xs ≡ bytes
    → front ≡ take count (take (length xs - place) (drop place xs)) → drop place bytes ≡ front ++ drop (place + count) bytes
moved_front xs bytes place count front same is =
    let all : take (length xs - place) (drop place xs) ≡ drop place bytes =
    take_all _ _ (omega (arith, length-drop place xs)) ∙ ap (drop place) same in
    sym (ap (λ ys. ys ++ drop (place + count) bytes) (is ∙ ap (take count) all) ∙ ap (λ ys. take count (drop place bytes) ++ ys) (sym (drop-drop count place bytes)) ∙ take-append-drop count (drop place bytes))
