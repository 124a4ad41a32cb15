-- What is left of the bytes says where the mark ends, and how many lines there are.
use Rattle.std.proofs.Common.{arith, ◌≡◌, ℕ, suc, ◌+◌, ◌-◌, ◌<◌, nat_eq, Bool, true, false, cond, List, ◌∷◌, length, take, drop, get_or, Option, Some, None, refl, sym, ap, ◌∙◌, add-one}
use Rattle.std.specs.Prelude.{option_map}
use Rattle.std.specs.List.{starts_with}
use Rattle.std.proofs.Math.Seq.{drop-cons}
use Rattle.std.proofs.lemmas.List.{take_rest}
use Rattle.resin_http.specs.Stream.{head_mark, line_end, head_end, line_count}

-- the bytes from a place on, as a slice
abbrev pub from_place : ℕ → List ℕ → List ℕ
from_place i bytes = take (length bytes - i) (drop i bytes)

from_is : (bytes : List ℕ) (i : ℕ) → i < length bytes → from_place i bytes ≡ get_or bytes i 0 ∷ drop (i + 1) bytes
from_is bytes i within = take_rest bytes i ∙ drop-cons bytes i 0 within ∙ ap (λ n. get_or bytes i 0 ∷ drop n bytes) (sym (add-one i))

drop_is : (bytes : List ℕ) (i : ℕ) → i < length bytes → drop i bytes ≡ get_or bytes i 0 ∷ drop (i + 1) bytes
drop_is bytes i within = drop-cons bytes i 0 within ∙ ap (λ n. get_or bytes i 0 ∷ drop n bytes) (sym (add-one i))

moved : (o : Option ℕ) (i : ℕ) → option_map (λ n. n + i) (option_map suc o) ≡ option_map (λ n. n + (i + 1)) o
moved None i = refl
moved (Some m) i = let same : suc m + i ≡ m + (i + 1) = omega arith in ap Some same

-- where no mark begins, it ends where it ends in the bytes after
pub head_end_step : (bytes : List ℕ) (i : ℕ) → i < length bytes → starts_with nat_eq (from_place i bytes) head_mark ≡ false
    → option_map (λ n. n + i) (head_end (drop i bytes)) ≡ option_map (λ n. n + (i + 1)) (head_end (drop (i + 1) bytes))
head_end_step bytes i within other =
    let rest : List ℕ = drop (i + 1) bytes in
    let first : starts_with nat_eq (get_or bytes i 0 ∷ rest) head_mark ≡ false = ap (λ w. starts_with nat_eq w head_mark) (sym (from_is bytes i within)) ∙ other in
    ap (λ w. option_map (λ n. n + i) (head_end w)) (drop_is bytes i within)
    ∙ ap (λ t. option_map (λ n. n + i) (cond t (Some 4) (option_map suc (head_end rest)))) first
    ∙ moved (head_end rest) i

-- where a mark begins, it ends four bytes on
pub head_end_here : (bytes : List ℕ) (i : ℕ) → i < length bytes → starts_with nat_eq (from_place i bytes) head_mark ≡ true
    → head_end (drop i bytes) ≡ Some 4
head_end_here bytes i within here =
    let rest : List ℕ = drop (i + 1) bytes in
    let first : starts_with nat_eq (get_or bytes i 0 ∷ rest) head_mark ≡ true = ap (λ w. starts_with nat_eq w head_mark) (sym (from_is bytes i within)) ∙ here in
    ap head_end (drop_is bytes i within) ∙ ap (λ t. cond t (Some 4) (option_map suc (head_end rest))) first

pub line_count_step : (bytes : List ℕ) (i : ℕ) (t : Bool) → i < length bytes → starts_with nat_eq (from_place i bytes) line_end ≡ t
    → line_count (drop i bytes) ≡ cond t 1 0 + line_count (drop (i + 1) bytes)
line_count_step bytes i t within stands =
    let rest : List ℕ = drop (i + 1) bytes in
    let first : starts_with nat_eq (get_or bytes i 0 ∷ rest) line_end ≡ t = ap (λ w. starts_with nat_eq w line_end) (sym (from_is bytes i within)) ∙ stands in
    ap line_count (drop_is bytes i within) ∙ ap (λ b. cond b 1 0 + line_count rest) first
