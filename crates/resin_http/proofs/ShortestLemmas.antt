-- The length that is told with an answer is the end of the shortest front that decides one.
use Rattle.std.proofs.Common.{arith, Bool, ◌≡◌, ℕ, zero, suc, ◌+◌, ◌-◌, ◌<◌, ◌≤◌, nat_eq, nat_lt, nat_le, true, false, cond, List, [], ◌∷◌, ◌++◌, length, take, drop, refl, sym, ap, ◌∙◌, length-take, subst, Option, Some, None, Result, Ok, Err}
use Rattle.std.specs.Prelude.{option_map}
use Rattle.std.specs.List.{starts_with}
use Rattle.std.proofs.lemmas.List.{take-append-drop, drop-take}
use Rattle.std.specs.Cmp.Lexicographic as lexicographic
use Rattle.httparse.specs.Grammar.{RequestHead}
use Rattle.resin_http.specs.declared.request.Method.{Method}
use Rattle.resin_http.specs.Head.{head_of}
use Rattle.resin_http.specs.Fields.{Pair, pairs_of, taken}
use Rattle.resin_http.specs.Stream.{Answer, asks, refuses, most_head, head_mark, head_end, line_count, most_lines, request_of, on_taken, on_head, at_end, first, EndsShortest}
use Rattle.resin_http.proofs.HeadLemmas.{nat_le-true, le-nat_le}
use Rattle.resin_http.proofs.StreamLemmas.{head_end_fits, head_end_more, front_of}

take-take : (n m : ℕ) (xs : List ℕ) → n ≤ m → take n (take m xs) ≡ take n xs
take-take zero m xs le = refl
take-take (suc n) zero xs le = absurd (omega arith)
take-take (suc n) (suc m) [] le = refl
take-take (suc n) (suc m) (x ∷ xs) le = ap (λ w. x ∷ w) (take-take n m xs (omega arith))

-- ---- the front with a head's end has it

front_later : (bs : List ℕ) (k : ℕ) → ((m : ℕ) → head_end bs ≡ Some m → head_end (take m bs) ≡ Some m)
    → (o : Option ℕ) → head_end bs ≡ o → option_map suc o ≡ Some (suc k) → option_map suc (head_end (take k bs)) ≡ Some (suc k)
front_later bs k step None at is = absurd (cc)
front_later bs k step (Some m) at is =
    let next : suc m ≡ suc k = cc in
    let same : m ≡ k = omega arith in
    ap (option_map suc) (subst (λ j. head_end (take j bs) ≡ Some j) same (step m at))

front_step : (b : ℕ) (bs : List ℕ) (n : ℕ) → 4 ≤ n → ((m : ℕ) → head_end bs ≡ Some m → head_end (take m bs) ≡ Some m)
    → head_end (b ∷ bs) ≡ Some n → head_end (take n (b ∷ bs)) ≡ Some n
front_step b bs zero four step e = absurd (omega arith)
front_step b bs (suc k) four step e =
    let same : starts_with nat_eq (b ∷ take k bs) head_mark ≡ starts_with nat_eq (b ∷ bs) head_mark =
    ap (λ w. lexicographic.pointwise nat_eq head_mark w) (take-take 4 (suc k) (b ∷ bs) four) in
    ap (λ t. cond t (Some 4) (option_map suc (head_end (take k bs)))) same
    ∙ elim (starts_with nat_eq (b ∷ bs) head_mark) as (λ t. cond t (Some 4) (option_map suc (head_end bs)) ≡ Some (suc k)
    → cond t (Some 4) (option_map suc (head_end (take k bs))) ≡ Some (suc k)) [
      | true ↦ λ is. is
      | false ↦ λ is. front_later bs k step (head_end bs) refl is
    ] e

head_end_front : (s : List ℕ) (n : ℕ) → head_end s ≡ Some n → head_end (take n s) ≡ Some n
head_end_front [] n e = absurd (cc)
head_end_front (b ∷ bs) n e = front_step b bs n (head_end_fits (b ∷ bs) n e).0 (λ m at. head_end_front bs m at) e

found_front : (s : List ℕ) (end n : ℕ) → end ≤ n → head_end (take most_head s) ≡ Some end → head_end (take most_head (take n s)) ≡ Some end
found_front s end n le at =
    let inside = (head_end_fits (take most_head s) end at).1 in
    let short : end ≤ most_head = omega (arith, length-take most_head s) in
    let w : List ℕ = take most_head (take n s) in
    let front : take end w ≡ take end s = take-take end most_head (take n s) short ∙ take-take end n s le in
    let found : head_end (take end s) ≡ Some end = ap head_end (sym (take-take end most_head s short)) ∙ head_end_front (take most_head s) end at in
    ap head_end (sym (take-append-drop end w) ∙ ap (λ v. v ++ drop end w) front) ∙ head_end_more (take end s) (drop end w) end found

-- ---- and decides what the whole stream decides

taken_front : (end : ℕ) (after target : List ℕ) (fields : List Pair) (r : Result (Method × ℕ) ℕ) (p : Answer × ℕ)
    → on_taken end after target fields r ≡ Some p → (end ≤ p.1) × (on_taken end (take (p.1 - end) after) target fields r ≡ Some p)
taken_front end after target fields (Err status) p e =
    let used : end ≡ p.1 = ap (λ (q : Answer × ℕ). q.1) (let same : (refuses status, end) ≡ p = cc in same) in
    (omega arith, e)
taken_front end after target fields (Ok m) p e =
    elim (nat_le m.1 (length after)) as (λ t. nat_le m.1 (length after) ≡ t → cond t (Some (asks (request_of m.0 target fields (take m.1 after)), end + m.1)) None ≡ Some p
    → (end ≤ p.1) × (on_taken end (take (p.1 - end) after) target fields (Ok m) ≡ Some p)) [
      | true ↦ λ stands is.
          let same : (asks (request_of m.0 target fields (take m.1 after)), end + m.1) ≡ p = cc in
          let used : end + m.1 ≡ p.1 = ap (λ (q : Answer × ℕ). q.1) same in
          let size : p.1 - end ≡ m.1 = omega arith in
          let fits : m.1 ≤ length after = nat_le-true m.1 (length after) stands in
          let still : nat_le m.1 (length (take m.1 after)) ≡ true = le-nat_le m.1 (length (take m.1 after)) (omega (arith, length-take m.1 after)) in (
            omega arith,
            ap (λ k. on_taken end (take k after) target fields (Ok m)) size
                ∙ ap (λ t. cond t (Some (asks (request_of m.0 target fields (take m.1 (take m.1 after))), end + m.1)) None) still
                ∙ ap (λ w. Some (asks (request_of m.0 target fields w), end + m.1)) (take-take m.1 m.1 after (omega arith)) ∙ is,
          )
      | false ↦ λ stands is. absurd (cc)
    ] refl e

head_front : (end : ℕ) (after : List ℕ) (o : Option RequestHead) (p : Answer × ℕ)
    → on_head end after o ≡ Some p → (end ≤ p.1) × (on_head end (take (p.1 - end) after) o ≡ Some p)
head_front end after None p e =
    let used : end ≡ p.1 = ap (λ (q : Answer × ℕ). q.1) (let same : (refuses 400, end) ≡ p = cc in same) in
    (omega arith, e)
head_front end after (Some h) p e = taken_front end after h.target (pairs_of h) (taken h.method h.target (pairs_of h)) p e

lines_front : (end : ℕ) (after : List ℕ) (o : Option RequestHead) (many : Bool) (p : Answer × ℕ)
    → cond many (Some (refuses 431, end)) (on_head end after o) ≡ Some p
    → (end ≤ p.1) × (cond many (Some (refuses 431, end)) (on_head end (take (p.1 - end) after) o) ≡ Some p)
lines_front end after o true p e =
    let used : end ≡ p.1 = ap (λ (q : Answer × ℕ). q.1) (let same : (refuses 431, end) ≡ p = cc in same) in
    (omega arith, e)
lines_front end after o false p e = head_front end after o p e

end_front : (s : List ℕ) (end : ℕ) (p : Answer × ℕ) → at_end s (Some end) ≡ Some p → (end ≤ p.1) × (at_end (take p.1 s) (Some end) ≡ Some p)
end_front s end p e =
    let front = lines_front end (drop end s) (head_of (take end s)) (nat_lt most_lines (line_count (take end s))) p e in
    let le = front.0 in
    let split : p.1 ≡ end + (p.1 - end) = omega arith in
    let behind : drop end (take p.1 s) ≡ take (p.1 - end) (drop end s) = ap (λ k. drop end (take k s)) split ∙ drop-take end (p.1 - end) s in (
      le,
      ap (λ w. cond (nat_lt most_lines (line_count w)) (Some (refuses 431, end)) (on_head end (drop end (take p.1 s)) (head_of w))) (take-take end p.1 s le)
          ∙ ap (λ w. cond (nat_lt most_lines (line_count (take end s))) (Some (refuses 431, end)) (on_head end w (head_of (take end s)))) behind
          ∙ front.1,
    )

full_front : (s : List ℕ) (p : Answer × ℕ) → head_end (take most_head s) ≡ None → (full : Bool) → nat_le most_head (length s) ≡ full
    → cond full (Some (refuses 431, most_head)) None ≡ Some p → at_end (take p.1 s) (head_end (take most_head (take p.1 s))) ≡ Some p
full_front s p none true full e =
    let used : most_head ≡ p.1 = ap (λ (q : Answer × ℕ). q.1) (let same : (refuses 431, most_head) ≡ p = cc in same) in
    let fits : most_head ≤ length s = nat_le-true most_head (length s) full in
    let still : nat_le most_head (length (take most_head s)) ≡ true = le-nat_le most_head (length (take most_head s)) (omega (arith, length-take most_head s)) in
    ap (λ k. at_end (take k s) (head_end (take most_head (take k s)))) (sym used)
    ∙ ap (λ w. at_end (take most_head s) (head_end w)) (take-take most_head most_head s (omega arith))
    ∙ ap (at_end (take most_head s)) none
    ∙ ap (λ t. cond t (Some (refuses 431, most_head)) None) still ∙ e
full_front s p none false full e = absurd (cc)

first_front : (s : List ℕ) (p : Answer × ℕ) → first s ≡ Some p → first (take p.1 s) ≡ Some p
unfolding first
first_front s p e =
    elim (head_end (take most_head s)) as (λ o. head_end (take most_head s) ≡ o → at_end s o ≡ Some p
    → at_end (take p.1 s) (head_end (take most_head (take p.1 s))) ≡ Some p) [
      | None ↦ λ none is. full_front s p none (nat_le most_head (length s)) refl is
      | Some end ↦ λ at is.
          let front = end_front s end p is in
          ap (at_end (take p.1 s)) (found_front s end p.1 front.0 at) ∙ front.1
    ] refl e

-- ---- and no shorter one decides anything

nothing_before : (s : List ℕ) (p : Answer × ℕ) (n : ℕ) → first s ≡ Some p → n < p.1 → (o : Option (Answer × ℕ)) → first (take n s) ≡ o → first (take n s) ≡ None
nothing_before s p n e lt None is = is
nothing_before s p n e lt (Some q) is =
    let f = front_of (take n s) q is in
    let within = f.within in
    let whole : first s ≡ Some q = ap first (sym (take-append-drop n s)) ∙ f.stays (drop n s) in
    let both : Some p ≡ Some q = sym e ∙ whole in
    let same : p ≡ q = cc in
    let used : p.1 ≡ q.1 = ap (λ (x : Answer × ℕ). x.1) same in
    absurd (omega (arith, length-take n s))

pub ends_shortest : EndsShortest
ends_shortest s p e = (first_front s p e, λ n lt. nothing_before s p n e lt (first (take n s)) refl)
