-- What stays known of a stream that waits.
use Rattle.std.proofs.Common.{arith, ◌≡◌, ℕ, zero, suc, ◌+◌, ◌-◌, ◌<◌, ◌≤◌, min, nat_eq, nat_lt, nat_le, true, false, cond, List, [], ◌∷◌, ◌++◌, length, take, drop, map, refl, sym, ap, ◌∙◌, subst, length-append, length-drop, length-take, Option, Some, None, Result, Ok, Err}
use Rattle.std.specs.Prelude.{option_map, IfOk}
use Rattle.std.specs.declared.alloc.AllocError.{AllocError}
use Rattle.std.specs.List.{starts_with}
use Rattle.std.specs.Cmp.Lexicographic.{pointwise}
use Rattle.std.proofs.lemmas.List.{take-append-le, take-append-drop, take-take}
use Rattle.httparse.specs.Grammar.{RequestHead}
use Rattle.httparse.specs.declared.spans.HeaderSpan.{HeaderSpan}
use Rattle.httparse.specs.declared.spans.RequestSpans.{RequestSpans}
use Rattle.httparse.specs.Spans.{span_bytes, header_bytes, IsRequestAt}
use Rattle.resin_http.specs.declared.request.Method.{Method}
use Rattle.resin_http.specs.declared.stream.Look.{Look}
use Rattle.resin_http.specs.declared.marks.Mark.TheVariants.{Head, Body}
use Rattle.resin_http.specs.Head.{head_of, IsHead}
use Rattle.resin_http.specs.Fields.{Pair, pairs_of, taken}
use Rattle.resin_http.specs.Stream.{Answer, asks, refuses, request_of, most_head, head_mark, head_end, line_count, most_lines, on_taken, on_head, at_end, first}
use Rattle.resin_http.specs.Marks.{Announced, Looks, by_taken, by_parts, by_head, by_end, announced, MarkStays}
use Rattle.resin_http.proofs.HeadLemmas.{head_complete}
use Rattle.resin_http.proofs.StreamLemmas.{head_end_fits, head_end_more, take-more, take_least, few}

some_none : {X : Type 0} (x : X) → Some x ≡ None → ⊥
some_none x e = absurd (cc)

none_some : {X : Type 0} (x : X) → None ≡ Some x → ⊥
none_some x e = absurd (cc)

-- ---- the search for the end of a head

-- where none ends in a text, none ends in a front of it
none_in_front : (xs ys : List ℕ) → head_end (xs ++ ys) ≡ None → head_end xs ≡ None
none_in_front xs ys none =
    elim (head_end xs) as (λ o. head_end xs ≡ o → o ≡ None) [
      | None ↦ λ e. refl
      | Some n ↦ λ e. absurd (some_none n (sym (head_end_more xs ys n e) ∙ none))
    ] refl

pub searched_front : (s : List ℕ) (n k : ℕ) → head_end (take n s) ≡ None → head_end (take n (take k s)) ≡ None
searched_front s n k none =
    let t = take-more n (take k s) (drop k s) in
    none_in_front (take n (take k s)) t.0 (ap head_end (sym t.1 ∙ ap (take n) (take-append-drop k s)) ∙ none)

shifted : (o : Option ℕ) (i : ℕ) → option_map (λ n. n + suc i) o ≡ option_map suc (option_map (λ n. n + i) o)
shifted None i = refl
shifted (Some m) i = let e : m + suc i ≡ suc (m + i) = omega arith in ap Some e

unshifted : (o : Option ℕ) → option_map (λ n. n + 0) o ≡ o
unshifted None = refl
unshifted (Some m) = let e : m + 0 ≡ m = omega arith in ap Some e

not_later : (o : Option ℕ) → option_map suc o ≡ None → o ≡ None
not_later None e = refl
not_later (Some m) e = absurd (some_none (suc m) e)

same_mark : (b : ℕ) (bs : List ℕ) (i : ℕ) → starts_with nat_eq (b ∷ take (i + 3) bs) head_mark ≡ starts_with nat_eq (b ∷ bs) head_mark
same_mark b bs i = ap (λ w. pointwise nat_eq head_mark (b ∷ w)) (take-take 3 (i + 3) bs (omega arith))

-- where no head ends in so many bytes and three more, it ends where it ends in the bytes after them
pub skipped : (s : List ℕ) (i : ℕ) → head_end (take (i + 3) s) ≡ None → option_map (λ n. n + i) (head_end (drop i s)) ≡ head_end s
skipped s zero none = unshifted (head_end s)
skipped [] (suc i) none = refl
skipped (b ∷ bs) (suc i) none =
    let front = take (i + 3) bs in
    let none' : head_end (b ∷ front) ≡ None = (let e : suc (i + 3) ≡ suc i + 3 = omega arith in ap (λ n. head_end (take n (b ∷ bs))) e) ∙ none in
    elim (starts_with nat_eq (b ∷ front) head_mark) as (λ t. starts_with nat_eq (b ∷ front) head_mark ≡ t → cond t (Some 4) (option_map suc (head_end front)) ≡ None
    → option_map (λ n. n + suc i) (head_end (drop i bs)) ≡ head_end (b ∷ bs)) [
      | true ↦ λ stands e. absurd (some_none 4 e)
      | false ↦ λ stands e.
          shifted (head_end (drop i bs)) i ∙ ap (option_map suc) (skipped bs i (not_later (head_end front) e))
          ∙ sym (ap (λ t. cond t (Some 4) (option_map suc (head_end bs))) (sym (same_mark b bs i) ∙ stands))
    ] refl none'

-- the search goes on three bytes before the place up to which it came
pub resumed : (s : List ℕ) (searched : ℕ) → head_end (take searched s) ≡ None → option_map (λ n. n + (searched - 3)) (head_end (drop (searched - 3) s)) ≡ head_end s
resumed s searched none =
    elim (nat_le 3 searched) as (λ t. nat_le 3 searched ≡ t → option_map (λ n. n + (searched - 3)) (head_end (drop (searched - 3) s)) ≡ head_end s) [
      | true ↦ λ e. let n : searched - 3 + 3 ≡ searched = grind arith in skipped s (searched - 3) (ap (λ m. head_end (take m s)) n ∙ none)
      | false ↦ λ e. let z : searched - 3 ≡ 0 = grind arith in ap (λ i. option_map (λ n. n + i) (head_end (drop i s))) z ∙ unshifted (head_end s)
    ] refl

pub whole_front : (s : List ℕ) (n : ℕ) → n ≡ min (length s) 16384 → length s < 16384 → head_end (take n s) ≡ None → head_end (take (length s) s) ≡ None
whole_front s n least short none = let e : length s ≡ n = omega arith in ap (λ k. head_end (take k s)) e ∙ none

-- ---- a head that announces a body

announced_more : (s more : List ℕ) (p : ℕ × ℕ) → announced s ≡ Some p → announced (s ++ more) ≡ Some p
unfolding announced
announced_more s more p e =
    elim (head_end (take most_head s)) as (λ o. head_end (take most_head s) ≡ o → by_end s o ≡ Some p → announced (s ++ more) ≡ Some p) [
      | None ↦ λ none is. absurd (none_some p is)
      | Some end ↦ λ at is.
          let fits = head_end_fits (take most_head s) end at in
          let t = take-more most_head s more in
          ap (by_end (s ++ more)) (ap head_end t.1 ∙ head_end_more (take most_head s) t.0 end at)
          ∙ ap (λ w. cond (nat_lt most_lines (line_count w)) None (by_head end (head_of w))) (take-append-le end s more (omega (arith, length-take most_head s))) ∙ is
    ] refl e

pub mark_stays : MarkStays
mark_stays s more (Head searched) e = (omega (arith, e.0, length-append s more), ap head_end (take-append-le searched s more e.0) ∙ e.1)
mark_stays s more (Body end body) e = announced_more s more (end, body) e

waits_taken : (end : ℕ) (after target : List ℕ) (fields : List Pair) (r : Result (Method × ℕ) ℕ) (p : ℕ × ℕ) → by_taken end r ≡ Some p → length after < p.1
    → on_taken end after target fields r ≡ None
waits_taken end after target fields (Err status) p e short = absurd (none_some p e)
waits_taken end after target fields (Ok m) p e short =
    let pair : (end, m.1) ≡ p = cc in
    let body : m.1 ≡ p.1 = ap (λ (q : ℕ × ℕ). q.1) pair in
    let over : nat_le m.1 (length after) ≡ false = grind arith in
    ap (λ t. cond {A = Option (Answer × ℕ)} t (Some (asks (request_of m.0 target fields (take m.1 after)), end + m.1)) None) over

waits_head : (end : ℕ) (after : List ℕ) (o : Option RequestHead) (p : ℕ × ℕ) → by_head end o ≡ Some p → length after < p.1 → on_head end after o ≡ None
waits_head end after None p e short = absurd (none_some p e)
waits_head end after (Some h) p e short = waits_taken end after h.target (pairs_of h) (taken h.method h.target (pairs_of h)) p e short

end_taken : (end : ℕ) (r : Result (Method × ℕ) ℕ) (p : ℕ × ℕ) → by_taken end r ≡ Some p → end ≡ p.0
end_taken end (Err status) p e = absurd (none_some p e)
end_taken end (Ok m) p e = let pair : (end, m.1) ≡ p = cc in ap (λ (q : ℕ × ℕ). q.0) pair

end_is : (end : ℕ) (o : Option RequestHead) (p : ℕ × ℕ) → by_head end o ≡ Some p → end ≡ p.0
end_is end None p e = absurd (none_some p e)
end_is end (Some h) p e = end_taken end (taken h.method h.target (pairs_of h)) p e

waits_end : (s : List ℕ) (end : ℕ) (p : ℕ × ℕ) → end ≤ length s → by_end s (Some end) ≡ Some p → length s < p.0 + p.1 → at_end s (Some end) ≡ None
waits_end s end p fits e short =
    elim (nat_lt most_lines (line_count (take end s))) as (λ t. cond t None (by_head end (head_of (take end s))) ≡ Some p
    → cond t (Some (refuses 431, end)) (on_head end (drop end s) (head_of (take end s))) ≡ None) [
      | true ↦ λ is. absurd (none_some p is)
      | false ↦ λ is.
          let at = end_is end (head_of (take end s)) p is in
          waits_head end (drop end s) (head_of (take end s)) p is (omega (arith, length-drop end s))
    ] e

-- a stream decides nothing while the body that its head announces isn't whole
pub waits : (s : List ℕ) (p : ℕ × ℕ) → announced s ≡ Some p → length s < p.0 + p.1 → first s ≡ None
unfolding announced first
waits s p e short =
    elim (head_end (take most_head s)) as (λ o. head_end (take most_head s) ≡ o → by_end s o ≡ Some p → at_end s o ≡ None) [
      | None ↦ λ none is. absurd (none_some p is)
      | Some end ↦ λ at is. let fits = head_end_fits (take most_head s) end at in waits_end s end p (omega (arith, length-take most_head s)) is short
    ] refl e

-- the front is read up to the most bytes of a head
pub announced_at : (s : List ℕ) (n : ℕ) (o : Option ℕ) → n ≡ min (length s) 16384 → o ≡ head_end (take n s) → announced s ≡ by_end s o
unfolding announced most_head
announced_at s n o least e = ap (by_end s) (sym (e ∙ ap (λ k. head_end (take k s)) least ∙ ap head_end (take_least s 16384)))

-- the spans of a head are its parts
pub head_announces : (s : List ℕ) (end : ℕ) (h : RequestHead) (headers : List HeaderSpan) (spans : RequestSpans) → line_count (take end s) ≤ most_lines
    → IsHead (take end s) h → IsRequestAt (take end s) headers spans h
    → by_end s (Some end) ≡ by_parts end (span_bytes (take end s) spans.method) (span_bytes (take end s) spans.path) (map (header_bytes (take end s)) (take spans.headers headers))
head_announces s end h headers spans le is at =
    ap (λ t. cond t None (by_head end (head_of (take end s)))) (few most_lines (line_count (take end s)) le)
    ∙ ap (by_head end) (head_complete (take end s) h is)
    ∙ (λ i. by_parts end (sym at.method i) (sym at.path i) (sym at.fields i))

-- what a look says, of equal answers
pub looks_both : (r : Result Look AllocError) (f f' : Option (Answer × ℕ)) (a a' : Option Announced) (end : ℕ) → f ≡ f' → a ≡ a'
    → IfOk r (λ l. Looks f' a' end l) → IfOk r (λ l. Looks f a end l)
looks_both r f f' a a' end e g h = subst (λ x. IfOk r (λ l. Looks x a end l)) (sym e) (subst (λ x. IfOk r (λ l. Looks f' x end l)) (sym g) h)
