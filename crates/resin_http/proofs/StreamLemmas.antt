-- The requests of a stream, however it is cut into pieces.
use Rattle.std.proofs.Common.{rules, arith, ◌≡◌, ℕ, zero, suc, ◌+◌, ◌<◌, ◌≤◌, min, nat_eq, nat_lt, nat_le, Bool, true, false, cond, not, List, [], ◌∷◌, ◌++◌, length, take, drop, map, refl, sym, ap, ◌∙◌, length-append, length-drop, length-take, subst, Option, Some, None, Result, Ok, Err}
use Rattle.std.specs.Prelude.{option_map, sum_by, reverse, IfOk}
use Rattle.std.specs.declared.alloc.AllocError.{AllocError}
use Rattle.std.specs.List.{starts_with, flat_map}
use Rattle.std.proofs.lemmas.List.{take-append-le, drop-append-le, take_all, length-reverse}
use Rattle.std.proofs.lemmas.List.Sums.{sum_by-cons}
use Rattle.std.proofs.lemmas.Bool.{lt-ltb}
use Rattle.std.specs.Cmp.Lexicographic.{same_text}
use Rattle.httparse.specs.Grammar.{RequestHead, Field, print_request, print_end, print_blank, print_field, print_version, trim_ows, skip_ows, is_ows}
use Rattle.httparse.specs.declared.spans.HeaderSpan.{HeaderSpan}
use Rattle.httparse.specs.declared.spans.RequestSpans.{RequestSpans}
use Rattle.httparse.specs.Spans.{name_and_value, span_bytes, header_bytes, IsRequestAt}
use Rattle.httparse.proofs.GrammarLemmas.{print_request-append}
use Rattle.httparse.proofs.PieceLemmas.{print_field-append}
use Rattle.resin_inputs.specs.Under.bytes.declared.header.Header.{Header}
use Rattle.resin_http.specs.declared.request.Method.{Method}
use Rattle.resin_http.specs.declared.request.Request.{Request}
use Rattle.resin_http.specs.declared.request.Step.{Step}
use Rattle.resin_http.specs.declared.request.Step.TheVariants.{Need, Got, Refuse}
use Rattle.resin_http.specs.Head.{head_of, IsHead}
use Rattle.resin_http.specs.Fields.{Pair, pairs_of, header_of, taken, taken_body, taken_length, begins_with_slash, most_body, has_field, transfer_encoding, content_length, values_of, body_length, method_of}
use Rattle.resin_http.specs.Stream.{Answer, asks, refuses, most_head, head_mark, head_end, line_count, most_lines, request_of, on_taken, on_parts, on_head, at_end, first, on_answer, answers_in, IsServable, StaysFirst, TakesSome, AnswersGrow}
use Rattle.resin_http.specs.Steps.{Steps, Fits}
use Rattle.resin_http.proofs.HeadLemmas.{head_sound, head_complete, head_none, nat_le-true, le-nat_le}

-- ---- where the head ends

mark_fits : (s : List ℕ) → starts_with nat_eq s head_mark ≡ true → 4 ≤ length s
mark_fits s e =
    let same : head_mark ≡ take 4 s = same_text head_mark (take 4 s) (sym e) in
    let len : 4 ≡ length (take 4 s) = ap length same in
    omega (arith, length-take 4 s)

fits_later : (bs : List ℕ) (n : ℕ) → ((m : ℕ) → head_end bs ≡ Some m → (4 ≤ m) × (m ≤ length bs))
    → (o : Option ℕ) → head_end bs ≡ o → option_map suc o ≡ Some n → (4 ≤ n) × (n ≤ suc (length bs))
fits_later bs n step None at is = absurd (cc)
fits_later bs n step (Some m) at is = let next : suc m ≡ n = cc in let fits = step m at in (omega arith, omega arith)

pub head_end_fits : (s : List ℕ) (n : ℕ) → head_end s ≡ Some n → (4 ≤ n) × (n ≤ length s)
head_end_fits [] n e = absurd (cc)
head_end_fits (b ∷ bs) n e =
    elim (starts_with nat_eq (b ∷ bs) head_mark) as (λ t. starts_with nat_eq (b ∷ bs) head_mark ≡ t → cond t (Some 4) (option_map suc (head_end bs)) ≡ Some n → (4 ≤ n) × (n ≤ suc (length bs))) [
      | true ↦ λ stands is. let four : 4 ≡ n = cc in let fits : 4 ≤ suc (length bs) = mark_fits (b ∷ bs) stands in (omega arith, omega arith)
      | false ↦ λ stands is. fits_later bs n (λ m at. head_end_fits bs m at) (head_end bs) refl is
    ] refl e

more_later : (bs more : List ℕ) (n : ℕ) → ((m : ℕ) → head_end bs ≡ Some m → head_end (bs ++ more) ≡ Some m)
    → (o : Option ℕ) → head_end bs ≡ o → option_map suc o ≡ Some n → option_map suc (head_end (bs ++ more)) ≡ Some n
more_later bs more n step None at is = absurd (cc)
more_later bs more n step (Some m) at is = ap (option_map suc) (step m at) ∙ is

pub head_end_more : (s more : List ℕ) (n : ℕ) → head_end s ≡ Some n → head_end (s ++ more) ≡ Some n
head_end_more [] more n e = absurd (cc)
head_end_more (b ∷ bs) more n e =
    let fits = head_end_fits (b ∷ bs) n e in
    let same : starts_with nat_eq (b ∷ (bs ++ more)) head_mark ≡ starts_with nat_eq (b ∷ bs) head_mark =
    ap (λ w. Rattle.std.specs.Cmp.Lexicographic.pointwise nat_eq head_mark w) (take-append-le 4 (b ∷ bs) more (omega arith)) in
    ap (λ t. cond t (Some 4) (option_map suc (head_end (bs ++ more)))) same
    ∙ elim (starts_with nat_eq (b ∷ bs) head_mark) as (λ t. cond t (Some 4) (option_map suc (head_end bs)) ≡ Some n → cond t (Some 4) (option_map suc (head_end (bs ++ more))) ≡ Some n) [
      | true ↦ λ is. is
      | false ↦ λ is. more_later bs more n (λ m at. head_end_more bs more m at) (head_end bs) refl is
    ] e

-- ---- what the front decides

-- what a decision says
record Decides (f : List ℕ → Option (Answer × ℕ)) (after : List ℕ) (end : ℕ) (p : Answer × ℕ) : Type 0 where
  some : end ≤ p.1
  within : p.1 ≤ end + length after
  stays : (more : List ℕ) → f (after ++ more) ≡ Some p

taken_decides : (end : ℕ) (after target : List ℕ) (fields : List Pair) (r : Result (Method × ℕ) ℕ) (p : Answer × ℕ)
    → on_taken end after target fields r ≡ Some p → Decides (λ w. on_taken end w target fields r) after end p
taken_decides end after target fields (Err status) p e =
    let used : end ≡ p.1 = ap (λ (q : Answer × ℕ). q.1) (let same : (refuses status, end) ≡ p = cc in same) in
    record { some = omega arith; within = omega arith; stays = λ more. e }
taken_decides end after target fields (Ok m) p e =
    elim (nat_le m.1 (length after)) as (λ t. nat_le m.1 (length after) ≡ t → cond t (Some (asks (request_of m.0 target fields (take m.1 after)), end + m.1)) None ≡ Some p
    → Decides (λ w. on_taken end w target fields (Ok m)) after end p) [
      | true ↦ λ stands is.
          let same : (asks (request_of m.0 target fields (take m.1 after)), end + m.1) ≡ p = cc in
          let used : end + m.1 ≡ p.1 = ap (λ (q : Answer × ℕ). q.1) same in
          let fits : m.1 ≤ length after = nat_le-true m.1 (length after) stands in
          record {
            some = omega arith;
            within = omega arith;
            stays = λ more.
                let still : nat_le m.1 (length (after ++ more)) ≡ true = le-nat_le m.1 (length (after ++ more)) (omega (arith, length-append after more)) in
                ap (λ t. cond t (Some (asks (request_of m.0 target fields (take m.1 (after ++ more))), end + m.1)) None) still
                ∙ ap (λ w. Some (asks (request_of m.0 target fields w), end + m.1)) (take-append-le m.1 after more fits) ∙ is;
          }
      | false ↦ λ stands is. absurd (cc)
    ] refl e

head_decides : (end : ℕ) (after : List ℕ) (o : Option RequestHead) (p : Answer × ℕ)
    → on_head end after o ≡ Some p → Decides (λ w. on_head end w o) after end p
head_decides end after None p e =
    let used : end ≡ p.1 = ap (λ (q : Answer × ℕ). q.1) (let same : (refuses 400, end) ≡ p = cc in same) in
    record { some = omega arith; within = omega arith; stays = λ more. e }
head_decides end after (Some h) p e = taken_decides end after h.target (pairs_of h) (taken h.method h.target (pairs_of h)) p e

-- what `first` says
pub record Front (s : List ℕ) (p : Answer × ℕ) : Type 0 where
  pub some : 0 < p.1
  pub within : p.1 ≤ length s
  pub stays : (more : List ℕ) → first (s ++ more) ≡ Some p

take-front : (n : ℕ) (s more : List ℕ) → n ≤ length s → take n (s ++ more) ≡ take n s
take-front n s more = take-append-le n s more

end_decides : (s : List ℕ) (end : ℕ) (p : Answer × ℕ) → 0 < end → end ≤ length s → at_end s (Some end) ≡ Some p
    → (0 < p.1) × (p.1 ≤ length s) × ((more : List ℕ) → at_end (s ++ more) (Some end) ≡ Some p)
end_decides s end p some within e =
    elim (nat_lt most_lines (line_count (take end s))) as (λ t. nat_lt most_lines (line_count (take end s)) ≡ t
    → cond t (Some (refuses 431, end)) (on_head end (drop end s) (head_of (take end s))) ≡ Some p
    → (0 < p.1) × (p.1 ≤ length s) × ((more : List ℕ) → at_end (s ++ more) (Some end) ≡ Some p)) [
      | true ↦ λ many is.
          let used : end ≡ p.1 = ap (λ (q : Answer × ℕ). q.1) (let same : (refuses 431, end) ≡ p = cc in same) in (
            omega arith,
            omega arith,
            λ more.
                ap (λ w. cond (nat_lt most_lines (line_count w)) (Some (refuses 431, end)) (on_head end (drop end (s ++ more)) (head_of w))) (take-append-le end s more within)
                ∙ ap (λ t. cond t (Some (refuses 431, end)) (on_head end (drop end (s ++ more)) (head_of (take end s)))) many ∙ is,
          )
      | false ↦ λ many is.
          let d = head_decides end (drop end s) (head_of (take end s)) p is in
          let some' = d.some in
          let within' = d.within in (
            omega arith,
            omega (arith, length-drop end s),
            λ more.
                ap (λ w. cond (nat_lt most_lines (line_count w)) (Some (refuses 431, end)) (on_head end (drop end (s ++ more)) (head_of w))) (take-append-le end s more within)
                ∙ ap (λ t. cond t (Some (refuses 431, end)) (on_head end (drop end (s ++ more)) (head_of (take end s)))) many
                ∙ ap (λ w. on_head end w (head_of (take end s))) (drop-append-le end s more within) ∙ d.stays more,
          )
    ] refl e

pub take-more : (n : ℕ) (s more : List ℕ) → (rest : List ℕ) × (take n (s ++ more) ≡ take n s ++ rest)
take-more zero s more = ([], refl)
take-more (suc n) [] more = (take (suc n) more, refl)
take-more (suc n) (b ∷ s) more = let t = take-more n s more in (t.0, ap (λ w. b ∷ w) t.1)

some_head : 0 < most_head
unfolding most_head
some_head = omega arith

pub front_of : (s : List ℕ) (p : Answer × ℕ) → first s ≡ Some p → Front s p
unfolding first
front_of s p e =
    elim (head_end (take most_head s)) as (λ o. head_end (take most_head s) ≡ o → at_end s o ≡ Some p → Front s p) [
      | None ↦ λ none is. elim (nat_le most_head (length s)) as (λ t. nat_le most_head (length s) ≡ t → cond t (Some (refuses 431, most_head)) None ≡ Some p → Front s p) [
        | true ↦ λ full same.
            let used : most_head ≡ p.1 = ap (λ (q : Answer × ℕ). q.1) (let q : (refuses 431, most_head) ≡ p = cc in q) in
            let fits : most_head ≤ length s = nat_le-true most_head (length s) full in
            let some = some_head in
            record {
              some = omega arith;
              within = omega arith;
              stays = λ more.
                  let still : nat_le most_head (length (s ++ more)) ≡ true = le-nat_le most_head (length (s ++ more)) (omega (arith, length-append s more)) in
                  ap (λ w. at_end (s ++ more) (head_end w)) (take-append-le most_head s more fits) ∙ ap (at_end (s ++ more)) none
                  ∙ ap (λ t. cond t (Some (refuses 431, most_head)) None) still ∙ same;
            }
        | false ↦ λ full same. absurd (cc)
      ] refl is
      | Some end ↦ λ at is.
          let fits = head_end_fits (take most_head s) end at in
          let front = end_decides s end p (omega arith) (omega (arith, length-take most_head s)) is in
          record {
            some = front.0;
            within = front.1;
            stays = λ more.
                let t = take-more most_head s more in
                ap (at_end (s ++ more)) (ap head_end t.1 ∙ head_end_more (take most_head s) t.0 end at) ∙ front.2 more;
          }
    ] refl e

-- what decides an answer decides it whatever follows
pub stays_first : StaysFirst
stays_first s more p e = (front_of s p e).stays more

-- an answer takes at least one byte, and at most the stream
pub takes_some : TakesSome
takes_some s p e = let f = front_of s p e in (f.some, f.within)

-- ---- all answers

pub answers_none : (n : ℕ) (s : List ℕ) → first s ≡ None → answers_in n s ≡ []
unfolding answers_in
answers_none zero s e = refl
answers_none (suc n) s e = ap (λ (o : Option (Answer × ℕ)). elim o as (λ _. List Answer) [ None ↦ [] | Some p ↦ on_answer p.0 (answers_in n (drop p.1 s)) ]) e

pub answers_some : (n : ℕ) (s : List ℕ) (p : Answer × ℕ) → first s ≡ Some p → answers_in (suc n) s ≡ on_answer p.0 (answers_in n (drop p.1 s))
unfolding answers_in
answers_some n s p e = ap (λ (o : Option (Answer × ℕ)). elim o as (λ _. List Answer) [ None ↦ [] | Some p ↦ on_answer p.0 (answers_in n (drop p.1 s)) ]) e

on_answer_more : (a : Answer) (xs ys rest : List Answer) → ys ≡ xs ++ rest → (more : List Answer) × (on_answer a ys ≡ on_answer a xs ++ more)
on_answer_more (asks r) xs ys rest e = (rest, ap (λ w. asks r ∷ w) e)
on_answer_more (refuses status) xs ys rest e = ([], refl)

no_fuel : (s : List ℕ) → answers_in zero s ≡ []
unfolding answers_in
no_fuel s = refl

abbrev Grown : ℕ → ℕ → List ℕ → List ℕ → Type 0
Grown n m s more = (rest : List Answer) × (answers_in m (s ++ more) ≡ answers_in n s ++ rest)

grow_step : (n k m : ℕ) (s more : List ℕ) (p : Answer × ℕ) → length s ≤ suc n → length (s ++ more) ≤ m
    → ((k : ℕ) (t : List ℕ) → length t ≤ n → length (t ++ more) ≤ k → Grown n k t more) → k ≡ m → first s ≡ Some p → Grown (suc n) k s more
grow_step n zero m s more p fits big step same e =
    let f = front_of s p e in let some = f.some in let within = f.within in
    absurd (omega (arith, length-append s more))
grow_step n (suc k) m s more p fits big step same e =
    let f = front_of s p e in
    let some = f.some in
    let within = f.within in
    let rest_fits : length (drop p.1 s) ≤ n = omega (arith, length-drop p.1 s) in
    let later : drop p.1 (s ++ more) ≡ drop p.1 s ++ more = drop-append-le p.1 s more within in
    let enough : length (drop p.1 s ++ more) ≤ k = omega (arith, length-append (drop p.1 s) more, length-append s more, length-drop p.1 s) in
    let tail = step k (drop p.1 s) rest_fits enough in
    let joined = on_answer_more p.0 (answers_in n (drop p.1 s)) (answers_in k (drop p.1 s ++ more)) tail.0 tail.1 in (
      joined.0,
      answers_some k (s ++ more) p (f.stays more) ∙ ap (λ w. on_answer p.0 (answers_in k w)) later
          ∙ joined.1 ∙ ap (λ xs. xs ++ joined.0) (sym (answers_some n s p e)),
    )

grow_by : (n m : ℕ) (s more : List ℕ) → length s ≤ suc n → length (s ++ more) ≤ m
    → ((k : ℕ) (t : List ℕ) → length t ≤ n → length (t ++ more) ≤ k → Grown n k t more) → (o : Option (Answer × ℕ)) → first s ≡ o → Grown (suc n) m s more
grow_by n m s more fits big step None e = (answers_in m (s ++ more), ap (λ xs. xs ++ answers_in m (s ++ more)) (sym (answers_none (suc n) s e)))
grow_by n m s more fits big step (Some p) e = grow_step n m m s more p fits big step refl e

grow : (n m : ℕ) (s more : List ℕ) → length s ≤ n → length (s ++ more) ≤ m
    → (rest : List Answer) × (answers_in m (s ++ more) ≡ answers_in n s ++ rest)
grow zero m s more fits big = (answers_in m (s ++ more), ap (λ xs. xs ++ answers_in m (s ++ more)) (sym (no_fuel s)))
grow (suc n) m s more fits big = grow_by n m s more fits big (λ k t within enough. grow n k t more within enough) (first s) refl

-- the answers of a front of a stream are the first answers of the stream
pub answers_grow : AnswersGrow
answers_grow s more = grow (length s) (length (s ++ more)) s more (omega arith) (omega arith)

-- ---- what a stream asks can be served

skip_le : (w : List ℕ) → length (skip_ows w) ≤ length w
skip_le [] = omega arith
skip_le (b ∷ w) =
    let rest = skip_le w in
    elim (is_ows b) as (λ t. length (cond t (skip_ows w) (b ∷ w)) ≤ suc (length w)) [ true ↦ omega arith | false ↦ omega arith ]

trim_le : (w : List ℕ) → length (trim_ows w) ≤ length w
unfolding trim_ows
trim_le w =
    omega (arith, length-reverse (skip_ows (reverse (skip_ows w))), skip_le (reverse (skip_ows w)), length-reverse (skip_ows w), skip_le w)

abbrev field_bytes : Header → ℕ
field_bytes f = length f.name + length f.value

fields_le : (fs : List Field) → sum_by field_bytes (map header_of (map name_and_value fs)) ≤ length (flat_map print_field fs)
fields_le [] = omega arith
fields_le (f ∷ fs) =
    let line : length (print_field f ++ []) ≡ length (f.name ++ 58 ∷ (f.raw ++ (print_end f.end ++ []))) = ap length (print_field-append f []) in
    let rest : List Header = map header_of (map name_and_value fs) in
    let whole : sum_by field_bytes (map header_of (map name_and_value (f ∷ fs))) ≡ length f.name + length (trim_ows f.raw) + sum_by field_bytes rest =
    sum_by-cons field_bytes (header_of (name_and_value f)) rest in
    omega (
      arith,
      whole,
      fields_le fs,
      trim_le f.raw,
      line,
      length-append (print_field f) [],
      length-append (print_field f) (flat_map print_field fs),
      length-append f.name (58 ∷ (f.raw ++ (print_end f.end ++ []))),
      length-append f.raw (print_end f.end ++ []),
    )

head_le : (h : RequestHead) → length h.target + sum_by field_bytes (map header_of (pairs_of h)) ≤ length (print_request h)
head_le h =
    let section : List ℕ = flat_map print_field h.fields ++ print_end h.last in
    let after_version : List ℕ = print_end h.line_end ++ (section ++ []) in
    let after_target : List ℕ = print_version h.minor ++ after_version in
    let after_method : List ℕ = h.target ++ 32 ∷ after_target in
    let whole : length (print_request h ++ []) ≡ length (print_blank h.blank ++ (h.method ++ 32 ∷ after_method)) = ap length (print_request-append h []) in
    omega (
      arith,
      fields_le h.fields,
      whole,
      length-append (print_request h) [],
      length-append (print_blank h.blank) (h.method ++ 32 ∷ after_method),
      length-append h.method (32 ∷ after_method),
      length-append h.target (32 ∷ after_target),
      length-append (print_version h.minor) after_version,
      length-append (print_end h.line_end) (section ++ []),
      length-append section [],
      length-append (flat_map print_field h.fields) (print_end h.last),
    )

taken_length_ok : (coded : Bool) (n : ℕ) (m : Method) (p : Method × ℕ) → taken_length coded n m ≡ Ok p → p.1 ≤ most_body
taken_length_ok true n m p e = absurd (cc)
taken_length_ok false n m p e =
    elim (nat_lt most_body n) as (λ t. nat_lt most_body n ≡ t → cond {A = Result (Method × ℕ) ℕ} t (Err 413) (Ok (m, n)) ≡ Ok p → p.1 ≤ most_body) [
      | true ↦ λ over is. absurd (cc)
      | false ↦ λ over is. let same : (m, n) ≡ p = cc in let length_is : n ≡ p.1 = ap (λ (q : Method × ℕ). q.1) same in let le : n ≤ most_body = grind arith in omega arith
    ] refl e

taken_body_ok : (coded : Bool) (m : Option Method) (n : Option ℕ) (p : Method × ℕ) → taken_body coded m n ≡ Ok p → p.1 ≤ most_body
taken_body_ok coded m None p e = absurd (cc)
taken_body_ok coded None (Some n) p e = absurd (cc)
taken_body_ok coded (Some m) (Some n) p e = taken_length_ok coded n m p e

taken_ok : (method target : List ℕ) (fields : List Pair) (p : Method × ℕ) → taken method target fields ≡ Ok p
    → (begins_with_slash target ≡ true) × (p.1 ≤ most_body)
unfolding taken
taken_ok method target fields p e =
    elim (begins_with_slash target) as (λ t. begins_with_slash target ≡ t
    → cond {A = Result (Method × ℕ) ℕ} (not t) (Err 400) (taken_body (has_field transfer_encoding fields) (method_of method) (body_length (values_of content_length fields))) ≡ Ok p
    → (begins_with_slash target ≡ true) × (p.1 ≤ most_body)) [
      | true ↦ λ slash is. (slash, taken_body_ok _ (method_of method) (body_length (values_of content_length fields)) p is)
      | false ↦ λ slash is. absurd (cc)
    ] refl e

-- a decided answer and how many bytes it takes
abbrev decided : Answer → ℕ → Answer × ℕ
decided a n = (a, n)

-- a refusal is no request
apart : (r : Request) (status end used : ℕ) → Some (decided (refuses status) end) ≡ Some (decided (asks r) used) → ⊥
apart r status end used e =
    let pair : decided (refuses status) end ≡ decided (asks r) used = cc in
    let same : refuses status ≡ asks r = ap (λ (q : Answer × ℕ). q.0) pair in
    absurd (cc)

none_apart : (p : Answer × ℕ) → None ≡ Some p → ⊥
none_apart p e = absurd (cc)

-- a head with few bytes whose body stands whole asks what can be served
parts_servable : (end : ℕ) (after method target : List ℕ) (fields : List Pair) (r : Request) (used : ℕ)
    → length target + sum_by field_bytes (map header_of fields) ≤ 16384
    → (t : Result (Method × ℕ) ℕ) → taken method target fields ≡ t → on_taken end after target fields t ≡ Some (asks r, used) → IsServable r
parts_servable end after method target fields r used few (Err status) is e = absurd (apart r status end used e)
parts_servable end after method target fields r used few (Ok m) is e =
    let ok = taken_ok method target fields m is in
    let short = ok.1 in
    elim (nat_le m.1 (length after)) as (λ t. cond t (Some (decided (asks (request_of m.0 target fields (take m.1 after))) (end + m.1))) None ≡ Some (decided (asks r) used) → IsServable r) [
      | true ↦ λ same. subst IsServable (request_is r same) (record { slash = ok.0; head = few; body = omega (arith, length-take m.1 after) })
      | false ↦ λ same. absurd (none_apart _ same)
    ] e
  where
    request_is : {q : Request} {n : ℕ} (r : Request) → Some (decided (asks q) n) ≡ Some (decided (asks r) used) → q ≡ r
    request_is {q} {n} r same =
        let pair : decided (asks q) n ≡ decided (asks r) used = cc in
        let inner : asks q ≡ asks r = ap (λ (p : Answer × ℕ). p.0) pair in
        cc

head_servable : (end : ℕ) (after bytes : List ℕ) (o : Option RequestHead) (r : Request) (used : ℕ) → length bytes ≤ 16384 → head_of bytes ≡ o
    → on_head end after o ≡ Some (asks r, used) → IsServable r
head_servable end after bytes None r used few is e = absurd (apart r 400 end used e)
head_servable end after bytes (Some h) r used few is e =
    let reads = (head_sound bytes h is).0.1 in
    let len : length bytes ≡ length (print_request h ++ []) = ap length reads in
    parts_servable end after h.method h.target (pairs_of h) r used (omega (arith, head_le h, len, length-append (print_request h) []))
    (taken h.method h.target (pairs_of h)) refl e

head_is : most_head ≡ 16384
unfolding most_head
head_is = refl

end_servable : (s : List ℕ) (o : Option ℕ) (r : Request) (used : ℕ) → head_end (take most_head s) ≡ o → at_end s o ≡ Some (asks r, used) → IsServable r
end_servable s None r used is e = elim (nat_le most_head (length s)) as (λ t. cond t (Some (decided (refuses 431) most_head)) None ≡ Some (decided (asks r) used) → IsServable r) [
  | true ↦ λ same. absurd (apart r 431 most_head used same)
  | false ↦ λ same. absurd (none_apart _ same)
] e
end_servable s (Some end) r used is e =
    let fits = head_end_fits (take most_head s) end is in
    let most = head_is in
    elim (nat_lt most_lines (line_count (take end s))) as (λ t. cond t (Some (decided (refuses 431) end)) (on_head end (drop end s) (head_of (take end s))) ≡ Some (decided (asks r) used) → IsServable r) [
      | true ↦ λ same. absurd (apart r 431 end used same)
      | false ↦ λ same. head_servable end (drop end s) (take end s) (head_of (take end s)) r used (omega (arith, length-take end s, length-take most_head s)) refl same
    ] e

-- what a stream asks can be served
pub first_servable : (s : List ℕ) (r : Request) (used : ℕ) → first s ≡ Some (asks r, used) → IsServable r
unfolding first
first_servable s r used e = end_servable s (head_end (take most_head s)) r used refl e

-- a step that the front of the stream asks takes some bytes of it, and can be served
pub fits_step : (s : List ℕ) (step : Step) → Steps (first s) step → Fits s step
fits_step s Need e = search rules
fits_step s (Got request used) e =
    let some = takes_some s (asks request, used) e in
    (some.0, some.1, first_servable s request used e)
fits_step s (Refuse status) e = search rules

pub fits_result : (s : List ℕ) (r : Result Step AllocError) → IfOk r (λ step. Steps (first s) step) → IfOk r (λ step. Fits s step)
fits_result s (Ok step) e = fits_step s step e
fits_result s (Err fault) e = search rules

-- ---- what the code meets on its way

pub many_lines : (s : List ℕ) (end : ℕ) → most_lines < line_count (take end s) → at_end s (Some end) ≡ Some (refuses 431, end)
many_lines s end many =
    ap (λ t. cond t (Some (decided (refuses 431) end)) (on_head end (drop end s) (head_of (take end s)))) (lt-ltb most_lines (line_count (take end s)) many)

pub few : (m n : ℕ) → n ≤ m → nat_lt m n ≡ false
few m n le = grind arith

few_lines : (s : List ℕ) (end : ℕ) → line_count (take end s) ≤ most_lines → at_end s (Some end) ≡ on_head end (drop end s) (head_of (take end s))
few_lines s end le =
    ap (λ t. cond t (Some (decided (refuses 431) end)) (on_head end (drop end s) (head_of (take end s)))) (few most_lines (line_count (take end s)) le)

pub no_head : (s : List ℕ) (end : ℕ) → line_count (take end s) ≤ most_lines → ((h : RequestHead) → IsHead (take end s) h → ⊥)
    → at_end s (Some end) ≡ Some (refuses 400, end)
no_head s end le none = few_lines s end le ∙ ap (on_head end (drop end s)) (head_none (take end s) none)

pub whole_head : (s : List ℕ) (end : ℕ) (h : RequestHead) → line_count (take end s) ≤ most_lines → IsHead (take end s) h
    → at_end s (Some end) ≡ on_parts end (drop end s) h.method h.target (pairs_of h)
whole_head s end h le is = few_lines s end le ∙ ap (on_head end (drop end s)) (head_complete (take end s) h is)

pub take_least : (s : List ℕ) (n : ℕ) → take (min (length s) n) s ≡ take n s
take_least s n = elim (nat_le (length s) n) as (λ t. nat_le (length s) n ≡ t → take (min (length s) n) s ≡ take n s) [
  | true ↦ λ e. let le : length s ≤ n = nat_le-true (length s) n e in let least : min (length s) n ≡ length s = omega arith in ap (λ k. take k s) least ∙ take_all (length s) s (omega arith) ∙ sym (take_all n s le)
  | false ↦ λ e. let le : n ≤ length s = grind arith in let least : min (length s) n ≡ n = omega arith in ap (λ k. take k s) least
] refl

-- the front is read up to the most bytes of a head
pub first_at : (s : List ℕ) (n : ℕ) (o : Option ℕ) → n ≡ min (length s) 16384 → o ≡ head_end (take n s) → first s ≡ at_end s o
unfolding first most_head
first_at s n o least e = ap (at_end s) (sym (e ∙ ap (λ k. head_end (take k s)) least ∙ ap head_end (take_least s 16384)))

-- the spans of a head are its parts
pub head_parts : (s : List ℕ) (end : ℕ) (h : RequestHead) (headers : List HeaderSpan) (spans : RequestSpans) → line_count (take end s) ≤ most_lines
    → IsHead (take end s) h → IsRequestAt (take end s) headers spans h
    → at_end s (Some end) ≡ on_parts end (drop end s) (span_bytes (take end s) spans.method) (span_bytes (take end s) spans.path)
    (map (header_bytes (take end s)) (take spans.headers headers))
head_parts s end h headers spans le is at =
    whole_head s end h le is ∙ (λ i. on_parts end (drop end s) (sym at.method i) (sym at.path i) (sym at.fields i))

pub no_end_full : (s : List ℕ) → 16384 ≤ length s → at_end s None ≡ Some (refuses 431, most_head)
unfolding most_head
no_end_full s le = ap (λ t. cond t (Some (decided (refuses 431) most_head)) None) (le-nat_le 16384 (length s) le)

pub no_end : (s : List ℕ) → length s < 16384 → at_end s None ≡ None
unfolding most_head
no_end s lt = let short : nat_le 16384 (length s) ≡ false = grind arith in ap (λ t. cond t (Some (decided (refuses 431) most_head)) None) short
