-- The trace of a sample is records.
use Rattle.std.proofs.Common.{◌≡◌, ℕ, zero, suc, ◌+◌, ◌-◌, ◌*◌, ◌/◌, ◌^◌, ◌<◌, ◌≤◌, min, List, [], ◌∷◌, ◌++◌, length, take, drop, get_or, refl, sym, ap, ◌∙◌, subst, arith, append_assoc, length-append, length-take}
use Rattle.std.specs.Prelude.{All, decimal, codes}
use Rattle.std.specs.List.{flat_map, range_with_len}
use Rattle.std.proofs.lemmas.List.{take_all, length-drop}
use Rattle.std.proofs.lemmas.List.Elements.{All-nil, All-cons, All-head, All-tail}
use Rattle.std.proofs.lemmas.Str.Parse.{IsDigitsTest, IsNumeralModel, numerals_by_fold}
use Rattle.std.proofs.lemmas.Fmt.{decimal_nonempty, first_decimal, decimal_digit, length-decimal-le, digits_decimal, digits_value-decimal}
use Rattle.resin_trace.specs.declared.event.TraceEvent.{TraceEvent}
use Rattle.resin_trace.specs.declared.event.TraceEvent.TheVariants.{Piece}
use Rattle.resin_trace.specs.Records.{limit, IsDigit, IsCanonical, value, Numeral, Spells, Splits, Front, NoRecord}
use Rattle.resin_trace.specs.Verdicts.{IsGood}
use Rattle.resin_trace.proofs.Existing.{some_word}
use Rattle.resin_bench_site.specs.Trace.{request_text, first_half, second_half, piece_record, by_halves, records_for, trace_text}

tells : IsDigitsTest (All IsDigit)
tells = record { empty = All-nil IsDigit; parts = λ c cs a. (All-head IsDigit c cs a, All-tail IsDigit c cs a); more = λ c cs d a. All-cons IsDigit c cs d a }

own : IsNumeralModel (All IsDigit) (value 0)
own = numerals_by_fold (All IsDigit) tells value (record { empty = λ n. refl; more = λ n c cs h. ap (λ k. value k cs) (omega arith) })

canonical : (ds : List ℕ) (n : ℕ) → 0 < length ds → (0 < n → 48 < get_or ds 0 0) → (n ≡ 0 → ds ≡ 48 ∷ []) → IsCanonical ds
canonical [] n some first none = absurd (omega arith)
canonical (b ∷ bs) zero some first none = λ z. (let e : b ∷ bs ≡ 48 ∷ [] = none refl in cc)
canonical (b ∷ bs) (suc n) some first none = λ z. (let h : 48 < b = first (omega arith) in absurd (omega arith))

numeral : (n : ℕ) → n < 2 ^ 64 → Numeral (decimal n) n
numeral n h = record {
  digits = digits_decimal own n h;
  canonical = canonical (decimal n) n (decimal_nonempty n h) (λ some. first_decimal n some h) (λ z. ap decimal z ∙ decimal_digit 0 (omega arith));
  says = digits_value-decimal own n h;
}

-- texts in a row, joined from the left and from the right
regroup : (a b c d e : List ℕ) → a ++ b ++ c ++ d ++ e ≡ a ++ (b ++ (c ++ (d ++ e)))
regroup a b c d e = append_assoc (a ++ b ++ c) d e ∙ append_assoc (a ++ b) c (d ++ e) ∙ append_assoc a b (c ++ (d ++ e))

regroup_six : (a b c d e f : List ℕ) → a ++ b ++ c ++ d ++ e ++ f ≡ a ++ (b ++ (c ++ (d ++ (e ++ f))))
regroup_six a b c d e f = append_assoc (a ++ b ++ c ++ d) e f ∙ regroup a b c d (e ++ f)

four_lengths : (a b c d : List ℕ) → length (a ++ b ++ c ++ d) ≡ length a + length b + length c + length d
four_lengths a b c d = omega (arith, length-append (a ++ b ++ c) d, length-append (a ++ b) c, length-append a b)

five_lengths : (a b c d e : List ℕ) → length (a ++ b ++ c ++ d ++ e) ≡ length a + length b + length c + length d + length e
five_lengths a b c d e = omega (arith, length-append (a ++ b ++ c ++ d) e, four_lengths a b c d)

six_lengths : (a b c d e f : List ℕ) → length (a ++ b ++ c ++ d ++ e ++ f) ≡ length a + length b + length c + length d + length e + length f
six_lengths a b c d e f = omega (arith, length-append (a ++ b ++ c ++ d ++ e) f, five_lengths a b c d e)

spells : (conn : ℕ) (piece : List ℕ) → 1 ≤ conn → conn ≤ 1000 → length piece ≤ 1048576 → Spells (piece_record conn piece) (Piece conn piece)
unfolding piece_record
spells conn piece low high small = record {
  head = decimal conn;
  size = decimal (length piece);
  conn_is = numeral conn (omega arith);
  low = low;
  high = high;
  size_is = numeral (length piece) (omega arith);
  small = small;
  is = regroup_six (decimal conn) (codes " ") (decimal (length piece)) (codes "\n") piece (codes "\n");
}

-- a piece of at most 64 bytes takes at most 77
piece_length : (conn : ℕ) (piece : List ℕ) → conn ≤ 1000 → length piece ≤ 64 → length (piece_record conn piece) ≤ 77
unfolding piece_record
piece_length conn piece high small =
    let a : length (decimal conn) ≤ 5 = length-decimal-le 5 conn (omega arith) (omega arith) (omega arith) in
    let b : length (decimal (length piece)) ≤ 5 = length-decimal-le 5 (length piece) (omega arith) (omega arith) (omega arith) in
    let w : length (piece_record conn piece) ≡ length (decimal conn) + 1 + length (decimal (length piece)) + 1 + length piece + 1 = six_lengths (decimal conn) (codes " ") (decimal (length piece)) (codes "\n") piece (codes "\n") in
    omega arith

first_length : (text : List ℕ) → length text ≤ 64 → length (first_half text) ≤ 64
unfolding first_half
first_length text h = let e : length (take (length text / 2) text) ≡ min (length text / 2) (length text) = length-take (length text / 2) text in omega arith

second_length : (text : List ℕ) → length text ≤ 64 → length (second_half text) ≤ 64
unfolding second_half
second_length text h = let e : length (drop (length text / 2) text) ≡ length text - length text / 2 = length-drop (length text / 2) text in omega arith

request_length : (page : List ℕ) (number : ℕ) → length page ≤ 5 → number < 100000 → length (request_text page number) ≤ 64
unfolding request_text
request_length page number p small =
    let a : length (decimal number) ≤ 5 = length-decimal-le 5 number (omega arith) (omega arith) (omega arith) in
    let w : length (request_text page number) ≡ 5 + length page + 3 + length (decimal number) + 22 = five_lengths (codes "GET /") page (codes "?n=") (decimal number) (codes " HTTP/1.1\r\nHost: s\r\n\r\n") in
    omega arith

-- ---- records from a place on

abbrev Records_from : ℕ → List ℕ → Type 0
Records_from place text = (es : List (TraceEvent × ℕ)) × Splits place text es []

piece_first : (place conn : ℕ) (piece rest : List ℕ) → 1 ≤ conn → conn ≤ 1000 → length piece ≤ 64 → ((p : ℕ) → Records_from p rest) → Records_from place (piece_record conn piece ++ rest)
piece_first place conn piece rest low high small more =
    let at : ℕ = place + length (piece_record conn piece) in
    let m = more at in
    ((Piece conn piece, at) ∷ m.0, (piece_record conn piece, rest, spells conn piece low high (omega arith), refl, refl, m.1))

by_pieces : (one two rest : List ℕ) → by_halves one two ++ rest
    ≡ piece_record 1 (first_half one) ++ (piece_record 2 (first_half two) ++ (piece_record 1 (second_half one) ++ (piece_record 2 (second_half two) ++ rest)))
unfolding by_halves
by_pieces one two rest = regroup (piece_record 1 (first_half one)) (piece_record 2 (first_half two)) (piece_record 1 (second_half one)) (piece_record 2 (second_half two)) rest

halves_first : (place : ℕ) (one two rest : List ℕ) → length one ≤ 64 → length two ≤ 64 → ((p : ℕ) → Records_from p rest) → Records_from place (by_halves one two ++ rest)
halves_first place one two rest a b more =
    subst (Records_from place) (sym (by_pieces one two rest))
    (piece_first place 1 (first_half one) _ (omega arith) (omega arith) (first_length one a)
    (λ p. piece_first p 2 (first_half two) _ (omega arith) (omega arith) (first_length two b)
    (λ q. piece_first q 1 (second_half one) _ (omega arith) (omega arith) (second_length one a)
    (λ r. piece_first r 2 (second_half two) rest (omega arith) (omega arith) (second_length two b) more))))

records_from : (n a place : ℕ) → a + n ≤ 10001 → Records_from place (flat_map records_for (range_with_len a n))
unfolding records_for
records_from zero a place h = ([], refl)
records_from (suc n) a place h =
    halves_first place (request_text (codes "w.php") (2 * a - 1)) (request_text (codes "r.php") (2 * a - 1)) (flat_map records_for (range_with_len (a + 1) n))
    (request_length (codes "w.php") (2 * a - 1) (omega arith) (omega arith)) (request_length (codes "r.php") (2 * a - 1) (omega arith) (omega arith))
    (λ p. records_from n (a + 1) p (omega arith))

-- ---- and they are short

halves_length : (one two : List ℕ) → length one ≤ 64 → length two ≤ 64 → length (by_halves one two) ≤ 308
unfolding by_halves
halves_length one two a b =
    let w : length (piece_record 1 (first_half one)) ≤ 77 = piece_length 1 (first_half one) (omega arith) (first_length one a) in
    let x : length (piece_record 2 (first_half two)) ≤ 77 = piece_length 2 (first_half two) (omega arith) (first_length two b) in
    let y : length (piece_record 1 (second_half one)) ≤ 77 = piece_length 1 (second_half one) (omega arith) (second_length one a) in
    let z : length (piece_record 2 (second_half two)) ≤ 77 = piece_length 2 (second_half two) (omega arith) (second_length two b) in
    let e : length (by_halves one two) ≡ length (piece_record 1 (first_half one)) + length (piece_record 2 (first_half two)) + length (piece_record 1 (second_half one)) + length (piece_record 2 (second_half two)) =
    four_lengths (piece_record 1 (first_half one)) (piece_record 2 (first_half two)) (piece_record 1 (second_half one)) (piece_record 2 (second_half two)) in
    omega arith

records_length : (n a : ℕ) → a + n ≤ 10001 → length (flat_map records_for (range_with_len a n)) ≤ 308 * n
unfolding records_for
records_length zero a h = omega arith
records_length (suc n) a h =
    let m : length (flat_map records_for (range_with_len (a + 1) n)) ≤ 308 * n = records_length n (a + 1) (omega arith) in
    let one : List ℕ = request_text (codes "w.php") (2 * a - 1) in
    let two : List ℕ = request_text (codes "r.php") (2 * a - 1) in
    let l : length (by_halves one two) ≤ 308 = halves_length one two (request_length (codes "w.php") (2 * a - 1) (omega arith) (omega arith)) (request_length (codes "r.php") (2 * a - 1) (omega arith) (omega arith)) in
    let s : length (flat_map records_for (range_with_len a (suc n))) ≡ length (by_halves one two) + length (flat_map records_for (range_with_len (a + 1) n)) = length-append (by_halves one two) (flat_map records_for (range_with_len (a + 1) n)) in
    omega arith

no_record : NoRecord []
no_record f =
    let w : 0 < length f.word = some_word f.word f.event f.spells in
    let l : 0 ≡ length f.word + length f.rest = ap length f.is ∙ length-append f.word f.rest in
    omega arith

good_trace : (n : ℕ) → n ≤ 10000 → IsGood (trace_text n)
unfolding trace_text
good_trace n h =
    let short : length (trace_text n) ≤ limit = let l : length (flat_map records_for (range_with_len 1 n)) ≤ 308 * n = records_length n 1 (omega arith) in omega arith in
    let r : Records_from 0 (trace_text n) = records_from n 1 0 (omega arith) in
    record {
      events = r.0;
      records = record { splits = subst (λ t. Splits 0 t r.0 []) (sym (take_all limit (trace_text n) short)) r.1; longest = no_record };
      short = short;
    }

-- the trace that was made
pub made_good : (n : ℕ) (trace : List ℕ) → trace ≡ trace_text n → n ≤ 10000 → IsGood trace
made_good n trace e h = subst IsGood (sym e) (good_trace n h)
