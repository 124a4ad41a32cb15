-- What stands at the front of code is what the function finds.
use Rattle.std.proofs.Common.{◌≡◌, ℕ, suc, ◌+◌, ◌-◌, ◌^◌, ◌<◌, ◌≤◌, true, false, not, List, [], ◌∷◌, ◌++◌, take, drop, length, Option, Some, refl, sym, ◌∙◌, ap, subst, arith, append_assoc, length-append}
use Rattle.std.specs.Prelude.{◌==◌, ◌&&◌, nat_lt, nat_le, pos, if◌then◌else◌}
use Rattle.std.specs.List.{prefix_len}
use Rattle.std.proofs.lemmas.Bool.{ltb-true}
use Rattle.std.proofs.lemmas.Bool.Decides.{nat_tests}
use Rattle.std.proofs.lemmas.List.{drop-drop}
use Rattle.resin_scan.specs.Bytes.{byte, is_blank, is_space, is_digit, is_letter, begins_name, is_name_byte, is_word_byte, digit}
use Rattle.resin_scan.specs.Lists.{Every, NotBefore}
use Rattle.resin_scan.specs.Words.{IsName, cast_of}
use Rattle.resin_scan.specs.Numbers.{IsNumber, IsInteger, decimal, octal, hexadecimal, binary, integer, digits, is_prefixed}
use Rattle.resin_scan.specs.Stretches.{reach, Stretch, newline_len}
use Rattle.resin_scan.specs.Escapes.{worked}
use Rattle.resin_scan.specs.declared.escapes.Quoting.TheVariants as q
use Rattle.resin_scan.specs.declared.stretches.Stop.TheVariants as stop
use Rattle.resin_scan.specs.declared.words.Cast.{Cast}
use Rattle.resin_scan.proofs.Runs.{if_true, if_false, choose, take_front, drop_front, run_exact, reach_exact}
use Rattle.resin_scan.proofs.Digits.{value_exact, digits_some}
use Rattle.resin_scan.proofs.Choices.{or_left, or_right, or_first, or_second, and_no, other_byte, first_of_rest, byte_behind, more}
use Rattle.resin_scan.proofs.Spelled.{spells_once}
use Rattle.resin_lex.specs.declared.modes.Open.TheVariants.{Outside, Quote}
use Rattle.resin_lex.specs.declared.modes.Act.{Act}
use Rattle.resin_lex.specs.declared.modes.Act.TheVariants.{Stay, Enter}
use Rattle.resin_lex.specs.declared.modes.Step.{Step}
use Rattle.resin_lex.specs.declared.modes.Step.TheVariants.{Token, Skip, Fault}
use Rattle.resin_lex.specs.declared.modes.Shape.TheVariants as s
use Rattle.resin_lex.specs.declared.token.TokenKind.{TokenKind}
use Rattle.resin_lex.specs.declared.token.TokenKind.TheVariants as k
use Rattle.resin_lex.specs.declared.token.Mark.TheVariants as m
use Rattle.resin_lex.specs.Casts.{cast_behind, cast_within}
use Rattle.resin_lex.specs.Marks.{act_of}
use Rattle.resin_lex.specs.Kinds.{inside}
use Rattle.resin_lex.specs.Grammar.{Newline, crlf, cr, lf, no_newline, InCode, TagBlank, Around, InQuotes, InIndex, InProperty, IsKey, Stands, arrow_name}
use Rattle.resin_lex.specs.Grammar as g
use Rattle.resin_lex.specs.First.{first_in_code, first_sign, first_word, first_number, first_round, first_hash, first_slash, block_comment, first_tag_or_question, first_single, first_double, first_variable, int_step, cast_step}
use Rattle.resin_lex.proofs.Told.{told, told_token, told_skip, inside_both, inside_front}
use Rattle.resin_lex.proofs.MarksFound.{marks}

words : (at : ℕ) (w rest : List ℕ) → IsName w → NotBefore is_name_byte rest → first_in_code at (w ++ rest) ≡ Token s.Word (length w) Stay
unfolding first_in_code first_word
words at [] rest h j = absurd h
words at (b ∷ w) rest h j = if_true (begins_name b) _ _ h.0 ∙ ap (λ n. Token s.Word n Stay) (run_exact is_name_byte (b ∷ w) rest (or_first (begins_name b) (is_digit b) h.0, h.1) j)

name_len : (w rest : List ℕ) → IsName w → NotBefore is_name_byte rest → prefix_len is_name_byte (w ++ rest) ≡ length w
name_len [] rest h j = absurd h
name_len (b ∷ w) rest h j = run_exact is_name_byte (b ∷ w) rest (or_first (begins_name b) (is_digit b) h.0, h.1) j

name_begins : (w rest : List ℕ) → IsName w → begins_name (byte (w ++ rest) 0) ≡ true
name_begins [] rest h = absurd h
name_begins (b ∷ w) rest h = h.0

variables : (at : ℕ) (w rest : List ℕ) → IsName w → NotBefore is_name_byte rest → first_in_code at (36 ∷ w ++ rest) ≡ Token s.Variable (length (36 ∷ w)) Stay
unfolding first_in_code first_sign first_variable
variables at w rest h j = if_true (begins_name (byte (w ++ rest) 0)) _ _ (name_begins w rest h) ∙ ap (λ n. Token s.Variable n Stay) (more _ _ (name_len w rest h j))

blank_is_no_name : (b : ℕ) → is_blank b ≡ true → begins_name b ≡ false
blank_is_no_name b h = grind (arith, nat_tests)

blank_is_no_digit : (b : ℕ) → is_blank b ≡ true → is_digit b ≡ false
blank_is_no_digit b h = grind (arith, nat_tests)

digit_is_no_name : (b : ℕ) → is_digit b ≡ true → begins_name b ≡ false
digit_is_no_name b h = grind (arith, nat_tests)

blanks : (at b : ℕ) (w rest : List ℕ) → is_blank b ≡ true → Every is_blank w → NotBefore is_blank rest → first_in_code at (b ∷ w ++ rest) ≡ Skip (length (b ∷ w)) Stay
unfolding first_in_code
blanks at b w rest h e j =
    if_false (begins_name b) _ _ (blank_is_no_name b h) ∙ if_false (is_digit b) _ _ (blank_is_no_digit b h) ∙ if_true (is_blank b) _ _ h
    ∙ ap (λ n. Skip n Stay) (run_exact is_blank (b ∷ w) rest (h, e) j)

singles : (at : ℕ) (body rest : List ℕ) → Stretch stop.Single body (39 ∷ rest) → first_in_code at (39 ∷ body ++ 39 ∷ rest) ≡ Token s.Single (2 + length body) Stay
unfolding first_in_code first_sign first_single
singles at body rest r =
    let e : reach stop.Single false (body ++ 39 ∷ rest) ≡ length body = reach_exact stop.Single body (39 ∷ rest) r in
    ap (λ n. if byte (39 ∷ body ++ 39 ∷ rest) (1 + n) == 39 then Token s.Single (2 + n) Stay else Fault) e
    ∙ if_true (byte (39 ∷ body ++ 39 ∷ rest) (1 + length body) == 39) _ _ (ap (λ b. b == 39) (ap (byte (39 ∷ body ++ 39 ∷ rest)) (omega arith) ∙ byte_behind (39 ∷ body) (39 ∷ rest) 0))

doubles : (at : ℕ) (body rest : List ℕ) → Stretch stop.Part body (34 ∷ rest) → first_in_code at (34 ∷ body ++ 34 ∷ rest) ≡ Token s.Double (2 + length body) Stay
unfolding first_in_code first_sign first_double
doubles at body rest r =
    let e : reach stop.Part false (body ++ 34 ∷ rest) ≡ length body = reach_exact stop.Part body (34 ∷ rest) r in
    ap (λ n. if byte (34 ∷ body ++ 34 ∷ rest) (1 + n) == 34 then Token s.Double (2 + n) Stay else Token s.Opening 1 (Enter (Quote at))) e
    ∙ if_true (byte (34 ∷ body ++ 34 ∷ rest) (1 + length body) == 34) _ _ (ap (λ b. b == 34) (ap (byte (34 ∷ body ++ 34 ∷ rest)) (omega arith) ∙ byte_behind (34 ∷ body) (34 ∷ rest) 0))

openings : (at : ℕ) (body rest : List ℕ) → Stretch stop.Part body rest → NotBefore (λ b. b == 34) rest → first_in_code at (34 ∷ body ++ rest) ≡ Token s.Opening 1 (Enter (Quote at))
unfolding first_in_code first_sign first_double
openings at body rest r h =
    let e : reach stop.Part false (body ++ rest) ≡ length body = reach_exact stop.Part body rest r in
    ap (λ n. if byte (34 ∷ body ++ rest) (1 + n) == 34 then Token s.Double (2 + n) Stay else Token s.Opening 1 (Enter (Quote at))) e
    ∙ if_false (byte (34 ∷ body ++ rest) (1 + length body) == 34) _ _ (ap (λ b. b == 34) (ap (byte (34 ∷ body ++ rest)) (omega arith) ∙ byte_behind (34 ∷ body) rest 0) ∙ first_of_rest (λ b. b == 34) rest refl h)

line_comments : (at : ℕ) (body rest : List ℕ) → NotBefore (λ b. b == 91) (body ++ rest) → Stretch stop.Line body rest → first_in_code at (35 ∷ body ++ rest) ≡ Skip (length (35 ∷ body)) Stay
unfolding first_in_code first_sign first_hash
line_comments at body rest h r = if_false (byte (body ++ rest) 0 == 91) _ _ (first_of_rest (λ b. b == 91) (body ++ rest) refl h) ∙ ap (λ n. Skip n Stay) (more _ _ (reach_exact stop.Line body rest r))

slash_comments : (at : ℕ) (body rest : List ℕ) → Stretch stop.Line body rest → first_in_code at (47 ∷ 47 ∷ body ++ rest) ≡ Skip (length (47 ∷ 47 ∷ body)) Stay
unfolding first_in_code first_sign first_slash
slash_comments at body rest r = ap (λ n. Skip n Stay) (more _ _ (ap suc (reach_exact stop.Line body rest r)))

block_comments : (at : ℕ) (body rest : List ℕ) → Stretch stop.Comment body (42 ∷ 47 ∷ rest) → first_in_code at (47 ∷ 42 ∷ body ++ 42 ∷ 47 ∷ rest) ≡ Skip (4 + length body) Stay
unfolding first_in_code first_sign first_slash block_comment
block_comments at body rest r =
    let e : reach stop.Comment false (body ++ 42 ∷ 47 ∷ rest) ≡ length body = reach_exact stop.Comment body (42 ∷ 47 ∷ rest) r in
    ap (λ n. if byte (47 ∷ 42 ∷ body ++ 42 ∷ 47 ∷ rest) (3 + n) == 47 then Skip (4 + n) Stay else Fault) e
    ∙ if_true (byte (47 ∷ 42 ∷ body ++ 42 ∷ 47 ∷ rest) (3 + length body) == 47) _ _ (ap (λ b. b == 47) (ap (byte (47 ∷ 42 ∷ body ++ 42 ∷ 47 ∷ rest)) (omega arith) ∙ byte_behind (47 ∷ 42 ∷ body) (42 ∷ 47 ∷ rest) 1))

newlines : (w rest : List ℕ) → Newline w rest → newline_len (w ++ rest) ≡ length w
newlines w rest crlf = refl
newlines w rest (cr {rest = r} h) = if_false (byte r 0 == 10) _ _ (first_of_rest (λ b. b == 10) r refl h)
newlines w rest lf = refl
newlines w rest (no_newline {rest = []} h) = refl
newlines w rest (no_newline {rest = b ∷ bs} h) = if_false (b == 13) _ _ (or_right (b == 10) (b == 13) h) ∙ if_false (b == 10) _ _ (or_left (b == 10) (b == 13) h)

closing_tags : (at : ℕ) (w rest : List ℕ) → Newline w rest → first_in_code at (63 ∷ 62 ∷ w ++ rest) ≡ Token (s.Mark m.Semicolon) (length (63 ∷ 62 ∷ w)) (Enter Outside)
unfolding first_in_code first_sign first_tag_or_question
closing_tags at w rest h = let e : newline_len (w ++ rest) ≡ length w = newlines w rest h in let f : 2 + newline_len (w ++ rest) ≡ suc (suc (length w)) = omega arith in ap (λ n. Token (s.Mark m.Semicolon) n (Enter Outside)) f

digits_exact : (base : ℕ) (ds : List ℕ) (n : ℕ) → 0 < base → IsNumber base ds n → n < 2 ^ 63 → digits base (2 ^ 63) ds ≡ Some n
digits_exact base [] n z h l = absurd (omega (arith, h.0))
digits_exact base (d ∷ ds) n z h l = digits_some base (2 ^ 63) d ds ∙ value_exact base (2 ^ 63) 0 (d ∷ ds) z h.1 (subst (λ v. v < 2 ^ 63) h.2 l) ∙ ap Some (sym h.2)

integers : (w rest : List ℕ) (n : ℕ) → IsInteger w rest n → n < 2 ^ 63 → integer w ≡ Some n
integers w rest n (decimal {d = d} {ds = ds} h i p) l = if_false (d == 48) _ _ h ∙ digits_exact 10 (d ∷ ds) n (omega arith) i l
integers w rest n (octal {ds = []} i p) l = digits_exact 8 (48 ∷ []) n (omega arith) i l
integers w rest n (octal {ds = c ∷ ds} i p) l = if_false (c == 120) _ _ (other_byte (λ d. nat_lt (digit d) 8) c 120 refl i.1.1.0) ∙ if_false (c == 98) _ _ (other_byte (λ d. nat_lt (digit d) 8) c 98 refl i.1.1.0) ∙ digits_exact 8 (48 ∷ c ∷ ds) n (omega arith) i l
integers w rest n (hexadecimal {ds = ds} i) l = digits_exact 16 ds n (omega arith) i l
integers w rest n (binary {ds = ds} i) l = digits_exact 2 ds n (omega arith) i l

low_digit : (d : ℕ) → (nat_le 97 d && nat_le d 102) ≡ true → is_word_byte d ≡ true
low_digit d h = grind (arith, nat_tests)

high_digit : (d : ℕ) → (nat_le 65 d && nat_le d 70) ≡ true → is_word_byte d ≡ true
high_digit d h = grind (arith, nat_tests)

word_digit : (base d : ℕ) → base ≤ 16 → nat_lt (digit d) base ≡ true → is_word_byte d ≡ true
word_digit base d h e =
    choose (λ v. nat_lt v base ≡ true → is_word_byte d ≡ true) (is_digit d) (λ g _. or_second (is_letter d) (is_digit d) g)
    (λ _. choose (λ v. nat_lt v base ≡ true → is_word_byte d ≡ true) (nat_le 97 d && nat_le d 102) (λ g _. low_digit d g)
    (λ _. choose (λ v. nat_lt v base ≡ true → is_word_byte d ≡ true) (nat_le 65 d && nat_le d 70) (λ g _. high_digit d g)
    (λ _ e. absurd (omega (arith, ltb-true 99 base e))))) e

word_digits : (base : ℕ) (ds : List ℕ) → base ≤ 16 → Every (λ d. nat_lt (digit d) base) ds → Every is_word_byte ds
word_digits base [] h e = tt
word_digits base (d ∷ ds) h e = (word_digit base d h e.0, word_digits base ds h e.1)

integer_bytes : (w rest : List ℕ) (n : ℕ) → IsInteger w rest n → Every is_word_byte w
integer_bytes w rest n (decimal {d = d} {ds = ds} h i p) = word_digits 10 (d ∷ ds) (omega arith) i.1
integer_bytes w rest n (octal {ds = ds} i p) = word_digits 8 (48 ∷ ds) (omega arith) i.1
integer_bytes w rest n (hexadecimal {ds = ds} i) = (refl, (refl, word_digits 16 ds (omega arith) i.1))
integer_bytes w rest n (binary {ds = ds} i) = (refl, (refl, word_digits 2 ds (omega arith) i.1))

no_float : (w rest : List ℕ) (n : ℕ) → IsInteger w rest n → (byte rest 0 == 46 && not (is_prefixed w)) ≡ false
no_float w rest n (decimal h i p) = rw (first_of_rest (λ b. b == 46) rest refl p) refl
no_float w rest n (octal i p) = rw (first_of_rest (λ b. b == 46) rest refl p) refl
no_float w rest n (hexadecimal i) = and_no (byte rest 0 == 46) false refl
no_float w rest n (binary i) = and_no (byte rest 0 == 46) false refl

numbers : (w rest : List ℕ) (n : ℕ) → IsInteger w rest n → n < 2 ^ 63 → NotBefore is_word_byte rest → first_number (w ++ rest) ≡ Token (s.Int (pos n)) (length w) Stay
unfolding first_number
numbers w rest n i l h =
    let e : prefix_len is_word_byte (w ++ rest) ≡ length w = run_exact is_word_byte w rest (integer_bytes w rest n i) h in
    let f : byte (w ++ rest) (length w) ≡ byte rest 0 = ap (byte (w ++ rest)) (omega arith) ∙ byte_behind w rest 0 in
    ap (λ v. if byte (w ++ rest) v == 46 && not (is_prefixed (take v (w ++ rest))) then Fault else int_step v (integer (take v (w ++ rest)))) e
    ∙ ap (λ u. if byte (w ++ rest) (length w) == 46 && not (is_prefixed u) then Fault else int_step (length w) (integer u)) (take_front w rest)
    ∙ if_false (byte (w ++ rest) (length w) == 46 && not (is_prefixed w)) _ _ (ap (λ b. b == 46 && not (is_prefixed w)) f ∙ no_float w rest n i)
    ∙ ap (int_step (length w)) (integers w rest n i l)

two : (body : List ℕ) (a : ℕ) → 2 + length body ≡ suc (length (body ++ a ∷ []))
two body a = omega (arith, length-append body (a ∷ []))

four : (body : List ℕ) (a b : ℕ) → 4 + length body ≡ suc (suc (length (body ++ a ∷ b ∷ [])))
four body a b = omega (arith, length-append body (a ∷ b ∷ []))

ten : (d : ℕ) → nat_lt (digit d) 10 ≡ true → is_digit d ≡ true
ten d e =
    choose (λ v. nat_lt v 10 ≡ true → is_digit d ≡ true) (is_digit d) (λ g _. g)
    (λ _. choose (λ v. nat_lt v 10 ≡ true → is_digit d ≡ true) (nat_le 97 d && nat_le d 102) (λ g e. absurd (omega (arith, ltb-true ((d - 97) + 10) 10 e)))
    (λ _. choose (λ v. nat_lt v 10 ≡ true → is_digit d ≡ true) (nat_le 65 d && nat_le d 70) (λ g e. absurd (omega (arith, ltb-true ((d - 65) + 10) 10 e)))
    (λ _ e. absurd (omega (arith, ltb-true 99 10 e))))) e

-- an integer in code begins with a digit
integer_begins : (at : ℕ) (w rest : List ℕ) (n : ℕ) (st : Step) → IsInteger w rest n → first_number (w ++ rest) ≡ st → first_in_code at (w ++ rest) ≡ st
unfolding first_in_code
integer_begins at w rest n st (decimal {d = d} {ds = ds} h i p) e =
    if_false (begins_name d) _ _ (digit_is_no_name d (ten d i.1.0)) ∙ if_true (is_digit d) _ _ (ten d i.1.0) ∙ e
integer_begins at w rest n st (octal i p) e = e
integer_begins at w rest n st (hexadecimal i) e = e
integer_begins at w rest n st (binary i) e = e

-- Casts
space_is_no_name : (b : ℕ) → is_space b ≡ true → is_name_byte b ≡ false
space_is_no_name b h = grind (arith, nat_tests)

name_is_no_space : (b : ℕ) → is_name_byte b ≡ true → is_space b ≡ false
name_is_no_space b h = grind (arith, nat_tests)

-- a cast's parts, by their lengths
abbrev cast_from : List ℕ → ℕ → ℕ → ℕ → Option (Cast × ℕ)
cast_from xs start word gap = cast_within (cast_of (take word (drop start xs))) (byte xs (start + word + gap)) (start + word + gap)

cast_from_is : (xs : List ℕ) → cast_behind xs ≡ (let start = prefix_len is_space xs in let word = prefix_len is_name_byte (drop start xs) in cast_from xs start word (prefix_len is_space (drop (start + word) xs)))
unfolding cast_behind
cast_from_is xs = refl

no_empty_cast : (cast : Cast) → cast_of [] ≡ Some cast → ⊥
unfolding cast_of
no_empty_cast cast h = cc

no_space_ahead : (word rest : List ℕ) (cast : Cast) → Every is_name_byte word → cast_of word ≡ Some cast → NotBefore is_space (word ++ rest)
no_space_ahead [] rest cast e h = absurd (no_empty_cast cast h)
no_space_ahead (b ∷ word) rest cast e h = name_is_no_space b e.0

no_name_ahead : (gap rest : List ℕ) → Every is_space gap → NotBefore is_name_byte (gap ++ 41 ∷ rest)
no_name_ahead [] rest e = refl
no_name_ahead (b ∷ gap) rest e = space_is_no_name b e.0

module _ (before word gap rest : List ℕ) (cast : Cast) (e : Every is_space before) (f : Every is_name_byte word) (h : cast_of word ≡ Some cast) (g : Every is_space gap) where
  cast_exact : cast_behind (before ++ (word ++ (gap ++ 41 ∷ rest))) ≡ Some (cast, length before + length word + length gap + 1)
  cast_exact =
      let tail = gap ++ 41 ∷ rest in
      let xs = before ++ (word ++ tail) in
      let start = prefix_len is_space xs in
      let len = prefix_len is_name_byte (drop start xs) in
      let es : start ≡ length before = run_exact is_space before (word ++ tail) e (no_space_ahead word tail cast f h) in
      let ew : len ≡ length word = ap (λ n. prefix_len is_name_byte (drop n xs)) es ∙ ap (prefix_len is_name_byte) (drop_front before (word ++ tail)) ∙ run_exact is_name_byte word tail f (no_name_ahead gap rest g) in
      let ed : drop (length before + length word) xs ≡ tail = sym (drop-drop (length word) (length before) xs) ∙ ap (drop (length word)) (drop_front before (word ++ tail)) ∙ drop_front word tail in
      let eg : prefix_len is_space (drop (start + len) xs) ≡ length gap = ap (λ n. prefix_len is_space (drop n xs)) (omega arith) ∙ ap (prefix_len is_space) ed ∙ run_exact is_space gap (41 ∷ rest) g refl in
      let ec : cast_of (take (length word) (drop (length before) xs)) ≡ Some cast = ap (λ ys. cast_of (take (length word) ys)) (drop_front before (word ++ tail)) ∙ ap cast_of (take_front word tail) ∙ h in
      let n = length before + length word + length gap in
      let eb : byte xs n ≡ 41 = ap (byte xs) (omega arith) ∙ byte_behind before (word ++ tail) (length word + length gap) ∙ byte_behind word tail (length gap) ∙ ap (byte tail) (omega arith) ∙ byte_behind gap (41 ∷ rest) 0 in
      cast_from_is xs
      ∙ ap (λ a. cast_from xs a len (prefix_len is_space (drop (start + len) xs))) es
      ∙ ap (λ a. cast_from xs (length before) a (prefix_len is_space (drop (start + len) xs))) ew
      ∙ ap (λ a. cast_from xs (length before) (length word) a) eg
      ∙ ap (λ o. cast_within o (byte xs n) n) ec
      ∙ if_true (byte xs n == 41) _ _ (ap (λ b. b == 41) eb)

  cast_flat : (before ++ (word ++ (gap ++ (41 ∷ [])))) ++ rest ≡ before ++ (word ++ (gap ++ 41 ∷ rest))
  cast_flat = append_assoc before (word ++ (gap ++ (41 ∷ []))) rest ∙ ap (λ u. before ++ u) (append_assoc word (gap ++ (41 ∷ [])) rest ∙ ap (λ u. word ++ u) (append_assoc gap (41 ∷ []) rest))

  cast_length : length (40 ∷ before ++ (word ++ (gap ++ (41 ∷ [])))) ≡ 1 + (length before + length word + length gap + 1)
  cast_length = omega (arith, length-append before (word ++ (gap ++ (41 ∷ []))), length-append word (gap ++ (41 ∷ [])), length-append gap (41 ∷ []))

  casts : (at : ℕ) → first_in_code at (40 ∷ (before ++ (word ++ (gap ++ (41 ∷ [])))) ++ rest) ≡ Token (s.Cast cast) (length (40 ∷ before ++ (word ++ (gap ++ (41 ∷ []))))) Stay
  unfolding first_in_code first_sign first_round
  casts at = ap cast_step (ap cast_behind cast_flat ∙ cast_exact) ∙ ap (λ n. Token (s.Cast cast) n Stay) (sym cast_length)

inside_quotes : (b c : ℕ) (body : List ℕ) → inside 1 1 (b ∷ body ++ (c ∷ [])) ≡ body
inside_quotes b c body = inside_both (b ∷ []) body (c ∷ [])

-- the whole of code
pub complete_code : (at : ℕ) (what : Option TokenKind) (act : Act) (w rest : List ℕ) → InCode at what act w rest → told (w ++ rest) (first_in_code at (w ++ rest)) ≡ Some (what, length w, act)
complete_code at what act w rest (g.blanks {b = b} {w = v} h e j) = told_skip w rest _ Stay (blanks at b v rest h e j)
complete_code at what act w rest (g.line_comment {body = body} h r) = told_skip w rest _ Stay (line_comments at body rest h r)
complete_code at what act w rest (g.slash_comment {body = body} r) = told_skip w rest _ Stay (slash_comments at body rest r)
complete_code at what act w rest (g.block_comment {body = body} r) = told_skip w rest _ Stay (ap (λ u. first_in_code at (47 ∷ 42 ∷ u)) (append_assoc body (42 ∷ 47 ∷ []) rest) ∙ block_comments at body rest r ∙ ap (λ n. Skip n Stay) (four body 42 47))
complete_code at what act w rest (g.closing_tag {w = v} h) = told_token w rest _ (s.Mark m.Semicolon) _ (Enter Outside) (closing_tags at v rest h) refl
complete_code at what act w rest (g.word h j) = told_token w rest _ s.Word _ Stay (words at w rest h j) refl
complete_code at what act w rest (g.variable {w = v} h j) = told_token w rest _ s.Variable _ Stay (variables at v rest h j) (ap k.Variable (inside_front (36 ∷ []) v))
complete_code at what act w rest (g.integer {n = n} i l h) = told_token w rest _ (s.Int (pos n)) _ Stay (integer_begins at w rest n _ i (numbers w rest n i l h)) refl
complete_code at what act w rest (g.mark mark h) = told_token w rest _ (s.Mark mark) _ (act_of mark) (marks at mark rest h) refl
complete_code at what act w rest (g.cast before word gap {cast = cast} e f h i) = told_token w rest _ (s.Cast cast) _ Stay (casts before word gap rest cast e f h i at) refl
complete_code at what act w rest (g.single {body = body} {text = text} r t) = told_token w rest _ s.Single _ Stay (ap (λ u. first_in_code at (39 ∷ u)) (append_assoc body (39 ∷ []) rest) ∙ singles at body rest r ∙ ap (λ n. Token s.Single n Stay) (two body 39)) (ap k.Text (ap (worked q.Single) (inside_quotes 39 39 body) ∙ sym (spells_once q.Single body text t)))
complete_code at what act w rest (g.double {body = body} {text = text} r t) = told_token w rest _ s.Double _ Stay (ap (λ u. first_in_code at (34 ∷ u)) (append_assoc body (34 ∷ []) rest) ∙ doubles at body rest r ∙ ap (λ n. Token s.Double n Stay) (two body 34)) (ap k.Text (ap (worked q.Double) (inside_quotes 34 34 body) ∙ sym (spells_once q.Double body text t)))
complete_code at what act w rest (g.opening {body = body} {rest = rs} r h) = told_token w rest _ s.Opening _ (Enter (Quote at)) (openings at body rs r h) refl
