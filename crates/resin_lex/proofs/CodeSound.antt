-- What the function finds in code stands there.
use Rattle.std.proofs.Common.{◌≡◌, ℕ, suc, ◌+◌, ◌^◌, ◌<◌, ◌≤◌, Bool, true, false, not, List, [], ◌∷◌, ◌++◌, take, drop, length, Option, Some, None, refl, sym, ◌∙◌, ap, subst, arith, append_assoc, length-append, ◌⊎◌, inl, inr}
use Rattle.std.specs.Prelude.{◌==◌, ◌&&◌, ◌||◌, is_some, if◌then◌else◌}
use Rattle.std.specs.List.{prefix_len}
use Rattle.std.proofs.lemmas.List.{take-append-drop, drop-drop, length-take}
use Rattle.resin_scan.specs.Bytes.{byte, is_blank, is_space, is_digit, begins_name, is_name_byte, is_word_byte}
use Rattle.resin_scan.specs.Lists.{Every, NotBefore}
use Rattle.resin_scan.specs.Words.{IsName, cast_of}
use Rattle.resin_scan.specs.Numbers.{IsNumber, IsInteger, decimal, octal, hexadecimal, binary, integer, digits, is_prefixed}
use Rattle.resin_scan.specs.Stretches.{reach, stops, escapes, Stretch, is_echo_tag, is_php_tag, newline_len, blank_len, is_broken}
use Rattle.resin_scan.specs.Stretches as stretch
use Rattle.resin_scan.specs.Escapes.{worked}
use Rattle.resin_scan.specs.declared.escapes.Quoting.TheVariants as q
use Rattle.resin_scan.specs.declared.stretches.Stop.{Stop}
use Rattle.resin_scan.specs.declared.stretches.Stop.TheVariants as stop
use Rattle.resin_scan.specs.declared.words.Cast.{Cast}
use Rattle.resin_scan.proofs.Runs.{if_true, choose, one_taken, one_dropped, take_front, drop_front, every_run, ends_run, stretch_reach}
use Rattle.resin_scan.proofs.Digits.{IsRead, value_read, digits_some}
use Rattle.resin_scan.proofs.Choices.{or_first, or_no, and_left, arm, behind, byte_at, byte_0, byte_1, Closed, closed, begun}
use Rattle.resin_scan.proofs.Spelled.{spells_worked}
use Rattle.resin_lex.specs.declared.modes.Open.TheVariants.{Outside, Brace, Quote}
use Rattle.resin_lex.specs.declared.modes.Act.{Act}
use Rattle.resin_lex.specs.declared.modes.Act.TheVariants.{Stay, Enter, Leave}
use Rattle.resin_lex.specs.declared.modes.Step.TheVariants.{Token, Skip}
use Rattle.resin_lex.specs.declared.modes.Shape.TheVariants as s
use Rattle.resin_lex.specs.declared.token.TokenKind.{TokenKind}
use Rattle.resin_lex.specs.declared.token.TokenKind.TheVariants as k
use Rattle.resin_lex.specs.declared.token.Mark.TheVariants as m
use Rattle.resin_lex.specs.Casts.{cast_behind, cast_within}
use Rattle.resin_lex.specs.Kinds.{inside}
use Rattle.resin_lex.specs.Grammar.{Newline, crlf, cr, lf, no_newline, InCode, TagBlank, Around, InQuotes, InIndex, InProperty, IsKey, Stands, arrow_name}
use Rattle.resin_lex.specs.Grammar as g
use Rattle.resin_lex.specs.First.{first_in_code, first_sign, first_word, first_number, first_mark, first_operator, first_round, first_hash, first_slash, block_comment, first_tag_or_question, first_single, first_double, first_variable, int_step, mark_step, cast_step, comment}
use Rattle.resin_lex.proofs.Told.{inside_both, inside_front}
use Rattle.resin_lex.proofs.MarksSound.{Sound, sound_mark, sound_question}

pub name_taken : (b : ℕ) (bs : List ℕ) → begins_name b ≡ true → IsName (take (prefix_len is_name_byte (b ∷ bs)) (b ∷ bs))
name_taken b bs h =
    let e : prefix_len is_name_byte (b ∷ bs) ≡ 1 + prefix_len is_name_byte bs = if_true (is_name_byte b) _ _ (or_first (begins_name b) (is_digit b) h) in
    subst (λ n. IsName (take n (b ∷ bs))) (sym e) (subst IsName (sym (one_taken (prefix_len is_name_byte bs) b bs)) (h, every_run is_name_byte bs))

pub name_there : (bs : List ℕ) → begins_name (byte bs 0) ≡ true → IsName (take (prefix_len is_name_byte bs) bs)
name_there [] h = absurd (cc)
name_there (b ∷ bs) h = name_taken b bs h

sound_word : (at b : ℕ) (bs : List ℕ) → begins_name b ≡ true → Sound (InCode at) (b ∷ bs) (first_word (b ∷ bs))
unfolding first_word
sound_word at b bs h = g.word (name_taken b bs h) (ends_run is_name_byte (b ∷ bs))

-- one byte before what was found, and two
module _ (S : Option TokenKind → Act → List ℕ → List ℕ → Type 0) (what : List ℕ → Option TokenKind) (act : Act) (b : ℕ) (bs : List ℕ) (n : ℕ) where
  pub one_more : S (what (b ∷ take n bs)) act (b ∷ take n bs) (drop n bs) → S (what (take (1 + n) (b ∷ bs))) act (take (1 + n) (b ∷ bs)) (drop (1 + n) (b ∷ bs))
  one_more h = subst (λ v. S (what v) act v (drop (1 + n) (b ∷ bs))) (sym (one_taken n b bs)) (subst (λ v. S (what (b ∷ take n bs)) act (b ∷ take n bs) v) (sym (one_dropped n b bs)) h)

pub sound_variable : (at : ℕ) (bs : List ℕ) → Sound (InCode at) (36 ∷ bs) (first_variable (36 ∷ bs))
unfolding first_variable
sound_variable at bs =
    let n = prefix_len is_name_byte bs in
    choose (Sound (InCode at) (36 ∷ bs)) (begins_name (byte bs 0))
    (λ h. one_more (InCode at) (λ w. Some (k.Variable (inside 1 0 w))) Stay 36 bs n
    (subst (λ v. InCode at (Some (k.Variable v)) Stay (36 ∷ take n bs) (drop n bs)) (sym (inside_front (36 ∷ []) (take n bs))) (g.variable (name_there bs h) (ends_run is_name_byte bs))))
    (λ h. tt)

sound_blank : (at b : ℕ) (bs : List ℕ) → is_blank b ≡ true → Sound (InCode at) (b ∷ bs) (Skip (prefix_len is_blank (b ∷ bs)) Stay)
sound_blank at b bs h =
    let e : prefix_len is_blank (b ∷ bs) ≡ 1 + prefix_len is_blank bs = if_true (is_blank b) _ _ h in
    subst (λ n. InCode at None Stay (take n (b ∷ bs)) (drop n (b ∷ bs))) (sym e) (one_more (InCode at) (λ _. None) Stay b bs (prefix_len is_blank bs) (g.blanks h (every_run is_blank bs) (ends_run is_blank bs)))

-- a text in quotes: two quotes and what stands between
module _ (S : Option TokenKind → Act → List ℕ → List ℕ → Type 0) (what : List ℕ → Option TokenKind) (act : Act) (b k : ℕ) (bs : List ℕ) (n : ℕ) (c : Closed bs n k) where
  pub between : S (what (b ∷ take n bs ++ (k ∷ []))) act (b ∷ take n bs ++ (k ∷ [])) (drop (suc n) bs) → S (what (take (2 + n) (b ∷ bs))) act (take (2 + n) (b ∷ bs)) (drop (2 + n) (b ∷ bs))
  between h =
      let e : 2 + n ≡ suc (suc n) = omega arith in
      subst (λ i. S (what (take i (b ∷ bs))) act (take i (b ∷ bs)) (drop i (b ∷ bs))) (sym e) (subst (λ v. S (what (b ∷ v)) act (b ∷ v) (drop (suc n) bs)) (sym c.taken) h)

inside_quotes : (b c : ℕ) (body : List ℕ) → inside 1 1 (b ∷ body ++ (c ∷ [])) ≡ body
inside_quotes b c body = inside_both (b ∷ []) body (c ∷ [])

sound_single : (at : ℕ) (bs : List ℕ) → Sound (InCode at) (39 ∷ bs) (first_single (39 ∷ bs))
unfolding first_single
sound_single at bs =
    let n = reach stop.Single false bs in
    let body = take n bs in
    choose (Sound (InCode at) (39 ∷ bs)) (byte (39 ∷ bs) (1 + n) == 39)
    (λ h. let c = closed bs n 39 refl (sym (ap (λ v. v == 39) (byte_at 39 bs n)) ∙ h) in
    between (InCode at) (λ w. Some (k.Text (worked q.Single (inside 1 1 w)))) Stay 39 39 bs n c
    (subst (λ v. InCode at (Some (k.Text (worked q.Single v))) Stay (39 ∷ body ++ (39 ∷ [])) (drop (suc n) bs)) (sym (inside_quotes 39 39 body))
    (g.single (subst (Stretch stop.Single body) c.here (stretch_reach stop.Single bs)) (spells_worked q.Single body))))
    (λ h. tt)

sound_double : (at : ℕ) (bs : List ℕ) → Sound (InCode at) (34 ∷ bs) (first_double at (34 ∷ bs))
unfolding first_double
sound_double at bs =
    let n = reach stop.Part false bs in
    let body = take n bs in
    choose (Sound (InCode at) (34 ∷ bs)) (byte (34 ∷ bs) (1 + n) == 34)
    (λ h. let c = closed bs n 34 refl (sym (ap (λ v. v == 34) (byte_at 34 bs n)) ∙ h) in
    between (InCode at) (λ w. Some (k.Text (worked q.Double (inside 1 1 w)))) Stay 34 34 bs n c
    (subst (λ v. InCode at (Some (k.Text (worked q.Double v))) Stay (34 ∷ body ++ (34 ∷ [])) (drop (suc n) bs)) (sym (inside_quotes 34 34 body))
    (g.double (subst (Stretch stop.Part body) c.here (stretch_reach stop.Part bs)) (spells_worked q.Double body))))
    (λ h. subst (InCode at (Some k.TextOpen) (Enter (Quote at)) (34 ∷ [])) (take-append-drop n bs)
    (g.opening (stretch_reach stop.Part bs) (behind (λ v. v == 34) bs n (sym (ap (λ v. v == 34) (byte_at 34 bs n)) ∙ h))))

sound_hash : (at : ℕ) (bs : List ℕ) → Sound (InCode at) (35 ∷ bs) (first_hash (35 ∷ bs))
unfolding first_hash
sound_hash at bs =
    let n = reach stop.Line false bs in
    choose (Sound (InCode at) (35 ∷ bs)) (byte bs 0 == 91) (λ h. tt)
    (λ h. one_more (InCode at) (λ _. None) Stay 35 bs n (g.line_comment (subst (NotBefore (λ b. b == 91)) (sym (take-append-drop n bs)) (behind (λ b. b == 91) bs 0 h)) (stretch_reach stop.Line bs)))

stretch_ends : (st : Stop) (body rest : List ℕ) → Stretch st body rest → (rest ≡ []) ⊎ (stops st rest ≡ true)
stretch_ends st body rest stretch.at_end = inl refl
stretch_ends st body rest (stretch.at_stop h) = inr h
stretch_ends st body rest (stretch.plain h e r) = stretch_ends st _ rest r
stretch_ends st body rest (stretch.escape h e r) = stretch_ends st _ rest r
stretch_ends st body rest (stretch.cut_off h e) = inl refl

star : (rest : List ℕ) → (rest ≡ []) ⊎ (stops stop.Comment rest ≡ true) → (byte rest 1 == 47) ≡ true → (byte rest 0 == 42) ≡ true
star rest (inl e) h = absurd (let q : false ≡ true = subst (λ r. (byte r 1 == 47) ≡ true) e h in cc)
star rest (inr e) h = and_left _ _ e

sound_block : (at : ℕ) (bs : List ℕ) → Sound (InCode at) (47 ∷ 42 ∷ bs) (block_comment (47 ∷ 42 ∷ bs))
unfolding block_comment
sound_block at bs =
    let n = reach stop.Comment false bs in
    choose (Sound (InCode at) (47 ∷ 42 ∷ bs)) (byte (47 ∷ 42 ∷ bs) (3 + n) == 47)
    (λ h.
    let e3 : 3 + n ≡ suc (suc (suc n)) = omega arith in
    let e4 : 4 + n ≡ suc (suc (suc (suc n))) = omega arith in
    let j : (byte bs (suc n) == 47) ≡ true = sym (ap (λ i. byte (47 ∷ 42 ∷ bs) i == 47) e3) ∙ h in
    let r = stretch_reach stop.Comment bs in
    let st : (byte bs n == 42) ≡ true = ap (λ b. b == 42) (byte_0 bs n) ∙ star (drop n bs) (stretch_ends stop.Comment (take n bs) (drop n bs) r) (sym (ap (λ b. b == 47) (byte_1 bs n)) ∙ j) in
    let c = closed bs n 42 refl st in
    let d = closed bs (suc n) 47 refl j in
    let t : take (suc (suc n)) bs ≡ take n bs ++ (42 ∷ 47 ∷ []) = d.taken ∙ ap (λ v. v ++ 47 ∷ []) c.taken ∙ append_assoc (take n bs) (42 ∷ []) (47 ∷ []) in
    subst (λ i. InCode at None Stay (take i (47 ∷ 42 ∷ bs)) (drop i (47 ∷ 42 ∷ bs))) (sym e4)
    (subst (λ v. InCode at None Stay (47 ∷ 42 ∷ v) (drop (suc (suc n)) bs)) (sym t) (g.block_comment (subst (Stretch stop.Comment (take n bs)) (c.here ∙ ap (λ v. 42 ∷ v) d.here) r))))
    (λ h. tt)

slash_at : (at : ℕ) (bs : List ℕ) → Sound (InCode at) (47 ∷ 47 ∷ bs) (comment (47 ∷ 47 ∷ bs))
slash_at at bs = one_more (InCode at) (λ _. None) Stay 47 (47 ∷ bs) (suc (reach stop.Line false bs)) (g.slash_comment (stretch_reach stop.Line bs))

sound_slash : (at : ℕ) (bs : List ℕ) → Sound (InCode at) (47 ∷ bs) (first_slash (47 ∷ bs))
unfolding first_slash
sound_slash at bs =
    let P = Sound (InCode at) (47 ∷ bs) in
    choose P (byte bs 0 == 47) (λ h. begun (λ v. Sound (InCode at) (47 ∷ v) (comment (47 ∷ v))) bs 47 refl h (slash_at at (drop 1 bs)))
    (λ h. choose P (byte bs 0 == 42) (λ j. begun (λ v. Sound (InCode at) (47 ∷ v) (block_comment (47 ∷ v))) bs 42 refl j (sound_block at (drop 1 bs)))
    (λ j. choose P (byte bs 0 == 61) (λ i. begun (λ v. Sound (InCode at) (47 ∷ v) (mark_step m.SlashAssign 2)) bs 61 refl i (g.mark m.SlashAssign refl))
    (λ i. g.mark m.Slash (or_no (byte bs 0 == 47) _ h (or_no (byte bs 0 == 42) _ j i)))))

return_taken : (bs : List ℕ) → Newline (take (newline_len (13 ∷ bs)) (13 ∷ bs)) (drop (newline_len (13 ∷ bs)) (13 ∷ bs))
return_taken [] = cr tt
return_taken (b ∷ bs) =
    choose (λ n. Newline (take n (13 ∷ b ∷ bs)) (drop n (13 ∷ b ∷ bs))) (b == 10)
    (λ h. arm (λ c. Newline (13 ∷ c ∷ []) bs) b 10 h crlf)
    (λ h. cr h)

newline_taken : (bs : List ℕ) → Newline (take (newline_len bs) bs) (drop (newline_len bs) bs)
newline_taken [] = no_newline tt
newline_taken (b ∷ bs) =
    choose (λ n. Newline (take n (b ∷ bs)) (drop n (b ∷ bs))) (b == 13)
    (λ h. arm (λ c. Newline (take (newline_len (13 ∷ bs)) (c ∷ bs)) (drop (newline_len (13 ∷ bs)) (c ∷ bs))) b 13 h (return_taken bs))
    (λ h. choose (λ n. Newline (take n (b ∷ bs)) (drop n (b ∷ bs))) (b == 10)
    (λ j. arm (λ c. Newline (c ∷ []) bs) b 10 j lf)
    (λ j. no_newline (or_no (b == 10) (b == 13) j h)))

sound_tag : (at : ℕ) (bs : List ℕ) → InCode at (Some (k.Mark m.Semicolon)) (Enter Outside) (take (2 + newline_len bs) (63 ∷ 62 ∷ bs)) (drop (2 + newline_len bs) (63 ∷ 62 ∷ bs))
sound_tag at bs =
    let n = newline_len bs in
    let e : 2 + n ≡ suc (suc n) = omega arith in
    subst (λ i. InCode at (Some (k.Mark m.Semicolon)) (Enter Outside) (take i (63 ∷ 62 ∷ bs)) (drop i (63 ∷ 62 ∷ bs))) (sym e) (g.closing_tag (newline_taken bs))

sound_tag_or_question : (at : ℕ) (bs : List ℕ) → Sound (InCode at) (63 ∷ bs) (first_tag_or_question (63 ∷ bs))
unfolding first_tag_or_question
sound_tag_or_question at bs =
    choose (Sound (InCode at) (63 ∷ bs)) (byte bs 0 == 62)
    (λ h. begun (λ v. InCode at (Some (k.Mark m.Semicolon)) (Enter Outside) (take (2 + newline_len (drop 1 v)) (63 ∷ v)) (drop (2 + newline_len (drop 1 v)) (63 ∷ v))) bs 62 refl h (sound_tag at (drop 1 bs)))
    (λ h. sound_question at bs h)

-- Numbers
abbrev pub DigitsRead : ℕ → List ℕ → Option ℕ → Type 0
DigitsRead base ds None = Unit {0}
DigitsRead base ds (Some v) = IsNumber base ds v × (v < 2 ^ 63)

abbrev pub IntRead : List ℕ → List ℕ → Option ℕ → Type 0
IntRead w rest None = Unit {0}
IntRead w rest (Some v) = IsInteger w rest v × (v < 2 ^ 63)

as_digits : (base d : ℕ) (ds : List ℕ) (o : Option ℕ) → IsRead base (2 ^ 63) 0 (d ∷ ds) o → DigitsRead base (d ∷ ds) o
as_digits base d ds None r = tt
as_digits base d ds (Some v) r = ((omega arith, r.0, r.1), r.2 (omega arith))

digits_read : (base : ℕ) (ds : List ℕ) → DigitsRead base ds (digits base (2 ^ 63) ds)
digits_read base [] = tt
digits_read base (d ∷ ds) = subst (DigitsRead base (d ∷ ds)) (sym (digits_some base (2 ^ 63) d ds)) (as_digits base d ds _ (value_read base (2 ^ 63) 0 (d ∷ ds)))

as_int : (w rest : List ℕ) (base : ℕ) (ds : List ℕ) → ((v : ℕ) → IsNumber base ds v → IsInteger w rest v) → (o : Option ℕ) → DigitsRead base ds o → IntRead w rest o
as_int w rest base ds f None r = tt
as_int w rest base ds f (Some v) r = (f v r.0, r.1)

abbrev pub zero_part : ℕ → List ℕ → Option ℕ
zero_part c ds = if byte ds 0 == 120 then digits 16 (2 ^ 63) (drop 1 ds) else (if byte ds 0 == 98 then digits 2 (2 ^ 63) (drop 1 ds) else digits 8 (2 ^ 63) (c ∷ ds))

zero_read : (ds rest : List ℕ) → (is_prefixed (48 ∷ ds) ≡ false → NotBefore (λ b. b == 46) rest) → IntRead (48 ∷ ds) rest (zero_part 48 ds)
zero_read [] rest f = as_int (48 ∷ []) rest 8 (48 ∷ []) (λ v r. octal r (f refl)) (digits 8 (2 ^ 63) (48 ∷ [])) (digits_read 8 (48 ∷ []))
zero_read (c ∷ cs) rest f =
    choose (IntRead (48 ∷ c ∷ cs) rest) (c == 120)
    (λ h. arm (λ e. IntRead (48 ∷ e ∷ cs) rest (digits 16 (2 ^ 63) cs)) c 120 h (as_int (48 ∷ 120 ∷ cs) rest 16 cs (λ v r. hexadecimal r) (digits 16 (2 ^ 63) cs) (digits_read 16 cs)))
    (λ h. choose (IntRead (48 ∷ c ∷ cs) rest) (c == 98)
    (λ j. arm (λ e. IntRead (48 ∷ e ∷ cs) rest (digits 2 (2 ^ 63) cs)) c 98 j (as_int (48 ∷ 98 ∷ cs) rest 2 cs (λ v r. binary r) (digits 2 (2 ^ 63) cs) (digits_read 2 cs)))
    (λ j. as_int (48 ∷ c ∷ cs) rest 8 (48 ∷ c ∷ cs) (λ v r. octal r (f (or_no (c == 120) (c == 98) h j))) (digits 8 (2 ^ 63) (48 ∷ c ∷ cs)) (digits_read 8 (48 ∷ c ∷ cs))))

integer_read : (w rest : List ℕ) → (is_prefixed w ≡ false → NotBefore (λ b. b == 46) rest) → IntRead w rest (integer w)
integer_read [] rest f = tt
integer_read (d ∷ ds) rest f =
    choose (IntRead (d ∷ ds) rest) (d == 48)
    (λ h. arm (λ c. (is_prefixed (c ∷ ds) ≡ false → NotBefore (λ b. b == 46) rest) → IntRead (c ∷ ds) rest (zero_part c ds)) d 48 h (zero_read ds rest) f)
    (λ h. as_int (d ∷ ds) rest 10 (d ∷ ds) (λ v r. decimal h r (f (ap (λ b. b && (byte ds 0 == 120 || byte ds 0 == 98)) h))) (digits 10 (2 ^ 63) (d ∷ ds)) (digits_read 10 (d ∷ ds)))

sound_int : (at : ℕ) (xs : List ℕ) (n : ℕ) (o : Option ℕ) → IntRead (take n xs) (drop n xs) o → NotBefore is_word_byte (drop n xs) → Sound (InCode at) xs (int_step n o)
sound_int at xs n None r e = tt
sound_int at xs n (Some v) r e = g.integer r.0 r.1 e

no_dot : (a b : Bool) → (a && not b) ≡ false → b ≡ false → a ≡ false
no_dot true true h j = absurd (cc)
no_dot true false h j = h
no_dot false b h j = refl

sound_number : (at b : ℕ) (bs : List ℕ) → is_digit b ≡ true → Sound (InCode at) (b ∷ bs) (first_number (b ∷ bs))
unfolding first_number
sound_number at b bs h =
    let xs = b ∷ bs in
    let n = prefix_len is_word_byte xs in
    choose (Sound (InCode at) xs) (byte xs n == 46 && not (is_prefixed (take n xs))) (λ j. tt)
    (λ j. sound_int at xs n (integer (take n xs)) (integer_read (take n xs) (drop n xs) (λ p. behind (λ c. c == 46) xs n (no_dot (byte xs n == 46) (is_prefixed (take n xs)) j p))) (ends_run is_word_byte xs))

-- Casts: the parts of one that was found
pub record CastParts (xs : List ℕ) (cast : Cast) (n : ℕ) : Type 0 where
  pub before : List ℕ
  pub word : List ℕ
  pub gap : List ℕ
  pub rest : List ℕ
  pub text : xs ≡ before ++ (word ++ (gap ++ 41 ∷ rest))
  pub spaces_before : Every is_space before
  pub letters : Every is_name_byte word
  pub named : cast_of word ≡ Some cast
  pub spaces_behind : Every is_space gap
  pub len : n ≡ length before + length word + length gap + 1

abbrev pub CastRead : List ℕ → Option (Cast × ℕ) → Type 0
CastRead xs None = Unit {0}
CastRead xs (Some p) = CastParts xs p.0 p.1

prefix_within : (p : ℕ → Bool) (ys : List ℕ) → prefix_len p ys ≤ length ys
prefix_within p [] = omega arith
prefix_within p (y ∷ ys) = choose (λ n. n ≤ suc (length ys)) (p y) (λ e. let i = prefix_within p ys in omega arith) (λ e. omega arith)

module _ (xs : List ℕ) (start len gap : ℕ) (es : start ≡ prefix_len is_space xs) (ew : len ≡ prefix_len is_name_byte (drop start xs)) (eg : gap ≡ prefix_len is_space (drop (start + len) xs)) where
  parts_of : (cast : Cast) → cast_of (take len (drop start xs)) ≡ Some cast → (byte xs (start + len + gap) == 41) ≡ true → CastParts xs cast (start + len + gap + 1)
  parts_of cast h b =
      let ys = drop start xs in
      let zs = drop (start + len) xs in
      let ez : drop len ys ≡ zs = drop-drop len start xs in
      let c = closed xs (start + len + gap) 41 refl b in
      let ls : start ≤ length xs = let w = prefix_within is_space xs in omega arith in
      let lw : len ≤ length ys = let w = prefix_within is_name_byte ys in omega arith in
      let lg : gap ≤ length zs = let w = prefix_within is_space zs in omega arith in
      record {
        before = take start xs;
        word = take len ys;
        gap = take gap zs;
        rest = drop (suc (start + len + gap)) xs;
        text =
            sym (take-append-drop start xs)
            ∙ ap (λ v. take start xs ++ v) (sym (take-append-drop len ys) ∙ ap (λ v. take len ys ++ v) (ez ∙ sym (take-append-drop gap zs) ∙ ap (λ v. take gap zs ++ v) (drop-drop gap (start + len) xs ∙ c.here)));
        spaces_before = subst (λ n. Every is_space (take n xs)) (sym es) (every_run is_space xs);
        letters = subst (λ n. Every is_name_byte (take n ys)) (sym ew) (every_run is_name_byte ys);
        named = h;
        spaces_behind = subst (λ n. Every is_space (take n zs)) (sym eg) (every_run is_space zs);
        len = omega (arith, length-take start xs, length-take len ys, length-take gap zs);
      }

  parts_within : (o : Option Cast) → cast_of (take len (drop start xs)) ≡ o → CastRead xs (cast_within o (byte xs (start + len + gap)) (start + len + gap))
  parts_within None h = tt
  parts_within (Some cast) h = choose (CastRead xs) (byte xs (start + len + gap) == 41) (λ b. parts_of cast h b) (λ _. tt)

cast_read : (xs : List ℕ) → CastRead xs (cast_behind xs)
unfolding cast_behind
cast_read xs =
    let start = prefix_len is_space xs in
    let len = prefix_len is_name_byte (drop start xs) in
    parts_within xs start len (prefix_len is_space (drop (start + len) xs)) refl refl refl (cast_of (take len (drop start xs))) refl

cast_flat : (before word gap rest : List ℕ) → before ++ (word ++ (gap ++ 41 ∷ rest)) ≡ (before ++ (word ++ (gap ++ (41 ∷ [])))) ++ rest
cast_flat before word gap rest = sym (append_assoc before (word ++ (gap ++ (41 ∷ []))) rest ∙ ap (λ u. before ++ u) (append_assoc word (gap ++ (41 ∷ [])) rest ∙ ap (λ u. word ++ u) (append_assoc gap (41 ∷ []) rest)))

-- where a text is these bytes and a rest, a step of their length takes them
split_at : (S : List ℕ → List ℕ → Type 0) (xs w rest : List ℕ) (n : ℕ) → xs ≡ w ++ rest → n ≡ length w → S w rest → S (take n xs) (drop n xs)
split_at S xs w rest n e f h =
    subst (λ i. S (take i xs) (drop i xs)) (sym f) (subst (λ v. S (take (length w) v) (drop (length w) v)) (sym e) (subst (λ v. S v (drop (length w) (w ++ rest))) (sym (take_front w rest)) (subst (S w) (sym (drop_front w rest)) h)))

sound_cast : (at : ℕ) (bs : List ℕ) (o : Option (Cast × ℕ)) → cast_behind bs ≡ o → CastRead bs o → Sound (InCode at) (40 ∷ bs) (cast_step o)
sound_cast at bs None e r = g.mark m.LeftRound (ap is_some e)
sound_cast at bs (Some p) e r =
    let w = 40 ∷ r.before ++ (r.word ++ (r.gap ++ (41 ∷ []))) in
    split_at (InCode at (Some (k.Cast p.0)) Stay) (40 ∷ bs) w r.rest (1 + p.1) (ap (λ v. 40 ∷ v) (r.text ∙ cast_flat r.before r.word r.gap r.rest))
    (omega (arith, r.len, length-append r.before (r.word ++ (r.gap ++ (41 ∷ []))), length-append r.word (r.gap ++ (41 ∷ [])), length-append r.gap (41 ∷ [])))
    (g.cast r.before r.word r.gap r.spaces_before r.letters r.named r.spaces_behind)

sound_round : (at : ℕ) (bs : List ℕ) → Sound (InCode at) (40 ∷ bs) (first_round (40 ∷ bs))
unfolding first_round
sound_round at bs = sound_cast at bs (cast_behind bs) refl (cast_read bs)

sound_sign : (at b : ℕ) (bs : List ℕ) → Sound (InCode at) (b ∷ bs) (first_sign at (b ∷ bs))
unfolding first_sign
sound_sign at b bs =
    let P = Sound (InCode at) (b ∷ bs) in
    choose P (b == 36) (λ h. arm (λ c. Sound (InCode at) (c ∷ bs) (first_variable (c ∷ bs))) b 36 h (sound_variable at bs))
    (λ _. choose P (b == 39) (λ h. arm (λ c. Sound (InCode at) (c ∷ bs) (first_single (c ∷ bs))) b 39 h (sound_single at bs))
    (λ _. choose P (b == 34) (λ h. arm (λ c. Sound (InCode at) (c ∷ bs) (first_double at (c ∷ bs))) b 34 h (sound_double at bs))
    (λ _. choose P (b == 35) (λ h. arm (λ c. Sound (InCode at) (c ∷ bs) (first_hash (c ∷ bs))) b 35 h (sound_hash at bs))
    (λ _. choose P (b == 47) (λ h. arm (λ c. Sound (InCode at) (c ∷ bs) (first_slash (c ∷ bs))) b 47 h (sound_slash at bs))
    (λ _. choose P (b == 63) (λ h. arm (λ c. Sound (InCode at) (c ∷ bs) (first_tag_or_question (c ∷ bs))) b 63 h (sound_tag_or_question at bs))
    (λ _. choose P (b == 40) (λ h. arm (λ c. Sound (InCode at) (c ∷ bs) (first_round (c ∷ bs))) b 40 h (sound_round at bs))
    (λ _. choose P (b == 123) (λ h. arm (λ c. Sound (InCode at) (c ∷ bs) (Token (s.Mark m.LeftBrace) 1 (Enter Brace))) b 123 h (g.mark m.LeftBrace refl))
    (λ _. choose P (b == 125) (λ h. arm (λ c. Sound (InCode at) (c ∷ bs) (Token (s.Mark m.RightBrace) 1 Leave)) b 125 h (g.mark m.RightBrace refl))
    (λ _. sound_mark at b bs)))))))))

pub sound_code : (at : ℕ) (xs : List ℕ) → Sound (InCode at) xs (first_in_code at xs)
unfolding first_in_code first_sign first_mark first_operator
sound_code at [] = tt
sound_code at (b ∷ bs) =
    let P = Sound (InCode at) (b ∷ bs) in
    choose P (begins_name b) (λ h. sound_word at b bs h)
    (λ _. choose P (is_digit b) (λ h. sound_number at b bs h)
    (λ _. choose P (is_blank b) (λ h. sound_blank at b bs h)
    (λ _. sound_sign at b bs)))
