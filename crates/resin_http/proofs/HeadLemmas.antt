-- `head_of` answers exactly the heads of the grammar.
use Rattle.std.proofs.Common.{arith, ◌≡◌, ℕ, ◌-◌, ◌<◌, ◌≤◌, nat_lt, nat_le, ◌==◌, true, false, cond, not, List, [], ◌∷◌, ◌++◌, length, take, drop, map, refl, sym, ap, ◌∙◌, append_assoc, append-nil, length-append, subst, get_or, Option, Some, None, option_and_then}
use Rattle.std.specs.Prelude.{All, slice_index}
use Rattle.std.specs.List.{list_all, prefix_len, take_while, before_first, after_first, flat_map, slice_index_or}
use Rattle.std.proofs.Math.Seq.{take-append_seam, drop-append_seam}
use Rattle.std.proofs.lemmas.Bool.{ltb-true, lt-ltb, eqb-true, both_ways, not_from_false, not_from_true}
use Rattle.std.proofs.lemmas.List.Folds.{list_all-append}
use Rattle.std.proofs.lemmas.List.Sums.{AllPass-from_list_all, list_all-from_AllPass}
use Rattle.std.proofs.lemmas.List.Elements.{All-weaker}
use Rattle.std.proofs.lemmas.Str.{IsUtf8-from_is_utf8, is_utf8-from_IsUtf8}
use Rattle.std.specs.Cmp.Lexicographic.{same_text}
use Rattle.httparse.specs.Grammar.{RequestHead, IsRequestHead, Field, IsField, LineEnd, crlf, lf, print_request, print_end, print_blank, print_field, print_section, print_version, is_token, IsToken, is_token_byte, is_uri_byte, is_value_byte}
use Rattle.httparse.proofs.GrammarLemmas.{print_request-append}
use Rattle.httparse.proofs.PieceLemmas.{token_is_no_newline, space_ends_token, colon_ends_token, print_field-append}
use Rattle.resin_http.specs.Head.{IsHead, most_fields, lines_of, is_space, is_colon, text_of, end_of, is_blank, field_of, after_method, head_of_lines, read_lines, same_bytes, is_field, spells_head, if_spelled, head_of}
use Rattle.resin_http.proofs.LineLemmas.{both, and_of, prefix-run, weaker, before-stop, after-stop, is_plain, mark_of, lines-line, text-line, end-line}

-- ---- the classes of the parts, as tests and as facts

pub nat_le-true : (a b : ℕ) → nat_le a b ≡ true → a ≤ b
nat_le-true a b e = grind arith

pub le-nat_le : (a b : ℕ) → a ≤ b → nat_le a b ≡ true
le-nat_le a b e = grind arith

token_fact : (w : List ℕ) → is_token w ≡ true → IsToken w
token_fact w e =
    let b = both (nat_lt 0 (length w)) (list_all is_token_byte w) e in
    (ltb-true 0 (length w) b.0, AllPass-from_list_all is_token_byte w b.1)

token_test : (w : List ℕ) → IsToken w → is_token w ≡ true
token_test w t = and_of _ _ (lt-ltb 0 (length w) t.0) (list_all-from_AllPass is_token_byte w t.1)

field_fact : (f : Field) → is_field f ≡ true → IsField f
field_fact f e =
    let b = both (is_token f.name) (list_all is_value_byte f.raw) e in
    record { name = token_fact f.name b.0; raw = AllPass-from_list_all is_value_byte f.raw b.1 }

field_test : (f : Field) → IsField f → is_field f ≡ true
field_test f i = and_of _ _ (token_test f.name i.name) (list_all-from_AllPass is_value_byte f.raw i.raw)

fields_fact : (fs : List Field) → list_all is_field fs ≡ true → All IsField fs
fields_fact fs e = All-weaker (λ f. is_field f ≡ true) IsField field_fact fs (AllPass-from_list_all is_field fs e)

fields_test : (fs : List Field) → All IsField fs → list_all is_field fs ≡ true
fields_test fs all = list_all-from_AllPass is_field fs (All-weaker IsField (λ f. is_field f ≡ true) field_test fs all)

same_bytes_refl : (w : List ℕ) → same_bytes w w ≡ true
same_bytes_refl [] = refl
same_bytes_refl (b ∷ w) = and_of _ _ (grind arith) (same_bytes_refl w)

spelled_is : (bytes : List ℕ) (h : RequestHead) → spells_head bytes h ≡ true → IsHead bytes h
spelled_is bytes h e =
    let last = both _ _ e in
    let few = both _ _ last.0 in
    let fields = both _ _ few.0 in
    let minor = both _ _ fields.0 in
    let text = both _ _ minor.0 in
    let uri = both _ _ text.0 in
    let some = both _ _ uri.0 in (
      (
        record {
          method = token_fact h.method some.0;
          target = (ltb-true 0 (length h.target) some.1, AllPass-from_list_all is_uri_byte h.target uri.1);
          target_text = IsUtf8-from_is_utf8 h.target text.1;
          minor = nat_le-true h.minor 1 minor.1;
          fields = fields_fact h.fields fields.1;
        },
        sym (append-nil (print_request h) ∙ same_text (print_request h) bytes (sym last.1)),
      ),
      nat_le-true (length h.fields) most_fields few.1,
    )

is_spelled : (bytes : List ℕ) (h : RequestHead) → IsHead bytes h → spells_head bytes h ≡ true
is_spelled bytes h i =
    let valid = i.0.0 in
    and_of _ _ (and_of _ _ (and_of _ _ (and_of _ _ (and_of _ _ (and_of _ _ (and_of _ _
    (token_test h.method valid.method)
    (lt-ltb 0 (length h.target) valid.target.0))
    (list_all-from_AllPass is_uri_byte h.target valid.target.1))
    (is_utf8-from_IsUtf8 h.target valid.target_text))
    (le-nat_le h.minor 1 valid.minor))
    (fields_test h.fields valid.fields))
    (le-nat_le (length h.fields) most_fields i.1))
    (ap (same_bytes (print_request h)) (i.0.1 ∙ append-nil (print_request h)) ∙ same_bytes_refl (print_request h))

-- ---- soundness

if_spelled_is : (bytes : List ℕ) (g h : RequestHead) → if_spelled bytes g ≡ Some h → IsHead bytes h
if_spelled_is bytes g h e =
    elim (spells_head bytes g) as (λ b. spells_head bytes g ≡ b → cond b (Some g) None ≡ Some h → IsHead bytes h) [
      | true ↦ λ is same. let gh : g ≡ h = cc in subst (IsHead bytes) gh (spelled_is bytes g is)
      | false ↦ λ is same. absurd (cc)
    ] refl e

sound_from : (bytes : List ℕ) (o : Option RequestHead) (h : RequestHead) → option_and_then (if_spelled bytes) o ≡ Some h → IsHead bytes h
sound_from bytes None h e = absurd (cc)
sound_from bytes (Some g) h e = if_spelled_is bytes g h e

pub head_sound : (bytes : List ℕ) (h : RequestHead) → head_of bytes ≡ Some h → IsHead bytes h
unfolding head_of
head_sound bytes h e = sound_from bytes (read_lines (lines_of bytes)) h e

-- ---- what the lines of a head are

token_plain : (w : List ℕ) → list_all is_token_byte w ≡ true → list_all is_plain w ≡ true
token_plain w all = weaker is_token_byte is_plain w (λ b t. not_from_false _ (token_is_no_newline b t)) all

uri_plain : (w : List ℕ) → list_all is_uri_byte w ≡ true → list_all is_plain w ≡ true
uri_plain w all = weaker is_uri_byte is_plain w (λ b t. plain_above b (ltb-true 32 b (both _ _ t).0)) all
  where
    plain_above : (b : ℕ) → 32 < b → is_plain b ≡ true
    plain_above b lt = grind arith

value_plain : (w : List ℕ) → list_all is_value_byte w ≡ true → list_all is_plain w ≡ true
value_plain w all = weaker is_value_byte is_plain w value_one all
  where
    plain_value : (b : ℕ) → is_value_byte b ≡ true → is_plain b ≡ true
    plain_value b t = grind arith

    value_one : (b : ℕ) → is_value_byte b ≡ true → is_plain b ≡ true
    value_one b t = plain_value b t

abbrev start_text : RequestHead → List ℕ
start_text h = h.method ++ 32 ∷ (h.target ++ 32 ∷ print_version h.minor)

abbrev field_text : Field → List ℕ
field_text f = f.name ++ 58 ∷ f.raw

abbrev field_line : Field → List ℕ
field_line f = field_text f ++ mark_of f.end

version_plain : (n : ℕ) → n ≤ 1 → list_all is_plain (print_version n) ≡ true
version_plain n le = grind arith

start_plain : (h : RequestHead) → IsRequestHead h → list_all is_plain (start_text h) ≡ true
start_plain h valid =
    list_all-append is_plain h.method _
    ∙ and_of _ _ (token_plain h.method (list_all-from_AllPass is_token_byte h.method valid.method.1))
    (list_all-append is_plain h.target _
    ∙ and_of _ _ (uri_plain h.target (list_all-from_AllPass is_uri_byte h.target valid.target.1)) (version_plain h.minor valid.minor))

field_plain : (f : Field) → IsField f → list_all is_plain (field_text f) ≡ true
field_plain f valid =
    list_all-append is_plain f.name _
    ∙ and_of _ _ (token_plain f.name (list_all-from_AllPass is_token_byte f.name valid.name.1))
    (value_plain f.raw (list_all-from_AllPass is_value_byte f.raw valid.raw))

lines-blank : (es : List LineEnd) (rest : List ℕ) → lines_of (print_blank es ++ rest) ≡ map mark_of es ++ lines_of rest
lines-blank [] rest = refl
lines-blank (e ∷ es) rest =
    ap lines_of (append_assoc (print_end e) (print_blank es) rest) ∙ lines-line [] e (print_blank es ++ rest) refl
    ∙ ap (λ ls. mark_of e ∷ ls) (lines-blank es rest)

lines-fields : (fs : List Field) (rest : List ℕ) → list_all is_field fs ≡ true
    → lines_of (flat_map print_field fs ++ rest) ≡ map field_line fs ++ lines_of rest
lines-fields [] rest all = refl
lines-fields (f ∷ fs) rest all =
    let valid = both (is_field f) (list_all is_field fs) all in
    let after : List ℕ = flat_map print_field fs ++ rest in
    ap lines_of (append_assoc (print_field f) (flat_map print_field fs) rest ∙ print_field-append f after
    ∙ sym (append_assoc f.name (58 ∷ f.raw) (print_end f.end ++ after)))
    ∙ lines-line (field_text f) f.end after (field_plain f (field_fact f valid.0))
    ∙ ap (λ ls. field_line f ∷ ls) (lines-fields fs rest valid.1)

regroup : (a b c r : List ℕ) → a ++ 32 ∷ (b ++ 32 ∷ (c ++ r)) ≡ (a ++ 32 ∷ (b ++ 32 ∷ c)) ++ r
regroup a b c r = sym (append_assoc a (32 ∷ (b ++ 32 ∷ c)) r ∙ ap (λ t. a ++ 32 ∷ t) (append_assoc b (32 ∷ c) r))

abbrev start_line : RequestHead → List ℕ
start_line h = start_text h ++ mark_of h.line_end

abbrev later_lines : RequestHead → List (List ℕ)
later_lines h = map field_line h.fields ++ mark_of h.last ∷ [] ∷ []

-- the lines of a head
lines-head : (bytes : List ℕ) (h : RequestHead) → IsHead bytes h → lines_of bytes ≡ map mark_of h.blank ++ start_line h ∷ later_lines h
lines-head bytes h i =
    let valid = i.0.0 in
    let section : List ℕ = print_section h.fields h.last ++ [] in
    ap lines_of (i.0.1 ∙ print_request-append h [])
    ∙ lines-blank h.blank _
    ∙ ap (λ ls. map mark_of h.blank ++ ls)
    (ap lines_of (regroup h.method h.target (print_version h.minor) (print_end h.line_end ++ section))
    ∙ lines-line (start_text h) h.line_end section (start_plain h valid)
    ∙ ap (λ ls. start_line h ∷ ls)
    (ap lines_of (append_assoc (flat_map print_field h.fields) (print_end h.last) [])
    ∙ lines-fields h.fields (print_end h.last ++ []) (fields_test h.fields valid.fields)
    ∙ ap (λ ls. map field_line h.fields ++ ls) (lines-line [] h.last [] refl)))

-- ---- completeness

blank_mark : (e : LineEnd) → is_blank (mark_of e) ≡ true
blank_mark crlf = refl
blank_mark lf = refl

blank_marks : (es : List LineEnd) → list_all is_blank (map mark_of es) ≡ true
blank_marks [] = refl
blank_marks (e ∷ es) = and_of _ _ (blank_mark e) (blank_marks es)

ends_of_marks : (es : List LineEnd) → map end_of (map mark_of es) ≡ es
ends_of_marks [] = refl
ends_of_marks (e ∷ es) = λ i. end-line [] e refl i ∷ ends_of_marks es i

filled : (n : ℕ) → 0 < n → (n == 0) ≡ false
filled n lt = grind arith

some_text : (text : List ℕ) (e : LineEnd) → list_all is_plain text ≡ true → 0 < length text → is_blank (text ++ mark_of e) ≡ false
some_text text e plain some = ap (λ (t : List ℕ). length t == 0) (text-line text e plain) ∙ filled (length text) some

long_start : (h : RequestHead) → IsRequestHead h → 0 < length (start_text h)
long_start h valid = let some = valid.method.0 in omega (arith, length-append h.method (32 ∷ (h.target ++ 32 ∷ print_version h.minor)))

field_filled : (f : Field) → IsField f → not (is_blank (field_line f)) ≡ true
field_filled f valid =
    not_from_false _ (some_text (field_text f) f.end (field_plain f valid) (omega (arith, length-append f.name (58 ∷ f.raw))))

fields_filled : (fs : List Field) → list_all is_field fs ≡ true → list_all (λ l. not (is_blank l)) (map field_line fs) ≡ true
fields_filled [] all = refl
fields_filled (f ∷ fs) all =
    let valid = both (is_field f) (list_all is_field fs) all in
    and_of _ _ (field_filled f (field_fact f valid.0)) (fields_filled fs valid.1)

no_colon : (w : List ℕ) → list_all is_token_byte w ≡ true → list_all (λ b. not (is_colon b)) w ≡ true
no_colon w all = weaker is_token_byte (λ b. not (is_colon b)) w one all
  where
    one : (b : ℕ) → is_token_byte b ≡ true → not (is_colon b) ≡ true
    one b t = elim (is_colon b) as (λ v. is_colon b ≡ v → not v ≡ true) [
      | true ↦ λ e. let same : b ≡ 58 = eqb-true b 58 e in absurd (both_ways _ colon_ends_token (subst (λ (c : ℕ). is_token_byte c ≡ true) same t))
      | false ↦ λ e. refl
    ] refl

no_space_token : (w : List ℕ) → list_all is_token_byte w ≡ true → list_all (λ b. not (is_space b)) w ≡ true
no_space_token w all = weaker is_token_byte (λ b. not (is_space b)) w one all
  where
    one : (b : ℕ) → is_token_byte b ≡ true → not (is_space b) ≡ true
    one b t = elim (is_space b) as (λ v. is_space b ≡ v → not v ≡ true) [
      | true ↦ λ e. let same : b ≡ 32 = eqb-true b 32 e in absurd (both_ways _ space_ends_token (subst (λ (c : ℕ). is_token_byte c ≡ true) same t))
      | false ↦ λ e. refl
    ] refl

no_space_uri : (w : List ℕ) → list_all is_uri_byte w ≡ true → list_all (λ b. not (is_space b)) w ≡ true
no_space_uri w all = weaker is_uri_byte (λ b. not (is_space b)) w (λ b t. above b (ltb-true 32 b (both _ _ t).0)) all
  where
    above : (b : ℕ) → 32 < b → not (is_space b) ≡ true
    above b lt = grind arith

field_back : (f : Field) → IsField f → field_of (field_line f) ≡ f
field_back f valid =
    let spelled = text-line (field_text f) f.end (field_plain f valid) in
    let bare = no_colon f.name (list_all-from_AllPass is_token_byte f.name valid.name.1) in
    let name : before_first is_colon (text_of (field_line f)) ≡ f.name =
    ap (before_first is_colon) spelled ∙ before-stop is_colon f.name 58 f.raw bare refl in
    let raw : after_first is_colon (text_of (field_line f)) ≡ f.raw =
    ap (after_first is_colon) spelled ∙ after-stop is_colon f.name 58 f.raw bare refl in
    let end : end_of (field_line f) ≡ f.end = end-line (field_text f) f.end (field_plain f valid) in
    λ i. record { name = name i; raw = raw i; end = end i }

fields_back : (fs : List Field) → list_all is_field fs ≡ true → map field_of (map field_line fs) ≡ fs
fields_back [] all = refl
fields_back (f ∷ fs) all =
    let valid = both (is_field f) (list_all is_field fs) all in
    λ i. field_back f (field_fact f valid.0) i ∷ fields_back fs valid.1 i

at_seam : (xs : List (List ℕ)) (y : List ℕ) (ys : List (List ℕ)) (d : List ℕ) → get_or (xs ++ y ∷ ys) (length xs) d ≡ y
at_seam [] y ys d = refl
at_seam (x ∷ xs) y ys d = at_seam xs y ys d

read-lines : (blank : List (List ℕ)) (start : List ℕ) (lines : List (List ℕ)) → list_all is_blank blank ≡ true → is_blank start ≡ false
    → read_lines (blank ++ start ∷ lines) ≡ head_of_lines blank (start ∷ lines)
read-lines blank start lines all stop =
    let whole : List (List ℕ) = blank ++ start ∷ lines in
    ap (λ n. head_of_lines (take n whole) (drop n whole)) (prefix-run is_blank blank start lines all stop)
    ∙ ap (λ b. head_of_lines b (drop (length blank) whole)) (take-append_seam blank (start ∷ lines))
    ∙ ap (head_of_lines blank) (drop-append_seam blank (start ∷ lines))

minor_back : (m : ℕ) → slice_index (print_version m) 7 - 48 ≡ m
minor_back m = omega arith

-- the lines of a head spell it
lines_spell : (h : RequestHead) → IsRequestHead h → head_of_lines (map mark_of h.blank) (start_line h ∷ later_lines h) ≡ Some h
lines_spell h valid =
    let text : text_of (start_line h) ≡ start_text h = text-line (start_text h) h.line_end (start_plain h valid) in
    let bare = no_space_token h.method (list_all-from_AllPass is_token_byte h.method valid.method.1) in
    let bare_target = no_space_uri h.target (list_all-from_AllPass is_uri_byte h.target valid.target.1) in
    let words : List ℕ = h.target ++ 32 ∷ print_version h.minor in
    let method : before_first is_space (text_of (start_line h)) ≡ h.method =
    ap (before_first is_space) text ∙ before-stop is_space h.method 32 words bare refl in
    let tail : after_method (start_line h) ≡ words = ap (after_first is_space) text ∙ after-stop is_space h.method 32 words bare refl in
    let target : before_first is_space (after_method (start_line h)) ≡ h.target =
    ap (before_first is_space) tail ∙ before-stop is_space h.target 32 (print_version h.minor) bare_target refl in
    let minor : slice_index (after_first is_space (after_method (start_line h))) 7 - 48 ≡ h.minor =
    ap (λ (t : List ℕ). slice_index t 7 - 48) (ap (after_first is_space) tail ∙ after-stop is_space h.target 32 (print_version h.minor) bare_target refl)
    ∙ minor_back h.minor in
    let end : end_of (start_line h) ≡ h.line_end = end-line (start_text h) h.line_end (start_plain h valid) in
    let run = prefix-run (λ l. not (is_blank l)) (map field_line h.fields) (mark_of h.last) ([] ∷ [])
    (fields_filled h.fields (fields_test h.fields valid.fields)) (not_from_true _ (blank_mark h.last)) in
    let fields : map field_of (take_while (λ l. not (is_blank l)) (later_lines h)) ≡ h.fields =
    ap (λ n. map field_of (take n (later_lines h))) run
    ∙ ap (map field_of) (take-append_seam (map field_line h.fields) (mark_of h.last ∷ [] ∷ []))
    ∙ fields_back h.fields (fields_test h.fields valid.fields) in
    let last : end_of (slice_index_or (later_lines h) (prefix_len (λ l. not (is_blank l)) (later_lines h)) []) ≡ h.last =
    ap (λ n. end_of (get_or (later_lines h) n [])) run
    ∙ ap end_of (at_seam (map field_line h.fields) (mark_of h.last) ([] ∷ []) [])
    ∙ end-line [] h.last refl in
    λ i. Some (record {
      blank = ends_of_marks h.blank i;
      method = method i;
      target = target i;
      minor = minor i;
      line_end = end i;
      fields = fields i;
      last = last i;
    })

pub head_complete : (bytes : List ℕ) (h : RequestHead) → IsHead bytes h → head_of bytes ≡ Some h
unfolding head_of
head_complete bytes h i =
    let valid = i.0.0 in
    let read : read_lines (lines_of bytes) ≡ Some h =
    ap read_lines (lines-head bytes h i)
    ∙ read-lines (map mark_of h.blank) (start_line h) (later_lines h) (blank_marks h.blank)
    (some_text (start_text h) h.line_end (start_plain h valid) (long_start h valid))
    ∙ lines_spell h valid in
    ap (option_and_then (if_spelled bytes)) read ∙ ap (λ b. cond b (Some h) None) (is_spelled bytes h i)

-- bytes that are no head are none
pub head_none : (bytes : List ℕ) → ((h : RequestHead) → IsHead bytes h → ⊥) → head_of bytes ≡ None
head_none bytes none = go (head_of bytes) refl
  where
    go : (o : Option RequestHead) → head_of bytes ≡ o → head_of bytes ≡ None
    go None e = e
    go (Some h) e = absurd (none h (head_sound bytes h e))
