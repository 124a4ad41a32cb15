-- What stands at the front of a text is what the function finds.
use Rattle.std.proofs.Common.{◌≡◌, ℕ, suc, ◌+◌, true, false, List, [], ◌∷◌, ◌++◌, drop, length, Option, Some, None, refl, sym, ◌∙◌, ap, arith, append_assoc, length-append}
use Rattle.std.specs.Prelude.{◌==◌, ◌&&◌, ◌||◌, if◌then◌else◌}
use Rattle.std.specs.List.{prefix_len}
use Rattle.std.proofs.lemmas.Bool.Decides.{nat_tests}
use Rattle.resin_scan.specs.Bytes.{byte, is_blank, is_digit, begins_name, is_name_byte, lower}
use Rattle.resin_scan.specs.Lists.{NotBefore}
use Rattle.resin_scan.specs.Words.{IsName}
use Rattle.resin_scan.specs.Stretches.{reach, stops, escapes, Stretch, is_echo_tag, is_php_tag, newline_len, blank_len, is_broken}
use Rattle.resin_scan.specs.Stretches as stretch
use Rattle.resin_scan.specs.declared.escapes.Quoting.TheVariants as q
use Rattle.resin_scan.specs.declared.stretches.Stop.{Stop}
use Rattle.resin_scan.specs.declared.stretches.Stop.TheVariants as stop
use Rattle.resin_scan.proofs.Runs.{if_true, if_false, drop_front, run_exact, reach_exact}
use Rattle.resin_scan.proofs.Choices.{or_left, or_right, or_first, and_left, and_yes, and_or_left, same, other_byte, arm, first_of_rest, byte_behind, more}
use Rattle.resin_scan.proofs.Spelled.{spells_once}
use Rattle.resin_lex.specs.declared.modes.Open.{Open}
use Rattle.resin_lex.specs.declared.modes.Open.TheVariants.{Outside, Brace, Quote, Index, Property}
use Rattle.resin_lex.specs.declared.modes.Act.{Act}
use Rattle.resin_lex.specs.declared.modes.Act.TheVariants.{Stay, Enter, Leave}
use Rattle.resin_lex.specs.declared.modes.Step.TheVariants.{Token, Skip, Fault}
use Rattle.resin_lex.specs.declared.modes.Shape.TheVariants as s
use Rattle.resin_lex.specs.declared.token.TokenKind.{TokenKind}
use Rattle.resin_lex.specs.declared.token.TokenKind.TheVariants as k
use Rattle.resin_lex.specs.Grammar.{Newline, crlf, cr, lf, no_newline, InCode, TagBlank, Around, InQuotes, InIndex, InProperty, IsKey, Stands, arrow_name}
use Rattle.resin_lex.specs.Grammar as g
use Rattle.resin_lex.specs.First.{first, first_in_quotes, quoted_variable, quoted_stretch, opened_behind, first_index, first_property, first_outside, key_len}
use Rattle.resin_lex.proofs.Told.{told, told_token, told_skip, inside_both, inside_front}
use Rattle.resin_lex.proofs.CodeFound.{complete_code}

not_stopped : {st : Stop} {b : ℕ} {w rest : List ℕ} → Stretch st (b ∷ w) rest → stops st (b ∷ w ++ rest) ≡ false
not_stopped (stretch.plain h e r) = h
not_stopped (stretch.escape h e r) = h
not_stopped (stretch.cut_off h e) = h

tag_blanks : (blank rest : List ℕ) → TagBlank blank rest → blank_len (blank ++ rest) ≡ length blank
tag_blanks blank rest g.crlf_tag = refl
tag_blanks blank rest (g.cr_tag {rest = r} h) = if_false (byte r 0 == 10) _ _ (first_of_rest (λ b. b == 10) r refl h)
tag_blanks blank rest (g.blank_tag {b = b} h i) = if_false (b == 13) _ _ h ∙ if_true (is_blank b) _ _ i
tag_blanks blank rest g.end_tag = refl

tag_ends : (p h q : ℕ) (blank rest : List ℕ) → TagBlank blank rest → (is_blank (byte (60 ∷ 63 ∷ p ∷ h ∷ q ∷ blank ++ rest) 5) || length (60 ∷ 63 ∷ p ∷ h ∷ q ∷ blank ++ rest) == 5) ≡ true
tag_ends p h q blank rest g.crlf_tag = refl
tag_ends p h q blank rest (g.cr_tag j) = refl
tag_ends p h q blank rest (g.blank_tag {b = b} j i) = or_first (is_blank b) _ i
tag_ends p h q blank rest g.end_tag = refl

five : (blank : List ℕ) (n : ℕ) → n ≡ length blank → 5 + n ≡ suc (suc (suc (suc (suc (length blank)))))
five blank n e = omega arith

is_code : (b n : ℕ) → lower b ≡ n → (lower b == n) ≡ true
is_code b n h = rw h (same n)

pub complete_around : (what : Option TokenKind) (act : Act) (w rest : List ℕ) → Around what act w rest → told (w ++ rest) (first_outside (w ++ rest)) ≡ Some (what, length w, act)
unfolding first_outside
complete_around what act w rest (g.inline {b = b} {w = v} r) =
    let h = not_stopped r in
    told_token w rest _ s.Inline _ Stay
    (if_false (is_echo_tag (b ∷ v ++ rest)) _ _ (or_left (is_echo_tag (b ∷ v ++ rest)) (is_php_tag (b ∷ v ++ rest)) h)
    ∙ if_false (is_php_tag (b ∷ v ++ rest)) _ _ (or_right (is_echo_tag (b ∷ v ++ rest)) (is_php_tag (b ∷ v ++ rest)) h)
    ∙ ap (λ n. Token s.Inline n Stay) (reach_exact stop.Tag (b ∷ v) rest r)) refl
complete_around what act w rest g.echo_tag = told_token w rest _ s.EchoTag _ Leave refl refl
complete_around what act w rest (g.php_tag {p = p} {h = h} {q = q} {blank = blank} a b c t) =
    told_skip w rest _ Leave
    (if_false (p == 61) _ _ (other_byte (λ d. lower d == 112) p 61 refl (is_code p 112 a))
    ∙ if_true (is_php_tag (60 ∷ 63 ∷ p ∷ h ∷ q ∷ blank ++ rest)) _ _ (and_yes (lower p == 112) _ (is_code p 112 a) (and_yes (lower h == 104) _ (is_code h 104 b) (and_yes (lower q == 112) _ (is_code q 112 c) (tag_ends p h q blank rest t))))
    ∙ ap (λ n. Skip n Leave) (five blank _ (tag_blanks blank rest t)))

-- In quotes
name_len : (w rest : List ℕ) → IsName w → NotBefore is_name_byte rest → prefix_len is_name_byte (w ++ rest) ≡ length w
name_len [] rest h j = absurd h
name_len (b ∷ w) rest h j = run_exact is_name_byte (b ∷ w) rest (or_first (begins_name b) (is_digit b) h.0, h.1) j

name_begins : (w rest : List ℕ) → IsName w → begins_name (byte (w ++ rest) 0) ≡ true
name_begins [] rest h = absurd h
name_begins (b ∷ w) rest h = h.0

quoted : (place : ℕ) (w rest : List ℕ) (act : Act) → IsName w → NotBefore is_name_byte rest → opened_behind place rest ≡ act → first_in_quotes place (36 ∷ w ++ rest) ≡ Token s.Variable (length (36 ∷ w)) act
unfolding first_in_quotes quoted_variable
quoted place w rest act h j e =
    if_true (begins_name (byte (w ++ rest) 0)) _ _ (name_begins w rest h)
    ∙ ap (λ n. Token s.Variable n (opened_behind place (drop n (36 ∷ w ++ rest)))) (more _ _ (name_len w rest h j))
    ∙ ap (λ v. Token s.Variable (length (36 ∷ w)) (opened_behind place v)) (drop_front (36 ∷ w) rest)
    ∙ ap (Token s.Variable (length (36 ∷ w))) e

arrow_first : (rest : List ℕ) → arrow_name rest ≡ true → (byte rest 0 == 45) ≡ true
arrow_first rest h = and_left (byte rest 0 == 45) _ h

arrow_ahead : (rest : List ℕ) → arrow_name rest ≡ true → NotBefore is_name_byte rest
arrow_ahead [] h = tt
arrow_ahead (b ∷ rest) h = arm (λ c. is_name_byte c ≡ false) b 45 (arrow_first (b ∷ rest) h) refl

no_part : (place b : ℕ) (xs : List ℕ) → stops stop.Part (b ∷ xs) ≡ false → first_in_quotes place (b ∷ xs) ≡ quoted_stretch (b ∷ xs)
unfolding first_in_quotes
no_part place b xs h =
    let rest = or_right (b == 34) _ h in
    let dollar = or_left (b == 36 && (begins_name (byte xs 0) || byte xs 0 == 123)) _ rest in
    let brace = or_left (b == 123 && byte xs 0 == 36) _ (or_right (b == 36 && (begins_name (byte xs 0) || byte xs 0 == 123)) _ rest) in
    if_false (b == 34) _ _ (or_left (b == 34) _ h)
    ∙ if_false (b == 36 && begins_name (byte xs 0)) _ _ (and_or_left (b == 36) (begins_name (byte xs 0)) (byte xs 0 == 123) dollar)
    ∙ if_false (b == 123 && byte xs 0 == 36) _ _ brace

stretched : (b : ℕ) (w rest : List ℕ) → Stretch stop.Part (b ∷ w) rest → quoted_stretch (b ∷ w ++ rest) ≡ Token s.Stretch (length (b ∷ w)) Stay
unfolding quoted_stretch
stretched b w rest r =
    ap (λ n. if n == 0 then Fault else Token s.Stretch n Stay) (reach_exact stop.Part (b ∷ w) rest r)
    ∙ if_false (length (b ∷ w) == 0) _ _ (grind (arith, nat_tests))

closing_first : (place : ℕ) (rest : List ℕ) → first_in_quotes place (34 ∷ rest) ≡ Token s.Closing 1 Leave
unfolding first_in_quotes
closing_first place rest = refl

brace_first : (place : ℕ) (rest : List ℕ) → first_in_quotes place (123 ∷ 36 ∷ rest) ≡ Token s.BraceOpen 1 (Enter Brace)
unfolding first_in_quotes
brace_first place rest = refl

pub complete_quotes : (place : ℕ) (what : Option TokenKind) (act : Act) (w rest : List ℕ) → InQuotes place what act w rest → told (w ++ rest) (first_in_quotes place (w ++ rest)) ≡ Some (what, length w, act)
complete_quotes place what act w rest g.closing = told_token w rest _ s.Closing _ Leave (closing_first place rest) refl
complete_quotes place what act w rest (g.value {w = v} h j i a) = told_token w rest _ s.Variable _ Stay (quoted place v rest Stay h j (if_false (byte rest 0 == 91) _ _ (first_of_rest (λ b. b == 91) rest refl i) ∙ if_false (arrow_name rest) _ _ a)) (ap k.Variable (inside_front (36 ∷ []) v))
complete_quotes place what act w rest (g.indexed {w = v} {rest = r} h) = told_token w (91 ∷ r) _ s.Variable _ (Enter (Index place)) (quoted place v (91 ∷ r) (Enter (Index place)) h refl refl) (ap k.Variable (inside_front (36 ∷ []) v))
complete_quotes place what act w rest (g.owner {w = v} h a) = told_token w rest _ s.Variable _ (Enter (Property place)) (quoted place v rest (Enter (Property place)) h (arrow_ahead rest a) (if_false (byte rest 0 == 91) _ _ (other_byte (λ d. d == 45) (byte rest 0) 91 refl (arrow_first rest a)) ∙ if_true (arrow_name rest) _ _ a)) (ap k.Variable (inside_front (36 ∷ []) v))
complete_quotes place what act w rest (g.braced {rest = r}) = told_token w (36 ∷ r) _ s.BraceOpen _ (Enter Brace) (brace_first place r) refl
complete_quotes place what act w rest (g.stretch {b = b} {w = v} {text = text} r t) = told_token w rest _ s.Stretch _ Stay (no_part place b (v ++ rest) (not_stopped r) ∙ stretched b v rest r) (ap k.Stretch (sym (spells_once q.Double (b ∷ v) text t)))

-- An index
key_name : (w rest : List ℕ) → IsName w → prefix_len is_name_byte (w ++ 93 ∷ rest) ≡ length w
key_name w rest h = name_len w (93 ∷ rest) h refl

digit_is_no_name : (b : ℕ) → is_digit b ≡ true → begins_name b ≡ false
digit_is_no_name b h = grind (arith, nat_tests)

keys : (w rest : List ℕ) → IsKey w → key_len (w ++ 93 ∷ rest) ≡ length w
unfolding key_len
keys w rest (g.named {w = v} h) = if_true (begins_name (byte (v ++ 93 ∷ rest) 0)) _ _ (name_begins v (93 ∷ rest) h) ∙ key_name v rest h
keys w rest (g.numbered {d = d} {ds = ds} h) = if_false (begins_name d) _ _ (digit_is_no_name d h.0) ∙ if_true (is_digit d) _ _ h.0 ∙ run_exact is_digit (d ∷ ds) (93 ∷ rest) h refl
keys w rest (g.negative {d = d} {ds = ds} h) = if_true (is_digit d) _ _ h.0 ∙ more _ _ (run_exact is_digit (d ∷ ds) (93 ∷ rest) h refl)

key_variable : (w rest : List ℕ) → IsName w → key_len (36 ∷ w ++ 93 ∷ rest) ≡ length (36 ∷ w)
unfolding key_len
key_variable w rest h = if_true (begins_name (byte (w ++ 93 ∷ rest) 0)) _ _ (name_begins w (93 ∷ rest) h) ∙ more _ _ (key_name w rest h)

key_some : (w : List ℕ) → IsKey w → (length w == 0) ≡ false
key_some w (g.named {w = []} h) = absurd h
key_some w (g.named {w = b ∷ bs} h) = grind (arith, nat_tests)
key_some w (g.numbered h) = grind (arith, nat_tests)
key_some w (g.negative h) = grind (arith, nat_tests)

key_plain : (w rest : List ℕ) → IsKey w → (byte (w ++ rest) 0 == 36) ≡ false
key_plain w rest (g.named {w = []} h) = absurd h
key_plain w rest (g.named {w = b ∷ bs} h) = other_byte begins_name b 36 refl h.0
key_plain w rest (g.numbered {d = d} h) = other_byte is_digit d 36 refl h.0
key_plain w rest (g.negative h) = refl

two : (body : List ℕ) (a : ℕ) → 2 + length body ≡ suc (length (body ++ a ∷ []))
two body a = omega (arith, length-append body (a ∷ []))

indexes : (key rest : List ℕ) → key_len (key ++ 93 ∷ rest) ≡ length key → (length key == 0) ≡ false → first_index (91 ∷ (key ++ (93 ∷ [])) ++ rest) ≡ Token s.Index (length (91 ∷ key ++ (93 ∷ []))) Leave
unfolding first_index
indexes key rest e z =
    ap (λ u. let n = key_len u in if n == 0 then Fault else (if byte (91 ∷ u) (1 + n) == 93 then Token s.Index (2 + n) Leave else Fault)) (append_assoc key (93 ∷ []) rest)
    ∙ ap (λ n. if n == 0 then Fault else (if byte (91 ∷ key ++ 93 ∷ rest) (1 + n) == 93 then Token s.Index (2 + n) Leave else Fault)) e
    ∙ if_false (length key == 0) _ _ z
    ∙ if_true (byte (91 ∷ key ++ 93 ∷ rest) (1 + length key) == 93) _ _ (ap (λ b. b == 93) (ap (byte (91 ∷ key ++ 93 ∷ rest)) (omega arith) ∙ byte_behind (91 ∷ key) (93 ∷ rest) 0))
    ∙ ap (λ n. Token s.Index n Leave) (two key 93)

pub complete_index : (what : Option TokenKind) (act : Act) (w rest : List ℕ) → InIndex what act w rest → told (w ++ rest) (first_index (w ++ rest)) ≡ Some (what, length w, act)
complete_index what act w rest (g.index {key = key} h) = told_token w rest _ s.Index _ Leave (indexes key rest (keys key rest h) (key_some key h)) (if_false (byte (key ++ (93 ∷ [])) 0 == 36) _ _ (key_plain key (93 ∷ []) h) ∙ ap k.IndexText (inside_both (91 ∷ []) key (93 ∷ [])))
complete_index what act w rest (g.index_variable {w = v} h) = told_token w rest _ s.Index _ Leave (indexes (36 ∷ v) rest (key_variable v rest h) (grind (arith, nat_tests))) (ap k.IndexVariable (inside_both (91 ∷ 36 ∷ []) v (93 ∷ [])))

-- A property
properties : (w rest : List ℕ) → IsName w → NotBefore is_name_byte rest → first_property (45 ∷ 62 ∷ w ++ rest) ≡ Token s.Property (length (45 ∷ 62 ∷ w)) Leave
unfolding first_property
properties w rest h j =
    if_true (begins_name (byte (w ++ rest) 0)) _ _ (name_begins w rest h) ∙ ap (λ n. Token s.Property n Leave) (let e = name_len w rest h j in omega arith)

pub complete_property : (what : Option TokenKind) (act : Act) (w rest : List ℕ) → InProperty what act w rest → told (w ++ rest) (first_property (w ++ rest)) ≡ Some (what, length w, act)
complete_property what act w rest (g.property {w = v} h j) = told_token w rest _ s.Property _ Leave (properties v rest h j) (ap k.Property (inside_front (45 ∷ 62 ∷ []) v))

-- what stands at the front is what the function finds
pub complete : (top : Option Open) (at : ℕ) (what : Option TokenKind) (act : Act) (w rest : List ℕ) → Stands top at what act w rest → told (w ++ rest) (first top at (w ++ rest)) ≡ Some (what, length w, act)
complete None at what act w rest h = complete_code at what act w rest h
complete (Some Brace) at what act w rest h = complete_code at what act w rest h
complete (Some Outside) at what act w rest h = complete_around what act w rest h
complete (Some (Quote place)) at what act w rest h = complete_quotes place what act w rest h
complete (Some (Index place)) at what act w rest h = complete_index what act w rest h
complete (Some (Property place)) at what act w rest h = complete_property what act w rest h
