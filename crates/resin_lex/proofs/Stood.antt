-- What the function finds stands at the front of the text.
use Rattle.std.proofs.Common.{◌≡◌, ℕ, suc, ◌+◌, true, false, List, [], ◌∷◌, ◌++◌, take, drop, length, Option, Some, None, refl, sym, ◌∙◌, ap, subst, arith, ◌⊎◌, inl, inr}
use Rattle.std.specs.Prelude.{◌==◌, ◌&&◌, ◌||◌, if◌then◌else◌}
use Rattle.std.specs.List.{prefix_len}
use Rattle.std.proofs.lemmas.Bool.{eqb-true}
use Rattle.std.proofs.lemmas.Bool.Decides.{nat_tests}
use Rattle.resin_scan.specs.Bytes.{byte, is_blank, is_digit, begins_name, is_name_byte, lower}
use Rattle.resin_scan.specs.Lists.{Every, NotBefore}
use Rattle.resin_scan.specs.Words.{IsName}
use Rattle.resin_scan.specs.Stretches.{reach, stops, escapes, Stretch, is_echo_tag, is_php_tag, blank_len}
use Rattle.resin_scan.specs.Escapes.{worked}
use Rattle.resin_scan.specs.declared.escapes.Quoting.TheVariants as q
use Rattle.resin_scan.specs.declared.stretches.Stop.{Stop}
use Rattle.resin_scan.specs.declared.stretches.Stop.TheVariants as stop
use Rattle.resin_scan.specs.declared.keywords.Keyword.TheVariants as keyword
use Rattle.resin_scan.proofs.Runs.{if_true, if_false, choose, one_taken, one_dropped, every_run, ends_run, stretch_reach}
use Rattle.resin_scan.proofs.Scans.{reach_goes}
use Rattle.resin_scan.proofs.Choices.{or_no, or_one, and_left, and_right, other_byte, arm, behind, byte_at, closed, begun}
use Rattle.resin_scan.proofs.Spelled.{spells_worked}
use Rattle.resin_lex.specs.declared.modes.Open.{Open}
use Rattle.resin_lex.specs.declared.modes.Open.TheVariants.{Outside, Brace, Quote, Index, Property}
use Rattle.resin_lex.specs.declared.modes.Act.TheVariants.{Stay, Enter, Leave}
use Rattle.resin_lex.specs.declared.modes.Step.TheVariants.{Token, Fault}
use Rattle.resin_lex.specs.declared.modes.Shape.TheVariants as s
use Rattle.resin_lex.specs.declared.token.TokenKind.TheVariants as k
use Rattle.resin_lex.specs.Kinds.{kind_of, inside}
use Rattle.resin_lex.specs.Grammar.{Newline, crlf, cr, lf, no_newline, InCode, TagBlank, Around, InQuotes, InIndex, InProperty, IsKey, Stands, arrow_name}
use Rattle.resin_lex.specs.Grammar as g
use Rattle.resin_lex.specs.First.{first, first_in_quotes, quoted_variable, quoted_stretch, opened_behind, first_index, first_property, first_outside, key_len}
use Rattle.resin_lex.proofs.Told.{inside_both, inside_front}
use Rattle.resin_lex.proofs.MarksSound.{Sound}
use Rattle.resin_lex.proofs.CodeSound.{sound_code, name_taken, name_there, one_more, between}

stretch_taken : (S : List ℕ → List ℕ → Type 0) (st : Stop) (b : ℕ) (bs : List ℕ) → stops st (b ∷ bs) ≡ false → ((w rest : List ℕ) → Stretch st (b ∷ w) rest → S (b ∷ w) rest) → S (take (reach st false (b ∷ bs)) (b ∷ bs)) (drop (reach st false (b ∷ bs)) (b ∷ bs))
stretch_taken S st b bs h f =
    let n = reach st (escapes st b) bs in
    let e : reach st false (b ∷ bs) ≡ suc n = reach_goes st b bs h in
    let r : Stretch st (take (suc n) (b ∷ bs)) (drop (suc n) (b ∷ bs)) = subst (λ i. Stretch st (take i (b ∷ bs)) (drop i (b ∷ bs))) e (stretch_reach st (b ∷ bs)) in
    subst (λ i. S (take i (b ∷ bs)) (drop i (b ∷ bs))) (sym e) (f (take n bs) (drop n bs) r)

-- Outside code
echo_at : (bs : List ℕ) → (byte bs 0 == 63 && byte bs 1 == 61) ≡ true → Around (Some (k.Keyword keyword.Echo)) Leave (60 ∷ take 2 bs) (drop 2 bs)
echo_at [] h = absurd (cc)
echo_at (a ∷ []) h = absurd (let q = and_right (a == 63) false h in cc)
echo_at (a ∷ b ∷ bs) h = arm (λ c. Around (Some (k.Keyword keyword.Echo)) Leave (60 ∷ c ∷ b ∷ []) bs) a 63 (and_left (a == 63) (b == 61) h) (arm (λ c. Around (Some (k.Keyword keyword.Echo)) Leave (60 ∷ 63 ∷ c ∷ []) bs) b 61 (and_right (a == 63) (b == 61) h) g.echo_tag)

return_tag : (bs : List ℕ) → TagBlank (take (blank_len (13 ∷ bs)) (13 ∷ bs)) (drop (blank_len (13 ∷ bs)) (13 ∷ bs))
return_tag [] = g.cr_tag tt
return_tag (b ∷ bs) =
    choose (λ n. TagBlank (take n (13 ∷ b ∷ bs)) (drop n (13 ∷ b ∷ bs))) (b == 10)
    (λ h. arm (λ c. TagBlank (13 ∷ c ∷ []) bs) b 10 h g.crlf_tag)
    (λ h. g.cr_tag h)

tag_blank : (r : List ℕ) → (is_blank (byte r 0) || 5 + length r == 5) ≡ true → TagBlank (take (blank_len r) r) (drop (blank_len r) r)
tag_blank [] h = g.end_tag
tag_blank (b ∷ bs) h =
    let P : ℕ → Type 0 = λ n. TagBlank (take n (b ∷ bs)) (drop n (b ∷ bs)) in
    let i : is_blank b ≡ true = or_one (is_blank b) (5 + length (b ∷ bs) == 5) h (grind (arith, nat_tests)) in
    choose P (b == 13) (λ j. arm (λ c. TagBlank (take (blank_len (13 ∷ bs)) (c ∷ bs)) (drop (blank_len (13 ∷ bs)) (c ∷ bs))) b 13 j (return_tag bs))
    (λ j. choose P (is_blank b) (λ _. g.blank_tag j i) (λ l. absurd (cc)))

-- the bytes of an opening tag, in any case
module _ (a b p h q : ℕ) (r : List ℕ) (t : is_php_tag (a ∷ b ∷ p ∷ h ∷ q ∷ r) ≡ true) where
  php_at : Around None Leave (take (5 + blank_len r) (a ∷ b ∷ p ∷ h ∷ q ∷ r)) (drop (5 + blank_len r) (a ∷ b ∷ p ∷ h ∷ q ∷ r))
  php_at =
      let t1 = and_right (a == 60) _ t in
      let t2 = and_right (b == 63) _ t1 in
      let t3 = and_right (lower p == 112) _ t2 in
      let t4 = and_right (lower h == 104) _ t3 in
      let t5 = and_right (lower q == 112) _ t4 in
      let n = blank_len r in
      let e : 5 + n ≡ suc (suc (suc (suc (suc n)))) = omega arith in
      let l : (is_blank (byte r 0) || 5 + length r == 5) ≡ true = subst (λ m. (is_blank (byte r 0) || m == 5) ≡ true) (sym (let f : 5 + length r ≡ suc (suc (suc (suc (suc (length r))))) = omega arith in f)) t5 in
      subst (λ i. Around None Leave (take i (a ∷ b ∷ p ∷ h ∷ q ∷ r)) (drop i (a ∷ b ∷ p ∷ h ∷ q ∷ r))) (sym e)
      (arm (λ c. Around None Leave (c ∷ b ∷ p ∷ h ∷ q ∷ take n r) (drop n r)) a 60 (and_left (a == 60) _ t)
      (arm (λ c. Around None Leave (60 ∷ c ∷ p ∷ h ∷ q ∷ take n r) (drop n r)) b 63 (and_left (b == 63) _ t1)
      (g.php_tag (eqb-true (lower p) 112 (and_left (lower p == 112) _ t2)) (eqb-true (lower h) 104 (and_left (lower h == 104) _ t3)) (eqb-true (lower q) 112 (and_left (lower q == 112) _ t4)) (tag_blank r l))))

short : (xs : List ℕ) → is_php_tag xs ≡ true → (byte xs 4 == 0) ≡ false
short xs t =
    let t1 = and_right (byte xs 0 == 60) _ t in
    let t2 = and_right (byte xs 1 == 63) _ t1 in
    let t3 = and_right (lower (byte xs 2) == 112) _ t2 in
    let t4 = and_right (lower (byte xs 3) == 104) _ t3 in
    other_byte (λ c. lower c == 112) (byte xs 4) 0 refl (and_left (lower (byte xs 4) == 112) _ t4)

php_taken : (xs : List ℕ) → is_php_tag xs ≡ true → Around None Leave (take (5 + blank_len (drop 5 xs)) xs) (drop (5 + blank_len (drop 5 xs)) xs)
php_taken [] t = absurd (let q = short [] t in cc)
php_taken (a ∷ []) t = absurd (let q = short (a ∷ []) t in cc)
php_taken (a ∷ b ∷ []) t = absurd (let q = short (a ∷ b ∷ []) t in cc)
php_taken (a ∷ b ∷ p ∷ []) t = absurd (let q = short (a ∷ b ∷ p ∷ []) t in cc)
php_taken (a ∷ b ∷ p ∷ h ∷ []) t = absurd (let q = short (a ∷ b ∷ p ∷ h ∷ []) t in cc)
php_taken (a ∷ b ∷ p ∷ h ∷ q ∷ r) t = php_at a b p h q r t

sound_around : (b : ℕ) (bs : List ℕ) → Sound Around (b ∷ bs) (first_outside (b ∷ bs))
unfolding first_outside
sound_around b bs =
    let P = Sound Around (b ∷ bs) in
    choose P (is_echo_tag (b ∷ bs)) (λ h. arm (λ c. Around (Some (k.Keyword keyword.Echo)) Leave (c ∷ take 2 bs) (drop 2 bs)) b 60 (and_left (b == 60) _ h) (echo_at bs (and_right (b == 60) _ h)))
    (λ h. choose P (is_php_tag (b ∷ bs)) (λ j. php_taken (b ∷ bs) j)
    (λ j. stretch_taken (λ w rest. Around (Some (k.Inline w)) Stay w rest) stop.Tag b bs (or_no (is_echo_tag (b ∷ bs)) (is_php_tag (b ∷ bs)) h j) (λ w rest r. g.inline r)))

-- In quotes
indexed_at : (place : ℕ) (w rest : List ℕ) → IsName w → (byte rest 0 == 91) ≡ true → InQuotes place (Some (k.Variable w)) (Enter (Index place)) (36 ∷ w) rest
indexed_at place w rest n h = begun (λ v. InQuotes place (Some (k.Variable w)) (Enter (Index place)) (36 ∷ w) v) rest 91 refl h (g.indexed n)

variable_at : (place : ℕ) (w rest : List ℕ) → IsName w → NotBefore is_name_byte rest → InQuotes place (Some (k.Variable w)) (opened_behind place rest) (36 ∷ w) rest
variable_at place w rest n e =
    choose (λ act. InQuotes place (Some (k.Variable w)) act (36 ∷ w) rest) (byte rest 0 == 91) (λ h. indexed_at place w rest n h)
    (λ h. choose (λ act. InQuotes place (Some (k.Variable w)) act (36 ∷ w) rest) (arrow_name rest) (λ j. g.owner n j) (λ j. g.value n e (behind (λ b. b == 91) rest 0 h) j))

quoted_at : (place : ℕ) (bs : List ℕ) → begins_name (byte bs 0) ≡ true → Sound (InQuotes place) (36 ∷ bs) (quoted_variable place (36 ∷ bs))
unfolding quoted_variable
quoted_at place bs h =
    let n = prefix_len is_name_byte bs in
    let e : drop (1 + n) (36 ∷ bs) ≡ drop n bs = one_dropped n 36 bs in
    one_more (InQuotes place) (λ w. Some (k.Variable (inside 1 0 w))) (opened_behind place (drop (1 + n) (36 ∷ bs))) 36 bs n
    (subst (λ v. InQuotes place (Some (k.Variable v)) (opened_behind place (drop (1 + n) (36 ∷ bs))) (36 ∷ take n bs) (drop n bs)) (sym (inside_front (36 ∷ []) (take n bs)))
    (subst (λ v. InQuotes place (Some (k.Variable (take n bs))) (opened_behind place v) (36 ∷ take n bs) (drop n bs)) (sym e) (variable_at place (take n bs) (drop n bs) (name_there bs h) (ends_run is_name_byte bs))))

brace_at : (place : ℕ) (bs : List ℕ) → (byte bs 0 == 36) ≡ true → Sound (InQuotes place) (123 ∷ bs) (Token s.BraceOpen 1 (Enter Brace))
brace_at place bs h = begun (λ v. Sound (InQuotes place) (123 ∷ v) (Token s.BraceOpen 1 (Enter Brace))) bs 36 refl h g.braced

not_reached : (st : Stop) (xs : List ℕ) → (reach st false xs == 0) ≡ false → stops st xs ≡ false
not_reached st [] h = absurd (cc)
not_reached st (b ∷ bs) h = elim (stops st (b ∷ bs)) as (λ v. ((if v then 0 else suc (reach st (escapes st b) bs)) == 0) ≡ false → v ≡ false) [ true ↦ λ i. absurd (cc) | false ↦ λ i. refl ] h

sound_stretch : (place b : ℕ) (bs : List ℕ) → Sound (InQuotes place) (b ∷ bs) (quoted_stretch (b ∷ bs))
unfolding quoted_stretch
sound_stretch place b bs =
    choose (Sound (InQuotes place) (b ∷ bs)) (reach stop.Part false (b ∷ bs) == 0) (λ h. tt)
    (λ h. stretch_taken (λ w rest. InQuotes place (Some (k.Stretch (worked q.Double w))) Stay w rest) stop.Part b bs (not_reached stop.Part (b ∷ bs) h) (λ w rest r. g.stretch r (spells_worked q.Double (b ∷ w))))

sound_quotes : (place b : ℕ) (bs : List ℕ) → Sound (InQuotes place) (b ∷ bs) (first_in_quotes place (b ∷ bs))
unfolding first_in_quotes
sound_quotes place b bs =
    let P = Sound (InQuotes place) (b ∷ bs) in
    choose P (b == 34) (λ h. arm (λ c. Sound (InQuotes place) (c ∷ bs) (Token s.Closing 1 Leave)) b 34 h g.closing)
    (λ _. choose P (b == 36 && begins_name (byte bs 0))
    (λ h. arm (λ c. Sound (InQuotes place) (c ∷ bs) (quoted_variable place (c ∷ bs))) b 36 (and_left (b == 36) (begins_name (byte bs 0)) h) (quoted_at place bs (and_right (b == 36) (begins_name (byte bs 0)) h)))
    (λ _. choose P (b == 123 && byte bs 0 == 36)
    (λ h. arm (λ c. Sound (InQuotes place) (c ∷ bs) (Token s.BraceOpen 1 (Enter Brace))) b 123 (and_left (b == 123) (byte bs 0 == 36) h) (brace_at place bs (and_right (b == 123) (byte bs 0 == 36) h)))
    (λ _. sound_stretch place b bs)))

-- An index
digits_taken : (P : List ℕ → Type 0) (b : ℕ) (bs : List ℕ) → is_digit b ≡ true → ((ds : List ℕ) → Every is_digit (b ∷ ds) → P (b ∷ ds)) → P (take (prefix_len is_digit (b ∷ bs)) (b ∷ bs))
digits_taken P b bs h f =
    let e : prefix_len is_digit (b ∷ bs) ≡ 1 + prefix_len is_digit bs = if_true (is_digit b) _ _ h in
    subst (λ n. P (take n (b ∷ bs))) (sym e) (subst P (sym (one_taken (prefix_len is_digit bs) b bs)) (f (take (prefix_len is_digit bs) bs) (h, every_run is_digit bs)))

minus_key : (bs : List ℕ) → is_digit (byte bs 0) ≡ true → IsKey (take (1 + prefix_len is_digit bs) (45 ∷ bs))
minus_key [] h = absurd (cc)
minus_key (d ∷ ds) h = subst IsKey (sym (one_taken (prefix_len is_digit (d ∷ ds)) 45 (d ∷ ds))) (digits_taken (λ w. IsKey (45 ∷ w)) d ds h (λ es e. g.negative e))

-- a key that was found, or a variable in its place
abbrev pub IndexKey : List ℕ → Type 0
IndexKey w = IsKey w ⊎ ((v : List ℕ) × ((w ≡ 36 ∷ v) × IsName v))

key_taken : (xs : List ℕ) → (key_len xs == 0) ≡ false → IndexKey (take (key_len xs) xs)
unfolding key_len
key_taken [] h = absurd (cc)
key_taken (b ∷ bs) nonzero =
    let P : ℕ → Type 0 = λ n. (n == 0) ≡ false → IndexKey (take n (b ∷ bs)) in
    choose P (begins_name b) (λ h _. inl (g.named (name_taken b bs h)))
    (λ _. choose P (is_digit b) (λ h _. inl (digits_taken IsKey b bs h (λ ds e. g.numbered e)))
    (λ _. choose P (b == 45 && is_digit (byte bs 0)) (λ h _. inl (arm (λ c. IsKey (take (1 + prefix_len is_digit bs) (c ∷ bs))) b 45 (and_left (b == 45) (is_digit (byte bs 0)) h) (minus_key bs (and_right (b == 45) (is_digit (byte bs 0)) h))))
    (λ _. choose P (b == 36 && begins_name (byte bs 0)) (λ h _. arm (λ c. IndexKey (take (1 + prefix_len is_name_byte bs) (c ∷ bs))) b 36 (and_left (b == 36) (begins_name (byte bs 0)) h) (inr (take (prefix_len is_name_byte bs) bs, (one_taken (prefix_len is_name_byte bs) 36 bs, name_there bs (and_right (b == 36) (begins_name (byte bs 0)) h)))))
    (λ _ h. absurd (cc))))) nonzero

key_plain : (w rest : List ℕ) → IsKey w → (byte (w ++ rest) 0 == 36) ≡ false
key_plain w rest (g.named {w = []} h) = absurd h
key_plain w rest (g.named {w = b ∷ bs} h) = other_byte begins_name b 36 refl h.0
key_plain w rest (g.numbered {d = d} h) = other_byte is_digit d 36 refl h.0
key_plain w rest (g.negative h) = refl

index_kind : (key rest : List ℕ) → IndexKey key → InIndex (Some (kind_of s.Index (91 ∷ key ++ (93 ∷ [])))) Leave (91 ∷ key ++ (93 ∷ [])) rest
index_kind key rest (inl h) = subst (λ kind. InIndex (Some kind) Leave (91 ∷ key ++ (93 ∷ [])) rest) (sym (if_false (byte (key ++ (93 ∷ [])) 0 == 36) _ _ (key_plain key (93 ∷ []) h) ∙ ap k.IndexText (inside_both (91 ∷ []) key (93 ∷ [])))) (g.index h)
index_kind key rest (inr p) =
    subst (λ w. InIndex (Some (kind_of s.Index (91 ∷ w ++ (93 ∷ [])))) Leave (91 ∷ w ++ (93 ∷ [])) rest) (sym p.1.0)
    (subst (λ kind. InIndex (Some kind) Leave (91 ∷ 36 ∷ p.0 ++ (93 ∷ [])) rest) (sym (ap k.IndexVariable (inside_both (91 ∷ 36 ∷ []) p.0 (93 ∷ [])))) (g.index_variable p.1.1))

index_at : (bs : List ℕ) → Sound InIndex (91 ∷ bs) (let n = key_len bs in if n == 0 then Fault else (if byte (91 ∷ bs) (1 + n) == 93 then Token s.Index (2 + n) Leave else Fault))
index_at bs =
    let n = key_len bs in
    choose (Sound InIndex (91 ∷ bs)) (n == 0) (λ h. tt)
    (λ h. choose (Sound InIndex (91 ∷ bs)) (byte (91 ∷ bs) (1 + n) == 93)
    (λ j. let c = closed bs n 93 refl (sym (ap (λ v. v == 93) (byte_at 91 bs n)) ∙ j) in between InIndex (λ w. Some (kind_of s.Index w)) Leave 91 93 bs n c (index_kind (take n bs) (drop (suc n) bs) (key_taken bs h)))
    (λ j. tt))

sound_index : (b : ℕ) (bs : List ℕ) → Sound InIndex (b ∷ bs) (first_index (b ∷ bs))
unfolding first_index
sound_index b bs = choose (Sound InIndex (b ∷ bs)) (b == 91) (λ h. arm (λ c. Sound InIndex (c ∷ bs) (let n = key_len bs in if n == 0 then Fault else (if byte (c ∷ bs) (1 + n) == 93 then Token s.Index (2 + n) Leave else Fault))) b 91 h (index_at bs)) (λ h. tt)

-- A property
property_at : (bs : List ℕ) → begins_name (byte bs 0) ≡ true → Sound InProperty (45 ∷ 62 ∷ bs) (Token s.Property (2 + prefix_len is_name_byte bs) Leave)
property_at bs h =
    let n = prefix_len is_name_byte bs in
    let e : 2 + n ≡ suc (suc n) = omega arith in
    subst (λ i. InProperty (Some (k.Property (inside 2 0 (take i (45 ∷ 62 ∷ bs))))) Leave (take i (45 ∷ 62 ∷ bs)) (drop i (45 ∷ 62 ∷ bs))) (sym e)
    (subst (λ v. InProperty (Some (k.Property v)) Leave (45 ∷ 62 ∷ take n bs) (drop n bs)) (sym (inside_front (45 ∷ 62 ∷ []) (take n bs))) (g.property (name_there bs h) (ends_run is_name_byte bs)))

arrow_at : (bs : List ℕ) → (byte bs 0 == 62 && begins_name (byte bs 1)) ≡ true → Sound InProperty (45 ∷ bs) (Token s.Property (2 + prefix_len is_name_byte (drop 1 bs)) Leave)
arrow_at bs h = begun (λ v. begins_name (byte v 1) ≡ true → Sound InProperty (45 ∷ v) (Token s.Property (2 + prefix_len is_name_byte (drop 1 v)) Leave)) bs 62 refl (and_left (byte bs 0 == 62) _ h) (λ j. property_at (drop 1 bs) j) (and_right (byte bs 0 == 62) _ h)

sound_property : (b : ℕ) (bs : List ℕ) → Sound InProperty (b ∷ bs) (first_property (b ∷ bs))
unfolding first_property
sound_property b bs =
    choose (Sound InProperty (b ∷ bs)) (b == 45 && (byte bs 0 == 62 && begins_name (byte bs 1)))
    (λ h. arm (λ c. Sound InProperty (c ∷ bs) (Token s.Property (2 + prefix_len is_name_byte (drop 1 bs)) Leave)) b 45 (and_left (b == 45) _ h) (arrow_at bs (and_right (b == 45) _ h)))
    (λ h. tt)

-- what the function finds stands there
pub sound : (top : Option Open) (at b : ℕ) (bs : List ℕ) → Sound (Stands top at) (b ∷ bs) (first top at (b ∷ bs))
sound None at b bs = sound_code at (b ∷ bs)
sound (Some Brace) at b bs = sound_code at (b ∷ bs)
sound (Some Outside) at b bs = sound_around b bs
sound (Some (Quote place)) at b bs = sound_quotes place b bs
sound (Some (Index place)) at b bs = sound_index b bs
sound (Some (Property place)) at b bs = sound_property b bs
