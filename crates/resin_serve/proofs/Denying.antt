-- A denial puts one line into the log.
use Rattle.std.proofs.Common.{◌≡◌, ℕ, zero, suc, ◌+◌, ◌<◌, ◌==◌, ◌||◌, Bool, true, false, cond, List, [], ◌∷◌, ◌++◌, length, Option, Some, None, refl, sym, ap, ◌∙◌, arith, append_assoc, length-append, subst}
use Rattle.std.specs.Prelude.{◌/◌, ◌%◌, nat_lt, filter, codes, decimal}
use Rattle.std.specs.Fmt.{digits, digits_onto, digit_glyph}
use Rattle.std.proofs.Math.Nat.{mod-lt}
use Rattle.std.proofs.lemmas.Bool.Decides.{nat_tests}
use Rattle.std.proofs.lemmas.List.Elements.{filter-append}
use Rattle.std.specs.FinMap.{empty}
use Rattle.resin_audit.specs.Under.scan.Bytes.{is_name_byte, is_digit}
use Rattle.resin_audit.specs.Under.scan.Lists.{Every}
use Rattle.resin_audit.specs.Under.scan.Words.{IsName}
use Rattle.resin_site.specs.declared.outcome.End.{End}
use Rattle.resin_site.specs.Keeping.{state}
use Rattle.resin_site.specs.Laws.{ObeysIn}
use Rattle.resin_site.specs.Replies as site
use Rattle.resin_site.specs.Under.journal.declared.channel.Channel.{Channel}
use Rattle.resin_site.specs.Under.journal.declared.channel.Channel.TheVariants.{Http, Header, Email, File, Sql, Code, Input, Func}
use Rattle.resin_site.specs.Under.journal.declared.event.Event.TheVariants.{Passed, Sent, Denied, FilterDenied}
use Rattle.resin_site.specs.Under.journal.Access.{ClassesAreNames}
use Rattle.resin_site.specs.Under.journal.Channels.{channel_name}
use Rattle.resin_site.specs.Under.journal.Events.{EventList}
use Rattle.resin_site.specs.Under.journal.Lines.{write_part, object_part, range_part, log_of}
use Rattle.resin_bench_site.specs.Site.{site_files, with_files}
use Rattle.resin_serve.specs.declared.logging.Logging.TheVariants.{Denials}
use Rattle.resin_serve.specs.Asked.{meaning}
use Rattle.resin_serve.specs.Denials.{denials_in, denials_of, IsLine, EachIsALine, LogTellsDenials, SampleTellsDenials}
use Rattle.resin_serve.specs.Meaning.{tagged, reply, order, bytes_of}
use Rattle.resin_serve.specs.Ran.{part}
use Rattle.resin_serve.specs.Recorded.{journals_of}
use Rattle.resin_serve.specs.Samples.{held, lines_in}
use Rattle.resin_serve.specs.Words.{usual_fuel}
use Rattle.resin_serve.proofs.Giving.{part_log}
use Rattle.resin_serve.proofs.Runs.{part_append}

lines_append : (xs ys : List ℕ) → lines_in (xs ++ ys) ≡ lines_in xs + lines_in ys
lines_append xs ys = ap length (filter-append (λ b. b == 10) xs ys) ∙ length-append (filter (λ b. b == 10) xs) (filter (λ b. b == 10) ys)

-- ---- texts without a newline
abbrev IsPlain : List ℕ → Type 0
IsPlain text = lines_in text ≡ 0

both : (xs ys : List ℕ) → IsPlain xs → IsPlain ys → IsPlain (xs ++ ys)
both xs ys h k = let all : lines_in (xs ++ ys) ≡ lines_in xs + lines_in ys = lines_append xs ys in omega (arith, all, h, k)

four : (a b c d : List ℕ) → IsPlain a → IsPlain b → IsPlain c → IsPlain d → IsPlain (a ++ b ++ c ++ d)
four a b c d ha hb hc hd = both (a ++ b ++ c) d (both (a ++ b) c (both a b ha hb) hc) hd

six : (a b c d e f : List ℕ) → IsPlain a → IsPlain b → IsPlain c → IsPlain d → IsPlain e → IsPlain f → IsPlain (a ++ b ++ c ++ d ++ e ++ f)
six a b c d e f ha hb hc hd he hf = both (a ++ b ++ c ++ d ++ e) f (both (a ++ b ++ c ++ d) e (four a b c d ha hb hc hd) he) hf

one_more : (b : ℕ) (text : List ℕ) → (b == 10) ≡ false → IsPlain text → IsPlain (b ∷ text)
one_more b text e h = ap (λ t. length (cond t (b ∷ filter (λ c. c == 10) text) (filter (λ c. c == 10) text))) e ∙ h

glyph_is : (d : ℕ) → nat_lt d 10 ≡ true → digit_glyph false d ≡ 48 + d
glyph_is d e = ap (λ t. cond t (48 + d) (87 + d)) e

glyph_plain : (d : ℕ) → d < 10 → (digit_glyph false d == 10) ≡ false
glyph_plain d l =
    let small : nat_lt d 10 ≡ true = grind (arith, nat_tests) in
    let is : digit_glyph false d ≡ 48 + d = glyph_is d small in
    let other : (48 + d == 10) ≡ false = grind (arith, nat_tests) in
    ap (λ g. g == 10) is ∙ other

digits_plain : (k n : ℕ) (text : List ℕ) → IsPlain text → IsPlain (digits_onto k 10 false n text)
digits_plain zero n text h = h
digits_plain (suc k) n text h =
    let glyph = digit_glyph false (n % 10) in
    let here : IsPlain (glyph ∷ text) = one_more glyph text (glyph_plain (n % 10) (mod-lt n (omega arith))) h in
    elim (n / 10 == 0) as (λ t. IsPlain (cond t (glyph ∷ text) (digits_onto k 10 false (n / 10) (glyph ∷ text)))) [
      | true ↦ here
      | false ↦ digits_plain k (n / 10) (glyph ∷ text) here
    ]

decimal_plain : (n : ℕ) → IsPlain (decimal n)
unfolding digits
decimal_plain n = digits_plain 64 n [] refl

true_false : true ≡ false → ⊥
true_false e = cc

name_byte : (b : ℕ) → is_name_byte b ≡ true → (b == 10) ≡ false
name_byte b h = other (b == 10) refl
  where
    other : (t : Bool) → (b == 10) ≡ t → (b == 10) ≡ false
    other true e = let is : b ≡ 10 = grind (arith, nat_tests) in absurd (true_false (sym h ∙ ap is_name_byte is))
    other false e = e

every_plain : (text : List ℕ) → Every is_name_byte text → IsPlain text
every_plain [] h = refl
every_plain (b ∷ text) h = one_more b text (name_byte b h.0) (every_plain text h.1)

name_plain : (text : List ℕ) → IsName text → IsPlain text
name_plain [] h = absurd h
name_plain (b ∷ text) h = one_more b text (name_byte b (ap (λ t. t || is_digit b) h.0)) (every_plain text h.1)

channel_plain : (channel : Channel) → IsPlain (channel_name channel)
channel_plain Http = refl
channel_plain Header = refl
channel_plain Email = refl
channel_plain File = refl
channel_plain Sql = refl
channel_plain Code = refl
channel_plain Input = refl
channel_plain Func = refl

-- ---- the line of a denial
write_plain : (number write : ℕ) (channel : Channel) → IsPlain (write_part number write channel)
write_plain number write channel =
    six (codes "deny request=") (decimal number) (codes " write=") (decimal write) (codes " channel=") (channel_name channel) refl (decimal_plain number)
    refl (decimal_plain write) refl (channel_plain channel)

object_plain : (kind class : List ℕ) (object : ℕ) → IsPlain kind → IsName class → IsPlain (object_part kind class object)
object_plain kind class object h name = four kind class (codes "#") (decimal object) h (name_plain class name) refl (decimal_plain object)

range_line : (from to : ℕ) (by : List ℕ) → IsName by → IsLine (range_part from to by)
range_line from to by name = record {
  words = codes " bytes=" ++ decimal from ++ codes "-" ++ decimal to ++ codes " by=" ++ by;
  is = refl;
  plain = six (codes " bytes=") (decimal from) (codes "-") (decimal to) (codes " by=") by refl (decimal_plain from) refl (decimal_plain to) refl (name_plain by name);
}

-- a line behind a text without a newline
behind : (xs ys : List ℕ) → IsPlain xs → IsLine ys → IsLine (xs ++ ys)
behind xs ys h line = record {
  words = xs ++ line.words;
  is = ap (λ l. xs ++ l) line.is ∙ sym (append_assoc xs line.words (10 ∷ []));
  plain = both xs line.words h line.plain;
}

denial_line : (number write : ℕ) (channel : Channel) (kind class : List ℕ) (object from to : ℕ) (by : List ℕ) → IsPlain kind → IsName class → IsName by
    → IsLine (write_part number write channel ++ object_part kind class object ++ range_part from to by)
denial_line number write channel kind class object from to by h name name_by =
    behind (write_part number write channel ++ object_part kind class object) (range_part from to by)
    (both (write_part number write channel) (object_part kind class object) (write_plain number write channel) (object_plain kind class object h name))
    (range_line from to by name_by)

policy_line : (number write : ℕ) (channel : Channel) (policy : ℕ) (class : List ℕ) (from to : ℕ) (by : List ℕ) → IsName class → IsName by
    → IsLine (write_part number write channel ++ object_part (codes " policy=") class policy ++ range_part from to by)
policy_line number write channel policy class from to by = denial_line number write channel (codes " policy=") class policy from to by refl

filter_line : (number write : ℕ) (channel : Channel) (filter : ℕ) (class : List ℕ) (len : ℕ) (by : List ℕ) → IsName class → IsName by
    → IsLine (write_part number write channel ++ object_part (codes " filter=") class filter ++ range_part 0 len by)
filter_line number write channel filter class len by = denial_line number write channel (codes " filter=") class filter 0 len by refl

pub each_is_a_line : EachIsALine
each_is_a_line number (Passed write policy) = (λ e. absurd (true_false (sym e)), λ e. refl)
each_is_a_line number (Sent write channel text) = (λ e. absurd (true_false (sym e)), λ e. refl)
each_is_a_line number (Denied write channel policy class from to by) =
    (λ e names. policy_line number write channel policy class from to by names.0 names.1, λ e. absurd (true_false e))
each_is_a_line number (FilterDenied write channel filter class len by) =
    (λ e names. filter_line number write channel filter class len by names.0 names.1, λ e. absurd (true_false e))

-- ---- the log of an answer, and of a run
one_line : (text more : List ℕ) (n : ℕ) → IsLine text → lines_in more ≡ n → lines_in (text ++ more) ≡ suc n
one_line text more n line h =
    let all : lines_in (text ++ more) ≡ lines_in text + lines_in more = lines_append text more in
    let here : lines_in text ≡ lines_in line.words + 1 = ap lines_in line.is ∙ lines_append line.words (10 ∷ []) in
    let plain : lines_in line.words ≡ 0 = line.plain in
    omega (arith, all, here, plain, h)

lines_tell : (number : ℕ) (j : EventList) → ClassesAreNames j → lines_in (log_of number j) ≡ denials_in j
lines_tell number [] h = refl
lines_tell number (Passed write policy ∷ j) h = lines_tell number j h.1
lines_tell number (Sent write channel text ∷ j) h = lines_tell number j h.1
lines_tell number (Denied write channel policy class from to by ∷ j) h =
    one_line (write_part number write channel ++ object_part (codes " policy=") class policy ++ range_part from to by) (log_of number j) (denials_in j)
    (policy_line number write channel policy class from to by h.0.0 h.0.1) (lines_tell number j h.1)
lines_tell number (FilterDenied write channel filter class len by ∷ j) h =
    one_line (write_part number write channel ++ object_part (codes " filter=") class filter ++ range_part 0 len by) (log_of number j) (denials_in j)
    (filter_line number write channel filter class len by h.0.0 h.0.1) (lines_tell number j h.1)

-- an answer that obeys the access law tells classes by names
names_in : (end : Option End) (number : ℕ) (r : site.Reply) → ObeysIn end number r → ClassesAreNames r.journal
names_in None number r h = subst ClassesAreNames (sym h.journal) tt
names_in (Some end) number r h = subst ClassesAreNames h.told.journal h.lawful.classes

together : (a b c d : ℕ) → a ≡ c → b ≡ d → a + b ≡ c + d
together a b c d e f = ap (λ n. n + b) e ∙ ap (λ n. c + n) f

pub log_tells_denials : LogTellsDenials
log_tells_denials fuel K s number [] h = refl
log_tells_denials fuel K s number (x ∷ xs) h =
    let r = reply (meaning Denials fuel) K s number x in
    let rest = part 0 (bytes_of (meaning Denials fuel) K r.after (number + 1) xs) in
    ap lines_in (part_append 0 (tagged r) (bytes_of (meaning Denials fuel) K r.after (number + 1) xs) ∙ ap (λ l. l ++ rest) (part_log r.log r.mail r.out))
    ∙ lines_append r.log rest
    ∙ together (lines_in r.log) (lines_in rest) (denials_in r.is.journal) (denials_of (journals_of (meaning Denials fuel) K r.after (number + 1) xs))
    (lines_tell number r.is.journal (names_in r.is.end number r.is h.0.obeys)) (log_tells_denials fuel K r.after (number + 1) xs h.1)

pub sample_tells_denials : SampleTellsDenials
sample_tells_denials number counted c =
    c.denied_are ∙ log_tells_denials usual_fuel [] (state (held (with_files empty site_files)) 0) 1 (order [] c.records) c.lawful
