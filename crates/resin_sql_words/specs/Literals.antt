-- The literals of SQL as forms. A form's value has the offsets between which the literal stands.
use Rattle.std.specs.Prelude.{ℕ, ◌+◌, ◌*◌, ◌-◌, Bool, true, false, ◌||◌, ◌==◌, nat_le, ℤ, pos, neg_ℤ, codes, Option, Some, None, if◌then◌else◌}
use Rattle.resin_form.specs.Form.{give, next, many, taken}
use Rattle.resin_scan.specs.Bytes.{is_digit, lower}
use Rattle.resin_sql_words.specs.Forms.{Rule, Behind, ◌>>=◌, ◌>>◌, either, never, within}
use Rattle.resin_sql_words.specs.Words.{Ended, gap, word}
use Rattle.resin_sql_words.specs.declared.cursor.Placed.{Placed}
use Rattle.resin_sql_words.specs.declared.literals.Literal.{Literal}
use Rattle.resin_sql_words.specs.declared.literals.Literal.TheVariants as l

-- ---- numbers: their value so far, and the offset behind their last digit

abbrev pub with_digit : ℕ → ℕ → ℕ
with_digit v b = v * 10 + (b - 48)

-- the digit with which a number passes the greatest value is beyond the limit
unfoldable pub digit_step : ℕ → ℕ → Placed → Behind (ℕ × ℕ)
digit_step greatest v t = within (nat_le (with_digit v t.byte) greatest) (give (with_digit v t.byte, t.at + 1))

unfoldable pub more_digits : ℕ → ℕ × ℕ → Rule (ℕ × ℕ)
more_digits greatest s = many (λ _ t. is_digit t.byte) (λ s t. digit_step greatest s.0 t) s

-- a number from its first digit on
unfoldable pub digits : ℕ → Placed → Rule (ℕ × ℕ)
digits greatest t = more_digits greatest (t.byte - 48, t.at + 1)

-- the greatest value of 64 bits with a sign, and that of the digits behind a `-`
abbrev pub greatest : Bool → ℕ
greatest negative = if negative then 9223372036854775808 else 9223372036854775807

abbrev pub signed : Bool → ℕ → ℤ
signed negative v = if negative then neg_ℤ (pos v) else pos v

-- an integer from its first digit on; `from`: the offset of its first byte
unfoldable pub integer : Bool → ℕ → Placed → Rule Literal
integer negative from t = digits (greatest negative) t >>= λ v. give (l.Integer (signed negative v.0) (record { from = from; to = v.1 }))

unfoldable pub negative : ℕ → Rule Literal
negative from = next (λ t. is_digit t.byte) (λ t. taken (integer true from t))

-- ---- texts

-- Between quotes the state is the offset of the last byte where that is a quote. It may end the text, or be the first
-- half of a doubled quote; the next byte decides.
abbrev pub quoted_step : Option ℕ → Placed → Option ℕ
quoted_step None t = if t.byte == 39 then Some t.at else None
quoted_step (Some at) t = None

-- whether a byte goes on with the text
abbrev pub is_quoted : Option ℕ → ℕ → Bool
is_quoted None b = true
is_quoted (Some at) b = b == 39

unfoldable pub quoted : Option ℕ → Rule (Option ℕ)
quoted s = many (λ s t. is_quoted s t.byte) (λ s t. taken (give (quoted_step s t))) s

abbrev pub closed : ℕ → Option ℕ → Rule Literal
closed from None = never l.Null
closed from (Some at) = give (l.Text (record { from = from; to = at }))

-- a text behind its opening quote; `from`: the offset behind that
unfoldable pub text : ℕ → Rule Literal
text from = quoted None >>= closed from

-- ---- literals, and whether a word may follow

unfoldable pub spaced : Rule Literal → Rule (Ended Literal)
spaced F = F >>= λ v. gap >> give (v, true)

unfoldable pub null : Rule (Ended Literal)
null = word (codes "ull") >>= λ g. give (l.Null, g)

abbrev pub begins_literal : ℕ → Bool
begins_literal b = is_digit b || b == 45 || b == 39 || lower b == 110

unfoldable pub literal_from : Placed → Rule (Ended Literal)
literal_from t =
    either (is_digit t.byte) (spaced (integer false t.at t))
    (either (t.byte == 45) (spaced (negative t.at))
    (either (t.byte == 39) (spaced (text (t.at + 1))) null))

unfoldable pub literal : Rule (Ended Literal)
literal = next (λ t. begins_literal t.byte) (λ t. taken (literal_from t))
