-- What the literals of a statement carry of the text that it was read from.
use Rattle.std.specs.Prelude.{◌≡◌, ℕ, ◌<◌, ◌≤◌, Bool, true, false, ◌&&◌, ◌==◌}
use Rattle.std.specs.Prelude.{List, [], ◌∷◌, ◌++◌, length, slice_range, Result, Ok, Err, if◌then◌else◌}
use Rattle.resin_label.specs.Sets.{union}
use Rattle.resin_lstr.specs.declared.limits.TheConstants.{LONGEST}
use Rattle.resin_lstr.specs.Texts.{Text}
use Rattle.resin_lstr.specs.declared.text.TextFault.{TextFault}
use Rattle.resin_lstr.specs.declared.text.TextFault.TheVariants.{TooLong, Memory}
use Rattle.resin_sql_words.specs.declared.literals.Literal.{Literal}
use Rattle.resin_sql_words.specs.declared.literals.Literal.TheVariants as l

-- whether a doubled quote stands in front
abbrev pub begins_doubled : Text → Bool
begins_doubled [] = false
begins_doubled (p ∷ []) = false
begins_doubled (p ∷ q ∷ t) = p.0 == 39 && q.0 == 39

-- what stands between the quotes of a literal, as the text that it means: a doubled quote is one quote, with the sets of both
abbrev pub unquoted : Text → Text
unquoted [] = []
unquoted (p ∷ []) = p ∷ []
unquoted (p ∷ q ∷ t) = if p.0 == 39 && q.0 == 39 then (39, union p.1 q.1) ∷ unquoted t else p ∷ unquoted (q ∷ t)

-- The labelled bytes of a literal in a text: those of a text that it means, those of an integer as they are written, none
-- of NULL. The set of an integer is the fold of the sets of its bytes.
abbrev pub labelled : Text → Literal → Text
labelled d l.Null = []
labelled d (l.Integer value span) = slice_range d span.from span.to
labelled d (l.Text span) = unquoted (slice_range d span.from span.to)

-- what is put last of the text from `at` on, and where it goes on; or the whole is too long
abbrev pub GivesPart : Result (Text × ℕ) TextFault → Text → Text → ℕ → ℕ → Type 0
GivesPart (Ok (longer, next)) out d at to =
    (at < next) × (next ≤ to) × (longer ++ unquoted (slice_range d next to) ≡ out ++ unquoted (slice_range d at to))
GivesPart (Err TooLong) out d at to = LONGEST < length (out ++ unquoted (slice_range d at to))
GivesPart (Err Memory) out d at to = Unit {0}
