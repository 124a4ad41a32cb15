-- Where the literals of a statement stand: those of its texts, without their quotes, and of its integers, with their `-`. NULL has no
-- such place, nor has the number of LIMIT.
use Rattle.std.specs.Prelude.{◌≡◌, ℕ, List, [], ◌∷◌, Result, Ok, Err}
use Rattle.std.specs.List.{flat_map}
use Rattle.resin_sql_words.specs.declared.literals.Literal.{Literal}
use Rattle.resin_sql_words.specs.declared.literals.Literal.TheVariants as l
use Rattle.resin_sql.specs.Answers.{Answers, IsStatement}
use Rattle.resin_sql.specs.Literals.{literals}
use Rattle.resin_sql.specs.declared.fault.SqlFault.{SqlFault}
use Rattle.resin_sql.specs.declared.fault.SqlFault.TheVariants as fault
use Rattle.resin_sql.specs.declared.tree.Stmt.{Stmt}
use Rattle.resin_label.specs.Sets.{NumberSet}
use Rattle.resin_lstr.specs.Texts.{Text, bytes_of}
use Rattle.resin_guard.specs.Pages.{Places}
use Rattle.resin_guard.specs.Judged.{IsJudged}
use Rattle.resin_guard.specs.declared.judge.Guard.{Guard}
use Rattle.resin_guard.specs.declared.judge.Guard.TheVariants.{Pass, Bad, Untrusted}

abbrev pub of_literal : Literal → Places
of_literal l.Null = []
of_literal (l.Integer value span) = (span.from, span.to) ∷ []
of_literal (l.Text span) = (span.from, span.to) ∷ []

-- those of a statement, in the order of its literals
abbrev pub literal_places : Stmt → Places
literal_places q = flat_map of_literal (literals q)

-- the literals of the statement that a text is, or the fault where it is none
abbrev pub GivesLiterals : List ℕ → Result Places SqlFault → Type 0
GivesLiterals bytes (Ok places) = (q : Stmt) × IsStatement bytes q × (places ≡ literal_places q)
GivesLiterals bytes (Err fault) = Answers bytes (Err fault)

-- of a query: Bad where it is no statement, with the place of its fault; else as its literals' places judge it
abbrev pub IsQueryGuard : NumberSet → Text → Guard → Type 0
IsQueryGuard bad d (Bad at) = Answers (bytes_of d) (Err (fault.Bad at))
IsQueryGuard bad d Pass = (q : Stmt) × IsStatement (bytes_of d) q × IsJudged bad (literal_places q) d Pass
IsQueryGuard bad d (Untrusted at) = (q : Stmt) × IsStatement (bytes_of d) q × IsJudged bad (literal_places q) d (Untrusted at)
