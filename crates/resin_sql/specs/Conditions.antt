-- The conditions behind WHERE, as forms over bytes. Each form's value tells whether a word may follow.
use Rattle.std.specs.Prelude.{ℕ, zero, suc, ◌<◌, Bool, true, false, not, ◌&&◌, ◌||◌, ◌==◌, List, [], ◌∷◌, ◌++◌, codes, Result, if◌then◌else◌}
use Rattle.std.specs.declared.alloc.Global.{Global}
use denote.Ref.{MutBor}
use Rattle.resin_form.specs.Form.{give, next, maybe, many, taken}
use Rattle.resin_form.specs.Reads.{Reads}
use Rattle.resin_form.specs.declared.fault.Fault.{Fault}
use Rattle.resin_scan.specs.Bytes.{is_letter, lower}
use Rattle.resin_sql_words.specs.declared.cursor.Placed.{Placed}
use Rattle.resin_sql_words.specs.Forms.{Rule, ◌>>=◌, ◌>>◌, either, never, under}
use Rattle.resin_sql_words.specs.Words.{Ended, gap, letters, word, keyword, sign, name, name_from, named}
use Rattle.resin_sql_words.specs.Literals.{literal}
use Rattle.resin_sql.specs.declared.condition.Naming.{Naming}
use Rattle.resin_sql.specs.declared.condition.Naming.TheVariants as n
use Rattle.resin_sql.specs.declared.tree.Comparison.{Comparison}
use Rattle.resin_sql.specs.declared.tree.Comparison.TheVariants as o
use Rattle.resin_sql.specs.declared.tree.Test.{Test}
use Rattle.resin_sql.specs.declared.tree.Test.TheVariants as t
use Rattle.resin_sql.specs.declared.tree.Condition.{Condition}
use Rattle.resin_sql.specs.declared.tree.Condition.TheVariants as c

-- ---- a test, behind its column

-- `<`, `<=` or `<>`, behind the `<`
unfoldable pub less : Rule Comparison
less = maybe (λ b. b.byte == 61 || b.byte == 62) (λ b. taken (give (if b.byte == 61 then o.LessOrEqual else o.NotEqual))) o.Less

-- `>` or `>=`, behind the `>`
unfoldable pub greater : Rule Comparison
greater = maybe (λ b. b.byte == 61) (λ _. taken (give o.GreaterOrEqual)) o.Greater

-- a comparison by its first byte
unfoldable pub comparison : ℕ → Rule Comparison
comparison b = either (b == 61) (give o.Equal) (either (b == 60) less greater)

unfoldable pub compared : List ℕ → ℕ → Rule (Ended Condition)
compared column b = comparison b >>= λ op. gap >> literal >>= λ v. give (c.Test (t.Compare column op v.0), v.1)

-- `NULL` or `NOT NULL`, behind the `N`: whether it is NOT NULL, and the blanks behind it
unfoldable pub only_null : Rule (Ended Bool)
only_null = word (codes "ll") >>= λ g. give (false, g)

unfoldable pub not_null : Rule (Ended Bool)
not_null = word (codes "t") >>= λ g. keyword g 110 (codes "ull") >>= λ h. give (true, h)

unfoldable pub null_or_not : Rule (Ended Bool)
null_or_not = next (λ b. lower b.byte == 111 || lower b.byte == 117) (λ b. taken (either (lower b.byte == 111) not_null only_null))

unfoldable pub nullness : Bool → Rule (Ended Bool)
nullness free = next (λ b. lower b.byte == 110 && free) (λ _. taken null_or_not)

-- `IS NULL` or `IS NOT NULL`, behind the `I`
unfoldable pub null_test : List ℕ → Rule (Ended Condition)
null_test column = word (codes "s") >>= λ g. nullness g >>= λ n. give (c.Test (t.Null column n.0), n.1)

abbrev pub begins_test : Bool → ℕ → Bool
begins_test free b = b == 60 || b == 61 || b == 62 || (lower b == 105 && free)

unfoldable pub tested : List ℕ → ℕ → Rule (Ended Condition)
tested column b = either (lower b == 105) (null_test column) (compared column b)

-- what is tested, from its first byte on: a column, or for a join a column with its table
abbrev pub Tested : Type 1
Tested = ℕ → Rule (Ended (List ℕ))

-- the name of a column with its table, `t.c`
abbrev pub dotted : List ℕ → List ℕ → List ℕ
dotted t c = (t ++ 46 ∷ []) ++ c

-- the column, behind the table and the `.`
unfoldable pub column_of : List ℕ → Rule (Ended (List ℕ))
column_of t = named true >>= λ c. give (dotted t c.0, c.1)

-- a column with its table, `t.c`, without blanks
unfoldable pub with_table : Tested
with_table b = name b >>= λ t. next (λ d. d.byte == 46) (λ _. taken (column_of t))

abbrev pub tested_as : Naming → Tested
tested_as n.Alone = name_from
tested_as n.WithTable = with_table

unfoldable pub one_test : Tested → ℕ → Rule (Ended Condition)
one_test C b = C b >>= λ n. next (λ t. begins_test n.1 t.byte) (λ t. taken (tested n.0 t.byte))

-- ---- conditions joined by AND

-- a test, or a condition in brackets, where a word may begin or not
abbrev pub Atom : Type 1
Atom = Bool → Rule (Ended Condition)

abbrev pub Several : Type 0
Several = Ended (List Condition)

-- one more
unfoldable pub part : Atom → Bool → List Condition → Rule Several
part A free done = A free >>= λ p. give (done ++ p.0 ∷ [], p.1)

unfoldable pub and_part : Atom → List Condition → Rule Several
and_part A done = word (codes "nd") >>= λ g. part A g done

abbrev pub is_and : Bool → ℕ → Bool
is_and free b = lower b == 97 && free

unfoldable pub more_parts : Atom → Several → Rule Several
more_parts A s = many (λ s t. is_and s.1 t.byte) (λ s _. taken (and_part A s.0)) s

unfoldable pub all_of : Atom → Bool → Rule (Ended Condition)
all_of A free = part A free [] >>= more_parts A >>= λ s. give (c.All s.0, s.1)

-- ---- conditions joined by OR

-- What stands behind a condition: a word may follow or not, and the ORDER of a SELECT may have been read.
abbrev pub Behind : Type 0
Behind = Bool × Bool

abbrev pub Ways : Type 0
Ways = List Condition × Behind

-- one more
unfoldable pub way : Atom → Bool → List Condition → Rule Ways
way A free done = all_of A free >>= λ p. give (done ++ p.0 ∷ [], (p.1, false))

-- behind OR: whether the word goes on to ORDER, where that may stand (`orders`)
unfoldable pub order_ending : Bool → Rule Bool
order_ending orders = maybe (λ b. lower b.byte == 100 && orders) (λ _. taken (letters (codes "er") >> give true)) false

-- OR and one more condition, or ORDER, behind the `O`
unfoldable pub or_way : Atom → Bool → List Condition → Rule Ways
or_way A orders done = letters (codes "r") >> order_ending orders >>= λ ordered. gap >>= λ g. either ordered (give (done, (g, true))) (way A g done)

abbrev pub is_or : Behind → ℕ → Bool
is_or behind b = lower b == 111 && behind.0 && not behind.1

unfoldable pub more_ways : Atom → Bool → Ways → Rule Ways
more_ways A orders s = many (λ s t. is_or s.1 t.byte) (λ s _. taken (or_way A orders s.0)) s

unfoldable pub any_of : Atom → Bool → Bool → Rule (Condition × Behind)
any_of A orders free = way A free [] >>= more_ways A orders >>= λ s. give (c.Any s.0, s.1)

-- ---- brackets

-- behind an opening bracket
unfoldable pub bracketed : Atom → Rule (Ended Condition)
bracketed A = gap >> any_of A false true >>= λ s. sign 41 >> give (s.0, true)

-- a test, or a condition in brackets where there is room for them
unfoldable pub begun : Tested → Bool → Rule (Ended Condition) → Atom
begun C room inside free =
    next (λ t. (t.byte == 40 && room) || (is_letter t.byte && free)) (λ t. taken (either (t.byte == 40) inside (one_test C t.byte)))

-- where so many brackets may still open in one another
unfoldable pub atom : Tested → ℕ → Atom
atom C zero = begun C false (never (c.All [], false))
atom C (suc room) = begun C true (bracketed (atom C room))

-- a function value that reads a test, or a condition in brackets, where fewer brackets than the bound may still open
pub record Nests (bound : ℕ) (pre : Global → MutBor (List Placed) → Naming → Bool → ℕ → Type 0)
    (post : Global → MutBor (List Placed) → Naming → Bool → ℕ → Result (Ended Condition) Fault → MutBor (List Placed) → Type 0) : Type 0 where
  pub callable : (alloc : Global) (old : MutBor (List Placed)) (naming : Naming) (free : Bool) (room : ℕ) → room < bound
      → pre alloc old naming free room
  pub reads : (alloc : Global) (old new : MutBor (List Placed)) (naming : Naming) (free : Bool) (room : ℕ)
      (r : Result (Ended Condition) Fault) → room < bound
      → post alloc old naming free room r new → Reads (under (atom (tested_as naming) room free) old.now) r new.now
