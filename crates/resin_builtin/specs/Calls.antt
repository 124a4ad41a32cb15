-- Calls of builtin functions, with what they cost.
use Rattle.std.specs.Prelude.{ℕ, ◌-◌, ◌/◌, nat_lt, Bool, true, false, not, if◌then◌else◌}
use Rattle.std.specs.Prelude.{List, [], ◌∷◌, map, replicate, length, sum_by, Option, Some, None, Result, Ok, Err}
use Rattle.resin_format.specs.Under.label.Sets.{NumberSet}
use Rattle.resin_format.specs.Under.lstr.Texts.{Text as LabelledText}
use Rattle.resin_format.specs.Under.scalar.declared.faults.CallStop.{CallStop}
use Rattle.resin_format.specs.Under.scalar.declared.faults.CallStop.TheVariants.{Throw, Fault}
use Rattle.resin_format.specs.Under.scalar.declared.faults.ErrorKind.TheVariants.{«Type» as TypeError, ArgumentCount}
use Rattle.resin_format.specs.Under.scalar.declared.faults.ScriptFault.TheVariants.{FuelSpent, UndefinedFunction}
use Rattle.resin_array_fn.specs.Under.value.Trees.{Tree, boolean, text, array, object}
use Rattle.resin_array_fn.specs.Under.value.Arrays.{entries_of}
use Rattle.resin_array_fn.specs.Under.ops.Conversions.{text_of}
use Rattle.resin_array_fn.specs.Under.text_fn.Rows as texts
use Rattle.resin_array_fn.specs.Rows as arrays
use Rattle.resin_array_fn.specs.Searches as searches
use Rattle.resin_builtin.specs.declared.builtin.Builtin.{Builtin}
use Rattle.resin_builtin.specs.declared.builtin.Builtin.TheVariants.{StrReplace, InArray}
use Rattle.resin_builtin.specs.Signatures.{sig_of, is_count}
use Rattle.resin_builtin.specs.Arguments.{text_at, array_at, value_at, flag_at}
use Rattle.resin_builtin.specs.Rows.{mapped, is_array, row_of_builtin}

-- an answer, and the ticks that are left
abbrev pub Answer : Type 0 → Type 0
Answer X = Result X CallStop × ℕ

-- goes on with a value and the ticks that are left, where there is a value
abbrev pub with_ticks : {X Y : Type 0} → Result X CallStop → ℕ → (X → Answer Y) → Answer Y
with_ticks (Ok x) left rest = rest x
with_ticks (Err stop) left rest = (Err stop, left)

-- ---- the two whose work costs ticks

abbrev pub in_array_row : List Tree → ℕ → Answer Tree
in_array_row ts left =
    with_ticks (value_at ts 0) left (λ v.
    with_ticks (array_at ts 1) left (λ a.
    let r = searches.in_array v a (flag_at ts 2) left in (mapped boolean r.0, r.1)))

-- what is searched: one text, or those of an array
abbrev pub searches_in : Tree → Result (List LabelledText) CallStop
searches_in (array r l h) = arrays.texts_in (map (λ e. e.1) (entries_of r))
searches_in (object n) = Err (Throw TypeError)
searches_in t = mapped (λ x. x ∷ []) (text_of t)

-- what so many searches become: one text for each of them, or the texts of an array, which only an array of searches may have beside it
abbrev pub replacements_in : Bool → Tree → ℕ → Result (List LabelledText) CallStop
replacements_in true (array r l h) n = arrays.texts_in (map (λ e. e.1) (entries_of r))
replacements_in false (array r l h) n = Err (Throw TypeError)
replacements_in b (object o) n = Err (Throw TypeError)
replacements_in b t n = mapped (λ x. replicate n x) (text_of t)

abbrev pub str_replace_row : List Tree → ℕ → Answer Tree
str_replace_row ts left =
    with_ticks (value_at ts 0) left (λ a.
    with_ticks (value_at ts 1) left (λ b.
    with_ticks (text_at ts 2) left (λ s.
    with_ticks (searches_in a) left (λ searched.
    with_ticks (replacements_in (is_array a) b (length searched)) left (λ with.
    let r = texts.str_replace searched with s left in (mapped text r.0, r.1))))))

-- the work of a function with so many ticks
abbrev pub work : Builtin → List Tree → NumberSet → ℕ → Answer Tree
work StrReplace ts set left = str_replace_row ts left
work InArray ts set left = in_array_row ts left
work b ts set left = (row_of_builtin b ts set, left)

-- ---- charges

-- a tick for each 256 bytes of a text, and one for each entry of an array
abbrev pub cost : Tree → ℕ
cost (text t) = length t / 256
cost (array r l h) = length (entries_of r)
cost t = 0

-- an answer once it is charged, where it is a value
abbrev pub given : Result Tree CallStop → ℕ → Answer Tree
given (Ok t) left = if nat_lt left (cost t) then (Err (Fault FuelSpent), left) else (Ok t, left - cost t)
given (Err stop) left = (Err stop, left)

-- a call: another count of arguments throws ArgumentCountError; then all arguments are charged, then comes the work, and then its answer is charged
abbrev pub called : Builtin → List Tree → NumberSet → ℕ → Answer Tree
called b ts set left =
    if not (is_count (sig_of b) (length ts)) then (Err (Throw ArgumentCount), left)
    else if nat_lt left (sum_by cost ts) then (Err (Fault FuelSpent), left)
    else (let r = work b ts set (left - sum_by cost ts) in given r.0 r.1)

-- a call by name
abbrev pub call_of : Option Builtin → List Tree → NumberSet → ℕ → Answer Tree
call_of None ts set left = (Err (Fault UndefinedFunction), left)
call_of (Some b) ts set left = called b ts set left
