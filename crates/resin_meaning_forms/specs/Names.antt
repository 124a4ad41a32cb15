-- The names by which scripts call functions (PHP manual; `policy_`, `filter_`, `sql_query` and `_structure` are this project's, after
-- RESIN). They ignore ASCII case.
use Rattle.std.specs.Prelude.{ℕ, Bool, List, [], ◌∷◌, Option, None, Some, is_some, if◌then◌else◌, codes}
use Rattle.std.specs.Option.{option_map}
use Rattle.resin_builtin.specs.Under.scan.Words.{spells}
use Rattle.resin_builtin.specs.Names.{builtin_named}
use Rattle.resin_builtin.specs.Under.scalar.declared.faults.ScriptFault.TheVariants.{UndefinedFunction}
use Rattle.resin_target.specs.Under.machine.State.{State}
use Rattle.resin_target.specs.Under.machine.Objects.{function_named}
use Rattle.resin_meaning_tables.specs.Under.meaning.Programs.{Prog, give, ◌>>=◌}
use Rattle.resin_meaning_forms.specs.declared.callee.Callee.{Callee}
use Rattle.resin_meaning_forms.specs.declared.callee.Callee.TheVariants.{Script, Builtin, State as OfState, Channel}
use Rattle.resin_meaning_forms.specs.declared.callee.StateFunction.{StateFunction}
use Rattle.resin_meaning_forms.specs.declared.callee.StateFunction.TheVariants.{PolicyAdd, PolicyRemove, PolicyGet, FilterAdd, FilterRemove}
use Rattle.resin_meaning_forms.specs.declared.callee.StateFunction.TheVariants.{FilterFunctionAdd, GetClass, SqlStructure, HtmlStructure}
use Rattle.resin_meaning_forms.specs.declared.callee.ChannelFunction.{ChannelFunction}
use Rattle.resin_meaning_forms.specs.declared.callee.ChannelFunction.TheVariants.{BufferStart, BufferGetClean, BufferEndClean}
use Rattle.resin_meaning_forms.specs.declared.callee.ChannelFunction.TheVariants.{BufferEndFlush, Header, ResponseCode, Mail, FilePutContents}
use Rattle.resin_meaning_forms.specs.declared.callee.ChannelFunction.TheVariants.{FileGetContents, Unlink, FileExists, SqlQuery}
use Rattle.resin_meaning_forms.specs.Parts.{faulted, looked}

unfoldable pub state_names : List (List ℕ × StateFunction)
state_names =
    (codes "policy_add", PolicyAdd) ∷
    (codes "policy_remove", PolicyRemove) ∷
    (codes "policy_get", PolicyGet) ∷
    (codes "filter_add", FilterAdd) ∷
    (codes "filter_remove", FilterRemove) ∷
    (codes "filter_func_add", FilterFunctionAdd) ∷
    (codes "get_class", GetClass) ∷
    (codes "sql_structure", SqlStructure) ∷
    (codes "html_structure", HtmlStructure) ∷
    []

unfoldable pub channel_names : List (List ℕ × ChannelFunction)
channel_names =
    (codes "ob_start", BufferStart) ∷
    (codes "ob_get_clean", BufferGetClean) ∷
    (codes "ob_end_clean", BufferEndClean) ∷
    (codes "ob_end_flush", BufferEndFlush) ∷
    (codes "header", Header) ∷
    (codes "http_response_code", ResponseCode) ∷
    (codes "mail", Mail) ∷
    (codes "file_put_contents", FilePutContents) ∷
    (codes "file_get_contents", FileGetContents) ∷
    (codes "unlink", Unlink) ∷
    (codes "file_exists", FileExists) ∷
    (codes "sql_query", SqlQuery) ∷
    []

-- what a table has for a name
abbrev pub named_in : {A : Type 0} → List (List ℕ × A) → List ℕ → Option A
named_in [] name = None
named_in (row ∷ rows) name = if spells row.0 name then Some row.1 else named_in rows name

unfoldable pub state_named : List ℕ → Option StateFunction
state_named name = named_in state_names name

unfoldable pub channel_named : List ℕ → Option ChannelFunction
channel_named name = named_in channel_names name

abbrev pub or_else : {A : Type 0} → Option A → Option A → Option A
or_else (Some a) b = Some a
or_else None b = b

-- the function of the runtime that has a name
abbrev pub own_named : List ℕ → Option Callee
own_named name =
    or_else (option_map OfState (state_named name))
    (or_else (option_map Channel (channel_named name))
    (option_map Builtin (builtin_named name)))

-- no script may declare a function of this name
abbrev pub is_taken : List ℕ → Bool
is_taken name = is_some (own_named name)

abbrev pub callee_named : List ℕ → State → Option Callee
callee_named name m = or_else (own_named name) (option_map Script (function_named name m))

abbrev pub or_unknown : Option Callee → Prog Callee
or_unknown (Some callee) = give callee
or_unknown None = faulted UndefinedFunction

-- what a call by name reaches
abbrev pub find_callee : List ℕ → Prog Callee
find_callee name = looked (callee_named name) >>= or_unknown
