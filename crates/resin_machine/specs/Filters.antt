-- Steps on filters and imports (this project, after RESIN's filter objects).
use Rattle.std.specs.Prelude.{ℕ, Bool, List, Ok}
use Rattle.std.specs.FinMap.{insert, contains_key}
use Rattle.std.specs.Str.{str_to_ascii_lowercase}
use Rattle.resin_stage.specs.Under.journal.declared.channel.Channel.{Channel}
use Rattle.resin_stage.specs.Under.scope.Chained.{appended, taken_out, appended_to_function}
use Rattle.resin_machine.specs.State.{State}
use Rattle.resin_machine.specs.Steps.{Act}

-- a filter is asked last on a channel
abbrev pub add_filter : Channel → ℕ → Act (Unit {0})
add_filter channel f m = (Ok tt, record m { chains = appended channel f m.chains })

-- a filter is taken off a channel, wherever it stands there
abbrev pub without_filter : Channel → ℕ → State → State
without_filter channel f m = record m { chains = taken_out channel f m.chains }

-- a filter is asked last on the arguments of a function, whose name ignores ASCII case
abbrev pub add_function_filter : List ℕ → ℕ → Act (Unit {0})
add_function_filter name f m = (Ok tt, record m { chains = appended_to_function (str_to_ascii_lowercase name) f m.chains })

abbrev pub is_imported : List ℕ → State → Bool
is_imported path m = contains_key m.imported path

abbrev pub import_path : List ℕ → Act (Unit {0})
import_path path m = (Ok tt, record m { imported = insert m.imported path tt })
