-- How the end of a filter of a function is seen.
use Rattle.std.specs.Prelude.{ℕ, List, Result, Ok, Err}
use Rattle.resin_eval_channels.specs.Under.value.declared.value.Value.{Value}
use Rattle.resin_eval_channels.specs.Under.value.Trees.{Tree}
use Rattle.resin_eval_channels.specs.Under.value.Seen.{trees_of}

abbrev pub seen_end : Result (List Value) ℕ → Result (List Tree) ℕ
seen_end (Ok vs) = Ok (trees_of vs)
seen_end (Err thrown) = Err thrown
