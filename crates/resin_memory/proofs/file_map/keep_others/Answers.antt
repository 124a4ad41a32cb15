use Rattle.std.proofs.Common.{rules, ◌∙◌, ap}
use Rattle.std.specs.FinMap.{from_entries}
use Rattle.std.proofs.lemmas.Fn.{filter_same}
use Rattle.resin_memory.proofs.Find.{from_entries-filter}
use Rattle.resin_memory.proofs.file_map.keep_others.Goals as goal

pub returns : goal.returns
returns c =
    ap from_entries (filter_same _ _ _ (λ x b f' k. search rules) _ _ c.retain.ensures.filtered) ∙ from_entries-filter c.args.path.now c.args.entries.now.items
