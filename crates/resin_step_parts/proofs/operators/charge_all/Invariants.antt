use Rattle.std.proofs.Common.{drop}
use Rattle.resin_meaning_forms.specs.Under.store.Files.{LabelledFiles}
use Rattle.resin_meaning_forms.specs.Under.base.TableStore.{TableStore}
use Rattle.resin_meaning_forms.specs.Under.base.declared.calls.Calls.{Calls}
use Rattle.resin_meaning_forms.specs.Under.value.Seen.{trees_of}
use Rattle.resin_meaning_forms.specs.Under.meaning.Runs.{Seen, world, Leads}
use Rattle.resin_meaning_forms.specs.Parts.{charged}
use Rattle.resin_step_parts.proofs.operators.charge_all.Given as goal

abbrev pub invariant-loop-v : goal.invariant-loop-v
invariant-loop-v l = (f : Seen LabelledFiles) (t : Seen TableStore) (k : Calls) → Leads (charged (trees_of l.vs)) (world l.fn.m f t k) (charged (trees_of (drop l.v-index l.vs))) (world l.m f t k)
