-- what is left to close comes to what closing all comes to
use Rattle.std.proofs.Common.{[], ◌-◌}
use Rattle.resin_eval_calls.specs.Under.store.Files.{LabelledFiles}
use Rattle.resin_eval_calls.specs.Under.base.TableStore.{TableStore}
use Rattle.resin_eval_calls.specs.Under.base.declared.calls.Calls.{Calls}
use Rattle.resin_eval_calls.specs.Under.meaning.Runs.{Seen, world, Leads}
use Rattle.resin_interp.specs.Pages.{close_more}
use Rattle.resin_interp.proofs.pages.close_all.Given as goal

abbrev pub invariant-loop : goal.invariant-loop
invariant-loop l = (f : Seen LabelledFiles) (t : Seen TableStore) (k : Calls) → Leads (close_more l.count []) (world l.fn.m f t k) (close_more (l.count - l.counter) l.texts) (world l.m f t k)
