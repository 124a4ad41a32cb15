-- The sets of the runs so far have numbers of 32 bits.
use Rattle.std.proofs.Common.{take}
use Rattle.resin_site.specs.Under.label.Sets.{numbers}
use Rattle.resin_site.specs.Under.lstr.declared.text.Run.{Run}
use Rattle.resin_audit.specs.Under.journal_file.Limits.{Each, IsObject}
use Rattle.resin_serve.proofs.logging.read_text.Given as goal

abbrev pub invariant-loop-run : goal.invariant-loop-run
invariant-loop-run l = Each (λ (r : Run). Each IsObject (numbers r.set)) (take l.run-index l.run-items)
