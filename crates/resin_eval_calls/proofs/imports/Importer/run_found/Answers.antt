use Rattle.resin_eval_calls.proofs.imports.Importer.run_found.Goals as goal

pub returns-in-Some : goal.returns-in-Some
returns-in-Some g c = rw c.in-Some.is c.run_entry.ensures

pub returns-in-None : goal.returns-in-None
returns-in-None g c = rw c.in-None.is (c.missing.ensures _ _ _)
