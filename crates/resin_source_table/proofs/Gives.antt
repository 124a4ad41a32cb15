-- From the outcome of reading a sum to what it says of the grammar.
use Rattle.std.proofs.Common.{ℕ, suc, Bool, List, Result, Ok, Err}
use Rattle.resin_form.specs.Reads.{Reads}
use Rattle.resin_form.specs.Meaning.{always}
use Rattle.resin_source_table.specs.Parity.{Gives, rules, sum, under}
use Rattle.resin_form.proofs.Fronts.{is_read, is_refused, is_too_deep}
use Rattle.resin_form.specs.declared.fault.Fault.{Fault}
use Rattle.resin_form.specs.declared.fault.Fault.TheVariants.{Syntax, TooDeep, Memory}
use Rattle.resin_source_table.specs.declared.parity.Sign.{Sign}

pub gives : (depth : ℕ) (ts rest : List Sign) (r : Result Bool Fault) → Reads (under depth sum ts) r rest → Gives depth ts r rest
gives depth ts rest (Ok odd) h = is_read rules sum always (suc depth) ts rest odd h
gives depth ts rest (Err Syntax) h = is_refused rules sum always (suc depth) ts rest h
gives depth ts rest (Err TooDeep) h = is_too_deep rules sum always (suc depth) ts rest h
gives depth ts rest (Err Memory) h = tt
