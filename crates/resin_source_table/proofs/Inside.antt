-- What a construct of the example stands for, where there is room for it.
use Rattle.std.proofs.Common.{◌≡◌, ℕ, suc, ◌+◌, Bool, List, Result, subst, arith}
use Rattle.resin_form.specs.Meaning.{always, reading}
use Rattle.resin_source_table.specs.Parity.{body, rules, under}
use Rattle.resin_form.specs.Reads.{Reads}
use Rattle.resin_form.specs.declared.fault.Fault.{Fault}
use Rattle.resin_source_table.specs.declared.parity.Sign.{Sign}
use Rattle.resin_source_table.specs.declared.parity.Construct.{Construct}
use Rattle.resin_source_table.specs.declared.parity.Construct.TheVariants.{Bracketed, Negated}

begun : (depth : ℕ) (n : Construct) (ts new : List Sign) (r : Result Bool Fault) → Reads (under depth (body n) ts) r new → Reads (reading rules always (suc (suc depth)) n ts) r new
unfolding reading
begun depth Bracketed ts new r h = h
begun depth Negated ts new r h = h

pub inside : (depth inner : ℕ) (n : Construct) (ts new : List Sign) (r : Result Bool Fault) → inner + 1 ≡ depth → Reads (under inner (body n) ts) r new → Reads (reading rules always (suc depth) n ts) r new
inside depth inner n ts new r e h = let same : suc inner ≡ depth = omega arith in subst (λ d. Reads (reading rules always (suc d) n ts) r new) same (begun inner n ts new r h)
