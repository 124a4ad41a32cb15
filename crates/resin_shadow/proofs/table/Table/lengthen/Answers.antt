use Rattle.std.proofs.Common.{◌≡◌, ◌-◌, ◌++◌, length, refl, sym, ap, ◌∙◌, arith}
use Rattle.std.specs.Prelude.{replicate}
use Rattle.resin_shadow.specs.Runs.{marks_of}
use Rattle.resin_shadow.proofs.Tables.{joined_table, lengthened, marks_longer}
use Rattle.resin_shadow.proofs.table.Table.lengthen.Goals as goal

pub returns-clause-table : goal.returns-clause-table
returns-clause-table c =
    let t = c.args.self.now in
    let w = c.requires.ends in
    let last : c.len-last.result - 1 ≡ length t.runs.items - 1 = omega (arith, c.len-last.ensures, t.runs.ok.0) in
    joined_table t _ w.0 w.1 c.args.len w.2
    (lengthened t.runs.items c.args.kind.now.set c.index.result.now c.index_mut.result.now (c.len-last.result - 1) c.args.len w last c.index.ensures c.index_mut.ensures.value) refl refl refl c.requires.count c.requires.table

pub returns-clause-marks : goal.returns-clause-marks
returns-clause-marks c =
    let t = c.args.self.now in
    let w = c.requires.ends in
    let last : c.len-last.result - 1 ≡ length t.runs.items - 1 = omega (arith, c.len-last.ensures, t.runs.ok.0) in
    ap marks_of (lengthened t.runs.items c.args.kind.now.set c.index.result.now c.index_mut.result.now (c.len-last.result - 1) c.args.len w last c.index.ensures c.index_mut.ensures.value)
    ∙ marks_longer w.0 w.1 c.args.len ∙ ap (λ rs. marks_of rs ++ replicate c.args.len w.1.set) (sym w.2) ∙ ap (λ s. marks_of t.runs.items ++ replicate c.args.len s) w.3
