use Rattle.std.proofs.Common.{Ok, sym, subst}
use Rattle.resin_lstr.specs.Texts.{bytes_of}
use Rattle.resin_guard.specs.Pages.{Places}
use Rattle.resin_guard.specs.Literals.{GivesLiterals}
use Rattle.resin_guard.proofs.Queries.{of_query, of_query_fault, guards_query}
use Rattle.resin_guard.proofs.query.sql_guard.Goals as goal

pub returns-in-Ok : goal.returns-in-Ok
returns-in-Ok c =
    let bad = c.args.bad.now in
    let d = c.args.text.now in
    let spans = subst (λ (ps : Places). GivesLiterals (bytes_of d) (Ok ps)) (sym c.as_slice.ensures) c.in-Ok.ensures in
    let is = of_query bad d c.judged.result c.as_slice.result.now spans c.judged.ensures in
    record { guard = guards_query bad d c.judged.result is; verdict = is }

pub returns-in-Err-Bad-clause-verdict : goal.returns-in-Err-Bad-clause-verdict
returns-in-Err-Bad-clause-verdict c =
    rw c.in-Err-Bad.field-0-is (of_query_fault c.args.bad.now c.args.text.now c.in-Err-Bad.offset (rw c.in-Err-Bad.field-0-is at c.in-Err-Bad.ensures))
