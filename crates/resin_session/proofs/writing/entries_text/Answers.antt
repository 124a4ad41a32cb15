use Rattle.std.proofs.lemmas.Result.{err_from_is_err_and}
use Rattle.resin_value.specs.Seen.{tree_of}
use Rattle.resin_session.specs.Texts.{is_storable}
use Rattle.resin_session.proofs.Written.{all_at, one_more, entry_fails}
use Rattle.resin_session.proofs.writing.entries_text.Goals as goal

pub push_entry-requires : goal.push_entry-requires
push_entry-requires c = all_at (λ e. is_storable e.1) c.args.array.now.entries c.loop-i.i (c.entry.result.0.now, tree_of c.entry.result.1.now) c.entry.ensures c.requires

pub loop-i-preserved : goal.loop-i-preserved
loop-i-preserved c =
    one_more c.args.array.now.entries c.loop-i.i c.entry.result.0.now (tree_of c.entry.result.1.now) c.loop-i.out c.in_ok-out.out c.entry.ensures c.loop-i.invariant c.in_ok-out.ensures.text c.in_ok-out.ensures.key c.in_ok-out.ensures.kept

pub returns-in_err-out-clause-text : goal.returns-in_err-out-clause-text
returns-in_err-out-clause-text c =
    let p = err_from_is_err_and c.from_residual.result c.from_residual.ensures.1 in
    rw (p.1, p.2)
    (entry_fails c.args.array.now.entries c.loop-i.i c.entry.result.0.now (tree_of c.entry.result.1.now) c.loop-i.out c.in_err-out.field-0.0 c.entry.ensures c.loop-i.invariant c.in_err-out.ensures.text)
