use Rattle.std.proofs.Common.{◌≡◌, true, rules}
use Rattle.std.specs.List.{list_all}
use Rattle.std.proofs.lemmas.Result.{err_from_is_err_and}
use Rattle.resin_session.specs.Texts.{is_storable}
use Rattle.resin_session.proofs.Written.{session_is, session_fails}
use Rattle.resin_session.proofs.writing.write_session.Goals as goal

pub entries_text-requires : goal.entries_text-requires
entries_text-requires c = search rules

pub returns-in_err-session : goal.returns-in_err-session
returns-in_err-session c =
    let h : list_all (λ e. is_storable e.1) c.args.array.now.entries ≡ true = search rules in
    let p = err_from_is_err_and c.from_residual.result c.from_residual.ensures.1 in
    rw (p.1, p.2) (session_fails c.args.array.now.entries c.in_err-session.field-0.0 h c.in_err-session.ensures.text)

pub returns : goal.returns
returns c = session_is c.args.array.now.entries c.in_ok-session.session c.in_ok-session.ensures.text c.len-len.ensures.kept.lawful c.len-len.ensures.kept.apart c.in_ok-session.ensures.keys c.in_ok-session.ensures.values
