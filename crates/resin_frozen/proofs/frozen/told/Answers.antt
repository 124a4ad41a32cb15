use Rattle.std.proofs.Common.{◌≡◌, ◌∙◌}
use Rattle.std.proofs.lemmas.Result.{err_from_is_err_and}
use Rattle.resin_frozen.proofs.Told.{tells, tell_fails}
use Rattle.resin_frozen.proofs.frozen.told.Goals as goal

pub returns-in_err-class : goal.returns-in_err-class
returns-in_err-class c =
    let same : c.new-rest.result ≡ c.args.f.now = c.new-rest.ensures ∙ c.as_slice.ensures.bytes in
    let p = err_from_is_err_and c.from_residual.result c.from_residual.ensures.1 in
    rw (p.1, p.2) (tell_fails c.args.f.now c.new-rest.result c.read_policy.new.rest c.in_err-class.field-0.0 same c.as_slice.ensures.policy c.in_err-class.ensures.policy)

pub returns : goal.returns
returns c =
    let same : c.new-rest.result ≡ c.args.f.now = c.new-rest.ensures ∙ c.as_slice.ensures.bytes in
    tells c.args.f.now c.new-rest.result c.read_policy.new.rest c.in_ok-class.class.now c.in_ok-owned.owned c.in_ok-class.fields same c.in_ok-class.ensures.fields c.in_ok-owned.ensures
