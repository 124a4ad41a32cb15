use Rattle.std.proofs.Common.{◌≡◌, ◌∙◌}
use Rattle.std.proofs.lemmas.Result.{err_from_is_err_and}
use Rattle.resin_frozen.proofs.One_text.{says, names_of, thaw_fails}
use Rattle.resin_frozen.proofs.frozen.thawed.Goals as goal

pub fields_of-requires : goal.fields_of-requires
fields_of-requires c = names_of c.new-rest.result c.read_policy.new.rest c.in_ok-class.class.now c.in_ok-class.pairs.entries c.in_ok-class.ensures.policy

pub returns-in_err-class : goal.returns-in_err-class
returns-in_err-class c =
    let same : c.new-rest.result ≡ c.args.f.now = c.new-rest.ensures ∙ c.as_slice.ensures.bytes in
    let p = err_from_is_err_and c.from_residual.result c.from_residual.ensures.1 in
    rw (p.1, p.2) (thaw_fails c.args.f.now c.new-rest.result c.read_policy.new.rest c.in_err-class.field-0.0 same c.as_slice.ensures.policy c.in_err-class.ensures.policy)

pub returns : goal.returns
returns c =
    let same : c.new-rest.result ≡ c.args.f.now = c.new-rest.ensures ∙ c.as_slice.ensures.bytes in
    says c.args.f.now c.new-rest.result c.read_policy.new.rest c.in_ok-class.class.now c.in_ok-name.name c.in_ok-class.pairs.entries c.in_ok-fields.fields c.as_slice.ensures.policy same c.in_ok-class.ensures.policy c.in_ok-name.ensures c.in_ok-fields.ensures
