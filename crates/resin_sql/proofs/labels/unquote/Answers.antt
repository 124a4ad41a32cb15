use Rattle.std.proofs.Common.{◌≡◌, ◌≤◌, length, slice_range, subst, ◌∙◌, arith}
use Rattle.resin_lstr.specs.declared.limits.TheConstants.{LONGEST}
use Rattle.resin_sql.specs.Labels.{unquoted}
use Rattle.resin_sql.proofs.Quotes.{all_put}
use Rattle.resin_sql.proofs.labels.unquote.Goals as goal

pub returns : goal.returns
returns c =
    let d = c.args.text.now in
    let whole = unquoted (slice_range d c.args.from c.args.to) in
    let h : c.args.to ≤ c.parts.at = c.parts-test.false in
    let e : c.parts.out ≡ whole = all_put c.parts.out d whole c.parts.at c.args.to h c.parts.invariant.1 in
    let short : length c.parts.out ≤ LONGEST = omega arith in
    (c.in_ok-finish.ensures ∙ e, subst (λ t. length t ≤ LONGEST) e short)
