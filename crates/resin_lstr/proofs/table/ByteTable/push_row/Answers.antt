use Rattle.std.proofs.Common.{◌≡◌, ◌+◌, [], ◌∷◌, ◌++◌, ap, ◌∙◌, sym, arith}
use Rattle.resin_lstr.specs.Tables.{replacement}
use Rattle.resin_lstr.proofs.Rows.{row_some, row_none}
use Rattle.resin_lstr.proofs.table.ByteTable.push_row.Goals as goal

pub returns-in_ok-extend_from_slice-in-Some : goal.returns-in_ok-extend_from_slice-in-Some
returns-in_ok-extend_from_slice-in-Some c =
    c.in_ok-extend_from_slice-in-Some.ensures.items
    ∙ ap (λ zs. c.args.out.now.items ++ zs) (
    c.as_slice.ensures
    ∙ sym (row_some 0 c.args.byte c.self.inside.rows.items c.in-Some.row c.index.result.now (omega (arith, c.self.invariant, c.ranges.byte.fits)) (sym c.index.ensures ∙ c.in-Some.is))
    ∙ ap (λ table. replacement table c.args.byte) c.self.view_is
    )

pub returns-in_ok-push-in-None : goal.returns-in_ok-push-in-None
returns-in_ok-push-in-None c =
    let none : c.args.byte ≡ 0 + c.args.byte = omega arith in
    c.in_ok-push-in-None.ensures.items
    ∙ ap (λ zs. c.args.out.now.items ++ zs) (
    ap (λ b. b ∷ []) none
    ∙ sym (row_none 0 c.args.byte c.self.inside.rows.items c.index.result.now (omega (arith, c.self.invariant, c.ranges.byte.fits)) (sym c.index.ensures ∙ c.in-None.is))
    ∙ ap (λ table. replacement table c.args.byte) c.self.view_is
    )
