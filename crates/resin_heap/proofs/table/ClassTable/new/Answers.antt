use Rattle.std.proofs.Common.{◌≡◌, ◌+◌, ◌++◌, ◌∷◌, [], suc, sym, ap, ◌∙◌, arith, take}
use Rattle.resin_heap.specs.Classes.{find_class, parent_in}
use Rattle.resin_heap.specs.Prelude.{prelude, name_of, declaration_of}
use Rattle.resin_heap.proofs.Prelude_fits.{prelude_fits}
use Rattle.resin_heap.proofs.table.ClassTable.new.Goals as goal

pub append_prelude-requires-clause-fresh : goal.append_prelude-requires-clause-fresh
append_prelude-requires-clause-fresh c =
    let class = c.unwrap-class.result in
    let fits = prelude_fits c.loop-number.number class (sym c.numbered.ensures ∙ c.unwrap-class.ensures) in
    ap (λ t. find_class t (name_of class)) c.loop-number.invariant ∙ fits.fresh

pub append_prelude-requires-clause-under : goal.append_prelude-requires-clause-under
append_prelude-requires-clause-under c =
    let class = c.unwrap-class.result in
    let fits = prelude_fits c.loop-number.number class (sym c.numbered.ensures ∙ c.unwrap-class.ensures) in
    fits.under ∙ ap (λ t. parent_in t (declaration_of class)) (sym c.loop-number.invariant)

pub loop-number-preserved : goal.loop-number-preserved
loop-number-preserved c =
    let class = c.unwrap-class.result in
    let n = c.loop-number.number in
    let fits = prelude_fits n class (sym c.numbered.ensures ∙ c.unwrap-class.ensures) in
    let next : suc n ≡ n + 1 = omega arith in
    c.in_ok-append_prelude.ensures ∙ ap (λ t. t ++ declaration_of class ∷ []) c.loop-number.invariant ∙ sym fits.next ∙ ap (λ k. take k prelude) next
