use Rattle.std.proofs.Common.{IsTrue, ap, refl, sym, subst, ◌∙◌}
use Rattle.std.specs.Prelude.{is_some}
use Rattle.std.specs.Option.{option_copied_mut}
use Rattle.std.specs.FinMap.{insert}
use Rattle.resin_scope.proofs.NameLemmas.{inserted}
use Rattle.resin_scope.proofs.names.NameMap.put.Goals as goal

pub returns-in-Some-clause-ok : goal.returns-in-Some-clause-ok
returns-in-Some-clause-ok g c =
    let there = subst (λ o. IsTrue (is_some o)) (sym (ap option_copied_mut c.in-Some.is) ∙ c.get_mut.ensures.value) refl in
    inserted c.args.name.now c.args.value c.self.inside.values (c.get_mut.follows.lender c.args.value) ((c.get_mut.follows.holds c.args.value).3 there)
    ∙ (λ i. insert (c.self.view_is i) c.args.name.now c.args.value)
