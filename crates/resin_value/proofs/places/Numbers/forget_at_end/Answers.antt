use Rattle.std.proofs.Common.{sym, subst, ◌+◌, remove}
use Rattle.resin_value.specs.Placed.{AreNumbered}
use Rattle.resin_value.proofs.Numbered.{counting_first, counting_last, sorted_first, sorted_last}
use Rattle.resin_value.proofs.places.Numbers.forget_at_end.Goals as goal

pub returns-in-Counting-clause-first : goal.returns-in-Counting-clause-first
returns-in-Counting-clause-first c first ks at old =
    subst (λ n. AreNumbered (first + 1) n (remove ks 0)) (sym c.in-Counting.is) (counting_first first ks (subst (λ n. AreNumbered first n ks) c.in-Counting.is old))

pub returns-in-Counting-clause-last : goal.returns-in-Counting-clause-last
returns-in-Counting-clause-last c first i ks last at old =
    subst (λ n. AreNumbered first n (remove ks i)) (sym c.in-Counting.is) (counting_last first ks i last (subst (λ n. AreNumbered first n ks) c.in-Counting.is old))

pub returns-in-Sorted-clause-first : goal.returns-in-Sorted-clause-first
returns-in-Sorted-clause-first c first ks at old =
    sorted_first first c.in-Sorted.map c.take_out.new.map ks c.args.k.now (subst (λ n. AreNumbered first n ks) c.in-Sorted.is old) at c.take_out.ensures

pub returns-in-Sorted-clause-last : goal.returns-in-Sorted-clause-last
returns-in-Sorted-clause-last c first i ks last at old =
    sorted_last first c.in-Sorted.map c.take_out.new.map ks c.args.k.now (subst (λ n. AreNumbered first n ks) c.in-Sorted.is old) i last at c.take_out.ensures
