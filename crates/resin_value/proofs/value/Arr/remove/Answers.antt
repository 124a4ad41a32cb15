use Rattle.std.proofs.Common.{◌≡◌, ap, sym, ◌∙◌, subst, ⊎_elim, not}
use Rattle.std.specs.Result.{is_ok}
use Rattle.resin_value.specs.Arrays.{Array}
use Rattle.resin_value.specs.Seen.{tree_of, seen}
use Rattle.resin_value.specs.Changes.{lookup, without, IsArray}
use Rattle.resin_value.proofs.Pairs.{looked_up_none, remove_absent}
use Rattle.resin_value.proofs.Keeps.{IsArray-without}
use Rattle.resin_value.proofs.value.Arr.remove.Goals as goal

pub returns-then-is_none-clause-ok : goal.returns-then-is_none-clause-ok
returns-then-is_none-clause-ok c =
    let a = c.args.self.now in
    let k = c.args.k.now in
    let absent = looked_up_none (λ v. tree_of v.now) c.get.result (lookup k a.entries) c.get.ensures (c.is_none.ensures ∙ ap not c.if-is_none.true) in
    λ i. record { entries = sym (remove_absent k a.entries absent) i; largest = a.largest; height = a.height }

pub invariant_of-self-2 : goal.invariant_of-self-2
invariant_of-self-2 c =
    let own : c.in_ok-body.body.now ≡ c.self.inside.body.value = ⊎_elim (λ e. e) (λ e. e) c.in_ok-body.ensures.value in
    let written = c.make_mut.follows.holds c.remove.new.self (ap is_ok c.in_ok-body.was) in
    subst (λ (a : Array). IsArray a) (sym (ap seen written ∙ c.in_ok-remove.ensures.ok ∙ ap (λ b. without c.args.k.now (seen b)) own)) (IsArray-without c.args.k.now (seen c.self.inside.body.value) c.self.invariant)

pub invariant_of-self-in_err-remove : goal.invariant_of-self-in_err-remove
invariant_of-self-in_err-remove c =
    let own : c.in_ok-body.body.now ≡ c.self.inside.body.value = ⊎_elim (λ e. e) (λ e. e) c.in_ok-body.ensures.value in
    let written = c.make_mut.follows.holds c.remove.new.self (ap is_ok c.in_ok-body.was) in
    subst (λ (a : Array). IsArray a) (sym (ap seen written ∙ c.in_err-remove.ensures.err ∙ ap seen own)) c.self.invariant
