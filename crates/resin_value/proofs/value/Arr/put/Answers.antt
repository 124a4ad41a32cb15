use Rattle.std.proofs.Common.{◌≡◌, ◌≤◌, ap, sym, ◌∙◌, arith, subst, ⊎_elim}
use Rattle.std.specs.Result.{is_ok}
use Rattle.resin_value.specs.Arrays.{Array}
use Rattle.resin_value.specs.Seen.{tree_of, seen}
use Rattle.resin_value.specs.Changes.{raised, put, IsArray}
use Rattle.resin_value.proofs.Keeps.{IsArray-put}
use Rattle.resin_value.proofs.value.Arr.put.Goals as goal

pub invariant_of-self-2 : goal.invariant_of-self-2
invariant_of-self-2 c =
    let own : c.in_ok-body.body.now ≡ c.self.inside.body.value = ⊎_elim (λ e. e) (λ e. e) c.in_ok-body.ensures.value in
    let written = c.make_mut.follows.holds c.put.new.self (ap is_ok c.in_ok-body.was) in
    let a = seen c.self.inside.body.value in
    let low : raised a.height (tree_of c.args.v) ≤ 100 = omega (arith, c.max-height.ensures, c.height.ensures.value, c.height_in.ensures, c.if-height-gt-MAX_HEIGHT.false, ap (λ a. a.height) c.self.view_is) in
    let is = ap seen written ∙ c.in_ok-put.ensures.ok ∙ (λ i. put c.args.k.now (tree_of c.args.v) (seen (own i))) in
    subst (λ (a : Array). IsArray a) (sym is) (IsArray-put c.args.k.now (tree_of c.args.v) a c.requires.lawful low c.self.invariant)

pub invariant_of-self-in_err-put : goal.invariant_of-self-in_err-put
invariant_of-self-in_err-put c =
    let own : c.in_ok-body.body.now ≡ c.self.inside.body.value = ⊎_elim (λ e. e) (λ e. e) c.in_ok-body.ensures.value in
    let written = c.make_mut.follows.holds c.put.new.self (ap is_ok c.in_ok-body.was) in
    subst (λ (a : Array). IsArray a) (sym (ap seen written ∙ c.in_err-put.ensures.err ∙ ap seen own)) c.self.invariant
