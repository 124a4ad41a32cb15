use Rattle.std.proofs.Common.{◌≡◌, ◌≤◌, ap, sym, ◌∙◌, arith, rules, subst, ⊎_elim, w64, refl}
use mir.Val.{SFits}
use Rattle.std.specs.Result.{is_ok}
use Rattle.std.proofs.lemmas.Int.{to_z-of_z}
use Rattle.resin_value.specs.declared.key.Key.TheVariants.{Int}
use Rattle.resin_value.specs.Arrays.{Array}
use Rattle.resin_value.specs.Seen.{tree_of, seen}
use Rattle.resin_value.specs.Changes.{lookup, raised, next_of, put, IsArray}
use Rattle.resin_value.proofs.Keeps.{fresh_key, IsArray-put}
use Rattle.resin_value.proofs.value.Arr.append.Goals as goal

pub append-requires-clause-fresh : goal.append-requires-clause-fresh
append-requires-clause-fresh c =
    let own : c.in_ok-body.body.now ≡ c.self.inside.body.value = ⊎_elim (λ e. e) (λ e. e) c.in_ok-body.ensures.value in
    let fits : SFits w64 c.in-Some.n = search rules in
    let same = to_z-of_z w64 c.in-Some.n fits in
    let a = seen c.self.inside.body.value in
    (λ i. lookup (Int (same i)) (own i).entries) ∙ fresh_key a.largest c.in-Some.n a.entries (sym (c.in-Some.ensures ∙ ap (λ a. next_of a.largest) (sym c.self.view_is))) c.self.invariant.used

pub invariant_of-self-2 : goal.invariant_of-self-2
invariant_of-self-2 c =
    let own : c.in_ok-body.body.now ≡ c.self.inside.body.value = ⊎_elim (λ e. e) (λ e. e) c.in_ok-body.ensures.value in
    let written = c.make_mut.follows.holds c.append.new.self (ap is_ok c.in_ok-body.was) in
    let fits : SFits w64 c.in-Some.n = search rules in
    let a = seen c.self.inside.body.value in
    let low : raised a.height (tree_of c.args.v) ≤ 100 = omega (arith, c.max-height.ensures, c.height.ensures.value, c.height_in.ensures, c.if-height-gt-MAX_HEIGHT.false, ap (λ a. a.height) c.self.view_is) in
    let is = ap seen written ∙ c.in_ok-append.ensures.ok ∙ (λ i. put (Int (to_z-of_z w64 c.in-Some.n fits i)) (tree_of c.args.v) (seen (own i))) in
    subst (λ (a : Array). IsArray a) (sym is) (IsArray-put (Int c.in-Some.n) (tree_of c.args.v) a refl low c.self.invariant)

pub invariant_of-self-in_err-append : goal.invariant_of-self-in_err-append
invariant_of-self-in_err-append c =
    let own : c.in_ok-body.body.now ≡ c.self.inside.body.value = ⊎_elim (λ e. e) (λ e. e) c.in_ok-body.ensures.value in
    let written = c.make_mut.follows.holds c.append.new.self (ap is_ok c.in_ok-body.was) in
    subst (λ (a : Array). IsArray a) (sym (ap seen written ∙ c.in_err-append.ensures.err ∙ ap seen own)) c.self.invariant
