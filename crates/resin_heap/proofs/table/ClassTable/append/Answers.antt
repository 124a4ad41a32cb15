use Rattle.std.proofs.Common.{◌<◌, ℕ, Option, length, refl, sym, ap, ◌∙◌, arith, subst}
use Rattle.resin_heap.specs.declared.class.Class.{Class}
use Rattle.resin_heap.specs.declared.class.Standing.{Standing}
use Rattle.resin_heap.specs.Classes.{parent_in}
use Rattle.resin_heap.specs.MethodIndex.{reached, own_or, IsRoot}
use Rattle.resin_heap.specs.Tables.{Entries, giver_of, IsTable}
use Rattle.resin_heap.proofs.Seats.{either_way}
use Rattle.resin_heap.proofs.Kept_tables.{root_above, length-declared, IsTable-append, IsTable-kept, new_methods, new_stands}
use Rattle.resin_heap.proofs.table.ClassTable.append.Goals as goal

pub with_own-requires-clause-root : goal.with_own-requires-clause-root
with_own-requires-clause-root c =
    subst (λ (o : Option ℕ). IsRoot c.self.inside.methods o) (sym c.under-above.ensures.methods)
    (root_above c.self.inside.by_name.entries c.self.inside.methods c.self.invariant.methods c.args.parent)

pub invariant_of-self : goal.invariant_of-self
invariant_of-self c = IsTable-kept c.self.inside.by_name.entries c.self.inside.methods c.with_own.new.self c.with_own.ensures.keeps c.self.invariant

pub invariant_of-self-2 : goal.invariant_of-self-2
invariant_of-self-2 c =
    let es = c.self.inside.by_name.entries in
    let x = c.self.inside.methods in
    let y = c.with_own.new.self in
    let d = c.args.c.now in
    let above = c.under-above.result in
    let tree = c.in_ok-methods.methods in
    let at : Standing = record { parent = c.args.parent; jump = above.jump; giver = c.giver.result; methods = tree } in
    let class : Class = record { declaration = d; standing = at } in
    let under = c.requires.under ∙ ap (λ t. parent_in t d) (sym c.self.view_is) in
    let room : length es < 4294967295 = omega (arith, length-declared es, ap length c.self.view_is, c.requires.few_classes) in
    let kept = IsTable-kept es x y c.with_own.ensures.keeps c.self.invariant in
    let stands = new_stands es d c.args.parent above at under c.under-above.ensures refl refl (c.giver.ensures ∙ ap (λ n. giver_of d.properties n above.giver) c.len-number.ensures.len) in
    let has = new_methods es x y d c.args.parent above.methods tree c.len-number.result c.self.invariant under c.under-above.ensures.methods c.len-number.ensures.len c.in_ok-methods.ensures.root
    (λ name. c.in_ok-methods.ensures.finds name ∙ ap (λ ms. own_or c.len-number.result ms name (reached x above.methods name)) (c.as_slice-own.ensures ∙ c.get.ensures)) in
    either_way c.add.result c.add.ensures.ok c.add.ensures.err
    (λ e. subst (λ (l : Entries). IsTable l y) (sym e) (IsTable-append es y class room stands has kept))
    (λ e. subst (λ (l : Entries). IsTable l y) (sym e) kept)
