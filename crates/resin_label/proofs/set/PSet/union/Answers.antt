use Rattle.std.proofs.Common.{Bool, true, List, ℕ, ◌≡◌, ap, ◌∙◌, sym}
use Rattle.std.specs.Prelude.{nat_eq}
use Rattle.std.specs.List.{list_any, list_all}
use Rattle.resin_label.specs.Kept.{merge}
use Rattle.resin_label.proofs.Members.{if_copied, if_ok_map, union_is, union_left, union_right}
use Rattle.resin_label.proofs.Rising.{rising_merge}
use Rattle.resin_label.proofs.set.PSet.union.Goals as goal

abbrev all_among : List ℕ → List ℕ → Bool
all_among xs ys = list_all (λ y. list_any (λ x. nat_eq x y) xs) ys

-- what the test says of the members
told : {xs ys ms ns : List ℕ} {b : Bool} → b ≡ all_among xs ys → xs ≡ ms → ys ≡ ns → b ≡ true → all_among ms ns ≡ true
told {xs} {ys} {ms} {ns} says p q t = ap (λ zs. all_among zs ns) (sym p) ∙ ap (all_among xs) (sym q) ∙ sym says ∙ t

pub returns-then-holds : goal.returns-then-holds
returns-then-holds c =
    if_copied c.clone.result _
    (union_left c.args.self.now c.args.o.now (told c.holds.ensures c.as_slice.ensures.members c.as_slice-2.ensures.members c.if-holds.true))
    c.clone.ensures.cases

pub returns-then-holds-2 : goal.returns-then-holds-2
returns-then-holds-2 c =
    if_copied c.clone-then-holds-2.result _
    (union_right c.args.self.now c.args.o.now (told c.holds-2.ensures c.as_slice-3.ensures.members c.as_slice-4.ensures.members c.if-holds-2.true))
    c.clone-then-holds-2.ensures.cases

pub kept-requires : goal.kept-requires
kept-requires c = rw c.in_ok-merged.ensures (rising_merge _ _ c.as_slice-5.ensures.rising c.as_slice-6.ensures.rising)

pub returns : goal.returns
returns c =
    if_ok_map c.kept.result
    (λ t e. union_is c.args.self.now c.args.o.now t
    (e ∙ c.in_ok-merged.ensures ∙ ap (λ ns. merge ns c.as_slice-6.result.now) c.as_slice-5.ensures.members ∙ ap (merge _) c.as_slice-6.ensures.members))
    c.kept.ensures
