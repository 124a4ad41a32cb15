use Rattle.std.proofs.Common.{◌≡◌, ap, sym, subst, ◌∙◌, ◌++◌, ◌∷◌, []}
use Rattle.std.specs.List.{list_any}
use Rattle.resin_value.specs.Keys.{key_eq}
use Rattle.resin_value.specs.Placed.{IsPlaced}
use Rattle.resin_value.specs.Seen.{tree_of, pairs_of, keys_of}
use Rattle.resin_value.specs.Changes.{lookup}
use Rattle.resin_value.proofs.Pairs.{absent_key, pairs_push, keys_push}
use Rattle.resin_value.proofs.value.Entries.push.Goals as goal

pub note-requires-clause-placed : goal.note-requires-clause-placed
note-requires-clause-placed c =
    let s = c.self.inside in
    subst (λ es. IsPlaced s.places (keys_of es)) (sym c.in_ok-reserve.ensures.items) c.self.invariant

pub note-requires-clause-fresh : goal.note-requires-clause-fresh
note-requires-clause-fresh c =
    let s = c.self.inside in
    let k = c.args.k in
    ap (λ es. list_any (key_eq k) (keys_of es)) c.in_ok-reserve.ensures.items ∙ absent_key k s.list.items (ap (lookup k) c.self.view_is ∙ c.requires)

pub invariant_of-self-2 : goal.invariant_of-self-2
invariant_of-self-2 c =
    let ks : keys_of c.push_back_reserved.new.self.items ≡ keys_of c.reserve.new.self.items ++ c.args.k ∷ [] = ap keys_of c.push_back_reserved.ensures.items ∙ keys_push (record { key = c.args.k; value = c.args.v }) c.reserve.new.self.items in
    subst (λ zs. IsPlaced c.note.new.self zs) (sym ks) c.in_ok-note.ensures.ok

pub returns-clause-ok : goal.returns-clause-ok
returns-clause-ok c =
    let s = c.self.inside in
    ap pairs_of c.push_back_reserved.ensures.items
    ∙ pairs_push (record { key = c.args.k; value = c.args.v }) c.reserve.new.self.items
    ∙ ap (λ es. pairs_of es ++ (c.args.k, tree_of c.args.v) ∷ []) c.in_ok-reserve.ensures.items
    ∙ ap (λ es. es ++ (c.args.k, tree_of c.args.v) ∷ []) c.self.view_is
