use Rattle.std.proofs.Common.{◌≡◌, ℕ, List, [], ◌∷◌, ◌++◌, append_assoc, sym, ap, ◌∙◌, subst}
use Rattle.std.specs.Prelude.{OnOk}
use Rattle.resin_http.proofs.response.push_kind.Goals as goal

regroup : (a b c d : List ℕ) → ((a ++ b) ++ c) ++ d ≡ a ++ ((b ++ c) ++ d)
regroup a b c d = append_assoc (a ++ b) c d ∙ append_assoc a b (c ++ d) ∙ ap (λ t. a ++ t) (sym (append_assoc b c d))

pub returns : goal.returns
returns c =
    subst (λ t. OnOk c.push_slice-3.result (c.push_slice-3.new.self ≡ t))
    (ap (λ t. t ++ 13 ∷ 10 ∷ []) (c.in_ok-push_slice-2.ensures.ok ∙ ap (λ t. t ++ c.args.kind.now) c.in_ok-push_slice.ensures.ok)
    ∙ regroup c.args.text.now _ c.args.kind.now (13 ∷ 10 ∷ []))
    c.push_slice-3.ensures.ok
