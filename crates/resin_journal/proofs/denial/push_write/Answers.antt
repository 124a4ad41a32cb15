use Rattle.std.proofs.Common.{◌≡◌, ℕ, List, ◌++◌, append_assoc, ap, ◌∙◌, subst}
use Rattle.std.specs.Prelude.{OnOk, codes, decimal}
use Rattle.resin_journal.specs.Channels.{channel_name}
use Rattle.resin_journal.proofs.denial.push_write.Goals as goal

regroup : (a b c d e f g : List ℕ) → (((((a ++ b) ++ c) ++ d) ++ e) ++ f) ++ g ≡ a ++ (((((b ++ c) ++ d) ++ e) ++ f) ++ g)
regroup a b c d e f g =
    ap (λ t. ((((t ++ d) ++ e) ++ f) ++ g)) (append_assoc a b c)
    ∙ ap (λ t. ((t ++ e) ++ f) ++ g) (append_assoc a (b ++ c) d)
    ∙ ap (λ t. (t ++ f) ++ g) (append_assoc a ((b ++ c) ++ d) e)
    ∙ ap (λ t. t ++ g) (append_assoc a (((b ++ c) ++ d) ++ e) f)
    ∙ append_assoc a ((((b ++ c) ++ d) ++ e) ++ f) g

-- each piece stands behind those before it
joined : (a b c d e f g p q r s t u : List ℕ) → p ≡ a ++ b → q ≡ p ++ c → r ≡ q ++ d → s ≡ r ++ e → t ≡ s ++ f → u ≡ t ++ g
    → u ≡ a ++ (((((b ++ c) ++ d) ++ e) ++ f) ++ g)
joined a b c d e f g p q r s t u p_is q_is r_is s_is t_is u_is =
    u_is ∙ ap (λ x. x ++ g) (t_is ∙ ap (λ x. x ++ f) (s_is ∙ ap (λ x. x ++ e) (r_is ∙ ap (λ x. x ++ d) (q_is ∙ ap (λ x. x ++ c) p_is))))
    ∙ regroup a b c d e f g

pub returns : goal.returns
returns c =
    subst (λ t. OnOk c.push_slice-6.result (c.push_slice-6.new.self ≡ t))
    (joined c.args.line.now (codes "deny request=") (decimal c.args.request) (codes " write=") (decimal c.args.write) (codes " channel=")
    (channel_name c.args.channel) _ _ _ _ _ _
    c.in_ok-push_slice.ensures.ok
    (c.in_ok-push_slice-2.ensures.ok ∙ ap (λ t. c.push_slice.new.self ++ t) (c.as_bytes.ensures.value ∙ c.format.ensures.text))
    c.in_ok-push_slice-3.ensures.ok
    (c.in_ok-push_slice-4.ensures.ok ∙ ap (λ t. c.push_slice-3.new.self ++ t) (c.as_bytes-2.ensures.value ∙ c.format-2.ensures.text))
    c.in_ok-push_slice-5.ensures.ok
    (ap (λ t. c.push_slice-5.new.self ++ t) (c.as_bytes-3.ensures.value ∙ c.name.ensures)))
    c.push_slice-6.ensures.ok
