use Rattle.std.proofs.Common.{◌≡◌, ◌++◌, ◌∷◌, [], List, ℕ, map, take, decimal, sym, ap, ◌∙◌, append_assoc, arith}
use Rattle.std.specs.List.{flat_map, join_with_byte}
use Rattle.std.proofs.lemmas.List.{take_all}
use Rattle.std.proofs.lemmas.Result.{on_ok_weaker}
use Rattle.resin_journal_file.specs.Files.{line}
use Rattle.resin_journal_file.proofs.Lengths.{fields_behind}
use Rattle.resin_journal_file.proofs.events.push_run.Goals as goal

-- a field, numbers behind it, and a newline
joined : (old f ns ms a b c : List ℕ) → a ≡ old ++ f → b ≡ a ++ flat_map (λ n. 32 ∷ decimal n) ms → ms ≡ ns → c ≡ b ++ 10 ∷ [] → c ≡ old ++ line (f ∷ map decimal ns)
joined old f ns ms a b c ha hb e hc =
    hc
    ∙ ap (λ t. t ++ 10 ∷ [])
    (hb ∙ ap (λ t. t ++ flat_map (λ n. 32 ∷ decimal n) ms) ha ∙ ap (λ xs. (old ++ f) ++ flat_map (λ n. 32 ∷ decimal n) xs) e
    ∙ append_assoc old f (flat_map (λ n. 32 ∷ decimal n) ns) ∙ ap (λ t. old ++ t) (sym (fields_behind f ns)))
    ∙ append_assoc old (join_with_byte 32 (f ∷ map decimal ns)) (10 ∷ [])

pub returns : goal.returns
returns c =
    let ns = c.as_slice-policy-items.result.now in
    let k = c.loop-policy.policy-index in
    on_ok_weaker c.push.result
    (joined c.args.text.now (decimal c.args.len) _ (take k ns) c.push_slice.new.self c.loop-policy.text c.push.new.self
    (c.in_ok-push_slice.ensures.ok ∙ ap (λ t. c.args.text.now ++ t) (c.as_bytes.ensures.value ∙ c.format.ensures.text))
    c.loop-policy.invariant
    (take_all k ns (omega arith) ∙ c.as_slice-policy-items.ensures.members))
    c.push.ensures.ok
