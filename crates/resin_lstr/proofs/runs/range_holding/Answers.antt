use Rattle.std.proofs.Common.{◌≡◌, ℕ, ap, ◌∙◌, sym, Option, Some}
use Rattle.resin_label.specs.Sets.{contains}
use Rattle.std.specs.List.{prefix_len}
use Rattle.std.proofs.lemmas.List.{take_rest}
use Rattle.resin_lstr.specs.declared.text.Run.{Run}
use Rattle.resin_lstr.proofs.Ranges.{range_none, range_some}
use Rattle.resin_lstr.proofs.runs.range_holding.Goals as goal

pub returns-in_err-first : goal.returns-in_err-first
returns-in_err-first c =
    c.from_residual.ensures ∙ range_none (λ s. contains s c.args.n) c.args.runs.now c.requires (sym c.first_holding.ensures.value ∙ c.in_err-first.was)

abbrev range : ℕ → ℕ → Option (ℕ × ℕ)
range a b = Some (a, b)

pair : {a b x y : ℕ} → a ≡ x → b ≡ y → range a b ≡ range x y
pair p q = λ i. range (p i) (q i)

pub returns : goal.returns
returns c =
    pair c.end_of-start.ensures c.end_of-end.ensures
    ∙ range_some (λ s. contains s c.args.n) c.args.runs.now c.requires c.in_ok-first.first c.holding.result
    (sym c.first_holding.ensures.value ∙ c.in_ok-first.was)
    (c.holding.ensures.value ∙ ap (prefix_len (λ (r : Run). contains r.set c.args.n)) (take_rest c.args.runs.now c.in_ok-first.first))
