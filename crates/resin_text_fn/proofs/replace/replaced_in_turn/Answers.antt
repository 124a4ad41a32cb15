use Rattle.std.proofs.Common.{◌≡◌, ◌+◌, ◌-◌, ◌/◌, [], Err, length, drop, sym, ap, ◌∙◌, arith}
use Rattle.std.specs.Prelude.{unwrap_or, slice_get}
use Rattle.std.proofs.lemmas.List.{drop_all, drop-drop}
use Rattle.std.proofs.lemmas.Result.{err_from_is_err_and}
use Rattle.resin_scalar.specs.declared.faults.CallStop.TheVariants.{Fault}
use Rattle.resin_scalar.specs.declared.faults.ScriptFault.TheVariants.{FuelSpent, TextTooLong}
use Rattle.resin_text_fn.specs.Matches.{replaced}
use Rattle.resin_text_fn.specs.Rows.{str_replace}
use Rattle.resin_text_fn.proofs.Joins.{rest_more}
use Rattle.resin_text_fn.proofs.Charges.{fitting_ok, stop_charged, entry_behind, spent, too_long, goes_on}
use Rattle.resin_text_fn.proofs.replace.replaced_in_turn.Goals as goal

pub loop-k-init : goal.loop-k-init
loop-k-init c = ap (λ t. str_replace c.args.searches.now c.args.with.now t c.args.ticks.now.left) c.in_ok-text.ensures.cases

pub returns-in_err-spend : goal.returns-in_err-spend
returns-in_err-spend c =
    let k = c.loop-k.k in
    let with = drop k c.args.with.now in
    let rest = drop (k + 1) c.args.searches.now in
    let next = rest_more c.args.searches.now k c.index-searches-k.result c.loop-k-test.true c.index-searches-k.is in
    let here = ap (λ xs. str_replace xs with c.loop-k.text c.loop-k.ticks.left) (sym next) ∙ c.loop-k.invariant in
    let charge : c.len.result / 256 ≡ length c.loop-k.text / 256 = ap (λ n. n / 256) c.len.ensures.value in
    let p = err_from_is_err_and c.from_residual-in_err-spend.result c.from_residual-in_err-spend.ensures.1 in
    rw (p.1, p.2)
    (sym here ∙ spent c.index-searches-k.result rest with c.loop-k.text c.loop-k.ticks.left (omega (arith, charge, c.in_err-spend.ensures.short))
    ∙ ap (λ n. (Err (Fault FuelSpent), n)) (sym c.in_err-spend.ensures.kept))

pub returns-in_err-text-2 : goal.returns-in_err-text-2
returns-in_err-text-2 c =
    let k = c.loop-k.k in
    let with = drop k c.args.with.now in
    let rest = drop (k + 1) c.args.searches.now in
    let search = c.index-searches-k.result in
    let next = rest_more c.args.searches.now k search c.loop-k-test.true c.index-searches-k.is in
    let here = ap (λ xs. str_replace xs with c.loop-k.text c.loop-k.ticks.left) (sym next) ∙ c.loop-k.invariant in
    let charge : c.len.result / 256 ≡ length c.loop-k.text / 256 = ap (λ n. n / 256) c.len.ensures.value in
    let left : c.loop-k.ticks.left - length c.loop-k.text / 256 ≡ c.spend.new.self.left = omega (arith, charge, c.in_ok-spend.ensures.charged) in
    let entry = c.entry_at.ensures ∙ ap (unwrap_or (slice_get c.args.with.now k)) (c.in_ok-none.ensures ∙ c.new.ensures) ∙ ap (λ o. unwrap_or o []) (sym (entry_behind c.args.with.now k)) in
    let same = ap (λ w. length (replaced search w c.loop-k.text)) entry in
    let p = err_from_is_err_and c.from_residual-in_err-text-2.result c.from_residual-in_err-text-2.ensures.1 in
    rw (p.1, p.2)
    (stop_charged _ (replaced search c.entry_at.result.now c.loop-k.text) _ c.spend.new.self.left c.in_err-text-2.ensures
    (λ long. sym here ∙ too_long search rest with c.loop-k.text c.loop-k.ticks.left (omega (arith, charge, c.in_ok-spend.ensures.enough)) (omega (arith, long, same))
    ∙ ap (λ n. (Err (Fault TextTooLong), n)) left))

pub loop-k-preserved : goal.loop-k-preserved
loop-k-preserved c =
    let k = c.loop-k.k in
    let with = drop k c.args.with.now in
    let rest = drop (k + 1) c.args.searches.now in
    let search = c.index-searches-k.result in
    let next = rest_more c.args.searches.now k search c.loop-k-test.true c.index-searches-k.is in
    let here = ap (λ xs. str_replace xs with c.loop-k.text c.loop-k.ticks.left) (sym next) ∙ c.loop-k.invariant in
    let charge : c.len.result / 256 ≡ length c.loop-k.text / 256 = ap (λ n. n / 256) c.len.ensures.value in
    let left : c.spend.new.self.left ≡ c.loop-k.ticks.left - length c.loop-k.text / 256 = omega (arith, charge, c.in_ok-spend.ensures.charged) in
    let entry = c.entry_at.ensures ∙ ap (unwrap_or (slice_get c.args.with.now k)) (c.in_ok-none.ensures ∙ c.new.ensures) ∙ ap (λ o. unwrap_or o []) (sym (entry_behind c.args.with.now k)) in
    let after = replaced search (unwrap_or (slice_get (drop k c.args.with.now) 0) []) c.loop-k.text in
    let same = ap (λ w. replaced search w c.loop-k.text) entry in
    let both = fitting_ok (replaced search c.entry_at.result.now c.loop-k.text) c.in_ok-text-2.text c.in_ok-text-2.ensures in
    ap (λ ws. str_replace rest ws c.in_ok-text-2.text c.spend.new.self.left) (sym (drop-drop 1 k c.args.with.now))
    ∙ ap (λ t. str_replace rest (drop 1 with) t c.spend.new.self.left) (sym both.0 ∙ same)
    ∙ ap (λ n. str_replace rest (drop 1 with) after n) left
    ∙ sym (goes_on search rest with c.loop-k.text c.loop-k.ticks.left (omega (arith, charge, c.in_ok-spend.ensures.enough)) (omega (arith, both.1, ap length same)))
    ∙ here

pub returns : goal.returns
returns c =
    let k = c.loop-k.k in
    let none = drop_all k c.args.searches.now (omega (arith, c.loop-k-test.false)) in
    sym c.loop-k.invariant ∙ ap (λ xs. str_replace xs (drop k c.args.with.now) c.loop-k.text c.loop-k.ticks.left) none
