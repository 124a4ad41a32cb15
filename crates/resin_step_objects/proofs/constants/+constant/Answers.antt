use Rattle.resin_step_functions.specs.Under.meaning_forms.Invoke.{item_value, with_items}
use Rattle.resin_step_functions.proofs.meaning_lemmas.Composition.{nothing_left}
use Rattle.resin_step_objects.proofs.ConstantValues.{array_made, array_stops, entry_stops, item_stops, items_more, key_stops, keyed_added, literal_made, plain_added, plain_stops, turn_stops, value_stops}
use Rattle.std.proofs.Common.{Ok, ap, map, sym, ◌∙◌}
use Rattle.resin_step_objects.proofs.constants.+constant.Goals as goal

pub addition-returns-in_err-constant-clause-value : goal.addition-returns-in_err-constant-clause-value
addition-returns-in_err-constant-clause-value t c =
    plain_stops c.args.item.now _ _ c.in_default.is c.from_residual.ensures.1 c.in_err-constant.ensures

pub addition-returns-in_default-clause-value : goal.addition-returns-in_default-clause-value
addition-returns-in_default-clause-value t c =
    plain_added c.args.item.now c.in_ok-constant.field-0 c.in_default.is c.in_ok-constant.ensures

pub addition-returns-in_err-key-clause-value : goal.addition-returns-in_err-key-clause-value
addition-returns-in_err-key-clause-value t c =
    key_stops c.args.item.now c.in-Some.k _ _ c.in-Some.is c.from_residual-in_err-key.ensures.1 c.in_err-key.ensures

pub addition-returns-in_err-value-clause-value : goal.addition-returns-in_err-value-clause-value
addition-returns-in_err-value-clause-value t c =
    value_stops c.args.item.now c.in-Some.k _ _ _ c.in-Some.is c.from_residual-in_err-value.ensures.1 c.in_ok-key.ensures c.in_err-value.ensures

pub addition-returns-in_err-at-clause-value : goal.addition-returns-in_err-at-clause-value
addition-returns-in_err-at-clause-value t c =
    turn_stops c.args.item.now c.in-Some.k _ _ _ _ c.in-Some.is c.from_residual-in_err-at.ensures.1 c.in_ok-key.ensures c.in_ok-value.ensures c.in_err-at.ensures.value

pub addition-returns-clause-value : goal.addition-returns-clause-value
addition-returns-clause-value t c =
    keyed_added c.args.item.now c.in-Some.k _ c.in_ok-value.value c.in_ok-at.at c.in-Some.is c.in_ok-key.ensures c.in_ok-value.ensures c.in_ok-at.ensures.value

pub constant-returns-in_err-constant_array-in-Array : goal.constant-returns-in_err-constant_array-in-Array
constant-returns-in_err-constant_array-in-Array t c =
    rw c.in-Array.is (array_stops _ _ _ c.from_residual-in_err-constant_array-in-Array.ensures.1 (rw c.as_slice.ensures at c.in_err-constant_array-in-Array.ensures))

pub constant-returns-in_ok-literal_value-in-Literal : goal.constant-returns-in_ok-literal_value-in-Literal
constant-returns-in_ok-literal_value-in-Literal t c =
    rw c.in-Literal.is (literal_made c.in-Literal.l _ c.in_ok-literal_value-in-Literal.ensures)

pub constant-returns-in_ok-constant_array-in-Array : goal.constant-returns-in_ok-constant_array-in-Array
constant-returns-in_ok-constant_array-in-Array t c =
    rw c.in-Array.is (array_made _ _ (rw c.as_slice.ensures at c.in_ok-constant_array-in-Array.ensures))

pub constant_array-loop-item-init : goal.constant_array-loop-item-init
constant_array-loop-item-init t c =
    ap (λ a. with_items (Ok a) (map item_value c.args.items.now)) (sym c.in_ok-a.ensures)

pub constant_array-returns-in_err-key : goal.constant_array-returns-in_err-key
constant_array-returns-in_err-key t c =
    item_stops c.args.items.now c.loop-item.item-index c.item-item.result c.loop-item.a _ _ _ c.loop-item-test.true c.item-item.is c.from_residual-in_err-key.ensures.1 c.in_err-key.ensures.value c.loop-item.invariant

pub constant_array-returns-in_err-a-2 : goal.constant_array-returns-in_err-a-2
constant_array-returns-in_err-a-2 t c =
    entry_stops c.args.items.now c.loop-item.item-index c.item-item.result c.loop-item.a c.in_ok-key.key _ _ _ _ c.loop-item-test.true c.item-item.is c.from_residual-in_err-a-2.ensures.1 c.in_ok-key.ensures.value c.in_err-a-2.ensures c.loop-item.invariant

pub constant_array-loop-item-preserved : goal.constant_array-loop-item-preserved
constant_array-loop-item-preserved t c =
    items_more c.args.items.now c.loop-item.item-index c.item-item.result c.loop-item.a _ _ _ _ c.loop-item-test.true c.item-item.is c.in_ok-key.ensures.value c.in_ok-a-2.ensures c.loop-item.invariant

pub constant_array-returns : goal.constant_array-returns
constant_array-returns t c =
    c.loop-item.invariant ∙ ap (λ ds. with_items (Ok c.loop-item.a) (map item_value ds)) (nothing_left c.args.items.now c.loop-item.item-index c.loop-item-test.false)
