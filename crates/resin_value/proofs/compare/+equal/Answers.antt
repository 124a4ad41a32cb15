use Rattle.std.proofs.Common.{◌≡◌, ℕ, ◌+◌, ◌<◌, ◌≤◌, ap, sym, ◌∙◌, arith, length, drop, slice_get, Some, Ok, Err}
use Rattle.std.proofs.lemmas.Result.{err_from_is_err_and}
use Rattle.resin_value.specs.Arrays.{row_of}
use Rattle.resin_value.specs.Seen.{tree_of, pair_of}
use Rattle.resin_value.specs.Compare.{Charged, and_then, with_value, equal_trees, equal_rows}
use Rattle.resin_value.proofs.Pairs.{length-pairs, pair_at}
use Rattle.resin_value.proofs.Compared.{equal_unlike, equal_alike, equal_end, equal_spent, equal_turn}
use Rattle.resin_value.proofs.compare.+equal.Goals as goal

pub equal-returns-then-len-clause-answer : goal.equal-returns-then-len-clause-answer
equal-returns-then-len-clause-answer t c =
    let n = c.args.t.now.left in
    let whole = (λ i. equal_trees (tree_of (c.in-Arr-Arr.is-0 i)) (tree_of (c.in-Arr-Arr.is-1 i)) n) ∙ equal_unlike c.in-Arr-Arr.x c.in-Arr-Arr.y n (λ e. c.if-len.true (omega (arith, e, c.len.ensures.value, c.len-in-Arr-Arr.ensures.value))) in
    λ i. (sym whole i).0

pub equal-returns-else-len-clause-answer : goal.equal-returns-else-len-clause-answer
equal-returns-else-len-clause-answer t c =
    let n = c.args.t.now.left in
    let whole = (λ i. equal_trees (tree_of (c.in-Arr-Arr.is-0 i)) (tree_of (c.in-Arr-Arr.is-1 i)) n) ∙ equal_alike c.in-Arr-Arr.x c.in-Arr-Arr.y n (omega (arith, c.if-len.false, c.len.ensures.value, c.len-in-Arr-Arr.ensures.value)) in
    let x : c.deref.result.now.entries ≡ c.in-Arr-Arr.x.entries = ap (λ b. b.entries) c.deref.ensures ∙ ap (λ a. a.entries) c.x.view_is in
    let y : c.deref-in-Arr-Arr.result.now.entries ≡ c.in-Arr-Arr.y.entries = ap (λ b. b.entries) c.deref-in-Arr-Arr.ensures ∙ ap (λ a. a.entries) c.y.view_is in
    c.equal_entries.ensures.answer ∙ (λ i. (equal_rows (row_of (x i)) (y i) n).0) ∙ (λ i. (sym whole i).0)

pub equal_entries-returns-in_err-spend-clause-answer : goal.equal_entries-returns-in_err-spend-clause-answer
equal_entries-returns-in_err-spend-clause-answer t c =
    let s = c.x.inside in
    let within : c.loop-i.i < length c.args.x.now = omega (arith, length-pairs s.list.items, s.list.ok, ap length c.x.view_is, c.len-i-end.ensures, c.loop-i-test.true) in
    let whole = equal_spent c.args.x.now c.args.y.now c.args.t.now.left c.loop-i.i c.loop-i.t.left c.loop-i.invariant within c.in_err-spend.ensures.short in
    let p = err_from_is_err_and c.from_residual.result c.from_residual.ensures.1 in
    p.1 ∙ ap Err p.2 ∙ (λ i. (sym whole i).0)

pub equal-returns-then-len-clause-charged : goal.equal-returns-then-len-clause-charged
equal-returns-then-len-clause-charged t c =
    let n = c.args.t.now.left in
    let whole = (λ i. equal_trees (tree_of (c.in-Arr-Arr.is-0 i)) (tree_of (c.in-Arr-Arr.is-1 i)) n) ∙ equal_unlike c.in-Arr-Arr.x c.in-Arr-Arr.y n (λ e. c.if-len.true (omega (arith, e, c.len.ensures.value, c.len-in-Arr-Arr.ensures.value))) in
    λ i. (sym whole i).1

pub equal-returns-else-len-clause-charged : goal.equal-returns-else-len-clause-charged
equal-returns-else-len-clause-charged t c =
    let n = c.args.t.now.left in
    let whole = (λ i. equal_trees (tree_of (c.in-Arr-Arr.is-0 i)) (tree_of (c.in-Arr-Arr.is-1 i)) n) ∙ equal_alike c.in-Arr-Arr.x c.in-Arr-Arr.y n (omega (arith, c.if-len.false, c.len.ensures.value, c.len-in-Arr-Arr.ensures.value)) in
    let x : c.deref.result.now.entries ≡ c.in-Arr-Arr.x.entries = ap (λ b. b.entries) c.deref.ensures ∙ ap (λ a. a.entries) c.x.view_is in
    let y : c.deref-in-Arr-Arr.result.now.entries ≡ c.in-Arr-Arr.y.entries = ap (λ b. b.entries) c.deref-in-Arr-Arr.ensures ∙ ap (λ a. a.entries) c.y.view_is in
    c.equal_entries.ensures.charged ∙ (λ i. (equal_rows (row_of (x i)) (y i) n).1) ∙ (λ i. (sym whole i).1)

pub equal_entries-returns-in_err-spend-clause-charged : goal.equal_entries-returns-in_err-spend-clause-charged
equal_entries-returns-in_err-spend-clause-charged t c =
    let s = c.x.inside in
    let within : c.loop-i.i < length c.args.x.now = omega (arith, length-pairs s.list.items, s.list.ok, ap length c.x.view_is, c.len-i-end.ensures, c.loop-i-test.true) in
    let whole = equal_spent c.args.x.now c.args.y.now c.args.t.now.left c.loop-i.i c.loop-i.t.left c.loop-i.invariant within c.in_err-spend.ensures.short in
    let none : c.spend.new.self.left ≡ 0 = omega (arith, c.in_err-spend.ensures.kept, c.in_err-spend.ensures.short) in
    none ∙ (λ i. (sym whole i).1)

pub equal_entries-returns-in_default-clause-answer : goal.equal_entries-returns-in_default-clause-answer
equal_entries-returns-in_default-clause-answer t c =
    let s = c.x.inside in
    let i = c.loop-i.i in
    let a = c.index-a.result.now in
    let within : i < length s.list.items = omega (arith, s.list.ok, c.len-i-end.ensures, c.loop-i-test.true) in
    let here : slice_get c.args.x.now i ≡ Some (pair_of a) = ap (λ es. slice_get es i) (sym c.x.view_is) ∙ pair_at s.list.items i a within c.index-a.ensures in
    let m = c.spend.new.self.left in
    let rest : ℕ → Charged _ = λ p. equal_rows (row_of (drop (i + 1) c.args.x.now)) c.args.y.now p in
    let whole = equal_turn c.args.x.now c.args.y.now c.args.t.now.left i c.loop-i.t.left c.loop-i.invariant a.key (tree_of a.value) m here (omega (arith, c.in_ok-spend.ensures.charged))
    ∙ ap (λ o. and_then (with_value o m (λ u. equal_trees (tree_of a.value) u m)) rest) (sym c.in_default.ensures) in
    λ i. (sym whole i).0

pub equal_entries-returns-in_err-equal-clause-answer : goal.equal_entries-returns-in_err-equal-clause-answer
equal_entries-returns-in_err-equal-clause-answer t c =
    let s = c.x.inside in
    let i = c.loop-i.i in
    let a = c.index-a.result.now in
    let within : i < length s.list.items = omega (arith, s.list.ok, c.len-i-end.ensures, c.loop-i-test.true) in
    let here : slice_get c.args.x.now i ≡ Some (pair_of a) = ap (λ es. slice_get es i) (sym c.x.view_is) ∙ pair_at s.list.items i a within c.index-a.ensures in
    let m = c.spend.new.self.left in
    let rest : ℕ → Charged _ = λ p. equal_rows (row_of (drop (i + 1) c.args.x.now)) c.args.y.now p in
    let whole = equal_turn c.args.x.now c.args.y.now c.args.t.now.left i c.loop-i.t.left c.loop-i.invariant a.key (tree_of a.value) m here (omega (arith, c.in_ok-spend.ensures.charged))
    ∙ ap (λ o. and_then (with_value o m (λ u. equal_trees (tree_of a.value) u m)) rest) (sym c.in-Some.ensures)
    ∙ (λ i. and_then (sym c.in_err-equal.ensures.answer i, sym c.in_err-equal.ensures.charged i) rest) in
    let p = err_from_is_err_and c.from_residual-in_err-equal.result c.from_residual-in_err-equal.ensures.1 in
    p.1 ∙ ap Err p.2 ∙ (λ i. (sym whole i).0)

pub equal_entries-returns-then-not-branch-clause-answer : goal.equal_entries-returns-then-not-branch-clause-answer
equal_entries-returns-then-not-branch-clause-answer t c =
    let s = c.x.inside in
    let i = c.loop-i.i in
    let a = c.index-a.result.now in
    let within : i < length s.list.items = omega (arith, s.list.ok, c.len-i-end.ensures, c.loop-i-test.true) in
    let here : slice_get c.args.x.now i ≡ Some (pair_of a) = ap (λ es. slice_get es i) (sym c.x.view_is) ∙ pair_at s.list.items i a within c.index-a.ensures in
    let m = c.spend.new.self.left in
    let rest : ℕ → Charged _ = λ p. equal_rows (row_of (drop (i + 1) c.args.x.now)) c.args.y.now p in
    let whole = equal_turn c.args.x.now c.args.y.now c.args.t.now.left i c.loop-i.t.left c.loop-i.invariant a.key (tree_of a.value) m here (omega (arith, c.in_ok-spend.ensures.charged))
    ∙ ap (λ o. and_then (with_value o m (λ u. equal_trees (tree_of a.value) u m)) rest) (sym c.in-Some.ensures)
    ∙ (λ i. and_then (sym c.in_ok-equal.ensures.answer i, sym c.in_ok-equal.ensures.charged i) rest)
    ∙ ap (λ b. and_then (Ok b, c.equal.new.t.left) rest) c.if-not-branch.true in
    λ i. (sym whole i).0

pub equal_entries-returns-clause-answer : goal.equal_entries-returns-clause-answer
equal_entries-returns-clause-answer t c =
    let s = c.x.inside in
    let past : length c.args.x.now ≤ c.loop-i.i = omega (arith, length-pairs s.list.items, s.list.ok, ap length c.x.view_is, c.len-i-end.ensures, c.loop-i-test.false) in
    let whole = equal_end c.args.x.now c.args.y.now c.args.t.now.left c.loop-i.i c.loop-i.t.left c.loop-i.invariant past in
    λ i. (sym whole i).0

pub equal_entries-returns-in_default-clause-charged : goal.equal_entries-returns-in_default-clause-charged
equal_entries-returns-in_default-clause-charged t c =
    let s = c.x.inside in
    let i = c.loop-i.i in
    let a = c.index-a.result.now in
    let within : i < length s.list.items = omega (arith, s.list.ok, c.len-i-end.ensures, c.loop-i-test.true) in
    let here : slice_get c.args.x.now i ≡ Some (pair_of a) = ap (λ es. slice_get es i) (sym c.x.view_is) ∙ pair_at s.list.items i a within c.index-a.ensures in
    let m = c.spend.new.self.left in
    let rest : ℕ → Charged _ = λ p. equal_rows (row_of (drop (i + 1) c.args.x.now)) c.args.y.now p in
    let whole = equal_turn c.args.x.now c.args.y.now c.args.t.now.left i c.loop-i.t.left c.loop-i.invariant a.key (tree_of a.value) m here (omega (arith, c.in_ok-spend.ensures.charged))
    ∙ ap (λ o. and_then (with_value o m (λ u. equal_trees (tree_of a.value) u m)) rest) (sym c.in_default.ensures) in
    λ i. (sym whole i).1

pub equal_entries-returns-in_err-equal-clause-charged : goal.equal_entries-returns-in_err-equal-clause-charged
equal_entries-returns-in_err-equal-clause-charged t c =
    let s = c.x.inside in
    let i = c.loop-i.i in
    let a = c.index-a.result.now in
    let within : i < length s.list.items = omega (arith, s.list.ok, c.len-i-end.ensures, c.loop-i-test.true) in
    let here : slice_get c.args.x.now i ≡ Some (pair_of a) = ap (λ es. slice_get es i) (sym c.x.view_is) ∙ pair_at s.list.items i a within c.index-a.ensures in
    let m = c.spend.new.self.left in
    let rest : ℕ → Charged _ = λ p. equal_rows (row_of (drop (i + 1) c.args.x.now)) c.args.y.now p in
    let whole = equal_turn c.args.x.now c.args.y.now c.args.t.now.left i c.loop-i.t.left c.loop-i.invariant a.key (tree_of a.value) m here (omega (arith, c.in_ok-spend.ensures.charged))
    ∙ ap (λ o. and_then (with_value o m (λ u. equal_trees (tree_of a.value) u m)) rest) (sym c.in-Some.ensures)
    ∙ (λ i. and_then (sym c.in_err-equal.ensures.answer i, sym c.in_err-equal.ensures.charged i) rest) in
    λ i. (sym whole i).1

pub equal_entries-returns-then-not-branch-clause-charged : goal.equal_entries-returns-then-not-branch-clause-charged
equal_entries-returns-then-not-branch-clause-charged t c =
    let s = c.x.inside in
    let i = c.loop-i.i in
    let a = c.index-a.result.now in
    let within : i < length s.list.items = omega (arith, s.list.ok, c.len-i-end.ensures, c.loop-i-test.true) in
    let here : slice_get c.args.x.now i ≡ Some (pair_of a) = ap (λ es. slice_get es i) (sym c.x.view_is) ∙ pair_at s.list.items i a within c.index-a.ensures in
    let m = c.spend.new.self.left in
    let rest : ℕ → Charged _ = λ p. equal_rows (row_of (drop (i + 1) c.args.x.now)) c.args.y.now p in
    let whole = equal_turn c.args.x.now c.args.y.now c.args.t.now.left i c.loop-i.t.left c.loop-i.invariant a.key (tree_of a.value) m here (omega (arith, c.in_ok-spend.ensures.charged))
    ∙ ap (λ o. and_then (with_value o m (λ u. equal_trees (tree_of a.value) u m)) rest) (sym c.in-Some.ensures)
    ∙ (λ i. and_then (sym c.in_ok-equal.ensures.answer i, sym c.in_ok-equal.ensures.charged i) rest)
    ∙ ap (λ b. and_then (Ok b, c.equal.new.t.left) rest) c.if-not-branch.true in
    λ i. (sym whole i).1

pub equal_entries-returns-clause-charged : goal.equal_entries-returns-clause-charged
equal_entries-returns-clause-charged t c =
    let s = c.x.inside in
    let past : length c.args.x.now ≤ c.loop-i.i = omega (arith, length-pairs s.list.items, s.list.ok, ap length c.x.view_is, c.len-i-end.ensures, c.loop-i-test.false) in
    let whole = equal_end c.args.x.now c.args.y.now c.args.t.now.left c.loop-i.i c.loop-i.t.left c.loop-i.invariant past in
    λ i. (sym whole i).1

pub equal_entries-loop-i-preserved : goal.equal_entries-loop-i-preserved
equal_entries-loop-i-preserved t c =
    let s = c.x.inside in
    let i = c.loop-i.i in
    let a = c.index-a.result.now in
    let within : i < length s.list.items = omega (arith, s.list.ok, c.len-i-end.ensures, c.loop-i-test.true) in
    let here : slice_get c.args.x.now i ≡ Some (pair_of a) = ap (λ es. slice_get es i) (sym c.x.view_is) ∙ pair_at s.list.items i a within c.index-a.ensures in
    let m = c.spend.new.self.left in
    let rest : ℕ → Charged _ = λ p. equal_rows (row_of (drop (i + 1) c.args.x.now)) c.args.y.now p in
    let whole = equal_turn c.args.x.now c.args.y.now c.args.t.now.left i c.loop-i.t.left c.loop-i.invariant a.key (tree_of a.value) m here (omega (arith, c.in_ok-spend.ensures.charged))
    ∙ ap (λ o. and_then (with_value o m (λ u. equal_trees (tree_of a.value) u m)) rest) (sym c.in-Some.ensures)
    ∙ (λ i. and_then (sym c.in_ok-equal.ensures.answer i, sym c.in_ok-equal.ensures.charged i) rest)
    ∙ ap (λ b. and_then (Ok b, c.equal.new.t.left) rest) c.if-not-branch.false in
    whole
