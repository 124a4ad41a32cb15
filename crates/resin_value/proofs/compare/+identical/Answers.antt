use Rattle.std.proofs.Common.{◌≡◌, ℕ, ◌+◌, ◌<◌, ◌≤◌, ap, sym, ◌∙◌, arith, length, drop, slice_get, Some, Ok, false, if◌then◌else◌}
use Rattle.std.proofs.lemmas.Result.{err_from_is_err_and}
use Rattle.resin_value.specs.Arrays.{row_of}
use Rattle.resin_value.specs.Seen.{tree_of, pair_of}
use Rattle.resin_value.specs.Compare.{Charged, and_then, identical_trees, identical_rows}
use Rattle.resin_value.proofs.Pairs.{length-pairs, pair_at}
use Rattle.resin_value.proofs.Compared.{identical_unlike, identical_alike, identical_end, identical_spent, identical_turn}
use Rattle.resin_value.proofs.compare.+identical.Goals as goal

pub identical-returns-then-len-clause-answer : goal.identical-returns-then-len-clause-answer
identical-returns-then-len-clause-answer t c =
    let n = c.args.t.now.left in
    let whole = (λ i. identical_trees (tree_of (c.in-Arr-Arr.is-0 i)) (tree_of (c.in-Arr-Arr.is-1 i)) n) ∙ identical_unlike c.in-Arr-Arr.x c.in-Arr-Arr.y n (λ e. c.if-len.true (omega (arith, e, c.len.ensures.value, c.len-in-Arr-Arr.ensures.value))) in
    λ i. (sym whole i).0

pub identical-returns-else-len-clause-answer : goal.identical-returns-else-len-clause-answer
identical-returns-else-len-clause-answer t c =
    let n = c.args.t.now.left in
    let whole = (λ i. identical_trees (tree_of (c.in-Arr-Arr.is-0 i)) (tree_of (c.in-Arr-Arr.is-1 i)) n) ∙ identical_alike c.in-Arr-Arr.x c.in-Arr-Arr.y n (omega (arith, c.if-len.false, c.len.ensures.value, c.len-in-Arr-Arr.ensures.value)) in
    let x : c.deref.result.now.entries ≡ c.in-Arr-Arr.x.entries = ap (λ b. b.entries) c.deref.ensures ∙ ap (λ a. a.entries) c.x.view_is in
    let y : c.deref-in-Arr-Arr.result.now.entries ≡ c.in-Arr-Arr.y.entries = ap (λ b. b.entries) c.deref-in-Arr-Arr.ensures ∙ ap (λ a. a.entries) c.y.view_is in
    c.identical_entries.ensures.answer ∙ (λ i. (identical_rows (row_of (x i)) (row_of (y i)) n).0) ∙ (λ i. (sym whole i).0)

pub identical_entries-returns-in_err-spend-clause-answer : goal.identical_entries-returns-in_err-spend-clause-answer
identical_entries-returns-in_err-spend-clause-answer t c =
    let s = c.x.inside in
    let within : c.loop-i.i < length c.args.x.now = omega (arith, length-pairs s.list.items, s.list.ok, ap length c.x.view_is, c.len-i-end.ensures, c.loop-i-test.true) in
    let whole = identical_spent c.args.x.now c.args.y.now c.args.t.now.left c.loop-i.i c.loop-i.t.left c.loop-i.invariant within c.in_err-spend.ensures.short in
    let p = err_from_is_err_and c.from_residual.result c.from_residual.ensures.1 in
    p.1 ∙ (λ i. (sym whole i).0)

pub identical-returns-then-len-clause-charged : goal.identical-returns-then-len-clause-charged
identical-returns-then-len-clause-charged t c =
    let n = c.args.t.now.left in
    let whole = (λ i. identical_trees (tree_of (c.in-Arr-Arr.is-0 i)) (tree_of (c.in-Arr-Arr.is-1 i)) n) ∙ identical_unlike c.in-Arr-Arr.x c.in-Arr-Arr.y n (λ e. c.if-len.true (omega (arith, e, c.len.ensures.value, c.len-in-Arr-Arr.ensures.value))) in
    λ i. (sym whole i).1

pub identical-returns-else-len-clause-charged : goal.identical-returns-else-len-clause-charged
identical-returns-else-len-clause-charged t c =
    let n = c.args.t.now.left in
    let whole = (λ i. identical_trees (tree_of (c.in-Arr-Arr.is-0 i)) (tree_of (c.in-Arr-Arr.is-1 i)) n) ∙ identical_alike c.in-Arr-Arr.x c.in-Arr-Arr.y n (omega (arith, c.if-len.false, c.len.ensures.value, c.len-in-Arr-Arr.ensures.value)) in
    let x : c.deref.result.now.entries ≡ c.in-Arr-Arr.x.entries = ap (λ b. b.entries) c.deref.ensures ∙ ap (λ a. a.entries) c.x.view_is in
    let y : c.deref-in-Arr-Arr.result.now.entries ≡ c.in-Arr-Arr.y.entries = ap (λ b. b.entries) c.deref-in-Arr-Arr.ensures ∙ ap (λ a. a.entries) c.y.view_is in
    c.identical_entries.ensures.charged ∙ (λ i. (identical_rows (row_of (x i)) (row_of (y i)) n).1) ∙ (λ i. (sym whole i).1)

pub identical_entries-returns-in_err-spend-clause-charged : goal.identical_entries-returns-in_err-spend-clause-charged
identical_entries-returns-in_err-spend-clause-charged t c =
    let s = c.x.inside in
    let within : c.loop-i.i < length c.args.x.now = omega (arith, length-pairs s.list.items, s.list.ok, ap length c.x.view_is, c.len-i-end.ensures, c.loop-i-test.true) in
    let whole = identical_spent c.args.x.now c.args.y.now c.args.t.now.left c.loop-i.i c.loop-i.t.left c.loop-i.invariant within c.in_err-spend.ensures.short in
    let none : c.spend.new.self.left ≡ 0 = omega (arith, c.in_err-spend.ensures.kept, c.in_err-spend.ensures.short) in
    none ∙ (λ i. (sym whole i).1)

pub identical_entries-returns-then-not-same-clause-answer : goal.identical_entries-returns-then-not-same-clause-answer
identical_entries-returns-then-not-same-clause-answer t c =
    let s = c.x.inside in
    let r = c.y.inside in
    let i = c.loop-i.i in
    let a = c.index-a.result.now in
    let d = c.index-b.result.now in
    let within : i < length s.list.items = omega (arith, s.list.ok, c.len-i-end.ensures, c.loop-i-test.true) in
    let within_y : i < length r.list.items = omega (arith, within, length-pairs s.list.items, ap length c.x.view_is, length-pairs r.list.items, ap length c.y.view_is, c.requires) in
    let here : slice_get c.args.x.now i ≡ Some (pair_of a) = ap (λ es. slice_get es i) (sym c.x.view_is) ∙ pair_at s.list.items i a within c.index-a.ensures in
    let there : slice_get c.args.y.now i ≡ Some (pair_of d) = ap (λ es. slice_get es i) (sym c.y.view_is) ∙ pair_at r.list.items i d within_y c.index-b.ensures in
    let m = c.spend.new.self.left in
    let rest : ℕ → Charged _ = λ p. identical_rows (row_of (drop (i + 1) c.args.x.now)) (row_of (drop (i + 1) c.args.y.now)) p in
    let whole = identical_turn c.args.x.now c.args.y.now c.args.t.now.left i c.loop-i.t.left c.loop-i.invariant a.key d.key (tree_of a.value) (tree_of d.value) m here there (omega (arith, c.in_ok-spend.ensures.charged))
    ∙ ap (λ b. and_then (if b then identical_trees (tree_of a.value) (tree_of d.value) m else (Ok false, m)) rest) (sym c.same.ensures ∙ c.if-not-same.true) in
    λ i. (sym whole i).0

pub identical_entries-returns-in_err-identical-clause-answer : goal.identical_entries-returns-in_err-identical-clause-answer
identical_entries-returns-in_err-identical-clause-answer t c =
    let s = c.x.inside in
    let r = c.y.inside in
    let i = c.loop-i.i in
    let a = c.index-a.result.now in
    let d = c.index-b.result.now in
    let within : i < length s.list.items = omega (arith, s.list.ok, c.len-i-end.ensures, c.loop-i-test.true) in
    let within_y : i < length r.list.items = omega (arith, within, length-pairs s.list.items, ap length c.x.view_is, length-pairs r.list.items, ap length c.y.view_is, c.requires) in
    let here : slice_get c.args.x.now i ≡ Some (pair_of a) = ap (λ es. slice_get es i) (sym c.x.view_is) ∙ pair_at s.list.items i a within c.index-a.ensures in
    let there : slice_get c.args.y.now i ≡ Some (pair_of d) = ap (λ es. slice_get es i) (sym c.y.view_is) ∙ pair_at r.list.items i d within_y c.index-b.ensures in
    let m = c.spend.new.self.left in
    let rest : ℕ → Charged _ = λ p. identical_rows (row_of (drop (i + 1) c.args.x.now)) (row_of (drop (i + 1) c.args.y.now)) p in
    let whole = identical_turn c.args.x.now c.args.y.now c.args.t.now.left i c.loop-i.t.left c.loop-i.invariant a.key d.key (tree_of a.value) (tree_of d.value) m here there (omega (arith, c.in_ok-spend.ensures.charged))
    ∙ ap (λ b. and_then (if b then identical_trees (tree_of a.value) (tree_of d.value) m else (Ok false, m)) rest) (sym c.same.ensures ∙ c.if-not-same.false)
    ∙ (λ i. and_then (sym c.in_err-identical.ensures.answer i, sym c.in_err-identical.ensures.charged i) rest) in
    let p = err_from_is_err_and c.from_residual-in_err-identical.result c.from_residual-in_err-identical.ensures.1 in
    p.1 ∙ (λ i. (sym whole i).0)

pub identical_entries-returns-then-not-branch-clause-answer : goal.identical_entries-returns-then-not-branch-clause-answer
identical_entries-returns-then-not-branch-clause-answer t c =
    let s = c.x.inside in
    let r = c.y.inside in
    let i = c.loop-i.i in
    let a = c.index-a.result.now in
    let d = c.index-b.result.now in
    let within : i < length s.list.items = omega (arith, s.list.ok, c.len-i-end.ensures, c.loop-i-test.true) in
    let within_y : i < length r.list.items = omega (arith, within, length-pairs s.list.items, ap length c.x.view_is, length-pairs r.list.items, ap length c.y.view_is, c.requires) in
    let here : slice_get c.args.x.now i ≡ Some (pair_of a) = ap (λ es. slice_get es i) (sym c.x.view_is) ∙ pair_at s.list.items i a within c.index-a.ensures in
    let there : slice_get c.args.y.now i ≡ Some (pair_of d) = ap (λ es. slice_get es i) (sym c.y.view_is) ∙ pair_at r.list.items i d within_y c.index-b.ensures in
    let m = c.spend.new.self.left in
    let rest : ℕ → Charged _ = λ p. identical_rows (row_of (drop (i + 1) c.args.x.now)) (row_of (drop (i + 1) c.args.y.now)) p in
    let whole = identical_turn c.args.x.now c.args.y.now c.args.t.now.left i c.loop-i.t.left c.loop-i.invariant a.key d.key (tree_of a.value) (tree_of d.value) m here there (omega (arith, c.in_ok-spend.ensures.charged))
    ∙ ap (λ b. and_then (if b then identical_trees (tree_of a.value) (tree_of d.value) m else (Ok false, m)) rest) (sym c.same.ensures ∙ c.if-not-same.false)
    ∙ (λ i. and_then (sym c.in_ok-identical.ensures.answer i, sym c.in_ok-identical.ensures.charged i) rest)
    ∙ ap (λ b. and_then (Ok b, c.identical.new.t.left) rest) c.if-not-branch.true in
    λ i. (sym whole i).0

pub identical_entries-returns-clause-answer : goal.identical_entries-returns-clause-answer
identical_entries-returns-clause-answer t c =
    let s = c.x.inside in
    let past : length c.args.x.now ≤ c.loop-i.i = omega (arith, length-pairs s.list.items, s.list.ok, ap length c.x.view_is, c.len-i-end.ensures, c.loop-i-test.false) in
    let whole = identical_end c.args.x.now c.args.y.now c.args.t.now.left c.loop-i.i c.loop-i.t.left c.loop-i.invariant past in
    λ i. (sym whole i).0

pub identical_entries-returns-then-not-same-clause-charged : goal.identical_entries-returns-then-not-same-clause-charged
identical_entries-returns-then-not-same-clause-charged t c =
    let s = c.x.inside in
    let r = c.y.inside in
    let i = c.loop-i.i in
    let a = c.index-a.result.now in
    let d = c.index-b.result.now in
    let within : i < length s.list.items = omega (arith, s.list.ok, c.len-i-end.ensures, c.loop-i-test.true) in
    let within_y : i < length r.list.items = omega (arith, within, length-pairs s.list.items, ap length c.x.view_is, length-pairs r.list.items, ap length c.y.view_is, c.requires) in
    let here : slice_get c.args.x.now i ≡ Some (pair_of a) = ap (λ es. slice_get es i) (sym c.x.view_is) ∙ pair_at s.list.items i a within c.index-a.ensures in
    let there : slice_get c.args.y.now i ≡ Some (pair_of d) = ap (λ es. slice_get es i) (sym c.y.view_is) ∙ pair_at r.list.items i d within_y c.index-b.ensures in
    let m = c.spend.new.self.left in
    let rest : ℕ → Charged _ = λ p. identical_rows (row_of (drop (i + 1) c.args.x.now)) (row_of (drop (i + 1) c.args.y.now)) p in
    let whole = identical_turn c.args.x.now c.args.y.now c.args.t.now.left i c.loop-i.t.left c.loop-i.invariant a.key d.key (tree_of a.value) (tree_of d.value) m here there (omega (arith, c.in_ok-spend.ensures.charged))
    ∙ ap (λ b. and_then (if b then identical_trees (tree_of a.value) (tree_of d.value) m else (Ok false, m)) rest) (sym c.same.ensures ∙ c.if-not-same.true) in
    λ i. (sym whole i).1

pub identical_entries-returns-in_err-identical-clause-charged : goal.identical_entries-returns-in_err-identical-clause-charged
identical_entries-returns-in_err-identical-clause-charged t c =
    let s = c.x.inside in
    let r = c.y.inside in
    let i = c.loop-i.i in
    let a = c.index-a.result.now in
    let d = c.index-b.result.now in
    let within : i < length s.list.items = omega (arith, s.list.ok, c.len-i-end.ensures, c.loop-i-test.true) in
    let within_y : i < length r.list.items = omega (arith, within, length-pairs s.list.items, ap length c.x.view_is, length-pairs r.list.items, ap length c.y.view_is, c.requires) in
    let here : slice_get c.args.x.now i ≡ Some (pair_of a) = ap (λ es. slice_get es i) (sym c.x.view_is) ∙ pair_at s.list.items i a within c.index-a.ensures in
    let there : slice_get c.args.y.now i ≡ Some (pair_of d) = ap (λ es. slice_get es i) (sym c.y.view_is) ∙ pair_at r.list.items i d within_y c.index-b.ensures in
    let m = c.spend.new.self.left in
    let rest : ℕ → Charged _ = λ p. identical_rows (row_of (drop (i + 1) c.args.x.now)) (row_of (drop (i + 1) c.args.y.now)) p in
    let whole = identical_turn c.args.x.now c.args.y.now c.args.t.now.left i c.loop-i.t.left c.loop-i.invariant a.key d.key (tree_of a.value) (tree_of d.value) m here there (omega (arith, c.in_ok-spend.ensures.charged))
    ∙ ap (λ b. and_then (if b then identical_trees (tree_of a.value) (tree_of d.value) m else (Ok false, m)) rest) (sym c.same.ensures ∙ c.if-not-same.false)
    ∙ (λ i. and_then (sym c.in_err-identical.ensures.answer i, sym c.in_err-identical.ensures.charged i) rest) in
    λ i. (sym whole i).1

pub identical_entries-returns-then-not-branch-clause-charged : goal.identical_entries-returns-then-not-branch-clause-charged
identical_entries-returns-then-not-branch-clause-charged t c =
    let s = c.x.inside in
    let r = c.y.inside in
    let i = c.loop-i.i in
    let a = c.index-a.result.now in
    let d = c.index-b.result.now in
    let within : i < length s.list.items = omega (arith, s.list.ok, c.len-i-end.ensures, c.loop-i-test.true) in
    let within_y : i < length r.list.items = omega (arith, within, length-pairs s.list.items, ap length c.x.view_is, length-pairs r.list.items, ap length c.y.view_is, c.requires) in
    let here : slice_get c.args.x.now i ≡ Some (pair_of a) = ap (λ es. slice_get es i) (sym c.x.view_is) ∙ pair_at s.list.items i a within c.index-a.ensures in
    let there : slice_get c.args.y.now i ≡ Some (pair_of d) = ap (λ es. slice_get es i) (sym c.y.view_is) ∙ pair_at r.list.items i d within_y c.index-b.ensures in
    let m = c.spend.new.self.left in
    let rest : ℕ → Charged _ = λ p. identical_rows (row_of (drop (i + 1) c.args.x.now)) (row_of (drop (i + 1) c.args.y.now)) p in
    let whole = identical_turn c.args.x.now c.args.y.now c.args.t.now.left i c.loop-i.t.left c.loop-i.invariant a.key d.key (tree_of a.value) (tree_of d.value) m here there (omega (arith, c.in_ok-spend.ensures.charged))
    ∙ ap (λ b. and_then (if b then identical_trees (tree_of a.value) (tree_of d.value) m else (Ok false, m)) rest) (sym c.same.ensures ∙ c.if-not-same.false)
    ∙ (λ i. and_then (sym c.in_ok-identical.ensures.answer i, sym c.in_ok-identical.ensures.charged i) rest)
    ∙ ap (λ b. and_then (Ok b, c.identical.new.t.left) rest) c.if-not-branch.true in
    λ i. (sym whole i).1

pub identical_entries-returns-clause-charged : goal.identical_entries-returns-clause-charged
identical_entries-returns-clause-charged t c =
    let s = c.x.inside in
    let past : length c.args.x.now ≤ c.loop-i.i = omega (arith, length-pairs s.list.items, s.list.ok, ap length c.x.view_is, c.len-i-end.ensures, c.loop-i-test.false) in
    let whole = identical_end c.args.x.now c.args.y.now c.args.t.now.left c.loop-i.i c.loop-i.t.left c.loop-i.invariant past in
    λ i. (sym whole i).1

pub identical_entries-loop-i-preserved : goal.identical_entries-loop-i-preserved
identical_entries-loop-i-preserved t c =
    let s = c.x.inside in
    let r = c.y.inside in
    let i = c.loop-i.i in
    let a = c.index-a.result.now in
    let d = c.index-b.result.now in
    let within : i < length s.list.items = omega (arith, s.list.ok, c.len-i-end.ensures, c.loop-i-test.true) in
    let within_y : i < length r.list.items = omega (arith, within, length-pairs s.list.items, ap length c.x.view_is, length-pairs r.list.items, ap length c.y.view_is, c.requires) in
    let here : slice_get c.args.x.now i ≡ Some (pair_of a) = ap (λ es. slice_get es i) (sym c.x.view_is) ∙ pair_at s.list.items i a within c.index-a.ensures in
    let there : slice_get c.args.y.now i ≡ Some (pair_of d) = ap (λ es. slice_get es i) (sym c.y.view_is) ∙ pair_at r.list.items i d within_y c.index-b.ensures in
    let m = c.spend.new.self.left in
    let rest : ℕ → Charged _ = λ p. identical_rows (row_of (drop (i + 1) c.args.x.now)) (row_of (drop (i + 1) c.args.y.now)) p in
    let whole = identical_turn c.args.x.now c.args.y.now c.args.t.now.left i c.loop-i.t.left c.loop-i.invariant a.key d.key (tree_of a.value) (tree_of d.value) m here there (omega (arith, c.in_ok-spend.ensures.charged))
    ∙ ap (λ b. and_then (if b then identical_trees (tree_of a.value) (tree_of d.value) m else (Ok false, m)) rest) (sym c.same.ensures ∙ c.if-not-same.false)
    ∙ (λ i. and_then (sym c.in_ok-identical.ensures.answer i, sym c.in_ok-identical.ensures.charged i) rest)
    ∙ ap (λ b. and_then (Ok b, c.identical.new.t.left) rest) c.if-not-branch.false in
    whole

pub identical_entries-index-a-requires : goal.identical_entries-index-a-requires
identical_entries-index-a-requires t c = omega (arith, c.len-i-end.ensures, c.loop-i-test.true)

pub identical_entries-index-b-requires : goal.identical_entries-index-b-requires
identical_entries-index-b-requires t c =
    let s = c.x.inside in
    let r = c.y.inside in
    omega (arith, length-pairs s.list.items, s.list.ok, ap length c.x.view_is, length-pairs r.list.items, r.list.ok, ap length c.y.view_is, c.requires, c.len-i-end.ensures, c.loop-i-test.true)
