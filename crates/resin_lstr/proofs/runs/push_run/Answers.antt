use Rattle.std.proofs.Common.{◌≡◌, ◌<◌, sym, ap, ◌∙◌, arith, ◌-◌}
use Rattle.std.specs.Prelude.{List, Bool, true, false, IsTrue, vec_len}
use Rattle.std.proofs.Common.{subst}
use Rattle.std.proofs.lemmas.Bool.{true≢false}
use Rattle.resin_lstr.specs.declared.text.Run.{Run}
use Rattle.resin_label.specs.Sets.{NumberSet}
use Rattle.resin_lstr.specs.Runs.{spell, last_end, EndsWith}
use Rattle.resin_lstr.proofs.Spelled.{joined_coalesced, joined_spell, last_end_push, spell_push, coalesced_push}
use Rattle.resin_lstr.proofs.runs.push_run.Goals as goal

-- what the test says of the list behind the slice
ends : (s : NumberSet) {rs qs : List Run} {b : Bool} → rs ≡ qs → ((IsTrue b → EndsWith s rs) × (EndsWith s rs → IsTrue b)) → b ≡ true → EndsWith s qs
ends s e is t = subst (EndsWith s) e (is.0 t)

not_ends : (s : NumberSet) {rs qs : List Run} {b : Bool} → rs ≡ qs → ((IsTrue b → EndsWith s rs) × (EndsWith s rs → IsTrue b)) → b ≡ false → EndsWith s qs → ⊥
not_ends s e is f h = true≢false (sym (is.1 (subst (EndsWith s) (sym e) h)) ∙ f)

pub returns-then-ends_with-clause-coalesced : goal.returns-then-ends_with-clause-coalesced
returns-then-ends_with-clause-coalesced c =
    rw (c.in_ok-push.ensures.items, c.pop.ensures.rest) (joined_coalesced c.args.runs.now.items (vec_len c.args.runs.now - 1) (record { end = c.args.end; set = c.args.set }) c.requires.coalesced (ends c.args.set c.deref-2.ensures.value c.ends_with.ensures c.if-ends_with.true) c.requires.rises (omega arith))

pub returns-then-ends_with-clause-spelled : goal.returns-then-ends_with-clause-spelled
returns-then-ends_with-clause-spelled c =
    rw (c.in_ok-push.ensures.items, c.pop.ensures.rest) (joined_spell c.args.runs.now.items (vec_len c.args.runs.now - 1) (record { end = c.args.end; set = c.args.set }) c.requires.coalesced (ends c.args.set c.deref-2.ensures.value c.ends_with.ensures c.if-ends_with.true) c.requires.rises (omega arith))

pub returns-then-ends_with-clause-ends : goal.returns-then-ends_with-clause-ends
returns-then-ends_with-clause-ends c = ap (last_end 0) c.in_ok-push.ensures.items ∙ last_end_push 0 c.pop.new.self.items (record { end = c.args.end; set = c.args.set })

pub returns-clause-coalesced : goal.returns-clause-coalesced
returns-clause-coalesced c =
    let above : last_end 0 c.args.runs.now.items < c.args.end = omega (arith, ap (last_end 0) c.deref.ensures.value, c.end_of.ensures) in
    rw c.in_ok-push-2.ensures.items (coalesced_push 0 c.args.runs.now.items (record { end = c.args.end; set = c.args.set }) c.requires.coalesced above (not_ends c.args.set c.deref-2.ensures.value c.ends_with.ensures c.if-ends_with.false))

pub returns-clause-spelled : goal.returns-clause-spelled
returns-clause-spelled c = ap (spell 0) c.in_ok-push-2.ensures.items ∙ spell_push 0 c.args.runs.now.items (record { end = c.args.end; set = c.args.set })

pub returns-clause-ends : goal.returns-clause-ends
returns-clause-ends c = ap (last_end 0) c.in_ok-push-2.ensures.items ∙ last_end_push 0 c.args.runs.now.items (record { end = c.args.end; set = c.args.set })
