use Rattle.std.proofs.Common.{◌++◌, ◌-◌, length, take, sym, ap, subst, ◌∙◌}
use Rattle.std.specs.Prelude.{List}
use Rattle.std.proofs.lemmas.Bool.{true≢false}
use Rattle.resin_lstr.specs.declared.text.Run.{Run}
use Rattle.resin_lstr.specs.Runs.{last_end, shifted, Meet, AreJoined}
use Rattle.resin_lstr.proofs.Joins.{joined_apart, joined_met}
use Rattle.resin_lstr.proofs.runs.extend_runs.Goals as goal

pub returns-then-meet-clause-joined : goal.returns-then-meet-clause-joined
returns-then-meet-clause-joined c =
    let out = c.args.out.now.items in
    let more = c.args.more.now in
    let by = c.end_of-2.result in
    let is = c.end_of-2.ensures ∙ ap (last_end 0) c.deref-2.ensures.value in
    let met = subst (λ (rs : List Run). Meet rs c.args.more.now) c.deref-3.ensures.value (c.meet.ensures.0 c.if-meet.true) in
    subst (AreJoined out more) (sym (c.in_ok-replace_last.ensures.ok ∙ ap (λ qs. take (length out - 1) out ++ qs) c.in_ok-tail.ensures))
    (joined_met out more by c.requires.coalesced c.requires.more_coalesced is met)

pub returns-clause-joined : goal.returns-clause-joined
returns-clause-joined c =
    let out = c.args.out.now.items in
    let more = c.args.more.now in
    let by = c.end_of-2.result in
    let is = c.end_of-2.ensures ∙ ap (last_end 0) c.deref-2.ensures.value in
    subst (AreJoined out more) (sym (c.in_ok-append.ensures.items ∙ ap (λ qs. out ++ qs) c.in_ok-tail.ensures))
    (joined_apart out more by c.requires.coalesced c.requires.more_coalesced is
    (λ m. true≢false (sym (c.meet.ensures.1 (subst (λ (rs : List Run). Meet rs c.args.more.now) (sym c.deref-3.ensures.value) m)) ∙ c.if-meet.false)))
