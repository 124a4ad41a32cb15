use Rattle.std.proofs.Common.{refl, sym, ap, ◌∙◌, arith, subst, [], Ok, Err}
use Rattle.std.specs.Prelude.{IfOk, ◌≡◌}
use Rattle.std.proofs.lemmas.Result.{err_from_is_err_and}
use Rattle.resin_request.proofs.meaning_lemmas.Composition.{numbered_after}
use Rattle.resin_request.specs.Under.machine.State.{new_state}
use Rattle.resin_request.specs.Under.meaning.Runs.{done, seen, world}
use Rattle.resin_request.specs.Paths.{path_of}
use Rattle.resin_site.specs.Outcomes.{outcome}
use Rattle.resin_site.specs.Replies.{is_head}
use Rattle.resin_site.proofs.Keepers.{passes, blames, counted, made_up, tells, tells_none}
use Rattle.resin_site.proofs.Told.{labelled, as_asked, served_end, served_nothing, lawful_end, ends_end}
use Rattle.resin_site.proofs.serving.answer_one.Goals as goal

-- want of memory before the steps begin
pub returns-in_err-path-clause-served : goal.returns-in_err-path-clause-served
returns-in_err-path-clause-served g c =
    let p = err_from_is_err_and c.from_residual.result c.from_residual.ensures.1 in
    rw p.1 (λ K later. served_nothing c.args.site.now c.args.number c.args.r.now
    (seen (g.F.Files.stored c.args.files.now) (g.F.Files.faults c.args.files.now) (g.F.Files.answers c.args.files.now))
    (seen (g.T.Tables.stored c.args.tables.now) (g.T.Tables.faults c.args.tables.now) (g.T.Tables.answers c.args.tables.now)) c.args.calls.now K p.0)

pub returns-in_err-path-clause-told : goal.returns-in_err-path-clause-told
returns-in_err-path-clause-told g c = ([], tells_none _ _ c.args.calls.now.made c.args.calls.now.failed)

pub returns-in_err-inputs-clause-served : goal.returns-in_err-inputs-clause-served
returns-in_err-inputs-clause-served g c =
    let p = err_from_is_err_and c.from_residual-in_err-inputs.result c.from_residual-in_err-inputs.ensures.1 in
    rw p.1 (λ K later. served_nothing c.args.site.now c.args.number c.args.r.now
    (seen (g.F.Files.stored c.args.files.now) (g.F.Files.faults c.args.files.now) (g.F.Files.answers c.args.files.now))
    (seen (g.T.Tables.stored c.args.tables.now) (g.T.Tables.faults c.args.tables.now) (g.T.Tables.answers c.args.tables.now)) c.args.calls.now K p.0)

pub returns-in_err-inputs-clause-told : goal.returns-in_err-inputs-clause-told
returns-in_err-inputs-clause-told g c = ([], tells_none _ _ c.args.calls.now.made c.args.calls.now.failed)

pub returns-in_err-m-clause-served : goal.returns-in_err-m-clause-served
returns-in_err-m-clause-served g c =
    let p = err_from_is_err_and c.from_residual-in_err-m.result c.from_residual-in_err-m.ensures.1 in
    rw p.1 (λ K later. served_nothing c.args.site.now c.args.number c.args.r.now
    (seen (g.F.Files.stored c.args.files.now) (g.F.Files.faults c.args.files.now) (g.F.Files.answers c.args.files.now))
    (seen (g.T.Tables.stored c.args.tables.now) (g.T.Tables.faults c.args.tables.now) (g.T.Tables.answers c.args.tables.now)) c.args.calls.now K p.0)

pub returns-in_err-m-clause-told : goal.returns-in_err-m-clause-told
returns-in_err-m-clause-told g c = ([], tells_none _ _ c.args.calls.now.made c.args.calls.now.failed)

pub returns : goal.returns
returns g c =
    let f = seen (g.F.Files.stored c.args.files.now) (g.F.Files.faults c.args.files.now) (g.F.Files.answers c.args.files.now) in
    let t = seen (g.T.Tables.stored c.args.tables.now) (g.T.Tables.faults c.args.tables.now) (g.T.Tables.answers c.args.tables.now) in
    let s = c.run-finish in
    let f' = seen (g.F.Files.stored s.new.files) (g.F.Files.faults s.new.files) (g.F.Files.answers s.new.files) in
    let t' = seen (g.T.Tables.stored s.new.tables) (g.T.Tables.faults s.new.tables) (g.T.Tables.answers s.new.tables) in
    let u = world c.in_ok-m.m (labelled f) t c.args.calls.now in
    let w = world s.new.m (labelled f') t' s.new.calls in
    let path : c.as_slice-2.result.now ≡ path_of c.args.r.now.target = c.as_slice-2.ensures.value ∙ c.in_ok-path.ensures ∙ ap path_of c.as_slice.ensures in
    let path-3 : c.as_slice-3.result.now ≡ path_of c.args.r.now.target = c.as_slice-3.ensures.value ∙ sym c.as_slice-2.ensures.value ∙ path in
    let begins : c.in_ok-m.m ≡ new_state c.args.site.now c.args.number = c.in_ok-m.ensures.value ∙ ap (λ n. new_state n c.args.number) c.fuel.ensures in
    let d = as_asked c.args.site.now c.args.number c.args.r.now c.as_slice-2.result.now c.in_ok-inputs.inputs c.in_ok-m.m (labelled f) t c.args.calls.now s.result w path c.in_ok-inputs.ensures begins s.ensures.does in
    let is : IfOk c.answer_for.result (λ o. o ≡ outcome (path_of c.args.r.now.target) (is_head c.args.r.now.method) s.result s.new.m) =
    subst (λ h. IfOk c.answer_for.result (λ o. o ≡ outcome (path_of c.args.r.now.target) h s.result s.new.m)) c.is_head.ensures
    (subst (λ p. IfOk c.answer_for.result (λ o. o ≡ outcome p c.is_head.result s.result s.new.m)) path-3 c.answer_for.ensures.outcome) in
    let up = made_up u w (done s.ensures.does).goes in
    let b = (done s.ensures.does).blames in
    record {
      site = s.ensures.kept;
      numbered = numbered_after s.result u w up b c.requires;
      later = passes s.result u w up b;
      served = λ K k. served_end c.args.site.now c.args.number c.args.r.now f f' t t' c.args.calls.now s.new.calls s.new.m s.result c.requires d K k c.answer_for.result is c.answer_for.ensures.memory;
      lawful = lawful_end c.args.site.now c.args.number _ c.in_ok-m.m s.new.m (labelled f) (labelled f') t t' c.args.calls.now s.new.calls s.result c.answer_for.result begins c.in_ok-m.ensures.tied s.ensures.does
          c.answer_for.ensures.memory c.answer_for.ensures.lawful;
      ends = ends_end (path_of c.args.r.now.target) (is_head c.args.r.now.method) s.new.m u w s.result c.answer_for.result is c.answer_for.ensures.memory b;
      blames = blames s.result u w b;
      counted = counted s.result u w b;
      told = ((done s.ensures.does).goes.calls, tells u w c.requires (done s.ensures.does).goes);
    }
