use Rattle.std.proofs.Common.{refl, sym, ap, subst, ◌∙◌}
use Rattle.resin_site.specs.Under.base.declared.calls.Calls.{Calls}
use Rattle.resin_site.specs.Keeping.{Later, answers, store_of}
use Rattle.resin_serve.specs.Ran.{world}
use Rattle.resin_serve.specs.Kept.{Kept, keepers}
use Rattle.resin_site.specs.Under.base.Numbering.{AreNumbered}
use Rattle.resin_serve.proofs.Runs.{ran_amid, ran_gave}
use Rattle.resin_serve.proofs.Request_kept.{request_kept}
use Rattle.resin_serve.proofs.run.serve_request.Goals as goal

pub returns-in_default-clause-kept : goal.returns-in_default-clause-kept
returns-in_default-clause-kept g c =
    let e = c.answer_one-served.ensures in
    request_kept _ _ _ _ _ _ _ _ _ _ _ _ c.requires e.blames e.counted e.told

pub returns-in_default-clause-ran : goal.returns-in_default-clause-ran
returns-in_default-clause-ran g c = λ place K k. ran_amid _ _ K _ _ _ place _ c.in_default.field-0 _ _ refl refl refl (c.in_default.ensures.served K k) k

pub returns : goal.returns
returns g c =
    let s = c.answer_one-served.ensures in
    let e = c.give_reply.ensures in
    record {
      same = (e.same.0 ∙ ap (λ x. record { site = x; logging = c.args.run.now.service.logging }) s.site, e.same.1);
      numbered = subst AreNumbered (sym e.same.2) s.numbered;
      kept = subst (λ (x : Calls). Kept (keepers c.args.run.now.calls.made c.args.run.now.calls.failed (g.F.Files.answers c.args.files.now) (g.F.Files.faults c.args.files.now) (g.T.Tables.answers c.args.tables.now) (g.T.Tables.faults c.args.tables.now))
          (keepers x.made x.failed (g.F.Files.answers c.answer_one-served.new.files) (g.F.Files.faults c.answer_one-served.new.files) (g.T.Tables.answers c.answer_one-served.new.tables) (g.T.Tables.faults c.answer_one-served.new.tables))) (sym e.same.2)
          (request_kept _ _ _ _ _ _ _ _ _ _ _ _ c.requires s.blames s.counted s.told);
      ran = λ place K k. ran_gave _ _ _ K _ _ _ place _ c.in-Ok.reply _
          (world (g.L.Sink.written c.args.log.now) (g.M.Sink.written c.args.mail.now) (g.O.Sink.written c.args.out.now) (store_of (g.F.Files.stored c.answer_one-served.new.files) (g.T.Tables.stored c.answer_one-served.new.tables)) (answers (g.F.Files.answers c.answer_one-served.new.files) (g.T.Tables.answers c.answer_one-served.new.tables)) c.answer_one-served.new.calls.made)
          _ refl c.in-Ok.ensures.lawful (e.told c.in-Ok.ensures.lawful.classes) (e.gave _ _ _ _ _ _)
          (c.in-Ok.ensures.served K (subst (λ (x : Calls). Later x.made x.failed K) e.same.2 k)) refl refl (ap (λ (x : Calls). x.made) e.same.2)
          (subst (λ (x : Calls). Later c.give_reply.new.run.calls.made x.failed K) e.same.2 k);
      number = e.number;
      cause = e.cause;
    }
