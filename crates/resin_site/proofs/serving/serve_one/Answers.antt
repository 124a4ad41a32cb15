use Rattle.std.proofs.Common.{◌≡◌, sym, subst}
use Rattle.resin_site.specs.Laws.{IsLawful}
use Rattle.resin_site.proofs.Framed.{is_framed}
use Rattle.resin_site.proofs.Isolated.{is_isolated}
use Rattle.resin_site.proofs.Made.{if_ok_map}
use Rattle.resin_site.proofs.Told.{served_then, ends_then}
use Rattle.resin_site.proofs.serving.serve_one.Goals as goal

pub returns-in_err-answer-clause-framed : goal.returns-in_err-answer-clause-framed
returns-in_err-answer-clause-framed g c = is_framed c.args.site.now c.args.calls.now.made c.args.number c.args.r.now

pub returns-in_err-answer-clause-isolated : goal.returns-in_err-answer-clause-isolated
returns-in_err-answer-clause-isolated g c = is_isolated c.args.site.now c.args.calls.now.made c.args.number c.args.r.now

pub returns : goal.returns
returns g c =
    let a = c.answer_one.ensures in
    let is = c.into_outcome.ensures in
    record {
      site = a.site;
      numbered = a.numbered;
      later = a.later;
      served = λ K k. served_then _ K _ _ _ c.args.r.now _ _ _ c.in_ok-answer.answer c.into_outcome.result _ _ is (c.in_ok-answer.ensures.served K k);
      lawful = if_ok_map c.into_outcome.result (λ o. o ≡ c.in_ok-answer.answer) (IsLawful c.args.number) (λ o e. subst (IsLawful c.args.number) (sym e) c.in_ok-answer.ensures.lawful) is;
      ends = ends_then _ _ _ c.in_ok-answer.answer c.into_outcome.result is c.in_ok-answer.ensures.ends;
      blames = a.blames;
      counted = a.counted;
      framed = is_framed c.args.site.now c.args.calls.now.made c.args.number c.args.r.now;
      isolated = is_isolated c.args.site.now c.args.calls.now.made c.args.number c.args.r.now;
      told = a.told;
    }
