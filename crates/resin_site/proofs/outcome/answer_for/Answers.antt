use Rattle.std.proofs.Common.{sym, ◌∙◌, ◌≡◌, subst}
use Rattle.resin_site.specs.Laws.{IsLawful}
use Rattle.resin_site.specs.Outcomes.{with_parts, outcome}
use Rattle.resin_site.proofs.Lawful.{lawful_parts}
use Rattle.resin_site.proofs.Made.{parts_is, if_ok_map, on_any}
use Rattle.resin_site.proofs.outcome.answer_for.Goals as goal

pub returns : goal.returns
returns c =
    let f = c.finish.ensures in
    let parts = c.with_parts.ensures c.args.m.stage f.status f.headers f.body f.mail f.journal in
    record {
      outcome = if_ok_map c.with_parts.result (λ o. o ≡ with_parts c.args.path.now c.args.head_only c.in_ok-end.end c.args.m.stage) (λ o. o ≡ outcome c.args.path.now c.args.head_only c.args.finish c.args.m)
          (λ o e. e ∙ parts_is c.args.path.now c.args.head_only c.args.finish c.args.m c.in_ok-end.end c.in_ok-end.ensures.end) parts;
      memory = on_any c.with_parts.result c.in_ok-end.ensures.memory;
      lawful = λ tied. if_ok_map c.with_parts.result (λ o. o ≡ with_parts c.args.path.now c.args.head_only c.in_ok-end.end c.args.m.stage) (IsLawful c.args.m.request)
          (λ o e. subst (IsLawful c.args.m.request) (sym e) (lawful_parts c.args.m.request c.args.path.now c.args.head_only c.in_ok-end.end c.args.m.stage f.law tied)) parts;
    }
