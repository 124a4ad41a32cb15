use Rattle.std.proofs.Common.{◌++◌, [], ◌∷◌, length, drop, get_or, ap, ◌∙◌, sym, arith, append_assoc}
use Rattle.resin_label.specs.Sets.{empty}
use Rattle.resin_lstr.specs.Texts.{sets_of}
use Rattle.resin_escape_fn.proofs.Walk.{length-bytes_of}
use Rattle.resin_format.specs.declared.form.Form.{Form}
use Rattle.resin_format.specs.Directives.{formed, directives_from, kinds}
use Rattle.resin_format.proofs.Steps.{kinds_next, kinds_last, append_none}
use Rattle.resin_format.proofs.places.argument_kinds.Goals as goal

pub loop-found-preserved-in-Percent : goal.loop-found-preserved-in-Percent
loop-found-preserved-in-Percent c =
    let rest = directives_from 0 (drop c.in-Some.found.end c.args.format.now) in
    let s = get_or (sets_of c.args.format.now) c.in-Some.found.percent empty in
    record {
      is = ap (λ ks. c.loop-found.list ++ ks) (sym (kinds_next c.args.format.now c.bytes-bytes.result.now c.loop-found.at c.in-Some.found c.bytes-bytes.ensures c.in-Some.ensures ∙ ap (λ (k : Form). kinds (formed k s ∷ rest)) c.in-Percent.is)) ∙ c.loop-found.invariant.is;
      within = omega (arith, c.in-Some.ensures.within, ap length c.bytes-bytes.ensures, length-bytes_of c.args.format.now);
    }

pub loop-found-preserved : goal.loop-found-preserved
loop-found-preserved c =
    let rest = directives_from 0 (drop c.in-Some.found.end c.args.format.now) in
    let s = get_or (sets_of c.args.format.now) c.in-Some.found.percent empty in
    record {
      is = ap (λ ks. c.loop-found.list ++ ks) (sym (kinds_next c.args.format.now c.bytes-bytes.result.now c.loop-found.at c.in-Some.found c.bytes-bytes.ensures c.in-Some.ensures ∙ ap (λ (k : Form). kinds (formed k s ∷ rest)) c.in-Wrong.is)) ∙ c.loop-found.invariant.is;
      within = omega (arith, c.in-Some.ensures.within, ap length c.bytes-bytes.ensures, length-bytes_of c.args.format.now);
    }

pub loop-found-preserved-in_ok-push-in-Convert : goal.loop-found-preserved-in_ok-push-in-Convert
loop-found-preserved-in_ok-push-in-Convert c =
    let rest = directives_from 0 (drop c.in-Some.found.end c.args.format.now) in
    let s = get_or (sets_of c.args.format.now) c.in-Some.found.percent empty in
    record {
      is = ap (λ ks. ks ++ kinds rest) c.in_ok-push-in-Convert.ensures.ok
          ∙ append_assoc c.loop-found.list (c.in-Convert.conversion.kind ∷ []) (kinds rest)
          ∙ ap (λ ks. c.loop-found.list ++ ks) (sym (kinds_next c.args.format.now c.bytes-bytes.result.now c.loop-found.at c.in-Some.found c.bytes-bytes.ensures c.in-Some.ensures ∙ ap (λ (k : Form). kinds (formed k s ∷ rest)) c.in-Convert.is))
          ∙ c.loop-found.invariant.is;
      within = omega (arith, c.in-Some.ensures.within, ap length c.bytes-bytes.ensures, length-bytes_of c.args.format.now);
    }

pub returns : goal.returns
returns c =
    append_none c.loop-found.list ∙ ap (λ ks. c.loop-found.list ++ ks) (sym (kinds_last c.args.format.now c.bytes-bytes.result.now c.loop-found.at c.bytes-bytes.ensures c.in_default.ensures)) ∙ c.loop-found.invariant.is
