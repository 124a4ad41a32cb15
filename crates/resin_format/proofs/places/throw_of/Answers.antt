use Rattle.std.proofs.Common.{◌≡◌, ◌-◌, ◌∷◌, suc, length, drop, get_or, ap, ◌∙◌, sym, arith}
use Rattle.resin_label.specs.Sets.{empty}
use Rattle.resin_lstr.specs.Texts.{sets_of}
use Rattle.resin_escape_fn.proofs.Walk.{length-bytes_of}
use Rattle.resin_format.specs.declared.form.Form.{Form}
use Rattle.resin_format.specs.declared.form.Form.TheVariants.{Convert}
use Rattle.resin_format.specs.Directives.{formed, directives_from, thrown}
use Rattle.resin_format.proofs.Steps.{thrown_next, thrown_last}
use Rattle.resin_format.proofs.places.throw_of.Goals as goal

pub returns-in-Wrong : goal.returns-in-Wrong
returns-in-Wrong c =
    let rest = directives_from 0 (drop c.in-Some.found.end c.args.format.now) in
    sym (thrown_next c.args.format.now c.bytes-bytes.result.now c.loop-found.at c.in-Some.found c.bytes-bytes.ensures c.in-Some.ensures c.loop-found.left ∙ ap (λ (k : Form). thrown (formed k (get_or (sets_of c.args.format.now) c.in-Some.found.percent empty) ∷ rest) c.loop-found.left) c.in-Wrong.is) ∙ c.loop-found.invariant.is

pub returns-then-left-eq0 : goal.returns-then-left-eq0
returns-then-left-eq0 c =
    let rest = directives_from 0 (drop c.in-Some.found.end c.args.format.now) in
    let s = get_or (sets_of c.args.format.now) c.in-Some.found.percent empty in
    sym (
    thrown_next c.args.format.now c.bytes-bytes.result.now c.loop-found.at c.in-Some.found c.bytes-bytes.ensures c.in-Some.ensures c.loop-found.left
    ∙ ap (λ (k : Form). thrown (formed k s ∷ rest) c.loop-found.left) c.in-Convert.is
    ∙ ap (λ n. thrown (formed (Convert c.in-Convert.field-0) s ∷ rest) n) c.if-left-eq0.true
    )
    ∙ c.loop-found.invariant.is

pub loop-found-preserved-in-Percent : goal.loop-found-preserved-in-Percent
loop-found-preserved-in-Percent c =
    let rest = directives_from 0 (drop c.in-Some.found.end c.args.format.now) in
    record {
      is = sym (thrown_next c.args.format.now c.bytes-bytes.result.now c.loop-found.at c.in-Some.found c.bytes-bytes.ensures c.in-Some.ensures c.loop-found.left ∙ ap (λ (k : Form). thrown (formed k (get_or (sets_of c.args.format.now) c.in-Some.found.percent empty) ∷ rest) c.loop-found.left) c.in-Percent.is)
          ∙ c.loop-found.invariant.is;
      within = omega (arith, c.in-Some.ensures.within, ap length c.bytes-bytes.ensures, length-bytes_of c.args.format.now);
    }

pub loop-found-preserved : goal.loop-found-preserved
loop-found-preserved c =
    let rest = directives_from 0 (drop c.in-Some.found.end c.args.format.now) in
    let s = get_or (sets_of c.args.format.now) c.in-Some.found.percent empty in
    let more : c.loop-found.left ≡ suc (c.loop-found.left - 1) = omega arith in
    record {
      is = sym (
          thrown_next c.args.format.now c.bytes-bytes.result.now c.loop-found.at c.in-Some.found c.bytes-bytes.ensures c.in-Some.ensures c.loop-found.left
          ∙ ap (λ (k : Form). thrown (formed k s ∷ rest) c.loop-found.left) c.in-Convert.is
          ∙ ap (λ n. thrown (formed (Convert c.in-Convert.field-0) s ∷ rest) n) more
          )
          ∙ c.loop-found.invariant.is;
      within = omega (arith, c.in-Some.ensures.within, ap length c.bytes-bytes.ensures, length-bytes_of c.args.format.now);
    }

pub returns : goal.returns
returns c =
    sym (thrown_last c.args.format.now c.bytes-bytes.result.now c.loop-found.at c.bytes-bytes.ensures c.in_default.ensures c.loop-found.left) ∙ c.loop-found.invariant.is
