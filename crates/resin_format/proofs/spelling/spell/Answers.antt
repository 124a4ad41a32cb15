use Rattle.std.proofs.Common.{◌++◌, length, length-append, drop, get_or, ap, ◌∙◌, arith}
use Rattle.std.specs.Prelude.{slice_range}
use Rattle.std.proofs.lemmas.Result.{err_from_is_err_and}
use Rattle.resin_label.specs.Sets.{empty}
use Rattle.resin_lstr.specs.Texts.{sets_of}
use Rattle.resin_lstr.proofs.Pieces.{fault_front}
use Rattle.resin_escape_fn.proofs.Walk.{length-bytes_of}
use Rattle.resin_format.specs.Directives.{directives, directives_from}
use Rattle.resin_format.specs.Formats.{spelled, form_text, args_behind}
use Rattle.resin_format.proofs.Steps.{spelled_step, spelled_end}
use Rattle.resin_format.proofs.spelling.spell.Goals as goal

pub returns-in_err-out : goal.returns-in_err-out
returns-in_err-out c =
    let piece = (c.loop-found.out ++ slice_range c.args.f.now c.loop-found.at c.in-Some.found.percent) ++ form_text c.in-Some.found.form (get_or (sets_of c.args.f.now) c.in-Some.found.percent empty) c.loop-found.arguments.now in
    let whole = spelled (directives c.args.f.now) c.args.args.now in
    let p = err_from_is_err_and c.from_residual.result c.from_residual.ensures.1 in
    rw (p.1, p.2)
    (fault_front _ piece whole
    (omega (
      arith,
      ap length (spelled_step c.args.f.now c.bytes-bytes.result.now c.loop-found.at c.in-Some.found c.bytes-bytes.ensures c.in-Some.ensures c.loop-found.out c.loop-found.arguments.now ∙ c.loop-found.invariant.is),
      length-append piece (spelled (directives_from 0 (drop c.in-Some.found.end c.args.f.now)) (args_behind c.in-Some.found.form c.loop-found.arguments.now)),
    ))
    c.in_err-out.ensures)

pub loop-found-preserved : goal.loop-found-preserved
loop-found-preserved c =
    let rest = directives_from 0 (drop c.in-Some.found.end c.args.f.now) in
    record {
      is = ap (λ v. v ++ spelled rest c.arguments_behind-arguments.result.now) c.in_ok-out.ensures.0
          ∙ ap (λ args. ((c.loop-found.out ++ slice_range c.args.f.now c.loop-found.at c.in-Some.found.percent) ++ form_text c.in-Some.found.form (get_or (sets_of c.args.f.now) c.in-Some.found.percent empty) c.loop-found.arguments.now) ++ spelled rest args) c.arguments_behind-arguments.ensures
          ∙ spelled_step c.args.f.now c.bytes-bytes.result.now c.loop-found.at c.in-Some.found c.bytes-bytes.ensures c.in-Some.ensures c.loop-found.out c.loop-found.arguments.now
          ∙ c.loop-found.invariant.is;
      within = omega (arith, c.in-Some.ensures.within, ap length c.bytes-bytes.ensures, length-bytes_of c.args.f.now);
    }

pub returns-in_err-out-2 : goal.returns-in_err-out-2
returns-in_err-out-2 c =
    let whole = spelled (directives c.args.f.now) c.args.args.now in
    let p = err_from_is_err_and c.from_residual-in_err-out-2.result c.from_residual-in_err-out-2.ensures.1 in
    rw (p.1, p.2)
    (fault_front _ (c.loop-found.out ++ slice_range c.args.f.now c.loop-found.at c.len-len.result) whole
    (omega (arith, ap length (spelled_end c.args.f.now c.bytes-bytes.result.now c.loop-found.at c.bytes-bytes.ensures c.in_default.ensures c.len-len.result c.loop-found.out c.loop-found.arguments.now c.len-len.ensures.value ∙ c.loop-found.invariant.is)))
    c.in_err-out-2.ensures)

pub returns : goal.returns
returns c =
    let whole = spelled_end c.args.f.now c.bytes-bytes.result.now c.loop-found.at c.bytes-bytes.ensures c.in_default.ensures c.len-len.result c.loop-found.out c.loop-found.arguments.now c.len-len.ensures.value ∙ c.loop-found.invariant.is in
    (c.in_ok-finish.ensures ∙ c.in_ok-out-2.ensures.0 ∙ whole, omega (arith, ap length whole, c.in_ok-out-2.ensures.1))
