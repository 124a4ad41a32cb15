use Rattle.std.proofs.Common.{◌≡◌, ◌+◌, ◌-◌, ◌++◌, ℕ, List, refl, length, take, length-drop, length-append, drop, get_or, ap, ◌∙◌, sym, arith}
use Rattle.std.specs.Prelude.{slice_range, position}
use Rattle.std.proofs.lemmas.Result.{err_from_is_err_and}
use Rattle.resin_label.specs.Sets.{empty}
use Rattle.resin_lstr.specs.Texts.{sets_of}
use Rattle.resin_lstr.proofs.Pieces.{all_behind, fault_front}
use Rattle.resin_escape_fn.specs.LineBreaks.{is_line_byte, break_len, break_tag, with_breaks}
use Rattle.resin_escape_fn.proofs.Walk.{length-bytes_of}
use Rattle.resin_escape_fn.proofs.Breaks.{broken_step, broken_end}
use Rattle.resin_escape_fn.proofs.line_breaks.broken.Goals as goal

here : (bs : List ℕ) (from : ℕ) → position is_line_byte (drop from bs) ≡ position is_line_byte (take (length bs - from) (drop from bs))
here bs from = ap (position is_line_byte) (sym (all_behind bs from))

pub returns-in_err-out : goal.returns-in_err-out
returns-in_err-out c =
    let t = c.args.s.now in
    let from = c.loop-skipped.from in
    let skipped = c.in-Some.skipped in
    let len = c.line_end_len.result in
    let s = get_or (sets_of t) (from + skipped) empty in
    let piece = ((c.loop-skipped.out ++ slice_range t from (from + skipped)) ++ break_tag s) ++ slice_range t (from + skipped) ((from + skipped) + len) in
    let p = err_from_is_err_and c.from_residual.result c.from_residual.ensures.1 in
    rw (p.1, p.2)
    (fault_front _ piece (with_breaks t)
    (omega (
      arith,
      ap length (broken_step t c.bytes-bytes.result.now from skipped len s c.loop-skipped.out c.bytes-bytes.ensures (here c.bytes-bytes.result.now from ∙ sym c.in-Some.ensures.place) (c.line_end_len.ensures.len ∙ ap break_len (all_behind c.bytes-bytes.result.now (from + skipped))) refl ∙ c.loop-skipped.invariant.is),
      length-append piece (with_breaks (drop ((from + skipped) + len) t)),
    ))
    c.in_err-out.ensures)

pub loop-skipped-preserved : goal.loop-skipped-preserved
loop-skipped-preserved c =
    let t = c.args.s.now in
    let from = c.loop-skipped.from in
    let skipped = c.in-Some.skipped in
    let len = c.line_end_len.result in
    let s = get_or (sets_of t) (from + skipped) empty in
    record {
      is = ap (λ v. v ++ with_breaks (drop ((from + skipped) + len) t)) c.in_ok-out.ensures.0
          ∙ broken_step t c.bytes-bytes.result.now from skipped len s c.loop-skipped.out c.bytes-bytes.ensures (here c.bytes-bytes.result.now from ∙ sym c.in-Some.ensures.place) (c.line_end_len.ensures.len ∙ ap break_len (all_behind c.bytes-bytes.result.now (from + skipped))) refl
          ∙ c.loop-skipped.invariant.is;
      within = omega (
        arith,
        c.in-Some.ensures.within,
        c.line_end_len.ensures.within,
        ap length (all_behind c.bytes-bytes.result.now from),
        ap length (all_behind c.bytes-bytes.result.now (from + skipped)),
        length-drop from c.bytes-bytes.result.now,
        length-drop (from + skipped) c.bytes-bytes.result.now,
        ap length c.bytes-bytes.ensures,
        length-bytes_of t,
        c.len-len.ensures.value,
      );
    }

pub returns-in_err-out-2 : goal.returns-in_err-out-2
returns-in_err-out-2 c =
    let p = err_from_is_err_and c.from_residual-in_err-out-2.result c.from_residual-in_err-out-2.ensures.1 in
    rw (p.1, p.2)
    (fault_front _ (c.loop-skipped.out ++ slice_range c.args.s.now c.loop-skipped.from c.len-len.result) (with_breaks c.args.s.now)
    (omega (arith, ap length (broken_end c.args.s.now c.bytes-bytes.result.now c.loop-skipped.from c.len-len.result c.loop-skipped.out c.bytes-bytes.ensures (here c.bytes-bytes.result.now c.loop-skipped.from ∙ sym c.in_default.ensures.place) c.len-len.ensures.value c.loop-skipped.invariant.is)))
    c.in_err-out-2.ensures)

pub returns : goal.returns
returns c =
    let whole = broken_end c.args.s.now c.bytes-bytes.result.now c.loop-skipped.from c.len-len.result c.loop-skipped.out c.bytes-bytes.ensures (here c.bytes-bytes.result.now c.loop-skipped.from ∙ sym c.in_default.ensures.place) c.len-len.ensures.value c.loop-skipped.invariant.is in
    (c.in_ok-finish.ensures ∙ c.in_ok-out-2.ensures.0 ∙ whole, omega (arith, ap length whole, c.in_ok-out-2.ensures.1))
