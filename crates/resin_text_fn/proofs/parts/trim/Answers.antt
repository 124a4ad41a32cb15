use Rattle.std.proofs.Common.{Ok, ◌-◌, length, drop, sym, ap, ◌∙◌}
use Rattle.std.specs.List.{prefix_len, suffix_len}
use Rattle.resin_lstr.specs.Texts.{bytes_of}
use Rattle.resin_text_fn.specs.Rows.{is_among}
use Rattle.resin_lstr.proofs.Pieces.{all_behind}
use Rattle.resin_text_fn.proofs.Trims.{trim_is}
use Rattle.resin_text_fn.proofs.parts.trim.Goals as goal

pub returns : goal.returns
returns c =
    let start = c.front_len-start.result in
    ap Ok (sym (c.in_ok-slice.ensures ∙ trim_is c.args.s.now c.args.chars.now start c.kept_len-kept.result
    (c.front_len-start.ensures.value ∙ ap (λ cs. prefix_len (is_among cs) c.bytes.result.now) c.bytes-2.ensures ∙ ap (prefix_len (is_among (bytes_of c.args.chars.now))) c.bytes.ensures)
    (c.kept_len-kept.ensures.value
    ∙ ap (λ xs. length xs - suffix_len (is_among c.bytes-4.result.now) xs) (all_behind c.bytes-3.result.now start ∙ ap (drop start) c.bytes-3.ensures)
    ∙ ap (λ cs. length (drop start (bytes_of c.args.s.now)) - suffix_len (is_among cs) (drop start (bytes_of c.args.s.now))) c.bytes-4.ensures)))
