use Rattle.std.proofs.Common.{◌≤◌, w64, Ok, length, sym, ap, ◌∙◌, arith}
use Rattle.std.specs.Prelude.{pos}
use Rattle.std.proofs.lemmas.Bool.{cond-false}
use Rattle.std.proofs.lemmas.List.{length-map}
use Rattle.std.proofs.lemmas.Int.{to_z_pos}
use Rattle.resin_lstr.specs.Texts.{bytes_of}
use Rattle.resin_text_fn.specs.Matches.{matched_parts}
use Rattle.resin_text_fn.proofs.search.substr_count.Goals as goal

pub count_of-requires : goal.count_of-requires
count_of-requires c = record {
  short = omega (arith, ap length c.bytes.ensures, length-map c.args.haystack.now (λ p. p.0), c.len-len.ensures.value, c.len-len.ensures.short);
}

pub returns : goal.returns
returns c =
    let small = c.count_of.ensures.bound in
    let long : length c.bytes.result.now ≤ 16777216 = omega (arith, ap length c.bytes.ensures, length-map c.args.haystack.now (λ p. p.0), c.len-len.ensures.value, c.len-len.ensures.short) in
    ap Ok (to_z_pos w64 c.count_of.result (omega (arith, small, long)))
    ∙ ap (λ n. Ok (pos n)) (c.count_of.ensures.value
    ∙ ap (λ bs. length (matched_parts bs c.bytes-2.result.now)) c.bytes.ensures
    ∙ ap (λ bs. length (matched_parts (bytes_of c.args.haystack.now) bs)) c.bytes-2.ensures)
    ∙ sym (cond-false _ _ _ (sym c.if-is_empty.ensures))
