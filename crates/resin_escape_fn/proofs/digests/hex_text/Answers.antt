use Rattle.std.proofs.Common.{◌≡◌, length, ap, ◌∙◌, arith}
use Rattle.hex.specs.Hex.{encode_lower, lower_digits}
use Rattle.hex.proofs.HexLemmas.{length-encode_with}
use Rattle.resin_lstr.specs.Texts.{carrying}
use Rattle.resin_lstr.proofs.Pieces.{length-carrying}
use Rattle.resin_escape_fn.proofs.Short.{short_answer}
use Rattle.resin_escape_fn.proofs.digests.hex_text.Goals as goal

pub returns : goal.returns
returns c =
    let digits : c.as_bytes.result.now ≡ encode_lower c.args.digest.now = c.as_bytes.ensures.value ∙ c.in_ok-digits.ensures in
    short_answer c.text_answer.result (carrying c.args.set.now c.as_bytes.result.now) (carrying c.args.set.now (encode_lower c.args.digest.now))
    (ap (carrying c.args.set.now) digits)
    (omega (arith, length-carrying c.args.set.now c.as_bytes.result.now, ap length digits, length-encode_with lower_digits c.args.digest.now))
    (c.text_answer.ensures (carrying c.args.set.now c.as_bytes.result.now) c.with_set.ensures)
