use Rattle.std.proofs.Common.{Ok, sym, ap, ◌∙◌}
use Rattle.std.specs.Prelude.{map}
use Rattle.std.specs.List.{zip}
use Rattle.std.specs.Char.{to_ascii_lowercase}
use Rattle.resin_lstr.specs.Texts.{sets_of}
use Rattle.resin_text_fn.proofs.Zipped.{zip_mapped}
use Rattle.resin_text_fn.proofs.letters.strtolower.Goals as goal

pub returns : goal.returns
returns c =
    ap Ok (sym (c.in_ok-with_bytes.ensures ∙ ap (λ bs. zip bs (sets_of c.args.s.now)) (c.in_ok-bytes.ensures ∙ ap (map to_ascii_lowercase) c.bytes.ensures)
    ∙ zip_mapped to_ascii_lowercase c.args.s.now))
