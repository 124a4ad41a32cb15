use Rattle.std.proofs.Common.{◌≡◌, ◌++◌, Ok, length, take, drop, sym, ap, ◌∙◌}
use Rattle.std.specs.Prelude.{map, min}
use Rattle.std.specs.List.{zip}
use Rattle.std.specs.Char.{to_ascii_uppercase}
use Rattle.resin_lstr.specs.Texts.{bytes_of, sets_of}
use Rattle.resin_text_fn.proofs.Zipped.{zip_first}
use Rattle.resin_text_fn.proofs.letters.ucfirst.Goals as goal

pub returns : goal.returns
returns c =
    let m = c.min.result in
    let count : c.min.result ≡ min (length c.args.s.now) 1 = c.min.ensures ∙ ap (λ n. min n 1) c.len.ensures.value in
    let front = c.in_ok-bytes.ensures ∙ ap (map to_ascii_uppercase) (c.split_at.ensures.front ∙ ap (take m) c.bytes.ensures) in
    let back = c.split_at.ensures.back ∙ ap (drop m) c.bytes.ensures in
    let items = c.in_ok-extend_from_slice.ensures.items
    ∙ ap (λ xs. xs ++ c.split_at.result.1.now) front
    ∙ ap (λ ys. map to_ascii_uppercase (take m (bytes_of c.args.s.now)) ++ ys) back in
    ap Ok (sym (c.in_ok-with_bytes.ensures ∙ ap (λ bs. zip bs (sets_of c.args.s.now)) items ∙ zip_first c.args.s.now m count))
