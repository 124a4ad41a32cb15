use mir.Val.{SFits}
use Rattle.resin_eval_queries.specs.Under.lstr.Texts.{bytes_of}
use Rattle.resin_eval_queries.specs.Under.meaning_forms.Files.{to_hold}
use Rattle.resin_eval_queries.proofs.eval_nested_lemmas.Exits.{does_is, does_seen_exit}
use Rattle.resin_eval_queries.proofs.meaning_lemmas.Composition.{does_next}
use Rattle.resin_eval_channels.proofs.Holding.{frozen_length}
use Rattle.std.proofs.Common.{ap, w64, rules, sym, ℤ}
use Rattle.std.proofs.lemmas.Int.{to_z-of_z}
use Rattle.std.specs.Prelude.{zip}
use Rattle.resin_eval_channels.proofs.files.Shelf.put_data.Goals as goal

pub returns-in_err-kept : goal.returns-in_err-kept
returns-in_err-kept g c =
    does_seen_exit _ _ _ _ c.from_residual.ensures.1 c.in_err-kept.ensures

pub returns-in_err-marks : goal.returns-in_err-marks
returns-in_err-marks g c =
    does_next _ _ c.in_ok-kept.ensures (does_seen_exit _ _ _ _ c.from_residual-in_err-marks.ensures.1 (c.in_err-marks.ensures _ _ _))

pub hold-requires : goal.hold-requires
hold-requires g c =
    frozen_length _ _ c.in_ok-marks.ensures

pub returns-in_err-held : goal.returns-in_err-held
returns-in_err-held g c =
    let fits : SFits w64 c.args.flags = search rules in
    does_next _ _ c.in_ok-kept.ensures (does_next _ _ (c.in_ok-marks.ensures _ _ _) (does_seen_exit _ _ _ _ c.from_residual-in_err-held.ensures.1 (does_is (ap (λ (n : ℤ). to_hold c.args.path.now n (zip (bytes_of c.in_ok-kept.kept) c.in_ok-marks.marks)) (sym (to_z-of_z w64 c.args.flags fits))) c.in_err-held.ensures.does)))

pub write_held-requires : goal.write_held-requires
write_held-requires g c =
    c.in_ok-held.ensures.held

pub returns : goal.returns
returns g c =
    let fits : SFits w64 c.args.flags = search rules in
    does_next _ _ c.in_ok-kept.ensures (does_next _ _ (c.in_ok-marks.ensures _ _ _) (does_next _ _ (does_is (ap (λ (n : ℤ). to_hold c.args.path.now n (zip (bytes_of c.in_ok-kept.kept) c.in_ok-marks.marks)) (sym (to_z-of_z w64 c.args.flags fits))) c.in_ok-held.ensures.does) c.write_held.ensures))
