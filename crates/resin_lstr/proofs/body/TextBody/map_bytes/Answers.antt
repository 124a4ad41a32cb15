use Rattle.std.proofs.Common.{ℕ, ◌≡◌, ◌∙◌, ap, sym, subst, get_or, length}
use Rattle.std.specs.List.{zip}
use Rattle.std.specs.Prelude.{map, IfOk}
use Rattle.std.proofs.lemmas.List.{length-map}
use Rattle.resin_label.specs.Sets.{NumberSet}
use Rattle.resin_lstr.specs.Texts.{Text, sets_of, mapped}
use Rattle.resin_lstr.specs.Runs.{spell}
use Rattle.resin_lstr.proofs.Zips.{long, sets_text, zip-map_first}
use Rattle.resin_lstr.proofs.body.TextBody.map_bytes.Goals as goal

pub with_bytes-requires : goal.with_bytes-requires
with_bytes-requires c =
    let f : ℕ → ℕ = λ b. get_or c.args.table.now b 0 in
    ap length (c.in_ok-by_table.ensures ∙ ap (map f) c.as_slice.ensures) ∙ length-map c.self.inside.bytes f ∙ long _ _ c.self.invariant c.self.view_is

pub returns : goal.returns
returns c =
    let f : ℕ → ℕ = λ b. get_or c.args.table.now b 0 in
    let is =
    ap (λ bs. zip bs (sets_of c.args.self.now)) (c.in_ok-by_table.ensures ∙ ap (map f) c.as_slice.ensures)
    ∙ ap (zip (map f c.self.inside.bytes)) (sym (ap sets_of c.self.view_is) ∙ sets_text _ _ c.self.invariant)
    ∙ zip-map_first f c.self.inside.bytes (spell 0 c.self.inside.runs)
    ∙ ap (map (λ (p : ℕ × NumberSet). (f p.0, p.1))) c.self.view_is in
    subst (λ (x : Text). IfOk c.with_bytes.result (λ t. t ≡ x)) is c.with_bytes.ensures
