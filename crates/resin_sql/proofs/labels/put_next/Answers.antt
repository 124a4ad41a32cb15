use Rattle.std.proofs.Common.{◌≡◌, ◌≤◌, ◌+◌, ◌++◌, [], ◌∷◌, true, false, get_or, slice_range, sym, ap, ◌∙◌, arith}
use Rattle.resin_label.specs.Sets.{empty, union}
use Rattle.resin_lstr.specs.Texts.{sets_of, carrying}
use Rattle.resin_sql.specs.Labels.{begins_doubled, unquoted}
use Rattle.resin_sql.proofs.Quotes.{put_doubled, put_plain}
use Rattle.resin_sql.proofs.labels.put_next.Goals as goal

pub returns-in_ok-longer : goal.returns-in_ok-longer
returns-in_ok-longer c =
    let d = c.args.text.now in
    let room : c.args.at + 2 ≤ c.args.to = c.is_doubled.ensures.room c.if-is_doubled.true in
    let front : begins_doubled (slice_range d c.args.at c.args.to) ≡ true = sym c.is_doubled.ensures.value ∙ c.if-is_doubled.true in
    let h = put_doubled c.args.out d c.args.at c.args.to room c.requires.within front in
    let first : c.set_at.result.now ≡ get_or (sets_of d) c.args.at empty = c.set_at.ensures in
    let second : c.set_at-then-is_doubled.result.now ≡ get_or (sets_of d) (c.args.at + 1) empty = c.set_at-then-is_doubled.ensures in
    let sets : c.in_ok-both.both ≡ union (get_or (sets_of d) c.args.at empty) (get_or (sets_of d) (c.args.at + 1) empty) =
    c.in_ok-both.ensures ∙ ap (λ s. union s c.set_at-then-is_doubled.result.now) first ∙ ap (λ s. union (get_or (sets_of d) c.args.at empty) s) second in
    let e : c.in_ok-longer.longer ≡ c.args.out ++ carrying (union (get_or (sets_of d) c.args.at empty) (get_or (sets_of d) (c.args.at + 1) empty)) (39 ∷ []) =
    c.in_ok-longer.ensures.0 ∙ ap (λ s. c.args.out ++ carrying s (39 ∷ [])) sets in
    (omega arith, room, ap (λ x. x ++ unquoted (slice_range d (c.args.at + 2) c.args.to)) e ∙ h)

pub returns-in_ok-longer-2 : goal.returns-in_ok-longer-2
returns-in_ok-longer-2 c =
    let d = c.args.text.now in
    let front : begins_doubled (slice_range d c.args.at c.args.to) ≡ false = sym c.is_doubled.ensures.value ∙ c.if-is_doubled.false in
    let h = put_plain c.args.out d c.args.at c.args.to c.requires.before c.requires.within front in
    (omega arith, omega arith, ap (λ x. x ++ unquoted (slice_range d (c.args.at + 1) c.args.to)) c.in_ok-longer-2.ensures.0 ∙ h)
