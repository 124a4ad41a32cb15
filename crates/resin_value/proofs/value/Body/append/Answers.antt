use Rattle.std.proofs.Common.{◌≡◌, ap, sym, ◌∙◌, ◌++◌, ◌∷◌, [], Some, max, w64}
use Rattle.std.proofs.lemmas.Int.{to_z-of_z}
use Rattle.resin_value.specs.declared.key.Key.TheVariants.{Int}
use Rattle.resin_value.specs.Seen.{tree_of}
use Rattle.resin_value.specs.Changes.{put_at, largest_with, raised}
use Rattle.resin_value.proofs.Pairs.{put_last}
use Rattle.resin_value.proofs.Keeps.{next_largest}
use Rattle.resin_value.proofs.value.Body.append.Goals as goal

pub returns-clause-ok : goal.returns-clause-ok
returns-clause-ok c =
    let same = to_z-of_z w64 c.args.n c.ranges.n in
    let t = tree_of c.args.v in
    let b = c.args.self.now in
    let entries : c.push.new.self ≡ put_at (Int c.args.n) t b.entries =
    c.in_ok-push.ensures.ok ∙ ap (λ n. b.entries ++ (Int n, t) ∷ []) same ∙ sym (put_last (Int c.args.n) t b.entries c.requires.fresh) in
    let largest : _ ≡ largest_with (Int c.args.n) b.largest = ap Some same ∙ next_largest b.largest c.args.n c.requires.next in
    let height : _ ≡ raised b.height t = c.max-height.ensures ∙ ap (max b.height) c.height_in.ensures in
    λ i. record { entries = entries i; largest = largest i; height = height i }
