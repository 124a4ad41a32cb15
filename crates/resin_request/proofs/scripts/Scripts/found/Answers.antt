use Rattle.std.proofs.Common.{◌≡◌, sym, ap, ◌∙◌}
use Rattle.std.specs.Map.{lookup}
use Rattle.std.specs.Str.{bytes_eq}
use Rattle.resin_request.proofs.Kept_scripts.{meant_found, meant_promoted}
use Rattle.resin_request.proofs.scripts.Scripts.found.Goals as goal
use Rattle.resin_request.proofs.scripts.Scripts.found.Goals.{in-Some+in_ok-clone-in-Some, in-None}

pub invariant_of-self : goal.invariant_of-self
invariant_of-self c = rw c.get.follows.holds-at-none (meant_promoted _ _ c.self.invariant)

pub invariant_of-self-2 : goal.invariant_of-self-2
invariant_of-self-2 c = elim c.match-get.branch [
  | in-Some+in_ok-clone-in-Some w ↦ rw (w.self-inside-is, c.get.follows.holds-at-none) (meant_promoted _ _ c.self.invariant)
  | in-None w ↦ rw (w.self-inside-is, c.get.follows.holds-at-none) (meant_promoted _ _ c.self.invariant)
]

pub returns : goal.returns
returns c = elim c.match-get.branch [
  | in-Some+in_ok-clone-in-Some w ↦
      rw (w.result-is, w.in_ok-clone-in-Some.ensures.cases)
      (meant_found c.args.src.now _ _ c.self.invariant (ap (λ s. lookup (bytes_eq s) c.self.inside.kept.entries) (sym c.lent.ensures) ∙ sym w.in-Some.ensures.value))
  | in-None w ↦ rw w.result-is tt
]
