-- The programs of Targets are framed.
use Rattle.std.specs.Prelude.{Option, ℕ}
use Rattle.std.specs.Prelude.{List, [], ◌∷◌}
use Rattle.resin_meaning_forms.specs.Under.tree.declared.expression.PathStep.{PathStep, PathStep-F, out-PathStep}
use Rattle.resin_meaning_forms.specs.Under.meaning.Programs.{Prog, give, ◌>>=◌}
use Rattle.resin_meaning_forms.specs.Under.target.declared.path.Index.TheVariants.{At, Next}
use Rattle.resin_meaning_forms.specs.Under.target.declared.path.Path.{Path}
use Rattle.resin_meaning_forms.specs.Under.target.Paths.{no_postfix, with_index, with_property}
use Rattle.resin_meaning_forms.specs.Parts.{Evals}
use Rattle.resin_meaning_forms.specs.Targets.{step, steps_on, steps}
use Rattle.resin_frame.specs.Frames.{IsFramed}
use Rattle.resin_frame.proofs.Frames.{FramedEvals, framing}

pub step_framed : {own : Option (List ℕ)} (ev : Evals) (path : Path) (s : PathStep) → FramedEvals own ev → IsFramed {A = Path} own (step ev path s)
step_framed {own = own} ev path s h = elim (out-PathStep s) as (λ x. IsFramed {A = Path} own (elim x [
  | PathStep-F.«PathStep::Index» e ↦ ev.expr e >>= λ v. give (with_index (At v) path)
  | PathStep-F.Append ↦ give (with_index Next path)
  | PathStep-F.«PathStep::Property» p ↦ give (with_property p path)
])) [
  | PathStep-F.«PathStep::Index» e ↦ search (framing, h.expr) depth 12
  | PathStep-F.Append ↦ search (framing, h.expr) depth 12
  | PathStep-F.«PathStep::Property» p ↦ search (framing, h.expr) depth 12
]

pub steps_on_framed : {own : Option (List ℕ)} (ev : Evals) (path : Path) (a2 : List PathStep) → FramedEvals own ev → IsFramed {A = Path} own (steps_on ev path a2)
steps_on_framed ev path [] h = search framing depth 12
steps_on_framed {own = own} ev path (s ∷ ss) h = let ih = λ (y1 : Path). steps_on_framed {own = own} ev y1 ss h in search (framing, step_framed, ih) depth 12

pub steps_framed : {own : Option (List ℕ)} (ev : Evals) (ss : List PathStep) → FramedEvals own ev → IsFramed {A = Path} own (steps ev ss)
steps_framed ev ss h = search (framing, steps_on_framed) depth 12
