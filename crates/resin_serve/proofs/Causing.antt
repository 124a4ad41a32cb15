-- The causes of a call that follows calls that were whole.
use Rattle.std.proofs.Common.{subst, ◌∙◌}
use Rattle.resin_serve.specs.declared.give.Given.{Given}
use Rattle.resin_serve.specs.declared.give.Given.TheVariants.{Whole, Fault, Memory}
use Rattle.resin_serve.specs.Gives.{Sinks, CausedIn}

pub caused_then : (g : Given) (a b c : Sinks) → CausedIn Whole a b → CausedIn g b c → CausedIn g a c
caused_then Whole a b c h k = k ∙ h
caused_then Memory a b c h k = k ∙ h
caused_then Fault a b c h k = subst (λ x. CausedIn Fault x c) h k
