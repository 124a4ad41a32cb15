-- What a builtin answers: a value, a throw, a fault, or want of memory. It is what the text functions answer.
pub use Rattle.resin_text_fn.specs.Stops.{GivesOrNoMemory, fitting}
