-- What this crate stands on, passed on to the crates above, which list this one alone.
pub use Rattle.resin_meaning_forms.specs.Under.array_fn
pub use Rattle.resin_meaning_forms.specs.Under.base
pub use Rattle.resin_meaning_forms.specs.Under.builtin
pub use Rattle.resin_meaning_forms.specs.Under.bytes
pub use Rattle.resin_meaning_forms.specs.Under.guard
pub use Rattle.resin_meaning_forms.specs.Under.heap
pub use Rattle.resin_meaning_forms.specs.Under.journal
pub use Rattle.resin_meaning_forms.specs.Under.label
pub use Rattle.resin_meaning_forms.specs.Under.lstr
pub use Rattle.resin_meaning_forms.specs.Under.machine
pub use Rattle.resin_meaning_forms.specs.Under.meaning
pub use Rattle.resin_meaning_forms.specs as meaning_forms
pub use Rattle.resin_meaning_forms.specs.Under.ops
pub use Rattle.resin_meaning_forms.specs.Under.scalar
pub use Rattle.resin_meaning_forms.specs.Under.scope
pub use Rattle.resin_meaning_forms.specs.Under.stage
pub use Rattle.resin_meaning_forms.specs.Under.store
pub use Rattle.resin_meaning_forms.specs.Under.target
pub use Rattle.resin_meaning_forms.specs.Under.text_fn
pub use Rattle.resin_meaning_forms.specs.Under.tree
pub use Rattle.resin_meaning_forms.specs.Under.value
pub use Rattle.resin_meaning_forms.specs.Under.meaning_tables
