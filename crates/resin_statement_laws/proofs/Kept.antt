-- Cells that the runtime keeps are read as what they are.
use Rattle.std.proofs.Common.{List, [], ◌∷◌, refl, ap}
use Rattle.std.proofs.lemmas.Bool.{false≢true}
use Rattle.resin_base.specs.declared.cell.Kind.TheVariants as kind
use Rattle.resin_shadow.specs.Shadows.{written2}
use Rattle.resin_store.specs.Cells.{LabelledCell, Text, Integer, Null, Damaged, lifted_text, lifted_integer}
use Rattle.resin_store.specs.Entries.{First, Second, plain_bytes, marks}
use Rattle.resin_store.proofs.Lifts.{lifts_written}
use Rattle.resin_statement_laws.specs.Laws.{AreReadable, ReadsKept}
use Rattle.resin_statement_laws.specs.Literals.{AreLawful, AreKept}

pub reads_kept : ReadsKept
reads_kept (Text d Second) is lawful kind.Text fit = ap (lifted_text (plain_bytes d) (written2 (marks d))) (lifts_written d lawful.0 lawful.1)
reads_kept (Text d Second) is lawful kind.Integer fit = absurd (false≢true fit)
reads_kept (Text d First) is lawful k fit = elim is [ ]
reads_kept (Integer n set Second) is lawful kind.Integer fit = ap (lifted_integer n (written2 (set ∷ []))) (lifts_written ((0, set) ∷ []) lawful.0 lawful.1)
reads_kept (Integer n set Second) is lawful kind.Text fit = absurd (false≢true fit)
reads_kept (Integer n set First) is lawful k fit = elim is [ ]
reads_kept Null is lawful kind.Text fit = refl
reads_kept Null is lawful kind.Integer fit = refl
reads_kept (Damaged held) is lawful k fit = elim is [ ]

pub all_readable : (vs : List LabelledCell) → AreKept vs → AreLawful vs → AreReadable vs
all_readable [] kept lawful = tt
all_readable (v ∷ vs) kept lawful = (reads_kept v kept.0 lawful.0, all_readable vs kept.1 lawful.1)
