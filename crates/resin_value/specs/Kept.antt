-- How the bytes of a key are kept.
use Rattle.std.specs.Prelude.{ℕ, List, [], Option, None, Some}
use Rattle.std.specs.Rc.{rc_slice_items}
use Rattle.std.specs.declared.rc.RcSlice.{RcSlice}

-- the bytes that are kept, none for the empty text
abbrev pub bytes_kept : {Z : Type 0} → Option (RcSlice ℕ Z) → List ℕ
bytes_kept None = []
bytes_kept (Some s) = rc_slice_items s
