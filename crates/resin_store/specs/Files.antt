-- What a keeper of files holds, with the policies of each byte (this project).
use Rattle.std.specs.FinMap.{FinMap}
use Rattle.resin_base.specs.Contents.{byte_order}
use Rattle.resin_base.specs.FileStore.{FileStore}
use Rattle.resin_store.specs.Mapped.{mapped}
use Rattle.resin_store.specs.Entries.{LabelledEntry, lift, plain}

-- a map from path to entry
abbrev pub LabelledFiles : Type 0
LabelledFiles = FinMap byte_order LabelledEntry

-- each entry as its shadow text tells it
abbrev pub lift_files : FileStore → LabelledFiles
lift_files files = mapped lift files

-- what a keeper holds of each entry
abbrev pub plain_files : LabelledFiles → FileStore
plain_files files = mapped plain files
