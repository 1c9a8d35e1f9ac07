-- The items of the code, as the format's definitions see them.
use Rattle.std.specs.Prelude.{ℕ, List, map}
use Rattle.czi_format.specs.Entry.{Dim, EntryInfo, AttInfo}
use Rattle.czi_doc.specs.declared.dimensions.Dim.{Dim as CodeDim}
use Rattle.czi_doc.specs.declared.dimensions.Dims.{Dims as CodeDims}
use Rattle.czi_doc.specs.declared.items.EntryInfo.{EntryInfo as CodeEntryInfo}
use Rattle.czi_doc.specs.declared.items.AttInfo.{AttInfo as CodeAttInfo}
use Rattle.czi_doc.specs.declared.items.Bytes.{Bytes as CodeBytes}

-- the records of dimensions
abbrev pub records : CodeDims → List CodeDim
records d = d.list.items

abbrev pub dim_of : CodeDim → Dim
dim_of d = record { name = d.name; start = d.start; size = d.size; coord = d.coord; stored = d.stored }

abbrev pub dims_of : CodeDims → List Dim
dims_of d = map dim_of (records d)

abbrev pub info_of : CodeEntryInfo → EntryInfo
info_of i = record { pixel = i.pixel; compression = i.compression; pyramid = i.pyramid; spare = i.spare; dims = dims_of i.dims }

abbrev pub att_of : CodeAttInfo → AttInfo
att_of a = record { guid = a.guid; kind = a.kind; name = a.name }

abbrev pub bytes_of : CodeBytes → List ℕ
bytes_of b = b.list.items
