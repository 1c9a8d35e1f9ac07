-- What a file is open for.
use Rattle.czi_tool.specs.declared.disk_file.Handle.{Handle}
use Rattle.czi_tool.specs.declared.disk_file.Handle.TheVariants.{Closed, Read, Write}

-- it is open for writing
abbrev pub IsWritable : Handle → Type 0
IsWritable Closed = ⊥
IsWritable (Read file) = ⊥
IsWritable (Write file) = Unit {0}
