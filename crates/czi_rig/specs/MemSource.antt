-- What an input in memory tells of itself.
use Rattle.std.specs.Prelude.{Some, drop}
use Rattle.czi_rig.specs.declared.memory_source.MemSource.{MemSource}
use Rattle.czi_rig.specs.Source.{Input, Orders}

-- the bytes from the place that it has come to
abbrev pub input_in : MemSource → Input
input_in s = record { left = Some (drop s.at s.bytes.items); faults = s.faults }

abbrev pub orders_in : MemSource → Orders
orders_in s = record { to_fail = s.to_fail.keys; calls = s.calls }
