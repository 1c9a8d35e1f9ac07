-- The keys of the code, as the format's definitions see them.
use Rattle.std.specs.Prelude.{map}
use Rattle.czi_format.specs.Key.{Axis, Sizes, Key}
use Rattle.czi_doc.specs.declared.keys.Axis.{Axis as CodeAxis}
use Rattle.czi_doc.specs.declared.keys.Sizes.{Sizes as CodeSizes}
use Rattle.czi_doc.specs.declared.keys.Key.{Key as CodeKey}

abbrev pub axis_of : CodeAxis → Axis
axis_of a = record { name = a.name; start = a.start }

abbrev pub sizes_of : CodeSizes → Sizes
sizes_of s = record { size = s.size; stored = s.stored }

abbrev pub key_of : CodeKey → Key
key_of k = record { axes = map axis_of k.axes.items; x = sizes_of k.x; y = sizes_of k.y }
