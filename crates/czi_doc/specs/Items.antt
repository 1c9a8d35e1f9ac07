-- The items of a plane.
use Rattle.std.specs.Prelude.{ℕ, ℤ, List}
use Rattle.czi_format.specs.Key.{Axis}

abbrev pub item_of : List ℕ × ℤ → Axis
item_of item = record { name = item.0; start = item.1 }
