-- Plane text: one or more items joined by commas, each a name of one to four letters and a start. Each name stands once, and X, Y,
-- M and S don't stand there.
use Rattle.std.specs.Prelude.{◌≡◌, ℕ, ◌-◌, List, [], ◌∷◌, ◌++◌, length, replicate, FitsSigned, IsTrue, Result, Ok}
use Rattle.std.specs.Int.{w32}
use Rattle.std.specs.List.{AllByRecursion}
use Rattle.czi_format.specs.FirstFault.{◌>>=◌}
use Rattle.czi_format.specs.Key.{Axis}
use Rattle.czi_format.specs.Painting.{is_plane}
use Rattle.czi_doc.specs.DimText.{IsName, IsNumber}
use Rattle.czi_doc.specs.Reading.{Read, name_at, number_at}

-- the text of one item, with a number of any size
pub record IsPlaneItem (text : List ℕ) (a : Axis) : Type 0 where
  pub name : List ℕ
  pub start : List ℕ
  pub whole : text ≡ name ++ start
  pub is_name : IsName name
  pub is_start : IsNumber start a.start
  pub padded : a.name ≡ name ++ replicate (4 - length name) 0

-- the texts of one or more items, joined by commas
abbrev pub ArePlaneItems : List ℕ → List Axis → Type 0
ArePlaneItems text [] = ⊥
ArePlaneItems text (a ∷ []) = IsPlaneItem text a
ArePlaneItems text (a ∷ b ∷ more) = (first : List ℕ) × (rest : List ℕ) × (text ≡ first ++ 44 ∷ rest) × IsPlaneItem first a × ArePlaneItems rest (b ∷ more)

-- the starts are in their range
abbrev pub StartsFit : List Axis → Type 0
StartsFit axes = AllByRecursion (λ (a : Axis). FitsSigned w32 a.start) axes

-- The text is a plane text of these names and starts.
pub record IsPlaneText (text : List ℕ) (axes : List Axis) : Type 0 where
  pub items : ArePlaneItems text axes
  pub plane : IsTrue (is_plane axes)
  pub fits : StartsFit axes

-- reading one item, as with dimension text
unfoldable pub plane_item_at : List ℕ → Result (Read Axis) ℕ
plane_item_at bytes = do
  name ← name_at bytes
  start ← number_at name.rest
  Ok (record { it = record { name = name.it; start = start.it }; rest = start.rest })
