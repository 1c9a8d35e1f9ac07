-- What is asked for, as the definitions of painting see it.
use Rattle.std.specs.Prelude.{ℕ, ℤ, List, map}
use Rattle.czi_format.specs.Key.{Axis}
use Rattle.czi_format.specs.Painting.{PixelType, gray8, gray16, bgr24, bgr48, Query}
use Rattle.czi_doc.specs.Items.{item_of}
use Rattle.czi_doc.specs.declared.pixel.Pixel.{Pixel}
use Rattle.czi_doc.specs.declared.pixel.Pixel.TheVariants.{Gray8, Gray16, Bgr24, Bgr48}
use Rattle.czi_doc.specs.declared.plane.Plane.{Plane}
use Rattle.czi_doc.specs.declared.query.Query.{Query as CodeQuery}

abbrev pub type_of : Pixel → PixelType
type_of Gray8 = gray8
type_of Gray16 = gray16
type_of Bgr24 = bgr24
type_of Bgr48 = bgr48

-- the names and starts of a plane
abbrev pub items_of : Plane → List (List ℕ × ℤ)
items_of p = p.list.items

abbrev pub plane_of : Plane → List Axis
plane_of p = map item_of (items_of p)

abbrev pub query_of : CodeQuery → Query
query_of q = record {
  pixel = type_of q.pixel;
  layer = q.layer;
  x = q.x;
  y = q.y;
  w = q.w;
  h = q.h;
  scene = q.scene;
  plane = plane_of q.plane;
}
