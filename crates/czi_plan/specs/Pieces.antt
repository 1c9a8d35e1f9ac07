-- What a plan writes, as bytes at places: its writes from a region, and then its links.
use Rattle.std.specs.Prelude.{ℕ, ◌+◌, ◌≤◌, max, List, [], ◌∷◌, ◌++◌, map, ⊤}
use Rattle.czi_links.specs.Record.{Bytes, end_of}
use Rattle.czi_machine.specs.Written.{Piece}
use Rattle.czi_region.specs.Pieces.{bytes_of}
use Rattle.czi_region.specs.declared.block.Region.{Region}
use Rattle.czi_region.specs.declared.block.Piece.{Piece as Range}
use Rattle.czi_plan.specs.declared.plan.EditPlan.{EditPlan}

-- pieces of a region, each as its bytes at its place
abbrev pub bytes_in : Region → List (ℕ × Range) → List Bytes
bytes_in region writes = map (λ (w : ℕ × Range). record { place = w.0; bytes = bytes_of region w.1 }) writes

-- what a plan writes before its commit
abbrev pub writes_of : Region → EditPlan → List Bytes
writes_of region plan = bytes_in region plan.writes.items

-- all that it writes, as the machine has it
abbrev pub piece_of : Bytes → Piece
piece_of b = record { place = b.place; bytes = b.bytes }

abbrev pub pieces_of : Region → EditPlan → List Piece
pieces_of region plan = map piece_of (writes_of region plan ++ plan.links.links)

-- each write begins at most 64 bytes behind the end so far
abbrev pub AreNear : ℕ → List Bytes → Type 0
AreNear end [] = ⊤
AreNear end (w ∷ ws) = (w.place ≤ end + 64) × AreNear (max end (end_of w)) ws

-- the image's length after them
abbrev pub last_end : ℕ → List Bytes → ℕ
last_end end [] = end
last_end end (w ∷ ws) = last_end (max end (end_of w)) ws
