-- What a region holds, and its pieces.
use Rattle.std.specs.Prelude.{◌≡◌, ℕ, ◌+◌, ◌-◌, ◌≤◌, List, ◌++◌, take, drop, length, vec_len}
use Rattle.std.specs.Borrow.{Lends, MutBor, Fml, u8, Array}
use Rattle.std.specs.Vec.{with_items_from}
use Rattle.czi_region.specs.declared.block.Region.{Region}
use Rattle.czi_region.specs.declared.block.Piece.{Piece}
use Rattle.czi_region.specs.contracts.block.Region.{the_row}

-- the bytes that were put since the last reset
abbrev pub bytes_put : Region → List ℕ
bytes_put r = r.bytes.items

-- how many bytes can still be put
abbrev pub room : Region → ℕ
room r = r.limit - vec_len r.bytes

-- the piece is a range of the bytes put
abbrev pub IsPiece : Region → Piece → Type 0
IsPiece r p = p.at + p.len ≤ length (bytes_put r)

-- the bytes of a piece
abbrev pub bytes_of : Region → Piece → List ℕ
bytes_of r p = take p.len (drop p.at (bytes_put r))

-- Every earlier piece is still one, reads back as before, and ends before the new one.
pub record KeepsPiece (old new : Region) (latest p : Piece) : Type 0 where
  pub stays : IsPiece new p
  pub reads : bytes_of new p ≡ bytes_of old p
  pub apart : p.at + p.len ≤ latest.at

abbrev pub KeepsPieces : Region → Region → Piece → Type 0
KeepsPieces old new latest = (p : Piece) → IsPiece old p → KeepsPiece old new latest p

-- These bytes were put behind all that was put, and are this piece. The room fell by them, and earlier pieces stay.
pub record PutsPiece (old new : Region) (piece : Piece) (bytes : List ℕ) : Type 0 where
  pub put : bytes_put new ≡ bytes_put old ++ bytes
  pub left : room new + length bytes ≡ room old
  pub behind : piece.at ≡ length (bytes_put old)
  pub long : piece.len ≡ length bytes
  pub inside : IsPiece new piece
  pub reads : bytes_of new piece ≡ bytes
  pub others : KeepsPieces old new piece

-- the region with other bytes in a piece
abbrev pub with_piece : Region → Piece → List ℕ → Region
with_piece r p bytes = record r { bytes = with_items_from r.bytes p.at bytes }

-- once the bytes that were lent come back, they stand in the piece
abbrev pub LendsPiece : MutBor Region → Piece → MutBor (List ℕ) → Fml
LendsPiece r p lent = Lends the_row (Array u8 0) r lent (with_piece r.now p)
