-- How long rows are.
use Rattle.std.proofs.Common.{◌≡◌, ℕ, ◌*◌, List, ◌++◌, length, take, drop, sym, ◌∙◌, arith, length-append, length-take-le}
use Rattle.czi_format.specs.Painting.{Query}
use Rattle.czi_image.specs.declared.types.Tile.{Tile}
use Rattle.czi_paint.specs.declared.painter.Painter.{Painter}
use Rattle.czi_paint.specs.Painted.{Paints, row_len}

-- a buffer into which as many bytes were written
pub as_wide : (n : ℕ) (new old : List ℕ) → length new ≡ length old → n ≡ length old → length (take n (new ++ drop (length new) old)) ≡ length old
as_wide n new old same whole = length-take-le n (new ++ drop (length new) old) (omega (arith, same, whole, length-append new (drop (length new) old))) ∙ whole

-- the rows of two painters of one region have one length
pub same_len : (q : Query) (tiles : List Tile) (i j : ℕ) (p r : Painter) → Paints q tiles i p → Paints q tiles j r → row_len p ≡ row_len r
same_len q tiles i j p r a b = λ k. (a.w ∙ sym b.w) k * (a.size ∙ sym b.size) k
