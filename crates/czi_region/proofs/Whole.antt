-- Bytes that were put one behind another are one piece.
use Rattle.std.proofs.Common.{◌≡◌, ℕ, ◌+◌, ◌≤◌, List, ◌++◌, length, take, drop, ap, ◌∙◌, arith, append_assoc, length-append}
use Rattle.std.proofs.lemmas.List.{take_all, drop-append-le, take-append-le, length-drop}
use Rattle.std.proofs.Math.Seq.{drop-append_seam}
use Rattle.czi_region.specs.declared.block.Region.{Region}
use Rattle.czi_region.specs.declared.block.Piece.{Piece}
use Rattle.czi_region.specs.Pieces.{bytes_put, room, PutsPiece}

-- b was put behind a
pub put_behind : (old a b x y : List ℕ) → x ≡ old ++ a → y ≡ x ++ b → y ≡ old ++ (a ++ b)
put_behind old a b x y first second = second ∙ (ap (λ l. l ++ b) first ∙ append_assoc old a b)

-- a range of what was put reads as before, after more was put
front_range : (front more : List ℕ) (at len : ℕ) → at + len ≤ length front → take len (drop at (front ++ more)) ≡ take len (drop at front)
front_range front more at len inside =
    ap (take len) (drop-append-le at front more (omega arith))
    ∙ take-append-le len (drop at front) more (omega (arith, length-drop at front))

-- what was put last, read back
last_range : (all front more : List ℕ) (at len : ℕ) → all ≡ front ++ more → at ≡ length front → len ≡ length more → take len (drop at all) ≡ more
last_range all front more at len put behind long =
    (λ i. take (long i) (drop (behind i) (put i)))
    ∙ (ap (take (length more)) (drop-append_seam front more) ∙ take_all (length more) more (omega arith))

pub whole : (old new : Region) (piece : Piece) (bytes : List ℕ) → bytes_put new ≡ bytes_put old ++ bytes → room new + length bytes ≡ room old
    → piece.at ≡ length (bytes_put old) → piece.len ≡ length bytes → PutsPiece old new piece bytes
whole old new piece bytes put left behind long =
    let size : length (bytes_put new) ≡ length (bytes_put old) + length bytes = ap length put ∙ length-append (bytes_put old) bytes in
    record {
      put = put;
      left = left;
      behind = behind;
      long = long;
      inside = omega (arith, size, behind, long);
      reads = last_range (bytes_put new) (bytes_put old) bytes piece.at piece.len put behind long;
      others = λ p is. record {
        stays = omega (arith, size, is);
        reads = ap (λ l. take p.len (drop p.at l)) put ∙ front_range (bytes_put old) bytes p.at p.len is;
        apart = omega (arith, behind, is);
      };
    }
