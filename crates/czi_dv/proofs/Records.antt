-- Dimension records that are read one after another.
use Rattle.std.proofs.Common.{◌≡◌, ℕ, suc, List, [], ◌∷◌, ◌++◌, map, drop, refl, ap}
use Rattle.czi_format.specs.Entry.{Dim, dim, dims}

-- one record more
pub dims_more : {X : Type 0} (view : X → Dim) (found : List X) (x : X) (n : ℕ) (rest : List ℕ) → view x ≡ dim rest
    → map view (found ++ x ∷ []) ++ dims n (drop 20 rest) ≡ map view found ++ dims (suc n) rest
unfolding dims
dims_more view [] x n rest is = ap (λ d. d ∷ dims n (drop 20 rest)) is
dims_more view (y ∷ found) x n rest is = ap (λ l. view y ∷ l) (dims_more view found x n rest is)

pub no_dims : (bytes : List ℕ) → dims 0 bytes ≡ []
unfolding dims
no_dims bytes = refl
