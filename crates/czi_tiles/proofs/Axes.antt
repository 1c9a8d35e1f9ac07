-- Where the tiles of a plane start in a dimension that it names.
use Rattle.std.proofs.Common.{◌≡◌, ℕ, zero, suc, ◌<◌, ℤ, List, [], ◌∷◌, length, get_or, Bool, true, false, Option, None, Some, ap, ◌∙◌, arith}
use Rattle.std.specs.Option.{option_map}
use Rattle.std.specs.List.{list_all}
use Rattle.std.specs.Ordering.{int_eq}
use Rattle.std.proofs.lemmas.Bool.{and_parts}
use Rattle.std.proofs.lemmas.Bool.Decides.{Decides-int_eq}
use Rattle.czi_format.specs.Key.{Axis}
use Rattle.czi_format.specs.Entry.{Dim}
use Rattle.czi_format.specs.Painting.{first_named, starts_there, has_start, in_plane}
use Rattle.czi_tiles.specs.Cells.{start_in}

all_at : {X : Type 0} (p : X → Bool) (xs : List X) (k : ℕ) (d : X) → list_all p xs ≡ true → k < length xs → p (get_or xs k d) ≡ true
all_at p [] k d e low = absurd (omega (arith, low))
all_at p (x ∷ xs) zero d e low = (and_parts (p x) (list_all p xs) e).0
all_at p (x ∷ xs) (suc k) d e low = all_at p xs k d (and_parts (p x) (list_all p xs) e).1 (omega (arith, low))

int_same : (a b : ℤ) → int_eq a b ≡ true → a ≡ b
int_same a b = (Decides-int_eq a b).0

starts : (start : ℤ) (o : Option Dim) → starts_there start o ≡ true → option_map (λ (d : Dim). d.start) o ≡ Some start
starts start None e = absurd (let clash : false ≡ true = e in cc)
starts start (Some d) e = ap (λ (s : ℤ). let o : Option ℤ = Some s in o) (int_same d.start start e)

pub planes_start : (plane : List Axis) (dims : List Dim) (k : ℕ) (a : Axis) → k < length plane → a ≡ get_or plane k a → in_plane plane dims ≡ true → start_in a.name dims ≡ Some a.start
planes_start plane dims k a low is there =
    let this : has_start dims (get_or plane k a) ≡ true = all_at (has_start dims) plane k a there low in
    starts a.start (first_named a.name dims) (ap (has_start dims) is ∙ this)
