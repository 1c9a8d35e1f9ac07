-- The facts that an index keeps have one proof at most.
use Rattle.std.specs.Prelude.{ℕ, ◌%◌, ◌^◌, ◌≤◌, List, [], ◌∷◌, map, IsTrue, IsFalse}
use Rattle.std.specs.List.{AllByRecursion, AllByRecursion-prop, list_any}
use Rattle.std.proofs.Math.Bridge.{le_prop}
use Rattle.std.proofs.Math.Nat.{ℕ_set}
use mathlib.Core.Bool.{Bool-set}
use mathlib.Core.List.{is_set}
use mathlib.Core.HLevel.{×_prop, Unit-prop}
use Rattle.czi_format.specs.Live.{Tile}
use Rattle.czi_format.specs.Span.{Span, end_of, meets, is_aligned, AreDisjoint}
use Rattle.czi_spans.specs.Apart.{AreApart}
use Rattle.czi_image.specs.Spans.{AreFree}
use Rattle.czi_image.specs.Summary.{Sums, entries_len, number_of}
use Rattle.czi_image.specs.declared.summary.Summary.{Summary}

pub inside_prop : (size : ℕ) (spans : List Span) → IsProp (AllByRecursion (λ s. end_of s ≤ size) spans)
inside_prop size spans = AllByRecursion-prop _ (λ s. le_prop) spans

pub disjoint_prop : (spans : List Span) → IsProp (AreDisjoint spans)
disjoint_prop [] = Unit-prop
disjoint_prop (s ∷ rest) = ×_prop (AllByRecursion-prop _ (λ t. Bool-set _ _) rest) (disjoint_prop rest)

apart_prop : (from : ℕ) (spans : List Span) → IsProp (AreApart from spans)
apart_prop from [] a b = Unit-prop a b
apart_prop from (s ∷ rest) a b = λ i. (le_prop a.0 b.0 i, le_prop a.1 b.1 i, apart_prop (end_of s) rest a.2 b.2 i)

pub free_prop : (size : ℕ) (live extents : List Span) → IsProp (AreFree size live extents)
free_prop size live extents a b = λ i. record {
  apart = apart_prop 0 extents a.apart b.apart i;
  aligned = AllByRecursion-prop (λ s. IsTrue (is_aligned s)) (λ s. Bool-set _ _) extents a.aligned b.aligned i;
  inside = inside_prop size extents a.inside b.inside i;
  clear = AllByRecursion-prop (λ s. IsFalse (list_any (meets s) live)) (λ s. Bool-set _ _) extents a.clear b.clear i;
}

pub sums_prop : (s : Summary) (tiles : List Tile) → IsProp (Sums s tiles)
sums_prop s tiles a b = λ i. record {
  numbers = is_set ℕ_set s.numbers.items (map number_of tiles) a.numbers b.numbers i;
  entries_len = ℕ_set s.entries_len (entries_len tiles % 2 ^ 64) a.entries_len b.entries_len i;
}
