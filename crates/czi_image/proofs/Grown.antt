-- How much longer the lists of an index are after a change, and what memory they then have.
use Rattle.std.proofs.Common.{◌≡◌, ℕ, zero, suc, ◌+◌, ◌*◌, ◌≤◌, List, [], ◌∷◌, map, length, ap, arith, vec_len, vec_capacity}
use Rattle.std.specs.List.{sum_by}
use Rattle.std.proofs.lemmas.List.{length-map}
use Rattle.std.proofs.lemmas.List.Sums.{sum_by-cons}
use Rattle.czi_machine.specs.Change.{Act, keep, omit, bring, and_then, brought, changed, past}
use Rattle.czi_num.specs.declared.span.Span.{Span as CodeSpan}
use Rattle.czi_image.proofs.Summed.{len_of, lens, entries_bound}
use Rattle.czi_image.specs.Applied.{GrowsBy, HasCapacity, HasRoom, IsChanged, KeepsRoom}
use Rattle.czi_image.specs.Change.{act_of, acts_behind, acts_of}
use Rattle.czi_image.specs.Summary.{entries_len, number_of}
use Rattle.czi_image.specs.View.{tile_of}
use Rattle.czi_image.specs.declared.change.Act.{Act as CodeAct}
use Rattle.czi_image.specs.declared.change.Act.TheVariants.{Out, Put, Into}
use Rattle.czi_image.specs.declared.change.Change.{Change as CodeChange}
use Rattle.czi_image.specs.declared.index.Index.{Index}
use Rattle.czi_image.specs.declared.types.Tile.{Tile as CodeTile}

-- a changed list has at most what it had and what is brought
sum-changed : {X : Type 0} (f : X → ℕ) (c : List (Act X)) (xs : List X) → sum_by f (changed c xs) ≤ sum_by f xs + sum_by f (brought c)
sum-changed f [] xs = omega arith
sum-changed f (bring y ∷ c) xs = omega (arith, sum-changed f c xs, sum_by-cons f y (changed c xs), sum_by-cons f y (brought c))
sum-changed f (keep ∷ c) [] = sum-changed f c []
sum-changed f (keep ∷ c) (x ∷ xs) = omega (arith, sum-changed f c xs, sum_by-cons f x (changed c xs), sum_by-cons f x xs)
sum-changed f (omit ∷ c) [] = sum-changed f c []
sum-changed f (omit ∷ c) (x ∷ xs) = omega (arith, sum-changed f c xs, sum_by-cons f x xs)

length-changed : {X : Type 0} (c : List (Act X)) (xs : List X) → length (changed c xs) ≤ length xs + length (brought c)
length-changed [] xs = omega arith
length-changed (bring y ∷ c) xs = omega (arith, length-changed c xs)
length-changed (keep ∷ c) [] = length-changed c []
length-changed (keep ∷ c) (x ∷ xs) = omega (arith, length-changed c xs)
length-changed (omit ∷ c) [] = length-changed c []
length-changed (omit ∷ c) (x ∷ xs) = omega (arith, length-changed c xs)

-- each act brings one item at most
brought-past : {X : Type 0} (i : ℕ) (c : List (Act X)) → length (brought (past i c)) ≡ length (brought c)
brought-past zero c = omega arith
brought-past (suc i) c = brought-past i c

brought-one : {X : Type 0} (a : CodeAct X) → length (brought (act_of a)) ≤ 1
brought-one {X = X} (Out i) = omega (arith, brought-past {X = X} i (omit ∷ []))
brought-one (Put i x) = omega (arith, brought-past i (omit ∷ bring x ∷ []))
brought-one (Into i x) = omega (arith, brought-past i (bring x ∷ []))

brought-then : {X : Type 0} (c d : List (Act X)) → length (brought (and_then c d)) ≤ length (brought c) + length (brought d)
brought-then [] d = omega arith
brought-then (omit ∷ c) d = brought-then c d
brought-then (keep ∷ c) [] = omega arith
brought-then (keep ∷ c) (bring y ∷ d) = omega (arith, brought-then (keep ∷ c) d)
brought-then (keep ∷ c) (keep ∷ d) = brought-then c d
brought-then (keep ∷ c) (omit ∷ d) = brought-then c d
brought-then (bring x ∷ c) [] = omega arith
brought-then (bring x ∷ c) (bring y ∷ d) = omega (arith, brought-then (bring x ∷ c) d)
brought-then (bring x ∷ c) (keep ∷ d) = omega (arith, brought-then c d)
brought-then (bring x ∷ c) (omit ∷ d) = omega (arith, brought-then c d)

brought-behind : {X : Type 0} (c : List (Act X)) (acts : List (CodeAct X)) → length (brought (acts_behind c acts)) ≤ length (brought c) + length acts
brought-behind c [] = omega arith
brought-behind c (a ∷ acts) = omega (arith, brought-behind (and_then c (act_of a)) acts, brought-then c (act_of a), brought-one a)

brought-acts : {X : Type 0} (acts : List (CodeAct X)) → length (brought (acts_of acts)) ≤ length acts
brought-acts [] = omega arith
brought-acts (a ∷ acts) = omega (arith, brought-behind (act_of a) acts, brought-one a)

longer : {X : Type 0} (acts : List (CodeAct X)) (xs : List X) → length (changed (acts_of acts) xs) ≤ length xs + length acts
longer acts xs = omega (arith, length-changed (acts_of acts) xs, brought-acts acts)

entries-longer : (acts : List (CodeAct CodeTile)) (tiles : List CodeTile) → entries_len (map tile_of (changed (acts_of acts) tiles)) ≤ entries_len (map tile_of tiles) + 832 * length acts
entries-longer acts tiles =
    let new : List CodeTile = brought (acts_of acts) in
    omega (arith, lens tiles, lens (changed (acts_of acts) tiles), lens new, sum-changed len_of (acts_of acts) tiles, entries_bound new, brought-acts acts)

pub grows : (subblocks attached : ℕ) (c : CodeChange) (free : List CodeSpan) (n : ℕ) (old new : Index) → length c.tiles.items ≤ subblocks → length c.attachments.items ≤ attached → IsChanged c free n old new → GrowsBy subblocks attached old new
grows subblocks attached c free n old new few few' is = record {
  tiles = omega (arith, ap length is.tiles, longer c.tiles.items old.tiles.items, few);
  attachments = omega (arith, ap length is.attachments, longer c.attachments.items old.attachments.items, few');
  entries = omega (arith, ap (λ (tiles : List CodeTile). entries_len (map tile_of tiles)) is.tiles, entries-longer c.tiles.items old.tiles.items, few);
}

pub capacity_lasts : (subblocks attached free : ℕ) (old new : Index) → KeepsRoom old new → HasCapacity subblocks attached free old → HasCapacity subblocks attached free new
capacity_lasts subblocks attached free old new keeps has = record {
  tiles = omega (arith, keeps.tiles, has.tiles);
  numbers = omega (arith, keeps.numbers, has.numbers);
  attachments = omega (arith, keeps.attachments, has.attachments);
  extents = omega (arith, keeps.extents, has.extents);
}

-- there are as many numbers of keys as subblocks
pub many_numbers : (x : Index) → vec_len x.summary.numbers ≡ length x.tiles.items
many_numbers x = omega (
  arith,
  x.summary.numbers.ok.0,
  ap length x.summed.numbers,
  length-map (map tile_of x.tiles.items) number_of,
  length-map x.tiles.items tile_of,
)

pub capacity_suffices : (subblocks attached free : ℕ) (c : CodeChange) (count : ℕ) (x : Index) → length x.tiles.items + length c.tiles.items ≤ subblocks → length x.attachments.items + length c.attachments.items ≤ attached → count ≤ free → HasCapacity subblocks attached free x → HasRoom c count x
capacity_suffices subblocks attached free c count x few few' some has = record {
  tiles = omega (arith, few, has.tiles, x.tiles.ok.0);
  numbers = omega (arith, few, has.numbers, many_numbers x);
  attachments = omega (arith, few', has.attachments, x.attachments.ok.0);
  extents = omega (arith, some, has.extents);
}

pub capacity_less : (subblocks attached free subblocks' attached' free' : ℕ) (x : Index) → subblocks' ≤ subblocks → attached' ≤ attached → free' ≤ free → HasCapacity subblocks attached free x → HasCapacity subblocks' attached' free' x
capacity_less subblocks attached free subblocks' attached' free' x less less' less'' has = record {
  tiles = omega (arith, less, has.tiles);
  numbers = omega (arith, less, has.numbers);
  attachments = omega (arith, less', has.attachments);
  extents = omega (arith, less'', has.extents);
}

-- after a change with at most one act on each list there is memory for one such change less
pub capacity_left : (more free : ℕ) (c : CodeChange) (extents : List CodeSpan) (n : ℕ) (old new : Index) → length c.tiles.items ≤ 1 → length c.attachments.items ≤ 1 → IsChanged c extents n old new → KeepsRoom old new
    → HasCapacity (length old.tiles.items + suc more) (length old.attachments.items + suc more) free old → HasCapacity (length new.tiles.items + more) (length new.attachments.items + more) free new
capacity_left more free c extents n old new one one' is keeps has =
    let longer : GrowsBy 1 1 old new = grows 1 1 c extents n old new one one' is in
    let lasts : HasCapacity (length old.tiles.items + suc more) (length old.attachments.items + suc more) free new = capacity_lasts _ _ free old new keeps has in
    capacity_less _ _ free _ _ free new (omega (arith, longer.tiles)) (omega (arith, longer.attachments)) (omega arith) lasts

-- what memory there is once it is reserved
pub capacity_reserved : (tiles attachments extents : ℕ) (x : Index) → vec_len x.tiles + tiles ≤ vec_capacity x.tiles → vec_len x.summary.numbers + tiles ≤ vec_capacity x.summary.numbers → vec_len x.attachments + attachments ≤ vec_capacity x.attachments → vec_len x.extents + extents ≤ vec_capacity x.extents
    → HasCapacity (length x.tiles.items + tiles) (length x.attachments.items + attachments) (length x.extents.items + extents) x
capacity_reserved tiles attachments extents x has has' has'' has''' = record {
  tiles = omega (arith, has, x.tiles.ok.0);
  numbers = omega (arith, has', many_numbers x);
  attachments = omega (arith, has'', x.attachments.ok.0);
  extents = omega (arith, has''', x.extents.ok.0);
}
