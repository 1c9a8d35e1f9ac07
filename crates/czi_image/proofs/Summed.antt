-- The summary of subblocks through acts on them.
use Rattle.std.proofs.Common.{◌≡◌, ℕ, zero, suc, ◌+◌, ◌-◌, ◌*◌, ◌%◌, ◌^◌, ◌<◌, ◌≤◌, List, [], ◌∷◌, ◌++◌, map, sum, length, get_or, refl, ap, sym, ◌∙◌, arith}
use Rattle.std.specs.List.{sum_by}
use Rattle.std.proofs.Math.Nat.{add-mod_right, mod-add-mod}
use Rattle.std.proofs.lemmas.List.{length-map}
use Rattle.std.proofs.lemmas.List.Sums.{sum-map, sum_by-cons, sum_by_push}
use Rattle.czi_format.specs.Entry.{entry_len}
use Rattle.czi_format.specs.Live.{Tile}
use Rattle.czi_doc.specs.View.{dim_of}
use Rattle.czi_machine.specs.Change.{Change, changed, into, keep, mapped, out, put}
use Rattle.czi_machine.proofs.Clear.{map-map}
use Rattle.czi_image.proofs.Changed.{map_changed}
use Rattle.czi_image.specs.Summary.{entries_len, number_of}
use Rattle.czi_image.specs.View.{tile_of}
use Rattle.czi_image.specs.declared.types.Tile.{Tile as CodeTile}

sum-out : {X : Type 0} (f : X → ℕ) (i : ℕ) (xs : List X) (d : X) → i < length xs → sum_by f (changed (out i) xs) + f (get_or xs i d) ≡ sum_by f xs
sum-out f i [] d h = absurd (omega arith)
sum-out f zero (x ∷ xs) d h = omega (arith, sum_by-cons f x xs)
sum-out f (suc i) (x ∷ xs) d h = omega (arith, sum-out f i xs d (omega arith), sum_by-cons f x xs, sum_by-cons f x (changed (out i) xs))

sum-put : {X : Type 0} (f : X → ℕ) (i : ℕ) (y : X) (xs : List X) (d : X) → i < length xs → sum_by f (changed (put i y) xs) + f (get_or xs i d) ≡ sum_by f xs + f y
sum-put f i y [] d h = absurd (omega arith)
sum-put f zero y (x ∷ xs) d h = omega (arith, sum_by-cons f x xs, sum_by-cons f y xs)
sum-put f (suc i) y (x ∷ xs) d h = omega (arith, sum-put f i y xs d (omega arith), sum_by-cons f x xs, sum_by-cons f x (changed (put i y) xs))

sum-into : {X : Type 0} (f : X → ℕ) (i : ℕ) (y : X) (xs : List X) → i ≤ length xs → sum_by f (changed (into i y) xs) ≡ sum_by f xs + f y
sum-into f zero y xs h = omega (arith, sum_by-cons f y xs)
sum-into f (suc i) y [] h = absurd (omega arith)
sum-into f (suc i) y (x ∷ xs) h = omega (arith, sum-into f i y xs (omega arith), sum_by-cons f x xs, sum_by-cons f x (changed (into i y) xs))

-- the length of the entry of a subblock
abbrev pub len_of : CodeTile → ℕ
len_of t = entry_len (tile_of t).entry

pub lens : (tiles : List CodeTile) → entries_len (map tile_of tiles) ≡ sum_by len_of tiles
lens tiles = ap sum (map-map tile_of (λ (t : Tile). entry_len t.entry) tiles) ∙ sum-map len_of tiles

pub entries-out : (i : ℕ) (tiles : List CodeTile) (d : CodeTile) → i < length tiles → entries_len (map tile_of (changed (out i) tiles)) + len_of (get_or tiles i d) ≡ entries_len (map tile_of tiles)
entries-out i tiles d h = omega (arith, lens tiles, lens (changed (out i) tiles), sum-out len_of i tiles d h)

pub entries-put : (i : ℕ) (t : CodeTile) (tiles : List CodeTile) (d : CodeTile) → i < length tiles → entries_len (map tile_of (changed (put i t) tiles)) + len_of (get_or tiles i d) ≡ entries_len (map tile_of tiles) + len_of t
entries-put i t tiles d h = omega (arith, lens tiles, lens (changed (put i t) tiles), sum-put len_of i t tiles d h)

pub entries-into : (i : ℕ) (t : CodeTile) (tiles : List CodeTile) → i ≤ length tiles → entries_len (map tile_of (changed (into i t) tiles)) ≡ entries_len (map tile_of tiles) + len_of t
entries-into i t tiles h = omega (arith, lens tiles, lens (changed (into i t) tiles), sum-into len_of i t tiles h)

pub entries-push : (tiles : List CodeTile) (t : CodeTile) → entries_len (map tile_of (tiles ++ t ∷ [])) ≡ entries_len (map tile_of tiles) + len_of t
entries-push tiles t = omega (arith, lens tiles, lens (tiles ++ t ∷ []), sum_by_push len_of tiles t)

-- a subblock has at most 40 dimensions, and so an entry of at most 832 bytes
pub entries_bound : (tiles : List CodeTile) → entries_len (map tile_of tiles) ≤ 832 * length tiles
entries_bound tiles = omega (arith, lens tiles, bound tiles)
  where
    bound : (ts : List CodeTile) → sum_by len_of ts ≤ 832 * length ts
    bound [] = omega arith
    bound (t ∷ ts) = omega (arith, sum_by-cons len_of t ts, bound ts, t.info.dims.few, length-map t.info.dims.list.items dim_of, t.info.dims.list.ok)

-- a sum and a difference that wrap
pub wraps_more : (s s' e n : ℕ) → n ≡ s % 2 ^ 64 → s' ≡ s + e → (n + e) % 2 ^ 64 ≡ s' % 2 ^ 64
wraps_more s s' e n is more = ap (λ k. (k + e) % 2 ^ 64) is ∙ (mod-add-mod s (2 ^ 64) e ∙ ap (λ k. k % 2 ^ 64) (sym more))

pub wraps_less : (s s' e n : ℕ) → n ≡ s % 2 ^ 64 → s' + e ≡ s → e ≤ 2 ^ 64 → (n + (2 ^ 64 - e)) % 2 ^ 64 ≡ s' % 2 ^ 64
wraps_less s s' e n is less small =
    let same : s + (2 ^ 64 - e) ≡ s' + 2 ^ 64 = omega (arith, less, small) in
    ap (λ k. (k + (2 ^ 64 - e)) % 2 ^ 64) is ∙ (mod-add-mod s (2 ^ 64) (2 ^ 64 - e) ∙ (ap (λ k. k % 2 ^ 64) same ∙ add-mod_right s' (2 ^ 64)))

-- the images of one act
pub mapped-out : {X Y : Type 0} (f : X → Y) (i : ℕ) → mapped f (out i) ≡ out i
mapped-out f zero = refl
mapped-out f (suc i) = ap (λ c. keep ∷ c) (mapped-out f i)

pub mapped-put : {X Y : Type 0} (f : X → Y) (i : ℕ) (x : X) → mapped f (put i x) ≡ put i (f x)
mapped-put f zero x = refl
mapped-put f (suc i) x = ap (λ c. keep ∷ c) (mapped-put f i x)

pub mapped-into : {X Y : Type 0} (f : X → Y) (i : ℕ) (x : X) → mapped f (into i x) ≡ into i (f x)
mapped-into f zero x = refl
mapped-into f (suc i) x = ap (λ c. keep ∷ c) (mapped-into f i x)

pub numbers_changed : (c : Change CodeTile) (tiles : List CodeTile) → map number_of (map tile_of (changed c tiles)) ≡ changed (mapped (λ (t : CodeTile). number_of (tile_of t)) c) (map number_of (map tile_of tiles))
numbers_changed c tiles =
    map-map tile_of number_of (changed c tiles) ∙ map_changed (λ (t : CodeTile). number_of (tile_of t)) c tiles (map number_of (map tile_of tiles)) (sym (map-map tile_of number_of tiles))
