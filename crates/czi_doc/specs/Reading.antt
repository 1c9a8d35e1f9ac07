-- Reading dimension text, item by item. A fault says how many bytes are left from its place on.
use Rattle.std.specs.Prelude.{ℕ, zero, suc, ◌-◌, ℤ, pos, neg_ℤ, List, [], ◌∷◌, ◌++◌, take, drop, length, replicate, slice_index, Bool, not, ◌&&◌, ◌==◌, nat_le, Result, Ok, Err, if◌then◌else◌}
use Rattle.std.specs.List.{prefix_len}
use Rattle.std.specs.Char.{is_ascii_digit}
use Rattle.std.specs.Str.Parse.{digits_value}
use Rattle.czi_format.specs.FirstFault.{◌>>=◌}
use Rattle.czi_format.specs.Entry.{Dim}
use Rattle.czi_doc.specs.DimText.{is_letter}

-- something read, and the bytes behind it
pub record Read (X : Type 0) : Type 0 where
  pub it : X
  pub rest : List ℕ

-- how many letters stand at the front, of at most four
abbrev pub name_len : List ℕ → ℕ
name_len bytes = prefix_len is_letter (take 4 bytes)

-- one to four letters, padded
unfoldable pub name_at : List ℕ → Result (Read (List ℕ)) ℕ
name_at bytes = if name_len bytes == 0 then Err (length bytes)
    else Ok (record { it = take (name_len bytes) bytes ++ replicate (4 - name_len bytes) 0; rest = drop (name_len bytes) bytes })

-- how many digits of one number stand at the front: behind a first 0 there are no more
abbrev pub number_len : List ℕ → ℕ
number_len [] = 0
number_len (b ∷ bytes) = if b == 48 then 1 else prefix_len is_ascii_digit (b ∷ bytes)

-- the number at the front of the digits
abbrev pub magnitude_at : List ℕ → ℕ
magnitude_at bytes = digits_value 10 (take (number_len bytes) bytes)

-- what stands behind a `-`
unfoldable pub negative_at : List ℕ → Result (Read ℤ) ℕ
negative_at bytes = if magnitude_at bytes == 0 then Err (length bytes)
    else (if nat_le (magnitude_at bytes) 2147483648 then Ok (record { it = neg_ℤ (pos (magnitude_at bytes)); rest = drop (number_len bytes) bytes })
    else Err (suc (length bytes)))

unfoldable pub positive_at : List ℕ → Result (Read ℤ) ℕ
positive_at bytes = if number_len bytes == 0 then Err (length bytes)
    else (if nat_le (magnitude_at bytes) 2147483647 then Ok (record { it = pos (magnitude_at bytes); rest = drop (number_len bytes) bytes })
    else Err (length bytes))

-- a byte stands at the front
abbrev pub begins_with : ℕ → List ℕ → Bool
begins_with b bytes = not (length bytes == 0) && (slice_index bytes 0 == b)

abbrev pub number_at : List ℕ → Result (Read ℤ) ℕ
number_at bytes = if begins_with 45 bytes then negative_at (drop 1 bytes) else positive_at bytes

-- a size and a stored size
pub record Sizes : Type 0 where
  pub size : ℤ
  pub stored : ℤ

abbrev pub stored_at : ℤ → List ℕ → Result (Read Sizes) ℕ
stored_at size bytes = if begins_with 58 bytes then (do
  stored ← number_at (drop 1 bytes)
  Ok (record { it = record { size = size; stored = stored.it }; rest = stored.rest }))
    else Ok (record { it = record { size = size; stored = size }; rest = bytes })

abbrev pub sizes_at : List ℕ → Result (Read Sizes) ℕ
sizes_at bytes = if begins_with 58 bytes then (do
  size ← number_at (drop 1 bytes)
  stored_at size.it size.rest)
    else Ok (record { it = record { size = pos 1; stored = pos 1 }; rest = bytes })

unfoldable pub item_at : List ℕ → Result (Read Dim) ℕ
item_at bytes = do
  name ← name_at bytes
  start ← number_at name.rest
  sizes ← sizes_at start.rest
  Ok (record { it = record { name = name.it; start = start.it; size = sizes.it.size; coord = replicate 4 0; stored = sizes.it.stored }; rest = sizes.rest })

-- what is read behind an item: a comma and further items, or nothing
abbrev pub behind : (List ℕ → Result (List Dim) ℕ) → Dim → List ℕ → Result (List Dim) ℕ
behind more d bytes = if length bytes == 0 then Ok (d ∷ [])
    else (if begins_with 44 bytes then (do
      ds ← more (drop 1 bytes)
      Ok (d ∷ ds))
    else Err (length bytes))

-- at most n items, all of the bytes; no comma follows the last
unfoldable pub items_at : ℕ → List ℕ → Result (List Dim) ℕ
items_at zero bytes = Err (suc (length bytes))
items_at (suc n) bytes = do
  item ← item_at bytes
  behind (items_at n) item.it item.rest

-- items in front of those that are read
abbrev pub with_front : List Dim → Result (List Dim) ℕ → Result (List Dim) ℕ
with_front front (Ok ds) = Ok (front ++ ds)
with_front front (Err left) = Err left
