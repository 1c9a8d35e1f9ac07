-- A region as words: each of its fields is one word.
use Rattle.std.specs.Prelude.{◌≡◌, ℕ, List, ◌∷◌, Bool, not, ◌==◌, IsTrue, Option, None, Some, flat_map}
use Rattle.std.specs.List.{list_all}
use Rattle.czi_format.specs.Painting.{Query}
use Rattle.czi_script.specs.Script.{RegionValues, region_fields, values_at}

-- fields as they stand in a line: each behind one space
abbrev pub fields_text : List (List ℕ) → List ℕ
fields_text fields = flat_map (λ (field : List ℕ). 32 ∷ field) fields

-- has no space
abbrev pub is_unspaced : List ℕ → Bool
is_unspaced field = list_all (λ b. not (b == 32)) field

-- No field has a space, and behind the word of a script's line they say this region.
pub record IsRegion (q : Query) (fields : List (List ℕ)) : Type 0 where
  pub unspaced : IsTrue (list_all is_unspaced fields)
  pub values : List (List ℕ)
  pub given_so : values_at region_fields (fields_text fields) ≡ Some values
  pub are : RegionValues q values

-- they say this region, or none
abbrev pub SaysRegion : List (List ℕ) → Option Query → Type 0
SaysRegion fields None = (q : Query) → IsRegion q fields → ⊥
SaysRegion fields (Some q) = IsRegion q fields
