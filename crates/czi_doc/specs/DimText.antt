-- Dimension text as it is read: one to 40 items joined by commas, each a name of one to four letters, a start, and
-- optionally `:` and a size, and after it optionally `:` and a stored size.
use Rattle.std.specs.Prelude.{◌≡◌, ◌⊎◌, ℕ, ◌+◌, ◌-◌, ◌<◌, ◌≤◌, ℤ, pos, negsuc, List, [], ◌∷◌, ◌++◌, take, drop, length, slice_index, replicate, Bool, ◌&&◌, nat_le, IsTrue, FitsSigned}
use Rattle.std.specs.Int.{w32}
use Rattle.std.specs.List.{AllByRecursion}
use Rattle.std.specs.Str.Parse.{IsNumeral, digits_value}
use Rattle.czi_format.specs.Entry.{Dim}

-- A to Z
abbrev pub is_letter : ℕ → Bool
is_letter b = nat_le 0x41 b && nat_le b 0x5A

-- the decimal digits of a number without a leading zero: `0`, or a first digit from 1 to 9
pub record IsNatural (text : List ℕ) (n : ℕ) : Type 0 where
  pub digits : IsNumeral 10 text
  pub lean : slice_index text 0 ≡ 0x30 → length text ≡ 1
  pub value : digits_value 10 text ≡ n

-- a number of any size: a negative one has a `-` before its digits, and `-0` isn't a number
abbrev pub IsNumber : List ℕ → ℤ → Type 0
IsNumber text (pos n) = IsNatural text n
IsNumber text (negsuc n) = (digits : List ℕ) × (text ≡ 45 ∷ digits) × IsNatural digits (1 + n)

-- a name of one to four letters
pub record IsName (text : List ℕ) : Type 0 where
  pub letters : AllByRecursion (λ b. IsTrue (is_letter b)) text
  pub some : 1 ≤ length text
  pub few : length text ≤ 4

-- The sizes of an item: a missing size is 1, and a missing stored size is the size.
abbrev pub AreSizes : List ℕ → ℤ → ℤ → Type 0
AreSizes text size stored = ((text ≡ []) × (size ≡ pos 1) × (stored ≡ size))
    ⊎ (((a : List ℕ) × (text ≡ 58 ∷ a) × IsNumber a size × (stored ≡ size))
    ⊎ ((a : List ℕ) × (b : List ℕ) × (text ≡ 58 ∷ (a ++ 58 ∷ b)) × IsNumber a size × IsNumber b stored))

-- The text of one dimension, with numbers of any size. The coordinate bytes are zero.
pub record IsItem (text : List ℕ) (d : Dim) : Type 0 where
  pub name : List ℕ
  pub start : List ℕ
  pub sizes : List ℕ
  pub whole : text ≡ name ++ (start ++ sizes)
  pub is_name : IsName name
  pub is_start : IsNumber start d.start
  pub are_sizes : AreSizes sizes d.size d.stored
  pub padded : d.name ≡ name ++ replicate (4 - length name) 0
  pub coord : d.coord ≡ replicate 4 0

-- the texts of one or more dimensions, joined by commas
abbrev pub AreItems : List ℕ → List Dim → Type 0
AreItems text [] = ⊥
AreItems text (d ∷ []) = IsItem text d
AreItems text (d ∷ e ∷ ds) = (first : List ℕ) × (rest : List ℕ) × (text ≡ first ++ 44 ∷ rest) × IsItem first d × AreItems rest (e ∷ ds)

-- the numbers are in the range of their fields
pub record IsInRange (d : Dim) : Type 0 where
  pub start : FitsSigned w32 d.start
  pub size : FitsSigned w32 d.size
  pub stored : FitsSigned w32 d.stored

-- The text is a dimension text of these dimensions.
pub record IsDimText (text : List ℕ) (ds : List Dim) : Type 0 where
  pub items : AreItems text ds
  pub few : length ds ≤ 40
  pub fits : AllByRecursion IsInRange ds

-- The bytes begin a dimension text, whatever the size of its numbers.
abbrev pub Begins : List ℕ → Type 0
Begins bytes = (rest : List ℕ) × (ds : List Dim) × AreItems (bytes ++ rest) ds × (length ds ≤ 40)

-- A byte at a place can't continue a dimension text, or the text ends there too early.
pub record EndsTooEarly (text : List ℕ) (place : ℕ) : Type 0 where
  pub all : place ≡ length text
  pub begins : Begins text
  pub unfinished : (ds : List Dim) → AreItems text ds → length ds ≤ 40 → ⊥

pub record CantContinue (text : List ℕ) (place : ℕ) : Type 0 where
  pub inside : place < length text
  pub begins : Begins (take place text)
  pub ends : Begins (take (place + 1) text) → ⊥

-- A number begins behind a letter or a `:`. One that is out of range stands at a place.
pub record IsOutOfRange (text : List ℕ) (place : ℕ) : Type 0 where
  pub begins : Begins (take place text)
  pub behind : (IsTrue (is_letter (slice_index text (place - 1)))) ⊎ (slice_index text (place - 1) ≡ 58)
  pub some : 0 < place
  pub size : ℕ
  pub value : ℤ
  pub number : IsNumber (take size (drop place text)) value
  pub range : FitsSigned w32 value → ⊥

abbrev pub IsFaultAt : List ℕ → ℕ → Type 0
IsFaultAt text place = EndsTooEarly text place ⊎ (CantContinue text place ⊎ IsOutOfRange text place)

-- The first place with a fault.
pub record IsFirstFault (text : List ℕ) (place : ℕ) : Type 0 where
  pub here : IsFaultAt text place
  pub first : (before : ℕ) → before < place → IsFaultAt text before → ⊥
