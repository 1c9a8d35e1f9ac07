-- The words of the command line.
use Rattle.std.specs.Prelude.{◌≡◌, ℕ, List, [], ◌∷◌, Bool, true, false, not, ◌&&◌, ◌==◌, Option, Some, None, option_map, option_and_then, codes, bytes_eq, length, take, drop, if◌then◌else◌}
use Rattle.std.specs.List.{list_all}
use Rattle.uuid.specs.Text.{parsed}
use Rattle.czi_format.specs.Bytes.{stored_order}
use Rattle.czi_format.specs.Painting.{Query as Painting}
use Rattle.czi_script.specs.Script.{Command as Step, Listing, Info, Map, Check, Region}
use Rattle.czi_script.specs.Words.{SaysRegion}

-- What can be asked of an image: to list its subblocks, to tell of it, to map its free space, to count its segments, or to paint a
-- region.
pub data Query : Type 0 where
  list : Query
  info : Query
  map : Query
  check : Query
  region : Painting → Query

-- What is done with an image that is opened: to answer a query, or to run the script that the input gives.
pub data Action : Type 0 where
  query : Query → Action
  edit : Action

-- What words ask for: to open the image and do something with it, or to create the empty document with a GUID, in its stored
-- order.
pub data Command : Type 0 where
  opening : Action → Command
  create : List ℕ → Command

-- the query as a command of a script
abbrev pub step : Query → Step
step list = Listing
step info = Info
step map = Map
step check = Check
step (region q) = Region q

-- doesn't begin with a dash
abbrev pub is_plain : List ℕ → Bool
is_plain [] = true
is_plain (b ∷ rest) = not (b == 0x2d)

-- is empty
abbrev pub is_blank : List ℕ → Bool
is_blank [] = true
is_blank (b ∷ rest) = false

-- what is done under this name
abbrev pub action_named : List ℕ → Option Action
action_named name =
    if bytes_eq name (codes "list") then Some (query list)
    else if bytes_eq name (codes "info") then Some (query info)
    else if bytes_eq name (codes "map") then Some (query map)
    else if bytes_eq name (codes "check") then Some (query check)
    else if bytes_eq name (codes "edit") then Some edit
    else None

-- it has no fields
abbrev pub bare_action : List ℕ → List (List ℕ) → Option Action
bare_action name [] = action_named name
bare_action name (field ∷ fields) = None

-- what is done under this name with these fields, which say this as those of a region
abbrev pub action_of : Option Painting → List ℕ → List (List ℕ) → Option Action
action_of said name fields =
    if bytes_eq name (codes "region") then option_map (λ q. query (region q)) said
    else bare_action name fields

-- the value of a field that begins with this mark
abbrev pub value_behind : List ℕ → List ℕ → Option (List ℕ)
value_behind mark field = if bytes_eq (take (length mark) field) mark then Some (drop (length mark) field) else None

-- the GUID, in its stored order, that the text names
abbrev pub guid_by : List ℕ → Option (List ℕ)
guid_by text = option_map stored_order (parsed text)

-- the GUID that the only field names
abbrev pub guid_in : List (List ℕ) → Option (List ℕ)
guid_in [] = None
guid_in (field ∷ []) = option_and_then guid_by (value_behind (codes "guid=") field)
guid_in (field ∷ more ∷ fields) = None

-- the command of this name with these fields, which say this as those of a region
abbrev pub command_named : Option Painting → List ℕ → List (List ℕ) → Option Command
command_named said name fields =
    if bytes_eq name (codes "create") then option_map (λ guid. create guid) (guid_in fields)
    else option_map (λ action. opening action) (action_of said name fields)

-- The command of a file, which isn't empty, the name of a command, and its fields, which say this as those of a region. No word
-- begins with a dash.
abbrev pub command_of : Option Painting → List (List ℕ) → Option Command
command_of said [] = None
command_of said (file ∷ []) = None
command_of said (file ∷ name ∷ fields) = if not (is_blank file) && list_all is_plain (file ∷ name ∷ fields) then command_named said name fields else None

-- The words ask for this command, or for none.
pub record AreWords (words : List (List ℕ)) (command : Option Command) : Type 0 where
  pub said : Option Painting
  pub says : SaysRegion (drop 2 words) said
  pub asks : command ≡ command_of said words
