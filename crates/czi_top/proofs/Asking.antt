-- Words ask for one command, or none.
use Rattle.std.proofs.Common.{◌≡◌, ℕ, List, [], ◌∷◌, Bool, true, false, ◌&&◌, Option, Some, None, refl, sym, ap, ◌∙◌, subst, drop}
use Rattle.std.specs.Prelude.{bytes_eq, codes, if◌then◌else◌, option_map}
use Rattle.czi_format.specs.Painting.{Query as Painting}
use Rattle.czi_script.specs.Words.{SaysRegion}
use Rattle.czi_script.proofs.RegionWords.{said_once, some_said}
use Rattle.czi_top.specs.Arguments.{are_plain, has_shape}
use Rattle.czi_top.specs.Words.{Action, AreWords, Command, action_of, bare_action, command_named, command_of, create, opening, query, region}
use Rattle.czi_top.specs.View.{action_view, command_view}
use Rattle.czi_top.specs.declared.words.Action.{Action as CodeAction}
use Rattle.czi_top.specs.declared.words.Command.{Command as CodeCommand}
use Rattle.czi_top.specs.declared.words.Command.TheVariants.{Open, Create}

pub one_command : (words : List (List ℕ)) (command other : Option Command) → AreWords words command → AreWords words other → command ≡ other
one_command words command other a b = a.asks ∙ (ap (λ said. command_of said words) (said_once (drop 2 words) a.said b.said a.says b.says) ∙ sym b.asks)

-- they ask for what any way says to take what their fields say
pub asks_by : (words : List (List ℕ)) (command : Option Command) → ((said : Option Painting) → command ≡ command_of said words) → AreWords words command
asks_by words command by = let some = some_said (drop 2 words) in record { said = some.0; says = some.1; asks = by some.0 }

abbrev AsksSome : List (List ℕ) → Type 0
AsksSome words = (command : Option Command) × AreWords words command

pub some_command : (words : List (List ℕ)) → AsksSome words
some_command words = let some = some_said (drop 2 words) in (command_of some.0 words, record { said = some.0; says = some.1; asks = refl })

-- ---- words that were read

-- words of another shape
no_shape : (said : Option Painting) (words : List (List ℕ)) → false ≡ has_shape words → None ≡ command_of said words
no_shape said [] is = refl
no_shape said (file ∷ []) is = refl
no_shape said (file ∷ name ∷ fields) is = without (are_plain (file ∷ name ∷ fields)) is
  where
    without : (b : Bool) → false ≡ (b && true) → None ≡ (if b then command_named said name fields else None)
    without true e = cc
    without false e = refl

pub no_command : (words : List (List ℕ)) → false ≡ has_shape words → AreWords words None
no_command words is = asks_by words None (λ said. no_shape said words is)

-- a file, a name and fields
shaped : (said : Option Painting) (file name : List ℕ) (fields : List (List ℕ)) → true ≡ has_shape (file ∷ name ∷ fields) → command_named said name fields ≡ command_of said (file ∷ name ∷ fields)
shaped said file name fields is = within (are_plain (file ∷ name ∷ fields)) is
  where
    within : (b : Bool) → true ≡ (b && true) → command_named said name fields ≡ (if b then command_named said name fields else None)
    within true e = refl
    within false e = cc

pub named_words : (words : List (List ℕ)) (file name : List ℕ) (fields : List (List ℕ)) (command : Option Command) → true ≡ has_shape words → words ≡ file ∷ name ∷ fields
    → ((said : Option Painting) → SaysRegion fields said → command ≡ command_named said name fields) → AreWords words command
named_words words file name fields command shape whole named = subst (λ ws. AreWords ws command) (sym whole) (
    let some = some_said fields in
    record { said = some.0; says = some.1; asks = named some.0 some.1 ∙ shaped some.0 file name fields (shape ∙ ap has_shape whole) })

-- what is done under the name of a region, whose fields say this
pub region_named : (said found : Option Painting) (name : List ℕ) (fields : List (List ℕ)) → bytes_eq name (codes "region") ≡ true → SaysRegion fields found → SaysRegion fields said
    → option_map (λ q. query (region q)) found ≡ action_of said name fields
region_named said found name fields is a b =
    ap (option_map (λ q. query (region q))) (said_once fields found said a b) ∙ sym (ap (λ (t : Bool). if t then option_map (λ q. query (region q)) said else bare_action name fields) is)

-- ---- the command that was read, and those that the words ask for

module _ (words : List (List ℕ)) (found : Option CodeCommand) (are : AreWords words (option_map command_view found)) where
  told : (command : Option Command) (read : Option CodeCommand) → AreWords words command → found ≡ read → command ≡ option_map command_view read
  told command read asks is = one_command words command _ asks are ∙ ap (option_map command_view) is

  pub asks_so : (read : CodeCommand) (command : Command) → found ≡ Some read → AreWords words (Some command) → command ≡ command_view read
  asks_so read command is asks = let same = told (Some command) (Some read) asks is in cc

  pub opens_so : (did : CodeAction) (action : Action) → found ≡ Some (Open did) → AreWords words (Some (opening action)) → action ≡ action_view did
  opens_so did action is asks = let same = told (Some (opening action)) (Some (Open did)) asks is in cc

  pub creates_so : (made guid : List ℕ) → found ≡ Some (Create made) → AreWords words (Some (create guid)) → guid ≡ made
  creates_so made guid is asks = let same = told (Some (create guid)) (Some (Create made)) asks is in cc

  pub opens_not : (made : List ℕ) (action : Action) → found ≡ Some (Create made) → AreWords words (Some (opening action)) → ⊥
  opens_not made action is asks = let same = told (Some (opening action)) (Some (Create made)) asks is in cc

  pub creates_not : (did : CodeAction) (guid : List ℕ) → found ≡ Some (Open did) → AreWords words (Some (create guid)) → ⊥
  creates_not did guid is asks = let same = told (Some (create guid)) (Some (Open did)) asks is in cc

  pub asks_something : (read : CodeCommand) → found ≡ Some read → AreWords words None → ⊥
  asks_something read is asks = let same = told None (Some read) asks is in cc

  pub asks_nothing : (command : Command) → found ≡ None → AreWords words (Some command) → ⊥
  asks_nothing command is asks = let same = told (Some command) None asks is in cc
