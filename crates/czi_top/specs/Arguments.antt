-- Words as clap reads them: a file, a command, and a last positional of several words.
use Rattle.std.specs.Prelude.{ℕ, ◌&&◌, Bool, true, false, not, List, [], ◌∷◌, Some, codes}
use Rattle.std.specs.List.{list_all}
use Rattle.clap.specs.Walk.{Rule}
use Rattle.clap.specs.Simple.{App, Shape, new_rule, new_shape, with_rule}
use Rattle.clap.specs.declared.builder.action.ArgAction.TheVariants.{Append}
use Rattle.czi_top.specs.Words.{is_blank, is_plain}

abbrev pub file_rule : Rule
file_rule = record (new_rule (codes "file")) { required = true }

abbrev pub command_rule : Rule
command_rule = record (new_rule (codes "command")) { required = true }

abbrev pub fields_rule : Rule
fields_rule = record (new_rule (codes "fields")) { action = Some Append }

abbrev pub bare : Shape
bare = record (new_shape (codes "czi_tool")) { no_binary_name = true; disable_help_flag = true }

abbrev pub tool : App
tool = with_rule (with_rule (with_rule (record { top = bare; subs = [] }) file_rule) command_rule) fields_rule

-- the first word, which is the file, is there and not empty
abbrev pub is_named : List (List ℕ) → Bool
is_named [] = false
is_named (file ∷ rest) = not (is_blank file)

-- and no word begins with a dash
abbrev pub are_plain : List (List ℕ) → Bool
are_plain words = is_named words && list_all is_plain words

abbrev pub has_two : List (List ℕ) → Bool
has_two [] = false
has_two (file ∷ []) = false
has_two (file ∷ name ∷ fields) = true

-- a file, the name of a command, and any fields
abbrev pub has_shape : List (List ℕ) → Bool
has_shape words = are_plain words && has_two words
