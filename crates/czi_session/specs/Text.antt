-- What is said of a script that breaks off.
use Rattle.std.specs.Prelude.{ℕ, List, [], ◌++◌, codes}
use Rattle.std.specs.Fmt.{decimal}
use Rattle.czi_script.specs.declared.kind.Kind.{Kind}
use Rattle.czi_script.specs.declared.kind.Kind.TheVariants.{Cut, Long, Word, Later, Field, Value, Tail}
use Rattle.czi_script.specs.Script.{End, Done, Fault}

abbrev pub kind_word : Kind → List ℕ
kind_word Cut = codes "cut"
kind_word Long = codes "long"
kind_word Word = codes "word"
kind_word Later = codes "later"
kind_word Field = codes "field"
kind_word Value = codes "value"
kind_word Tail = codes "tail"

-- the number of the command that is none, and why
unfoldable pub fault_line : ℕ → Kind → List ℕ
fault_line number kind = codes "script " ++ (decimal number ++ (codes " " ++ (kind_word kind ++ codes "\n")))

-- the last text of a run
abbrev pub last_text : End → List ℕ
last_text Done = []
last_text (Fault n kind) = fault_line n kind
