-- The former documents that an undo list gives over an image.
use Rattle.std.specs.Prelude.{ℕ, List, [], ◌∷◌, Option, Some, None}
use Rattle.czi_format.specs.Partial.{◌>>=◌}
use Rattle.czi_machine.specs.Formers.{brought_back}
use Rattle.czi_machine.specs.State.{Former}
use Rattle.czi_undo.specs.Parts.{Command, ToldPart, lain_part, return_of}

-- What an inverse gives, applied to a document and its item extents: without the item at a place, or with the item that is
-- completed in the image put or inserted there, or with its metadata, or with none.
abbrev pub part_done : List ℕ → ℕ → Former → ToldPart → Option Former
part_done image n f p = do
  q ← lain_part image p
  Some (brought_back image (return_of n q) f)

-- one after another
abbrev pub parts_done : List ℕ → ℕ → Former → List ToldPart → Option Former
parts_done image n f [] = Some f
parts_done image n f (p ∷ ps) = do
  g ← part_done image n f p
  parts_done image n g ps

abbrev pub before : Option Former → (Former → List Former) → List Former
before None more = []
before (Some f) more = f ∷ more f

-- The newest command is undone on the present document, and each further one on what the one before gave.
abbrev pub formers_of : List ℕ → Former → List Command → List Former
formers_of image f [] = []
formers_of image f (c ∷ cs) = before (parts_done image c.edits f c.parts) (λ g. formers_of image g cs)
