-- A change that takes one subblock out of an index.
use Rattle.std.specs.Prelude.{◌≡◌, ℕ, [], ◌∷◌}
use Rattle.czi_image.specs.declared.change.Act.TheVariants.{Out}
use Rattle.czi_image.specs.declared.change.Change.{Change}
use Rattle.czi_image.specs.declared.change.DirectoryChange.{DirectoryChange}
use Rattle.czi_image.specs.declared.change.DirectoryChange.TheVariants.{Kept}
use Rattle.czi_image.specs.declared.change.Setting.TheVariants.{Same}

pub record IsRemoval (i : ℕ) (d : DirectoryChange) (c : Change) : Type 0 where
  pub directory : c.directory ≡ d
  pub tiles : c.tiles.items ≡ Out i ∷ []
  pub attdir : c.attdir ≡ Kept
  pub attachments : c.attachments.items ≡ []
  pub metadata : c.metadata ≡ Same
