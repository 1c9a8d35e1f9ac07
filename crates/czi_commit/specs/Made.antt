-- What a command writes and commits, and what it makes of an image.
use Rattle.std.specs.Prelude.{◌≤◌, ◌^◌, ℕ, List}
use Rattle.std.specs.List.{AllByRecursion}
use Rattle.czi_links.specs.declared.head.SlotHead.{SlotHead}
use Rattle.czi_links.specs.Record.{Bytes, Record, EndWithin, encoded_len}
use Rattle.czi_region.specs.declared.block.Piece.{Piece}
use Rattle.czi_region.specs.declared.block.Region.{Region}
use Rattle.czi_region.specs.Pieces.{IsPiece}
use Rattle.czi_vault.specs.Recovered.{applied, with_links}
use Rattle.czi_plan.specs.declared.plan.EditPlan.{EditPlan}
use Rattle.czi_commit.specs.Filled.{LeaveHeader, filled}
use Rattle.czi_plan.specs.Pieces.{AreNear, last_end, writes_of}
use Rattle.czi_links.specs.declared.numbers.TheConstants.{SLOT_LEN}
use Rattle.czi_format.specs.declared.numbers.TheConstants.{HEADER_FRONT}

-- what a command writes before its commit, and the record that it commits
pub record Step : Type 0 where
  pub writes : List Bytes
  pub commits : Record

-- An image of this length into which a step's bytes were written, cut to the committed length, with the links over it and byte
-- 100 set to 0.
abbrev pub made : ℕ → Step → List ℕ → List ℕ
made n c image = applied c.commits (with_links (filled n c.writes) image)

-- A step that can be written and committed over an image of this length.
pub record Fits (n : ℕ) (c : Step) : Type 0 where
  pub header : HEADER_FRONT ≤ n
  pub behind : LeaveHeader c.writes
  pub near : AreNear n c.writes
  pub small : last_end n c.writes ≤ 2 ^ 62
  pub least : HEADER_FRONT ≤ c.commits.committed
  pub long : c.commits.committed ≤ last_end n c.writes
  pub ends : EndWithin c.commits.committed c.commits.links
  pub brief : encoded_len c.commits.links ≤ SLOT_LEN

-- all that it writes is there
abbrev pub IsStaged : Region → EditPlan → Type 0
IsStaged region plan = AllByRecursion (λ (w : ℕ × Piece). IsPiece region w.1) plan.writes.items

-- the step of a plan
abbrev pub step_of : SlotHead → Region → EditPlan → Step
step_of file region plan = record { writes = writes_of region plan; commits = record { guid = file.guid; committed = plan.length; links = plan.links.links } }
