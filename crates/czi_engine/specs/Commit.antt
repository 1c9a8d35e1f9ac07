-- The writes and the commit of a command.
use Rattle.std.specs.Prelude.{◌≡◌, ℕ, List, ◌++◌, map, length}
use Rattle.czi_commit.specs.Filled.{filled}
use Rattle.czi_commit.specs.Made.{Fits, Step, made}
use Rattle.czi_format.specs.Live.{Live}
use Rattle.czi_links.specs.Record.{Bytes}
use Rattle.czi_machine.specs.Edit.{DocumentEffect, after}
use Rattle.czi_machine.specs.Laws.{Leads}
use Rattle.czi_machine.specs.Planned.{Plans}
use Rattle.czi_machine.specs.State.{State}
use Rattle.czi_machine.specs.LiveChange.{LiveChange, changed_live, SpansAt}
use Rattle.czi_machine.specs.Written.{Piece}
use Rattle.czi_vault.specs.Recovered.{with_links}

abbrev pub piece_of : Bytes → Piece
piece_of b = record { place = b.place; bytes = b.bytes }

abbrev pub pieces_of : List Bytes → List Piece
pieces_of bs = map piece_of bs

-- what a step writes and commits
abbrev pub pieces_in : Step → List Piece
pieces_in c = pieces_of (c.writes ++ c.commits.links)

-- the bytes once a step's writes are made, with zeros in the gaps behind the end, and once it is committed
abbrev pub written : Step → List ℕ → List ℕ
written c bytes = with_links (filled (length bytes) c.writes) bytes

abbrev pub made_of : Step → List ℕ → List ℕ
made_of c bytes = made (length bytes) c bytes

-- it can be written over these bytes, and committed
abbrev pub IsStep : List ℕ → Step → Type 0
IsStep bytes c = Fits (length bytes) c

-- Its pieces are the plan of a command, which leads from one state to another and turns what is live.
pub record IsPlanned (bytes : List ℕ) (live : Live) (s s' : State) (t : LiveChange) (c : Step) : Type 0 where
  pub effect : DocumentEffect
  pub leads : Leads s s'
  pub document : s'.document ≡ after effect s.document
  pub spans : SpansAt s'.layout (changed_live t live)
  pub plans : Plans bytes s.layout s'.layout live effect t (pieces_in c)
  pub length : c.commits.committed ≡ s'.layout.length
