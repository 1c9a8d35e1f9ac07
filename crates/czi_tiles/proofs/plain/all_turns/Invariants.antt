use Rattle.std.proofs.Common.{◌≡◌, map, take}
use Rattle.czi_doc.specs.QueryView.{query_of}
use Rattle.czi_tiles.specs.Chosen.{chosen_turns, turn_of}
use Rattle.czi_tiles.proofs.plain.all_turns.Given as goal

-- the chosen ones of those that were passed
abbrev pub invariant-loop-at : goal.invariant-loop-at
invariant-loop-at l = map turn_of l.turns.items ≡ chosen_turns (query_of l.query) 0 (take l.at l.tiles)
