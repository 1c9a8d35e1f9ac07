use Rattle.std.proofs.Common.{◌≡◌, map, take}
use Rattle.czi_tiles.specs.declared.turn.Turn.{Turn}
use Rattle.czi_tiles.proofs.painted.places_of.Given as goal

abbrev pub invariant-loop-turn : goal.invariant-loop-turn
invariant-loop-turn l = l.places.items ≡ map (λ (t : Turn). t.place) (take l.turn-index l.turns)
