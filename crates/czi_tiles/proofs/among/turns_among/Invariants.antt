use Rattle.std.proofs.Common.{◌≡◌, ℕ, ◌+◌, ◌<◌, ◌≤◌, map, take, length, get_or}
use Rattle.czi_doc.specs.QueryView.{query_of}
use Rattle.czi_tiles.specs.Chosen.{chosen_turns, turn_of}
use Rattle.czi_tiles.proofs.among.turns_among.Given as goal

-- the chosen ones below the next place, which every place that was passed is below
abbrev pub invariant-loop-place : goal.invariant-loop-place
invariant-loop-place l = record {
  turns : map turn_of l.turns.items ≡ chosen_turns (query_of l.query) 0 (take l.next l.tiles);
  inside : l.next ≤ length l.tiles;
  passed : (k : ℕ) → k < l.place-index → get_or l.places k 0 < l.next;
  last : (k : ℕ) → l.place-index ≤ k → k < length l.places → l.next ≤ get_or l.places k 0 + 1;
}
