use Rattle.std.proofs.Common.{◌≡◌, ◌≤◌, ◌-◌, length, drop}
use Rattle.czi_links.specs.Record.{next_place}
use Rattle.czi_links.specs.Reading.{links_at}
use Rattle.czi_links.proofs.Taken.{prepended}
use Rattle.czi_links.proofs.decoding.read_links.Given as goal

abbrev pub invariant-loop-taken : goal.invariant-loop-taken
invariant-loop-taken l = record {
  within : l.at ≤ length l.slot;
  begins : next_place 84 l.into.links ≡ l.from;
  so_far : links_at l.count 32 84 l.limit (drop 32 l.slot) ≡ prepended l.into.links (links_at (l.count - l._taken) l.at l.from l.limit (drop l.at l.slot));
}
