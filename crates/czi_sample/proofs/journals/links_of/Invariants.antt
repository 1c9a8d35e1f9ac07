use Rattle.std.proofs.Common.{◌≡◌}
use Rattle.czi_links.specs.Record.{EndWithin, next_place}
use Rattle.czi_sample.proofs.journals.links_of.Given as goal

abbrev pub invariant-loop-place : goal.invariant-loop-place
invariant-loop-place l = record {
  from : next_place 84 l.links.links ≡ l.next;
  ends : EndWithin l.length l.links.links;
}
