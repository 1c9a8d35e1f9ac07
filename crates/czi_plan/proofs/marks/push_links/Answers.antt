use Rattle.std.proofs.Common.{◌≡◌, ◌++◌, ◌∷◌, [], ◌+◌, List, ℕ, drop, length, ap, sym, ◌∙◌, arith, append_assoc}
use Rattle.czi_links.specs.Record.{next_place}
use Rattle.czi_links.specs.WriteSet.{WriteSet}
use Rattle.czi_plan.specs.Marks.{Mark, mark_of, marks_of}
use Rattle.czi_plan.proofs.Entries.{drop_here}
use Rattle.czi_plan.proofs.Linking.{left_here, rise_on}
use Rattle.czi_plan.proofs.marks.push_links.Goals as goal

pub get-requires : goal.get-requires
get-requires c =
    (left_here c.args.region.now c.args.marks.now c.loop-span.span-index (next_place 84 c.loop-span.links.links) c.loop-span-item.result c.loop-span-test.true c.loop-span-item.is c.loop-span.invariant.rise c.loop-span.invariant.sized).there

pub loop-span-preserved : goal.loop-span-preserved
loop-span-preserved c =
    let m : Mark = c.loop-span-item.result in
    let left = left_here c.args.region.now c.args.marks.now c.loop-span.span-index (next_place 84 c.loop-span.links.links) m c.loop-span-test.true c.loop-span-item.is c.loop-span.invariant.rise c.loop-span.invariant.sized in
    let pushed : c.push.new.self.links ≡ c.loop-span.links.links ++ mark_of c.args.region.now m ∷ []
    = ap (λ (s : WriteSet). s.links) c.push.ensures ∙ ap (λ (bs : List ℕ). c.loop-span.links.links ++ record { place = m.0.at; bytes = bs } ∷ []) c.get.ensures in
    record {
      links = ap (λ l. l ++ marks_of c.args.region.now (drop (c.loop-span.span-index + 1) c.args.marks.now)) pushed ∙ (append_assoc c.loop-span.links.links (mark_of c.args.region.now m ∷ []) _
          ∙ (ap (λ l. c.loop-span.links.links ++ marks_of c.args.region.now l) (sym (drop_here c.args.marks.now c.loop-span.span-index m c.loop-span-test.true c.loop-span-item.is)) ∙ c.loop-span.invariant.links));
      spare = omega (arith, ap (λ (s : WriteSet). s.spare_links) c.push.ensures, left.count, c.loop-span.invariant.spare);
      room = omega (arith, ap (λ (s : WriteSet). s.spare_bytes) c.push.ensures, left.size, c.loop-span.invariant.room, ap (λ (bs : List ℕ). length bs) c.get.ensures);
      rise = rw pushed (rise_on c.args.region.now c.loop-span.links.links m (marks_of c.args.region.now (drop (c.loop-span.span-index + 1) c.args.marks.now)) left.rise);
      sized = left.sized;
    }
