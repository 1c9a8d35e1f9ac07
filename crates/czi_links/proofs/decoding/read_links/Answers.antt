use Rattle.std.proofs.Common.{◌≡◌, ◌+◌, ◌-◌, ℕ, List, [], ◌∷◌, ◌++◌, length, take, drop, sym, ◌∙◌, ap, arith}
use Rattle.std.proofs.lemmas.List.{length-drop, length-take-le}
use Rattle.czi_links.specs.Record.{Bytes, next_place}
use Rattle.czi_links.specs.Reading.{links_at}
use Rattle.czi_links.specs.WriteSet.{WriteSet}
use Rattle.czi_links.proofs.Taken.{prepended, prepended-none, one_taken, none_taken, all_taken}
use Rattle.czi_links.proofs.Rising.{next_place-more}
use Rattle.czi_links.proofs.decoding.read_links.Goals as goal

pub loop-taken-init : goal.loop-taken-init
loop-taken-init c =
    let slot = c.args.slot.now in
    let all : c.args.count ≡ c.args.count - 0 = omega arith in
    record {
      within = c.requires.head;
      begins = ap (next_place 84) c.requires.empty;
      so_far = prepended-none (links_at c.args.count 32 84 c.args.limit (drop 32 slot)) ∙ ap (λ (k : ℕ). prepended [] (links_at k 32 84 c.args.limit (drop 32 slot))) all
          ∙ ap (λ (ls : List Bytes). prepended ls (links_at (c.args.count - 0) 32 84 c.args.limit (drop 32 slot))) (sym c.requires.empty);
    }

pub read_link-requires : goal.read_link-requires
read_link-requires c = c.loop-taken.invariant.within

pub returns-in_default-clause-links : goal.returns-in_default-clause-links
returns-in_default-clause-links c = none_taken c.args.slot.now c.args.count c.loop-taken._taken c.loop-taken.at c.loop-taken.from c.args.limit c.loop-taken.into.links _ c.loop-taken-test.true (c.in_default.ensures {u = tt}) c.loop-taken.invariant.so_far

pub push-requires-clause-rising : goal.push-requires-clause-rising
push-requires-clause-rising c =
    let kept : next_place 84 c.reserve.new.self.links ≡ next_place 84 c.loop-taken.into.links = ap (λ (w : WriteSet). next_place 84 w.links) (c.in_ok-reserve.ensures {u = tt}).ok in
    let rules = c.in-Some.ensures in
    omega (arith, kept, c.loop-taken.invariant.begins, rules.0.begins, rules.1)

pub loop-taken-preserved : goal.loop-taken-preserved
loop-taken-preserved c =
    let slot = c.args.slot.now in
    let at = c.loop-taken.at in
    let place = c.in-Some.place in
    let len = c.in-Some.len in
    let inv = c.loop-taken.invariant in
    let rules = c.in-Some.ensures in
    let good = rules.0 in
    let room = length-drop c.loop-taken.at c.args.slot.now in
    let content = length-drop (c.loop-taken.at + 12) c.args.slot.now in
    let kept : c.reserve.new.self.links ≡ c.loop-taken.into.links = ap (λ (w : WriteSet). w.links) (c.in_ok-reserve.ensures {u = tt}).ok in
    let size : c.loop-taken.at + 12 + c.in-Some.len - (c.loop-taken.at + 12) ≡ c.in-Some.len = omega arith in
    let whole : length (take c.in-Some.len (drop (c.loop-taken.at + 12) c.args.slot.now)) ≡ c.in-Some.len = length-take-le len (drop (at + 12) slot) (omega (arith, good.fits, room, content, rules.2, inv.within)) in
    let new_is : c.push.new.self.links ≡ c.loop-taken.into.links ++ record { place = c.in-Some.place; bytes = take c.in-Some.len (drop (c.loop-taken.at + 12) c.args.slot.now) } ∷ [] =
    ap (λ (w : WriteSet). w.links) c.push.ensures
    ∙ ap (λ (ls : List Bytes). ls ++ record { place = place; bytes = take (at + 12 + len - (at + 12)) (drop (at + 12) slot) } ∷ []) kept
    ∙ ap (λ (n : ℕ). c.loop-taken.into.links ++ record { place = place; bytes = take n (drop (at + 12) slot) } ∷ []) size in
    record {
      within = omega (arith, good.fits, room, rules.2, inv.within);
      begins = ap (next_place 84) new_is ∙ next_place-more 84 c.loop-taken.into.links (record { place = place; bytes = take len (drop (at + 12) slot) }) ∙ ap (λ (n : ℕ). place + n) whole;
      so_far = one_taken slot c.args.count c.loop-taken._taken at c.loop-taken.from c.args.limit c.loop-taken.into.links c.push.new.self.links place len _ c.loop-taken-test.true good rules.1 rules.2 inv.so_far new_is;
    }

pub returns-clause-links : goal.returns-clause-links
returns-clause-links c = all_taken c.args.slot.now c.args.count c.loop-taken._taken c.loop-taken.at c.loop-taken.from c.args.limit c.loop-taken.into.links _ c.loop-taken-test.false c.loop-taken.invariant.so_far
