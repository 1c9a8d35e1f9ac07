use Rattle.std.proofs.Common.{◌≡◌, ◌+◌, ℕ, ◌∙◌, ap, sym, arith, rules, Err, Result, List, ℤ, to_z, of_z, w64}
use Rattle.std.proofs.lemmas.List.{length_push}
use Rattle.std.proofs.lemmas.Iterator.Adapters.{YieldsList-from_vec}
use Rattle.std.proofs.lemmas.Iterator.Consumers.{YieldsList-turn, YieldsList-end}
use Rattle.czi_rig.specs.declared.file.File.TheVariants.{Image}
use Rattle.czi_rig.proofs.Faults.{faults_then}
use Rattle.czi_rig.proofs.Quiet.{untouched_then}
use Rattle.czi_format.specs.Live.{Tile}
use Rattle.czi_format.specs.Refusals.{Refusal, bad_segment}
use Rattle.czi_image.specs.Inside.{TileEnds}
use Rattle.czi_image.specs.Rules.{subblock_rules}
use Rattle.czi_image.proofs.Midway.{half_next, half_stops, half_ends, all_push}
use Rattle.czi_image.proofs.Told.{seen_same}
use Rattle.czi_image.proofs.tiles.read_each.Goals as goal

pub returns-in-Ok-None-clause-refused : goal.returns-in-Ok-None-clause-refused
unfolding subblock_rules
returns-in-Ok-None-clause-refused g c = λ image is.
    let it = c.into_iter-entry-iterator.ensures.into_iter_gives in
    let t = YieldsList-turn (YieldsList-from_vec {s = c.into_iter-entry-iterator.result} c.args.entries.items it.0 (it.1 ∙ c.args.entries.ok.0)) c.loop-entry.yielded c.loop-entry.entry-iterator c.loop-entry.yielded_by c.next.result c.next.new.self c.in-Some.entry c.in-Some.is c.next.ensures.steps in
    let place : to_z w64 (of_z w64 c.in-Some.entry.position) ≡ c.in-Some.entry.position = search rules in
    let none = (rw c.in-Ok-None.field-0-is at c.in-Ok-None.ensures.found) image (seen_same _ _ Image image c.loop-entry.invariant.read.untouched.same is) in
    half_stops c.in-Some.entry (c.loop-entry.invariant.read.half image is) t.0 t.1 (sym none)
    ∙ ap (λ (z : ℤ). let r : Result (List Tile) Refusal = Err (bad_segment z) in r) (sym place)

pub loop-entry-preserved : goal.loop-entry-preserved
loop-entry-preserved g c =
    let it = c.into_iter-entry-iterator.ensures.into_iter_gives in
    let t = YieldsList-turn (YieldsList-from_vec {s = c.into_iter-entry-iterator.result} c.args.entries.items it.0 (it.1 ∙ c.args.entries.ok.0)) c.loop-entry.yielded c.loop-entry.entry-iterator c.loop-entry.yielded_by c.next.result c.next.new.self c.in-Some.entry c.in-Some.is c.next.ensures.steps in
    record {
      read = record {
        untouched = untouched_then g.R.Rig c.loop-entry.invariant.read.untouched c.read_tile.ensures.untouched;
        no_fault = faults_then _ _ _ _ c.loop-entry.invariant.read.no_fault c.in-Ok-Some.ensures.cause;
        within =
            let ends : TileEnds c.args.size c.in-Ok-Some.tile = rw (c.in-Ok-Some.field-0-is, c.in-Ok-Some.tile-is) at c.in-Ok-Some.ensures.inside in
            rw ((c.in_ok-push-in-Ok-Some-2.ensures {u = tt}).items) (all_push (TileEnds c.args.size) _ c.in-Ok-Some.tile c.loop-entry.invariant.read.within ends);
        so_many = rw (length_push, (c.in_ok-push-in-Ok-Some-2.ensures {u = tt}).items) (length_push _ _ ∙ ap (λ (n : ℕ). n + 1) c.loop-entry.invariant.read.so_many);
        half = λ image is.
            let some = (rw (c.in-Ok-Some.field-0-is, c.in-Ok-Some.tile-is) at c.in-Ok-Some.ensures.found) image (seen_same _ _ Image image c.loop-entry.invariant.read.untouched.same is) in
            rw (length_push, (c.in_ok-push-in-Ok-Some-2.ensures {u = tt}).items) (half_next c.in-Some.entry c.in-Ok-Some.tile (c.loop-entry.invariant.read.half image is) t.0 t.1 (sym some));
      };
      sums = rw ((c.in_ok-push-in-Ok-Some-2.ensures {u = tt}).items) (c.in_ok-push-in-Ok-Some.ensures {u = tt} c.loop-entry.tiles.items c.loop-entry.invariant.sums);
    }

pub returns-clause-found : goal.returns-clause-found
unfolding subblock_rules
returns-clause-found g c = λ image is.
    let it = c.into_iter-entry-iterator.ensures.into_iter_gives in
    let t = YieldsList-end (YieldsList-from_vec {s = c.into_iter-entry-iterator.result} c.args.entries.items it.0 (it.1 ∙ c.args.entries.ok.0)) c.loop-entry.yielded c.loop-entry.entry-iterator c.loop-entry.yielded_by c.next.result c.next.new.self c.in-None.is c.next.ensures.steps in
    half_ends (c.loop-entry.invariant.read.half image is) (omega (arith, t.1))
