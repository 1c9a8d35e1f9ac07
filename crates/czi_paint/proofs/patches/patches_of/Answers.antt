use Rattle.std.proofs.Common.{◌≡◌, sym, subst, Result, Ok, Err, inr}
use Rattle.std.specs.Result.{IsErrAnd, MatchResult}
use Rattle.czi_doc.specs.QueryView.{query_of}
use Rattle.czi_paint.proofs.Named.{named, place_low, is_chosen_one, refused, goes_on, patched_more}
use Rattle.czi_paint.proofs.patches.patches_of.Goals as goal

pub bounds-tiles-place : goal.bounds-tiles-place
bounds-tiles-place c = place_low _ _ _ _ (named (query_of c.args.query.now) c.args.tiles.now c.args.places.now c.loop-place.place-index 0 c.requires c.loop-place-test.true)

pub patch_of-requires : goal.patch_of-requires
patch_of-requires c = is_chosen_one _ _ _ _ (named (query_of c.args.query.now) c.args.tiles.now c.args.places.now c.loop-place.place-index 0 c.requires c.loop-place-test.true) c.index-tiles-place.result c.index-tiles-place.is

from_err : {A E : Type 0} (r : Result A E) (P : A → Type 0) (Q : E → Type 0) (x : E) → IsErrAnd r (λ e. e ≡ x) → Q x → MatchResult r P Q
from_err (Ok a) P Q x h q = absurd h
from_err (Err e) P Q x h q = subst Q (sym h) q

pub returns-in_err-patch : goal.returns-in_err-patch
returns-in_err-patch c = from_err c.from_residual-in_err-patch.result _ _ c.in_err-patch.field-0.0 c.from_residual-in_err-patch.ensures.1
    (inr (refused _ _ _ _ (named (query_of c.args.query.now) c.args.tiles.now c.args.places.now c.loop-place.place-index 0 c.requires c.loop-place-test.true) c.index-tiles-place.result c.index-tiles-place.is
    c.in_err-patch.field-0.0 c.in_err-patch.ensures c.loop-place.invariant.fine))

pub loop-place-preserved : goal.loop-place-preserved
loop-place-preserved c =
    let n = named (query_of c.args.query.now) c.args.tiles.now c.args.places.now c.loop-place.place-index 0 c.requires c.loop-place-test.true in
    record {
      fine = goes_on _ _ _ _ n c.index-tiles-place.result c.index-tiles-place.is c.in_ok-patch.ensures.0 c.loop-place.invariant.fine;
      patched = rw c.in_ok-push.ensures.items (patched_more _ _ _ _ n c.index-tiles-place.result c.loop-place.patches.items c.in_ok-patch.patch c.index-tiles-place.is c.in_ok-patch.ensures.1 c.loop-place.invariant.patched);
    }
