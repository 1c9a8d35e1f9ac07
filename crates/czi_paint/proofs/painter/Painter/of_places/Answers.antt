use Rattle.std.proofs.Common.{◌≡◌, ◌^◌, List, map, replicate, refl, sym, subst}
use Rattle.std.specs.List.{All}
use Rattle.std.proofs.lemmas.List.Elements.{All-from_recursion}
use Rattle.czi_format.specs.Painting.{Query, chosen, last_given, pixel_at, point}
use Rattle.czi_paint.specs.declared.patch.Patch.{Patch}
use Rattle.czi_doc.specs.QueryView.{query_of}
use Rattle.czi_tiles.specs.Chosen.{tile_dims}
use Rattle.czi_paint.specs.Patched.{subblock_in}
use Rattle.czi_paint.specs.Sweep.{HasEntered}
use Rattle.czi_paint.specs.Patches.{EndsBelow, FitsRow, patch_pixel}
use Rattle.czi_paint.proofs.Painted.{painted, lying, fitting, near}
use Rattle.czi_paint.proofs.painter.Painter.of_places.Goals as goal

pub invariant_of-result : goal.invariant_of-result
invariant_of-result c =
    let q : Query = query_of c.args.query.now in
    let cs = chosen tile_dims q c.args.tiles.now in
    record {
      some = c.bytes.ensures.some;
      fit = All-from_recursion (FitsRow q.w) c.in_ok-patches.patches.items (fitting q cs c.in_ok-patches.patches.items c.in_ok-patches.ensures.1);
      small = subst (λ n. All (EndsBelow (2 ^ 62) n) c.in_ok-patches.patches.items) (sym c.bytes.ensures.size)
          (All-from_recursion (EndsBelow (2 ^ 62) q.pixel.size) c.in_ok-patches.patches.items (lying q (2 ^ 62) cs c.in_ok-patches.patches.items c.in_ok-patches.ensures.1 (near cs)));
      entered = subst (λ ps. HasEntered ps 0 c.in_ok-sweep.sweep) c.deref.ensures.value c.in_ok-sweep.ensures;
    }

pub returns : goal.returns
returns c =
    let q : Query = query_of c.args.query.now in
    let cs = chosen tile_dims q c.args.tiles.now in
    let items : List Patch = c.in_ok-patches.patches.items in
    let size : c.bytes.result ≡ q.pixel.size = c.bytes.ensures.size in (
      c.in_ok-patches.ensures.0,
      record {
        w = refl;
        h = refl;
        size = size;
        next = refl;
        pixels = λ image i k low below.
            subst (λ n. last_given (λ (patch : Patch). patch_pixel n image patch k i) c.in_ok-patches.patches.items (replicate n 0)
            ≡ pixel_at (query_of c.args.query.now) (map (subblock_in image) c.args.tiles.now) (point c.args.query.now.x c.args.query.now.layer i) (point c.args.query.now.y c.args.query.now.layer k)) (sym size)
            (painted q c.args.tiles.now items c.in_ok-patches.ensures.1 image i k low below);
        lies = λ n all. subst (λ m. All (EndsBelow n m) c.in_ok-patches.patches.items) (sym size)
            (All-from_recursion (EndsBelow n q.pixel.size) items (lying q n cs items c.in_ok-patches.ensures.1 all));
      },
    )
