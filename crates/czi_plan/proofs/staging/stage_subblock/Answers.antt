use Rattle.std.proofs.Common.{◌≡◌, ◌+◌, ◌++◌, ◌∷◌, [], length, refl, ap, ◌∙◌, arith}
use Rattle.czi_num.specs.Padding.{fill}
use Rattle.czi_format.proofs.Written.{length-entry_bytes}
use Rattle.czi_format.specs.Data.{subblock_data}
use Rattle.czi_format.specs.Entry.{EntryInfo, entry_len}
use Rattle.czi_image.specs.View.{tile_of}
use Rattle.czi_plan.specs.Bringing.{subblock_of}
use Rattle.czi_plan.proofs.Brought.{is_subblock}
use Rattle.czi_plan.proofs.KindLaws.{length-subblock}
use Rattle.czi_plan.proofs.staging.stage_subblock.Goals as goal

pub mark_header-requires-clause-id : goal.mark_header-requires-clause-id
mark_header-requires-clause-id c = ap length c.requires.tile.id ∙ length-subblock

pub returns-clause-item : goal.returns-clause-item
returns-clause-item c =
    let n = c.args.new.now in
    is_subblock (subblock_of n) c.args.tile.now.span c.args.tile.now c.requires.tile c.write_tile.ensures.entry c.requires.long n.short_meta n.short_pixels n.short_tail n.meta_bytes n.pixels_bytes n.tail_bytes

pub returns-clause-staged : goal.returns-clause-staged
returns-clause-staged c =
    let e = (tile_of c.args.tile.now).entry in
    let s = subblock_of c.args.new.now in
    let own : length c.write_tile.new.out ≡ entry_len e = ap length c.write_tile.ensures.written ∙ length-entry_bytes e c.write_tile.ensures.entry in
    let dims : length e.info.dims ≡ length s.info.dims = ap (λ (i : EntryInfo). length i.dims) c.requires.tile.info in
    let put = c.stage_sub-piece.ensures.subblock e s (record { entry_is = c.write_tile.ensures.written; long = own; meta_is = refl; pixels_is = refl; tail_is = refl }) in
    record {
      piece = c.stage_sub-piece.result;
      staged = put.inside;
      long = omega (arith, c.stage_sub-piece.ensures.size, c.requires.long, own, dims);
      padding = fill (length (subblock_data e s 0));
      bytes = put.reads;
      only = c.put.ensures.items ∙ ap (λ l. l ++ (c.args.tile.now.span.at + 32, c.stage_sub-piece.result) ∷ []) c.requires.no_writes;
    }

pub returns-clause-left : goal.returns-clause-left
returns-clause-left c =
    let e = (tile_of c.args.tile.now).entry in
    let s = subblock_of c.args.new.now in
    let own : length c.write_tile.new.out ≡ entry_len e = ap length c.write_tile.ensures.written ∙ length-entry_bytes e c.write_tile.ensures.entry in
    let dims : length e.info.dims ≡ length s.info.dims = ap (λ (i : EntryInfo). length i.dims) c.requires.tile.info in
    omega (arith, c.stage_sub-piece.ensures.staged.left, c.stage_sub-piece.ensures.staged.long, c.stage_sub-piece.ensures.size, c.requires.long, own, dims)
