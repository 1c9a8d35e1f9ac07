use Rattle.std.proofs.Common.{◌≡◌, ℕ, ◌+◌, ◌≤◌, take, length, replicate, flat_map, ap, ◌∙◌, sym, arith, drop, length-append, ◌++◌}
use Rattle.std.proofs.lemmas.List.{length-replicate}
use Rattle.czi_format.specs.Entry.{entry_bytes}
use Rattle.czi_region.specs.Pieces.{bytes_put}
use Rattle.czi_plan.specs.Directory.{listed_middle}
use Rattle.czi_plan.proofs.Entries.{over_last, whole_written}
use Rattle.czi_plan.proofs.directory.stage_middle.Goals as goal

pub returns-clause-staged : goal.returns-clause-staged
returns-clause-staged c =
    let bytes = flat_map entry_bytes (listed_middle c.args.listing.now) in
    let long : length c.get_mut.result.now ≡ c.args.len = ap length (c.get_mut.ensures.value ∙ c.zeros-piece.ensures.reads) ∙ length-replicate c.args.len 0 in
    let filled : c.write_middle.new.out ≡ bytes = whole_written (listed_middle c.args.listing.now) c.write_middle.result c.get_mut.result.now c.write_middle.new.out c.write_middle.ensures (omega (arith, long, c.requires.len)) in
    let size : length bytes ≡ c.args.len = omega (arith, ap length filled, c.write_middle.auto.out, long) in
    let same : length c.write_middle.new.out ≡ c.zeros-piece.result.len = omega (arith, c.write_middle.auto.out, long, c.zeros-piece.ensures.long) in
    let inside : c.zeros-piece.result.at + c.zeros-piece.result.len ≤ length (bytes_put c.zeros-piece.new.self)
    = omega (arith, ap length c.zeros-piece.ensures.bytes, length-append (bytes_put c.args.region.now) (replicate c.args.len 0), length-replicate {A = ℕ} c.args.len 0, c.zeros-piece.ensures.behind, c.zeros-piece.ensures.long) in
    let put = c.written_piece.ensures.bytes c.zeros-piece.new.self c.zeros-piece.result c.write_middle.new.out inside same
    ∙ (ap (λ n. take c.zeros-piece.result.at (bytes_put c.zeros-piece.new.self) ++ (c.write_middle.new.out ++ drop (c.zeros-piece.result.at + n) (bytes_put c.zeros-piece.new.self))) c.zeros-piece.ensures.long
    ∙ over_last (bytes_put c.args.region.now) (bytes_put c.zeros-piece.new.self) c.write_middle.new.out bytes c.zeros-piece.result.at c.args.len
    c.zeros-piece.ensures.bytes c.zeros-piece.ensures.behind filled) in
    c.whole_piece.ensures _ _ c.zeros-piece.result bytes put
    (omega (arith, c.written_piece.ensures.room c.zeros-piece.new.self c.zeros-piece.result c.write_middle.new.out, c.zeros-piece.ensures.room, size))
    c.zeros-piece.ensures.behind (c.zeros-piece.ensures.long ∙ sym size)
