use Rattle.std.proofs.Common.{◌≡◌, ◌^◌, Ok, Err, length, sym, ◌∙◌, arith}
use Rattle.czi_format.specs.Document.{Subblock}
use Rattle.czi_machine.specs.Change.{into}
use Rattle.czi_machine.specs.Edit.{add, in_subblocks}
use Rattle.czi_plan.specs.Bringing.{subblock_in}
use Rattle.czi_engine.specs.Limits.{subblock_pieces}
use Rattle.czi_engine.proofs.Planned.{addition_means, limit_passes, limit_refuses, means_as, new_passes, new_refuses, refused, short_pieces}
use Rattle.czi_engine.proofs.engine.Engine.prepare_addition.Goals as goal

pub returns-in_err-check_subblock : goal.returns-in_err-check_subblock
returns-in_err-check_subblock c =
    let x = c.args.self.now in
    let s : Subblock = subblock_in c.args.info.now c.args.meta.now c.args.pixels.now c.args.tail.now in
    let told = c.in_err-check_subblock.ensures.past in
    refused x (add s) c.from_residual.result c.in_err-check_subblock.field-0.0 told.0 told.1 (means_as x.state (add s) _ (Err told.0) (addition_means x.state s) (limit_refuses (subblock_pieces s.meta s.pixels s.tail) _ told.0 told.2)) c.from_residual.ensures.1

pub returns-in_err-check_new : goal.returns-in_err-check_new
returns-in_err-check_new c =
    let x = c.args.self.now in
    let s : Subblock = subblock_in c.args.info.now c.args.meta.now c.args.pixels.now c.args.tail.now in
    let n = length x.state.index.tiles.items in
    let many : c.len.result ≡ n = omega (arith, c.len.ensures, x.state.index.tiles.ok) in
    let told = rw (c.tile_with-there.ensures, many) at c.in_err-check_new.ensures.told in
    let no = new_refuses _ n (2 ^ 20) (in_subblocks (into n s)) c.in_err-check_new.field-0.0 told in
    refused x (add s) c.from_residual-in_err-check_new.result c.in_err-check_new.field-0.0 no.0 no.1 (means_as x.state (add s) _ (Err no.0) (addition_means x.state s) (limit_passes (subblock_pieces s.meta s.pixels s.tail) _ c.in_ok-check_subblock.ensures.within ∙ no.2)) c.from_residual-in_err-check_new.ensures.1

pub prepare-requires-clause-allowed : goal.prepare-requires-clause-allowed
prepare-requires-clause-allowed c =
    let short = short_pieces (subblock_pieces c.args.meta.now c.args.pixels.now c.args.tail.now) c.in_ok-check_subblock.ensures.within in
    (record { meta = short.0; pixels = short.1.0; tail = short.1.1.0 }, omega (arith, c.len.ensures, c.in_ok-check_new.ensures.room))

pub returns : goal.returns
returns c =
    let x = c.args.self.now in
    let s : Subblock = subblock_in c.args.info.now c.args.meta.now c.args.pixels.now c.args.tail.now in
    let n = length x.state.index.tiles.items in
    c.prepare.ensures (add s) (means_as x.state (add s) _ (Ok (in_subblocks (into n s))) (addition_means x.state s)
    (limit_passes (subblock_pieces s.meta s.pixels s.tail) _ c.in_ok-check_subblock.ensures.within
    ∙ new_passes _ n (2 ^ 20) (in_subblocks (into n s)) (sym c.tile_with-there.ensures ∙ c.in_ok-check_new.ensures.unknown) (omega (arith, c.len.ensures, c.in_ok-check_new.ensures.room))))
