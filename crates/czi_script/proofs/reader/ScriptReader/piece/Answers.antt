use Rattle.std.proofs.Common.{◌≡◌, ◌≤◌, length, refl, sym, ◌∙◌, subst, arith}
use Rattle.std.proofs.lemmas.Result.{err_from_is_err_and}
use Rattle.czi_script.specs.Reader.{Reader, IsReader}
use Rattle.czi_script.specs.Pieces.{Passed}
use Rattle.czi_script.proofs.Passing.{PieceBegins, piece_begins, passed_both, interrupted_then, filled_few}
use Rattle.czi_script.proofs.reader.ScriptReader.piece.Goals as goal

pub loop-self-init : goal.loop-self-init
loop-self-init g c =
    let i = c.self.inside in
    let old : Reader = record { held = i.window; taken = i.taken; commands = i.commands; error = i.error } in
    let new : Reader = record { held = c.use_front.new.self; taken = i.taken; commands = i.commands; error = i.error } in
    let sound : IsReader old = record { counted = c.self.invariant.0; few = c.self.invariant.1 } in
    let b : PieceBegins c.args.self.now new (g.S.Source.input c.args.input.now).left c.args.size c.add.new.self =
    piece_begins c.args.self.now old new _ c.args.size c.min-front.result c.in-Ok.piece c.add.new.self c.held.result.now c.held-2.result.now c.self.view_is sound c.min-front.ensures c.held.ensures c.held-2.ensures c.in-Ok.ensures c.add.ensures c.use_front.ensures refl refl refl in
    record { passed = b.passed; size = b.sized; few = b.few; sound = b.sound; held = b.held; told = refl; later = search arith; no_fault = refl }

pub loop-self-preserved : goal.loop-self-preserved
loop-self-preserved g c =
    let v = c.loop-self.invariant in
    let e = c.in_ok-fill_piece.ensures in
    record {
      passed = subst (λ l. Passed c.args.self.now c.fill_piece.new.self (g.S.Source.input c.args.input.now).left (g.S.Source.input c.fill_piece.new.input).left l) (sym e.some.whole) (passed_both _ _ _ _ _ _ c.loop-self.piece.bytes e.some.more v.passed e.some.passed);
      size = e.size ∙ v.size;
      few = filled_few c.piece.inside.count c.piece.inside.buffer.items c.fill_piece.new.piece c.piece.view_is;
      sound = e.sound;
      held = λ lt. e.held;
      told = e.told ∙ v.told;
      later = search arith;
      no_fault = e.cause ∙ v.no_fault;
    }

pub returns-in_err-fill_piece-clause-stops : goal.returns-in_err-fill_piece-clause-stops
returns-in_err-fill_piece-clause-stops g c =
    let v = c.loop-self.invariant in
    let few : length c.loop-self.piece.bytes ≤ c.loop-self.piece.size = v.few in
    let sized : c.loop-self.piece.size ≡ c.args.size = v.size in
    let p = err_from_is_err_and c.from_residual.result c.from_residual.ensures.1 in
    rw (p.1, p.2) (interrupted_then c.args.self.now c.loop-self.self c.fill_piece.new.self _ _ _ c.loop-self.piece.bytes 0 c.args.size c.in_err-fill_piece.field-0.0 v.passed c.in_err-fill_piece.ensures.stops (omega (arith, few, sized)))
