use Rattle.std.proofs.Common.{inl, inr, refl, subst, arith, ◌≤◌, List, ℕ, length}
use Rattle.std.specs.Prelude.{◌≢◌}
use Rattle.czi_rig.proofs.Faults.{faults_then, no_faults}
use Rattle.czi_rig.proofs.Known.{goes_then}
use Rattle.czi_rig.proofs.Quiet.{untouched_here}
use Rattle.czi_session.proofs.PieceWise.{next_only, next_stops, none_said, part_known, piece_only, piece_stands, said_on, said_whole, stops_at}
use Rattle.czi_session.proofs.pieces.say_reply.Goals as goal

pub loop-editor-init : goal.loop-editor-init
loop-editor-init g c = record {
  each = λ said s rest h owed. none_said g.R.Rig g.E.Editor.model (g.E.Editor.stands c.args.editor.now) (g.E.Editor.owes c.args.editor.now) c.args.rig.now (g.E.Editor.says c.args.editor.now) said s rest h owed;
  fewer = omega arith;
  ready_now = c.requires.ready;
  goes_on = (untouched_here g.R.Rig c.args.rig.now).goes_on;
  no_fault = no_faults _;
}

pub returns-in_default-clause-stops : goal.returns-in_default-clause-stops
returns-in_default-clause-stops g c = λ said s rest h owed.
    let m = g.E.Editor.model in
    let e = c.loop-editor.editor in
    let x = c.loop-editor.invariant.each said s rest h owed in
    let some = c.in_default.ensures.said in
    let at = stops_at g.R.Rig m (g.E.Editor.stands e) (g.E.Editor.says e) (g.E.Editor.owes e) x h.known (g.met.E.Editor.rests_now e) said h.said_is (g.R.Rig.state c.say.new.self) some.0
    (subst (λ (z : List ℕ). some.0 ≤ length z) c.piece.ensures some.1)
    (part_known g.R.Rig m (g.E.Editor.stands e) (g.E.Editor.says e) (g.E.Editor.owes e) x h.known c.piece.result.now c.piece.ensures c.say.ensures.files c.say.ensures.time some.0 some.2) in
    (inl refl, at.0, at.1, at.2)

pub returns-in_default-clause-only : goal.returns-in_default-clause-only
returns-in_default-clause-only g c = λ said s rest h owed.
    let m = g.E.Editor.model in
    let e = c.loop-editor.editor in
    piece_only g.R.Rig m (g.E.Editor.stands e) (g.E.Editor.says e) (g.E.Editor.owes e) (c.loop-editor.invariant.each said s rest h owed) h.known c.piece.result.now c.piece.ensures c.say.ensures.files c.say.ensures.time

pub loop-editor-preserved : goal.loop-editor-preserved
loop-editor-preserved g c =
    let m = g.E.Editor.model in
    let e = c.loop-editor.editor in
    let inv = c.loop-editor.invariant in
    record {
      each = λ said s rest h owed.
          let x = inv.each said s rest h owed in
          let stood = piece_stands g.R.Rig m (g.E.Editor.stands e) (g.E.Editor.says e) (g.E.Editor.owes e) x h.known c.piece.result.now c.piece.ensures c.say.ensures.files c.say.ensures.time c.in-Ok.ensures.said c.next_piece.ensures.untouched in
          said_on g.R.Rig m (g.E.Editor.stands e) (g.E.Editor.says e) (g.E.Editor.owes e) x h.known c.piece.result.now c.piece.ensures c.say.ensures.files c.say.ensures.time c.in-Ok.ensures.said c.next_piece.ensures.untouched
          (g.E.Editor.stands c.next_piece.new.self) (c.in-Ok-true.ensures.stands h.now.image h.now.journal s x.stands) c.in-Ok-true.field-0 (g.E.Editor.says c.next_piece.new.self) (g.E.Editor.owes c.next_piece.new.self) c.in-Ok-true.field-0-test
          (c.in-Ok-true.ensures.next _ s x.later stood x.owed);
      fewer = let less = c.in-Ok-true.ensures.fewer c.in-Ok-true.field-0-test in omega (arith, less, inv.fewer);
      ready_now = c.in-Ok-true.ensures.ready;
      goes_on = goes_then _ _ _ (goes_then _ _ _ inv.goes_on c.say.ensures.time.goes_on) c.next_piece.ensures.untouched.goes_on;
      no_fault = faults_then _ _ _ _ (faults_then _ _ _ _ inv.no_fault c.in-Ok.ensures.cause) c.in-Ok-true.ensures.cause;
    }

pub returns-in-Ok-false-clause-ok : goal.returns-in-Ok-false-clause-ok
returns-in-Ok-false-clause-ok g c = λ said s rest h owed.
    let m = g.E.Editor.model in
    let e = c.loop-editor.editor in
    let x = c.loop-editor.invariant.each said s rest h owed in
    let stood = piece_stands g.R.Rig m (g.E.Editor.stands e) (g.E.Editor.says e) (g.E.Editor.owes e) x h.known c.piece.result.now c.piece.ensures c.say.ensures.files c.say.ensures.time c.in-Ok.ensures.said c.next_piece.ensures.untouched in
    said_whole g.R.Rig m (g.E.Editor.stands e) (g.E.Editor.says e) (g.E.Editor.owes e) x h.known c.piece.result.now c.piece.ensures c.say.ensures.files c.say.ensures.time c.in-Ok.ensures.said c.next_piece.ensures.untouched
    (g.E.Editor.stands c.next_piece.new.self) (c.in-Ok-false.ensures.stands h.now.image h.now.journal s x.stands) c.in-Ok-false.field-0 (g.E.Editor.says c.next_piece.new.self) (g.E.Editor.owes c.next_piece.new.self) c.in-Ok-false.field-0-test
    (c.in-Ok-false.ensures.next _ s x.later stood x.owed) said h.said_is

pub returns-in-Ok-false-clause-only : goal.returns-in-Ok-false-clause-only
returns-in-Ok-false-clause-only g c = λ said s rest h owed.
    let m = g.E.Editor.model in
    let e = c.loop-editor.editor in
    next_only g.R.Rig m (g.E.Editor.stands e) (g.E.Editor.says e) (g.E.Editor.owes e) (c.loop-editor.invariant.each said s rest h owed) h.known c.piece.result.now c.piece.ensures c.say.ensures.files c.say.ensures.time c.in-Ok.ensures.said c.next_piece.ensures.untouched

pub returns-in-Err-clause-stops : goal.returns-in-Err-clause-stops
returns-in-Err-clause-stops g c = λ said s rest h owed.
    let m = g.E.Editor.model in
    let e = c.loop-editor.editor in
    let x = c.loop-editor.invariant.each said s rest h owed in
    let at = next_stops g.R.Rig m (g.E.Editor.stands e) (g.E.Editor.says e) (g.E.Editor.owes e) x h.known c.piece.result.now c.piece.ensures c.say.ensures.files c.say.ensures.time c.in-Ok.ensures.said c.next_piece.ensures.untouched
    (g.met.E.Editor.rests_now e) said h.said_is in
    let some : g.E.Editor.pieces_left c.args.editor.now ≢ 0 = λ none. let whole = c.in-Err.ensures.whole (omega (arith, none, c.loop-editor.invariant.fewer)) in cc (whole.0) in
    (inr (refl, some), at.0, at.1, at.2)

pub returns-in-Err-clause-only : goal.returns-in-Err-clause-only
returns-in-Err-clause-only g c = λ said s rest h owed.
    let m = g.E.Editor.model in
    let e = c.loop-editor.editor in
    next_only g.R.Rig m (g.E.Editor.stands e) (g.E.Editor.says e) (g.E.Editor.owes e) (c.loop-editor.invariant.each said s rest h owed) h.known c.piece.result.now c.piece.ensures c.say.ensures.files c.say.ensures.time c.in-Ok.ensures.said c.next_piece.ensures.untouched
