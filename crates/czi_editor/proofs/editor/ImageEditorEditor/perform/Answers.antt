use Rattle.std.proofs.Common.{◌++◌, ℕ, List, Result, refl, ap, ◌∙◌, OnOk}
use Rattle.std.proofs.lemmas.Result.{on_ok_weaker}
use Rattle.czi_doc.specs.QueryView.{query_of}
use Rattle.czi_report.specs.Text.{info_text}
use Rattle.czi_report.proofs.Described.{details_state, lists_state}
use Rattle.czi_editor.proofs.Editing.{both_ok, unasked_alike}
use Rattle.czi_editor.proofs.Going.{engine_goes, in_one, performed_whole, region_goes, region_replied, still_goes}
use Rattle.czi_editor.proofs.Mapped.{maps_state}
use Rattle.czi_editor.proofs.editor.ImageEditorEditor.perform.Goals as goal

pub returns-in-Add-clause-moments : goal.returns-in-Add-clause-moments
returns-in-Add-clause-moments g c = rw c.in-Add.is c.add.ensures.moments

pub returns-in-Add-clause-ok : goal.returns-in-Add-clause-ok
returns-in-Add-clause-ok g c = rw c.in-Add.is (performed_whole c.clear.ensures.items c.add.ensures)

pub returns-in-Add-clause-still : goal.returns-in-Add-clause-still
returns-in-Add-clause-still g c = rw c.in-Add.is c.add.ensures.still

pub returns-in-Add-clause-ready : goal.returns-in-Add-clause-ready
returns-in-Add-clause-ready g c = engine_goes c.add.result _ _ refl refl c.add.ensures.ready

pub returns-in-Replace-clause-moments : goal.returns-in-Replace-clause-moments
returns-in-Replace-clause-moments g c = rw c.in-Replace.is c.replace.ensures.moments

pub returns-in-Replace-clause-ok : goal.returns-in-Replace-clause-ok
returns-in-Replace-clause-ok g c = rw c.in-Replace.is (performed_whole c.clear.ensures.items c.replace.ensures)

pub returns-in-Replace-clause-still : goal.returns-in-Replace-clause-still
returns-in-Replace-clause-still g c = rw c.in-Replace.is c.replace.ensures.still

pub returns-in-Replace-clause-ready : goal.returns-in-Replace-clause-ready
returns-in-Replace-clause-ready g c = engine_goes c.replace.result _ _ refl refl c.replace.ensures.ready

pub returns-in-Remove-clause-moments : goal.returns-in-Remove-clause-moments
returns-in-Remove-clause-moments g c = rw c.in-Remove.is c.remove.ensures.moments

pub returns-in-Remove-clause-ok : goal.returns-in-Remove-clause-ok
returns-in-Remove-clause-ok g c = rw c.in-Remove.is (performed_whole c.clear.ensures.items c.remove.ensures)

pub returns-in-Remove-clause-still : goal.returns-in-Remove-clause-still
returns-in-Remove-clause-still g c = rw c.in-Remove.is c.remove.ensures.still

pub returns-in-Remove-clause-ready : goal.returns-in-Remove-clause-ready
returns-in-Remove-clause-ready g c = engine_goes c.remove.result _ _ refl refl c.remove.ensures.ready

pub returns-in-Attach-clause-moments : goal.returns-in-Attach-clause-moments
returns-in-Attach-clause-moments g c = rw c.in-Attach.is c.attach.ensures.moments

pub returns-in-Attach-clause-ok : goal.returns-in-Attach-clause-ok
returns-in-Attach-clause-ok g c = rw c.in-Attach.is (performed_whole c.clear.ensures.items c.attach.ensures)

pub returns-in-Attach-clause-still : goal.returns-in-Attach-clause-still
returns-in-Attach-clause-still g c = rw c.in-Attach.is c.attach.ensures.still

pub returns-in-Attach-clause-ready : goal.returns-in-Attach-clause-ready
returns-in-Attach-clause-ready g c = engine_goes c.attach.result _ _ refl refl c.attach.ensures.ready

pub returns-in-Reattach-clause-moments : goal.returns-in-Reattach-clause-moments
returns-in-Reattach-clause-moments g c = rw c.in-Reattach.is c.reattach.ensures.moments

pub returns-in-Reattach-clause-ok : goal.returns-in-Reattach-clause-ok
returns-in-Reattach-clause-ok g c = rw c.in-Reattach.is (performed_whole c.clear.ensures.items c.reattach.ensures)

pub returns-in-Reattach-clause-still : goal.returns-in-Reattach-clause-still
returns-in-Reattach-clause-still g c = rw c.in-Reattach.is c.reattach.ensures.still

pub returns-in-Reattach-clause-ready : goal.returns-in-Reattach-clause-ready
returns-in-Reattach-clause-ready g c = engine_goes c.reattach.result _ _ refl refl c.reattach.ensures.ready

pub returns-in-Detach-clause-moments : goal.returns-in-Detach-clause-moments
returns-in-Detach-clause-moments g c = rw c.in-Detach.is c.detach.ensures.moments

pub returns-in-Detach-clause-ok : goal.returns-in-Detach-clause-ok
returns-in-Detach-clause-ok g c = rw c.in-Detach.is (performed_whole c.clear.ensures.items c.detach.ensures)

pub returns-in-Detach-clause-still : goal.returns-in-Detach-clause-still
returns-in-Detach-clause-still g c = rw c.in-Detach.is c.detach.ensures.still

pub returns-in-Detach-clause-ready : goal.returns-in-Detach-clause-ready
returns-in-Detach-clause-ready g c = engine_goes c.detach.result _ _ refl refl c.detach.ensures.ready

pub returns-in-SetMeta-clause-moments : goal.returns-in-SetMeta-clause-moments
returns-in-SetMeta-clause-moments g c = rw c.in-SetMeta.is c.set_meta.ensures.moments

pub returns-in-SetMeta-clause-ok : goal.returns-in-SetMeta-clause-ok
returns-in-SetMeta-clause-ok g c = rw c.in-SetMeta.is (performed_whole c.clear.ensures.items c.set_meta.ensures)

pub returns-in-SetMeta-clause-still : goal.returns-in-SetMeta-clause-still
returns-in-SetMeta-clause-still g c = rw c.in-SetMeta.is c.set_meta.ensures.still

pub returns-in-SetMeta-clause-ready : goal.returns-in-SetMeta-clause-ready
returns-in-SetMeta-clause-ready g c = engine_goes c.set_meta.result _ _ refl refl c.set_meta.ensures.ready

pub returns-in-Undo-clause-moments : goal.returns-in-Undo-clause-moments
returns-in-Undo-clause-moments g c = rw c.in-Undo.is c.undo.ensures.moments

pub returns-in-Undo-clause-ok : goal.returns-in-Undo-clause-ok
returns-in-Undo-clause-ok g c = rw c.in-Undo.is (performed_whole c.clear.ensures.items c.undo.ensures)

pub returns-in-Undo-clause-still : goal.returns-in-Undo-clause-still
returns-in-Undo-clause-still g c = rw c.in-Undo.is c.undo.ensures.still

pub returns-in-Undo-clause-ready : goal.returns-in-Undo-clause-ready
returns-in-Undo-clause-ready g c = engine_goes c.undo.result _ _ refl refl c.undo.ensures.ready

pub returns-in-List-clause-ok : goal.returns-in-List-clause-ok
returns-in-List-clause-ok g c = rw c.in-List.is (on_ok_weaker c.push_list.result (λ says said b h. (
  in_one b _ _ _ c.clear.ensures.items (
      says h.stands.live h.stands.has.holds ∙ ap (λ (z : List ℕ). c.clear.new.self.items ++ z) (lists_state h.now.image.seen h.stands.live b.state h.stands.has.stands.lies)),
  h,
)) c.push_list.ensures.said)

pub returns-in-List-clause-alike : goal.returns-in-List-clause-alike
returns-in-List-clause-alike g c said b h = unasked_alike g.R.Rig g.met.R.Rig.only_now c.args.self.now.engine c.args.rig.now said b h

pub returns-in-List-clause-ready : goal.returns-in-List-clause-ready
returns-in-List-clause-ready g c = still_goes c.push_list.result _ _ c.requires.ready.engine c.requires.ready.grid refl

pub returns-in-Info-clause-ok : goal.returns-in-Info-clause-ok
returns-in-Info-clause-ok g c = rw c.in-Info.is (on_ok_weaker c.push_info.result (λ says said b h. (
  in_one b _ _ _ c.clear.ensures.items (
      says h.stands.live h.stands.has.holds ∙ (ap (λ (n : ℕ). c.clear.new.self.items ++ info_text n h.stands.live) (h.stands.has.lies.length ∙ h.stands.has.stands.lies.length)
      ∙ ap (λ (z : List ℕ). c.clear.new.self.items ++ z) (details_state h.now.image.seen h.stands.live b.state h.stands.has.stands.lies))),
  h,
)) c.push_info.ensures.said)

pub returns-in-Info-clause-alike : goal.returns-in-Info-clause-alike
returns-in-Info-clause-alike g c said b h = unasked_alike g.R.Rig g.met.R.Rig.only_now c.args.self.now.engine c.args.rig.now said b h

pub returns-in-Info-clause-ready : goal.returns-in-Info-clause-ready
returns-in-Info-clause-ready g c = still_goes c.push_info.result _ _ c.requires.ready.engine c.requires.ready.grid refl

pub returns-in-Map-clause-ok : goal.returns-in-Map-clause-ok
returns-in-Map-clause-ok g c = rw c.in-Map.is (on_ok_weaker c.push_map.result (λ says said b h. (
  in_one b _ _ _ c.clear.ensures.items (
      says ∙ ap (λ (z : List ℕ). c.clear.new.self.items ++ z) (maps_state b.start h.now.image.seen h.stands.live b.state c.args.self.now.engine.state h.stands.has c.requires.ready.engine.stands.own_map)),
  h,
)) c.push_map.ensures.said)

pub returns-in-Map-clause-alike : goal.returns-in-Map-clause-alike
returns-in-Map-clause-alike g c said b h = unasked_alike g.R.Rig g.met.R.Rig.only_now c.args.self.now.engine c.args.rig.now said b h

pub returns-in-Map-clause-ready : goal.returns-in-Map-clause-ready
returns-in-Map-clause-ready g c = still_goes c.push_map.result _ _ c.requires.ready.engine c.requires.ready.grid refl

pub returns-in-Check-clause-ok : goal.returns-in-Check-clause-ok
returns-in-Check-clause-ok g c = rw c.in-Check.is (on_ok_weaker c.push_check.result (λ says said b h. (
  in_one b _ _ _ c.clear.ensures.items (
      says b.state.layout h.stands.has.lies),
  h,
)) c.push_check.ensures.said)

pub returns-in-Check-clause-alike : goal.returns-in-Check-clause-alike
returns-in-Check-clause-alike g c said b h = unasked_alike g.R.Rig g.met.R.Rig.only_now c.args.self.now.engine c.args.rig.now said b h

pub returns-in-Check-clause-ready : goal.returns-in-Check-clause-ready
returns-in-Check-clause-ready g c = still_goes c.push_check.result _ _ c.requires.ready.engine c.requires.ready.grid refl

pub returns-in-Long-clause-ok : goal.returns-in-Long-clause-ok
returns-in-Long-clause-ok g c = rw c.in-Long.is (on_ok_weaker c.push_long.result (λ says said b h. (
  in_one b _ _ _ c.clear.ensures.items (
      says),
  h,
)) c.push_long.ensures.said)

pub returns-in-Long-clause-alike : goal.returns-in-Long-clause-alike
returns-in-Long-clause-alike g c said b h = unasked_alike g.R.Rig g.met.R.Rig.only_now c.args.self.now.engine c.args.rig.now said b h

pub returns-in-Long-clause-ready : goal.returns-in-Long-clause-ready
returns-in-Long-clause-ready g c = still_goes c.push_long.result _ _ c.requires.ready.engine c.requires.ready.grid refl

pub returns-in-Region-clause-ok : goal.returns-in-Region-clause-ok
returns-in-Region-clause-ok g c = rw c.in-Region.is (on_ok_weaker c.paint.result (λ begun said b h. region_replied (query_of c.in-Region.query) c.args.self.now.engine c.clear.new.self.items c.paint.new.self (g.R.Rig.state c.args.rig.now) said b c.clear.ensures.items c.paint.ensures.engine begun h) c.paint.ensures.begun)

pub returns-in-Region-clause-alike : goal.returns-in-Region-clause-alike
returns-in-Region-clause-alike g c said b h = unasked_alike g.R.Rig g.met.R.Rig.only_now c.args.self.now.engine c.args.rig.now said b h

pub returns-in-Region-clause-ready : goal.returns-in-Region-clause-ready
returns-in-Region-clause-ready g c = both_ok c.paint.result (λ grid begun. region_goes (query_of c.in-Region.query) c.args.self.now.engine c.clear.new.self.items c.paint.new.self (g.R.Rig.state c.args.rig.now) c.paint.ensures.engine c.requires.ready.engine grid begun) c.paint.ensures.grid c.paint.ensures.begun
