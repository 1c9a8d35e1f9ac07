use Rattle.czi_rig.specs.declared.file.File.TheVariants.{Image, Journal}
use Rattle.czi_rig.proofs.Known.{known_seen}
use Rattle.czi_editor.proofs.Opening.{kept, meanwhile, meanwhile_alike, opened_stands, opens_alike, opens_from, opens_so, refuses, unrefused}
use Rattle.czi_editor.proofs.editor.ImageEditorEditor.open.Goals as goal

pub returns-in-Ok-clause-opens : goal.returns-in-Ok-clause-opens
returns-in-Ok-clause-opens g c said b h =
    let old = g.R.Rig.state c.args.rig.now in
    let new = g.R.Rig.state c.open.new.rig in
    let o = c.in-Ok.ensures in (
      opens_from g.R.Rig c.args.rig.now c.open.new.rig said b h o.moments,
      opened_stands c.in-Ok.engine old new said b h o.recovered o.fresh o.no_edits.1 o.stands o.said,
    )

pub returns-in-Ok-clause-unrefused : goal.returns-in-Ok-clause-unrefused
returns-in-Ok-clause-unrefused g c = unrefused c.in-Ok.engine (g.R.Rig.state c.args.rig.now) (g.R.Rig.state c.open.new.rig) c.in-Ok.ensures.recovered c.in-Ok.ensures.stands

pub returns-in-Err-clause-opens : goal.returns-in-Err-clause-opens
returns-in-Err-clause-opens g c said b h =
    let old = g.R.Rig.state c.args.rig.now in
    let new = g.R.Rig.state c.open.new.rig in
    let image = h.now.image.seen in
    let journal = h.now.journal.seen in
    let told = c.in-Err.ensures.refused image (known_seen old Image h.now h.known) journal (known_seen old Journal h.now h.known) in (
      opens_so c.in-Err.error c.stop_of.result new image journal b c.stop_of.ensures.told told h.begins,
      meanwhile g.R.Rig c.args.rig.now c.open.new.rig said b h c.in-Err.error _ c.stop_of.ensures.device c.in-Err.ensures.meanwhile,
    )

pub returns-in-Ok-clause-alike : goal.returns-in-Ok-clause-alike
returns-in-Ok-clause-alike g c said b h = opens_alike g.R.Rig c.args.rig.now c.open.new.rig said b h c.in-Ok.ensures.moments

pub returns-in-Err-clause-alike : goal.returns-in-Err-clause-alike
returns-in-Err-clause-alike g c said b h = meanwhile_alike g.R.Rig c.args.rig.now c.open.new.rig said b h c.in-Err.error _ c.stop_of.ensures.device c.in-Err.ensures.meanwhile

pub returns-in-Err-clause-refused : goal.returns-in-Err-clause-refused
returns-in-Err-clause-refused g c all is =
    let old = g.R.Rig.state c.args.rig.now in
    refuses c.in-Err.error c.stop_of.result (g.R.Rig.state c.open.new.rig) all c.stop_of.ensures.told (c.in-Err.ensures.refused all.image.seen (known_seen old Image all is) all.journal.seen (known_seen old Journal all is))

pub returns-in-Err-clause-kept : goal.returns-in-Err-clause-kept
returns-in-Err-clause-kept g c all text is refused = kept g.R.Rig c.args.rig.now c.open.new.rig all c.in-Err.error _ c.stop_of.ensures.device (c.in-Err.ensures.meanwhile all is)
