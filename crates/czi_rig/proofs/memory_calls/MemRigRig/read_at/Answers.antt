use Rattle.std.proofs.Common.{ℕ, List, [], length}
use Rattle.std.specs.Prelude.{is_err}
use Rattle.czi_rig.specs.declared.call.Call.TheVariants.{Read}
use Rattle.czi_rig.specs.Memory.{history, faults}
use Rattle.czi_rig.specs.Replay.{disk_now}
use Rattle.czi_rig.specs.declared.file.File.TheVariants.{Image, Journal}
use Rattle.czi_rig.proofs.Steps.{image_step, journal_step, kept_image, kept_journal, on_read}
use Rattle.czi_rig.proofs.Clauses.{quiet, here, read_is}
use Rattle.czi_rig.proofs.memory_calls.MemRigRig.read_at.Goals as goal

pub invariant_of-self : goal.invariant_of-self
invariant_of-self c =
    let r = c.args.self.now in
    let s = image_step c.args.f (Read c.args.f c.args.at (length c.args.into.now)) [] c.read.result r.log c.read.new.log (λ (s : List ℕ). s) r.image c.read.new.content r.journal r.output_faults c.in-Image.is r.kept c.read.ensures.first c.read.ensures.outcome in
    let e = quiet c.args.f (Read c.args.f c.args.at (length c.args.into.now)) c.read.result (history r.image r.journal r.log) (history c.read.new.content r.journal c.read.new.log) (faults r.image r.journal r.output_faults) (faults c.read.new.content r.journal r.output_faults) _ _ c.read.new.content.bytes.items r.kept (on_read c.args.f c.args.at (length c.args.into.now) _ (disk_now (history r.image r.journal r.log) c.args.f)) s in
    record { kept = kept_image c.args.f (is_err c.read.result) _ _ c.read.new.content.bytes.items _ c.in-Image.is r.kept e.came }

pub returns-in-Image : goal.returns-in-Image
returns-in-Image c =
    let r = c.args.self.now in
    let h = here c.args.f Image (history r.image r.journal r.log) r.image.bytes.items c.in-Image.is r.kept.image_is in
    let s = image_step c.args.f (Read c.args.f c.args.at (length c.args.into.now)) [] c.read.result r.log c.read.new.log (λ (s : List ℕ). s) r.image c.read.new.content r.journal r.output_faults c.in-Image.is r.kept c.read.ensures.first c.read.ensures.outcome in
    let e = quiet c.args.f (Read c.args.f c.args.at (length c.args.into.now)) c.read.result (history r.image r.journal r.log) (history c.read.new.content r.journal c.read.new.log) (faults r.image r.journal r.output_faults) (faults c.read.new.content r.journal r.output_faults) _ _ c.read.new.content.bytes.items r.kept (on_read c.args.f c.args.at (length c.args.into.now) _ (disk_now (history r.image r.journal r.log) c.args.f)) s in
    record { bytes = read_is (history r.image r.journal r.log) (faults r.image r.journal r.output_faults) c.args.f c.args.at (length c.args.into.now) r.image.bytes.items c.read.new.into c.read.result h c.read.ensures.bytes; same = e.same; cause = e.cause; time = e.time; told = s.step.told }

pub invariant_of-self-in-Journal : goal.invariant_of-self-in-Journal
invariant_of-self-in-Journal c =
    let r = c.args.self.now in
    let s = journal_step c.args.f (Read c.args.f c.args.at (length c.args.into.now)) [] c.read-in-Journal.result r.log c.read-in-Journal.new.log (λ (s : List ℕ). s) r.image r.journal c.read-in-Journal.new.content r.output_faults c.in-Journal.is r.kept c.read-in-Journal.ensures.first c.read-in-Journal.ensures.outcome in
    let e = quiet c.args.f (Read c.args.f c.args.at (length c.args.into.now)) c.read-in-Journal.result (history r.image r.journal r.log) (history r.image c.read-in-Journal.new.content c.read-in-Journal.new.log) (faults r.image r.journal r.output_faults) (faults r.image c.read-in-Journal.new.content r.output_faults) _ _ c.read-in-Journal.new.content.bytes.items r.kept (on_read c.args.f c.args.at (length c.args.into.now) _ (disk_now (history r.image r.journal r.log) c.args.f)) s in
    record { kept = kept_journal c.args.f (is_err c.read-in-Journal.result) _ _ c.read-in-Journal.new.content.bytes.items _ c.in-Journal.is r.kept e.came }

pub returns-in-Journal : goal.returns-in-Journal
returns-in-Journal c =
    let r = c.args.self.now in
    let h = here c.args.f Journal (history r.image r.journal r.log) r.journal.bytes.items c.in-Journal.is r.kept.journal_is in
    let s = journal_step c.args.f (Read c.args.f c.args.at (length c.args.into.now)) [] c.read-in-Journal.result r.log c.read-in-Journal.new.log (λ (s : List ℕ). s) r.image r.journal c.read-in-Journal.new.content r.output_faults c.in-Journal.is r.kept c.read-in-Journal.ensures.first c.read-in-Journal.ensures.outcome in
    let e = quiet c.args.f (Read c.args.f c.args.at (length c.args.into.now)) c.read-in-Journal.result (history r.image r.journal r.log) (history r.image c.read-in-Journal.new.content c.read-in-Journal.new.log) (faults r.image r.journal r.output_faults) (faults r.image c.read-in-Journal.new.content r.output_faults) _ _ c.read-in-Journal.new.content.bytes.items r.kept (on_read c.args.f c.args.at (length c.args.into.now) _ (disk_now (history r.image r.journal r.log) c.args.f)) s in
    record { bytes = read_is (history r.image r.journal r.log) (faults r.image r.journal r.output_faults) c.args.f c.args.at (length c.args.into.now) r.journal.bytes.items c.read-in-Journal.new.into c.read-in-Journal.result h c.read-in-Journal.ensures.bytes; same = e.same; cause = e.cause; time = e.time; told = s.step.told }
