use Rattle.std.proofs.Common.{length}
use Rattle.std.specs.Prelude.{is_err}
use Rattle.czi_rig.specs.declared.call.Call.TheVariants.{Write}
use Rattle.czi_rig.specs.Disk.{overwritten}
use Rattle.czi_rig.specs.Memory.{history, faults}
use Rattle.czi_rig.specs.Replay.{landed}
use Rattle.czi_rig.proofs.Steps.{image_step, journal_step, kept_image, kept_journal}
use Rattle.czi_rig.proofs.Clauses.{writes}
use Rattle.czi_rig.proofs.memory_calls.MemRigRig.write_at.Goals as goal

pub invariant_of-self : goal.invariant_of-self
invariant_of-self c =
    let r = c.args.self.now in
    let s = image_step c.args.f (Write c.args.f c.args.at (length c.args.bytes.now)) c.args.bytes.now c.write.result r.log c.write.new.log (overwritten c.args.at (landed (is_err c.write.result) c.args.bytes.now)) r.image c.write.new.content r.journal r.output_faults c.in-Image.is r.kept c.write.ensures.first c.write.ensures.outcome in
    let e = writes c.args.f c.args.at c.args.bytes.now c.write.result (history r.image r.journal r.log) (history c.write.new.content r.journal c.write.new.log) (faults r.image r.journal r.output_faults) (faults c.write.new.content r.journal r.output_faults) _ _ c.write.new.content.bytes.items r.kept c.requires.in_file c.requires.fits (λ k. (c.type_inv.bytes k).fits) s in
    record { kept = kept_image c.args.f (is_err c.write.result) _ _ c.write.new.content.bytes.items _ c.in-Image.is r.kept e.came }

pub returns-in-Image : goal.returns-in-Image
returns-in-Image c =
    let r = c.args.self.now in
    let s = image_step c.args.f (Write c.args.f c.args.at (length c.args.bytes.now)) c.args.bytes.now c.write.result r.log c.write.new.log (overwritten c.args.at (landed (is_err c.write.result) c.args.bytes.now)) r.image c.write.new.content r.journal r.output_faults c.in-Image.is r.kept c.write.ensures.first c.write.ensures.outcome in
    let e = writes c.args.f c.args.at c.args.bytes.now c.write.result (history r.image r.journal r.log) (history c.write.new.content r.journal c.write.new.log) (faults r.image r.journal r.output_faults) (faults c.write.new.content r.journal r.output_faults) _ _ c.write.new.content.bytes.items r.kept c.requires.in_file c.requires.fits (λ k. (c.type_inv.bytes k).fits) s in
    record { written = e.begins.written; torn = e.begins.torn; begun = e.begins.begun; failed = e.begins.failed; other = e.begins.other; cause = e.begins.cause; time = e.begins.time; told = s.step.told }

pub invariant_of-self-in-Journal : goal.invariant_of-self-in-Journal
invariant_of-self-in-Journal c =
    let r = c.args.self.now in
    let s = journal_step c.args.f (Write c.args.f c.args.at (length c.args.bytes.now)) c.args.bytes.now c.write-in-Journal.result r.log c.write-in-Journal.new.log (overwritten c.args.at (landed (is_err c.write-in-Journal.result) c.args.bytes.now)) r.image r.journal c.write-in-Journal.new.content r.output_faults c.in-Journal.is r.kept c.write-in-Journal.ensures.first c.write-in-Journal.ensures.outcome in
    let e = writes c.args.f c.args.at c.args.bytes.now c.write-in-Journal.result (history r.image r.journal r.log) (history r.image c.write-in-Journal.new.content c.write-in-Journal.new.log) (faults r.image r.journal r.output_faults) (faults r.image c.write-in-Journal.new.content r.output_faults) _ _ c.write-in-Journal.new.content.bytes.items r.kept c.requires.in_file c.requires.fits (λ k. (c.type_inv.bytes k).fits) s in
    record { kept = kept_journal c.args.f (is_err c.write-in-Journal.result) _ _ c.write-in-Journal.new.content.bytes.items _ c.in-Journal.is r.kept e.came }

pub returns-in-Journal : goal.returns-in-Journal
returns-in-Journal c =
    let r = c.args.self.now in
    let s = journal_step c.args.f (Write c.args.f c.args.at (length c.args.bytes.now)) c.args.bytes.now c.write-in-Journal.result r.log c.write-in-Journal.new.log (overwritten c.args.at (landed (is_err c.write-in-Journal.result) c.args.bytes.now)) r.image r.journal c.write-in-Journal.new.content r.output_faults c.in-Journal.is r.kept c.write-in-Journal.ensures.first c.write-in-Journal.ensures.outcome in
    let e = writes c.args.f c.args.at c.args.bytes.now c.write-in-Journal.result (history r.image r.journal r.log) (history r.image c.write-in-Journal.new.content c.write-in-Journal.new.log) (faults r.image r.journal r.output_faults) (faults r.image c.write-in-Journal.new.content r.output_faults) _ _ c.write-in-Journal.new.content.bytes.items r.kept c.requires.in_file c.requires.fits (λ k. (c.type_inv.bytes k).fits) s in
    record { written = e.begins.written; torn = e.begins.torn; begun = e.begins.begun; failed = e.begins.failed; other = e.begins.other; cause = e.begins.cause; time = e.begins.time; told = s.step.told }
