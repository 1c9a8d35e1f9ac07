use Rattle.std.proofs.Common.{ℕ, List, []}
use Rattle.std.specs.Prelude.{is_err}
use Rattle.czi_rig.specs.declared.call.Call.TheVariants.{Len}
use Rattle.czi_rig.specs.Memory.{history, faults}
use Rattle.czi_rig.specs.Replay.{disk_now}
use Rattle.czi_rig.specs.declared.file.File.TheVariants.{Image, Journal}
use Rattle.czi_rig.proofs.Steps.{image_step, journal_step, kept_image, kept_journal, on_len}
use Rattle.czi_rig.proofs.Clauses.{quiet, here, len_bound, len_is}
use Rattle.czi_rig.proofs.memory_calls.MemRigRig.len.Goals as goal

pub invariant_of-self : goal.invariant_of-self
invariant_of-self c =
    let r = c.args.self.now in
    let s = image_step c.args.f (Len c.args.f) [] c.measure.result r.log c.measure.new.log (λ (s : List ℕ). s) r.image c.measure.new.content r.journal r.output_faults c.in-Image.is r.kept c.measure.ensures.first c.measure.ensures.outcome in
    let e = quiet c.args.f (Len c.args.f) c.measure.result (history r.image r.journal r.log) (history c.measure.new.content r.journal c.measure.new.log) (faults r.image r.journal r.output_faults) (faults c.measure.new.content r.journal r.output_faults) _ _ c.measure.new.content.bytes.items r.kept (on_len c.args.f _ (disk_now (history r.image r.journal r.log) c.args.f)) s in
    record { kept = kept_image c.args.f (is_err c.measure.result) _ _ c.measure.new.content.bytes.items _ c.in-Image.is r.kept e.came }

pub returns-in-Image : goal.returns-in-Image
returns-in-Image c =
    let r = c.args.self.now in
    let h = here c.args.f Image (history r.image r.journal r.log) r.image.bytes.items c.in-Image.is r.kept.image_is in
    let s = image_step c.args.f (Len c.args.f) [] c.measure.result r.log c.measure.new.log (λ (s : List ℕ). s) r.image c.measure.new.content r.journal r.output_faults c.in-Image.is r.kept c.measure.ensures.first c.measure.ensures.outcome in
    let e = quiet c.args.f (Len c.args.f) c.measure.result (history r.image r.journal r.log) (history c.measure.new.content r.journal c.measure.new.log) (faults r.image r.journal r.output_faults) (faults c.measure.new.content r.journal r.output_faults) _ _ c.measure.new.content.bytes.items r.kept (on_len c.args.f _ (disk_now (history r.image r.journal r.log) c.args.f)) s in
    record { bound = len_bound (history r.image r.journal r.log) c.args.f r.image.bytes.items c.measure.result r.kept h c.measure.ensures.len; length = len_is (history r.image r.journal r.log) (faults r.image r.journal r.output_faults) c.args.f r.image.bytes.items c.measure.result h c.measure.ensures.len; same = e.same; cause = e.cause; time = e.time; told = s.step.told }

pub invariant_of-self-in-Journal : goal.invariant_of-self-in-Journal
invariant_of-self-in-Journal c =
    let r = c.args.self.now in
    let s = journal_step c.args.f (Len c.args.f) [] c.measure-in-Journal.result r.log c.measure-in-Journal.new.log (λ (s : List ℕ). s) r.image r.journal c.measure-in-Journal.new.content r.output_faults c.in-Journal.is r.kept c.measure-in-Journal.ensures.first c.measure-in-Journal.ensures.outcome in
    let e = quiet c.args.f (Len c.args.f) c.measure-in-Journal.result (history r.image r.journal r.log) (history r.image c.measure-in-Journal.new.content c.measure-in-Journal.new.log) (faults r.image r.journal r.output_faults) (faults r.image c.measure-in-Journal.new.content r.output_faults) _ _ c.measure-in-Journal.new.content.bytes.items r.kept (on_len c.args.f _ (disk_now (history r.image r.journal r.log) c.args.f)) s in
    record { kept = kept_journal c.args.f (is_err c.measure-in-Journal.result) _ _ c.measure-in-Journal.new.content.bytes.items _ c.in-Journal.is r.kept e.came }

pub returns-in-Journal : goal.returns-in-Journal
returns-in-Journal c =
    let r = c.args.self.now in
    let h = here c.args.f Journal (history r.image r.journal r.log) r.journal.bytes.items c.in-Journal.is r.kept.journal_is in
    let s = journal_step c.args.f (Len c.args.f) [] c.measure-in-Journal.result r.log c.measure-in-Journal.new.log (λ (s : List ℕ). s) r.image r.journal c.measure-in-Journal.new.content r.output_faults c.in-Journal.is r.kept c.measure-in-Journal.ensures.first c.measure-in-Journal.ensures.outcome in
    let e = quiet c.args.f (Len c.args.f) c.measure-in-Journal.result (history r.image r.journal r.log) (history r.image c.measure-in-Journal.new.content c.measure-in-Journal.new.log) (faults r.image r.journal r.output_faults) (faults r.image c.measure-in-Journal.new.content r.output_faults) _ _ c.measure-in-Journal.new.content.bytes.items r.kept (on_len c.args.f _ (disk_now (history r.image r.journal r.log) c.args.f)) s in
    record { bound = len_bound (history r.image r.journal r.log) c.args.f r.journal.bytes.items c.measure-in-Journal.result r.kept h c.measure-in-Journal.ensures.len; length = len_is (history r.image r.journal r.log) (faults r.image r.journal r.output_faults) c.args.f r.journal.bytes.items c.measure-in-Journal.result h c.measure-in-Journal.ensures.len; same = e.same; cause = e.cause; time = e.time; told = s.step.told }
