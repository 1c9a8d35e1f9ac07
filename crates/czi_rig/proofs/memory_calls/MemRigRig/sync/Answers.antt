use Rattle.std.proofs.Common.{ℕ, List, []}
use Rattle.std.specs.Prelude.{is_err}
use Rattle.czi_rig.specs.declared.call.Call.TheVariants.{Sync}
use Rattle.czi_rig.specs.Memory.{history, faults}
use Rattle.czi_rig.proofs.Steps.{image_step, journal_step, kept_image, kept_journal}
use Rattle.czi_rig.proofs.Clauses.{syncs}
use Rattle.czi_rig.proofs.memory_calls.MemRigRig.sync.Goals as goal

pub invariant_of-self : goal.invariant_of-self
invariant_of-self c =
    let r = c.args.self.now in
    let s = image_step c.args.f (Sync c.args.f) [] c.touch.result r.log c.touch.new.log (λ (s : List ℕ). s) r.image c.touch.new.content r.journal r.output_faults c.in-Image.is r.kept c.touch.ensures.first c.touch.ensures.outcome in
    let e = syncs c.args.f c.touch.result (history r.image r.journal r.log) (history c.touch.new.content r.journal c.touch.new.log) (faults r.image r.journal r.output_faults) (faults c.touch.new.content r.journal r.output_faults) _ _ c.touch.new.content.bytes.items r.kept s in
    record { kept = kept_image c.args.f (is_err c.touch.result) _ _ c.touch.new.content.bytes.items _ c.in-Image.is r.kept e.came }

pub returns-in-Image : goal.returns-in-Image
returns-in-Image c =
    let r = c.args.self.now in
    let s = image_step c.args.f (Sync c.args.f) [] c.touch.result r.log c.touch.new.log (λ (s : List ℕ). s) r.image c.touch.new.content r.journal r.output_faults c.in-Image.is r.kept c.touch.ensures.first c.touch.ensures.outcome in
    let e = syncs c.args.f c.touch.result (history r.image r.journal r.log) (history c.touch.new.content r.journal c.touch.new.log) (faults r.image r.journal r.output_faults) (faults c.touch.new.content r.journal r.output_faults) _ _ c.touch.new.content.bytes.items r.kept s in
    record { same = e.same; synced = e.synced_is; failed = e.failed; other = e.other; cause = e.cause; time = e.time; told = s.step.told }

pub invariant_of-self-in-Journal : goal.invariant_of-self-in-Journal
invariant_of-self-in-Journal c =
    let r = c.args.self.now in
    let s = journal_step c.args.f (Sync c.args.f) [] c.touch-in-Journal.result r.log c.touch-in-Journal.new.log (λ (s : List ℕ). s) r.image r.journal c.touch-in-Journal.new.content r.output_faults c.in-Journal.is r.kept c.touch-in-Journal.ensures.first c.touch-in-Journal.ensures.outcome in
    let e = syncs c.args.f c.touch-in-Journal.result (history r.image r.journal r.log) (history r.image c.touch-in-Journal.new.content c.touch-in-Journal.new.log) (faults r.image r.journal r.output_faults) (faults r.image c.touch-in-Journal.new.content r.output_faults) _ _ c.touch-in-Journal.new.content.bytes.items r.kept s in
    record { kept = kept_journal c.args.f (is_err c.touch-in-Journal.result) _ _ c.touch-in-Journal.new.content.bytes.items _ c.in-Journal.is r.kept e.came }

pub returns-in-Journal : goal.returns-in-Journal
returns-in-Journal c =
    let r = c.args.self.now in
    let s = journal_step c.args.f (Sync c.args.f) [] c.touch-in-Journal.result r.log c.touch-in-Journal.new.log (λ (s : List ℕ). s) r.image r.journal c.touch-in-Journal.new.content r.output_faults c.in-Journal.is r.kept c.touch-in-Journal.ensures.first c.touch-in-Journal.ensures.outcome in
    let e = syncs c.args.f c.touch-in-Journal.result (history r.image r.journal r.log) (history r.image c.touch-in-Journal.new.content c.touch-in-Journal.new.log) (faults r.image r.journal r.output_faults) (faults r.image c.touch-in-Journal.new.content r.output_faults) _ _ c.touch-in-Journal.new.content.bytes.items r.kept s in
    record { same = e.same; synced = e.synced_is; failed = e.failed; other = e.other; cause = e.cause; time = e.time; told = s.step.told }
