use Rattle.std.proofs.Common.{ℕ, List, [], length, take}
use Rattle.std.specs.Prelude.{is_err}
use Rattle.czi_rig.specs.declared.call.Call.TheVariants.{Cut}
use Rattle.czi_rig.specs.Memory.{history, faults}
use Rattle.czi_rig.specs.Replay.{cut_to}
use Rattle.czi_rig.proofs.Steps.{image_step, journal_step, kept_image, kept_journal}
use Rattle.czi_rig.proofs.Clauses.{cuts}
use Rattle.czi_rig.proofs.memory_calls.MemRigRig.cut.Goals as goal

pub invariant_of-self : goal.invariant_of-self
invariant_of-self c =
    let r = c.args.self.now in
    let s = image_step c.args.f (Cut c.args.f c.args.len) [] c.cut.result r.log c.cut.new.log (λ (s : List ℕ). take (cut_to c.args.len (is_err c.cut.result) (length s)) s) r.image c.cut.new.content r.journal r.output_faults c.in-Image.is r.kept c.cut.ensures.first c.cut.ensures.outcome in
    let e = cuts c.args.f c.args.len c.cut.result (history r.image r.journal r.log) (history c.cut.new.content r.journal c.cut.new.log) (faults r.image r.journal r.output_faults) (faults c.cut.new.content r.journal r.output_faults) _ _ c.cut.new.content.bytes.items r.kept c.requires.in_file s in
    record { kept = kept_image c.args.f (is_err c.cut.result) _ _ c.cut.new.content.bytes.items _ c.in-Image.is r.kept e.came }

pub returns-in-Image : goal.returns-in-Image
returns-in-Image c =
    let r = c.args.self.now in
    let s = image_step c.args.f (Cut c.args.f c.args.len) [] c.cut.result r.log c.cut.new.log (λ (s : List ℕ). take (cut_to c.args.len (is_err c.cut.result) (length s)) s) r.image c.cut.new.content r.journal r.output_faults c.in-Image.is r.kept c.cut.ensures.first c.cut.ensures.outcome in
    let e = cuts c.args.f c.args.len c.cut.result (history r.image r.journal r.log) (history c.cut.new.content r.journal c.cut.new.log) (faults r.image r.journal r.output_faults) (faults c.cut.new.content r.journal r.output_faults) _ _ c.cut.new.content.bytes.items r.kept c.requires.in_file s in
    record { cut = e.begins.written; torn = e.begins.torn; begun = e.begins.begun; failed = e.begins.failed; other = e.begins.other; cause = e.begins.cause; time = e.begins.time; told = s.step.told }

pub invariant_of-self-in-Journal : goal.invariant_of-self-in-Journal
invariant_of-self-in-Journal c =
    let r = c.args.self.now in
    let s = journal_step c.args.f (Cut c.args.f c.args.len) [] c.cut-in-Journal.result r.log c.cut-in-Journal.new.log (λ (s : List ℕ). take (cut_to c.args.len (is_err c.cut-in-Journal.result) (length s)) s) r.image r.journal c.cut-in-Journal.new.content r.output_faults c.in-Journal.is r.kept c.cut-in-Journal.ensures.first c.cut-in-Journal.ensures.outcome in
    let e = cuts c.args.f c.args.len c.cut-in-Journal.result (history r.image r.journal r.log) (history r.image c.cut-in-Journal.new.content c.cut-in-Journal.new.log) (faults r.image r.journal r.output_faults) (faults r.image c.cut-in-Journal.new.content r.output_faults) _ _ c.cut-in-Journal.new.content.bytes.items r.kept c.requires.in_file s in
    record { kept = kept_journal c.args.f (is_err c.cut-in-Journal.result) _ _ c.cut-in-Journal.new.content.bytes.items _ c.in-Journal.is r.kept e.came }

pub returns-in-Journal : goal.returns-in-Journal
returns-in-Journal c =
    let r = c.args.self.now in
    let s = journal_step c.args.f (Cut c.args.f c.args.len) [] c.cut-in-Journal.result r.log c.cut-in-Journal.new.log (λ (s : List ℕ). take (cut_to c.args.len (is_err c.cut-in-Journal.result) (length s)) s) r.image r.journal c.cut-in-Journal.new.content r.output_faults c.in-Journal.is r.kept c.cut-in-Journal.ensures.first c.cut-in-Journal.ensures.outcome in
    let e = cuts c.args.f c.args.len c.cut-in-Journal.result (history r.image r.journal r.log) (history r.image c.cut-in-Journal.new.content c.cut-in-Journal.new.log) (faults r.image r.journal r.output_faults) (faults r.image c.cut-in-Journal.new.content r.output_faults) _ _ c.cut-in-Journal.new.content.bytes.items r.kept c.requires.in_file s in
    record { cut = e.begins.written; torn = e.begins.torn; begun = e.begins.begun; failed = e.begins.failed; other = e.begins.other; cause = e.begins.cause; time = e.begins.time; told = s.step.told }
