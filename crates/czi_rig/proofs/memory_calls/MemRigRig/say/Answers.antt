use Rattle.czi_rig.proofs.Steps.{output_step}
use Rattle.czi_rig.proofs.Clauses.{says}
use Rattle.czi_rig.proofs.memory_calls.MemRigRig.say.Goals as goal

pub invariant_of-self : goal.invariant_of-self
invariant_of-self c =
    let r = c.args.self.now in
    let s = output_step c.args.bytes.now c.speak.result r.log c.speak.new.log r.image r.journal r.output_faults c.speak.new.faults r.said.items c.speak.new.said.items c.speak.ensures in
    record { kept = (says c.args.bytes.now c.speak.result _ _ _ _ _ _ r.said.items c.speak.new.said.items r.kept s).kept }

pub returns-clause-files : goal.returns-clause-files
returns-clause-files c =
    let r = c.args.self.now in
    let s = output_step c.args.bytes.now c.speak.result r.log c.speak.new.log r.image r.journal r.output_faults c.speak.new.faults r.said.items c.speak.new.said.items c.speak.ensures in
    (says c.args.bytes.now c.speak.result _ _ _ _ _ _ r.said.items c.speak.new.said.items r.kept s).files

pub returns-clause-said : goal.returns-clause-said
returns-clause-said c =
    let r = c.args.self.now in
    let s = output_step c.args.bytes.now c.speak.result r.log c.speak.new.log r.image r.journal r.output_faults c.speak.new.faults r.said.items c.speak.new.said.items c.speak.ensures in
    (says c.args.bytes.now c.speak.result _ _ _ _ _ _ r.said.items c.speak.new.said.items r.kept s).said_is

pub returns-clause-time : goal.returns-clause-time
returns-clause-time c =
    let r = c.args.self.now in
    let s = output_step c.args.bytes.now c.speak.result r.log c.speak.new.log r.image r.journal r.output_faults c.speak.new.faults r.said.items c.speak.new.said.items c.speak.ensures in
    (says c.args.bytes.now c.speak.result _ _ _ _ _ _ r.said.items c.speak.new.said.items r.kept s).time

pub returns-clause-told : goal.returns-clause-told
returns-clause-told c =
    let r = c.args.self.now in
    (output_step c.args.bytes.now c.speak.result r.log c.speak.new.log r.image r.journal r.output_faults c.speak.new.faults r.said.items c.speak.new.said.items c.speak.ensures).told
