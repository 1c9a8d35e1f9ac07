use Rattle.std.proofs.Common.{inl, inr, ⊎_elim, ◌∷◌, []}
use Rattle.czi_script.specs.View.{command_of}
use Rattle.czi_session.proofs.Ending.{alike_more, one_unopened, runs}
use Rattle.czi_session.proofs.Stops.{stopped_looks, unopened_alone}
use Rattle.czi_rig.proofs.Faults.{faults_then}
use Rattle.czi_session.proofs.top.one_alone.Goals as goal

pub returns-in-Err-single-clause-headline : goal.returns-in-Err-single-clause-headline
returns-in-Err-single-clause-headline g c = λ said s h.
    let m = g.E.Editor.model in
    let o = c.in-Ok.ensures.opens said s h in
    let on = g.E.Editor.stands c.in-Ok.editor in
    inr (inr (runs g.R.Rig m g.met.R.Rig.only_now g.met.E.Editor.says_something on (g.met.E.Editor.rests_now c.in-Ok.editor) s (command_of c.args.command.now ∷ []) [] said o.0 o.1 (c.single.ensures.moments said s o.1)))

pub returns-in-Err-single-clause-alike : goal.returns-in-Err-single-clause-alike
returns-in-Err-single-clause-alike g c = λ said s h.
    let o = c.in-Ok.ensures.opens said s h in
    inr (alike_more g.R.Rig g.E.Editor.model c.args.rig.now c.opened.new.rig c.single.new.rig (c.in-Ok.ensures.alike said s h) (c.single.ensures.alike said s o.1))

pub returns-in-Ok-single-clause-headline : goal.returns-in-Ok-single-clause-headline
returns-in-Ok-single-clause-headline g c = λ said s h.
    let m = g.E.Editor.model in
    let o = c.in-Ok.ensures.opens said s h in
    let on = g.E.Editor.stands c.in-Ok.editor in
    inr (inr (runs g.R.Rig m g.met.R.Rig.only_now g.met.E.Editor.says_something on (g.met.E.Editor.rests_now c.in-Ok.editor) s (command_of c.args.command.now ∷ []) [] said o.0 o.1 (c.single.ensures.moments said s o.1)))

pub returns-in-Ok-single-clause-alike : goal.returns-in-Ok-single-clause-alike
returns-in-Ok-single-clause-alike g c = λ said s h.
    let o = c.in-Ok.ensures.opens said s h in
    inr (alike_more g.R.Rig g.E.Editor.model c.args.rig.now c.opened.new.rig c.single.new.rig (c.in-Ok.ensures.alike said s h) (c.single.ensures.alike said s o.1))

pub returns-in-Ok-single-clause-ends : goal.returns-in-Ok-single-clause-ends
returns-in-Ok-single-clause-ends g c = λ said s h. c.in-Ok-single.ensures.ends said s (c.in-Ok.ensures.opens said s h).1

pub returns-in-Err-single-clause-ends : goal.returns-in-Err-single-clause-ends
returns-in-Err-single-clause-ends g c = λ said s h. inr (c.in-Err-single.ensures.ends said s (c.in-Ok.ensures.opens said s h).1)

pub returns-in-Err-clause-headline : goal.returns-in-Err-clause-headline
returns-in-Err-clause-headline g c = λ said s h.
    let o = c.in-Err.ensures.opens said s h in
    ⊎_elim (λ nothing. inl nothing) (λ from. inr (inl (from, o.1))) o.2

pub returns-in-Err-clause-ends : goal.returns-in-Err-clause-ends
returns-in-Err-clause-ends g c = λ said s h. one_unopened g.E.Editor.model (g.R.Rig.state c.opened.new.rig) s (command_of c.args.command.now) said c.in-Err.ended (c.in-Err.ensures.opens said s h).0

pub returns-in-Err-single-clause-refuses : goal.returns-in-Err-single-clause-refuses
returns-in-Err-single-clause-refuses g c = inl c.in-Ok.ensures.unrefused

pub returns-in-Err-single-clause-alone : goal.returns-in-Err-single-clause-alone
returns-in-Err-single-clause-alone g c = c.in-Err-single.ensures.alone

pub returns-in-Ok-single-clause-refuses : goal.returns-in-Ok-single-clause-refuses
returns-in-Ok-single-clause-refuses g c = inl c.in-Ok.ensures.unrefused

pub returns-in-Err-clause-refuses : goal.returns-in-Err-clause-refuses
returns-in-Err-clause-refuses g c = inr (c.in-Err.ensures.unopened, c.in-Err.ensures.refusal)

pub returns-in-Err-clause-alone : goal.returns-in-Err-clause-alone
returns-in-Err-clause-alone g c = unopened_alone c.in-Err.ended c.in-Err.ensures.unopened

pub returns-in-Err-single-clause-kept : goal.returns-in-Err-single-clause-kept
returns-in-Err-single-clause-kept g c = λ all text known refused. absurd (c.in-Ok.ensures.unrefused all text known refused)

pub returns-in-Ok-single-clause-kept : goal.returns-in-Ok-single-clause-kept
returns-in-Ok-single-clause-kept g c = λ all text known refused. absurd (c.in-Ok.ensures.unrefused all text known refused)

pub returns-in-Err-single-clause-reads : goal.returns-in-Err-single-clause-reads
returns-in-Err-single-clause-reads g c = λ said s h still.
    let o = c.in-Ok.ensures.opens said s h in
    let so = c.in-Err-single.ensures.still said s o.1 still in
    inr (record { opened = c.opened.new.rig; opening = o.0; replying = so.0 }, stopped_looks c.in-Err-single.stop so.1)

pub returns-in-Ok-single-clause-reads : goal.returns-in-Ok-single-clause-reads
returns-in-Ok-single-clause-reads g c = λ said s h still.
    let o = c.in-Ok.ensures.opens said s h in
    inr (record { opened = c.opened.new.rig; opening = o.0; replying = (c.in-Ok-single.ensures.still said s o.1 still).0 }, λ is. cc)

pub returns-in-Err-clause-reads : goal.returns-in-Err-clause-reads
returns-in-Err-clause-reads g c = λ said s h still. inl (c.in-Err.ensures.opens said s h).0

pub returns-in-Err-single-clause-cause : goal.returns-in-Err-single-clause-cause
returns-in-Err-single-clause-cause g c = faults_then _ _ _ _ c.in-Ok.ensures.cause c.in-Err-single.ensures.cause

pub returns-in-Ok-single-clause-cause : goal.returns-in-Ok-single-clause-cause
returns-in-Ok-single-clause-cause g c = faults_then _ _ _ _ c.in-Ok.ensures.cause c.in-Ok-single.ensures.cause
