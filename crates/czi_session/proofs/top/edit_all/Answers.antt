use Rattle.std.proofs.Common.{inl, inr, ⊎_elim, refl}
use Rattle.czi_session.specs.Text.{last_text}
use Rattle.czi_session.proofs.Ending.{alike_more, runs, starts, unopened}
use Rattle.czi_session.proofs.Stops.{alone_with, unopened_alone, with_then}
use Rattle.czi_session.proofs.top.edit_all.Goals as goal

pub returns-in-Err-script-clause-headline : goal.returns-in-Err-script-clause-headline
returns-in-Err-script-clause-headline g c = λ cs end said s h.
    let m = g.E.Editor.model in
    let o = c.in-Ok.ensures.opens said s h.opening in
    let on = g.E.Editor.stands c.in-Ok.editor in
    inr (inr (runs g.R.Rig m g.met.R.Rig.only_now g.met.E.Editor.says_something on (g.met.E.Editor.rests_now c.in-Ok.editor) s cs (last_text end) said o.0 o.1 (c.script.ensures.moments cs end said s (starts m _ _ _ _ cs end said s h o.1))))

pub returns-in-Err-script-clause-alike : goal.returns-in-Err-script-clause-alike
returns-in-Err-script-clause-alike g c = λ cs end said s h.
    let m = g.E.Editor.model in
    let o = c.in-Ok.ensures.opens said s h.opening in
    inr (alike_more g.R.Rig m c.args.rig.now c.opened.new.rig c.script.new.rig (c.in-Ok.ensures.alike said s h.opening) (c.script.ensures.alike cs end said s (starts m _ _ _ _ cs end said s h o.1)))

pub returns-in-Ok-script-clause-headline : goal.returns-in-Ok-script-clause-headline
returns-in-Ok-script-clause-headline g c = λ cs end said s h.
    let m = g.E.Editor.model in
    let o = c.in-Ok.ensures.opens said s h.opening in
    let on = g.E.Editor.stands c.in-Ok.editor in
    inr (inr (runs g.R.Rig m g.met.R.Rig.only_now g.met.E.Editor.says_something on (g.met.E.Editor.rests_now c.in-Ok.editor) s cs (last_text end) said o.0 o.1 (c.script.ensures.moments cs end said s (starts m _ _ _ _ cs end said s h o.1))))

pub returns-in-Ok-script-clause-alike : goal.returns-in-Ok-script-clause-alike
returns-in-Ok-script-clause-alike g c = λ cs end said s h.
    let m = g.E.Editor.model in
    let o = c.in-Ok.ensures.opens said s h.opening in
    inr (alike_more g.R.Rig m c.args.rig.now c.opened.new.rig c.script.new.rig (c.in-Ok.ensures.alike said s h.opening) (c.script.ensures.alike cs end said s (starts m _ _ _ _ cs end said s h o.1)))

pub returns-in-Ok-script-clause-ends : goal.returns-in-Ok-script-clause-ends
returns-in-Ok-script-clause-ends g c = λ cs end said s h.
    let m = g.E.Editor.model in
    let o = c.in-Ok.ensures.opens said s h.opening in
    c.in-Ok-script.ensures.ends cs end said s (starts m _ _ _ _ cs end said s h o.1)

pub returns-in-Err-script-clause-ends : goal.returns-in-Err-script-clause-ends
returns-in-Err-script-clause-ends g c = λ cs end said s h.
    let m = g.E.Editor.model in
    let o = c.in-Ok.ensures.opens said s h.opening in
    inr (c.in-Err-script.ensures.ends cs end said s (starts m _ _ _ _ cs end said s h o.1))

pub returns-in-Err-clause-headline : goal.returns-in-Err-clause-headline
returns-in-Err-clause-headline g c = λ cs end said s h.
    let o = c.in-Err.ensures.opens said s h.opening in
    ⊎_elim (λ nothing. inl nothing) (λ from. inr (inl (from, o.1))) o.2

pub returns-in-Err-clause-alike : goal.returns-in-Err-clause-alike
returns-in-Err-clause-alike g c = λ cs end said s h. c.in-Err.ensures.alike said s h.opening

pub returns-in-Err-clause-ends : goal.returns-in-Err-clause-ends
returns-in-Err-clause-ends g c = λ cs end said s h.
    unopened g.E.Editor.model (g.R.Rig.state c.opened.new.rig) (g.S.Source.input c.args.input.now).left s cs end said h.input c.in-Err.ended (c.in-Err.ensures.opens said s h.opening).0 h.told

pub returns-in-Err-script-clause-refuses : goal.returns-in-Err-script-clause-refuses
returns-in-Err-script-clause-refuses g c = inl c.in-Ok.ensures.unrefused

pub returns-in-Ok-script-clause-refuses : goal.returns-in-Ok-script-clause-refuses
returns-in-Ok-script-clause-refuses g c = inl c.in-Ok.ensures.unrefused

pub returns-in-Err-clause-refuses : goal.returns-in-Err-clause-refuses
returns-in-Err-clause-refuses g c = inr (c.in-Err.ensures.unopened, c.in-Err.ensures.refusal, refl)

pub returns-in-Err-script-clause-kept : goal.returns-in-Err-script-clause-kept
returns-in-Err-script-clause-kept g c = λ all text known refused. absurd (c.in-Ok.ensures.unrefused all text known refused)

pub returns-in-Ok-script-clause-kept : goal.returns-in-Ok-script-clause-kept
returns-in-Ok-script-clause-kept g c = λ all text known refused. absurd (c.in-Ok.ensures.unrefused all text known refused)

pub returns-in-Err-script-clause-cause : goal.returns-in-Err-script-clause-cause
returns-in-Err-script-clause-cause g c = with_then _ _ _ _ _ _ _ (record { rig = c.in-Ok.ensures.cause; input_count = refl }) c.in-Err-script.ensures.cause

pub returns-in-Ok-script-clause-cause : goal.returns-in-Ok-script-clause-cause
returns-in-Ok-script-clause-cause g c = with_then _ _ _ _ _ _ _ (record { rig = c.in-Ok.ensures.cause; input_count = refl }) c.in-Ok-script.ensures.cause

pub returns-in-Err-clause-cause : goal.returns-in-Err-clause-cause
returns-in-Err-clause-cause g c = alone_with c.in-Err.ended _ _ _ (unopened_alone c.in-Err.ended c.in-Err.ensures.unopened) c.in-Err.ensures.cause
