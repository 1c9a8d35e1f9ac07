use Rattle.std.proofs.Common.{◌≡◌, ◌∷◌, [], ap, sym, ◌∙◌, subst}
use Rattle.czi_script.specs.Script.{Command as Step}
use Rattle.czi_script.specs.View.{command_of as line_of}
use Rattle.czi_session.proofs.Stops.{alone_with}
use Rattle.czi_editor.specs.Replies.{still}
use Rattle.czi_top.proofs.Ending.{quiet_alone, still_step}
use Rattle.czi_top.proofs.top.obey.Goals as goal

pub returns-in-Query-clause-headline : goal.returns-in-Query-clause-headline
returns-in-Query-clause-headline g c = λ cs end said b asks h.
    let line : cs ≡ line_of c.step_of.result ∷ [] = (rw c.in-Query.is at asks).0 ∙ ap (λ (x : Step). x ∷ []) (sym c.step_of.ensures) in
    rw (line, (rw c.in-Query.is at asks).1) (c.one.ensures.headline said b h)

pub returns-in-Query-clause-ends : goal.returns-in-Query-clause-ends
returns-in-Query-clause-ends g c = rw (c.in-Query.is, sym c.step_of.ensures) c.one.ensures.ends

pub returns-in-Query-clause-complete : goal.returns-in-Query-clause-complete
returns-in-Query-clause-complete g c = λ said b h well q. c.one.ensures.complete said b h (quiet_alone q)

pub returns-in-Query-clause-refuses : goal.returns-in-Query-clause-refuses
returns-in-Query-clause-refuses g c = λ text r q. c.one.ensures.refuses r.0 text r.1 r.2 (quiet_alone q)

pub returns-in-Query-clause-looks : goal.returns-in-Query-clause-looks
returns-in-Query-clause-looks g c = rw (c.in-Query.is, sym c.step_of.ensures) (λ said b h.
    c.one.ensures.reads said b h (subst (λ (line : Step). still b.state line) (sym c.step_of.ensures) (still_step b _)))

pub returns-in-Query-clause-cause : goal.returns-in-Query-clause-cause
returns-in-Query-clause-cause g c = alone_with c.one.result _ _ _ c.one.ensures.alone c.one.ensures.cause

pub returns-in-Edit-clause-ends : goal.returns-in-Edit-clause-ends
returns-in-Edit-clause-ends g c = rw c.in-Edit.is (λ said b h cs end input told reads.
    c.edit.ensures.ends cs end said b (record { input = input; told = told; reads = reads; opening = h }))

pub returns-in-Edit-clause-complete : goal.returns-in-Edit-clause-complete
returns-in-Edit-clause-complete g c = λ said b h well q.
    let w = rw c.in-Edit.is at well in
    c.edit.ensures.complete w.0 said b (record { input = w.1; told = w.2; reads = w.3; opening = h }) w.4 q

pub returns-in-Edit-clause-refuses : goal.returns-in-Edit-clause-refuses
returns-in-Edit-clause-refuses g c = λ text r q. c.edit.ensures.refuses r.0 text r.1 r.2 q

pub returns-in-Edit-clause-looks : goal.returns-in-Edit-clause-looks
returns-in-Edit-clause-looks g c = rw c.in-Edit.is (λ said b h. tt)

pub returns-in-Edit-clause-untaken : goal.returns-in-Edit-clause-untaken
returns-in-Edit-clause-untaken g c = λ text r. c.edit.ensures.untaken r.0 text r.1 r.2

pub returns-in-Query-clause-alike : goal.returns-in-Query-clause-alike
returns-in-Query-clause-alike g c = λ cs end said b asks h. c.one.ensures.alike said b h

pub returns-in-Edit-clause-alike : goal.returns-in-Edit-clause-alike
returns-in-Edit-clause-alike g c = λ cs end said b asks h.
    let a = rw c.in-Edit.is at asks in
    c.edit.ensures.alike cs end said b (record { input = a.0; told = a.1; reads = a.2; opening = h })
