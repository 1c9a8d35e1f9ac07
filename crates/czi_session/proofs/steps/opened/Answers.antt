use Rattle.std.proofs.Common.{inr, ap, ◌∙◌, List, ℕ, Some, ◌++◌, subst}
use Rattle.czi_rig.specs.Moments.{FromSomeMoment}
use Rattle.czi_rig.proofs.Known.{known_said}
use Rattle.czi_session.specs.Course.{KeepsSaying}
use Rattle.czi_session.specs.Ends.{SaysRefusal}
use Rattle.czi_session.proofs.Kept.{kept_saying, kept_silent, surely}
use Rattle.czi_session.proofs.Told.{recovered_said, still_told}
use Rattle.czi_session.proofs.Refusing.{opening_refused, opening_says}
use Rattle.czi_session.proofs.Stops.{editor_alone}
use Rattle.czi_session.proofs.steps.opened.Goals as goal

pub returns-in-Err-Refused-clause-opens : goal.returns-in-Err-Refused-clause-opens
returns-in-Err-Refused-clause-opens g c = λ said s h. absurd (rw c.in-Err-Refused.field-0-is at (c.in-Err-Refused.ensures.opens said s h).0)

pub returns-in-Err-Refused-clause-refused : goal.returns-in-Err-Refused-clause-refused
returns-in-Err-Refused-clause-refused g c = λ is all known. (
  c.in-Err-Refused.text.items,
  (rw c.in-Err-Refused.field-0-is at (c.in-Err-Refused.ensures.refused all known)).0,
  (rw is at (c.say_refusal.ensures.said all.said (c.open.ensures.said ∙ known_said (g.R.Rig.state c.args.rig.now) all known))) ∙ ap (λ (x : List ℕ). Some (all.said ++ x)) c.deref.ensures.value,
  recovered_said g.E.Editor.model all (g.R.Rig.state c.open.new.rig) (g.R.Rig.state c.say_refusal.new.rig) c.say_refusal.ensures.files (rw c.in-Err-Refused.field-0-is at (c.in-Err-Refused.ensures.refused all known)).1,
)

pub returns-in-Err-Refused-clause-kept : goal.returns-in-Err-Refused-clause-kept
returns-in-Err-Refused-clause-kept g c = λ all text known refused.
    let once = rw c.in-Err-Refused.field-0-is at (c.in-Err-Refused.ensures.kept all text known refused) in
    let told = (rw c.in-Err-Refused.field-0-is at (c.in-Err-Refused.ensures.refused all known)).0 in
    let same = c.deref.ensures.value ∙ g.met.E.Editor.refused_once all.image.seen all.journal.seen _ text told refused in
    let still = still_told (g.R.Rig.state c.args.rig.now) (g.R.Rig.state c.open.new.rig) all known c.open.ensures.goes_on c.open.ensures.said in
    inr (subst (λ (x : List ℕ). FromSomeMoment g.R.Rig c.args.rig.now c.say_refusal.new.rig (KeepsSaying g.E.Editor.model all x)) same
    (kept_saying g.R.Rig g.met.R.Rig.counts_now g.E.Editor.model all still.now c.args.rig.now c.open.new.rig c.say_refusal.new.rig c.deref.result.now (surely g.R.Rig once) still.known still.said (c.say_refusal.ensures.moments still.now still.known)))

pub returns-in-Err-Refused-clause-refusal : goal.returns-in-Err-Refused-clause-refusal
returns-in-Err-Refused-clause-refusal g c = λ all text known refused.
    let told = (rw c.in-Err-Refused.field-0-is at (c.in-Err-Refused.ensures.refused all known)).0 in
    let same = c.deref.ensures.value ∙ g.met.E.Editor.refused_once all.image.seen all.journal.seen _ text told refused in
    subst (λ (x : List ℕ). SaysRefusal (g.R.Rig.state c.say_refusal.new.rig).said all.said x c.say_refusal.result) same
    (c.say_refusal.ensures.said all.said (c.open.ensures.said ∙ known_said (g.R.Rig.state c.args.rig.now) all known))

pub returns-in-Err-Refused-clause-alike : goal.returns-in-Err-Refused-clause-alike
returns-in-Err-Refused-clause-alike g c = λ said s h. absurd (rw c.in-Err-Refused.field-0-is at (c.in-Err-Refused.ensures.opens said s h).0)

pub returns-in-Err-Stopped-clause-opens : goal.returns-in-Err-Stopped-clause-opens
returns-in-Err-Stopped-clause-opens g c = λ said s h.
    let once = rw c.in-Err-Stopped.field-0-is at (c.in-Err-Stopped.ensures.opens said s h).1 in
    let says = opening_says g.E.Editor.model c.in-Err-Stopped.stop (g.R.Rig.state c.args.rig.now) (g.R.Rig.state c.open.new.rig) said s h c.open.ensures.said c.open.ensures.journal (g.met.E.Editor.begins_unsealed _ _ s h.begins) in
    rw c.stop_of.ensures (says.0, says.1, once)

pub returns-in-Err-Stopped-clause-alike : goal.returns-in-Err-Stopped-clause-alike
returns-in-Err-Stopped-clause-alike g c = λ said s h. rw c.stop_of.ensures (rw c.in-Err-Stopped.field-0-is at (c.in-Err-Stopped.ensures.alike said s h))

pub returns-in-Err-Stopped-clause-kept : goal.returns-in-Err-Stopped-clause-kept
returns-in-Err-Stopped-clause-kept g c = λ all text known refused.
    let once = rw c.in-Err-Stopped.field-0-is at (c.in-Err-Stopped.ensures.kept all text known refused) in
    rw c.stop_of.ensures (kept_silent g.R.Rig g.E.Editor.model all text c.args.rig.now c.open.new.rig _ once)

pub returns-in-Err-Stopped-clause-refusal : goal.returns-in-Err-Stopped-clause-refusal
returns-in-Err-Stopped-clause-refusal g c = λ all text known refused.
    rw c.stop_of.ensures (opening_refused c.in-Err-Stopped.stop (g.R.Rig.state c.open.new.rig) all.said text (c.open.ensures.said ∙ known_said (g.R.Rig.state c.args.rig.now) all known))

pub returns-in-Err-Stopped-clause-unopened : goal.returns-in-Err-Stopped-clause-unopened
returns-in-Err-Stopped-clause-unopened g c = rw c.stop_of.ensures (editor_alone c.in-Err-Stopped.stop)
