use Rattle.std.proofs.Common.{inl, inr, refl, Option, Some, ap, ◌∙◌, subst}
use Rattle.czi_rig.specs.Faults.{Device}
use Rattle.czi_rig.proofs.Known.{known_said}
use Rattle.czi_session.specs.declared.stop.Ended.TheVariants.{Done, Refused}
use Rattle.czi_session.specs.Course.{KeepsRefused, OnceAlike, OnceDurable}
use Rattle.czi_session.specs.Stops.{IsFile}
use Rattle.czi_editor.specs.Machine.{the_machine}
use Rattle.czi_top.specs.Creates.{CreatesSaying, wanted}
use Rattle.czi_top.proofs.Asking.{asks_nothing, asks_so, asks_something, creates_not, creates_so, opens_not, opens_so}
use Rattle.czi_top.proofs.Ending.{answers_code, is_begun, is_refused, opening_code, quiet_alone, says_line, takes_so, told_device, unread_takes}
use Rattle.czi_top.proofs.top.run.Goals as goal

pub returns-in-Ok-Some-Open-clause-usage : goal.returns-in-Ok-Some-Open-clause-usage
returns-in-Ok-Some-Open-clause-usage g c =
    let w = c.in-Ok-Some-Open in
    λ none. absurd (asks_something _ w.field-0 w.ensures _ w.field-0-is none)

pub returns-in-Ok-Some-Open-clause-command : goal.returns-in-Ok-Some-Open-clause-command
returns-in-Ok-Some-Open-clause-command g c =
    λ command asked one. is_begun c.obey.result c.code_of.result c.code_of.ensures one

pub returns-in-Ok-Some-Open-clause-headline : goal.returns-in-Ok-Some-Open-clause-headline
returns-in-Ok-Some-Open-clause-headline g c =
    let w = c.in-Ok-Some-Open in
    λ action asked. rw (opens_so _ w.field-0 w.ensures w.action action (w.field-0-is ∙ ap (λ x. Some x) w.field-0-0-is) asked) (λ cs end said b asks h. inr (elim (c.obey.ensures.headline cs end said b asks h) [
      | inl none ↦ inl (none.0, subst (λ (at : Option Device). IsFile at) (told_device c.obey.result c.code_of.result c.code_of.ensures) none.1)
      | inr (inl from) ↦ inr (inl (from.0, opening_code c.obey.result c.code_of.result c.code_of.ensures from.1))
      | inr (inr runs) ↦ inr (inr runs)
    ]))

pub returns-in-Ok-Some-Open-clause-alike : goal.returns-in-Ok-Some-Open-clause-alike
returns-in-Ok-Some-Open-clause-alike g c =
    let w = c.in-Ok-Some-Open in
    λ action asked. rw (opens_so _ w.field-0 w.ensures w.action action (w.field-0-is ∙ ap (λ x. Some x) w.field-0-0-is) asked) (λ cs end said b asks h.
    inr (subst (λ (at : Option Device). OnceAlike g.R.Rig c.args.rig.now c.obey.new.rig the_machine at) (told_device c.obey.result c.code_of.result c.code_of.ensures) (c.obey.ensures.alike cs end said b asks h)))

pub returns-in-Ok-Some-Open-clause-ends : goal.returns-in-Ok-Some-Open-clause-ends
returns-in-Ok-Some-Open-clause-ends g c =
    let w = c.in-Ok-Some-Open in
    λ action asked. rw (opens_so _ w.field-0 w.ensures w.action action (w.field-0-is ∙ ap (λ x. Some x) w.field-0-0-is) asked) (inr (record { ended = c.obey.result; status_is = c.code_of.ensures; alone = c.obey.ensures.alone; at = c.obey.ensures.ends }))

pub returns-in-Ok-Some-Open-clause-takes : goal.returns-in-Ok-Some-Open-clause-takes
returns-in-Ok-Some-Open-clause-takes g c =
    let w = c.in-Ok-Some-Open in
    λ command asked. rw (asks_so _ w.field-0 w.ensures _ command (w.field-0-is ∙ ap (λ x. Some x) w.field-0-0-is) asked) (takes_so _ c.obey.result c.code_of.result _ _ c.code_of.ensures c.obey.ensures.takes)

pub returns-in-Ok-Some-Open-clause-refused : goal.returns-in-Ok-Some-Open-clause-refused
returns-in-Ok-Some-Open-clause-refused g c =
    λ action asked two. c.obey.ensures.refused (is_refused c.obey.result c.code_of.result c.code_of.ensures two)

pub returns-in-Ok-Some-Open-clause-refuses : goal.returns-in-Ok-Some-Open-clause-refuses
returns-in-Ok-Some-Open-clause-refuses g c =
    λ action asked text r q. answers_code Refused c.obey.result _ c.code_of.ensures (c.obey.ensures.refuses text r q)

pub returns-in-Ok-Some-Open-clause-refusal : goal.returns-in-Ok-Some-Open-clause-refusal
returns-in-Ok-Some-Open-clause-refusal g c =
    λ action asked text r. (
      says_line c.obey.result c.code_of.result (g.R.Rig.state c.args.rig.now) (g.R.Rig.state c.obey.new.rig) r.0.said text c.code_of.ensures
          (known_said (g.R.Rig.state c.args.rig.now) r.0 r.1) (c.obey.ensures.refusal r.0 text r.1 r.2),
      c.obey.ensures.untaken text r,
    )

pub returns-in-Ok-Some-Open-clause-kept : goal.returns-in-Ok-Some-Open-clause-kept
returns-in-Ok-Some-Open-clause-kept g c =
    λ action asked. inr (subst (λ (at : Option Device). KeepsRefused g.R.Rig c.args.rig.now c.obey.new.rig the_machine at) (told_device c.obey.result c.code_of.result c.code_of.ensures) c.obey.ensures.kept)

pub returns-in-Ok-Some-Open-clause-complete : goal.returns-in-Ok-Some-Open-clause-complete
returns-in-Ok-Some-Open-clause-complete g c =
    let w = c.in-Ok-Some-Open in
    λ action asked. rw (opens_so _ w.field-0 w.ensures w.action action (w.field-0-is ∙ ap (λ x. Some x) w.field-0-0-is) asked) (λ said b h well q. answers_code Done c.obey.result _ c.code_of.ensures (c.obey.ensures.complete said b h well q))

pub returns-in-Ok-Some-Open-clause-looks : goal.returns-in-Ok-Some-Open-clause-looks
returns-in-Ok-Some-Open-clause-looks g c =
    let w = c.in-Ok-Some-Open in
    λ action asked. rw (opens_so _ w.field-0 w.ensures w.action action (w.field-0-is ∙ ap (λ x. Some x) w.field-0-0-is) asked) (λ said b h. inr (c.obey.result, c.code_of.ensures, c.obey.ensures.looks said b h))

pub returns-in-Ok-Some-Open-clause-creates : goal.returns-in-Ok-Some-Open-clause-creates
returns-in-Ok-Some-Open-clause-creates g c =
    let w = c.in-Ok-Some-Open in
    λ guid asked. absurd (creates_not _ w.field-0 w.ensures w.action guid (w.field-0-is ∙ ap (λ x. Some x) w.field-0-0-is) asked)

pub returns-in-Ok-Some-Open-clause-created : goal.returns-in-Ok-Some-Open-clause-created
returns-in-Ok-Some-Open-clause-created g c =
    let w = c.in-Ok-Some-Open in
    λ guid asked. absurd (creates_not _ w.field-0 w.ensures w.action guid (w.field-0-is ∙ ap (λ x. Some x) w.field-0-0-is) asked)

pub returns-in-Ok-Some-Open-clause-makes : goal.returns-in-Ok-Some-Open-clause-makes
returns-in-Ok-Some-Open-clause-makes g c =
    let w = c.in-Ok-Some-Open in
    λ guid asked. absurd (creates_not _ w.field-0 w.ensures w.action guid (w.field-0-is ∙ ap (λ x. Some x) w.field-0-0-is) asked)

pub returns-in-Ok-Some-Create-clause-usage : goal.returns-in-Ok-Some-Create-clause-usage
returns-in-Ok-Some-Create-clause-usage g c =
    let w = c.in-Ok-Some-Create in
    λ none. absurd (asks_something _ w.field-0 w.ensures _ w.field-0-is none)

pub returns-in-Ok-Some-Create-clause-command : goal.returns-in-Ok-Some-Create-clause-command
returns-in-Ok-Some-Create-clause-command g c =
    λ command asked one. is_begun c.create.result c.code_of-in-Ok-Some-Create.result c.code_of-in-Ok-Some-Create.ensures one

pub returns-in-Ok-Some-Create-clause-headline : goal.returns-in-Ok-Some-Create-clause-headline
returns-in-Ok-Some-Create-clause-headline g c =
    let w = c.in-Ok-Some-Create in
    λ action asked. absurd (opens_not _ w.field-0 w.ensures w.guid action (w.field-0-is ∙ ap (λ x. Some x) w.field-0-0-is) asked)

pub returns-in-Ok-Some-Create-clause-alike : goal.returns-in-Ok-Some-Create-clause-alike
returns-in-Ok-Some-Create-clause-alike g c =
    let w = c.in-Ok-Some-Create in
    λ action asked. absurd (opens_not _ w.field-0 w.ensures w.guid action (w.field-0-is ∙ ap (λ x. Some x) w.field-0-0-is) asked)

pub returns-in-Ok-Some-Create-clause-ends : goal.returns-in-Ok-Some-Create-clause-ends
returns-in-Ok-Some-Create-clause-ends g c =
    let w = c.in-Ok-Some-Create in
    λ action asked. absurd (opens_not _ w.field-0 w.ensures w.guid action (w.field-0-is ∙ ap (λ x. Some x) w.field-0-0-is) asked)

pub returns-in-Ok-Some-Create-clause-refused : goal.returns-in-Ok-Some-Create-clause-refused
returns-in-Ok-Some-Create-clause-refused g c =
    let w = c.in-Ok-Some-Create in
    λ action asked. absurd (opens_not _ w.field-0 w.ensures w.guid action (w.field-0-is ∙ ap (λ x. Some x) w.field-0-0-is) asked)

pub returns-in-Ok-Some-Create-clause-refuses : goal.returns-in-Ok-Some-Create-clause-refuses
returns-in-Ok-Some-Create-clause-refuses g c =
    let w = c.in-Ok-Some-Create in
    λ action asked. absurd (opens_not _ w.field-0 w.ensures w.guid action (w.field-0-is ∙ ap (λ x. Some x) w.field-0-0-is) asked)

pub returns-in-Ok-Some-Create-clause-refusal : goal.returns-in-Ok-Some-Create-clause-refusal
returns-in-Ok-Some-Create-clause-refusal g c =
    let w = c.in-Ok-Some-Create in
    λ action asked. absurd (opens_not _ w.field-0 w.ensures w.guid action (w.field-0-is ∙ ap (λ x. Some x) w.field-0-0-is) asked)

pub returns-in-Ok-Some-Create-clause-kept : goal.returns-in-Ok-Some-Create-clause-kept
returns-in-Ok-Some-Create-clause-kept g c =
    let w = c.in-Ok-Some-Create in
    λ action asked. absurd (opens_not _ w.field-0 w.ensures w.guid action (w.field-0-is ∙ ap (λ x. Some x) w.field-0-0-is) asked)

pub returns-in-Ok-Some-Create-clause-complete : goal.returns-in-Ok-Some-Create-clause-complete
returns-in-Ok-Some-Create-clause-complete g c =
    let w = c.in-Ok-Some-Create in
    λ action asked. absurd (opens_not _ w.field-0 w.ensures w.guid action (w.field-0-is ∙ ap (λ x. Some x) w.field-0-0-is) asked)

pub returns-in-Ok-Some-Create-clause-looks : goal.returns-in-Ok-Some-Create-clause-looks
returns-in-Ok-Some-Create-clause-looks g c =
    let w = c.in-Ok-Some-Create in
    λ action asked. absurd (opens_not _ w.field-0 w.ensures w.guid action (w.field-0-is ∙ ap (λ x. Some x) w.field-0-0-is) asked)

pub returns-in-Ok-Some-Create-clause-takes : goal.returns-in-Ok-Some-Create-clause-takes
returns-in-Ok-Some-Create-clause-takes g c =
    let w = c.in-Ok-Some-Create in
    λ command asked. rw (asks_so _ w.field-0 w.ensures _ command (w.field-0-is ∙ ap (λ x. Some x) w.field-0-0-is) asked) refl

pub returns-in-Ok-Some-Create-clause-creates : goal.returns-in-Ok-Some-Create-clause-creates
returns-in-Ok-Some-Create-clause-creates g c =
    let w = c.in-Ok-Some-Create in
    λ guid asked. rw (creates_so _ w.field-0 w.ensures w.guid guid (w.field-0-is ∙ ap (λ x. Some x) w.field-0-0-is) asked) (λ all is.
    inr (subst (λ (at : Option Device). OnceDurable g.R.Rig c.args.rig.now c.create.new.rig (CreatesSaying w.guid all) at) (told_device c.create.result c.code_of-in-Ok-Some-Create.result c.code_of-in-Ok-Some-Create.ensures) (c.create.ensures.moments all is)))

pub returns-in-Ok-Some-Create-clause-created : goal.returns-in-Ok-Some-Create-clause-created
returns-in-Ok-Some-Create-clause-created g c =
    let w = c.in-Ok-Some-Create in
    λ guid asked. rw (creates_so _ w.field-0 w.ensures w.guid guid (w.field-0-is ∙ ap (λ x. Some x) w.field-0-0-is) asked) (λ all is. inr (c.create.result, c.code_of-in-Ok-Some-Create.ensures, c.create.ensures.ends all is))

pub returns-in-Ok-Some-Create-clause-makes : goal.returns-in-Ok-Some-Create-clause-makes
returns-in-Ok-Some-Create-clause-makes g c =
    λ guid asked all is q. answers_code (wanted all.image.seen) c.create.result _ c.code_of-in-Ok-Some-Create.ensures (c.create.ensures.answers all is (quiet_alone q))

pub returns-in-Ok-None-clause-command : goal.returns-in-Ok-None-clause-command
returns-in-Ok-None-clause-command g c =
    let w = c.in-Ok-None in
    λ command asked. absurd (asks_nothing _ w.field-0 w.ensures _ w.field-0-is asked)

pub returns-in-Ok-None-clause-headline : goal.returns-in-Ok-None-clause-headline
returns-in-Ok-None-clause-headline g c =
    let w = c.in-Ok-None in
    λ action asked. absurd (asks_nothing _ w.field-0 w.ensures _ w.field-0-is asked)

pub returns-in-Ok-None-clause-alike : goal.returns-in-Ok-None-clause-alike
returns-in-Ok-None-clause-alike g c =
    let w = c.in-Ok-None in
    λ action asked. absurd (asks_nothing _ w.field-0 w.ensures _ w.field-0-is asked)

pub returns-in-Ok-None-clause-ends : goal.returns-in-Ok-None-clause-ends
returns-in-Ok-None-clause-ends g c =
    let w = c.in-Ok-None in
    λ action asked. absurd (asks_nothing _ w.field-0 w.ensures _ w.field-0-is asked)

pub returns-in-Ok-None-clause-refused : goal.returns-in-Ok-None-clause-refused
returns-in-Ok-None-clause-refused g c =
    let w = c.in-Ok-None in
    λ action asked. absurd (asks_nothing _ w.field-0 w.ensures _ w.field-0-is asked)

pub returns-in-Ok-None-clause-refuses : goal.returns-in-Ok-None-clause-refuses
returns-in-Ok-None-clause-refuses g c =
    let w = c.in-Ok-None in
    λ action asked. absurd (asks_nothing _ w.field-0 w.ensures _ w.field-0-is asked)

pub returns-in-Ok-None-clause-refusal : goal.returns-in-Ok-None-clause-refusal
returns-in-Ok-None-clause-refusal g c =
    let w = c.in-Ok-None in
    λ action asked. absurd (asks_nothing _ w.field-0 w.ensures _ w.field-0-is asked)

pub returns-in-Ok-None-clause-kept : goal.returns-in-Ok-None-clause-kept
returns-in-Ok-None-clause-kept g c =
    let w = c.in-Ok-None in
    λ action asked. absurd (asks_nothing _ w.field-0 w.ensures _ w.field-0-is asked)

pub returns-in-Ok-None-clause-complete : goal.returns-in-Ok-None-clause-complete
returns-in-Ok-None-clause-complete g c =
    let w = c.in-Ok-None in
    λ action asked. absurd (asks_nothing _ w.field-0 w.ensures _ w.field-0-is asked)

pub returns-in-Ok-None-clause-looks : goal.returns-in-Ok-None-clause-looks
returns-in-Ok-None-clause-looks g c =
    let w = c.in-Ok-None in
    λ action asked. absurd (asks_nothing _ w.field-0 w.ensures _ w.field-0-is asked)

pub returns-in-Ok-None-clause-takes : goal.returns-in-Ok-None-clause-takes
returns-in-Ok-None-clause-takes g c =
    let w = c.in-Ok-None in
    λ command asked. absurd (asks_nothing _ w.field-0 w.ensures _ w.field-0-is asked)

pub returns-in-Ok-None-clause-creates : goal.returns-in-Ok-None-clause-creates
returns-in-Ok-None-clause-creates g c =
    let w = c.in-Ok-None in
    λ guid asked. absurd (asks_nothing _ w.field-0 w.ensures _ w.field-0-is asked)

pub returns-in-Ok-None-clause-created : goal.returns-in-Ok-None-clause-created
returns-in-Ok-None-clause-created g c =
    let w = c.in-Ok-None in
    λ guid asked. absurd (asks_nothing _ w.field-0 w.ensures _ w.field-0-is asked)

pub returns-in-Ok-None-clause-makes : goal.returns-in-Ok-None-clause-makes
returns-in-Ok-None-clause-makes g c =
    let w = c.in-Ok-None in
    λ guid asked. absurd (asks_nothing _ w.field-0 w.ensures _ w.field-0-is asked)

pub returns-in-Err-clause-takes : goal.returns-in-Err-clause-takes
returns-in-Err-clause-takes g c =
    λ command asked. unread_takes command (g.S.Source.input c.args.input.now).left
