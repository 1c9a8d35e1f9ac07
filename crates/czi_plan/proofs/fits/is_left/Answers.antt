use Rattle.std.proofs.Common.{sym, ◌∙◌}
use Rattle.czi_format.specs.Layout.{Place}
use Rattle.czi_num.specs.Span.{span_of}
use Rattle.czi_plan.proofs.Found.{dead_left, left_dead, usable_left}
use Rattle.czi_plan.proofs.fits.is_left.Goals as goal

pub returns-then-is_usable : goal.returns-then-is_usable
returns-then-is_usable c =
    let x = c.args.index.now in
    let m = c.args.space.now in
    let p : Place = record { span = span_of c.args.span.now; walked = c.args.walked } in
    let usable = sym c.is_usable.ensures ∙ c.if-is_usable.true in
    let held = c.lies_held.ensures in (
      (λ t. let both = held.0 t in usable_left x m p c.requires.of_index usable both.0 both.1),
      λ left. held.1 (left.among.0 usable),
    )

pub returns-else-is_usable : goal.returns-else-is_usable
returns-else-is_usable c =
    let x = c.args.index.now in
    let m = c.args.space.now in
    let p : Place = record { span = span_of c.args.span.now; walked = c.args.walked } in
    let dead = sym c.is_usable.ensures ∙ c.if-is_usable.false in
    let clear = c.is_clear.ensures in (
      (λ t. let all = clear.0 t in dead_left x m p dead all.0 all.1 all.2),
      λ left. clear.1 (left_dead x m p dead left),
    )
