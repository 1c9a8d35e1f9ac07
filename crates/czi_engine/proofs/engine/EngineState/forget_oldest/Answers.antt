use Rattle.std.proofs.Common.{◌∙◌, map, refl, ap, sym, subst}
use Rattle.czi_format.specs.Space.{released}
use Rattle.czi_num.specs.Span.{span_of}
use Rattle.czi_space.specs.State.{IsHeld}
use Rattle.czi_undo.specs.Holding.{holds_of}
use Rattle.czi_engine.specs.Standing.{held_by}
use Rattle.czi_engine.proofs.Oldest.{held_last, none_last, none_off, oldest_off, released_last, spans_before}
use Rattle.czi_engine.proofs.engine.EngineState.forget_oldest.Goals as goal

pub unhold-requires : goal.unhold-requires
unhold-requires c =
    let spans = spans_before c.args.self.now.edits c.over.new.self c.in-Some.oldest _ c.in-Some.ensures.oldest (sym c.in-Some-holds.is ∙ c.holds.ensures) in
    subst (IsHeld (span_of c.in-Some-holds.span)) (sym (c.requires.held ∙ ap held_by spans)) (held_last (map holds_of c.over.new.self) c.in-Some-holds.span)

pub returns-in-Some-holds-clause-edits : goal.returns-in-Some-holds-clause-edits
returns-in-Some-holds-clause-edits c = oldest_off c.args.self.now.edits c.over.new.self c.in-Some.oldest c.requires.ones c.requires.few c.in-Some.ensures.exactly c.in-Some.ensures.oldest

pub returns-in-Some-holds-clause-map : goal.returns-in-Some-holds-clause-map
returns-in-Some-holds-clause-map c =
    let spans = spans_before c.args.self.now.edits c.over.new.self c.in-Some.oldest _ c.in-Some.ensures.oldest (sym c.in-Some-holds.is ∙ c.holds.ensures) in
    record {
      extents = c.unhold.ensures.map.extents;
      held = c.unhold.ensures.map.held ∙ (ap (released (span_of c.in-Some-holds.span)) (c.requires.held ∙ ap held_by spans) ∙ released_last (map holds_of c.over.new.self) c.in-Some-holds.span);
      length = c.unhold.ensures.map.length;
    }

pub returns-in-Some-clause-edits : goal.returns-in-Some-clause-edits
returns-in-Some-clause-edits c = oldest_off c.args.self.now.edits c.over.new.self c.in-Some.oldest c.requires.ones c.requires.few c.in-Some.ensures.exactly c.in-Some.ensures.oldest

pub returns-in-Some-clause-map : goal.returns-in-Some-clause-map
returns-in-Some-clause-map c =
    let spans = spans_before c.args.self.now.edits c.over.new.self c.in-Some.oldest _ c.in-Some.ensures.oldest c.in_default-holds.ensures in
    record { extents = refl; held = c.requires.held ∙ (ap held_by spans ∙ none_last (map holds_of c.over.new.self)); length = refl }

pub returns-clause-edits : goal.returns-clause-edits
returns-clause-edits c = none_off c.args.self.now.edits c.over.new.self c.requires.ones c.in_default.ensures.exactly c.requires.few c.in_default.ensures.oldest
