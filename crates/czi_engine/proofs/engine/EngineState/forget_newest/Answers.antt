use Rattle.std.proofs.Common.{◌∙◌, drop, map, ap, sym, subst}
use Rattle.czi_format.specs.Space.{released}
use Rattle.czi_num.specs.Span.{span_of}
use Rattle.czi_space.specs.State.{IsHeld}
use Rattle.czi_undo.specs.Holding.{holds_of}
use Rattle.czi_engine.specs.Standing.{held_by}
use Rattle.czi_engine.proofs.Newest.{held_before_newest, held_own, released_own}
use Rattle.czi_engine.proofs.engine.EngineState.forget_newest.Goals as goal

pub unhold-requires : goal.unhold-requires
unhold-requires c =
    let others = held_by (map holds_of (drop 1 c.args.self.now.edits)) in
    let before = held_before_newest c.args.self.now.edits c.in-Some.newest c.in-Some-holds.span c.in-Some.ensures.newest (sym c.holds.ensures ∙ c.in-Some-holds.is) in
    subst (IsHeld (span_of c.in-Some-holds.span)) (sym (c.requires.held ∙ before)) (held_own (span_of c.in-Some-holds.span) others)

pub returns-in-Some-holds-clause-map : goal.returns-in-Some-holds-clause-map
returns-in-Some-holds-clause-map c =
    let others = held_by (map holds_of (drop 1 c.args.self.now.edits)) in
    let before = held_before_newest c.args.self.now.edits c.in-Some.newest c.in-Some-holds.span c.in-Some.ensures.newest (sym c.holds.ensures ∙ c.in-Some-holds.is) in
    record {
      extents = c.unhold.ensures.map.extents;
      held = c.unhold.ensures.map.held ∙ (ap (released (span_of c.in-Some-holds.span)) (c.requires.held ∙ before) ∙ (released_own (span_of c.in-Some-holds.span) others ∙ ap (λ is. held_by (map holds_of is)) (sym c.in-Some.ensures.others)));
      length = c.unhold.ensures.map.length;
    }
