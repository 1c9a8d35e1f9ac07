use Rattle.std.proofs.Common.{◌∙◌, map, refl, ap, arith}
use Rattle.std.proofs.lemmas.List.{take_all}
use Rattle.czi_doc.specs.QueryView.{query_of}
use Rattle.czi_tiles.specs.Chosen.{chosen_turns, turn_of}
use Rattle.czi_tiles.proofs.Passed.{one_more}
use Rattle.czi_tiles.proofs.plain.all_turns.Goals as goal

pub loop-at-preserved : goal.loop-at-preserved
loop-at-preserved c = one_more (query_of c.args.query.now) c.args.tiles.now c.loop-at.at c.loop-at.at (map turn_of c.loop-at.turns.items) (map turn_of c.push_chosen.new.turns.items) c.loop-at-test.true refl c.loop-at.invariant c.in_ok-push_chosen.ensures

pub returns : goal.returns
returns c = c.loop-at.invariant ∙ ap (chosen_turns (query_of c.args.query.now) 0) (take_all c.loop-at.at c.args.tiles.now (omega (arith, c.loop-at-test.false)))
