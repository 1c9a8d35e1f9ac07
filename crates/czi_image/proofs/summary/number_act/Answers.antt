use Rattle.std.proofs.Common.{ap, sym, ◌∙◌}
use Rattle.czi_machine.specs.Change.{into, mapped, put}
use Rattle.czi_image.specs.Change.{act_of}
use Rattle.czi_image.specs.Summary.{number_of}
use Rattle.czi_image.specs.View.{tile_of}
use Rattle.czi_image.specs.declared.change.Act.{Act}
use Rattle.czi_image.specs.declared.types.Tile.{Tile}
use Rattle.czi_image.proofs.Summed.{mapped-into, mapped-out, mapped-put}
use Rattle.czi_image.proofs.summary.number_act.Goals as goal

pub returns-in-Out-clause-act : goal.returns-in-Out-clause-act
returns-in-Out-clause-act c =
    sym (mapped-out (λ (t : Tile). number_of (tile_of t)) c.in-Out.i) ∙ ap (λ (a : Act Tile). mapped (λ (t : Tile). number_of (tile_of t)) (act_of a)) (sym c.in-Out.is)

pub returns-in-Put-clause-act : goal.returns-in-Put-clause-act
returns-in-Put-clause-act c =
    ap (put c.in-Put.i) c.key_number.ensures ∙ (sym (mapped-put (λ (t : Tile). number_of (tile_of t)) c.in-Put.i c.in-Put.tile)
    ∙ ap (λ (a : Act Tile). mapped (λ (t : Tile). number_of (tile_of t)) (act_of a)) (sym c.in-Put.is))

pub returns-in-Into-clause-act : goal.returns-in-Into-clause-act
returns-in-Into-clause-act c =
    ap (into c.in-Into.i) c.key_number-in-Into.ensures ∙ (sym (mapped-into (λ (t : Tile). number_of (tile_of t)) c.in-Into.i c.in-Into.tile)
    ∙ ap (λ (a : Act Tile). mapped (λ (t : Tile). number_of (tile_of t)) (act_of a)) (sym c.in-Into.is))
