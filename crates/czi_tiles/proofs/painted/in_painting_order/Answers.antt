use Rattle.std.proofs.Common.{◌≡◌, ◌∙◌, ℕ, ℤ, List, [], ◌∷◌, map, Option, refl, ap}
use Rattle.czi_image.specs.declared.types.Tile.{Tile}
use Rattle.czi_format.specs.Painting.{chosen, turn}
use Rattle.czi_tiles.specs.declared.turn.Turn.{Turn}
use Rattle.czi_tiles.specs.Chosen.{tile_dims, turn_of}
use Rattle.czi_tiles.proofs.Turns.{ordered}
use Rattle.czi_tiles.proofs.painted.in_painting_order.Goals as goal

places : (turns : List Turn) → map (λ (t : Turn). t.place) turns ≡ map (λ (s : Option ℤ × ℕ). s.1) (map turn_of turns)
places [] = refl
places (t ∷ ts) = ap (λ l. t.place ∷ l) (places ts)

chosen_places : (ts : List (ℕ × Tile)) → map (λ (s : Option ℤ × ℕ). s.1) (map (turn tile_dims) ts) ≡ map (λ (t : ℕ × Tile). t.0) ts
chosen_places [] = refl
chosen_places (t ∷ ts) = ap (λ l. t.0 ∷ l) (chosen_places ts)

pub returns : goal.returns
returns c = λ q tiles is.
    c.in_ok-places.ensures
    ∙ (ap (map (λ (t : Turn). t.place)) c.deref.ensures.value
    ∙ (places c.sort_unstable.new.self.items
    ∙ (ap (map (λ (s : Option ℤ × ℕ). s.1)) (ordered q tiles c.args.turns.items c.sort_unstable.new.self.items is c.sort_unstable.ensures.permutation c.sort_unstable.ensures.sorted)
    ∙ chosen_places (chosen tile_dims q tiles))))
