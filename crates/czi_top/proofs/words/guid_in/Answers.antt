use Rattle.std.proofs.Common.{◌≡◌, refl, arith, ℕ, ◌≤◌, List, [], ◌∷◌, length, Bor, map, None}
use Rattle.czi_top.specs.Words.{guid_in}
use Rattle.czi_top.proofs.words.guid_in.Goals as goal

-- there are two fields or more
several : (fields : List (Bor (List ℕ))) → 2 ≤ length fields → None ≡ guid_in (map (λ s. s.now) fields)
several [] two = absurd (omega (arith, two))
several (field ∷ []) two = absurd (omega (arith, two))
several (field ∷ more ∷ fields) two = refl

pub returns-in_default-2 : goal.returns-in_default-2
returns-in_default-2 c = several c.args.fields.now c.in_default.len_at_least
