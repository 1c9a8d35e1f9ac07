-- Links that are pushed one behind another.
use Rattle.std.proofs.Common.{◌≡◌, ℕ, ◌≤◌, List, [], ◌∷◌, ◌++◌, length, refl}
use Rattle.std.proofs.lemmas.List.Elements.{All-nil, All-push}
use Rattle.czi_links.specs.Record.{Bytes, AreRising, EndWithin, end_of, next_place}

-- one more behind rising links
pub rising_more : (from : ℕ) (ls : List Bytes) (l : Bytes) → AreRising from ls → next_place from ls ≤ l.place → 1 ≤ length l.bytes → AreRising from (ls ++ l ∷ [])
rising_more from [] l rising begins some = (begins, some, tt)
rising_more from (k ∷ ls) l rising begins some = (rising.0, rising.1, rising_more (end_of k) ls l rising.2 begins some)

-- where the next may begin
pub next_place-more : (from : ℕ) (ls : List Bytes) (l : Bytes) → next_place from (ls ++ l ∷ []) ≡ end_of l
next_place-more from [] l = refl
next_place-more from (k ∷ ls) l = next_place-more (end_of k) ls l

-- all of them end within a length
pub ends_none : (limit : ℕ) → EndWithin limit []
ends_none limit = All-nil (λ (l : Bytes). end_of l ≤ limit)

pub ends_more : (limit : ℕ) (ls : List Bytes) (l : Bytes) → EndWithin limit ls → end_of l ≤ limit → EndWithin limit (ls ++ l ∷ [])
ends_more limit ls l ends end = All-push (λ (l : Bytes). end_of l ≤ limit) ls l ends end
