-- Writes with zeros before them.
use Rattle.std.proofs.Common.{◌≡◌, inl, ⊎_elim, ℕ, ◌+◌, ◌-◌, ◌<◌, ◌≤◌, max, List, [], ◌∷◌, ◌++◌, length, take, drop, get_or, replicate, refl, sym, ◌∙◌, ap, subst, arith}
use Rattle.std.specs.Prelude.{Option, None, Some, option_map}
use Rattle.std.specs.Option.{ForSome}
use Rattle.std.proofs.lemmas.Option.{same_Some}
use Rattle.std.proofs.Math.Seq.{drop-cons}
use Rattle.std.proofs.Common.{add-one}
use Rattle.std.proofs.lemmas.Bool.{cases_lt, lt-ltb, le-ltb}
use Rattle.std.proofs.lemmas.List.{length-replicate, take-replicate}
use Rattle.czi_rig.specs.Disk.{overwritten}
use Rattle.czi_rig.proofs.Keeps.{overwritten_torn, overwritten_reaches}
use Rattle.czi_links.specs.Record.{Bytes, end_of}
use Rattle.czi_journal.proofs.Slots.{window}
use Rattle.czi_region.specs.declared.block.Piece.{Piece}
use Rattle.czi_region.specs.declared.block.Region.{Region}
use Rattle.czi_region.specs.Pieces.{bytes_of}
use Rattle.czi_vault.specs.Recovered.{View, with_links}
use Rattle.czi_vault.proofs.Lists.{with_links-push}
use Rattle.czi_commit.specs.Filled.{AreFree, LeaveHeader, filled, with_gap, zeros}
use Rattle.czi_plan.specs.Pieces.{last_end, bytes_in}

pub zeros_some : (end place : ℕ) → end < place → zeros end place ≡ record { place = end; bytes = replicate (place - end) 0 } ∷ []
zeros_some end place lt = rw (lt-ltb end place lt)

pub zeros_none : (end place : ℕ) → place ≤ end → zeros end place ≡ []
zeros_none end place le = rw (le-ltb end place le)

-- the zeros of a longer list
pub zeros_taken : (end place most : ℕ) → end < place → place ≤ end + most → zeros end place ≡ record { place = end; bytes = take (place - end) (replicate most 0) } ∷ []
zeros_taken end place most lt near = zeros_some end place lt
    ∙ ap (λ (z : List ℕ). let one : List Bytes = record { place = end; bytes = z } ∷ [] in one) (sym (take-replicate (place - end) most 0 (omega (arith, near))))

pub with_links-append : (xs ys : List Bytes) (image : List ℕ) → with_links (xs ++ ys) image ≡ with_links ys (with_links xs image)
with_links-append [] ys image = refl
with_links-append (x ∷ xs) ys image = with_links-append xs ys (overwritten x.place x.bytes image)

-- a write behind its zeros, and then more
pub with_links-gap : (end : ℕ) (w : Bytes) (ws : List Bytes) (image : List ℕ) → with_links (zeros end w.place ++ (w ∷ ws)) image ≡ with_links ws (with_links (with_gap end w) image)
with_links-gap end w ws image = with_links-append (zeros end w.place) (w ∷ ws) image ∙ ap (with_links ws) (sym (with_links-push (zeros end w.place) w image))

pub free_parts : (view : View) (xs ys : List Bytes) → AreFree view (xs ++ ys) → AreFree view xs × AreFree view ys
free_parts view [] ys f = (tt, f)
free_parts view (x ∷ xs) ys f = let more = free_parts view xs ys f.1 in ((f.0, more.0), more.1)

pub free_joined : (view : View) (xs ys : List Bytes) → AreFree view xs → AreFree view ys → AreFree view (xs ++ ys)
free_joined view [] ys f h = h
free_joined view (x ∷ xs) ys f h = (f.0, free_joined view xs ys f.1 h)

pub length-placed : (at : ℕ) (bytes seen : List ℕ) → at ≤ length seen → length (overwritten at bytes seen) ≡ max (length seen) (at + length bytes)
length-placed at bytes seen in_file =
    let t = overwritten_torn at bytes seen in_file in
    let r = overwritten_reaches at bytes seen in_file in
    omega (arith, t.no_shorter, t.no_longer, r)

pub length-zeros : (end place : ℕ) (image : List ℕ) → length image ≡ end → length (with_links (zeros end place) image) ≡ max end place
length-zeros end place image e = ⊎_elim some none (cases_lt end place)
  where
    some : end < place → length (with_links (zeros end place) image) ≡ max end place
    some lt = ap (λ (ws : List Bytes). length (with_links ws image)) (zeros_some end place lt)
        ∙ omega (arith, length-placed end (replicate (place - end) 0) image (omega (arith, e)), length-replicate (place - end) (let zero : ℕ = 0 in zero), lt, e)

    none : place ≤ end → length (with_links (zeros end place) image) ≡ max end place
    none le = ap (λ (ws : List Bytes). length (with_links ws image)) (zeros_none end place le) ∙ omega (arith, e, le)

pub length-gap : (end : ℕ) (w : Bytes) (image : List ℕ) → length image ≡ end → length (with_links (with_gap end w) image) ≡ max end (end_of w)
length-gap end w image e =
    let z = length-zeros end w.place image e in
    ap length (with_links-push (zeros end w.place) w image) ∙ omega (arith, length-placed w.place w.bytes (with_links (zeros end w.place) image) (omega (arith, z)), z)

pub length-filled : (end : ℕ) (ws : List Bytes) (image : List ℕ) → length image ≡ end → length (with_links (filled end ws) image) ≡ last_end end ws
length-filled end [] image e = e
length-filled end (w ∷ ws) image e = ap length (with_links-gap end w (filled (max end (end_of w)) ws) image)
    ∙ length-filled (max end (end_of w)) ws (with_links (with_gap end w) image) (length-gap end w image e)

pub last_end-least : (end : ℕ) (ws : List Bytes) → end ≤ last_end end ws
last_end-least end [] = omega arith
last_end-least end (w ∷ ws) = omega (arith, last_end-least (max end (end_of w)) ws)

-- no write reaches the places before 112
zeros_front : (end place : ℕ) (image : List ℕ) (k : ℕ) → length image ≡ end → k < end → get_or (with_links (zeros end place) image) k 0 ≡ get_or image k 0
zeros_front end place image k e lt = ⊎_elim
    (λ some. ap (λ (ws : List Bytes). get_or (with_links ws image) k 0) (zeros_some end place some)
    ∙ (overwritten_torn end (replicate (place - end) 0) image (omega (arith, e))).same k (inl lt))
    (λ none. ap (λ (ws : List Bytes). get_or (with_links ws image) k 0) (zeros_none end place none)) (cases_lt end place)

gap_front : (end : ℕ) (w : Bytes) (image : List ℕ) (k : ℕ) → length image ≡ end → k < end → k < w.place → get_or (with_links (with_gap end w) image) k 0 ≡ get_or image k 0
gap_front end w image k e lt before = ap (λ (x : List ℕ). get_or x k 0) (with_links-push (zeros end w.place) w image)
    ∙ (overwritten_torn w.place w.bytes (with_links (zeros end w.place) image) (omega (arith, length-zeros end w.place image e))).same k (inl before)
    ∙ zeros_front end w.place image k e lt

pub filled_front : (end : ℕ) (ws : List Bytes) (image : List ℕ) (k : ℕ) → length image ≡ end → 112 ≤ end → LeaveHeader ws → k < 112 → get_or (with_links (filled end ws) image) k 0 ≡ get_or image k 0
filled_front end [] image k e long high lt = refl
filled_front end (w ∷ ws) image k e long high lt = ap (λ (x : List ℕ). get_or x k 0) (with_links-gap end w (filled (max end (end_of w)) ws) image)
    ∙ filled_front (max end (end_of w)) ws (with_links (with_gap end w) image) k (length-gap end w image e) (omega (arith, long)) high.1 lt
    ∙ gap_front end w image k e (omega (arith, long, lt)) (omega (arith, lt, high.0))

pub guid_filled : (end : ℕ) (ws : List Bytes) (image : List ℕ) → length image ≡ end → 112 ≤ end → LeaveHeader ws → take 16 (drop 64 (with_links (filled end ws) image)) ≡ take 16 (drop 64 image)
guid_filled end ws image e long high = window 64 16 image (with_links (filled end ws) image) (omega (arith, e, long)) (omega (arith, length-filled end ws image e, last_end-least end ws, long))
    (λ k from to. filled_front end ws image k e long high (omega (arith, to)))

-- one more piece
pub next_of : (writes : List (ℕ × Piece)) (i : ℕ) (d : ℕ × Piece) → i < length writes → drop i writes ≡ get_or writes i d ∷ drop (i + 1) writes
next_of writes i d lt = drop-cons writes i d lt ∙ ap (λ (n : ℕ). get_or writes i d ∷ drop n writes) (sym (add-one i))

pub pieces_next : (region : Region) (writes : List (ℕ × Piece)) (i : ℕ) (d : ℕ × Piece) (bytes : List ℕ) → i < length writes → bytes ≡ bytes_of region (get_or writes i d).1
    → bytes_in region (drop i writes) ≡ record { place = (get_or writes i d).0; bytes = bytes } ∷ bytes_in region (drop (i + 1) writes)
pieces_next region writes i d bytes lt is = ap (bytes_in region) (next_of writes i d lt)
    ∙ ap (λ (b : List ℕ). let w : Bytes = record { place = (get_or writes i d).0; bytes = b } in w ∷ bytes_in region (drop (i + 1) writes)) (sym is)

pub free_gap : (view : View) (end : ℕ) (w : Bytes) (ws : List Bytes) → AreFree view (filled end (w ∷ ws)) → AreFree view (with_gap end w) × AreFree view (filled (max end (end_of w)) ws)
free_gap view end w ws f =
    let parts = free_parts view (zeros end w.place) (w ∷ filled (max end (end_of w)) ws) f in
    (free_joined view (zeros end w.place) (w ∷ []) parts.0 (parts.1.0, tt), parts.1.1)

-- a write ends below the last end
pub end_small : (end : ℕ) (w : Bytes) (ws ps : List Bytes) (n : ℕ) → ps ≡ w ∷ ws → last_end end ps ≤ n → end_of w ≤ n
end_small end w ws ps n is small =
    let s : last_end end (w ∷ ws) ≤ n = subst (λ (x : List Bytes). last_end end x ≤ n) is small in
    omega (arith, s, last_end-least (max end (end_of w)) ws)

-- a fact of what is known, after a step
pub mapped_has : (P Q : List ℕ → Type 0) (f : List ℕ → List ℕ) (o p : Option (List ℕ)) → p ≡ option_map f o → ForSome o P → ((x : List ℕ) → P x → Q (f x)) → ForSome p Q
mapped_has P Q f None p e h step x is = cc
mapped_has P Q f (Some a) p e h step x is = subst Q (same_Some (f a) x (sym e ∙ is)) (step a (h a refl))
