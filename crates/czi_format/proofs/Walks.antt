-- Each byte list has one walk.
use Rattle.std.proofs.Common.{◌≡◌, ℕ, zero, suc, ◌+◌, ◌≤◌, List, [], ◌∷◌, length, Option, Some, None, refl, ap, sym, ◌∙◌, arith, inl, inr, subst}
use Rattle.czi_format.specs.Segment.{Segment, extent}
use Rattle.czi_format.specs.Span.{end_of, round32}
use Rattle.czi_format.specs.Walk.{stands_at, next_from, WalksFrom, IsWalk}
use Rattle.czi_format.specs.Document.{Document}
use Rattle.czi_format.specs.Shows.{Shows}
use Rattle.czi_format.specs.Layout.{Layout, layout, HasLayout}
use Rattle.czi_format.proofs.Unique.{reaches_unique}
use Rattle.czi_format.proofs.Readings.{bind_some, given_some, option_or_some, Stands, segment_stands}

-- two walks from one place are the same
pub walks_unique : (image : List ℕ) (place : ℕ) (xs ys : List Segment) → WalksFrom image place xs → WalksFrom image place ys → xs ≡ ys
walks_unique image place [] [] p q = refl
walks_unique image place [] (y ∷ ys) p q = cc (p, q.0)
walks_unique image place (x ∷ xs) [] p q = cc (p.0, q)
walks_unique image place (x ∷ xs) (y ∷ ys) p q =
    let same : x ≡ y = cc (p.0, q.0) in
    let moved : WalksFrom image (end_of (extent x)) ys = subst (λ (s : Segment). WalksFrom image (end_of (extent s)) ys) (sym same) q.1 in
    let rest : xs ≡ ys = walks_unique image (end_of (extent x)) xs ys p.1 moved in
    cc

stands_inside : (image : List ℕ) (at : ℕ) (s : Segment) → stands_at image at ≡ Some s → (s.at ≡ at) × (at + 32 + s.allocated ≤ length image)
unfolding stands_at
stands_inside image at s e =
    let b = bind_some _ _ s e in
    let g = given_some _ _ s b.2 in
    let stands : Stands image at s = segment_stands image at s (b.1 ∙ ap Some g.1) in
    (stands.place, stands.inside)

-- the walk goes on past the place, inside the image
pub next_inside : (image : List ℕ) (place : ℕ) (s : Segment) → next_from image place ≡ Some s → (place + 32 ≤ end_of (extent s)) × (end_of (extent s) ≤ length image)
next_inside image place s e =
    elim (option_or_some (stands_at image place) (stands_at image (round32 place)) s e) [
      | inl h ↦ (let b = stands_inside image place s h in omega (arith, b.0, b.1), let b = stands_inside image place s h in omega (arith, b.0, b.1))
      | inr h ↦ (let b = stands_inside image (round32 place) s h in omega (arith, b.0, b.1), let b = stands_inside image (round32 place) s h in omega (arith, b.0, b.1))
    ]

abbrev Walks : List ℕ → ℕ → Type 0
Walks image place = (walk : List Segment) × WalksFrom image place walk

on_next : (image : List ℕ) (place : ℕ) → ((s : Segment) → next_from image place ≡ Some s → Walks image (end_of (extent s)))
    → (o : Option Segment) → next_from image place ≡ o → Walks image place
on_next image place further None e = ([], e)
on_next image place further (Some s) e = (s ∷ (further s e).0, (e, (further s e).1))

-- a place has a walk: so many bytes are left
walks_within : (n : ℕ) (image : List ℕ) (place : ℕ) → length image ≤ place + n → Walks image place
walks_within zero image place left =
    on_next image place (λ s e. let b = next_inside image place s e in absurd (omega (arith, b.0, b.1))) (next_from image place) refl
walks_within (suc n) image place left =
    on_next image place (λ s e. let b = next_inside image place s e in walks_within n image (end_of (extent s)) (omega (arith, b.0))) (next_from image place) refl

-- each byte list has a walk
pub walk_exists : (image : List ℕ) → (walk : List Segment) × IsWalk image walk
walk_exists image = walks_within (length image) image 0 (omega arith)

pub layout_exists : (image : List ℕ) (d : Document) → Shows image d → (l : Layout) × HasLayout image l
layout_exists image d (live, reaches, is) =
    let walk = walk_exists image in
    (layout (length image) live walk.0, (live, walk.0, reaches, walk.1, refl))

pub layout_unique : (image : List ℕ) (l m : Layout) → HasLayout image l → HasLayout image m → l ≡ m
layout_unique image l m (a, v, p, pw, l_is) (b, w, q, qw, m_is) =
    let live : a ≡ b = reaches_unique image a b p q in
    let walk : v ≡ w = walks_unique image 0 v w pw qw in
    cc
