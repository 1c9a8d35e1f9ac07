-- Holes as spans and as ranges, and what agrees with bytes outside the holes of a state: it has the state as well.
use Rattle.std.proofs.Common.{◌≡◌, ℕ, ◌+◌, ◌-◌, ◌≤◌, ◌<◌, List, map, length, get_or, sym, ◌∙◌, arith, [], ◌∷◌, ap, inl, inr, ⊎_elim}
use Rattle.std.specs.List.{AllByRecursion}
use Rattle.std.proofs.lemmas.Bool.{cases_lt}
use Rattle.czi_format.specs.Live.{Live, segments}
use Rattle.czi_format.specs.Same.{SameExtent, SameLive}
use Rattle.czi_format.specs.Segment.{Segment, extent}
use Rattle.czi_format.specs.Span.{end_of, Span}
use Rattle.czi_format.proofs.Local.{reaches_local, document_local}
use Rattle.czi_rig.specs.Disk.{Covers, SameOutside}
use Rattle.czi_machine.specs.Cover.{between, cover}
use Rattle.czi_machine.specs.Holes.{holes, SameOutside as Agrees, interior}
use Rattle.czi_machine.specs.Laws.{Lies, LiesInImage}
use Rattle.czi_machine.specs.Sound.{IsDisjointState}
use Rattle.czi_machine.specs.State.{State, held}
use Rattle.czi_machine.proofs.Clear.{HeaderAt, header_at_front}
use Rattle.czi_machine.proofs.Cover.{between_in, side, low, here, high}
use Rattle.czi_machine.proofs.LiveStand.{StandsLive, live_stands}
use Rattle.czi_machine.proofs.Outside.{same_bytes, places_among, same_outside_holes}
use Rattle.czi_machine.proofs.Restated.{stands_inside}
use Rattle.czi_machine.proofs.Steady.{on_all}
use Rattle.czi_machine.proofs.Placing.{without_fewer}
use Rattle.czi_machine.proofs.Lying.{all_spans}
use Rattle.czi_engine.specs.Holes.{holes_of, ranges_of, AreHigh}
use Rattle.czi_engine.specs.Stands.{StandsOn}

pub covered : (spans : List Span) (k : ℕ) → Covers (ranges_of spans) k → 1 ≤ cover spans k
covered [] k none = absurd none
covered (s ∷ spans) k c = ⊎_elim (λ h. omega (arith, between_in s.at (end_of s) k h.0 h.1)) (λ more. omega (arith, covered spans k more)) c

pub covers : (spans : List Span) (k : ℕ) → 1 ≤ cover spans k → Covers (ranges_of spans) k
covers [] k none = absurd (omega arith)
covers (s ∷ spans) k some = elim (side s.at (end_of s) k) [
  | low h e ↦ inr (covers spans k (omega (arith, some, e)))
  | here h l e ↦ inl (h, l)
  | high h l e ↦ inr (covers spans k (omega (arith, some, e)))
]

interior_fewer : (s : Span) (k : ℕ) → between (interior s).at (end_of (interior s)) k ≤ between s.at (end_of s) k
interior_fewer s k = elim (side (interior s).at (end_of (interior s)) k) [
  | low h e ↦ omega (arith, e)
  | high h l e ↦ omega (arith, e)
  | here h l e ↦ omega (arith, e, between_in s.at (end_of s) k (omega (arith, h)) (omega (arith, l, h)))
]

pub interiors_fewer : (spans : List Span) (k : ℕ) → cover (map interior spans) k ≤ cover spans k
interiors_fewer [] k = omega arith
interiors_fewer (s ∷ spans) k = omega (arith, interior_fewer s k, interiors_fewer spans k)

-- holes lie in DELETED extents
pub holes_fewer : (held deleted : List Span) (k : ℕ) → cover (holes held deleted) k ≤ cover deleted k
holes_fewer held deleted k = omega (arith, without_fewer held (map interior deleted) k, interiors_fewer deleted k)

-- what is live is outside them
pub live_outside : (image : List ℕ) (live : Live) (s : State) (k : ℕ) → LiesInImage image live s → IsDisjointState s → 1 ≤ cover (map extent (segments live)) k → Covers (holes_of s) k → ⊥
live_outside image live s k lies is there hole =
    omega (
      arith,
      covered (holes (held s) s.layout.deleted) k hole,
      holes_fewer (held s) s.layout.deleted k,
      is.once k,
      ap (λ z. cover z k) (all_spans s.layout live lies.extents),
      there,
    )

pub front_outside : (image : List ℕ) (live : Live) (s : State) (k : ℕ) → LiesInImage image live s → IsDisjointState s → k < 32 + live.header.segment.allocated → Covers (holes_of s) k → ⊥
front_outside image live s k lies is front hole =
    let H : Segment = live.header.segment in
    let at : HeaderAt image H = header_at_front image live lies.reaches in
    live_outside image live s k lies is (omega (arith, between_in H.at (end_of (extent H)) k (omega (arith, at.place)) (omega (arith, at.place, front)))) hole

pub holes_high : (start bytes : List ℕ) (live : Live) (s : State) → StandsOn start bytes live s → AreHigh s
holes_high start bytes live s on k hole = elim (cases_lt k 112) [
  | inr h ↦ h
  | inl h ↦ let at : HeaderAt bytes live.header.segment = header_at_front bytes live on.lies.reaches in
      absurd (front_outside bytes live s k on.lies on.tidy (omega (arith, h, at.large)) hole)
]

-- The same bytes outside the holes, in a list that is no shorter.
pub record Has (a b : List ℕ) (s : State) : Type 0 where
  pub long : length a ≤ length b
  pub each : (k : ℕ) → k < length a → (Covers (holes_of s) k → ⊥) → get_or b k 0 ≡ get_or a k 0

-- the same live segments
pub same_live : (a b : List ℕ) (live : Live) (s : State) → LiesInImage a live s → IsDisjointState s → Has a b s → SameLive a b live
same_live a b live s lies is has =
    let H : Segment = live.header.segment in
    let at : HeaderAt a H = header_at_front a live lies.reaches in
    let front : (k : ℕ) → k < 32 + H.allocated → get_or a k 0 ≡ get_or b k 0 = λ k small. sym (has.each k (omega (arith, small, at.inside)) (front_outside a live s k lies is small)) in
    let extents : AllByRecursion (SameExtent a b) (segments live) =
    on_all (StandsLive a) (λ (x : Segment). (p : ℕ) → between x.at (end_of (extent x)) p ≤ cover (map extent (segments live)) p) (SameExtent a b)
    (λ x stands among. let inside = stands_inside a x.at x stands.stands in
    same_bytes a b x.at (32 + x.allocated) (omega (arith, inside.1)) (omega (arith, inside.1, has.long))
    (λ k from to. sym (has.each k (omega (arith, to, inside.1)) (live_outside a live s k lies is (omega (arith, among k, between_in x.at (end_of (extent x)) k from (omega (arith, to)))))))) (segments live) (live_stands a live lies.reaches) (places_among (segments live)) in
    record {
      header = same_bytes a b 0 100 (omega (arith, at.large, at.inside)) (omega (arith, at.large, at.inside, has.long)) (λ k from to. front k (omega (arith, to, at.large)));
      behind = same_bytes a b 104 (32 + H.allocated - 104) (omega (arith, at.large, at.inside)) (omega (arith, at.large, at.inside, has.long)) (λ k from to. front k (omega (arith, to, at.large)));
      reached = extents.1;
    }

pub loosely_outside : (a b : List ℕ) (live : Live) (s : State) → LiesInImage a live s → IsDisjointState s → SameOutside (Covers (holes_of s)) a b → LiesInImage b live s
loosely_outside a b live s lies is same =
    let live_same : SameLive a b live = same_live a b live s lies is (record { long = omega (arith, same.len); each = λ k small out. same.each k out }) in
    record {
      reaches = reaches_local a b live live_same lies.reaches;
      document = lies.document ∙ document_local a b live live_same;
      extents = lies.extents;
      length = lies.length ∙ sym same.len;
    }

-- the same, as spans say it
agrees : (a b : List ℕ) (s : State) → SameOutside (Covers (holes_of s)) a b → Agrees a b (holes (held s) s.layout.deleted)
agrees a b s same = record {
  long = sym same.len;
  same = λ p none. sym (same.each p (λ hole. omega (arith, covered (holes (held s) s.layout.deleted) p hole, none)));
}

steady_outside : (a b : List ℕ) (live : Live) (s : State) → Lies a live s → LiesInImage b live s → SameOutside (Covers (holes_of s)) a b → Lies b live s
steady_outside a b live s lies loosely same =
    let all = same_outside_holes a b s.layout (held s) s.document lies.steady lies.layout (agrees a b s same) (live, lies.reaches, lies.document) in
    record { reaches = loosely.reaches; document = loosely.document; steady = all.2; layout = all.1 }

pub stands_outside : (start bytes other : List ℕ) (live : Live) (s : State) → StandsOn start bytes live s → SameOutside (Covers (holes_of s)) bytes other → StandsOn start other live s
stands_outside start bytes other live s on same =
    let at : HeaderAt bytes live.header.segment = header_at_front bytes live on.lies.reaches in
    let loosely : LiesInImage other live s = loosely_outside bytes other live s on.lies on.tidy same in
    record {
      lies = loosely;
      tidy = on.tidy;
      settled = λ k from to. same.each k (front_outside bytes live s k on.lies on.tidy (omega (arith, to, at.large))) ∙ on.settled k from to;
      steady = λ was. let both = on.steady was in (steady_outside bytes other live s both.0 loosely same, both.1);
    }
