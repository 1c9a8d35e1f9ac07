-- The law of commands over any image: its document, its live extents and its length. And the state of an image is tidy.
use Rattle.std.proofs.Common.{◌≡◌, ℕ, ◌+◌, ◌-◌, ◌≤◌, ◌<◌, ◌^◌, List, [], ◌∷◌, ◌++◌, map, length, true, not, Some, refl, ap, sym, ◌∙◌, arith, subst, inl, inr, bytes_eq, Bool, ◌⊎◌}
use Rattle.std.specs.List.{AllByRecursion, filter, list_any}
use Rattle.std.proofs.lemmas.Bool.{cases_lt, cases_Bool}
use Rattle.std.proofs.lemmas.List.{append-nil, map-append}
use Rattle.czi_format.specs.Bytes.{bytes_at}
use Rattle.czi_format.specs.Layout.{Place, Layout, HasLayout}
use Rattle.czi_format.specs.Live.{Live, segments}
use Rattle.czi_format.specs.Segment.{Segment, segment_at, extent, header_bytes, deleted_id}
use Rattle.czi_format.specs.Shows.{Reaches}
use Rattle.czi_format.specs.Space.{same_span}
use Rattle.czi_format.specs.Span.{Span, end_of, is_aligned, IsWhole, LiesInOne}
use Rattle.czi_format.specs.Walk.{stands_at, is_name}
use Rattle.czi_format.proofs.Written.{header_again}
use Rattle.czi_machine.specs.Cover.{between, cover, Chained}
use Rattle.czi_machine.specs.Edit.{after}
use Rattle.czi_machine.specs.Laws.{Leads, Lies, LiesInImage}
use Rattle.czi_machine.specs.Places.{can_be_used, live_places}
use Rattle.czi_machine.specs.Sound.{live_spans, IsGapless, IsGaplessState, dead_held, IsDisjointState}
use Rattle.czi_machine.specs.State.{State, held, spans_of, not_among, held_by, items_of}
use Rattle.czi_machine.specs.Tiled.{IsGaplessImage, here, tiled_layout}
use Rattle.czi_machine.specs.LiveChange.{LiveChange, changed_live, effect_of, LiesAt, SpansAt}
use Rattle.czi_machine.specs.Writes.{deleted_segment, IsLong, AreOnce, PutsDeleted, dead, marked, Writes, head}
use Rattle.czi_machine.specs.Written.{Piece, IsClear, Wrote}
use Rattle.czi_machine.proofs.Clear.{whole_long, HeaderAt, header_at_front, segment_clear, stands_still, turned_cover, heads_within, nothing_written}
use Rattle.czi_machine.proofs.Cover.{between_in, between_high, between_low, cover-append}
use Rattle.czi_machine.proofs.Exact.{sound_tidy, usable_places, none_pass}
use Rattle.czi_machine.proofs.Placing.{covers_own, usable_or_apart, in_one_covers, held_covered}
use Rattle.czi_machine.proofs.Keeps.{whole_aligned}
use Rattle.czi_machine.proofs.Leaving.{same_is, among_covers, among_themselves, cover-split}
use Rattle.czi_machine.proofs.Led.{Led, led}
use Rattle.czi_machine.proofs.LiveStand.{StandsLive, live_stands}
use Rattle.czi_machine.proofs.Lying.{Tiling, tiling, all_spans, lies_spans, lies_loosely}
use Rattle.czi_machine.proofs.Outside.{places_among}
use Rattle.czi_machine.proofs.Over.{put_bytes, clear_bytes}
use Rattle.czi_machine.proofs.Steady.{on_all}
use Rattle.czi_machine.proofs.Tiled.{All-both, All-map, All-weaken, between_one, parts, tiled, cover-all_segments, chained_rising, map-All, All-filter}
use Rattle.czi_machine.proofs.NewSegment.{header_length}
use Rattle.czi_machine.proofs.Shown.{reaches_turned, document_turned}

-- extents of segments have room for a header
extents_long : (xs : List Segment) → AllByRecursion IsLong (map extent xs)
extents_long [] = tt
extents_long (x ∷ xs) = (omega arith, extents_long xs)

filtered_spans : (P : Span → Type 0) (q : Place → Bool) (ps : List Place) → AllByRecursion P (spans_of ps) → AllByRecursion P (spans_of (filter q ps))
filtered_spans P q [] all = tt
filtered_spans P q (p ∷ ps) all = elim (cases_Bool (q p)) [ inl e ↦ rw e (all.0, filtered_spans P q ps all.1) | inr e ↦ rw e (filtered_spans P q ps all.1) ]

-- what is live afterwards, and the marked extents, have no place twice
pub once_after : (s s' : State) (live : Live) (t : LiveChange) (image : List ℕ) → LiesInImage image live s → Led s s' → SpansAt s'.layout (changed_live t live) → AreOnce live t (marked s.layout s'.layout)
once_after s s' live t image lies l at =
    let dead_long : AllByRecursion IsLong (dead s.layout s'.layout) =
    filtered_spans IsLong (λ (p : Place). not (can_be_used p)) (not_among (spans_of (live_places s'.layout)) (live_places s.layout))
    (filtered_spans IsLong _ (live_places s.layout) (subst (AllByRecursion IsLong) (sym (all_spans s.layout live lies.extents)) (extents_long (segments live))).1) in
    record {
      once = λ p. omega (arith, l.marks p, ap (λ z. cover z p) (all_spans s'.layout (changed_live t live) at), cover-append s'.layout.deleted (dead s.layout s'.layout) p);
      long = All-both IsLong s'.layout.deleted (dead s.layout s'.layout) (whole_long s'.layout.deleted l.tidy.deleted_whole) dead_long;
    }

pub any_commanded : (image other : List ℕ) (s s' : State) (live : Live) (t : LiveChange) (pieces : List Piece) → LiesInImage image live s → IsDisjointState s → Leads s s'
    → SpansAt s'.layout (changed_live t live) → s'.document ≡ after (effect_of other t) s.document
    → Writes image other t live s.layout s'.layout pieces → LiesInImage other (changed_live t live) s'
any_commanded image other s s' live t pieces lies is leads at document_is w =
    let l : Led s s' = led s s' is leads in
    let marks : List Span = marked s.layout s'.layout in
    let longer : length image ≤ length other = omega (arith, l.longer, lies.length, w.long) in
    let once : AreOnce live t marks = once_after s s' live t image lies l at in
    record {
      reaches = reaches_turned image other live t marks pieces lies.reaches w.around.inside once w.wrote longer w.new;
      document = document_is ∙ (ap (after (effect_of other t)) lies.document ∙ sym (document_turned image other live t marks pieces lies.reaches w.around.inside once w.wrote longer));
      extents = at;
      length = sym w.long;
    }

-- a held span lies in one DELETED extent, or has no place in any
held_in_or_apart : (s : State) → IsDisjointState s → AllByRecursion (λ (h : Span). LiesInOne h s.layout.deleted ⊎ ((p : ℕ) → 1 ≤ between h.at (end_of h) p → cover s.layout.deleted p ≡ 0)) (held s)
held_in_or_apart s is = usable_or_apart (λ h. LiesInOne h s.layout.deleted) (held_by (items_of s.layout) s.formers) s.layout.deleted (λ p. cover (dead_held s) p) is.held_in (λ p. omega arith) (λ p. omega (arith, is.once p))

-- spans that have no place from some place on end there or before
pub ends_before : (hs : List Span) (n : ℕ) → AllByRecursion (λ (h : Span). 0 < h.len) hs → ((p : ℕ) → n ≤ p → cover hs p ≡ 0) → AllByRecursion (λ (h : Span). end_of h ≤ n) hs
ends_before [] n some none = tt
ends_before (h ∷ hs) n some none = (
  elim (cases_lt n (end_of h)) [
    | inr k ↦ k
    | inl k ↦ let last : ℕ = end_of h - 1 in absurd (omega (arith, none last (omega (arith, k)), between_in h.at (end_of h) last (omega (arith, some.0)) (omega (arith, some.0))))
  ],
  ends_before hs n some.1 (λ p k. omega (arith, none p k)),
)

-- two of some spans that have a place in common are one
same_of : (a b : Span) (xs : List Span) (q : ℕ) → list_any (same_span a) xs ≡ true → list_any (same_span b) xs ≡ true → cover xs q ≤ 1 → 1 ≤ between a.at (end_of a) q → 1 ≤ between b.at (end_of b) q → a ≡ b
same_of a b [] q ea eb few ha hb = cc (ea)
same_of a b (x ∷ xs) q ea eb few ha hb = elim (cases_Bool (same_span a x)) [
  | inl fa ↦ let sa : a ≡ x = same_is a x fa in
      elim (cases_Bool (same_span b x)) [
        | inl fb ↦ sa ∙ sym (same_is b x fb)
        | inr fb ↦ absurd (omega (arith, few, hb, among_covers b xs q (rw fb at eb), ha, ap (λ (z : Span). between z.at (end_of z) q) sa))
      ]
  | inr fa ↦ elim (cases_Bool (same_span b x)) [
    | inl fb ↦ let sb : b ≡ x = same_is b x fb in absurd (omega (arith, few, ha, among_covers a xs q (rw fa at ea), hb, ap (λ (z : Span). between z.at (end_of z) q) sb))
    | inr fb ↦ same_of a b xs q (rw fa at ea) (rw fb at eb) (omega (arith, few)) ha hb
  ]
]

-- the headers of DELETED extents have no place of a span in one of them past its first 32 bytes
heads_clear : (h : Span) (es : List Span) (q : ℕ) → LiesInOne h es → AllByRecursion IsWhole es → cover es q ≤ 1 → h.at + 32 ≤ q → q < end_of h → cover (map head es) q ≡ 0
heads_clear h [] q none whole few low high = absurd none
heads_clear h (e ∷ es) q (inl i) whole few low high =
    omega (arith, few, heads_within es q (whole_long es whole.1), between_in e.at (end_of e) q (omega (arith, i.0, low)) (omega (arith, i.1, high)), between_high e.at (e.at + 32) q (omega (arith, i.0, low)))
heads_clear h (e ∷ es) q (inr i) whole few low high =
    omega (
      arith,
      few,
      heads_clear h es q i whole.1 (omega (arith, few)) low high,
      in_one_covers h es q i,
      between_in h.at (end_of h) q (omega (arith, low)) high,
      heads_within (e ∷ []) q (whole_long (e ∷ []) (whole.0, tt)),
    )

-- headers of other live segments that are dead have no place of one past its first 32 bytes
dead_heads_clear : (h : Span) (live : List Span) (es : List Span) (q : ℕ) → list_any (same_span h) live ≡ true → AllByRecursion (λ e. list_any (same_span e) live ≡ true) es → AllByRecursion IsLong es → cover live q ≤ 1
    → h.at + 32 ≤ q → q < end_of h → cover (map head es) q ≡ 0
dead_heads_clear h live [] q own all long few low high = refl
dead_heads_clear h live (e ∷ es) q own all long few low high =
    let rest = dead_heads_clear h live es q own all.1 long.1 few low high in
    elim (cases_lt q e.at) [
      | inl a ↦ omega (arith, rest, between_low e.at (e.at + 32) q a)
      | inr a ↦ elim (cases_lt q (e.at + 32)) [
        | inr b ↦ omega (arith, rest, between_high e.at (e.at + 32) q b)
        | inl b ↦ absurd (let one : h ≡ e = same_of h e live q own all.0 few (omega (arith, between_in h.at (end_of h) q (omega (arith, low)) high)) (omega (arith, between_in e.at (end_of e) q a (omega (arith, b, long.0)))) in
            omega (arith, b, low, ap (λ (z : Span). z.at) one))
      ]
    ]

-- the dead ones are live ones of before
dead_live : (l l' : Layout) → AllByRecursion (λ e. list_any (same_span e) (spans_of (live_places l)) ≡ true) (dead l l')
dead_live l l' =
    filtered_spans (λ e. list_any (same_span e) (spans_of (live_places l)) ≡ true) (λ (p : Place). not (can_be_used p)) (not_among (spans_of (live_places l')) (live_places l))
    (filtered_spans (λ e. list_any (same_span e) (spans_of (live_places l)) ≡ true) _ (live_places l) (among_themselves (spans_of (live_places l))))

dead_fewer : (l l' : Layout) (p : ℕ) → cover (dead l l') p ≤ cover (spans_of (live_places l)) p
dead_fewer l l' p = omega (
  arith,
  cover-split can_be_used (not_among (spans_of (live_places l')) (live_places l)) p,
  cover-split (λ (x : Place). list_any (same_span x.span) (spans_of (live_places l'))) (live_places l) p,
)

nothing_there : (at n m : ℕ) (a b : List ℕ) → n ≡ 0 → bytes_at a at n ≡ bytes_at b at n
unfolding bytes_at
nothing_there at n m a b none = rw none

pub any_held_kept : (image other : List ℕ) (s s' : State) (live : Live) (t : LiveChange) (pieces : List Piece) → LiesInImage image live s → IsDisjointState s → Leads s s' → SpansAt s'.layout (changed_live t live)
    → Writes image other t live s.layout s'.layout pieces
    → AllByRecursion (λ (h : Span). bytes_at other (h.at + 32) (h.len - 32) ≡ bytes_at image (h.at + 32) (h.len - 32)) (held s')
any_held_kept image other s s' live t pieces lies is leads at w =
    let l : Led s s' = led s s' is leads in
    let D : List Span = s'.layout.deleted in
    let G : List Span = dead s.layout s'.layout in
    let L : List Span = spans_of (live_places s.layout) in
    let H : Segment = live.header.segment in
    let front : HeaderAt image H = header_at_front image live lies.reaches in
    let spans : live_spans s'.layout ≡ map extent (segments (changed_live t live)) = all_spans s'.layout (changed_live t live) at in
    let longer : length image ≤ length other = omega (arith, l.longer, lies.length, w.long) in
    let dead_long : AllByRecursion IsLong G =
    filtered_spans IsLong (λ (p : Place). not (can_be_used p)) (not_among (spans_of (live_places s'.layout)) (live_places s.layout))
    (filtered_spans IsLong _ (live_places s.layout) (subst (AllByRecursion IsLong) (sym (all_spans s.layout live lies.extents)) (extents_long (segments live))).1) in
    let ps : List Place = held_by (items_of s'.layout) s'.formers in
    let inside : AllByRecursion (λ (h : Span). end_of h ≤ length image) (held s') = ends_before (held s') (length image) (map-All (λ (q : Place). q.span) (λ (h : Span). 0 < h.len) ps l.tidy.held.some) (λ p k. l.held_before p (omega (arith, k, lies.length))) in
    let own : AllByRecursion (λ (h : Span). (p : ℕ) → between h.at (end_of h) p ≤ cover (held s') p) (held s') = covers_own (held s') in
    let parts : AllByRecursion (λ (h : Span). LiesInOne h D ⊎ ((p : ℕ) → 1 ≤ between h.at (end_of h) p → cover D p ≡ 0)) (held s') = held_in_or_apart s' l.tidy in
    on_all (λ (h : Span). (end_of h ≤ length image) × ((p : ℕ) → between h.at (end_of h) p ≤ cover (held s') p))
    (λ (h : Span). ((list_any (same_span h) L ≡ true) ⊎ ((p : ℕ) → between h.at (end_of h) p ≤ cover (held s) p)) × (LiesInOne h D ⊎ ((p : ℕ) → 1 ≤ between h.at (end_of h) p → cover D p ≡ 0)))
    (λ (h : Span). bytes_at other (h.at + 32) (h.len - 32) ≡ bytes_at image (h.at + 32) (h.len - 32))
    (λ h b i. elim (cases_lt 32 h.len) [
      | inr short ↦ nothing_there (h.at + 32) (h.len - 32) 0 other image (omega (arith, short))
      | inl long ↦
          let free : (q : ℕ) → h.at ≤ q → q < end_of h → 112 ≤ q = λ q low high. elim (cases_lt q 112) [
            | inl k ↦ absurd (omega (
              arith,
              b.1 q,
              between_in h.at (end_of h) q low high,
              held_covered s' q l.tidy,
              l.tidy.once q,
              ap (λ z. cover z q) spans,
              turned_cover live t q,
              between_in H.at (end_of (extent H)) q (omega (arith, front.place)) (omega (arith, front.place, front.large, k)),
            ))
            | inr k ↦ k
          ] in
          let deleted_heads : (q : ℕ) → h.at + 32 ≤ q → q < end_of h → cover (map head D) q ≡ 0 = λ q low high. elim i.1 [
            | inl one ↦ heads_clear h D q one l.tidy.deleted_whole (omega (arith, l.tidy.once q)) low high
            | inr apart ↦ omega (arith, heads_within D q (whole_long D l.tidy.deleted_whole), apart q (omega (arith, between_in h.at (end_of h) q (omega (arith, low)) high)))
          ] in
          let dead_heads : (q : ℕ) → h.at + 32 ≤ q → q < end_of h → cover (map head G) q ≡ 0 = λ q low high. elim i.0 [
            | inl was ↦ dead_heads_clear h L G q was (dead_live s.layout s'.layout) dead_long (omega (arith, is.once q)) low high
            | inr held' ↦ omega (
              arith,
              heads_within G q dead_long,
              dead_fewer s.layout s'.layout q,
              held' q,
              between_in h.at (end_of h) q (omega (arith, low)) high,
              held_covered s q is,
              is.once q,
            )
          ] in
          let clear : IsClear pieces (h.at + 32) (h.at + 32 + (h.len - 32)) = λ q low high.
          nothing_written live.header t (marked s.layout s'.layout) pieces q w.around.inside (omega (
            arith,
            between_high 84 100 q (omega (arith, free q (omega (arith, low)) (omega (arith, high, long)))),
            between_high 104 112 q (free q (omega (arith, low)) (omega (arith, high, long))),
            b.1 q,
            between_in h.at (end_of h) q (omega (arith, low)) (omega (arith, high, long)),
            held_covered s' q l.tidy,
            l.tidy.once q,
            ap (λ z. cover z q) spans,
            turned_cover live t q,
            ap (λ z. cover z q) (map-append head D G),
            cover-append (map head D) (map head G) q,
            deleted_heads q low (omega (arith, high, long)),
            dead_heads q low (omega (arith, high, long)),
          )) in
          sym (clear_bytes image other pieces (h.at + 32) (h.len - 32) w.wrote clear (omega (arith, b.0, long)) (omega (arith, b.0, long, longer)) (inr (omega (arith, free h.at (omega arith) (omega (arith, long))))))
    ]) (held s')
    (on_all (λ (h : Span). end_of h ≤ length image) (λ (h : Span). (p : ℕ) → between h.at (end_of h) p ≤ cover (held s') p) _ (λ h a b. (a, b)) (held s') inside own)
    (on_all (λ (h : Span). (list_any (same_span h) L ≡ true) ⊎ ((p : ℕ) → between h.at (end_of h) p ≤ cover (held s) p)) (λ (h : Span). LiesInOne h D ⊎ ((p : ℕ) → 1 ≤ between h.at (end_of h) p → cover D p ≡ 0)) _ (λ h a b. (a, b)) (held s') l.held_from parts)

-- The law of commands over bytes: an image into which a command was written shows the document of the state to which the
-- command leads, has that state's layout, and is steady. And the bytes of held spans are kept.

deleted_named : is_name deleted_id ≡ true
unfolding deleted_id
deleted_named = refl

deleted_long : length deleted_id ≡ 16
unfolding deleted_id
deleted_long = refl

deleted_itself : bytes_eq deleted_id deleted_id ≡ true
unfolding deleted_id
deleted_itself = refl

-- A DELETED segment stands where an extent is.
record StandsDeleted (other : List ℕ) (e : Span) : Type 0 where
  segment : Segment
  is : extent segment ≡ e
  stands : stands_at other segment.at ≡ Some segment
  named : bytes_eq segment.id deleted_id ≡ true

-- a new one
new_deleted : (other : List ℕ) (e : Span) → IsWhole e → end_of e ≤ length other → length other < 2 ^ 63 → bytes_at other e.at 32 ≡ header_bytes (deleted_segment e) → StandsDeleted other e
unfolding stands_at
new_deleted other e whole inside small header =
    let s : Segment = deleted_segment e in
    let long : 32 ≤ e.len = omega (arith, whole.len, whole.some) in
    let here : segment_at other s.at ≡ Some s = header_again other s deleted_long (omega (arith, inside, small)) (omega arith) (omega (arith, inside, long)) header in
    let back : 32 + (e.len - 32) ≡ e.len = omega (arith, long) in
    record {
      segment = s;
      is = λ i. record { at = e.at; len = back i };
      stands = rw (here, deleted_named);
      named = deleted_itself;
    }

-- an old one, whose header isn't written
old_deleted : (image other : List ℕ) (ds : List Segment) (pieces : List Piece) (e : Span) → Wrote image other pieces → length image ≤ length other → 101 ≤ e.at
    → AllByRecursion (λ (s : Segment). (stands_at image s.at ≡ Some s) × (bytes_eq s.id deleted_id ≡ true)) ds → list_any (same_span e) (map extent ds) ≡ true → IsClear pieces e.at (e.at + 32) → StandsDeleted other e
old_deleted image other [] pieces e wrote longer off stand there clear = cc
old_deleted image other (d ∷ ds) pieces e wrote longer off stand there clear = elim (cases_Bool (same_span e (extent d))) [
  | inl f ↦ let same : e ≡ extent d = same_is e (extent d) f in
      let at : e.at ≡ d.at = ap (λ (z : Span). z.at) same in
      record {
        segment = d;
        is = sym same;
        stands = stands_still image other pieces d wrote longer (omega (arith, off, at)) stand.0.0 (subst (λ z. IsClear pieces z (z + 32)) at clear);
        named = stand.0.1;
      }
  | inr f ↦ old_deleted image other ds pieces e wrote longer off stand.1 (rw f at there) clear
]

-- the segments of all DELETED extents afterwards
record Deleted (other : List ℕ) (es : List Span) : Type 0 where
  segments : List Segment
  are : map extent segments ≡ es
  stand : AllByRecursion (λ (s : Segment). stands_at other s.at ≡ Some s) segments
  named : AllByRecursion (λ (s : Segment). bytes_eq s.id deleted_id ≡ true) segments

all_deleted : (other : List ℕ) (es : List Span) → AllByRecursion (StandsDeleted other) es → Deleted other es
all_deleted other [] all = record { segments = []; are = refl; stand = tt; named = tt }
all_deleted other (e ∷ es) all =
    let rest = all_deleted other es all.1 in
    record { segments = all.0.segment ∷ rest.segments; are = λ i. all.0.is i ∷ rest.are i; stand = (all.0.stands, rest.stand); named = (all.0.named, rest.named) }

-- where the layout fills the image, all that was live can be used again
nothing_dead : (l l' : Layout) → IsGapless l → dead l l' ≡ []
nothing_dead l l' is = ap spans_of (none_pass can_be_used (not_among (spans_of (live_places l')) (live_places l)) (All-filter _ _ (live_places l) (usable_places l is)))

-- What is known of an image into which a command was written, and of the state to which the command leads.
pub record Written (image other : List ℕ) (live : Live) (s s' : State) (t : LiveChange) (pieces : List Piece) : Type 0 where
  pub tiles : Tiling image live s
  pub sound : IsGaplessState s'
  pub total : (p : ℕ) → cover (map extent (segments (changed_live t live))) p + (cover s'.layout.deleted p + cover (map extent tiles.unknown) p) ≡ between 0 s'.layout.length p
  pub marks : marked s.layout s'.layout ≡ s'.layout.deleted
  pub once : AreOnce live t (marked s.layout s'.layout)
  pub header : s'.layout.header ≡ here live.header.segment
  pub spans : SpansAt s'.layout (changed_live t live)
  pub unknown : s'.layout.unknown ≡ map extent tiles.unknown
  pub longer : length image ≤ s'.layout.length

pub was_written : (image other : List ℕ) (s s' : State) (live : Live) (t : LiveChange) (pieces : List Piece) → Lies image live s → IsGaplessState s → Leads s s' → LiesAt s'.layout (changed_live t live)
    → Written image other live s s' t pieces
was_written image other s s' live t pieces lies is leads at =
    let l : Led s s' = led s s' (sound_tidy s is) leads in
    let sound : IsGaplessState s' = l.sound is in
    let tl : Tiling image live s = tiling image live s lies in
    let exact : IsGapless s'.layout = sound.layout in
    let header : s'.layout.header ≡ here live.header.segment = ap (λ (z : Layout). z.header) l.layout ∙ ap (λ (z : Layout). z.header) tl.layout in
    let unknown : s'.layout.unknown ≡ map extent tl.unknown = ap (λ (z : Layout). z.unknown) l.layout ∙ ap (λ (z : Layout). z.unknown) tl.layout in
    let at' : SpansAt s'.layout (changed_live t live) = lies_spans s'.layout (changed_live t live) header at in
    let spans : live_spans s'.layout ≡ map extent (segments (changed_live t live)) = all_spans s'.layout (changed_live t live) at' in
    let total : (p : ℕ) → cover (map extent (segments (changed_live t live))) p + (cover s'.layout.deleted p + cover (map extent tl.unknown) p) ≡ between 0 s'.layout.length p =
    λ p. omega (arith, exact.once p, ap (λ z. cover z p) spans, ap (λ z. cover z p) unknown) in
    let marks : marked s.layout s'.layout ≡ s'.layout.deleted = ap (λ z. s'.layout.deleted ++ z) (nothing_dead s.layout s'.layout is.layout) ∙ append-nil s'.layout.deleted in
    record {
      tiles = tl;
      sound = sound;
      total = total;
      marks = marks;
      once = record { once = λ p. omega (arith, total p, between_one 0 s'.layout.length p, ap (λ z. cover z p) marks); long = subst (AllByRecursion IsLong) (sym marks) (whole_long s'.layout.deleted exact.deleted_whole) };
      header = header;
      spans = at';
      unknown = unknown;
      longer = omega (arith, l.longer, ap (λ (z : Layout). z.length) tl.layout);
    }

-- The theorem.
pub commanded : (image other : List ℕ) (s s' : State) (live : Live) (t : LiveChange) (pieces : List Piece) → Lies image live s → IsGaplessState s → Leads s s'
    → LiesAt s'.layout (changed_live t live) → s'.document ≡ after (effect_of other t) s.document
    → Writes image other t live s.layout s'.layout pieces → Lies other (changed_live t live) s'
commanded image other s s' live t pieces lies is leads at document_is w =
    let k : Written image other live s s' t pieces = was_written image other s s' live t pieces lies is leads at in
    let tl : Tiling image live s = k.tiles in
    let live' : Live = changed_live t live in
    let D : List Span = s'.layout.deleted in
    let ds : List Segment = tl.deleted in
    let us : List Segment = tl.unknown in
    let H : Segment = live.header.segment in
    let exact : IsGapless s'.layout = k.sound.layout in
    let longer : length image ≤ length other = omega (arith, k.longer, w.long) in
    let front : HeaderAt image H = header_at_front image live lies.reaches in
    let loosely : LiesInImage other live' s' = any_commanded image other s s' live t pieces (lies_loosely image live s lies) (sound_tidy s is) leads k.spans document_is w in
    let reaches : Reaches other live' = loosely.reaches in
    let stood = parts (λ (x : Segment). stands_at image x.at ≡ Some x) live ds us tl.tiled.stand in
    let inside : AllByRecursion (λ (e : Span). end_of e ≤ length other) D = ends_before D (length other) (All-weaken IsWhole (λ (e : Span). 0 < e.len) (λ e h. h.some) D exact.deleted_whole) (λ p h. omega (arith, k.total p, between_high 0 s'.layout.length p (omega (arith, h, w.long)))) in
    let far : AllByRecursion (λ (e : Span). 112 ≤ e.at) D =
    on_all IsWhole (λ (e : Span). (p : ℕ) → between e.at (end_of e) p ≤ cover D p) (λ (e : Span). 112 ≤ e.at)
    (λ e whole m. elim (cases_lt e.at 112) [
      | inl h ↦ absurd (omega (
        arith,
        m e.at,
        between_in e.at (end_of e) e.at (omega arith) (omega (arith, whole.some)),
        k.once.once e.at,
        ap (λ z. cover z e.at) k.marks,
        turned_cover live t e.at,
        between_in H.at (end_of (extent H)) e.at (omega (arith, front.place)) (omega (arith, front.place, front.large, h)),
      ))
      | inr h ↦ h
    ]) D exact.deleted_whole (covers_own D) in
    let ds_stand : AllByRecursion (λ (x : Segment). (stands_at image x.at ≡ Some x) × (bytes_eq x.id deleted_id ≡ true)) ds =
    on_all (λ (x : Segment). stands_at image x.at ≡ Some x) (λ (x : Segment). bytes_eq x.id deleted_id ≡ true) _ (λ x a b. (a, b)) ds stood.deleted tl.tiled.free in
    let before_is : s.layout.deleted ≡ map extent ds = ap (λ (z : Layout). z.deleted) tl.layout in
    let stand_deleted : AllByRecursion (StandsDeleted other) D =
    on_all (PutsDeleted s.layout.deleted pieces) (λ (e : Span). IsWhole e × (end_of e ≤ length other) × (112 ≤ e.at)) (StandsDeleted other)
    (λ e puts b. elim puts [
      | inl old ↦ old_deleted image other ds pieces e w.wrote longer (omega (arith, b.2)) ds_stand (ap (list_any (same_span e)) (sym before_is) ∙ old.0) old.1
      | inr new ↦ new_deleted other e b.0 b.1 (omega (arith, w.small, w.long))
          (subst (λ n. bytes_at other e.at n ≡ header_bytes (deleted_segment e)) (header_length (deleted_segment e) deleted_long)
          (put_bytes image other pieces e.at (header_bytes (deleted_segment e)) w.wrote new (omega (arith, header_length (deleted_segment e) deleted_long, b.0.len, b.0.some, b.1)) (inr (omega (arith, b.2)))))
    ]) D w.around.deleted
    (on_all IsWhole (λ (e : Span). (end_of e ≤ length other) × (112 ≤ e.at)) _ (λ e a b. (a, b.0, b.1)) D exact.deleted_whole (on_all (λ (e : Span). end_of e ≤ length other) (λ (e : Span). 112 ≤ e.at) _ (λ e a b. (a, b)) D inside far)) in
    let d : Deleted other D = all_deleted other D stand_deleted in
    let us_stand : AllByRecursion (λ (x : Segment). stands_at other x.at ≡ Some x) us =
    on_all (λ (x : Segment). stands_at image x.at ≡ Some x) (λ (x : Segment). (p : ℕ) → between x.at (end_of (extent x)) p ≤ cover (map extent us) p) (λ (x : Segment). stands_at other x.at ≡ Some x)
    (λ x there m. let c = segment_clear image live t (marked s.layout s'.layout) pieces x front w.around.inside k.once (λ p. omega (arith, m p, ap (λ z. cover z p) k.marks, k.total p, turned_cover live t p, between_one 0 s'.layout.length p)) in
    stands_still image other pieces x w.wrote longer (omega (arith, c.1)) there (λ q low high. c.0 q low (omega (arith, high)))) us stood.unknown (places_among us) in
    let lives : AllByRecursion (StandsLive other) (segments live') = live_stands other live' reaches in
    let spans : live_spans s'.layout ≡ map extent (segments live') = all_spans s'.layout live' k.spans in
    let aligned : (xs : List Segment) → AllByRecursion IsWhole (map extent xs) → AllByRecursion (λ (x : Segment). is_aligned (extent x) ≡ true) xs =
    λ xs all. All-weaken (λ (x : Segment). IsWhole (extent x)) _ (λ x e. whole_aligned (extent x) e) xs (All-map extent IsWhole xs all) in
    let ds' : List Segment = d.segments in
    let is' : IsGaplessImage other live' ds' us = record {
      stand = All-both _ (segments live') (ds' ++ us) (All-weaken (StandsLive other) _ (λ x h. h.stands) (segments live') lives) (All-both _ ds' us d.stand us_stand);
      aligned = All-both _ (segments live') (ds' ++ us) (aligned (segments live') (subst (AllByRecursion IsWhole) spans exact.live_whole))
          (All-both _ ds' us (aligned ds' (subst (AllByRecursion IsWhole) (sym d.are) exact.deleted_whole)) (aligned us (subst (AllByRecursion IsWhole) k.unknown exact.unknown_whole)));
      once = λ p. omega (arith, cover-all_segments live' ds' us p, ap (λ z. cover z p) d.are, k.total p, ap (λ n. between 0 n p) w.long);
      free = d.named;
      needed = All-weaken (StandsLive other) _ (λ x h. h.needed) (segments live') lives;
      foreign = tl.tiled.foreign;
      deleted_rise = chained_rising 0 ds' (subst (Chained 0) (sym d.are) exact.rising);
      unknown_rise = tl.tiled.unknown_rise;
    } in
    let result = tiled other live' ds' us reaches is' in
    let same_layout : tiled_layout (length other) live' ds' us ≡ s'.layout = λ i. record {
      length = w.long i;
      header = sym k.header i;
      directory = sym at.directory i;
      attdir = sym at.attdir i;
      metadata = sym at.metadata i;
      subblocks = sym at.subblocks i;
      attachments = sym at.attachments i;
      walk_end = (w.long ∙ sym exact.walk_end) i;
      deleted = d.are i;
      unknown = sym k.unknown i;
    } in
    record {
      reaches = reaches;
      document = loosely.document;
      steady = result.1;
      layout = subst (HasLayout other) same_layout result.0;
    }

-- the bytes of held spans past their first 32
pub held_kept : (image other : List ℕ) (s s' : State) (live : Live) (t : LiveChange) (pieces : List Piece) → Lies image live s → IsGaplessState s → Leads s s'
    → LiesAt s'.layout (changed_live t live) → Writes image other t live s.layout s'.layout pieces
    → AllByRecursion (λ (h : Span). bytes_at other (h.at + 32) (h.len - 32) ≡ bytes_at image (h.at + 32) (h.len - 32)) (held s')
held_kept image other s s' live t pieces lies is leads at w =
    any_held_kept image other s s' live t pieces (lies_loosely image live s lies) (sound_tidy s is) leads (was_written image other s s' live t pieces lies is leads at).spans w
