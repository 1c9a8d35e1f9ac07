-- Where a command writes nothing: into segments that it keeps, and into the file header but for its pointers.
use Rattle.std.proofs.Common.{◌≡◌, ℕ, ◌+◌, ◌≤◌, ◌<◌, pos, List, [], ◌∷◌, ◌++◌, map, length, true, Option, Some, None, option_map, option_to_list, refl, ap, sym, ◌∙◌, arith, inl, inr}
use Rattle.std.specs.List.{AllByRecursion}
use Rattle.std.proofs.lemmas.Bool.{cases_lt}
use Rattle.std.proofs.lemmas.List.{map-append}
use Rattle.czi_format.specs.Bytes.{bytes_at}
use Rattle.czi_format.specs.Live.{Live, FileHeader, Directory, Tile, AttItem, MetaItem, segments, reached}
use Rattle.czi_format.specs.Same.{SameExtent}
use Rattle.czi_format.specs.Segment.{Segment, segment_at, extent, file_id}
use Rattle.czi_format.specs.Shows.{Reaches}
use Rattle.czi_format.specs.Span.{Span, end_of, IsWhole}
use Rattle.czi_format.specs.Walk.{stands_at, is_name}
use Rattle.czi_format.proofs.Local.{All-append, header_is}
use Rattle.czi_format.proofs.Readings.{bind_some, given_some, is_sound, segment_stands}
use Rattle.czi_machine.specs.Change.{Act, changed, kept, brought, Setting, same, to, set, set_new, set_kept}
use Rattle.czi_machine.specs.Cover.{between, cover}
use Rattle.czi_machine.specs.LiveChange.{LiveChange, changed_live, new_segments, kept_segments}
use Rattle.czi_machine.specs.Writes.{head, IsLong, AreOnce, writable, WritesIn}
use Rattle.czi_machine.specs.Written.{Piece, byte_of, IsClear, Wrote}
use Rattle.czi_machine.proofs.Changing.{All-kept, cover-changed}
use Rattle.czi_machine.proofs.Cover.{between_in, between_low, between_high, cover-append}
use Rattle.czi_machine.proofs.LiveStand.{StandsLive, live_stands}
use Rattle.czi_machine.proofs.Outside.{places_among}
use Rattle.czi_machine.proofs.Over.{clear_bytes, no_byte}
use Rattle.czi_machine.proofs.Restated.{stands_inside, stands_same_header}
use Rattle.czi_machine.proofs.Steady.{on_all}
use Rattle.czi_machine.proofs.Tiled.{All-weaken, All-both, All-map, map-All, between_one}

pub map-map : {X Y Z : Type 0} (f : X → Y) (g : Y → Z) (xs : List X) → map g (map f xs) ≡ map (λ x. g (f x)) xs
map-map f g [] = refl
map-map f g (x ∷ xs) = ap (λ l. g (f x) ∷ l) (map-map f g xs)

cover_five : (a b c d e : List Segment) (p : ℕ)
    → cover (map extent (a ++ (b ++ (c ++ (d ++ e))))) p ≡ cover (map extent a) p + (cover (map extent b) p + (cover (map extent c) p + (cover (map extent d) p + cover (map extent e) p)))
cover_five a b c d e p =
    let two : (x y : List Segment) → cover (map extent (x ++ y)) p ≡ cover (map extent x) p + cover (map extent y) p = λ x y. ap (λ l. cover l p) (map-append extent x y) ∙ cover-append (map extent x) (map extent y) p in
    omega (arith, two a (b ++ (c ++ (d ++ e))), two b (c ++ (d ++ e)), two c (d ++ e), two d e)

cover_list : {X : Type 0} (f : X → Segment) (c : List (Act X)) (xs : List X) (p : ℕ)
    → cover (map extent (map f (changed c xs))) p ≡ cover (map extent (map f (kept c xs))) p + cover (map extent (map f (brought c))) p
cover_list {X = X} f c xs p =
    let at : (ys : List X) → cover (map extent (map f ys)) p ≡ cover (map (λ x. extent (f x)) ys) p = λ ys. ap (λ l. cover l p) (map-map f extent ys) in
    omega (arith, at (changed c xs), at (kept c xs), at (brought c), cover-changed (λ x. extent (f x)) c xs p)

cover_set : {X : Type 0} (f : X → Segment) (c : Setting X) (old : Option X) (p : ℕ)
    → cover (map extent (option_to_list (option_map f (set c old)))) p ≡ cover (map extent (option_to_list (option_map f (set_kept c old)))) p + cover (map extent (option_to_list (option_map f (set_new c)))) p
cover_set f same None p = refl
cover_set f c old p = omega arith

-- what is live afterwards: the file header, what is kept, and what is new
pub turned_cover : (live : Live) (t : LiveChange) (p : ℕ) → cover (map extent (segments (changed_live t live))) p
    ≡ between live.header.segment.at (end_of (extent live.header.segment)) p + (cover (map extent (kept_segments t live)) p + cover (map extent (new_segments t)) p)
turned_cover live t p =
    let d : Directory → Segment = λ x. x.segment in
    let i : Tile → Segment = λ x. x.segment in
    let a : AttItem → Segment = λ x. x.segment in
    let m : MetaItem → Segment = λ x. x.segment in
    omega (
      arith,
      cover_five (option_to_list (option_map d (set t.directory live.directory))) (map i (changed t.tiles live.tiles)) (option_to_list (option_map d (set t.attdir live.attdir))) (map a (changed t.attachments live.attachments)) (option_to_list (option_map m (set t.metadata live.metadata))) p,
      cover_five (option_to_list (option_map d (set_kept t.directory live.directory))) (map i (kept t.tiles live.tiles)) (option_to_list (option_map d (set_kept t.attdir live.attdir))) (map a (kept t.attachments live.attachments)) (option_to_list (option_map m (set_kept t.metadata live.metadata))) p,
      cover_five (option_to_list (option_map d (set_new t.directory))) (map i (brought t.tiles)) (option_to_list (option_map d (set_new t.attdir))) (map a (brought t.attachments)) (option_to_list (option_map m (set_new t.metadata))) p,
      cover_set d t.directory live.directory p,
      cover_set d t.attdir live.attdir p,
      cover_set m t.metadata live.metadata p,
      cover_list i t.tiles live.tiles p,
      cover_list a t.attachments live.attachments p,
    )

-- what holds of each live segment holds of each that is kept
All-set : {X : Type 0} (P : Segment → Type 0) (f : X → Segment) (c : Setting X) (old : Option X) → AllByRecursion P (option_to_list (option_map f old)) → AllByRecursion P (option_to_list (option_map f (set_kept c old)))
All-set P f same old all = all
All-set P f (to new) old all = tt

All-listed : {X : Type 0} (P : Segment → Type 0) (f : X → Segment) (c : List (Act X)) (xs : List X) → AllByRecursion P (map f xs) → AllByRecursion P (map f (kept c xs))
All-listed P f c xs all = map-All f P (kept c xs) (All-kept (λ x. P (f x)) c xs (All-map f P xs all))

pub kept_have : (P : Segment → Type 0) (live : Live) (t : LiveChange) → AllByRecursion P (reached live) → AllByRecursion P (kept_segments t live)
kept_have P live t all =
    let d : Directory → Segment = λ x. x.segment in
    let i : Tile → Segment = λ x. x.segment in
    let a : AttItem → Segment = λ x. x.segment in
    let m : MetaItem → Segment = λ x. x.segment in
    let one = All-append P (option_to_list (option_map d live.directory)) _ all in
    let two = All-append P (map i live.tiles) _ one.1 in
    let th = All-append P (option_to_list (option_map d live.attdir)) _ two.1 in
    let four = All-append P (map a live.attachments) (option_to_list (option_map m live.metadata)) th.1 in
    All-both P (option_to_list (option_map d (set_kept t.directory live.directory))) _ (All-set P d t.directory live.directory one.0)
    (All-both P (map i (kept t.tiles live.tiles)) _ (All-listed P i t.tiles live.tiles two.0)
    (All-both P (option_to_list (option_map d (set_kept t.attdir live.attdir))) _ (All-set P d t.attdir live.attdir th.0)
    (All-both P (map a (kept t.attachments live.attachments)) _ (All-listed P a t.attachments live.attachments four.0) (All-set P m t.metadata live.metadata four.1))))

pub heads_within : (es : List Span) (p : ℕ) → AllByRecursion IsLong es → cover (map head es) p ≤ cover es p
heads_within [] p all = omega arith
heads_within (e ∷ es) p all =
    let rest = heads_within es p all.1 in
    elim (cases_lt p e.at) [
      | inl h ↦ omega (arith, rest, between_low e.at (e.at + 32) p h)
      | inr h ↦ elim (cases_lt p (e.at + 32)) [
        | inl k ↦ omega (arith, rest, between_in e.at (end_of e) p h (omega (arith, k, all.0)), between_one e.at (e.at + 32) p)
        | inr k ↦ omega (arith, rest, between_high e.at (e.at + 32) p k)
      ]
    ]

-- where is written: pointers, what is new, or a DELETED extent
writable_cover : (t : LiveChange) (marks : List Span) (p : ℕ) → AllByRecursion IsLong marks
    → cover (writable t marks) p ≤ between 84 100 p + (between 104 112 p + (cover (map extent (new_segments t)) p + cover marks p))
writable_cover t marks p whole = omega (arith, cover-append (map extent (new_segments t)) (map head marks) p, heads_within marks p whole)

-- a place that isn't writable isn't written
pub nothing_written : (h : FileHeader) (t : LiveChange) (marks : List Span) (pieces : List Piece) (q : ℕ) → WritesIn h t marks pieces
    → between 84 100 q + (between 104 112 q + (cover (map extent (new_segments t)) q + cover (map head marks) q)) ≡ 0 → byte_of pieces q ≡ None
nothing_written h t marks pieces q around none = no_byte (byte_of pieces q) (λ b e. omega (arith, around.within q b e, cover-append (map extent (new_segments t)) (map head marks) q, none))

-- a place that is none of these isn't written
pub not_written : (h : FileHeader) (t : LiveChange) (marks : List Span) (pieces : List Piece) (q : ℕ) → WritesIn h t marks pieces → AllByRecursion IsLong marks
    → between 84 100 q + (between 104 112 q + (cover (map extent (new_segments t)) q + cover marks q)) ≡ 0 → byte_of pieces q ≡ None
not_written h t marks pieces q around whole none = no_byte (byte_of pieces q) (λ b e. omega (arith, around.within q b e, writable_cover t marks q whole, none))

-- The file header stands at 0, with at least 80 bytes of data.
pub record HeaderAt (image : List ℕ) (h : Segment) : Type 0 where
  pub place : h.at ≡ 0
  pub large : 80 ≤ h.allocated
  pub inside : 32 + h.allocated ≤ length image

pub header_at_front : (image : List ℕ) (live : Live) → Reaches image live → HeaderAt image live.header.segment
header_at_front image live reaches =
    let H : Segment = live.header.segment in
    let head = header_is image live.header reaches.header in
    let sound = is_sound image file_id (pos 0) H head.0 in
    let first : 0 ≡ H.at = cc (sound.place) in
    let stands = segment_stands image H.at H sound.here in
    record { place = sym first; large = head.1; inside = omega (arith, stands.inside, first) }

-- the file header is written at its pointers alone
pub header_clear : (image : List ℕ) (live : Live) (t : LiveChange) (marks : List Span) (pieces : List Piece) (from end : ℕ) → HeaderAt image live.header.segment → WritesIn live.header t marks pieces → AreOnce live t marks
    → end ≤ 112 → ((q : ℕ) → from ≤ q → q < end → between 84 100 q + between 104 112 q ≡ 0) → IsClear pieces from end
header_clear image live t marks pieces from end at around once fits out q low high =
    not_written live.header t marks pieces q around once.long (omega (
      arith,
      out q low high,
      once.once q,
      turned_cover live t q,
      between_in live.header.segment.at (end_of (extent live.header.segment)) q (omega (arith, at.place)) (omega (arith, at.place, at.large, high, fits)),
    ))

-- a segment that has no place with what is new, with DELETED extents or with the file header isn't written
pub segment_clear : (image : List ℕ) (live : Live) (t : LiveChange) (marks : List Span) (pieces : List Piece) (s : Segment) → HeaderAt image live.header.segment → WritesIn live.header t marks pieces → AreOnce live t marks
    → ((p : ℕ) → between s.at (end_of (extent s)) p + (between live.header.segment.at (end_of (extent live.header.segment)) p + (cover (map extent (new_segments t)) p + cover marks p)) ≤ 1)
    → IsClear pieces s.at (end_of (extent s)) × (112 ≤ s.at)
segment_clear image live t marks pieces s at around once apart =
    let H : Segment = live.header.segment in
    let low : 112 ≤ s.at = elim (cases_lt s.at 112) [
      | inl h ↦ absurd (omega (
        arith,
        apart s.at,
        between_in s.at (end_of (extent s)) s.at (omega arith) (omega arith),
        between_in H.at (end_of (extent H)) s.at (omega (arith, at.place)) (omega (arith, at.place, at.large, h)),
      ))
      | inr h ↦ h
    ] in (
      λ q l h. not_written live.header t marks pieces q around once.long
          (omega (arith, apart q, between_in s.at (end_of (extent s)) q l h, between_high 84 100 q (omega (arith, low, l)), between_high 104 112 q (omega (arith, low, l)))),
      low,
    )

-- so it is as before
pub segment_kept : (image other : List ℕ) (live : Live) (t : LiveChange) (marks : List Span) (pieces : List Piece) (s : Segment) → HeaderAt image live.header.segment → WritesIn live.header t marks pieces → AreOnce live t marks
    → Wrote image other pieces → length image ≤ length other → end_of (extent s) ≤ length image
    → ((p : ℕ) → between s.at (end_of (extent s)) p + (between live.header.segment.at (end_of (extent live.header.segment)) p + (cover (map extent (new_segments t)) p + cover marks p)) ≤ 1)
    → SameExtent image other s
segment_kept image other live t marks pieces s at around once wrote longer inside apart =
    let c = segment_clear image live t marks pieces s at around once apart in
    clear_bytes image other pieces s.at (32 + s.allocated) wrote c.0 inside (omega (arith, inside, longer)) (inr (omega (arith, c.1)))

pub all_kept : (image other : List ℕ) (live : Live) (t : LiveChange) (marks : List Span) (pieces : List Piece) → Reaches image live → WritesIn live.header t marks pieces → AreOnce live t marks
    → Wrote image other pieces → length image ≤ length other → AllByRecursion (SameExtent image other) (kept_segments t live)
all_kept image other live t marks pieces reaches around once wrote longer =
    let at = header_at_front image live reaches in
    let K : List Segment = kept_segments t live in
    let stood : AllByRecursion (StandsLive image) K = kept_have (StandsLive image) live t (live_stands image live reaches).1 in
    on_all (StandsLive image) (λ (s : Segment). (p : ℕ) → between s.at (end_of (extent s)) p ≤ cover (map extent K) p) (SameExtent image other)
    (λ s stands m. let inside = stands_inside image s.at s stands.stands in
    segment_kept image other live t marks pieces s at around once wrote longer (omega (arith, inside.1)) (λ p. omega (arith, m p, once.once p, turned_cover live t p))) K stood (places_among K)

-- a segment whose header isn't written still stands
pub stands_still : (image other : List ℕ) (pieces : List Piece) (s : Segment) → Wrote image other pieces → length image ≤ length other → 101 ≤ s.at → stands_at image s.at ≡ Some s → IsClear pieces s.at (s.at + 32)
    → stands_at other s.at ≡ Some s
unfolding stands_at
stands_still image other pieces s wrote longer off there clear =
    let inside = stands_inside image s.at s there in
    let b = bind_some (segment_at image s.at) _ s there in
    let g = given_some (is_name b.0.id) b.0 s b.2 in
    let found : segment_at image s.at ≡ Some s = b.1 ∙ ap Some g.1 in
    let named : is_name s.id ≡ true = ap (λ (z : Segment). is_name z.id) (sym g.1) ∙ g.0 in
    let same_head : bytes_at image s.at 32 ≡ bytes_at other s.at 32 = clear_bytes image other pieces s.at 32 wrote clear (omega (arith, inside.1)) (omega (arith, inside.1, longer)) (inr off) in
    let here : segment_at other s.at ≡ Some s = stands_same_header image other s same_head (omega (arith, inside.1, longer)) found in
    rw (here, named)

-- whole extents have room for a header
pub whole_long : (es : List Span) → AllByRecursion IsWhole es → AllByRecursion IsLong es
whole_long es all = All-weaken IsWhole IsLong (λ e w. omega (arith, w.len, w.some)) es all
