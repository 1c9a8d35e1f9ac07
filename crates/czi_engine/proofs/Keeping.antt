-- No write touches an item that stays: items keep their bytes, whatever a crash leaves in the holes.
use Rattle.std.proofs.Common.{◌≡◌, ◌⊎◌, ℕ, ◌<◌, ◌≤◌, List, [], ◌∷◌, map, length, get_or, Ok, Result, ap, sym, ◌∙◌, subst, arith, inl, inr, ⊎_elim, zero, suc, ◌+◌, ◌-◌, Some, None, refl, ◌++◌, Option, option_map, option_to_list}
use Rattle.std.specs.List.{AllByRecursion}
use Rattle.std.proofs.lemmas.Bool.{cases_lt}
use Rattle.std.proofs.lemmas.List.{map-append}
use Rattle.std.specs.Prelude.{slice_get}
use Rattle.std.specs.Option.{unwrap_or}
use Rattle.czi_format.specs.Bytes.{bytes_at}
use Rattle.czi_format.specs.Layout.{Layout, Place, HasLayout, layout, place_of}
use Rattle.czi_format.specs.Live.{Live, segments, Directory, Tile, reached, AttItem, MetaItem}
use Rattle.czi_format.specs.Segment.{extent, Segment}
use Rattle.czi_format.specs.Span.{Span, end_of}
use Rattle.czi_format.proofs.Unique.{reaches_unique}
use Rattle.czi_journal.specs.Journals.{slot_of}
use Rattle.czi_machine.specs.Cover.{cover, between}
use Rattle.czi_machine.specs.Edit.{Refusal}
use Rattle.czi_machine.specs.Laws.{LiesInImage, Leads}
use Rattle.czi_machine.specs.Sound.{IsDisjointState}
use Rattle.czi_machine.specs.State.{State, items_of, item_spans, spans_of, item_places, held}
use Rattle.czi_machine.proofs.Cover.{between_in, between_high, cover-append, without_in}
use Rattle.czi_machine.proofs.Leaving.{among_covers}
use Rattle.czi_machine.proofs.Placing.{cover-live_places, covers_own, held_covered}
use Rattle.czi_rig.specs.Disk.{Covers, SameOutside, Disk, Left, IsAtRest}
use Rattle.czi_vault.specs.Recovered.{Recovered, Stands, StandsFor, StandsNow}
use Rattle.czi_vault.specs.Alone.{KeepsOr}
use Rattle.czi_machine.proofs.Lying.{all_spans}
use Rattle.czi_links.specs.Reading.{Reading, Void, Holds, OfVersion, BadAt}
use Rattle.czi_machine.specs.LiveChange.{LiveChange, changed_live, new_segments, SpansAt}
use Rattle.czi_machine.specs.Writes.{AreOnce, WritesIn, marked}
use Rattle.czi_machine.specs.Written.{Piece, byte_of, Wrote}
use Rattle.czi_commit.specs.Made.{Step}
use Rattle.czi_rig.specs.Moments.{Devices}
use Rattle.czi_machine.specs.Holes.{interior, holes}
use Rattle.czi_machine.proofs.Asking.{spans-append}
use Rattle.czi_machine.proofs.AnyCommand.{once_after}
use Rattle.czi_machine.proofs.Clear.{HeaderAt, header_at_front, not_written}
use Rattle.czi_machine.proofs.Led.{led}
use Rattle.czi_machine.proofs.Outside.{same_bytes}
use Rattle.czi_machine.proofs.Tiled.{All-weaken}
use Rattle.czi_rig.proofs.Files.{left_settled}
use Rattle.czi_engine.specs.Editing.{Alike, DuringEdit, Goes, OpensIn, ShowsAlone, or_before, origin_after}
use Rattle.czi_engine.specs.Holes.{AreHigh, holes_of, view_of}
use Rattle.czi_engine.specs.Standing.{IsKept, KeepsItems, Origin, origin_in}
use Rattle.czi_engine.specs.Stands.{StandsOn, Opens, OpensAs}
use Rattle.czi_engine.proofs.Openable.{recovered_opens}
use Rattle.czi_engine.proofs.Outside.{stands_outside, live_outside, covered}
use Rattle.czi_engine.proofs.Reading.{alone_shows, shows_whole}
use Rattle.czi_engine.specs.Commit.{made_of, pieces_in, IsStep, IsPlanned}
use Rattle.czi_engine.specs.Moment.{AlikeInItems}
use Rattle.czi_plan.specs.Apart.{BringsApart, item_segments}
use Rattle.czi_engine.specs.Rests.{RestsOn}
use Rattle.czi_engine.proofs.Committed.{commit_stands}
use Rattle.czi_engine.proofs.Made.{made_wrote}

-- a pair stands for one byte list at most
pub stands_once : (r : Reading) (image a b : List ℕ) → StandsFor r image a → StandsFor r image b → a ≡ b
stands_once Void image a b p q = p ∙ sym q
stands_once (Holds r) image a b p q = p.is ∙ sym q.is
stands_once (OfVersion v) image a b p q = absurd p
stands_once (BadAt place) image a b p q = absurd p

-- the places of a span that is one of these
got_covers : (xs : List Span) (i : ℕ) (x : Span) (k : ℕ) → slice_get xs i ≡ Some x → between x.at (end_of x) k ≤ cover xs k
got_covers [] i x k e = absurd (cc (e))
got_covers (y ∷ xs) zero x k e = let same : y ≡ x = cc (e) in omega (arith, ap (λ (z : Span). between z.at (end_of z) k) same)
got_covers (y ∷ xs) (suc i) x k e = omega (arith, got_covers xs i x k e)

-- the places of an item are live, and lie in no other segment
spans_each : {X : Type 0} (f : X → Segment) (walk : List Segment) (xs : List X) → spans_of (map (λ x. place_of walk (f x)) xs) ≡ map extent (map f xs)
spans_each f walk [] = refl
spans_each f walk (x ∷ xs) = ap (λ l. extent (f x) ∷ l) (spans_each f walk xs)

spans_one : {X : Type 0} (f : X → Segment) (walk : List Segment) (o : Option X) → spans_of (option_to_list (option_map (λ x. place_of walk (f x)) o)) ≡ map extent (option_to_list (option_map f o))
spans_one f walk None = refl
spans_one f walk (Some x) = refl

item_extents : (n : ℕ) (live : Live) (walk : List Segment) (k : ℕ) → cover (spans_of (item_places (items_of (layout n live walk)))) k ≡ cover (map extent (item_segments live)) k
item_extents n live walk k =
    let T : List Place = map (λ (t : Tile). place_of walk t.segment) live.tiles in
    let A : List Place = map (λ (a : AttItem). place_of walk a.segment) live.attachments in
    let M : List Place = option_to_list (option_map (λ (m : MetaItem). place_of walk m.segment) live.metadata) in
    let two : (x y : List Place) → cover (spans_of (x ++ y)) k ≡ cover (spans_of x) k + cover (spans_of y) k = λ x y. ap (λ l. cover l k) (spans-append x y) ∙ cover-append (spans_of x) (spans_of y) k in
    omega (
      arith,
      two T (A ++ M),
      two A M,
      ap (λ l. cover l k) (spans_each (λ (t : Tile). t.segment) walk live.tiles),
      ap (λ l. cover l k) (spans_each (λ (a : AttItem). a.segment) walk live.attachments),
      ap (λ l. cover l k) (spans_one (λ (m : MetaItem). m.segment) walk live.metadata),
      items_parts live k,
    )
  where
    items_parts : (live : Live) (k : ℕ) → cover (map extent (item_segments live)) k
        ≡ cover (map extent (map (λ (t : Tile). t.segment) live.tiles)) k + (cover (map extent (map (λ (a : AttItem). a.segment) live.attachments)) k + cover (map extent (option_to_list (option_map (λ (m : MetaItem). m.segment) live.metadata))) k)
    items_parts live k =
        let both : (x y : List Segment) → cover (map extent (x ++ y)) k ≡ cover (map extent x) k + cover (map extent y) k = λ x y. ap (λ l. cover l k) (map-append extent x y) ∙ cover-append (map extent x) (map extent y) k in
        omega (
          arith,
          both (map (λ (t : Tile). t.segment) live.tiles) (map (λ (a : AttItem). a.segment) live.attachments ++ option_to_list (option_map (λ (m : MetaItem). m.segment) live.metadata)),
          both (map (λ (a : AttItem). a.segment) live.attachments) (option_to_list (option_map (λ (m : MetaItem). m.segment) live.metadata)),
        )

-- items are live
pub items_reached : (live : Live) (k : ℕ) → cover (map extent (item_segments live)) k ≤ cover (map extent (reached live)) k
items_reached live k =
    let both : (x y : List Segment) → cover (map extent (x ++ y)) k ≡ cover (map extent x) k + cover (map extent y) k = λ x y. ap (λ l. cover l k) (map-append extent x y) ∙ cover-append (map extent x) (map extent y) k in
    let D : List Segment = option_to_list (option_map (λ (d : Directory). d.segment) live.directory) in
    let T : List Segment = map (λ (t : Tile). t.segment) live.tiles in
    let X : List Segment = option_to_list (option_map (λ (d : Directory). d.segment) live.attdir) in
    let A : List Segment = map (λ (a : AttItem). a.segment) live.attachments in
    let M : List Segment = option_to_list (option_map (λ (m : MetaItem). m.segment) live.metadata) in
    omega (arith, both T (A ++ M), both A M, both D (T ++ (X ++ (A ++ M))), both T (X ++ (A ++ M)), both X (A ++ M))

item_live : (bytes : List ℕ) (live : Live) (s : State) (l : Layout) (i : ℕ) (x : Span) (k : ℕ) → LiesInImage bytes live s → HasLayout bytes l → slice_get (spans_of (item_places (items_of l))) i ≡ Some x
    → between x.at (end_of x) k ≤ cover (map extent (item_segments live)) k
item_live bytes live s l i x k lies (other, walk, reaches, walks, is) got =
    let one : other ≡ live = reaches_unique bytes other live reaches lies.reaches in
    omega (
      arith,
      got_covers (spans_of (item_places (items_of l))) i x k got,
      ap (λ (z : Layout). cover (spans_of (item_places (items_of z))) k) is,
      item_extents (length bytes) other walk k,
      ap (λ (z : Live). cover (map extent (item_segments z)) k) one,
    )

-- and inside the bytes
pub live_inside : (bytes : List ℕ) (live : Live) (s : State) (k : ℕ) → LiesInImage bytes live s → IsDisjointState s → 1 ≤ cover (map extent (reached live)) k → k < length bytes
live_inside bytes live s k lies is there = elim (cases_lt k (length bytes)) [
  | inl h ↦ h
  | inr h ↦ absurd (omega (arith, is.inside k (omega (arith, h, lies.length)), ap (λ z. cover z k) (all_spans s.layout live lies.extents), there))
]

-- the same bytes in a span, one by one
pub same_span_bytes : (a b : List ℕ) (x : Span) → ((k : ℕ) → x.at ≤ k → k < end_of x → (k < length a) × (k < length b) × (get_or a k 0 ≡ get_or b k 0)) → bytes_at a x.at x.len ≡ bytes_at b x.at x.len
unfolding bytes_at
same_span_bytes a b x each = elim (cases_lt 0 x.len) [
  | inr none ↦ let e : x.len ≡ 0 = omega (arith, none) in rw e
  | inl some ↦
      let last = each (end_of x - 1) (omega (arith, some)) (omega (arith, some)) in
      same_bytes a b x.at x.len (omega (arith, last.0, some)) (omega (arith, last.1, some)) (λ k from to. (each k from to).2)
]

-- What stays live isn't written.
module _ (bytes other : List ℕ) (live : Live) (s s' : State) (t : LiveChange) (pieces : List Piece) (lies : LiesInImage bytes live s) (is : IsDisjointState s) (leads : Leads s s') (at : SpansAt s'.layout (changed_live t live))
    (inside : WritesIn live.header t (marked s.layout s'.layout) pieces) (wrote : Wrote bytes other pieces) (apart : BringsApart live t) where
  pub stays_same : (k : ℕ) → 1 ≤ cover (map extent (item_segments live)) k → 1 ≤ cover (map extent (item_segments (changed_live t live))) k → k < length other → get_or other k 0 ≡ get_or bytes k 0
  stays_same k before after small =
      let H : Segment = live.header.segment in
      let front : HeaderAt bytes H = header_at_front bytes live lies.reaches in
      let once : AreOnce live t (marked s.layout s'.layout) = once_after s s' live t bytes lies (led s s' is leads) at in
      let none_new : cover (map extent (new_segments t)) k ≡ 0 = elim (cases_lt 0 (cover (map extent (new_segments t)) k)) [
        | inr h ↦ omega (arith, h)
        | inl h ↦ absurd (omega (arith, apart k h, before))
      ] in
      let far : 112 ≤ k = elim (cases_lt k 112) [
        | inr h ↦ h
        | inl h ↦ absurd (omega (arith, is.once k, ap (λ z. cover z k) (all_spans s.layout live lies.extents), before, items_reached live k, between_in H.at (end_of (extent H)) k (omega (arith, front.place)) (omega (arith, front.place, front.large, h))))
      ] in
      let none : byte_of pieces k ≡ None = not_written live.header t (marked s.layout s'.layout) pieces k inside once.long
      (omega (arith, between_high 84 100 k (omega (arith, far)), between_high 104 112 k far, none_new, once.once k, after, items_reached (changed_live t live) k)) in
      wrote k small (λ e. omega (arith, e, far)) ∙ ap (λ o. unwrap_or o (get_or bytes k 0)) none

-- Two pairs, each on one side.
module _ (start bytes other : List ℕ) (live live' : Live) (s s' : State) (high : AreHigh s) (on : StandsOn start bytes live s) (after : StandsOn start other live' s')
    (stays : (k : ℕ) → 1 ≤ cover (map extent (item_segments live)) k → 1 ≤ cover (map extent (item_segments live')) k → get_or other k 0 ≡ get_or bytes k 0) where
  old_reads : (image journal a : List ℕ) → Stands (view_of bytes s high) image journal → Recovered image journal a → LiesInImage a live s × ((k : ℕ) → 1 ≤ cover (map extent (item_segments live)) k → (k < length a) × (get_or a k 0 ≡ get_or bytes k 0))
  old_reads image journal a stands recovered =
      let one : stands.bytes ≡ a = stands_once (slot_of journal) image stands.bytes a stands.recovered recovered in
      let lies : LiesInImage stands.bytes live s = (stands_outside start bytes stands.bytes live s on stands.agrees).lies in
      subst (λ (z : List ℕ). LiesInImage z live s × ((k : ℕ) → 1 ≤ cover (map extent (item_segments live)) k → (k < length z) × (get_or z k 0 ≡ get_or bytes k 0))) one (
        lies,
        λ k there. (live_inside stands.bytes live s k lies on.tidy (omega (arith, there, items_reached live k)), stands.agrees.each k (live_outside bytes live s k on.lies on.tidy (omega (arith, there, items_reached live k)))),
      )

  new_reads : (image journal a : List ℕ) → Recovered image journal other → Recovered image journal a → LiesInImage a live' s' × ((k : ℕ) → 1 ≤ cover (map extent (item_segments live')) k → (k < length a) × (get_or a k 0 ≡ get_or other k 0))
  new_reads image journal a made recovered =
      let one : other ≡ a = stands_once (slot_of journal) image other a made recovered in
      subst (λ (z : List ℕ). LiesInImage z live' s' × ((k : ℕ) → 1 ≤ cover (map extent (item_segments live')) k → (k < length z) × (get_or z k 0 ≡ get_or other k 0))) one
      (after.lies, λ k there. (live_inside other live' s' k after.lies after.tidy (omega (arith, there, items_reached live' k)), refl))

  pub alike_sides : AlikeInItems (view_of bytes s high) other
  alike_sides image journal image' journal' a b l m first second ra rb la lb x in_l in_m = ⊎_elim
      (λ p. let u = old_reads image journal a p ra in
      ⊎_elim
      (λ q. let v = old_reads image' journal' b q rb in
      same_span_bytes a b x (λ k from to.
      let i = there a live s l in_l u.0 la k from to in
      let j = there b live s m in_m v.0 lb k from to in
      ((u.1 k i).0, (v.1 k j).0, (u.1 k i).1 ∙ sym (v.1 k j).1)))
      (λ q. let v = new_reads image' journal' b q rb in
      same_span_bytes a b x (λ k from to.
      let i = there a live s l in_l u.0 la k from to in
      let j = there b live' s' m in_m v.0 lb k from to in
      ((u.1 k i).0, (v.1 k j).0, (u.1 k i).1 ∙ (sym (stays k i j) ∙ sym (v.1 k j).1)))) second)
      (λ p. let u = new_reads image journal a p ra in
      ⊎_elim
      (λ q. let v = old_reads image' journal' b q rb in
      same_span_bytes a b x (λ k from to.
      let i = there a live' s' l in_l u.0 la k from to in
      let j = there b live s m in_m v.0 lb k from to in
      ((u.1 k i).0, (v.1 k j).0, (u.1 k i).1 ∙ (stays k j i ∙ sym (v.1 k j).1))))
      (λ q. let v = new_reads image' journal' b q rb in
      same_span_bytes a b x (λ k from to.
      let i = there a live' s' l in_l u.0 la k from to in
      let j = there b live' s' m in_m v.0 lb k from to in
      ((u.1 k i).0, (v.1 k j).0, (u.1 k i).1 ∙ sym (v.1 k j).1))) second) first
    where
      there : (z : List ℕ) (live : Live) (s : State) (n : Layout) → (i : ℕ) × (slice_get (spans_of (item_places (items_of n))) i ≡ Some x) → LiesInImage z live s → HasLayout z n → (k : ℕ) → x.at ≤ k → k < end_of x
          → 1 ≤ cover (map extent (item_segments live)) k
      there z live s n among lies has k from to = omega (arith, item_live z live s n among.0 x k lies has among.1, between_in x.at (end_of x) k from to)

pub commit_touches : (start bytes : List ℕ) (live : Live) (s s' : State) (t : LiveChange) (c : Step) (high : AreHigh s) → StandsOn start bytes live s → IsPlanned bytes live s s' t c → IsStep bytes c → BringsApart live t
    → AlikeInItems (view_of bytes s high) (made_of c bytes)
commit_touches start bytes live s s' t c high on plan is apart =
    let made = made_wrote bytes c is in
    let other : List ℕ = made_of c bytes in
    let after : StandsOn start other (changed_live t live) s' = commit_stands start bytes live s s' t c on plan is in
    alike_sides start bytes other live (changed_live t live) s s' high on after
    (λ k i j. stays_same bytes other live s s' t (pieces_in c) on.lies on.tidy plan.leads plan.spans plan.plans.around.inside made.0 apart k i j (live_inside other (changed_live t live) s' k after.lies after.tidy (omega (arith, j, items_reached (changed_live t live) k))))

-- Bytes of held segments are outside the holes.

held_outside : (s : State) (k : ℕ) → 1 ≤ cover (held s) k → Covers (holes_of s) k → ⊥
held_outside s k there hole = omega (arith, covered (holes (held s) s.layout.deleted) k hole, without_in (held s) (map interior s.layout.deleted) k there)

held_inside : (bytes : List ℕ) (s : State) (k : ℕ) → IsDisjointState s → s.layout.length ≡ length bytes → 1 ≤ cover (held s) k → k < length bytes
held_inside bytes s k is long there = elim (cases_lt k (length bytes)) [
  | inl h ↦ h
  | inr h ↦ absurd (omega (arith, held_covered s k is, is.inside k (omega (arith, h, long)), there))
]

pub held_stays : (start bytes other : List ℕ) (live : Live) (s : State) → StandsOn start bytes live s → SameOutside (Covers (holes_of s)) bytes other
    → AllByRecursion (λ (h : Span). bytes_at other (h.at + 32) (h.len - 32) ≡ bytes_at bytes (h.at + 32) (h.len - 32)) (held s)
held_stays start bytes other live s on same =
    All-weaken (λ (h : Span). (p : ℕ) → between h.at (end_of h) p ≤ cover (held s) p) (λ (h : Span). bytes_at other (h.at + 32) (h.len - 32) ≡ bytes_at bytes (h.at + 32) (h.len - 32))
    (λ h among. same_span_bytes other bytes (interior h) (λ k from to.
    let there : 1 ≤ cover (held s) k = omega (arith, among k, between_in h.at (end_of h) k (omega (arith, from)) (omega (arith, from, to))) in
    let small : k < length bytes = held_inside bytes s k on.tidy on.lies.length there in
    (omega (arith, small, same.len), small, same.each k (held_outside s k there)))) (held s) (covers_own (held s))

pub document_opens : (start image journal : List ℕ) (s : State) → OpensAs start image journal s → Opens image journal s.document
document_opens start image journal s opens = record { bytes = opens.bytes; recovered = opens.recovered; shows = opens.shows; whole = opens.whole }

pub rests_stands : (all : Devices) (bytes : List ℕ) (s : State) (high : AreHigh s) → RestsOn all bytes → StandsNow (view_of bytes s high) all
rests_stands all bytes s high rests image journal said leaves = record {
  bytes = bytes;
  recovered = rests.recovers image journal said leaves;
  agrees = record { len = refl; each = λ k out. refl };
}

pub itself_rests : (all : Devices) → IsAtRest all.image → IsAtRest all.journal → Recovered all.image.seen all.journal.seen all.image.seen → RestsOn all all.image.seen
itself_rests all image journal is = record {
  image = image;
  recovers = λ i j said leaves.
      let one : i ≡ all.image.seen = left_settled all.image.seen i (subst (λ (d : Disk). Left d.durable i) image leaves.image_is) in
      let two : j ≡ all.journal.seen = left_settled all.journal.seen j (subst (λ (d : Disk). Left d.durable j) journal leaves.journal_is) in
      subst (λ (x : List ℕ). Recovered x j all.image.seen) (sym one) (subst (λ (x : List ℕ). Recovered all.image.seen x all.image.seen) (sym two) is);
}

-- items are live
live_items : (bytes : List ℕ) (live : Live) (s : State) (k : ℕ) → LiesInImage bytes live s → 1 ≤ cover (item_spans (items_of s.layout)) k → 1 ≤ cover (map extent (segments live)) k
live_items bytes live s k lies there = omega (arith, there, cover-live_places s.layout k, ap (λ z. cover z k) (all_spans s.layout live lies.extents))

inside : (bytes : List ℕ) (live : Live) (s : State) (k : ℕ) → LiesInImage bytes live s → IsDisjointState s → 1 ≤ cover (map extent (segments live)) k → k < length bytes
inside bytes live s k lies is there = elim (cases_lt k (length bytes)) [
  | inl h ↦ h
  | inr h ↦ absurd (omega (arith, is.inside k (omega (arith, h, lies.length)), ap (λ z. cover z k) (all_spans s.layout live lies.extents), there))
]

-- items that have been there since the start, of which two byte lists have the same bytes
kept_in : (o : Origin) (a b : List ℕ) (l : Layout) (xs : List Span) → ((k : ℕ) → 1 ≤ cover (item_spans (items_of l)) k → (k < length a) × (k < length b) × (get_or b k 0 ≡ get_or a k 0))
    → AllByRecursion (IsKept o a l) xs → AllByRecursion (IsKept o b l) xs
kept_in o a b l [] each all = tt
kept_in o a b l (x ∷ xs) each all = (
  record {
    there = all.0.there;
    same = same_span_bytes b a x (λ k from to. let e = each k (omega (arith, between_in x.at (end_of x) k from to, among_covers x (item_spans (items_of l)) k all.0.there)) in (e.1, e.0, e.2)) ∙ all.0.same;
  },
  kept_in o a b l xs each all.1,
)

pub kept_outside : (o : Origin) (bytes other : List ℕ) (live : Live) (s : State) → StandsOn o.bytes bytes live s → SameOutside (Covers (holes_of s)) bytes other → KeepsItems o bytes s.layout → KeepsItems o other s.layout
kept_outside o bytes other live s on same kept =
    kept_in o bytes other s.layout o.items (λ k there.
    let lives = live_items bytes live s k on.lies there in
    let small : k < length bytes = inside bytes live s k on.lies on.tidy lives in
    (small, omega (arith, small, same.len), same.each k (live_outside bytes live s k on.lies on.tidy lives))) kept

pub one_recovered : (image journal a b : List ℕ) → Recovered image journal a → Recovered image journal b → a ≡ b
one_recovered image journal a b = stands_once (slot_of journal) image a b

-- two pairs that stand for the same bytes are alike
pub one_alike : (bytes image journal image' journal' : List ℕ) → Recovered image journal bytes → Recovered image' journal' bytes → Alike image journal image' journal'
one_alike bytes image journal image' journal' one two a b l m ra rb la lb x in_l in_m = ap (λ (z : List ℕ). bytes_at z x.at x.len) (one_recovered image journal a bytes ra one ∙ sym (one_recovered image' journal' b bytes rb two))

-- what stands for the bytes of a state opens as it, with its items
pub has_opens : (o : Origin) (bytes image journal : List ℕ) (live : Live) (s : State) → StandsOn o.bytes bytes live s → KeepsItems o bytes s.layout → Recovered image journal bytes → OpensIn o image journal s
has_opens o bytes image journal live s on kept is = record {
  opens = recovered_opens o.bytes bytes image journal live s on is;
  kept = λ b other. subst (λ (z : List ℕ). KeepsItems o z s.layout) (one_recovered image journal bytes b is other) kept;
}

-- read without a journal the bytes show its document
pub shows_alone : (start bytes : List ℕ) (live : Live) (s : State) → StandsOn start bytes live s → ShowsAlone bytes s.document
shows_alone start bytes live s on = inr (shows_whole start bytes live s on)

-- and so does what stands for them outside the holes
pub view_opens_in : (o : Origin) (bytes image journal : List ℕ) (live : Live) (s : State) (high : AreHigh s) → StandsOn o.bytes bytes live s → KeepsItems o bytes s.layout → Stands (view_of bytes s high) image journal → OpensIn o image journal s
view_opens_in o bytes image journal live s high on kept stands =
    has_opens o stands.bytes image journal live s (stands_outside o.bytes bytes stands.bytes live s on stands.agrees) (kept_outside o bytes stands.bytes live s on stands.agrees kept) stands.recovered

-- while the bytes of the next state are committed
pub during_edit : (o : Origin) (bytes other image journal said before : List ℕ) (live live' : Live) (s s' : State) (go : Goes) (high : AreHigh s) → StandsOn o.bytes bytes live s → KeepsItems o bytes s.layout
    → StandsOn o.bytes other live' s' → KeepsItems (origin_in o s') other s'.layout → go s ≡ Ok s' → KeepsOr (view_of bytes s high) other image journal × (said ≡ before) → DuringEdit o s go before image journal said
during_edit o bytes other image journal said before live live' s s' go high on kept on' kept' goes sides = (
  ⊎_elim
      (λ keeps. inl (view_opens_in o bytes image journal live s high on kept keeps.0, alone_shows o.bytes bytes image live s high on keeps.1))
      (λ made. inr (subst (λ (r : Result State Refusal). OpensIn (origin_after o r) image journal (or_before s r) × (ShowsAlone image s.document ⊎ ShowsAlone image (or_before s r).document)) (sym goes) (
        has_opens (origin_in o s') other image journal live' s' on' kept' made.0,
        ⊎_elim
            (λ old. inl (alone_shows o.bytes bytes image live s high on old))
            (λ new. inr (subst (λ (z : List ℕ). ShowsAlone z s'.document) (sym new) (shows_alone o.bytes other live' s' on'))) made.1,
      )))
      sides.0,
  sides.1,
)
