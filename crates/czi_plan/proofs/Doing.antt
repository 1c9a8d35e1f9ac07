-- Where everything lies after the plan of an act on the subblocks and what leaves, and what the plan is to the machine.
use Rattle.std.proofs.Common.{◌≡◌, ℕ, zero, suc, [], ◌∷◌, true, false, Option, Some, None, option_map, Ok, refl, ap, sym, ◌∙◌, subst, ◌+◌, ◌<◌, ◌≤◌, List, ◌++◌, map, length, sum, ◌||◌, option_to_list, arith, filter, ◌==◌, nat_lt, not, Bool}
use Rattle.std.specs.List.{AllByRecursion, list_any}
use Rattle.std.proofs.lemmas.List.{map-append}
use Rattle.std.specs.Bool.{⊤}
use Rattle.czi_format.specs.Layout.{Layout, Place}
use Rattle.czi_format.specs.Segment.{extent}
use Rattle.czi_format.specs.Space.{Space, fit, use_span, deleted_after, with_all_freed, without, same_span, use_all}
use Rattle.czi_format.specs.Span.{Span, round32, end_of}
use Rattle.czi_image.specs.Applied.{place_after, walks_on, layout_after}
use Rattle.czi_image.specs.Holds.{directory_place, tile_place, LiesAs, att_item_place, meta_item_place}
use Rattle.czi_image.specs.Spans.{directory_span, header_span}
use Rattle.czi_image.specs.declared.change.DirectoryChange.{DirectoryChange}
use Rattle.czi_image.specs.declared.change.DirectoryChange.TheVariants.{Kept, Patched, New}
use Rattle.czi_image.specs.declared.index.Index.{Index}
use Rattle.czi_image.specs.declared.types.DirItem.{DirItem}
use Rattle.czi_machine.specs.Edit.{DocumentEffect}
use Rattle.czi_machine.specs.Grouped.{fit_all}
use Rattle.czi_image.specs.declared.types.Tile.{Tile}
use Rattle.czi_machine.specs.Cover.{cover, between}
use Rattle.czi_machine.specs.State.{State, spans_of, items_of, not_among, item_places, item_spans}
use Rattle.czi_machine.proofs.Changing.{map-changed}
use Rattle.czi_machine.proofs.Cover.{cover-append}
use Rattle.czi_machine.proofs.Omitted.{Parted, parted_both, parted_directory, parted_list, parted_set}
use Rattle.czi_space.specs.State.{MapState, space_of as space_in}
use Rattle.czi_image.specs.declared.types.AttItem.{AttItem}
use Rattle.czi_machine.proofs.Tiled.{All-both, All-weaken, All-map, map-All}
use Rattle.czi_image.specs.declared.change.Change.{Change as CodeChange}
use Rattle.czi_machine.proofs.Leaving.{among_before, among_behind, none_among, same_self, among_more}
use Rattle.czi_machine.proofs.Placing.{covers_own}
use Rattle.czi_machine.proofs.Steady.{on_all}
use Rattle.czi_format.proofs.Local.{All-append}
use Rattle.czi_machine.proofs.Inverse.{omitted_map, omitted_mapped}
use Rattle.czi_machine.proofs.Asking.{spans-append}
use Rattle.czi_image.specs.declared.change.Act.{Act as CodeAct}
use Rattle.czi_links.specs.Record.{Bytes}
use Rattle.czi_machine.proofs.Clear.{map-map}
use Rattle.czi_region.specs.declared.block.Region.{Region}
use Rattle.czi_plan.specs.Directory.{need_of}
use Rattle.czi_plan.specs.Listing.{IsPlace, fits_in_place}
use Rattle.czi_plan.specs.Plan.{left_directory, usable_of, used_of, dead_of, left_places, IsPlan, extents_after, left_items}
use Rattle.czi_plan.specs.Conditions.{IsMapOf, LiesIn, live_of}
use Rattle.czi_plan.specs.Does.{layout_by, Does}
use Rattle.czi_plan.specs.declared.plan.EditPlan.{EditPlan}
use Rattle.czi_plan.proofs.Order.{sorted_again}
use Rattle.czi_plan.specs.Pieces.{piece_of, pieces_of, writes_of}
use Rattle.czi_image.specs.declared.change.Act.TheVariants.{Out, Put, Into}
use Rattle.czi_region.specs.declared.block.Piece.{Piece as Range}
use Rattle.czi_plan.specs.Marks.{head_mark}
use Rattle.czi_format.specs.Live.{Directory, Live}
use Rattle.czi_image.specs.Change.{act_of, acts_of, directory_set, live_change_of, setting_of}
use Rattle.czi_image.specs.declared.types.MetaItem.{MetaItem}
use Rattle.czi_machine.specs.Change.{Act, Change, Setting, bring, brought, changed, into, keep, kept, mapped, mapped_setting, omit, omitted, out, past, put, same, set, set_kept, set_new, set_omitted, to}
use Rattle.czi_machine.specs.InOrder.{LiesInOrder, StaysOrNew, directory_spans, needs_of}
use Rattle.czi_machine.specs.LiveChange.{new_segments}
use Rattle.czi_machine.specs.Places.{Fitted, can_be_used, edit_asks, laid, live_places, new_place, space_of, walk_goes_on}
use Rattle.czi_machine.specs.Planned.{Brings as Both, Plans}
use Rattle.czi_machine.specs.Table.{AreApart, changes, directory_laid, directory_left, fit_brought}
use Rattle.czi_machine.specs.Writes.{PutsDeleted, PutsPointer, WritesAround, dead, head}
use Rattle.czi_machine.specs.Written.{Piece, Puts}
use Rattle.czi_plan.specs.Changing.{BringsNew, IsNew, IsStaged, Origin, Stages, all_left, back_entries, beside_in, edited, entries_in, front_entries, items_left, middle_entries, needed_in, new_marks, new_spans, range_after, size_after, space_behind, tiles_brought, used_in}
use Rattle.czi_plan.specs.Kind.{Kind, span_in}
use Rattle.czi_plan.proofs.Acts.{act_as, back_stays, brings_past, entries_after_act, entries_before_act, mapped_act, old_entries, omitted_act}
use Rattle.czi_plan.proofs.Changed.{Changes, changes_of, freed_by, plan_of}
use Rattle.czi_plan.proofs.Directing.{IsPut, ListsItems, PointsTo, PutsHead, before_put, deleted_put, dir_in, dir_listed, dir_pointer, dir_writable, directory_in_own, header_clear, pointer_none, set_spans}
use Rattle.czi_plan.proofs.KindLaws.{Laws}
use Rattle.czi_plan.proofs.Linking.{all_entries, item_long, item_writes, writes_by}
use Rattle.czi_plan.proofs.Machines.{Machine, brought_images, brought_places, new_dir}
use Rattle.czi_plan.proofs.Needs.{Asks, IsAct, act_fits, asks, directory_lies, directory_spans_are, is_act, left_by, space_by, space_length, stays_or_new}
use Rattle.czi_plan.proofs.Parts.{brought_covers, each_of, free_once, length_by, place_spans, spans_split, used_apart, used_by, written_dir}
use Rattle.czi_image.specs.Holds.{extent_of, lies_at}

-- the live segments but the file header, as the index has them
abbrev pub places_of : Index → List Place
places_of x = option_to_list (option_map directory_place x.directory) ++ (map tile_place x.tiles.items
    ++ (option_to_list (option_map directory_place x.attdir) ++ (map att_item_place x.attachments.items ++ option_to_list (option_map meta_item_place x.metadata))))

pub places_are : (l : Layout) (x : Index) → LiesAs l x → live_places l ≡ places_of x
places_are l x lies = λ j. option_to_list (sym lies.directory j) ++ (sym lies.subblocks j ++ (option_to_list (sym lies.attdir j) ++ (sym lies.attachments j ++ option_to_list (sym lies.metadata j))))

pub some_spans : {C : Type 0} (place : C → Place) (o : Option C) → spans_of (option_to_list (option_map place o)) ≡ option_to_list (option_map (λ c. (place c).span) o)
some_spans place None = refl
some_spans place (Some x) = refl

both_spans : (ps qs : List Place) (us vs : List Span) → spans_of ps ≡ us → spans_of qs ≡ vs → spans_of (ps ++ qs) ≡ us ++ vs
both_spans ps qs us vs a b = map-append (λ (p : Place). p.span) ps qs ∙ (λ j. a j ++ b j)

pub places_spans : (x : Index) → header_span x.header ∷ spans_of (places_of x) ≡ live_of x
places_spans x = ap (λ (l : List Span). header_span x.header ∷ l)
    (both_spans _ _ _ _ (some_spans directory_place x.directory) (both_spans _ _ _ _ (place_spans tile_place x.tiles.items) (both_spans _ _ _ _ (some_spans directory_place x.attdir)
    (both_spans _ _ _ _ (map-map att_item_place (λ (p : Place). p.span) x.attachments.items) (some_spans meta_item_place x.metadata)))))

some_all : {C : Type 0} (P : Place → Type 0) (place : C → Place) (o : Option C) → ((c : C) → P (place c)) → AllByRecursion P (option_to_list (option_map place o))
some_all P place None f = tt
some_all P place (Some x) f = (f x, tt)

pub places_some : (x : Index) → AllByRecursion (λ (p : Place). 0 < p.span.len) (places_of x)
places_some x =
    let P : Place → Type 0 = λ p. 0 < p.span.len in
    let dir : (d : DirItem) → 0 < (directory_place d).span.len = λ d. omega (arith, d.long) in
    let tile : (t : Tile) → 0 < (tile_place t).span.len = λ t. omega (arith, t.extent) in
    let att : (a : AttItem) → 0 < (att_item_place a).span.len = λ a. omega (arith, a.extent) in
    let meta : (m : MetaItem) → 0 < (meta_item_place m).span.len = λ m. omega (arith, m.extent) in
    All-both P _ _ (some_all P directory_place x.directory dir) (All-both P _ _ (map-All tile_place P x.tiles.items (each_of _ tile x.tiles.items)) (All-both P _ _ (some_all P directory_place x.attdir dir)
    (All-both P _ _ (map-All att_item_place P x.attachments.items (each_of _ att x.attachments.items)) (some_all P meta_item_place x.metadata meta))))

pub places_once : (x : Index) (q : ℕ) → cover (spans_of (places_of x)) q ≤ 1
places_once x q = omega (arith, free_once (live_of x) 0 [] q x.disjoint tt tt, ap (λ l. cover l q) (places_spans x))

pub layout_apart : (l : Layout) (x : Index) → LiesAs l x → AreApart l
layout_apart l x lies = record {
  once = λ q. omega (arith, places_once x q, ap (λ ps. cover (spans_of ps) q) (places_are l x lies));
  some = subst (AllByRecursion (λ (p : Place). 0 < p.span.len)) (sym (places_are l x lies)) (places_some x);
}

-- whether the walk stands on a new directory
walked_by : (x : Index) (l : Layout) (d : DirItem) → LiesAs l x → d.walked ≡ (nat_lt d.span.at x.length || walks_on x) → directory_place d ≡ new_place l (directory_span d)
walked_by x l d lies is =
    let walked : d.walked ≡ (nat_lt d.span.at l.length || walk_goes_on l) = is ∙ (λ j. nat_lt d.span.at (lies.length j) || (round32 (lies.walk_end j) == round32 (lies.length j))) in
    λ j. record { span = directory_span d; walked = walked j }

pub new_walked : (x : Index) (l : Layout) (old : Option DirItem) (size range : ℕ) (space : Space) (c : DirectoryChange) → LiesAs l x → IsPlace x old size range space c → (d : DirItem) → c ≡ New d → directory_place d ≡ new_place l (directory_span d)
new_walked x l old size range space c lies place d e = let here : IsPlace x old size range space (New d) = subst (IsPlace x old size range space) e place in walked_by x l d lies here.2

-- what an act brings lies where it fits
fit_past : {S : Type 0} (need : S → ℕ) (l : Layout) (space : Space) (i : ℕ) (c : Change S) (places : List (Act Place)) (used : List Span) (rest : Space) → fit_brought l space need c ≡ Ok (record { places = places; back = []; used = used; space = rest })
    → fit_brought l space need (past i c) ≡ Ok (record { places = past i places; back = []; used = used; space = rest })
fit_past need l space zero c places used rest e = e
fit_past need l space (suc i) c places used rest e = let more = fit_past need l space i c places used rest e in rw more refl

item_walked : {C E S : Type 0} {k : Kind C E S} (x : Index) (m : MapState) (l : Layout) (s : S) (t : C) → LiesAs l x → IsNew k x m s t → new_place l (span_in k t) ≡ k.place t
item_walked {k = k} x m l s t lies new =
    let walked : (k.place t).walked ≡ (nat_lt (span_in k t).at l.length || walk_goes_on l) = new.walked ∙ (λ j. nat_lt (span_in k t).at (lies.length j) || (round32 (lies.walk_end j) == round32 (lies.length j))) in
    λ j. record { span = span_in k t; walked = sym walked j }

pub fit_act : {C E S : Type 0} (k : Kind C E S) (x : Index) (m : MapState) (l : Layout) (region : Region) (a : CodeAct C) (c : Change S) (writes : List (ℕ × Range)) → LiesAs l x → BringsNew k x m region a c writes
    → fit_brought l (space_in m) k.need c ≡ Ok (record { places = act_of (act_as k.place a); back = []; used = new_spans k a; space = use_all (space_in m) (new_spans k a) })
fit_act k x m l region (Out i) c writes lies b = ap (fit_brought l (space_in m) k.need) b.0 ∙ fit_past k.need l (space_in m) i (omit ∷ []) (omit ∷ []) [] (space_in m) refl
fit_act k x m l region (Put i t) c writes lies b =
    let fits : fit (space_in m) (k.need b.0) ≡ Ok (record { span = (span_in k t); space = use_span (space_in m) (span_in k t) }) = b.2.fits in
    let one : fit_brought l (space_in m) k.need (omit ∷ bring b.0 ∷ []) ≡ Ok (record { places = omit ∷ bring (new_place l (span_in k t)) ∷ []; back = []; used = (span_in k t) ∷ []; space = use_span (space_in m) (span_in k t) }) = rw fits refl in
    ap (fit_brought l (space_in m) k.need) b.1
    ∙ fit_past k.need l (space_in m) i (omit ∷ bring b.0 ∷ []) (omit ∷ bring (k.place t) ∷ []) ((span_in k t) ∷ []) (use_span (space_in m) (span_in k t))
    (one ∙ ap (λ (p : Place). Ok (record { places = omit ∷ bring p ∷ []; back = []; used = (span_in k t) ∷ []; space = use_span (space_in m) (span_in k t) })) (item_walked x m l b.0 t lies b.2))
fit_act k x m l region (Into i t) c writes lies b =
    let fits : fit (space_in m) (k.need b.0) ≡ Ok (record { span = (span_in k t); space = use_span (space_in m) (span_in k t) }) = b.2.fits in
    let one : fit_brought l (space_in m) k.need (bring b.0 ∷ []) ≡ Ok (record { places = bring (new_place l (span_in k t)) ∷ []; back = []; used = (span_in k t) ∷ []; space = use_span (space_in m) (span_in k t) }) = rw fits refl in
    ap (fit_brought l (space_in m) k.need) b.1
    ∙ fit_past k.need l (space_in m) i (bring b.0 ∷ []) (bring (k.place t) ∷ []) ((span_in k t) ∷ []) (use_span (space_in m) (span_in k t))
    (one ∙ ap (λ (p : Place). Ok (record { places = bring p ∷ []; back = []; used = (span_in k t) ∷ []; space = use_span (space_in m) (span_in k t) })) (item_walked x m l b.0 t lies b.2))

-- what an act brings is what an edit brings
pub brings_act : {C E S T : Type 0} (k : Kind C E S) (live : C → T) (P : T → S → Type 0) (x : Index) (m : MapState) (region : Region) (a : CodeAct C) (c : Change S) (writes : List (ℕ × Range)) → BringsNew k x m region a c writes
    → ((s : S) (t : C) → tiles_brought a ≡ t ∷ [] → IsNew k x m s t → IsStaged k region s t writes → P (live t) s) → Both P (mapped live (act_of a)) c
brings_act {C = C} k live P x m region (Out i) c writes b f = let o : CodeAct C = Out i in subst (Both P (mapped live (act_of o))) (sym b.0) (subst (λ z. Both P z (out i)) (sym (mapped_act live o)) (brings_past P i (omit ∷ []) (omit ∷ []) tt))
brings_act {C = C} k live P x m region (Put i t) c writes b f =
    subst (Both P (mapped live (act_of (Put i t)))) (sym b.1) (subst (λ z. Both P z (put i b.0)) (sym (mapped_act live (Put i t))) (brings_past P i (omit ∷ bring (live t) ∷ []) (omit ∷ bring b.0 ∷ []) (f b.0 t refl b.2 b.3, tt)))
brings_act {C = C} k live P x m region (Into i t) c writes b f =
    subst (Both P (mapped live (act_of (Into i t)))) (sym b.1) (subst (λ z. Both P z (into i b.0)) (sym (mapped_act live (Into i t))) (brings_past P i (bring (live t) ∷ []) (bring b.0 ∷ []) (f b.0 t refl b.2 b.3, tt)))

abbrev pub IsAmongPlaces : List Place → Place → Type 0
IsAmongPlaces zs k = list_any (same_span k.span) (spans_of zs) ≡ true

-- Some places, those that are kept, those that are left out, those that are brought, and what is there then.
pub record Turns (ys ks os bs zs : List Place) : Type 0 where
  pub parted : Parted ys ks os
  pub among : AllByRecursion (IsAmongPlaces zs) ks
  pub covers : (q : ℕ) → cover (spans_of zs) q ≡ cover (spans_of ks) q + cover (spans_of bs) q

more_among : (z : Place) (zs ks : List Place) → AllByRecursion (IsAmongPlaces zs) ks → AllByRecursion (IsAmongPlaces (z ∷ zs)) ks
more_among z zs ks all = All-weaken (IsAmongPlaces zs) (IsAmongPlaces (z ∷ zs)) (λ k h. among_more k.span z.span (spans_of zs) h) ks all

own_among : (zs : List Place) → AllByRecursion (IsAmongPlaces zs) zs
own_among [] = tt
own_among (z ∷ zs) = (let own : same_span z.span z.span ≡ true = same_self z.span in rw own refl, more_among z zs zs (own_among zs))

kept_among : (c : List (Act Place)) (ys : List Place) → AllByRecursion (IsAmongPlaces (changed c ys)) (kept c ys)
kept_among [] ys = own_among ys
kept_among (bring x ∷ c) ys = more_among x (changed c ys) (kept c ys) (kept_among c ys)
kept_among (keep ∷ c) [] = kept_among c []
kept_among (keep ∷ c) (y ∷ ys) = (let own : same_span y.span y.span ≡ true = same_self y.span in rw own refl, more_among y (changed c ys) (kept c ys) (kept_among c ys))
kept_among (omit ∷ c) [] = kept_among c []
kept_among (omit ∷ c) (y ∷ ys) = kept_among c ys

changed_covers : (c : List (Act Place)) (ys : List Place) (q : ℕ) → cover (spans_of (changed c ys)) q ≡ cover (spans_of (kept c ys)) q + cover (spans_of (brought c)) q
changed_covers [] ys q = omega arith
changed_covers (bring x ∷ c) ys q = omega (arith, changed_covers c ys q)
changed_covers (keep ∷ c) [] q = changed_covers c [] q
changed_covers (keep ∷ c) (y ∷ ys) q = omega (arith, changed_covers c ys q)
changed_covers (omit ∷ c) [] q = changed_covers c [] q
changed_covers (omit ∷ c) (y ∷ ys) q = changed_covers c ys q

pub turns_list : (c : List (Act Place)) (ys : List Place) → Turns ys (kept c ys) (omitted c ys) (brought c) (changed c ys)
turns_list c ys = record { parted = parted_list c ys; among = kept_among c ys; covers = changed_covers c ys }

pub turns_set : (c : Setting Place) (old : Option Place) → Turns (option_to_list old) (option_to_list (set_kept c old)) (option_to_list (set_omitted c old)) (option_to_list (set_new c)) (option_to_list (set c old))
turns_set same old = record { parted = parted_set {X = Place} same old; among = own_among (option_to_list old); covers = λ q. omega arith }
turns_set (to new) old = record { parted = parted_set {X = Place} (to new) old; among = tt; covers = λ q. omega arith }

-- what is kept of a directory, left out and brought
abbrev pub kept_dir : DirectoryChange → Option Place → List Place
kept_dir Kept old = option_to_list old
kept_dir Patched old = option_to_list old
kept_dir (New d) old = []

abbrev pub left_dir : DirectoryChange → Option Place → List Place
left_dir Kept old = []
left_dir Patched old = []
left_dir (New d) old = option_to_list old

pub turns_directory : (c : DirectoryChange) (old : Option Place) → Turns (option_to_list old) (kept_dir c old) (left_dir c old) (new_dir c) (option_to_list (place_after c old))
turns_directory Kept old = record { parted = parted_directory true old; among = own_among (option_to_list old); covers = λ q. omega arith }
turns_directory Patched old = record { parted = parted_directory true old; among = own_among (option_to_list old); covers = λ q. omega arith }
turns_directory (New d) old = record { parted = parted_directory false old; among = tt; covers = λ q. omega arith }

both_cover : (xs ys : List Place) (q : ℕ) → cover (spans_of (xs ++ ys)) q ≡ cover (spans_of xs) q + cover (spans_of ys) q
both_cover xs ys q = ap (λ l. cover l q) (spans-append xs ys) ∙ cover-append (spans_of xs) (spans_of ys) q

pub turns_both : (ys ks os bs zs ys' ks' os' bs' zs' : List Place) → Turns ys ks os bs zs → Turns ys' ks' os' bs' zs' → Turns (ys ++ ys') (ks ++ ks') (os ++ os') (bs ++ bs') (zs ++ zs')
turns_both ys ks os bs zs ys' ks' os' bs' zs' a b = record {
  parted = parted_both ys ks os ys' ks' os' a.parted b.parted;
  among = All-both (IsAmongPlaces (zs ++ zs')) ks ks'
      (All-weaken (IsAmongPlaces zs) (IsAmongPlaces (zs ++ zs')) (λ k h. ap (list_any (same_span k.span)) (spans-append zs zs') ∙ among_before k.span (spans_of zs) (spans_of zs') h) ks a.among)
      (All-weaken (IsAmongPlaces zs') (IsAmongPlaces (zs ++ zs')) (λ k h. ap (list_any (same_span k.span)) (spans-append zs zs') ∙ among_behind k.span (spans_of zs) (spans_of zs') h) ks' b.among);
  covers = λ q. omega (arith, a.covers q, b.covers q, both_cover zs zs' q, both_cover ks ks' q, both_cover bs bs' q);
}

-- those that aren't there then are those that are left out
pub turns_left : (ys ks os bs zs : List Place) → Turns ys ks os bs zs → ((q : ℕ) → cover (spans_of ys) q + cover (spans_of bs) q ≤ 1) → AllByRecursion (λ (y : Place). 0 < y.span.len) ys → not_among (spans_of zs) ys ≡ os
turns_left ys ks os bs zs t once some =
    let stay : AllByRecursion (λ (y : Place). not (list_any (same_span y.span) (spans_of zs)) ≡ false) ks
    = All-weaken (IsAmongPlaces zs) (λ (y : Place). not (list_any (same_span y.span) (spans_of zs)) ≡ false) (λ y e. ap not e) ks t.among in
    let own : AllByRecursion (λ (y : Place). (q : ℕ) → between y.span.at (end_of y.span) q ≤ cover (spans_of os) q) os
    = All-map (λ (y : Place). y.span) (λ (h : Span). (q : ℕ) → between h.at (end_of h) q ≤ cover (spans_of os) q) os (covers_own (spans_of os)) in
    let go : AllByRecursion (λ (y : Place). not (list_any (same_span y.span) (spans_of zs)) ≡ true) os
    = on_all (λ (y : Place). 0 < y.span.len) (λ (y : Place). (q : ℕ) → between y.span.at (end_of y.span) q ≤ cover (spans_of os) q) (λ (y : Place). not (list_any (same_span y.span) (spans_of zs)) ≡ true)
    (λ y long mine. ap not (none_among y.span (spans_of zs) long (λ q. omega (arith, mine q, t.covers q, t.parted.covers q, once q)))) os (t.parted.some some) own in
    t.parted.filtered (λ y. not (list_any (same_span y.span) (spans_of zs))) stay go

-- what leaves, in the order of what is live
abbrev pub gone_places : CodeChange → Layout → List Place
gone_places c l = left_dir c.directory l.directory ++ (omitted (mapped tile_place (acts_of c.tiles.items)) l.subblocks ++ (left_dir c.attdir l.attdir ++ (omitted (mapped att_item_place (acts_of c.attachments.items)) l.attachments
    ++ option_to_list (set_omitted (mapped_setting meta_item_place (setting_of c.metadata)) l.metadata))))

pub left_after : (c : CodeChange) (deleted : List Span) (n : ℕ) (l : Layout) (x : Index) → LiesAs l x → ((q : ℕ) → cover (spans_of (places_of x)) q + cover (spans_of (brought_places c)) q ≤ 1)
    → not_among (spans_of (live_places (layout_after c deleted n l))) (live_places l) ≡ gone_places c l
left_after c deleted n l x lies apart =
    let all = turns_both _ _ _ _ _ _ _ _ _ _ (turns_directory c.directory l.directory) (turns_both _ _ _ _ _ _ _ _ _ _ (turns_list (mapped tile_place (acts_of c.tiles.items)) l.subblocks)
    (turns_both _ _ _ _ _ _ _ _ _ _ (turns_directory c.attdir l.attdir) (turns_both _ _ _ _ _ _ _ _ _ _ (turns_list (mapped att_item_place (acts_of c.attachments.items)) l.attachments) (turns_set (mapped_setting meta_item_place (setting_of c.metadata)) l.metadata)))) in
    turns_left (live_places l) _ (gone_places c l) (brought_places c) (live_places (layout_after c deleted n l)) all
    (λ q. omega (arith, apart q, ap (λ ps. cover (spans_of ps) q) (places_are l x lies))) (subst (AllByRecursion (λ (y : Place). 0 < y.span.len)) (sym (places_are l x lies)) (places_some x))

pub left_list : {C : Type 0} (place : C → Place) (c : List (Act C)) (xs : List C) (ps : List Place) → map place xs ≡ ps → omitted (mapped place c) ps ≡ map place (omitted c xs)
left_list place c xs ps is = omitted_mapped place c ps ∙ (ap (omitted c) (sym is) ∙ omitted_map place c xs)

left_set : {C : Type 0} (place : C → Place) (c : Setting C) (o : Option C) (p : Option Place) → option_map place o ≡ p → set_omitted (mapped_setting place c) p ≡ option_map place (set_omitted c o)
left_set place same o p is = refl
left_set place (to None) o p is = sym is
left_set place (to (Some x)) o p is = sym is

left_dir_is : (c : DirectoryChange) (o : Option DirItem) (p : Option Place) → option_map directory_place o ≡ p → left_dir c p ≡ left_directory c o
left_dir_is Kept o p is = refl
left_dir_is Patched o p is = refl
left_dir_is (New d) o p is = ap option_to_list (sym is)

abbrev pub gone_of : CodeChange → Index → List Place
gone_of c x = left_directory c.directory x.directory ++ (map tile_place (omitted (acts_of c.tiles.items) x.tiles.items) ++ (left_directory c.attdir x.attdir ++ (map att_item_place (omitted (acts_of c.attachments.items) x.attachments.items)
    ++ option_to_list (option_map meta_item_place (set_omitted (setting_of c.metadata) x.metadata)))))

pub gone_are : (c : CodeChange) (l : Layout) (x : Index) → LiesAs l x → gone_places c l ≡ gone_of c x
gone_are c l x lies =
    let a : left_dir c.directory l.directory ≡ left_directory c.directory x.directory = left_dir_is c.directory x.directory l.directory lies.directory in
    let b : omitted (mapped tile_place (acts_of c.tiles.items)) l.subblocks ≡ map tile_place (omitted (acts_of c.tiles.items) x.tiles.items) = left_list tile_place (acts_of c.tiles.items) x.tiles.items l.subblocks lies.subblocks in
    let e : left_dir c.attdir l.attdir ≡ left_directory c.attdir x.attdir = left_dir_is c.attdir x.attdir l.attdir lies.attdir in
    let f : omitted (mapped att_item_place (acts_of c.attachments.items)) l.attachments ≡ map att_item_place (omitted (acts_of c.attachments.items) x.attachments.items)
    = left_list att_item_place (acts_of c.attachments.items) x.attachments.items l.attachments lies.attachments in
    let g : set_omitted (mapped_setting meta_item_place (setting_of c.metadata)) l.metadata ≡ option_map meta_item_place (set_omitted (setting_of c.metadata) x.metadata) = left_set meta_item_place (setting_of c.metadata) x.metadata l.metadata lies.metadata in
    λ j. a j ++ (b j ++ (e j ++ (f j ++ option_to_list (g j))))

-- and of those that can't be used again
dead_split : (xs ys : List Place) → dead_of (xs ++ ys) ≡ dead_of xs ++ dead_of ys
dead_split xs ys = spans_split (λ (p : Place). not (can_be_used p)) xs ys

dead_parts : (P : Span → Type 0) (xs ys : List Place) → AllByRecursion P (dead_of (xs ++ ys)) → AllByRecursion P (dead_of xs) × AllByRecursion P (dead_of ys)
dead_parts P xs ys all = All-append P (dead_of xs) (dead_of ys) (subst (AllByRecursion P) (dead_split xs ys) all)

dead_both : (P : Span → Type 0) (xs ys : List Place) → AllByRecursion P (dead_of xs) → AllByRecursion P (dead_of ys) → AllByRecursion P (dead_of (xs ++ ys))
dead_both P xs ys a b = subst (AllByRecursion P) (sym (dead_split xs ys)) (All-both P (dead_of xs) (dead_of ys) a b)

dead_heads : (xs ys : List Place) (q : ℕ) → cover (map head (dead_of (xs ++ ys))) q ≡ cover (map head (dead_of xs)) q + cover (map head (dead_of ys)) q
dead_heads xs ys q = ap (λ l. cover (map head l) q) (dead_split xs ys) ∙ (ap (λ l. cover l q) (map-append head (dead_of xs) (dead_of ys)) ∙ cover-append (map head (dead_of xs)) (map head (dead_of ys)) q)

pub dead_all : (P : Span → Type 0) (c : CodeChange) (x : Index) → AllByRecursion P (dead_of (left_places c x)) → AllByRecursion P (dead_of (gone_of c x))
dead_all P c x all =
    let D : List Place = left_directory c.directory x.directory in
    let T : List Place = map tile_place (omitted (acts_of c.tiles.items) x.tiles.items) in
    let A : List Place = left_directory c.attdir x.attdir in
    let B : List Place = map att_item_place (omitted (acts_of c.attachments.items) x.attachments.items) in
    let M : List Place = option_to_list (option_map meta_item_place (set_omitted (setting_of c.metadata) x.metadata)) in
    let two = dead_parts P (T ++ (B ++ M)) (D ++ A) all in
    let items = dead_parts P T (B ++ M) two.0 in
    let rest = dead_parts P B M items.1 in
    let dirs = dead_parts P D A two.1 in
    dead_both P D (T ++ (A ++ (B ++ M))) dirs.0 (dead_both P T (A ++ (B ++ M)) items.0 (dead_both P A (B ++ M) dirs.1 (dead_both P B M rest.0 rest.1)))

pub dead_cover : (c : CodeChange) (x : Index) (q : ℕ) → cover (map head (dead_of (gone_of c x))) q ≡ cover (map head (dead_of (left_places c x))) q
dead_cover c x q =
    let D : List Place = left_directory c.directory x.directory in
    let T : List Place = map tile_place (omitted (acts_of c.tiles.items) x.tiles.items) in
    let A : List Place = left_directory c.attdir x.attdir in
    let B : List Place = map att_item_place (omitted (acts_of c.attachments.items) x.attachments.items) in
    let M : List Place = option_to_list (option_map meta_item_place (set_omitted (setting_of c.metadata) x.metadata)) in
    omega (
      arith,
      dead_heads D (T ++ (A ++ (B ++ M))) q,
      dead_heads T (A ++ (B ++ M)) q,
      dead_heads A (B ++ M) q,
      dead_heads B M q,
      dead_heads (T ++ (B ++ M)) (D ++ A) q,
      dead_heads T (B ++ M) q,
      dead_heads D A q,
    )

-- and of the items alone
abbrev pub brought_items : CodeChange → List Place
brought_items c = brought (mapped tile_place (acts_of c.tiles.items)) ++ (brought (mapped att_item_place (acts_of c.attachments.items)) ++ option_to_list (set_new (mapped_setting meta_item_place (setting_of c.metadata))))

pub items_left_after : (c : CodeChange) (deleted : List Span) (n : ℕ) (l : Layout) (x : Index) → LiesAs l x → ((q : ℕ) → cover (item_spans (items_of l)) q + cover (spans_of (brought_items c)) q ≤ 1) → AllByRecursion (λ (y : Place). 0 < y.span.len) (item_places (items_of l))
    → not_among (item_spans (items_of (layout_after c deleted n l))) (item_places (items_of l)) ≡ left_items c x
items_left_after c deleted n l x lies apart some =
    let all = turns_both _ _ _ _ _ _ _ _ _ _ (turns_list (mapped tile_place (acts_of c.tiles.items)) l.subblocks)
    (turns_both _ _ _ _ _ _ _ _ _ _ (turns_list (mapped att_item_place (acts_of c.attachments.items)) l.attachments) (turns_set (mapped_setting meta_item_place (setting_of c.metadata)) l.metadata)) in
    turns_left (item_places (items_of l)) _ _ (brought_items c) (item_places (items_of (layout_after c deleted n l))) all apart some
    ∙ (λ j. left_list tile_place (acts_of c.tiles.items) x.tiles.items l.subblocks lies.subblocks j
    ++ (left_list att_item_place (acts_of c.attachments.items) x.attachments.items l.attachments lies.attachments j ++ option_to_list (left_set meta_item_place (setting_of c.metadata) x.metadata l.metadata lies.metadata j)))

-- so the items of an index that aren't live afterwards are those that leave
pub items_leave_after : (c : CodeChange) (deleted : List Span) (n : ℕ) (l : Layout) (x : Index) → LiesAs l x → ((q : ℕ) → cover (spans_of (places_of x)) q + cover (spans_of (brought_places c)) q ≤ 1)
    → not_among (item_spans (items_of (layout_after c deleted n l))) (item_places (items_of l)) ≡ left_items c x
items_leave_after c deleted n l x lies apart =
    let D : List Place = option_to_list l.directory in
    let A : List Place = option_to_list l.attdir in
    let M : List Place = l.attachments ++ option_to_list l.metadata in
    let P : Place → Type 0 = λ p. 0 < p.span.len in
    let some : AllByRecursion P (live_places l) = subst (AllByRecursion P) (sym (places_are l x lies)) (places_some x) in
    let behind = All-append P D (l.subblocks ++ (A ++ M)) some in
    let tiles = All-append P l.subblocks (A ++ M) behind.1 in
    items_left_after c deleted n l x lies (λ q. omega (
      arith,
      apart q,
      ap (λ ps. cover (spans_of ps) q) (places_are l x lies),
      both_cover D (l.subblocks ++ (A ++ M)) q,
      both_cover l.subblocks (A ++ M) q,
      both_cover A M q,
      both_cover l.subblocks M q,
      fewer_items q,
    )) (All-both P l.subblocks M tiles.0 (All-append P A M tiles.1).1)
  where
    fewer_items : (q : ℕ) → cover (spans_of (brought_items c)) q ≤ cover (spans_of (brought_places c)) q
    fewer_items q =
        let T : List Place = brought (mapped tile_place (acts_of c.tiles.items)) in
        let N : List Place = brought (mapped att_item_place (acts_of c.attachments.items)) ++ option_to_list (set_new (mapped_setting meta_item_place (setting_of c.metadata))) in
        omega (arith, both_cover T N q, both_cover (new_dir c.directory) (T ++ (new_dir c.attdir ++ N)) q, both_cover T (new_dir c.attdir ++ N) q, both_cover (new_dir c.attdir) N q)

new_cover : (d : DirectoryChange) (q : ℕ) → cover (spans_of (new_dir d)) q ≡ cover (used_by d) q
new_cover Kept q = refl
new_cover Patched q = refl
new_cover (New d) q = refl

-- What an act on a list is to the machine, whatever it is of.
module _ {C E S T : Type 0} {k : Kind C E S} {effect : Change S → DocumentEffect} (L : Laws k) (M : Machine T k effect) {image : List ℕ} {live : Live} {s : State} {x : Index} {m : MapState} {a : CodeAct C} {o : Origin (Change S)} {region : Region} {d : DirectoryChange} {new : EditPlan} (lies : LiesIn image live s x m) (is : IsMapOf x m) (plan : IsPlan x m region new) (r : Changes k x m a o region d new) where
  abbrev ts : List C
  ts = k.items x

  abbrev first : EditPlan
  first = r.stages.first

  abbrev all : List E
  all = all_entries k a x

  abbrev size : ℕ
  size = size_after k a x

  abbrev range : ℕ
  range = range_after k a x

  abbrev ours : List Bytes
  ours = writes_of region first ++ writes_by k d all

  abbrev pub pieces : List Piece
  pieces = map piece_of (ours ++ new.links.links)

  abbrev pub here : Bool
  here = fits_in_place (k.directory x) size range

  abbrev pub rest : Space
  rest = use_all (space_of s) (needed_in k a o)

  -- what becomes of the list, and of its directory
  abbrev pub acts : List (Act T)
  acts = mapped M.live (act_of a)

  abbrev pub entries_then : List E
  entries_then = map M.entry (changed acts (map M.live ts))

  abbrev pub dir_then : Setting Directory
  dir_then = directory_set (λ z. dir_in k z entries_then) d (k.directory x)

  pub turned : live_change_of new.change x ≡ M.set_turn dir_then acts
  turned = M.turn new.change x a d r.stages.change

  new_items : brought acts ≡ map M.live (tiles_brought a)
  new_items = brought_images M.live a

  live_spans_of : (cs : List C) → map (λ t. extent (M.segment t)) (map M.live cs) ≡ map (span_in k) cs
  live_spans_of [] = refl
  live_spans_of (t ∷ cs) = λ j. (let same : extent (M.segment (M.live t)) ≡ span_in k t = ap extent (M.same_segment t) ∙ (λ i. record { at = L.at t i; len = sym (L.extent t) i }) in same j) ∷ live_spans_of cs j

  pub new_extents : map (λ t. extent (M.segment t)) (brought acts) ≡ new_spans k a
  new_extents = ap (map (λ t. extent (M.segment t))) new_items ∙ live_spans_of (tiles_brought a)

  entries_same : (cs : List C) → map M.entry (map M.live cs) ≡ entries_in k cs
  entries_same [] = refl
  entries_same (t ∷ cs) = λ j. M.same_entry t j ∷ entries_same cs j

  entries_are : entries_then ≡ all
  entries_are =
      ap (map M.entry) (sym (map-changed M.live M.live (act_of a) ts (each_of (λ t. M.live t ≡ M.live t) (λ t. refl) (kept (act_of a) ts))))
      ∙ (entries_same (changed (act_of a) ts) ∙ entries_after_act k a ts)

  pub placed_in : IsPlace x (k.directory x) size range rest d
  placed_in = subst (λ z. IsPlace x (k.directory x) size range (use_all z (needed_in k a o)) d) lies.space r.stages.begins.place

  -- the length afterwards, and the extents
  pub length_there : (space_by d rest).length ≡ new.length
  length_there = space_length d rest ∙ sym (r.long ∙ ap (λ (z : Space). length_by d (use_all z (needed_in k a o)).length) lies.space)

  pub deleted_there : (left : List Place) → left ≡ all_left k a d x → deleted_after (used_in k a o ++ used_by d) (spans_of (filter can_be_used left)) s.layout.deleted ≡ extents_after new s.layout.deleted
  deleted_there left are = (λ j. deleted_after (sym r.used j) (usable_of (are j)) s.layout.deleted)
      ∙ (ap (λ z. with_all_freed z (without (used_of new) s.layout.deleted)) (sym (sorted_again (usable_of (all_left k a d x)))) ∙ ap (λ (f : List Span). deleted_after (used_of new) f s.layout.deleted) (sym r.stages.freed))

  -- What is written is what the machine asks for.
  pub apart_places : (q : ℕ) → cover (spans_of (places_of x)) q + cover (spans_of (brought_places new.change)) q ≤ 1
  apart_places q = omega (
    arith,
    used_apart L x m a o d q is r.marks.comes r.marks.found,
    cover-append (new_spans k a) (used_by d) q,
    ap (λ l. cover l q) (places_spans x),
    ap (λ l. cover (spans_of l) q) (M.comes new.change a d r.stages.change),
    both_cover (new_dir d) (map k.place (tiles_brought a)) q,
    ap (λ l. cover l q) (place_spans k.place (tiles_brought a)),
    new_cover d q,
  )

  -- the items that leave
  pub items_leave : not_among (item_spans (items_of (layout_by new s))) (item_places (items_of s.layout)) ≡ left_items new.change x
  items_leave = items_leave_after new.change (extents_after new s.layout.deleted) new.length s.layout x lies.lies apart_places

  gone_is : dead s.layout (layout_by new s) ≡ dead_of (gone_of new.change x)
  gone_is = ap (λ (ps : List Place). dead_of ps) (left_after new.change (extents_after new s.layout.deleted) new.length s.layout x lies.lies apart_places ∙ gone_are new.change s.layout x lies.lies)

  pointed : PointsTo k.id (M.position live) (M.live_dir live)
  pointed = (M.holds image live s x m lies).2

  dir_at : lies_at (k.directory x) ≡ extent_of (M.live_dir live)
  dir_at = (M.holds image live s x m lies).1

  dir_is : directory_set (λ z. dir_in k z all) d (k.directory x) ≡ dir_then
  dir_is = ap (λ es. directory_set (λ z. dir_in k z es) d (k.directory x)) (sym entries_are)

  lists_dir : ListsItems k pieces dir_then (M.live_dir live) (map M.entry (M.live_items live)) (map M.entry (changed acts (M.live_items live)))
  lists_dir =
      let held = (M.holds image live s x m lies).0 in
      let were : map M.entry (M.live_items live) ≡ front_entries k a ts ++ (old_entries k a ts ++ back_entries k a ts) = ap (map M.entry) (sym held) ∙ (entries_same ts ∙ entries_before_act k a ts) in
      let are : map M.entry (changed acts (M.live_items live)) ≡ all = ap (λ l. map M.entry (changed acts l)) (sym held) ∙ entries_are in
      subst (λ z. ListsItems k pieces z (M.live_dir live) (map M.entry (M.live_items live)) (map M.entry (changed acts (M.live_items live)))) dir_is
      (dir_listed L (k.directory x) d (front_entries k a ts) (old_entries k a ts) (middle_entries k a ts) (back_entries k a ts) (M.position live) (M.live_dir live) _ _ r.dir were are (back_stays k a ts) dir_at pointed)

  -- what is put of what is brought
  pub heads_put : AllByRecursion (IsPut pieces) (writes_of region first) × AllByRecursion (IsPut pieces) (new_marks k a)
  heads_put = before_put L r.dir

  -- where that lies which it brings
  pub lies_anew : (q : ℕ) → cover (map extent (new_segments (M.set_turn dir_then acts))) q ≡ cover (new_spans k a) q + cover (written_dir d (k.directory x)) q
  lies_anew q =
      let firsts : map extent (map M.segment (brought acts)) ≡ new_spans k a = map-map M.segment extent (brought acts) ∙ new_extents in
      omega (arith, M.news dir_then acts q, ap (λ l. cover l q) firsts, ap (λ l. cover l q) (set_spans (λ z. dir_in k z entries_then) d (k.directory x) (directory_in_own k entries_then)))

  writes_in : WritesAround live.header (M.set_turn dir_then acts) s.layout (layout_by new s) pieces
  writes_in =
      let extents : m.extents ≡ s.layout.deleted = sym is.extents ∙ lies.lies.deleted in
      let after : deleted_after (used_in k a o ++ used_by d) (freed_by k a d x) m.extents ≡ (layout_by new s).deleted = λ j. deleted_after (sym r.used j) (sym r.stages.freed j) (extents j) in
      let heads : (q : ℕ) → cover (map head (dead s.layout (layout_by new s))) q ≡ cover (map head (dead_of (all_left k a d x))) q
      = λ q. ap (λ l. cover (map head l) q) gone_is ∙ (dead_cover new.change x q ∙ ap (λ l. cover (map head (dead_of l)) q) r.leaves) in
      let lie : (q : ℕ) → cover (used_in k a o) q + cover (beside_in k a o) q + cover (written_dir d (k.directory x)) q ≤ cover (map extent (new_segments (M.set_turn dir_then acts))) q
      = λ q. omega (arith, brought_covers L a o q, lies_anew q) in
      M.around live s.layout (layout_by new s) dir_then acts pieces
      (subst (PutsPointer (λ (y : Directory). y.segment) pieces k.pointer (M.position live)) dir_is (dir_pointer L (k.directory x) d (front_entries k a ts) (middle_entries k a ts) (back_entries k a ts) (M.position live) (M.live_dir live) r.dir dir_at pointed))
      (λ q low other. header_clear L r.dir q low (pointer_none k.pointer q d other))
      (λ q b put. subst (λ l. 1 ≤ cover (record { at = 84; len = 16 } ∷ record { at = 104; len = 8 } ∷ (map extent (new_segments (M.set_turn dir_then acts)) ++ map head (l ++ dead s.layout (layout_by new s)))) q) after
      (dir_writable L r.dir (dead s.layout (layout_by new s)) (map extent (new_segments (M.set_turn dir_then acts))) q b (heads q) (lie q) put))
      (subst (λ (l : List Span). AllByRecursion (PutsDeleted l pieces) (layout_by new s).deleted) extents (subst (AllByRecursion (PutsDeleted m.extents pieces)) after (deleted_put L r.dir)))
      (subst (AllByRecursion (PutsHead pieces)) (sym gone_is) (dead_all (PutsHead pieces) new.change x (subst (λ (l : List Place). AllByRecursion (PutsHead pieces) (dead_of l)) (sym r.leaves) r.dir.written.puts_dead)))

  pub pieces_are : pieces_of region new ≡ pieces
  pieces_are = ap (λ (l : List Bytes). map piece_of (l ++ new.links.links)) r.writes

  pub plans_of : (c : Change S) → Both (M.Brought image pieces) acts c → Plans image s.layout (layout_by new s) live (effect c) (live_change_of new.change x) (pieces_of region new)
  plans_of c both =
      subst (λ z. Plans image s.layout (layout_by new s) live (effect c) z (pieces_of region new)) (sym turned)
      (subst (λ l. Plans image s.layout (layout_by new s) live (effect c) (M.set_turn dir_then acts) l) (sym pieces_are)
      (M.plans image live s.layout (layout_by new s) c dir_then acts pieces lists_dir both writes_in (omega (arith, plan.can.small))))

-- What an act of an edit is to it.
module _ {C E S T : Type 0} {k : Kind C E S} {effect : Change S → DocumentEffect} (L : Laws k) (M : Machine T k effect) {image : List ℕ} {live : Live} {s : State} {x : Index} {m : MapState} {a : CodeAct C} {c : Change S} {region : Region} {d : DirectoryChange} {new : EditPlan} (lies : LiesIn image live s x m) (is : IsMapOf x m) (plan : IsPlan x m region new) (r : Changes k x m a (edited c) region d new) where
  abbrev writes : List (ℕ × Range)
  writes = r.stages.first.writes.items

  brings : BringsNew k x m region a c writes
  brings = r.stages.begins.brings

  of_act : IsAct k x m a c
  of_act = is_act L x m region a c writes brings

  asked : Asks M x s of_act.act
  asked = asks L M image live s x m of_act.act lies is (of_act.within (length (k.items x)) r.stages.within)

  abbrev remains : Space
  remains = use_all (space_of s) (new_spans k a)

  stays_here : M.stay s (effect c) ≡ here L M lies is plan r
  stays_here = ap (λ z. M.stay s (effect z)) of_act.is ∙ (asked.stays ∙ (λ j. fits_in_place (k.directory x) (sym of_act.size j) (sym of_act.range j)))

  -- The needs fit, and lie where the plan has them.
  needs_fit : fit_all (space_of s) (needs_of s (effect c)) ≡ Ok (record { spans = used_of new; space = space_by d remains })
  needs_fit =
      let fits = act_fits L M x m of_act.act (new_spans k a) (size_after k a x) (range_after k a x) d of_act.fits of_act.size of_act.range r.stages.begins.place in
      (λ j. fit_all (sym lies.space j) (needs_of s (effect (of_act.is j))))
      ∙ (ap (fit_all (space_in m)) asked.needs ∙ (fits ∙ (λ j. Ok (record { spans = sym r.used j; space = space_by d (use_all (lies.space j) (new_spans k a)) }))))

  lies_in_order : LiesInOrder s (effect c) (live_change_of new.change x) (used_of new)
  lies_in_order =
      let then' = dir_then L M lies is plan r in
      let acts' = acts L M lies is plan r in
      let entries' = entries_then L M lies is plan r in
      let there = M.lies s.layout x lies.lies in
      let own = directory_in_own k entries' in
      let make : Span → Directory = λ z. dir_in k z entries' in
      let stays = stays_or_new make x (k.directory x) (size_after k a x) (range_after k a x) (space_behind k a (edited c) m) d own r.stages.begins.place in
      let spans : used_by d ≡ directory_spans (here L M lies is plan r) then' = directory_spans_are make x (k.directory x) (size_after k a x) (range_after k a x) (space_behind k a (edited c) m) d own r.stages.begins.place in
      let both : Both (λ x y. ⊤) acts' c = brings_act k M.live (λ x y. ⊤) x m region a c writes brings (λ s t one new staged. tt) in
      let ordered = M.order s c then' acts' both (subst (λ b. StaysOrNew b (M.dir_place s.layout) then') (sym stays_here) (subst (λ o. StaysOrNew (here L M lies is plan r) o then') there.1 stays)) in
      let lie : map (λ t. extent (M.segment t)) (brought acts') ++ directory_spans (M.stay s (effect c)) then' ≡ used_of new
      = (λ j. new_extents L M lies is plan r j ++ directory_spans (stays_here j) then') ∙ (ap (λ l. new_spans k a ++ l) (sym spans) ∙ sym r.used) in
      subst (λ z. LiesInOrder s (effect c) z (used_of new)) (sym (turned L M lies is plan r)) (subst (LiesInOrder s (effect c) (M.set_turn then' acts')) lie ordered)

  -- The layout is the machine's.
  lays : laid s (edit_asks s (effect c)) ≡ Ok (layout_by new s)
  lays =
      let l : Layout = s.layout in
      let there = M.lies l x lies.lies in
      let size = size_after k a x in
      let range = range_after k a x in
      let placed' = placed_in L M lies is plan r in
      let item : Fitted (List (Act Place)) = record { places = act_of (act_as k.place a); back = []; used = new_spans k a; space = remains } in
      let dir : Fitted (Option Place) = record { places = place_after d (option_map directory_place (k.directory x)); back = []; used = used_by d; space = space_by d remains } in
      let changing : changes c (length (M.places l)) ≡ true = subst (λ z. changes z (length (M.places l)) ≡ true) (sym of_act.is) asked.changing in
      let sized : need_of (k.head + sum (map k.len_of (changed c (M.contents s.document)))) ≡ need_of size
      = ap need_of (ap (λ z. k.head + sum (map k.len_of (changed z (M.contents s.document)))) of_act.is ∙ (asked.size ∙ sym of_act.size)) in
      let fits : fit_brought l (space_of s) k.need c ≡ Ok item
      = subst (λ z. fit_brought l z k.need c ≡ Ok (record { places = act_of (act_as k.place a); back = []; used = new_spans k a; space = use_all z (new_spans k a) })) lies.space (fit_act k x m l region a c writes lies.lies brings) in
      let dir_is : directory_laid l remains (M.dir_place l) (M.stay s (effect c)) (need_of (k.head + sum (map k.len_of (changed c (M.contents s.document))))) ≡ Ok dir
      = (λ j. directory_laid l remains (sym there.1 j) (stays_here j) (sized j)) ∙ directory_lies x l (k.directory x) size range remains d (new_walked x l (k.directory x) size range remains d lies.lies placed') placed' in
      let leaves : omitted c (M.places l) ≡ items_left k a x = (λ j. omitted (of_act.is j) (sym there.0 j)) ∙ (omitted_act of_act.act (map k.place (k.items x)) ∙ of_act.leaves) in
      let left : omitted c (M.places l) ++ directory_left (M.stay s (effect c)) (M.dir_place l) ≡ all_left k a d x
      = λ j. leaves j ++ ((λ i. directory_left (stays_here i) (sym there.1 i)) ∙ left_by x (k.directory x) size range remains d placed') j in
      M.row s c item dir (layout_apart l x lies.lies) changing fits dir_is
      ∙ ((λ j. Ok (M.set_list l (place_after d (there.1 j)) (changed (sym (mapped_act k.place a) j) (M.places l)) (length_there L M lies is plan r j) (deleted_there L M lies is plan r _ left j))) ∙ ap (λ z. Ok z) (sym (M.layout_is new s a d r.stages.change)))

  -- a new item is written
  writes_item : (z : S) (t : C) → tiles_brought a ≡ t ∷ [] → IsNew k x m z t → IsStaged k region z t writes → M.Brought image (pieces L M lies is plan r) (M.live t) z
  writes_item z t one new' staged =
      let ps = pieces L M lies is plan r in
      let put = heads_put L M lies is plan r in
      let mark : AllByRecursion (IsPut ps) (head_mark (k.segment t) ∷ []) = subst (AllByRecursion (IsPut ps)) (ap (map (λ u. head_mark (k.segment u))) one) put.1 in
      let write = subst (AllByRecursion (IsPut ps)) (item_writes region z t writes staged) put.0 in
      M.brings image ps t z staged.padding new'.item new'.used (record { head = mark.0.1; contents = subst (λ n. Puts ps (n + 32) (k.contents t z staged.padding)) (sym (L.at t)) write.0.1; whole = item_long L region z t writes staged })

  plans : Plans image s.layout (layout_by new s) live (effect c) (live_change_of new.change x) (pieces_of region new)
  plans = plans_of L M lies is plan r c (brings_act k M.live (M.Brought image (pieces L M lies is plan r)) x m region a c writes brings writes_item)

-- So the plan does what the act is.
pub does : {C E S T : Type 0} {k : Kind C E S} {effect : Change S → DocumentEffect} (L : Laws k) (M : Machine T k effect) (x : Index) (m : MapState) (a : CodeAct C) (c : Change S) (region : Region) (d : DirectoryChange) (new : EditPlan) → IsMapOf x m → Stages k x m a (edited c) region d new
    → Does x m region new (effect c)
does {k = k} L M x m a c region d new is stages image live s lies =
    let r = changes_of L x m a (edited c) region d new is stages in
    let plan = plan_of L x m a (edited c) region d new is r in
    record {
      space = space_by d (use_all (space_of s) (new_spans k a));
      fits = needs_fit L M lies is plan r;
      length = r.long ∙ (ap (λ (z : Space). length_by d (use_all z (new_spans k a)).length) lies.space ∙ sym (space_length d (use_all (space_of s) (new_spans k a))));
      order = lies_in_order L M lies is plan r;
      goes = lays L M lies is plan r;
      plans = plans L M lies is plan r;
      leaves = items_leave L M lies is plan r;
    }
