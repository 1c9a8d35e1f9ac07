-- The plan of an act on the subblocks: what is used, freed and written, and that it can be carried out.
use Rattle.std.proofs.Common.{◌≡◌, ℕ, ◌+◌, ◌≤◌, List, [], ◌∷◌, ◌++◌, map, length, true, false, Bool, Option, Some, None, option_map, option_to_list, refl, ap, sym, ◌∙◌, subst, arith, max}
use Rattle.std.specs.List.{AllByRecursion, list_any}
use Rattle.czi_format.specs.Space.{deleted_after, with_all_freed, with_freed, without, use_all}
use Rattle.czi_format.specs.Span.{AreDisjoint, Span, end_of, is_aligned, meets, span_le, sorted, IsWhole}
use Rattle.std.proofs.lemmas.List.{length-map}
use Rattle.czi_format.proofs.Local.{All-append}
use Rattle.czi_image.specs.Applied.{CanChange, directory_after, live_after}
use Rattle.czi_image.specs.Change.{act_of}
use Rattle.czi_image.specs.Spans.{AreFree, directory_span, header_span}
use Rattle.czi_image.specs.declared.change.Act.TheVariants.{Out, Put, Into}
use Rattle.czi_image.specs.declared.change.DirectoryChange.{DirectoryChange}
use Rattle.czi_image.specs.declared.change.DirectoryChange.TheVariants.{Kept, Patched, New}
use Rattle.czi_image.specs.declared.index.Index.{Index}
use Rattle.czi_image.specs.declared.types.DirItem.{DirItem}
use Rattle.czi_links.specs.Record.{Bytes, end_of as link_end}
use Rattle.czi_machine.specs.Change.{changed, Change}
use Rattle.czi_machine.specs.Cover.{cover}
use Rattle.czi_machine.specs.Places.{can_be_used}
use Rattle.czi_machine.specs.State.{spans_of}
use Rattle.czi_machine.proofs.Cover.{cover-append, cover-deleted_after, cover-sorted}
use Rattle.czi_machine.proofs.Keeps.{whole_aligned}
use Rattle.czi_machine.proofs.Leaving.{cover-split}
use Rattle.czi_machine.proofs.Tiled.{All-both, All-weaken}
use Rattle.czi_num.specs.Span.{span_of}
use Rattle.czi_region.specs.Pieces.{IsPiece}
use Rattle.czi_region.specs.declared.block.Piece.{Piece as Range}
use Rattle.czi_region.specs.declared.block.Region.{Region}
use Rattle.czi_space.specs.State.{AreExtents, MapState, space_of}
use Rattle.czi_space.proofs.Freed.{freed_extents}
use Rattle.czi_plan.specs.Conditions.{IsMapOf, live_of}
use Rattle.czi_plan.specs.Geometry.{AreFreed, IsLong}
use Rattle.czi_plan.specs.Listing.{IsPlace}
use Rattle.czi_plan.specs.Marks.{AreInOrder}
use Rattle.czi_plan.specs.Pieces.{AreNear, bytes_in, last_end, piece_of, writes_of}
use Rattle.czi_plan.specs.Plan.{IsPlan, LiesFree, dead_of, extents_after, left_directory, left_items, left_places, usable_of, used_of}
use Rattle.czi_plan.specs.declared.plan.EditPlan.{EditPlan}
use Rattle.czi_plan.proofs.Directing.{WritesDir, are_written}
use Rattle.czi_plan.proofs.Order.{extents_apart, used_stay}
use Rattle.czi_plan.proofs.Parts.{IsFound, act_spans, all_within, beside_of, brought_by, brought_covers, extents_ends, extents_whole, item_found, left_cover, length_after, length_by, length_small, map_extents, meets_none, new_found, used_apart, used_by, used_free}
use Rattle.czi_plan.proofs.Linking.{ActMarks, AreOwn, AreWhole, act_marks, all_entries, brought_long, can_link, links_brief, links_rise, links_within, data_by, item_long, item_writes, marks_by, pieces_once, writes_by}
use Rattle.czi_plan.proofs.KindLaws.{Laws}
use Rattle.czi_plan.specs.Kind.{Kind, span_in}
use Rattle.czi_image.specs.declared.change.Act.{Act as CodeAct}
use Rattle.czi_plan.specs.Changing.{Begins, Brings, BringsNew, IsNew, IsStaged, Origin, Stages, all_left, back_entries, beside_in, edited, front_entries, items_left, middle_entries, needed_in, new_marks, new_spans, range_after, returned, size_after, space_behind, tiles_before, tiles_behind, tiles_brought, tiles_leaving, used_in}
use Rattle.czi_plan.proofs.Acts.{changed_act, entries_after_act, map-three, omitted_act}

pub disjoint_once : (xs : List Span) → ((q : ℕ) → cover xs q ≤ 1) → AreDisjoint xs
disjoint_once [] once = tt
disjoint_once (x ∷ xs) once = (meets_none x xs once, disjoint_once xs (λ q. omega (arith, once q)))

none_any : (p : Span → Bool) (xs : List Span) → AllByRecursion (λ t. p t ≡ false) xs → list_any p xs ≡ false
none_any p [] all = refl
none_any p (x ∷ xs) all = let none : p x ≡ false = all.0 in rw none (none_any p xs all.1)

pub clear_once : (live es : List Span) → ((q : ℕ) → cover live q + cover es q ≤ 1) → AllByRecursion (λ s. list_any (meets s) live ≡ false) es
clear_once live [] once = tt
clear_once live (e ∷ es) once = (none_any (meets e) live (meets_none e live (λ q. omega (arith, once q))), clear_once live es (λ q. omega (arith, once q)))

-- What is written before the commit, from an end on, and the end then.
pub record WriteWell (m : MapState) (from to : ℕ) (ws : List Bytes) : Type 0 where
  pub free : AllByRecursion (LiesFree m) ws
  pub far : AllByRecursion (λ (w : Bytes). 112 ≤ w.place) ws
  pub near : AreNear from ws
  pub last : last_end from ws ≡ to

pub no_well : (m : MapState) (from : ℕ) → WriteWell m from from []
no_well m from = record { free = tt; far = tt; near = tt; last = refl }

-- the data of a new segment
pub one_well : (x : Index) (m : MapState) (used : List Span) (end : ℕ) (s : Span) (w : Bytes) → IsMapOf x m → IsFound m.length m.held m.extents used end s → 112 ≤ s.at → w.place ≡ s.at + 32 → 32 + length w.bytes ≡ s.len → WriteWell m end (max end (end_of s)) (w ∷ [])
one_well x m used end s w is found far at long = record {
  free = (λ q low high. used_free m.length m.held m.extents s q (map_extents x m is) found.is_used (omega (arith, low, at)) (omega (arith, high, at, long)), tt);
  far = (omega (arith, far, at), tt);
  near = (omega (arith, found.near, at), tt);
  last = omega (arith, at, long);
}

near_both : (from : ℕ) (xs ys : List Bytes) → AreNear from xs → AreNear (last_end from xs) ys → AreNear from (xs ++ ys)
near_both from [] ys a b = b
near_both from (x ∷ xs) ys a b = (a.0, near_both (max from (link_end x)) xs ys a.1 b)

last_both : (from : ℕ) (xs ys : List Bytes) → last_end from (xs ++ ys) ≡ last_end (last_end from xs) ys
last_both from [] ys = refl
last_both from (x ∷ xs) ys = last_both (max from (link_end x)) xs ys

both_well : (m : MapState) (from end to : ℕ) (xs ys : List Bytes) → WriteWell m from end xs → WriteWell m end to ys → WriteWell m from to (xs ++ ys)
both_well m from end to xs ys a b = record {
  free = All-both (LiesFree m) xs ys a.free b.free;
  far = All-both (λ (w : Bytes). 112 ≤ w.place) xs ys a.far b.far;
  near = near_both from xs ys a.near (subst (λ n. AreNear n ys) (sym a.last) b.near);
  last = last_both from xs ys ∙ (ap (λ n. last_end n ys) a.last ∙ b.last);
}

-- the extents afterwards
pub freed_stay : (n : ℕ) (freed es : List Span) → AreExtents 0 n es → AreFreed n freed es → AreExtents 0 n (with_all_freed freed es)
freed_stay n [] es rise all = rise
freed_stay n (s ∷ freed) es rise all = freed_stay n freed (with_freed s es) (freed_extents 0 n s es rise all.0 all.1 (omega arith) all.2) all.3

dir_changes : (c : DirectoryChange) (o : Option DirItem) (q : ℕ) → cover (option_to_list (option_map directory_span (directory_after c o))) q + cover (spans_of (left_directory c o)) q ≡ cover (option_to_list (option_map directory_span o)) q + cover (used_by c) q
dir_changes Kept o q = refl
dir_changes Patched o q = refl
dir_changes (New d) None q = omega arith
dir_changes (New d) (Some e) q = omega arith

three_cover : (xs ys zs : List Span) (q : ℕ) → cover (xs ++ (ys ++ zs)) q ≡ cover xs q + (cover ys q + cover zs q)
three_cover xs ys zs q = omega (arith, cover-append xs (ys ++ zs) q, cover-append ys zs q)

dir_ends : (n : ℕ) (c : DirectoryChange) (o : Option DirItem) → AllByRecursion (λ (s : Span). end_of s ≤ n) (option_to_list (option_map directory_span o)) → AllByRecursion (λ (s : Span). end_of s ≤ n) (used_by c)
    → AllByRecursion (λ (s : Span). end_of s ≤ n) (option_to_list (option_map directory_span (directory_after c o)))
dir_ends n Kept o all new = all
dir_ends n Patched o all new = all
dir_ends n (New d) o all new = new

-- what is freed, and what can't be used again
abbrev pub freed_by : {C E S : Type 0} → Kind C E S → CodeAct C → DirectoryChange → Index → List Span
freed_by k a d x = sorted span_le (usable_of (all_left k a d x))

-- the marks of an act
abbrev pub marks_of : {C E S : Type 0} → Kind C E S → CodeAct C → DirectoryChange → Index → List Bytes
marks_of k a d x = new_marks k a ++ marks_by k (k.directory x) d (front_entries k a (k.items x)) (middle_entries k a (k.items x)) (back_entries k a (k.items x))

-- The plan of an act: what is used and written, and what leaves.
pub record Changes {C E S : Type 0} (k : Kind C E S) (x : Index) (m : MapState) (a : CodeAct C) (o : Origin (Change S)) (region : Region) (d : DirectoryChange) (new : EditPlan) : Type 0 where
  pub stages : Stages k x m a o region d new
  pub marks : ActMarks k x m a o region d stages.first stages.mid stages.marks
  pub used : used_of new ≡ used_in k a o ++ used_by d
  pub long : new.length ≡ length_after k a o d m
  pub staged : AllByRecursion (λ (w : ℕ × Range). IsPiece region w.1) new.writes.items
  pub writes : writes_of region new ≡ writes_of region stages.first ++ writes_by k d (all_entries k a x)
  pub links : AreInOrder (marks_of k a d x) (used_in k a o ++ used_by d) (freed_by k a d x) (dead_of (all_left k a d x)) m.extents new.links.links
  pub leaves_items : left_items new.change x ≡ items_left k a x
  pub leaves : left_places new.change x ≡ all_left k a d x
  pub dir : WritesDir k x (k.directory x) d (front_entries k a (k.items x)) (middle_entries k a (k.items x)) (back_entries k a (k.items x)) (space_behind k a o m) m.length (length_after k a o d m) (used_in k a o) (beside_in k a o)
      (writes_of region stages.first) (new_marks k a) (freed_by k a d x) (dead_of (all_left k a d x)) m.extents (map piece_of ((writes_of region stages.first ++ writes_by k d (all_entries k a x)) ++ new.links.links))

-- The plan of an act on either list.
module _ {C E S : Type 0} {k : Kind C E S} (L : Laws k) where
  -- what is brought
  item_well : (x : Index) (m : MapState) (region : Region) (s : S) (t : C) (writes : List (ℕ × Range)) → IsMapOf x m → IsNew k x m s t → IsStaged k region s t writes → 112 ≤ (span_in k t).at
      → WriteWell m m.length (max m.length (end_of (span_in k t))) (bytes_in region writes)
  item_well x m region s t writes is new staged far =
      subst (WriteWell m m.length (max m.length (end_of (span_in k t)))) (sym (item_writes region s t writes staged))
      (one_well x m [] m.length (span_in k t) (record { place = (span_in k t).at + 32; bytes = k.contents t s staged.padding }) is (item_found L x m s t is new) far refl (omega (arith, item_long L region s t writes staged, L.extent t)))

  new_well : (x : Index) (m : MapState) (region : Region) (a : CodeAct C) (c : Change S) (writes : List (ℕ × Range)) → IsMapOf x m → BringsNew k x m region a c writes → AllByRecursion (λ (s : Span). 112 ≤ s.at) (new_spans k a)
      → WriteWell m m.length (use_all (space_of m) (new_spans k a)).length (bytes_in region writes)
  new_well x m region (Out i) c writes is b far = subst (λ w. WriteWell m m.length m.length (bytes_in region w)) (sym b.1) (no_well m m.length)
  new_well x m region (Put i t) c writes is b far = item_well x m region b.0 t writes is b.2 b.3 far.0
  new_well x m region (Into i t) c writes is b far = item_well x m region b.0 t writes is b.2 b.3 far.0

  brought_well : (x : Index) (m : MapState) (region : Region) (a : CodeAct C) (o : Origin (Change S)) (writes : List (ℕ × Range)) → IsMapOf x m → Brings k x m region a o writes → AllByRecursion (λ (s : Span). 112 ≤ s.at) (new_spans k a)
      → WriteWell m m.length (space_behind k a o m).length (bytes_in region writes)
  brought_well x m region a (edited c) writes is b far = new_well x m region a c writes is b far
  brought_well x m region a returned writes is b far = subst (λ w. WriteWell m m.length m.length (bytes_in region w)) (sym b.1) (no_well m m.length)

  new_staged : (x : Index) (m : MapState) (region : Region) (a : CodeAct C) (c : Change S) (writes : List (ℕ × Range)) → BringsNew k x m region a c writes → AllByRecursion (λ (w : ℕ × Range). IsPiece region w.1) writes
  new_staged x m region (Out i) c writes b = subst (AllByRecursion (λ (w : ℕ × Range). IsPiece region w.1)) (sym b.1) tt
  new_staged x m region (Put i t) c writes b = subst (AllByRecursion (λ (w : ℕ × Range). IsPiece region w.1)) (sym b.3.only) (b.3.staged, tt)
  new_staged x m region (Into i t) c writes b = subst (AllByRecursion (λ (w : ℕ × Range). IsPiece region w.1)) (sym b.3.only) (b.3.staged, tt)

  pub brought_staged : (x : Index) (m : MapState) (region : Region) (a : CodeAct C) (o : Origin (Change S)) (writes : List (ℕ × Range)) → Brings k x m region a o writes → AllByRecursion (λ (w : ℕ × Range). IsPiece region w.1) writes
  brought_staged x m region a (edited c) writes b = new_staged x m region a c writes b
  brought_staged x m region a returned writes b = subst (AllByRecursion (λ (w : ℕ × Range). IsPiece region w.1)) (sym b.1) tt

  -- and a new directory
  dir_well : (x : Index) (m : MapState) (needed : List Span) (size range : ℕ) (d : DirectoryChange) (front middle back : List E) → IsMapOf x m → AllByRecursion IsWhole needed → IsPlace x (k.directory x) size range (use_all (space_of m) needed) d → AreWhole k d front middle back
      → AllByRecursion (λ (s : Span). 112 ≤ s.at) (used_by d) → WriteWell m (use_all (space_of m) needed).length (length_by d (use_all (space_of m) needed).length) (writes_by k d (front ++ (middle ++ back)))
  dir_well x m needed size range Kept front middle back is all place whole far = absurd place
  dir_well x m needed size range Patched front middle back is all place whole far = no_well m (use_all (space_of m) needed).length
  dir_well x m needed size range (New d) front middle back is all place whole far =
      one_well x m needed (use_all (space_of m) needed).length (directory_span d) (record { place = d.span.at + 32; bytes = data_by k d (front ++ (middle ++ back)) }) is (new_found x m size needed d is all place.1) far.0 refl (omega (arith, whole.1, d.long))

  changed_spans : (a : CodeAct C) (ts : List C) → map (span_in k) (changed (act_of a) ts) ≡ map (span_in k) (tiles_before a ts) ++ (new_spans k a ++ map (span_in k) (tiles_behind a ts))
  changed_spans a ts = ap (map (span_in k)) (changed_act a ts) ∙ map-three (span_in k) (tiles_before a ts) (tiles_brought a) (tiles_behind a ts)

  -- what is live before an act, and what is live afterwards
  abbrev dir_spans : Index → List Span
  dir_spans x = option_to_list (option_map directory_span (k.directory x))

  abbrev live_then : CodeAct C → DirectoryChange → Index → List Span
  live_then a d x = header_span x.header ∷ (L.front x ++ (option_to_list (option_map directory_span (directory_after d (k.directory x))) ++ (map (span_in k) (changed (act_of a) (k.items x)) ++ L.rest x)))

  live_changes : (x : Index) (a : CodeAct C) (d : DirectoryChange) (q : ℕ) → cover (live_then a d x) q + cover (spans_of (all_left k a d x)) q ≡ cover (live_of x) q + cover (new_spans k a ++ used_by d) q
  live_changes x a d q =
      let ts : List C = k.items x in
      let F : List Span = L.front x in
      let D : List Span = option_to_list (option_map directory_span (directory_after d (k.directory x))) in
      let T : List Span = map (span_in k) (changed (act_of a) ts) in
      let before : List Span = map (span_in k) (tiles_before a ts) in
      let behind : List Span = map (span_in k) (tiles_behind a ts) in
      omega (
        arith,
        ap (λ l. cover l q) (L.live x),
        cover-append F (dir_spans x ++ (map (span_in k) ts ++ L.rest x)) q,
        cover-append F (D ++ (T ++ L.rest x)) q,
        three_cover (dir_spans x) (map (span_in k) ts) (L.rest x) q,
        three_cover D T (L.rest x) q,
        ap (λ l. cover l q) (act_spans (span_in k) a ts),
        three_cover before (map (span_in k) (tiles_leaving a ts)) behind q,
        ap (λ l. cover l q) (changed_spans a ts),
        three_cover before (new_spans k a) behind q,
        left_cover L a d x q,
        cover-append (new_spans k a) (used_by d) q,
        dir_changes d (k.directory x) q,
      )

  changed_length : (a : CodeAct C) (ts : List C) → length (tiles_before a ts ++ (tiles_brought a ++ tiles_behind a ts)) ≤ k.most → (length (changed (act_of a) ts) ≤ k.most) × (length (front_entries k a ts ++ (middle_entries k a ts ++ back_entries k a ts)) ≤ k.most)
  changed_length a ts few = (omega (arith, ap (length {A = C}) (changed_act a ts), few), omega (arith, ap (length {A = E}) (entries_after_act k a ts), length-map (changed (act_of a) ts) k.entry, ap (length {A = C}) (changed_act a ts), few))

  -- how long the image is once what is brought is there
  first_long : (x : Index) (m : MapState) (region : Region) (a : CodeAct C) (o : Origin (Change S)) (d : DirectoryChange) (first : EditPlan) → IsMapOf x m → Begins k x m region a o d first → first.length ≡ (space_behind k a o m).length
  first_long x m region a (edited c) d first is begins = begins.starts.length
  first_long x m region a returned d first is begins = let o : Origin (Change S) = returned in begins.starts.length ∙ all_within (space_of m) (used_in k a o) (brought_by L x m region a o first.writes.items is begins.brings).ends

  pub changes_of : (x : Index) (m : MapState) (a : CodeAct C) (o : Origin (Change S)) (region : Region) (d : DirectoryChange) (new : EditPlan) → IsMapOf x m → Stages k x m a o region d new → Changes k x m a o region d new
  changes_of x m a o region d new is st =
      let marks = act_marks L x m a o region d st.first st.mid st.marks is st.begins.brings st.begins.place st.lists in
      let all : List E = all_entries k a x in
      let used : used_of new ≡ used_in k a o ++ used_by d = ap (λ v. map span_of v.items) st.used ∙ (marks.listed.used ∙ ap (λ l. l ++ used_by d) st.begins.starts.used) in
      let links : AreInOrder (marks_of k a d x) (used_in k a o ++ used_by d) (freed_by k a d x) (dead_of (all_left k a d x)) m.extents new.links.links = rw (marks.listed.marks_are, used, st.freed, st.is_dead) at st.links in
      let own : AreOwn (length_after k a o d m) k.pointer (used_in k a o ++ used_by d) (beside_of k a o d x) (writes_of region st.first ++ writes_by k d all) (marks_of k a d x)
      = subst (AreOwn (length_after k a o d m) k.pointer (used_in k a o ++ used_by d) (beside_of k a o d x) (writes_of region st.first ++ writes_by k d all)) marks.listed.marks_are marks.own in
      let once = λ (q : ℕ). pieces_once marks.parts own new.links.links q links in
      let items = L.left new.change x a d st.change ∙ ap (map k.place) (omitted_act a (k.items x)) in
      record {
        stages = st;
        marks = marks;
        used = used;
        long = st.length ∙ (marks.listed.length_is ∙ ap (length_by d) (first_long x m region a o d st.first is st.begins));
        staged = subst (λ v. AllByRecursion (λ (w : ℕ × Range). IsPiece region w.1) v.items) (sym st.writes) (marks.listed.staged (brought_staged x m region a o st.first.writes.items st.begins.brings));
        writes = ap (λ v. bytes_in region v.items) st.writes ∙ marks.listed.writes;
        links = links;
        leaves_items = items;
        leaves = L.left_all new.change x a d st.change ∙ ap (λ l. l ++ left_directory d (k.directory x)) items;
        dir = record {
          place = st.begins.place;
          parts = marks.parts;
          whole = marks.listed.whole;
          before = marks.brought;
          listing = marks.listing;
          once = once;
          written = are_written (writes_of region st.first ++ writes_by k d all) (marks_of k a d x) (used_in k a o ++ used_by d) (freed_by k a d x) (dead_of (all_left k a d x)) m.extents new.links.links once links;
          few = (changed_length a (k.items x) st.few).1;
        };
      }

  -- the index can be changed
  can_change : (x : Index) (m : MapState) (a : CodeAct C) (o : Origin (Change S)) (region : Region) (d : DirectoryChange) (new : EditPlan) → IsMapOf x m → Changes k x m a o region d new → CanChange new.change (extents_after new m.extents) new.length x
  can_change x m a o region d new is r =
      let st = r.stages in
      let ts : List C = k.items x in
      let used : List Span = used_in k a o ++ used_by d in
      let F : List Span = freed_by k a d x in
      let after : List Span = deleted_after used F m.extents in
      let top : ℕ = length_after k a o d m in
      let live' : List Span = live_then a d x in
      let same : live_after new.change x ≡ live' = L.live_then new.change x a d st.change in
      let small = length_small L x m a o d is in
      let P : Span → Type 0 = λ s. end_of s ≤ top in
      let inside : AllByRecursion P (header_span x.header ∷ (L.front x ++ (dir_spans x ++ (map (span_in k) ts ++ L.rest x))))
      = subst (AllByRecursion P) (L.live x) (All-weaken (λ s. end_of s ≤ x.length) P (λ s h. omega (arith, h, is.length, small)) (live_of x) x.inside) in
      let ahead = All-append P (L.front x) (dir_spans x ++ (map (span_in k) ts ++ L.rest x)) inside.1 in
      let behind = All-append P (dir_spans x) (map (span_in k) ts ++ L.rest x) ahead.1 in
      let tiles = All-append P (map (span_in k) ts) (L.rest x) behind.1 in
      let first = All-append P (map (span_in k) (tiles_before a ts)) _ (subst (AllByRecursion P) (act_spans (span_in k) a ts) tiles.0) in
      let rest = All-append P (map (span_in k) (tiles_leaving a ts)) (map (span_in k) (tiles_behind a ts)) first.1 in
      let ends = All-append P (used_in k a o) (used_by d) (All-weaken (IsLong top) P (λ s l. l.ends) used r.marks.parts.used_long) in
      let news = All-weaken (IsLong top) P (λ s l. l.ends) (new_spans k a) (brought_long L x m a o d r.marks.parts) in
      let now : AllByRecursion P (map (span_in k) (changed (act_of a) ts))
      = subst (AllByRecursion P) (sym (changed_spans a ts)) (All-both P (map (span_in k) (tiles_before a ts)) (new_spans k a ++ map (span_in k) (tiles_behind a ts)) first.0 (All-both P (new_spans k a) (map (span_in k) (tiles_behind a ts)) news rest.1)) in
      let rise : AreExtents 0 m.length after = subst (λ l. AreExtents 0 m.length (with_all_freed l (without used m.extents))) (sym r.marks.parts.in_order)
      (freed_stay m.length F _ (used_stay m.length used m.extents r.marks.parts.rise r.marks.parts.takes) r.marks.parts.frees) in
      let once : (q : ℕ) → cover live' q + cover after q ≤ 1 = λ q. omega (
        arith,
        live_changes x a d q,
        cover-append (new_spans k a) (used_by d) q,
        used_apart L x m a o d q is r.marks.comes r.marks.found,
        cover-split can_be_used (all_left k a d x) q,
        cover-deleted_after used F m.extents q,
        cover-sorted (usable_of (all_left k a d x)) q,
      ) in
      let lists = L.can new.change x a d st.change st.within (changed_length a ts st.few).0 in
      rw (r.used, st.freed, r.long) (record {
        tiles = lists.tiles;
        attachments = lists.attachments;
        few_tiles = lists.few_tiles;
        few_attachments = lists.few_attachments;
        longer = omega (arith, is.length, small);
        small = small.2;
        inside = subst (AllByRecursion P) (sym same) (
          inside.0,
          All-both P (L.front x) _ ahead.0 (All-both P (option_to_list (option_map directory_span (directory_after d (k.directory x)))) _ (dir_ends top d (k.directory x) behind.0 ends.1) (All-both P (map (span_in k) (changed (act_of a) ts)) (L.rest x) now tiles.1)),
        );
        disjoint = subst AreDisjoint (sym same) (disjoint_once live' (λ q. omega (arith, once q)));
        free = subst (λ l. AreFree top l after) (sym same) (record {
          apart = extents_apart 0 m.length _ rise;
          aligned = All-weaken IsWhole (λ s. is_aligned s ≡ true) whole_aligned _ (extents_whole 0 m.length _ rise);
          inside = All-weaken (λ (s : Span). end_of s ≤ m.length) P (λ s h. omega (arith, h, small)) _ (extents_ends 0 m.length _ rise);
          clear = clear_once live' after once;
        });
      })

  -- So it can be carried out.
  pub plan_of : (x : Index) (m : MapState) (a : CodeAct C) (o : Origin (Change S)) (region : Region) (d : DirectoryChange) (new : EditPlan) → IsMapOf x m → Changes k x m a o region d new → IsPlan x m region new
  plan_of x m a o region d new is r =
      let st = r.stages in
      let parts = r.marks.parts in
      let own : AreOwn (length_after k a o d m) k.pointer (used_in k a o ++ used_by d) (beside_of k a o d x) (writes_of region st.first ++ writes_by k d (all_entries k a x)) (marks_of k a d x)
      = subst (AreOwn (length_after k a o d m) k.pointer (used_in k a o ++ used_by d) (beside_of k a o d x) (writes_of region st.first ++ writes_by k d (all_entries k a x))) r.marks.listed.marks_are r.marks.own in
      let far = All-append (λ (s : Span). 112 ≤ s.at) (used_in k a o) (used_by d) (All-weaken (IsLong (length_after k a o d m)) (λ s. 112 ≤ s.at) (λ s l. l.far) _ parts.used_long) in
      let first = All-weaken (IsLong (length_after k a o d m)) (λ s. 112 ≤ s.at) (λ s l. l.far) (new_spans k a) (brought_long L x m a o d parts) in
      let well = both_well m m.length (space_behind k a o m).length (length_after k a o d m) (writes_of region st.first) (writes_by k d (all_entries k a x)) (brought_well x m region a o st.first.writes.items is st.begins.brings first)
      (dir_well x m (needed_in k a o) (size_after k a x) (range_after k a x) d _ _ _ is r.marks.comes.whole st.begins.place r.marks.listed.whole far.1) in
      record {
        staged = r.staged;
        free = rw r.writes well.free;
        far = rw r.writes well.far;
        near = rw r.writes well.near;
        reach = omega (arith, r.long, well.last, ap (last_end m.length) r.writes);
        fits = omega (arith, (length_small L x m a o d is).2, well.last, ap (last_end m.length) r.writes);
        rising = links_rise _ new.links.links (can_link parts own).puts r.links;
        within = rw r.long (links_within parts own new.links.links r.links);
        brief = links_brief parts own new.links.links r.links;
        once = λ q. rw r.writes (r.dir.once q);
        takes = rw r.used parts.takes;
        frees = rw (r.used, st.freed) parts.frees;
        in_order = rw st.freed parts.in_order;
        freed = st.freed ∙ ap (λ l. sorted span_le (usable_of l)) (sym r.leaves);
        held = st.held ∙ ap usable_of (sym r.leaves_items);
        apart = λ q. omega (arith, used_apart L x m a o d q is r.marks.comes r.marks.found, ap (λ l. cover l q) r.used, cover-append (new_spans k a) (used_by d) q, cover-append (used_in k a o) (used_by d) q, brought_covers L a o q);
        can = can_change x m a o region d new is r;
      }

  pub is_plan : (x : Index) (m : MapState) (a : CodeAct C) (o : Origin (Change S)) (region : Region) (d : DirectoryChange) (new : EditPlan) → IsMapOf x m → Stages k x m a o region d new → IsPlan x m region new
  is_plan x m a o region d new is st = plan_of x m a o region d new is (changes_of x m a o region d new is st)
