-- What an act on the subblocks needs, that it is what the machine asks for, and why it has no plan.
use Rattle.std.proofs.Common.{◌≡◌, ℕ, [], ◌∷◌, true, false, Option, Some, None, option_map, Ok, refl, ap, sym, ◌∙◌, subst, ◌+◌, ◌<◌, ◌≤◌, List, ◌++◌, map, take, drop, length, sum, ◌&&◌, nat_le, option_to_list, Err, arith, ◌==◌, if◌then◌else◌, Result}
use Rattle.std.specs.List.{AllByRecursion}
use Rattle.std.proofs.lemmas.List.{length-map}
use Rattle.std.specs.Bool.{⊤}
use Rattle.czi_format.specs.Layout.{Layout, Place}
use Rattle.czi_format.specs.Live.{Directory, Live}
use Rattle.czi_format.specs.Segment.{extent}
use Rattle.czi_format.specs.Space.{Fit, Space, fit, use_span, Full, use_all}
use Rattle.czi_format.specs.Span.{Span}
use Rattle.czi_image.specs.Applied.{place_after}
use Rattle.czi_image.specs.Change.{directory_set, AreWithin, act_of}
use Rattle.czi_image.specs.Holds.{directory_place}
use Rattle.czi_image.specs.Spans.{directory_span}
use Rattle.czi_image.specs.declared.change.DirectoryChange.{DirectoryChange}
use Rattle.czi_image.specs.declared.change.DirectoryChange.TheVariants.{Kept, Patched, New}
use Rattle.czi_image.specs.declared.index.Index.{Index}
use Rattle.czi_image.specs.declared.types.DirItem.{DirItem}
use Rattle.czi_machine.specs.Edit.{DocumentEffect}
use Rattle.czi_machine.specs.Change.{changed, Change}
use Rattle.czi_machine.specs.Grouped.{fit_all, FitAll}
use Rattle.czi_machine.specs.InOrder.{StaysOrNew, directory_needs, directory_spans, needs_of}
use Rattle.czi_machine.specs.Places.{new_place, Asked, fresh, in_place, patched_len}
use Rattle.czi_machine.specs.Table.{changes, directory_laid, directory_left}
use Rattle.czi_machine.specs.Cover.{cover}
use Rattle.czi_machine.specs.State.{State, spans_of}
use Rattle.czi_machine.proofs.Cover.{cover-append}
use Rattle.czi_machine.proofs.TableSubblocks.{new_never}
use Rattle.czi_space.specs.State.{MapState, space_of as space_in}
use Rattle.czi_machine.proofs.Tiled.{map-All}
use Rattle.czi_image.specs.declared.change.Act.{Act as CodeAct}
use Rattle.czi_region.specs.declared.block.Region.{Region}
use Rattle.czi_plan.specs.Directory.{need_of}
use Rattle.czi_plan.specs.Kind.{Kind, span_in}
use Rattle.czi_plan.specs.Listing.{IsPlace, entries_len, fits_in_place}
use Rattle.czi_plan.proofs.KindLaws.{Laws}
use Rattle.czi_plan.proofs.Machines.{Machine}
use Rattle.czi_plan.specs.Plan.{left_directory}
use Rattle.czi_plan.specs.Conditions.{IsMapOf, LiesIn}
use Rattle.czi_plan.specs.Does.{HasNoPlan}
use Rattle.czi_plan.specs.Placing.{IsFull}
use Rattle.czi_plan.specs.declared.plan.PlanFault.{PlanFault}
use Rattle.czi_plan.specs.declared.plan.PlanFault.TheVariants.{Full as Filled, Memory}
use Rattle.czi_format.specs.FirstFault.{◌>>=◌}
use Rattle.czi_image.specs.declared.change.Act.TheVariants.{Out, Put, Into}
use Rattle.czi_machine.specs.Ranges.{asked_for}
use Rattle.czi_region.specs.declared.block.Piece.{Piece as Range}
use Rattle.czi_plan.specs.Changing.{BringsNew, IsNew, entries_in, new_spans, range_after, range_with, size_after, size_of, size_with, tiles_before, tiles_behind, tiles_brought, tiles_leaving, items_left}
use Rattle.czi_plan.proofs.Acts.{brought_act, changed_images, changes_act, lens_before, lens_behind, lens_leaving, range_act, range_as, size_as, sum-three, map_leaving}
use Rattle.czi_plan.proofs.Parts.{each_of, length_by, live_once, place_spans, used_by}

-- what is left of the space
abbrev pub space_by : DirectoryChange → Space → Space
space_by Kept space = space
space_by Patched space = space
space_by (New d) space = use_span space (directory_span d)

pub space_length : (c : DirectoryChange) (space : Space) → (space_by c space).length ≡ length_by c space.length
space_length Kept space = refl
space_length Patched space = refl
space_length (New d) space = refl

-- its need fits where the plan has it
one_fits : (space : Space) (n : ℕ) (f : Fit) → fit space n ≡ Ok f → fit_all space (n ∷ []) ≡ Ok (record { spans = f.span ∷ []; space = f.space })
one_fits space n f e = rw e refl

pub directory_fits : (x : Index) (old : Option DirItem) (size range : ℕ) (space : Space) (c : DirectoryChange) → IsPlace x old size range space c
    → fit_all space (directory_needs (fits_in_place old size range) (need_of size)) ≡ Ok (record { spans = used_by c; space = space_by c space })
directory_fits x old size range space Kept place = absurd place
directory_fits x old size range space Patched place = ap (λ z. fit_all space (directory_needs z (need_of size))) place
directory_fits x old size range space (New d) place =
    ap (λ z. fit_all space (directory_needs z (need_of size))) place.0 ∙ one_fits space (need_of size) (record { span = directory_span d; space = use_span space (directory_span d) }) place.1

-- it stays or is new, as the machine has it
pub stays_or_new : (make : Span → Directory) (x : Index) (old : Option DirItem) (size range : ℕ) (space : Space) (c : DirectoryChange) → ((i : DirItem) → extent (make (directory_span i)).segment ≡ directory_span i)
    → IsPlace x old size range space c → StaysOrNew (fits_in_place old size range) (option_map directory_place old) (directory_set make c old)
stays_or_new make x old size range space Kept own place = absurd place
stays_or_new make x None size range space Patched own place = absurd (let clash : false ≡ true = place in cc (clash))
stays_or_new make x (Some d) size range space Patched own place =
    subst (λ b. StaysOrNew b (option_map directory_place (Some d)) (directory_set make Patched (Some d))) (sym place) (ap (λ (s : Span). let o : Option Span = Some s in o) (sym (own d)))
stays_or_new make x old size range space (New d) own place = subst (λ b. StaysOrNew b (option_map directory_place old) (directory_set make (New d) old)) (sym place.0) tt

pub directory_spans_are : (make : Span → Directory) (x : Index) (old : Option DirItem) (size range : ℕ) (space : Space) (c : DirectoryChange) → ((i : DirItem) → extent (make (directory_span i)).segment ≡ directory_span i)
    → IsPlace x old size range space c → used_by c ≡ directory_spans (fits_in_place old size range) (directory_set make c old)
directory_spans_are make x old size range space Kept own place = absurd place
directory_spans_are make x old size range space Patched own place = ap (λ b. directory_spans b (directory_set make Patched old)) (sym place)
directory_spans_are make x old size range space (New d) own place =
    ap (λ (s : Span). s ∷ []) (sym (own d)) ∙ ap (λ b. directory_spans b (directory_set make (New d) old)) (sym place.0)

-- and lies there
pub directory_lies : (x : Index) (l : Layout) (old : Option DirItem) (size range : ℕ) (space : Space) (c : DirectoryChange) → ((d : DirItem) → c ≡ New d → directory_place d ≡ new_place l (directory_span d))
    → IsPlace x old size range space c
    → directory_laid l space (option_map directory_place old) (fits_in_place old size range) (need_of size) ≡ Ok (record { places = place_after c (option_map directory_place old); back = []; used = used_by c; space = space_by c space })
directory_lies x l old size range space Kept walked place = absurd place
directory_lies x l old size range space Patched walked place = ap (λ b. directory_laid l space (option_map directory_place old) b (need_of size)) place
directory_lies x l old size range space (New d) walked place =
    let new : directory_laid l space (option_map directory_place old) false (need_of size) ≡ Ok (record { places = Some (new_place l (directory_span d)); back = []; used = directory_span d ∷ []; space = use_span space (directory_span d) })
    = let e = place.1 in rw e refl in
    ap (λ b. directory_laid l space (option_map directory_place old) b (need_of size)) place.0
    ∙ (new ∙ ap (λ (p : Place). Ok (record { places = Some p; back = []; used = directory_span d ∷ []; space = use_span space (directory_span d) })) (sym (walked d refl)))

pub left_by : (x : Index) (old : Option DirItem) (size range : ℕ) (space : Space) (c : DirectoryChange) → IsPlace x old size range space c → directory_left (fits_in_place old size range) (option_map directory_place old) ≡ left_directory c old
left_by x old size range space Kept place = absurd place
left_by x old size range space Patched place = ap (λ b. directory_left b (option_map directory_place old)) place
left_by x old size range space (New d) place = ap (λ b. directory_left b (option_map directory_place old)) place.0 ∙ all_of old
  where
    all_of : (o : Option DirItem) → directory_left false (option_map directory_place o) ≡ left_directory (New d) o
    all_of None = refl
    all_of (Some e) = refl

-- the test of the machine is that of the code
pub same_test : (head : ℕ) (o : Option DirItem) (ps : List Place) (asked : List Asked) (before after' : List ℕ) (size range : ℕ) → head + sum after' ≡ size → patched_len ps asked before after' ≡ range
    → in_place (option_map directory_place o) head ps asked before after' ≡ fits_in_place o size range
unfolding in_place
same_test head None ps asked before after' size range a b = refl
same_test head (Some d) ps asked before after' size range a b =
    let long : 32 + head + sum after' ≡ 32 + size = omega (arith, a) in
    λ j. nat_le (long j) d.span.len && nat_le (b j) 65536

-- What an act asks of a state.
pub record Asks {C E S : Type 0} {T : Type 0} {k : Kind C E S} {effect : Change S → DocumentEffect} (M : Machine T k effect) (x : Index) (s : State) (b : CodeAct S) : Type 0 where
  pub changing : changes (act_of b) (length (M.places s.layout)) ≡ true
  pub stays : M.stay s (effect (act_of b)) ≡ fits_in_place (k.directory x) (size_with k b x) (range_with k b x)
  pub size : k.head + sum (map k.len_of (changed (act_of b) (M.contents s.document))) ≡ size_with k b x
  pub needs : needs_of s (effect (act_of b)) ≡ map k.need (tiles_brought b) ++ directory_needs (fits_in_place (k.directory x) (size_with k b x) (range_with k b x)) (need_of (size_with k b x))

-- What an act brings has its places in a map.
abbrev pub AreFit : {S : Type 0} → (S → ℕ) → MapState → CodeAct S → List Span → Type 0
AreFit need m (Out i) [] = ⊤
AreFit need m (Out i) (p ∷ used) = ⊥
AreFit need m (Put i s) (p ∷ []) = fit (space_in m) (need s) ≡ Ok (record { span = p; space = use_span (space_in m) p })
AreFit need m (Put i s) used = ⊥
AreFit need m (Into i s) (p ∷ []) = fit (space_in m) (need s) ≡ Ok (record { span = p; space = use_span (space_in m) p })
AreFit need m (Into i s) used = ⊥

-- what the other needs are given behind them
abbrev pub behind_all : List Span → FitAll → FitAll
behind_all used f = record { spans = used ++ f.spans; space = f.space }

same_all : (r : Result FitAll Full) → r ≡ (r >>= λ f. Ok (behind_all [] f))
same_all (Ok f) = refl
same_all (Err e) = refl

pub fit_behind : {S : Type 0} (need : S → ℕ) (m : MapState) (b : CodeAct S) (used : List Span) (needs : List ℕ) (r : Result FitAll Full) → AreFit need m b used → fit_all (use_all (space_in m) used) needs ≡ r
    → fit_all (space_in m) (map need (tiles_brought b) ++ needs) ≡ (r >>= λ f. Ok (behind_all used f))
fit_behind need m (Out i) [] needs r fits e = e ∙ same_all r
fit_behind need m (Out i) (p ∷ used) needs r fits e = absurd fits
fit_behind need m (Put i s) [] needs r fits e = absurd fits
fit_behind need m (Put i s) (p ∷ []) needs r fits e = rw (fits, e) refl
fit_behind need m (Put i s) (p ∷ q ∷ used) needs r fits e = absurd fits
fit_behind need m (Into i s) [] needs r fits e = absurd fits
fit_behind need m (Into i s) (p ∷ []) needs r fits e = rw (fits, e) refl
fit_behind need m (Into i s) (p ∷ q ∷ used) needs r fits e = absurd fits

-- a need that has no place
first_full : (space : Space) (n : ℕ) (ns : List ℕ) (f : Full) → fit space n ≡ Err f → fit_all space (n ∷ ns) ≡ Err f
first_full space n ns f e = rw e refl

-- What a new item is to the machine: an act with the lengths of its entries.
pub record IsAct {C E S : Type 0} (k : Kind C E S) (x : Index) (m : MapState) (a : CodeAct C) (c : Change S) : Type 0 where
  pub act : CodeAct S
  pub is : c ≡ act_of act
  pub within : (n : ℕ) → AreWithin (a ∷ []) n → AreWithin (act ∷ []) n
  pub fits : AreFit k.need m act (new_spans k a)
  pub size : size_after k a x ≡ size_with k act x
  pub range : range_after k a x ≡ range_with k act x
  pub leaves : tiles_leaving act (map k.place (k.items x)) ≡ items_left k a x

new_len : {C E S : Type 0} {k : Kind C E S} → Laws k → (x : Index) (m : MapState) (s : S) (t : C) → IsNew k x m s t → entries_len k (entries_in k (t ∷ [])) ≡ sum (map k.len_of (s ∷ []))
new_len L x m s t new = ap (λ n. sum (n ∷ [])) (L.len t s new.item)

pub is_act : {C E S : Type 0} {k : Kind C E S} → Laws k → (x : Index) (m : MapState) (region : Region) (a : CodeAct C) (c : Change S) (writes : List (ℕ × Range)) → BringsNew k x m region a c writes → IsAct k x m a c
is_act {C = C} {k = k} L x m region (Out i) c writes b = record {
  act = Out i;
  is = b.0;
  within = λ n w. w;
  fits = tt;
  size = size_as k (let o : CodeAct C = Out i in o) [] (k.items x);
  range = range_as k [] (entries_in k (take 1 (drop i (k.items x)))) (entries_in k (drop (i + 1) (k.items x)));
  leaves = sym (map_leaving k.place (let o : CodeAct C = Out i in o) (k.items x));
}
is_act {C = C} {k = k} L x m region (Put i t) c writes b =
    let len = new_len L x m b.0 t b.2 in
    let ts : List C = (k.items x) in
    record {
      act = Put i b.0;
      is = b.1;
      within = λ n w. w;
      fits = b.2.fits;
      size = size_as k (Put i t) (entries_in k (t ∷ [])) ts ∙ ap (λ n. k.head + (size_of k (take i ts) + (n + size_of k (drop (i + 1) ts)))) len;
      range = range_as k (entries_in k (t ∷ [])) (entries_in k (take 1 (drop i ts))) (entries_in k (drop (i + 1) ts)) ∙ ap (λ n. if n == size_of k (take 1 (drop i ts)) then n else n + size_of k (drop (i + 1) ts)) len;
      leaves = sym (map_leaving k.place (Put i t) ts);
    }
is_act {C = C} {k = k} L x m region (Into i t) c writes b =
    let len = new_len L x m b.0 t b.2 in
    let ts : List C = (k.items x) in
    record {
      act = Into i b.0;
      is = b.1;
      within = λ n w. w;
      fits = b.2.fits;
      size = size_as k (Into i t) (entries_in k (t ∷ [])) ts ∙ ap (λ n. k.head + (size_of k (take i ts) + (n + size_of k (drop i ts)))) len;
      range = range_as k (entries_in k (t ∷ [])) [] (entries_in k (drop i ts)) ∙ ap (λ n. if n == 0 then n else n + size_of k (drop i ts)) len;
      leaves = refl;
    }

-- Why an act has no plan, and that it has one.
module _ {C E S T : Type 0} {k : Kind C E S} {effect : Change S → DocumentEffect} (L : Laws k) (M : Machine T k effect) where
  pub items_once : (x : Index) (m : MapState) (q : ℕ) → IsMapOf x m → cover (spans_of (map k.place (k.items x))) q ≤ 1
  items_once x m q is =
      let D : List Span = option_to_list (option_map directory_span (k.directory x)) in
      let I : List Span = map (span_in k) (k.items x) in
      omega (arith, ap (λ l. cover l q) (place_spans k.place (k.items x)), live_once x m q is, ap (λ l. cover l q) (L.live x), cover-append (L.front x) (D ++ (I ++ L.rest x)) q, cover-append D (I ++ L.rest x) q, cover-append I (L.rest x) q)

  pub asks : (image : List ℕ) (live : Live) (s : State) (x : Index) (m : MapState) (b : CodeAct S) → LiesIn image live s x m → IsMapOf x m → AreWithin (b ∷ []) (length (k.items x)) → Asks M x s b
  asks image live s x m b lies is w =
      let ts : List C = k.items x in
      let lens : List ℕ = map k.len (entries_in k ts) in
      let new : List ℕ = map k.len_of (tiles_brought b) in
      let D : List S = M.contents s.document in
      let ps : List Place = M.places s.layout in
      let there = M.lies s.layout x lies.lies in
      let asked : List Asked = asked_for (λ z. fresh (k.need z)) (act_of b) ps in
      let before : map k.len_of D ≡ lens = M.lens image live s x m lies in
      let now : map k.len_of (changed (act_of b) D) ≡ tiles_before b lens ++ (new ++ tiles_behind b lens)
      = changed_images k.len_of b D ∙ (λ j. tiles_before b (before j) ++ (new ++ tiles_behind b (before j))) in
      let size : k.head + sum (map k.len_of (changed (act_of b) D)) ≡ size_with k b x
      = omega (arith, ap sum now, sum-three (tiles_before b lens) new (tiles_behind b lens), ap sum (lens_before k b ts), ap sum (lens_behind k b ts)) in
      let long : length ps ≡ length ts = omega (arith, ap (length {A = Place}) there.0, length-map ts k.place) in
      let within : AreWithin (b ∷ []) (length ps) = subst (AreWithin (b ∷ [])) (sym long) w in
      let short : patched_len ps asked (map k.len_of D) (map k.len_of (changed (act_of b) D)) ≡ range_with k b x
      = (λ j. patched_len ps asked (before j) (now j))
      ∙ (range_act (λ z. fresh (k.need z)) k.len_of b ps lens (new_never k.need) L.some_new within
      (omega (arith, long, length-map (entries_in k ts) k.len, length-map ts k.entry)) (map-All k.len (λ n. 0 < n) (entries_in k ts) (each_of _ L.some (entries_in k ts)))
      (subst (AllByRecursion (λ (p : Place). 0 < p.span.len)) there.0 (map-All k.place (λ (p : Place). 0 < p.span.len) ts (each_of _ (λ t. omega (arith, L.extent t)) ts)))
      (λ q. subst (λ (l : List Place). cover (spans_of l) q ≤ 1) there.0 (items_once x m q is))
      ∙ (λ j. if sum new == sum (lens_leaving k b ts j) then sum new else sum new + sum (lens_behind k b ts j))) in
      let moves : changes (act_of b) (length ps) ≡ true = changes_act b (length ps) within in
      let where' : M.stay s (effect (act_of b)) ≡ fits_in_place (k.directory x) (size_with k b x) (range_with k b x)
      = M.stays s (act_of b) moves ∙ ((λ j. in_place (sym there.1 j) k.head ps asked (map k.len_of D) (map k.len_of (changed (act_of b) D))) ∙ same_test k.head (k.directory x) ps asked (map k.len_of D) (map k.len_of (changed (act_of b) D)) (size_with k b x) (range_with k b x) size short) in
      record {
        changing = moves;
        stays = where';
        size = size;
        needs = M.needs s (act_of b) ∙ (λ j. map k.need (brought_act b j) ++ directory_needs (where' j) (need_of (size j)));
      }

  pub no_room : (x : Index) (m : MapState) (b : CodeAct S) (s : S) (fault : PlanFault) → tiles_brought b ≡ s ∷ [] → IsFull fault (fit (space_in m) (k.need s)) → HasNoPlan x m (effect (act_of b)) fault
  no_room x m b s (Filled need length') one full' image live st lies =
      let rest : List ℕ = directory_needs (M.stay st (effect (act_of b))) (need_of (k.head + sum (map k.len_of (changed (act_of b) (M.contents st.document))))) in
      (λ j. fit_all (sym lies.space j) (M.needs st (act_of b) j))
      ∙ ((λ j. fit_all (space_in m) (map k.need ((brought_act b ∙ one) j) ++ rest)) ∙ first_full (space_in m) (k.need s) rest (record { need = need; length = length' }) full')
  no_room x m b s Memory one full' image live st lies = absurd full'

  -- a new directory has none behind it,
  pub no_place : (x : Index) (m : MapState) (b : CodeAct S) (used : List Span) (size range : ℕ) (fault : PlanFault) → IsMapOf x m → AreWithin (b ∷ []) (length (k.items x)) → AreFit k.need m b used → size ≡ size_with k b x → range ≡ range_with k b x
      → fits_in_place (k.directory x) size range ≡ false → IsFull fault (fit (use_all (space_in m) used) (need_of size)) → HasNoPlan x m (effect (act_of b)) fault
  no_place x m b used size range (Filled need length') is w fits is_size is_range no' full' image live s lies =
      let a = asks image live s x m b lies is w in
      let none : directory_needs (fits_in_place (k.directory x) (size_with k b x) (range_with k b x)) (need_of (size_with k b x)) ≡ need_of size ∷ []
      = (λ j. directory_needs (fits_in_place (k.directory x) (sym is_size j) (sym is_range j)) (need_of (sym is_size j))) ∙ ap (λ z. directory_needs z (need_of size)) no' in
      (λ j. fit_all (sym lies.space j) ((a.needs ∙ ap (λ l. map k.need (tiles_brought b) ++ l) none) j))
      ∙ fit_behind k.need m b used (need_of size ∷ []) (Err (record { need = need; length = length' })) fits (first_full (use_all (space_in m) used) (need_of size) [] _ full')
  no_place x m b used size range Memory is w fits is_size is_range no' full' image live s lies = absurd full'

  -- or memory was wanting where all have one.
  pub act_fits : (x : Index) (m : MapState) (b : CodeAct S) (used : List Span) (size range : ℕ) (d : DirectoryChange) → AreFit k.need m b used → size ≡ size_with k b x → range ≡ range_with k b x → IsPlace x (k.directory x) size range (use_all (space_in m) used) d
      → fit_all (space_in m) (map k.need (tiles_brought b) ++ directory_needs (fits_in_place (k.directory x) (size_with k b x) (range_with k b x)) (need_of (size_with k b x)))
      ≡ Ok (record { spans = used ++ used_by d; space = space_by d (use_all (space_in m) used) })
  act_fits x m b used size range d fits is_size is_range place =
      (λ j. fit_all (space_in m) (map k.need (tiles_brought b) ++ directory_needs (fits_in_place (k.directory x) (sym is_size j) (sym is_range j)) (need_of (sym is_size j))))
      ∙ fit_behind k.need m b used (directory_needs (fits_in_place (k.directory x) size range) (need_of size)) _ fits (directory_fits x (k.directory x) size range (use_all (space_in m) used) d place)

  pub no_memory : (x : Index) (m : MapState) (b : CodeAct S) (used : List Span) (size range : ℕ) (d : DirectoryChange) → IsMapOf x m → AreWithin (b ∷ []) (length (k.items x)) → AreFit k.need m b used → size ≡ size_with k b x → range ≡ range_with k b x
      → IsPlace x (k.directory x) size range (use_all (space_in m) used) d → HasNoPlan x m (effect (act_of b)) Memory
  no_memory x m b used size range d is w fits is_size is_range place image live s lies = (
    record { spans = used ++ used_by d; space = space_by d (use_all (space_in m) used) },
    (λ j. fit_all (sym lies.space j) ((asks image live s x m b lies is w).needs j)) ∙ act_fits x m b used size range d fits is_size is_range place,
  )
