-- What a plan has of an act on either list, put together.
use Rattle.std.proofs.Common.{◌≡◌, ℕ, List, [], ◌∷◌, ◌++◌, map, length, ◌≤◌, arith, ap, sym, subst, ◌∙◌, true, false, Option, Some, None}
use Rattle.std.proofs.lemmas.Bool.{and_parts, leb-true}
use Rattle.std.proofs.lemmas.List.{length-map}
use Rattle.czi_format.specs.Space.{Space}
use Rattle.czi_image.specs.declared.change.DirectoryChange.TheVariants.{Kept, New, Patched}
use Rattle.czi_image.specs.declared.types.DirItem.{DirItem}
use Rattle.czi_plan.specs.declared.tiles.Sizes.{Sizes}
use Rattle.czi_plan.proofs.Directing.{new_room}
use Rattle.czi_format.specs.Layout.{Place}
use Rattle.czi_format.specs.Span.{Span, span_le, sorted}
use Rattle.czi_image.specs.Change.{AreWithin}
use Rattle.czi_image.specs.declared.change.Act.{Act as CodeAct}
use Rattle.czi_image.specs.declared.change.DirectoryChange.{DirectoryChange}
use Rattle.czi_image.specs.declared.index.Index.{Index}
use Rattle.czi_links.specs.Record.{Bytes}
use Rattle.czi_machine.specs.Change.{Change}
use Rattle.czi_num.specs.Span.{span_of}
use Rattle.czi_num.specs.declared.span.Span.{Span as CodeSpan}
use Rattle.czi_region.specs.declared.block.Region.{Region}
use Rattle.czi_space.specs.State.{MapState}
use Rattle.czi_plan.specs.Changing.{Begins, Origin, Stages, all_left, back_entries, front_entries, items_left, middle_entries, new_marks, tiles_before, tiles_behind, tiles_brought, tiles_leaving, Starts, used_in}
use Rattle.czi_plan.specs.Conditions.{IsMapOf}
use Rattle.czi_plan.specs.Kind.{Kind}
use Rattle.czi_plan.specs.Listing.{AreSizes, HasRoomFor, IsPlace, IsReady, KeepsPut, Lists}
use Rattle.czi_plan.specs.Marks.{AreInOrder, AreMarks, CanLink, Mark, head_mark, mark_of}
use Rattle.czi_plan.specs.Plan.{dead_of, left_directory, usable_of}
use Rattle.czi_plan.specs.declared.plan.EditPlan.{EditPlan}
use Rattle.czi_plan.proofs.Brought.{begins_kept, brings_kept}
use Rattle.czi_plan.proofs.KindLaws.{Laws}
use Rattle.czi_plan.proofs.Linking.{FewLinks, act_few, act_links, has_listed}
use Rattle.czi_plan.proofs.Parts.{few_brought, few_used}
use Rattle.czi_plan.proofs.Order.{sorted_again}

-- what leaves, with a directory for which there is a new one
pub left_as : {C E S X : Type 0} (k : Kind C E S) (f : List Place → X) (a : CodeAct C) (d e : DirectoryChange) (x : Index) (left : List C) → left ≡ tiles_leaving a (k.items x) → e ≡ d → f (map k.place left ++ left_directory e (k.directory x)) ≡ f (all_left k a d x)
left_as k f a d e x left same change = λ i. f (map k.place (same i) ++ left_directory (change i) (k.directory x))

pub in_place_order : (xs ys : List Span) → xs ≡ sorted span_le ys → sorted span_le xs ≡ xs
in_place_order xs ys e = ap (sorted span_le) e ∙ (sorted_again ys ∙ sym e)

-- a directory that has its place can be planned
pub ready_as : (x : Index) (was : Option DirItem) (size range : ℕ) (space : Space) (room : ℕ) (d : DirectoryChange) → IsPlace x was size range space d → HasRoomFor d range room → IsReady was size range room d
ready_as x was size range space room Kept place has = tt
ready_as x None size range space room Patched place has = absurd (let clash : false ≡ true = place in cc (clash))
ready_as x (Some e) size range space room Patched place has = (leb-true _ _ (and_parts _ _ place).0, has)
ready_as x was size range space room (New e) place has = (new_room x was size range space e place, has)

-- the sizes of parts that are the same
pub sizes_as : {C E S : Type 0} (k : Kind C E S) (s : Sizes) (f f' m m' b b' : List E) → f ≡ f' → m ≡ m' → b ≡ b' → AreSizes k s f' m' b' → AreSizes k s f m b
sizes_as k s f f' m m' b b' ef em eb sizes = rw (ef, em, eb) sizes

-- what is listed, in other words
pub lists_as : {C E S : Type 0} (k : Kind C E S) (was : Option DirItem) (d : DirectoryChange) (f f' m m' b b' : List E) (region : Region) (p q : EditPlan) (before before' after : List Bytes) → f ≡ f' → m ≡ m' → b ≡ b' → before ≡ before'
    → Lists k was d f m b region p q before after → Lists k was d f' m' b' region p q before' after
lists_as k was d f f' m m' b b' region p q before before' after ef em eb eo lists =
    subst (λ z. Lists k was d z m' b' region p q before' after) ef (subst (λ z. Lists k was d f z b' region p q before' after) em (subst (λ z. Lists k was d f m z region p q before' after) eb (subst (λ z. Lists k was d f m b region p q z after) eo lists)))

-- what an act begins with is few
pub marks_few : {C E S : Type 0} (k : Kind C E S) (a : CodeAct C) (region : Region) (ms : List Mark) → AreMarks region ms (new_marks k a) → length ms ≤ 1
marks_few k a region ms are = omega (arith, ap (length {A = Bytes}) are.links_are, length-map ms (mark_of region), length-map (tiles_brought a) (λ t. head_mark (k.segment t)), few_brought a)

pub used_few : {C E S : Type 0} {k : Kind C E S} (L : Laws k) {m : MapState} (a : CodeAct C) (o : Origin (Change S)) (p : EditPlan) → Starts k m (used_in k a o) p → length p.used.items ≤ 1
used_few L a o p starts = omega (arith, ap (length {A = Span}) starts.used, length-map p.used.items span_of, few_used L a o)

-- What comes behind the directory of a plan: the change, what leaves, and the links.
pub record Finishes {C E S : Type 0} (k : Kind C E S) (x : Index) (m : MapState) (a : CodeAct C) (d : DirectoryChange) (mid : EditPlan) (marks : List Bytes) (new : EditPlan) : Type 0 where
  pub writes : new.writes ≡ mid.writes
  pub used : new.used ≡ mid.used
  pub length : new.length ≡ mid.length
  pub change : k.Does new.change a d
  pub held : map span_of new.held.items ≡ usable_of (items_left k a x)
  pub freed : map span_of new.freed.items ≡ sorted span_le (usable_of (all_left k a d x))
  pub dead : List CodeSpan
  pub is_dead : map span_of dead ≡ dead_of (all_left k a d x)
  pub links : AreInOrder marks (map span_of new.used.items) (map span_of new.freed.items) (map span_of dead) m.extents new.links.links

module _ {C E S : Type 0} {k : Kind C E S} (L : Laws k) {x : Index} {m : MapState} (a : CodeAct C) (o : Origin (Change S)) (d : DirectoryChange) (old region : Region) (first mid : EditPlan) (marks : List Bytes) (is : IsMapOf x m) (begins : Begins k x m old a o d first) (keeps : KeepsPut old region)
    (lists : Lists k (k.directory x) d (front_entries k a (k.items x)) (middle_entries k a (k.items x)) (back_entries k a (k.items x)) region first mid (new_marks k a) marks) where
  pub same_change : mid.change ≡ first.change
  same_change = ap (λ (p : EditPlan). p.change) (has_listed k region (k.directory x) d _ _ _ first mid (new_marks k a) marks lists).others

  pub links_act : CanLink m.length (map span_of mid.used.items) (sorted span_le (usable_of (all_left k a d x))) (dead_of (all_left k a d x)) m.extents marks
  links_act = act_links L x m a o region d first mid marks is (brings_kept k x m old region a o first.writes.items keeps begins.brings) begins.starts.used begins.place lists

  pub few_act : FewLinks 4 65580 6 marks (map span_of mid.used.items) (sorted span_le (usable_of (all_left k a d x))) (dead_of (all_left k a d x))
  few_act = act_few L x m a o region d first mid marks is (brings_kept k x m old region a o first.writes.items keeps begins.brings) begins.starts.used begins.place lists

  pub stages_act : (new : EditPlan) → AreWithin (a ∷ []) (length (k.items x)) → length (tiles_before a (k.items x) ++ (tiles_brought a ++ tiles_behind a (k.items x))) ≤ k.most → Finishes k x m a d mid marks new → Stages k x m a o region d new
  stages_act new within few fin = record {
    within = within;
    few = few;
    first = first;
    begins = begins_kept k x m old region a o d first keeps begins;
    mid = mid;
    marks = marks;
    lists = lists;
    writes = fin.writes;
    used = fin.used;
    length = fin.length;
    change = fin.change;
    held = fin.held;
    freed = fin.freed;
    dead = fin.dead;
    is_dead = fin.is_dead;
    links = fin.links;
  }
