-- Edits and undos, from their plans, with what brings the former documents back.
use Rattle.std.proofs.Common.{◌≡◌, ℕ, ◌≤◌, ◌<◌, List, [], ◌∷◌, ◌++◌, map, take, length, Option, Some, None, Ok, option_map, option_to_list, refl, ap, sym, ◌∙◌, arith, subst, inl, inr}
use Rattle.std.specs.List.{AllByRecursion, list_any}
use Rattle.std.proofs.lemmas.Bool.{cases_Bool}
use Rattle.czi_format.specs.FirstFault.{with_fault}
use Rattle.czi_format.specs.Layout.{Place, Layout}
use Rattle.czi_format.specs.Live.{Live, Directory, Tile, AttItem, MetaItem, subblock_of, attachment_of, metadata_of}
use Rattle.czi_format.specs.Segment.{extent}
use Rattle.czi_format.specs.Space.{Space, same_span}
use Rattle.czi_format.specs.Span.{Span, end_of}
use Rattle.czi_format.proofs.Local.{All-append}
use Rattle.czi_format.proofs.Rules.{on_ok}
use Rattle.czi_machine.specs.Change.{Act, keep, omit, bring, brought, mapped, Setting, to, set, set_new, mapped_setting}
use Rattle.czi_machine.specs.Edit.{DocumentEffect, after}
use Rattle.czi_machine.specs.Fits.{IsAt, SetsAt, ChangesAt, FitsEffect}
use Rattle.czi_machine.specs.Formers.{Lain, tile_place, attachment_place, metadata_place, Return, return_effect, return_items, brought_back, LiesHeld, BringBack, present, undoing}
use Rattle.czi_machine.specs.Kept.{LiesWith, undo_turn, FitsUndo, PlansUndo, UndoIs}
use Rattle.czi_machine.specs.Laws.{Lies, Leads}
use Rattle.czi_machine.specs.Machine.{after_effect, after_undo, after_undo_of, as_refusal, restored, kept_formers}
use Rattle.czi_machine.specs.Places.{AskedLayout, Placed, Fitted, fit_one, fit_each, fit_option, placed, laid, relaid, space_of, undo_asks, stays_or_back}
use Rattle.czi_machine.specs.Planned.{Brings, Sets, BringsTile, BringsAttachment, BringsMetadata, Plans}
use Rattle.czi_machine.specs.Puts.{PutsHeader}
use Rattle.czi_machine.specs.Sound.{IsGaplessState, IsDisjointState}
use Rattle.czi_machine.specs.State.{Items, Former, State, held, held_by, items_of, item_places, item_spans, spans_of, not_among}
use Rattle.czi_machine.specs.LiveChange.{LiveChange, changed_live, SpansAt}
use Rattle.czi_machine.specs.Written.{Piece, Wrote}
use Rattle.czi_machine.specs.GroupKept.{LiesAsPlaced}
use Rattle.czi_machine.specs.Grouped.{put_in, Groups}
use Rattle.czi_machine.proofs.AnyCommand.{ends_before, any_commanded}
use Rattle.czi_machine.proofs.BroughtBack.{HasBack, has_back}
use Rattle.czi_machine.proofs.FormersKept.{edits_bring_back, groups_bring_back, edit_makes, undos_bring_back}
use Rattle.czi_machine.proofs.Exact.{sound_tidy}
use Rattle.czi_machine.proofs.Follow.{spans_follow, fits_turn}
use Rattle.czi_machine.proofs.FromPlan.{plan_writes, planned}
use Rattle.czi_machine.proofs.Led.{stays_sound, stays_tidy, no_fault, led}
use Rattle.czi_machine.proofs.Lying.{lies_loosely}
use Rattle.czi_machine.proofs.Placing.{held_covered}
use Rattle.czi_machine.proofs.Steady.{on_all}
use Rattle.czi_machine.proofs.Tidy.{undo_places}
use Rattle.czi_machine.proofs.Tiled.{All-map, map-All}
use Rattle.czi_machine.proofs.Restated.{one_ok, ok_is}
use Rattle.czi_machine.proofs.Ordering.{put_at, set_at}

-- what stays or goes back takes no space
one_space : (l : Layout) (present : List Span) (space : Space) (q : Place) (r : Fitted Place) → fit_one l space (stays_or_back present q) ≡ Ok r → r.space ≡ space
one_space l present space q r e = elim (cases_Bool (list_any (same_span q.span) present)) [
  | inl t ↦ ap (λ (z : Fitted Place). z.space) (sym (ok_is _ r (rw t at e)))
  | inr t ↦ ap (λ (z : Fitted Place). z.space) (sym (ok_is _ r (rw t at e)))
]

each_space : (l : Layout) (present : List Span) (space : Space) (ps : List Place) (r : Fitted (List Place)) → fit_each l space (map (stays_or_back present) ps) ≡ Ok r → r.space ≡ space
each_space l present space [] r e = ap (λ (z : Fitted (List Place)). z.space) (sym (ok_is _ r e))
each_space l present space (q ∷ ps) r e =
    on_ok (fit_one l space (stays_or_back present q)) _ r e λ first one more.
    on_ok (fit_each l first.space (map (stays_or_back present) ps)) _ r more λ rest each done.
    ap (λ (z : Fitted (List Place)). z.space) (sym (ok_is _ r done)) ∙ (each_space l present first.space ps rest each ∙ one_space l present space q first one)

option_space : (l : Layout) (present : List Span) (space : Space) (o : Option Place) (r : Fitted (Option Place)) → fit_option l space (option_map (stays_or_back present) o) ≡ Ok r → r.space ≡ space
option_space l present space None r e = ap (λ (z : Fitted (Option Place)). z.space) (sym (ok_is _ r e))
option_space l present space (Some q) r e =
    on_ok (fit_one l space (stays_or_back present q)) _ r e λ first one done.
    ap (λ (z : Fitted (Option Place)). z.space) (sym (ok_is _ r done)) ∙ one_space l present space q first one

-- what is brought back, and where it lies
brings_mapped : {W X Y : Type 0} (P : X → Y → Type 0) (f : W → X) (g : W → Y) (c : List (Act W)) → AllByRecursion (λ w. P (f w) (g w)) (brought c) → Brings P (mapped f c) (mapped g c)
brings_mapped P f g [] all = tt
brings_mapped P f g (keep ∷ c) all = brings_mapped P f g c all
brings_mapped P f g (omit ∷ c) all = brings_mapped P f g c all
brings_mapped P f g (bring w ∷ c) all = (all.0, brings_mapped P f g c all.1)

sets_mapped : {W X Y : Type 0} (P : X → Y → Type 0) (f : W → X) (g : W → Y) (c : Setting W) → AllByRecursion (λ w. P (f w) (g w)) (option_to_list (set_new c)) → Sets P (mapped_setting f c) (mapped_setting g c)
sets_mapped P f g (to (Some w)) all = all.0
sets_mapped P f g c all = tt

all_refl : {W : Type 0} (f : W → Span) (ws : List W) → AllByRecursion (λ w. f w ≡ f w) ws
all_refl f [] = tt
all_refl f (w ∷ ws) = (refl, all_refl f ws)

-- An undo, and where it put things.
record Unmade (s s' : State) (f : Former) (formers : List Former) : Type 0 where
  at : Placed
  there : placed s.layout (space_of s) (undo_asks s f) ≡ Ok at
  whole : restored s f formers (relaid s.layout (undo_asks s f) at) ≡ s'

undo_makes : (s s' : State) (f : Former) (formers : List Former) → s.formers ≡ f ∷ formers → after_undo s ≡ Ok s' → Unmade s s' f formers
undo_makes s s' f formers newest e =
    on_ok (with_fault as_refusal (laid s (undo_asks s f))) _ s' (sym (ap (after_undo_of s) newest) ∙ e) λ l l_is done.
    on_ok (placed s.layout (space_of s) (undo_asks s f)) _ l (no_fault as_refusal (laid s (undo_asks s f)) l l_is) λ pl pl_is laid_is.
    record { at = pl; there = pl_is; whole = ap (restored s f formers) (ok_is (relaid s.layout (undo_asks s f) pl) l laid_is) ∙ ok_is _ s' done }

undo_turns : (s s' : State) (f : Former) (formers : List Former) (r : Return) (d x : Setting Directory) → s.formers ≡ f ∷ formers → f.items ≡ return_items r (items_of s.layout) → after_undo s ≡ Ok s' → FitsUndo s f d x
    → ChangesAt s.layout s'.layout (undo_turn r d x)
undo_turns s s' f formers r d x newest items_are goes fits =
    let l : Layout = s.layout in
    let n : AskedLayout = undo_asks s f in
    let now : List Span = item_spans (items_of l) in
    let made : Unmade s s' f formers = undo_makes s s' f formers newest goes in
    let placed_items : made.at.items ≡ return_items r (items_of l) = undo_places s f made.at made.there ∙ items_are in
    let its : s'.layout ≡ relaid l n made.at = ap (λ (z : State). z.layout) (sym made.whole) in
    on_ok (fit_each l (space_of s) n.subblocks) _ made.at made.there λ a a_is e1.
    on_ok (fit_each l a.space n.attachments) _ made.at e1 λ b b_is e2.
    on_ok (fit_option l b.space n.metadata) _ made.at e2 λ m m_is e3.
    on_ok (fit_option l m.space n.directory) _ made.at e3 λ dd d_is e4.
    on_ok (fit_option l dd.space n.attdir) _ made.at e4 λ xx x_is e5.
    let spaces : m.space ≡ space_of s = option_space l now b.space f.items.metadata m m_is ∙ (each_space l now a.space f.items.attachments b b_is ∙ each_space l now (space_of s) f.items.subblocks a a_is) in
    let td : dd ≡ fits.directory = one_ok dd fits.directory (fit_option l (space_of s) n.directory) (subst (λ z. fit_option l z n.directory ≡ Ok dd) spaces d_is) fits.directory_fit in
    let tx : xx ≡ fits.attdir = one_ok xx fits.attdir (fit_option l fits.directory.space n.attdir) (subst (λ (z : Fitted (Option Place)). fit_option l z.space n.attdir ≡ Ok xx) td x_is) fits.attdir_fit in
    let at_is = ok_is _ made.at e5 in
    record {
      header = ap (λ (z : Layout). z.header.span) its;
      directory = subst (SetsAt (λ (d : Directory). d.segment) d l.directory) (sym (ap (λ (z : Layout). z.directory) its ∙ (ap (λ (z : Placed). z.directory) (sym at_is) ∙ ap (λ (z : Fitted (Option Place)). z.places) td))) fits.directory_at;
      tiles = mapped tile_place r.tiles;
      tiles_at = brings_mapped (IsAt (λ (x : Tile). x.segment)) (λ (y : Lain Tile). y.item) tile_place r.tiles (all_refl (λ (y : Lain Tile). extent y.item.segment) (brought r.tiles));
      subblocks = ap (λ (z : Layout). z.subblocks) its ∙ ap (λ (z : Items). z.subblocks) placed_items;
      attdir = subst (SetsAt (λ (d : Directory). d.segment) x l.attdir) (sym (ap (λ (z : Layout). z.attdir) its ∙ (ap (λ (z : Placed). z.attdir) (sym at_is) ∙ ap (λ (z : Fitted (Option Place)). z.places) tx))) fits.attdir_at;
      atts = mapped attachment_place r.attachments;
      atts_at = brings_mapped (IsAt (λ (x : AttItem). x.segment)) (λ (y : Lain AttItem). y.item) attachment_place r.attachments (all_refl (λ (y : Lain AttItem). extent y.item.segment) (brought r.attachments));
      attachments = ap (λ (z : Layout). z.attachments) its ∙ ap (λ (z : Items). z.attachments) placed_items;
      metadata = of_metadata l.metadata s'.layout.metadata r.metadata (ap (λ (z : Layout). z.metadata) its ∙ ap (λ (z : Items). z.metadata) placed_items);
    }
  where
    of_metadata : (old new : Option Place) (c : Setting (Lain MetaItem)) → new ≡ set (mapped_setting metadata_place c) old → SetsAt (λ (m : MetaItem). m.segment) (mapped_setting (λ (y : Lain MetaItem). y.item) c) old new
    of_metadata old new (to (Some y)) e = ap (option_map (λ (p : Place). p.span)) e
    of_metadata old new c e = e

-- all of what comes back lies in the image
back_inside : (image : List ℕ) (s : State) (f : Former) (formers : List Former) (r : Return) → IsDisjointState s → s.formers ≡ f ∷ formers → f.items ≡ return_items r (items_of s.layout) → LiesHeld image (items_of s.layout) r
    → HasBack (λ (h : Span). end_of h ≤ s.layout.length) r
back_inside image s f formers r is newest items_are lies =
    let P : Span → Type 0 = λ h. end_of h ≤ s.layout.length in
    let i : Items = items_of s.layout in
    let all : AllByRecursion P (held s) = ends_before (held s) s.layout.length (map-All (λ (q : Place). q.span) (λ (h : Span). 0 < h.len) (held_by i s.formers) is.held.some)
    (λ p k. omega (arith, held_covered s p is, is.inside p k)) in
    let all' : AllByRecursion P (spans_of (held_by i (f ∷ formers))) = subst (λ z. AllByRecursion P (spans_of (held_by i z))) newest all in
    let places : AllByRecursion (λ (q : Place). P q.span) (not_among (item_spans i) (item_places f.items) ++ held_by f.items formers) = All-map (λ (q : Place). q.span) P _ all' in
    let first = (All-append (λ (q : Place). P q.span) (not_among (item_spans i) (item_places f.items)) (held_by f.items formers) places).0 in
    has_back P image i r lies (map-All (λ (q : Place). q.span) P (not_among (item_spans i) (item_places (return_items r i)))
    (subst (λ z. AllByRecursion (λ (q : Place). P q.span) (not_among (item_spans i) (item_places z))) items_are first))

-- An undo's plan is the plan of an effect.
record Newest (image : List ℕ) (s : State) (f : Former) (r : Return) : Type 0 where
  is : f ≡ brought_back image r (present s)
  lies : LiesHeld image (items_of s.layout) r

newest_back : (image : List ℕ) (s : State) (f : Former) (formers : List Former) (r : Return) (returns : List Return) → s.formers ≡ f ∷ formers → BringBack image (present s) (r ∷ returns) s.formers → Newest image s f r
newest_back image s f formers r returns newest back = let b : BringBack image (present s) (r ∷ returns) (f ∷ formers) = subst (BringBack image (present s) (r ∷ returns)) newest back in record { is = b.0; lies = b.1 }

pub undo_is : (image : List ℕ) (s s' : State) (live : Live) (f : Former) (formers : List Former) (r : Return) (returns : List Return) (d x : Setting Directory) (pieces : List Piece)
    → LiesWith image live s (r ∷ returns) → s.formers ≡ f ∷ formers → after_undo s ≡ Ok s' → FitsUndo s f d x → PlansUndo s.layout s'.layout live r d x pieces → UndoIs image s s' live r (undo_turn r d x) pieces
undo_is image s s' live f formers r returns d x pieces w newest goes fits plan =
    let t : LiveChange = undo_turn r d x in
    let b : Newest image s f r = newest_back image s f formers r returns newest w.back in
    let made : Unmade s s' f formers = undo_makes s s' f formers newest goes in
    let items_are : f.items ≡ return_items r (items_of s.layout) = ap (λ (z : Former). z.items) b.is in
    let inside : HasBack (λ (h : Span). end_of h ≤ s.layout.length) r = back_inside image s f formers r w.tidy newest items_are b.lies in
    record {
      spans = spans_follow s.layout s'.layout live t w.lies.extents (undo_turns s s' f formers r d x newest items_are goes fits);
      document = ap (λ (z : State). z.document) (sym made.whole) ∙ ap (λ (z : Former). z.document) b.is;
      plans = record {
        directory = plan.directory;
        tiles = brings_mapped (BringsTile image pieces) (λ (y : Lain Tile). y.item) (λ (y : Lain Tile). subblock_of image y.item) r.tiles
            (on_all _ (λ (y : Lain Tile). (end_of (extent y.item.segment) ≤ s.layout.length) × PutsHeader pieces y.item.segment) _
            (λ y h b. inr (record { id = h.1; sound = h.3; position = h.2; reads = h.0; contents = refl; inside = omega (arith, b.0, w.lies.length); puts = b.1 })) (brought r.tiles) b.lies.tiles
            (on_all (λ (y : Lain Tile). end_of (extent y.item.segment) ≤ s.layout.length) (λ (y : Lain Tile). PutsHeader pieces y.item.segment) _ (λ y a b. (a, b)) (brought r.tiles) inside.tiles plan.tiles));
        attdir = plan.attdir;
        attachments = brings_mapped (BringsAttachment image pieces) (λ (y : Lain AttItem). y.item) (λ (y : Lain AttItem). attachment_of image y.item) r.attachments
            (on_all _ (λ (y : Lain AttItem). (end_of (extent y.item.segment) ≤ s.layout.length) × PutsHeader pieces y.item.segment) _
            (λ y h b. inr (record { id = h.1; sound = h.3; position = h.2; reads = h.0; contents = refl; inside = omega (arith, b.0, w.lies.length); puts = b.1 })) (brought r.attachments) b.lies.attachments
            (on_all (λ (y : Lain AttItem). end_of (extent y.item.segment) ≤ s.layout.length) (λ (y : Lain AttItem). PutsHeader pieces y.item.segment) _ (λ y a b. (a, b)) (brought r.attachments) inside.attachments plan.attachments));
        metadata = sets_mapped (BringsMetadata image pieces) (λ (y : Lain MetaItem). y.item) (λ (y : Lain MetaItem). metadata_of image y.item) r.metadata
            (on_all _ (λ (y : Lain MetaItem). (end_of (extent y.item.segment) ≤ s.layout.length) × PutsHeader pieces y.item.segment) _
            (λ y h b. inr (record { id = h.1; sound = h.2; reads = h.0; contents = refl; inside = omega (arith, b.0, w.lies.length); puts = b.1 })) (option_to_list (set_new r.metadata)) b.lies.metadata
            (on_all (λ (y : Lain MetaItem). end_of (extent y.item.segment) ≤ s.layout.length) (λ (y : Lain MetaItem). PutsHeader pieces y.item.segment) _ (λ y a b. (a, b)) (option_to_list (set_new r.metadata)) inside.metadata plan.metadata));
        around = plan.around;
        small = plan.small;
      };
    }

-- edits
edited_document : (s s' : State) (e : DocumentEffect) → after_effect s e ≡ Ok s' → s'.document ≡ after e s.document
edited_document s s' e goes = ap (λ (z : State). z.document) (sym (edit_makes s s' e goes).whole)

pub edits_keep : (image other : List ℕ) (s s' : State) (live : Live) (e : DocumentEffect) (t : LiveChange) (pieces : List Piece) (returns : List Return) → LiesWith image live s returns
    → after_effect s e ≡ Ok s' → FitsEffect s e t → Plans image s.layout s'.layout live e t pieces → Wrote image other pieces → length other ≡ s'.layout.length
    → LiesWith other (changed_live t live) s' (undoing 1 t live s.layout ∷ take (kept_formers 1 s) returns)
edits_keep image other s s' live e t pieces returns w goes fits plan wrote long =
    let leads : Leads s s' = inl (e, goes) in
    let is' : IsDisjointState s' = stays_tidy s s' w.tidy leads in
    let at : SpansAt s'.layout (changed_live t live) = spans_follow s.layout s'.layout live t w.lies.extents (fits_turn s s' e t fits goes) in
    let read = plan_writes image other s s' live e t pieces w.lies is' (led s s' w.tidy leads).longer at plan wrote long in
    record {
      lies = any_commanded image other s s' live t pieces w.lies w.tidy leads at (edited_document s s' e goes ∙ ap (λ z. after z s.document) (sym read.0)) read.1;
      tidy = is';
      back = edits_bring_back image other s s' live t pieces returns w.lies w.tidy (ap (after_effect s) read.0 ∙ goes) at read.1 w.back;
    }

pub edits_steady : (image other : List ℕ) (s s' : State) (live : Live) (e : DocumentEffect) (t : LiveChange) (pieces : List Piece) → Lies image live s → IsGaplessState s
    → after_effect s e ≡ Ok s' → FitsEffect s e t → Plans image s.layout s'.layout live e t pieces → Wrote image other pieces → length other ≡ s'.layout.length
    → Lies other (changed_live t live) s' × IsGaplessState s'
edits_steady image other s s' live e t pieces lies is goes fits plan wrote long =
    let leads : Leads s s' = inl (e, goes) in
    let at : SpansAt s'.layout (changed_live t live) = spans_follow s.layout s'.layout live t (lies_loosely image live s lies).extents (fits_turn s s' e t fits goes) in
    ((planned image other s s' live e t pieces lies is leads at (edited_document s s' e goes) plan wrote long).1, stays_sound s s' is leads)

-- undos
pub undos_keep : (image other : List ℕ) (s s' : State) (live : Live) (f : Former) (formers : List Former) (r : Return) (returns : List Return) (d x : Setting Directory) (pieces : List Piece)
    → LiesWith image live s (r ∷ returns) → s.formers ≡ f ∷ formers → after_undo s ≡ Ok s' → FitsUndo s f d x → PlansUndo s.layout s'.layout live r d x pieces
    → Wrote image other pieces → length other ≡ s'.layout.length → LiesWith other (changed_live (undo_turn r d x) live) s' returns
undos_keep image other s s' live f formers r returns d x pieces w newest goes fits plan wrote long =
    let t : LiveChange = undo_turn r d x in
    let leads : Leads s s' = inr (inl goes) in
    let is' : IsDisjointState s' = stays_tidy s s' w.tidy leads in
    let u : UndoIs image s s' live r t pieces = undo_is image s s' live f formers r returns d x pieces w newest goes fits plan in
    let read = plan_writes image other s s' live (return_effect image r) t pieces w.lies is' (led s s' w.tidy leads).longer u.spans u.plans wrote long in
    record {
      lies = any_commanded image other s s' live t pieces w.lies w.tidy leads u.spans (u.document ∙ ap (λ z. after z s.document) (sym read.0)) read.1;
      tidy = is';
      back = undos_bring_back image other s s' live t pieces r returns w.lies w.tidy goes u.spans read.1 w.back;
    }

pub undos_steady : (image other : List ℕ) (s s' : State) (live : Live) (f : Former) (formers : List Former) (r : Return) (returns : List Return) (d x : Setting Directory) (pieces : List Piece)
    → Lies image live s → IsGaplessState s → BringBack image (present s) (r ∷ returns) s.formers → s.formers ≡ f ∷ formers → after_undo s ≡ Ok s' → FitsUndo s f d x
    → PlansUndo s.layout s'.layout live r d x pieces → Wrote image other pieces → length other ≡ s'.layout.length → Lies other (changed_live (undo_turn r d x) live) s' × IsGaplessState s'
undos_steady image other s s' live f formers r returns d x pieces lies is back newest goes fits plan wrote long =
    let t : LiveChange = undo_turn r d x in
    let w : LiesWith image live s (r ∷ returns) = record { lies = lies_loosely image live s lies; tidy = sound_tidy s is; back = back } in
    let u : UndoIs image s s' live r t pieces = undo_is image s s' live f formers r returns d x pieces w newest goes fits plan in
    ((planned image other s s' live (return_effect image r) t pieces lies is (inr (inl goes)) u.spans u.document u.plans wrote long).1, stays_sound s s' is (inr (inl goes)))

-- Groups, from their plans, with what brings the former documents back.

group_turns : (s s' : State) (g : Groups s s') (t : LiveChange) → LiesAsPlaced s s' g t → ChangesAt s.layout s'.layout t
group_turns s s' g t at =
    let l : Layout = s.layout in
    let l' : Layout = s'.layout in
    let is : g.placed ≡ _ = g.places.is in
    let header : l'.header.span ≡ l.header.span = ap (λ (z : State). z.layout.header.span) (sym g.goes) in
    let dir : l'.directory ≡ g.places.directory.places = ap (λ (z : State). z.layout.directory) (sym g.goes) ∙ ap (λ (z : Placed). z.directory) is in
    let att : l'.attdir ≡ g.places.attdir.places = ap (λ (z : State). z.layout.attdir) (sym g.goes) ∙ ap (λ (z : Placed). z.attdir) is in
    record {
      header = header;
      directory = subst (SetsAt (λ (d : Directory). d.segment) t.directory l.directory) (sym dir) at.directory_at;
      tiles = put_in l g.effect.subblocks g.places.tiles;
      tiles_at = put_at (λ (x : Tile). x.segment) l t.tiles g.effect.subblocks g.places.tiles at.tiles at.tiles_at;
      subblocks = ap (λ (z : State). z.layout.subblocks) (sym g.goes) ∙ ap (λ (z : Placed). z.items.subblocks) is;
      attdir = subst (SetsAt (λ (d : Directory). d.segment) t.attdir l.attdir) (sym att) at.attdir_at;
      atts = put_in l g.effect.attachments g.places.attachments;
      atts_at = put_at (λ (x : AttItem). x.segment) l t.attachments g.effect.attachments g.places.attachments at.attachments at.attachments_at;
      attachments = ap (λ (z : State). z.layout.attachments) (sym g.goes) ∙ ap (λ (z : Placed). z.items.attachments) is;
      metadata = subst (SetsAt (λ (m : MetaItem). m.segment) t.metadata l.metadata) (sym (ap (λ (z : State). z.layout.metadata) (sym g.goes) ∙ ap (λ (z : Placed). z.items.metadata) is))
          (set_at l t.metadata g.effect.metadata l.metadata g.places.metadata at.metadata at.metadata_at);
    }

group_document : (s s' : State) (g : Groups s s') → s'.document ≡ after g.effect s.document
group_document s s' g = ap (λ (z : State). z.document) (sym g.goes)

pub groups_keep : (image other : List ℕ) (s s' : State) (live : Live) (g : Groups s s') (t : LiveChange) (pieces : List Piece) (returns : List Return) → LiesWith image live s returns
    → LiesAsPlaced s s' g t → Plans image s.layout s'.layout live g.effect t pieces → Wrote image other pieces → length other ≡ s'.layout.length
    → LiesWith other (changed_live t live) s' (undoing g.edits t live s.layout ∷ take (kept_formers g.edits s) returns)
groups_keep image other s s' live g t pieces returns w at plan wrote long =
    let leads : Leads s s' = inr (inr g) in
    let is' : IsDisjointState s' = stays_tidy s s' w.tidy leads in
    let spans : SpansAt s'.layout (changed_live t live) = spans_follow s.layout s'.layout live t w.lies.extents (group_turns s s' g t at) in
    let read = plan_writes image other s s' live g.effect t pieces w.lies is' (led s s' w.tidy leads).longer spans plan wrote long in
    record {
      lies = any_commanded image other s s' live t pieces w.lies w.tidy leads spans (group_document s s' g ∙ ap (λ z. after z s.document) (sym read.0)) read.1;
      tidy = is';
      back = groups_bring_back image other s s' live t pieces returns w.lies w.tidy g (sym read.0) spans read.1 w.back;
    }

pub groups_steady : (image other : List ℕ) (s s' : State) (live : Live) (g : Groups s s') (t : LiveChange) (pieces : List Piece) → Lies image live s → IsGaplessState s
    → LiesAsPlaced s s' g t → Plans image s.layout s'.layout live g.effect t pieces → Wrote image other pieces → length other ≡ s'.layout.length
    → Lies other (changed_live t live) s' × IsGaplessState s'
groups_steady image other s s' live g t pieces lies is at plan wrote long =
    let leads : Leads s s' = inr (inr g) in
    let spans : SpansAt s'.layout (changed_live t live) = spans_follow s.layout s'.layout live t (lies_loosely image live s lies).extents (group_turns s s' g t at) in
    ((planned image other s s' live g.effect t pieces lies is leads spans (group_document s s' g) plan wrote long).1, stays_sound s s' is leads)
