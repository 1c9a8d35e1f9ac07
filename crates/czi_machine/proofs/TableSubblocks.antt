-- The machine keeps to the table of commands.
use Rattle.std.proofs.Common.{◌≡◌, ℕ, ◌≤◌, ◌<◌, List, [], ◌∷◌, ◌++◌, map, length, Bool, true, false, Option, Some, None, Result, Ok, Err, option_map, option_to_list, refl, ap, sym, ◌∙◌, arith, inl, inr, if◌then◌else◌, ◌||◌}
use Rattle.std.proofs.lemmas.Bool.{cases_Bool, and_parts}
use Rattle.std.proofs.lemmas.List.{append-nil}
use Rattle.std.specs.List.{AllByRecursion, list_any}
use Rattle.czi_format.specs.Span.{Span}
use Rattle.czi_format.specs.Document.{Subblock, Document, Attachment, Metadata}
use Rattle.czi_format.specs.FirstFault.{◌>>=◌}
use Rattle.czi_format.specs.Layout.{Place, Layout}
use Rattle.czi_format.specs.Space.{Space, Full, Fit, fit, same_span}
use Rattle.czi_format.proofs.Local.{All-append}
use Rattle.czi_machine.specs.Change.{Act, keep, omit, bring, changed, brought, kept, omitted, mapped, Setting, same, set, set_kept, set_omitted, mapped_setting, to}
use Rattle.czi_machine.specs.Edit.{in_subblocks, after, in_attachments, to_metadata}
use Rattle.czi_machine.specs.Places.{Asked, stays, fresh, Placed, Fitted, fit_each, fit_option, edit_asks, staying, stays_at, all_stay, directory_asked, directories, leaving, placed, laid, freeing}
use Rattle.czi_machine.specs.Places.{relaid, space_of, subblock_need, directory_need, attdir_need, keeps_directory, keeps_attdir, in_place, a1_sizes, back, asked_layout, AskedLayout, entry_sizes, new_place, attachment_need, metadata_need, undo_asks, stays_or_back}
use Rattle.czi_machine.specs.State.{State, items_of, item_places, spans_of, not_among, Items, item_spans}
use Rattle.czi_machine.specs.Table.{changes, fit_brought, subblocks_laid, AreApart, directory_laid, directory_left, attachments_laid, metadata_laid, subblocks_undone, attachments_undone, metadata_undone, AreNew}
use Rattle.czi_machine.proofs.Asking.{spans-append}
use Rattle.czi_machine.proofs.Placing.{cover-live_places, live_parts}
use Rattle.czi_machine.proofs.Omitted.{parted_list, parted_set, parted_directory, parted_both, not_kept, staying_changed, staying_set, staying_directory, staying-both, all_stay_same, all_stay_length}
use Rattle.czi_machine.proofs.Changing.{All-kept, map-changed}
use Rattle.czi_machine.proofs.Leaving.{among_themselves}
use Rattle.czi_machine.proofs.Tiled.{All-map, All-weaken}

abbrev pub FittedItems : Type 0
FittedItems = Result (Fitted (List Place)) Full

-- results one after another
pub bind_assoc : {A B C E : Type 0} (r : Result A E) (f : A → Result B E) (g : B → Result C E) → ((r >>= f) >>= g) ≡ (r >>= λ x. f x >>= g)
bind_assoc (Ok x) f g = refl
bind_assoc (Err e) f g = refl

pub bind_same : {A B E : Type 0} (r : Result A E) (f g : A → Result B E) → ((x : A) → f x ≡ g x) → (r >>= f) ≡ (r >>= g)
bind_same (Ok x) f g each = each x
bind_same (Err e) f g each = refl

-- where everything stays, nothing is placed
pub each_stays : (l : Layout) (space : Space) (ps : List Place) → fit_each l space (map stays ps) ≡ Ok (record { places = ps; back = []; used = []; space = space })
each_stays l space [] = refl
each_stays l space (p ∷ ps) = rw (each_stays l space ps)

pub option_stays : (l : Layout) (space : Space) (o : Option Place) → fit_option l space (option_map stays o) ≡ Ok (record { places = o; back = []; used = []; space = space })
option_stays l space None = refl
option_stays l space (Some p) = refl

-- what an edit brings is placed in order
unfoldable pub placed_change : Layout → List Place → Result (Fitted (List (Act Place))) Full → FittedItems
placed_change l ps r = r >>= λ f. Ok (record { places = changed f.places ps; back = []; used = f.used; space = f.space })

pub each_brought : {X : Type 0} (l : Layout) (space : Space) (need : X → ℕ) (c : List (Act X)) (ps : List Place)
    → fit_each l space (changed (mapped (λ x. fresh (need x)) c) (map stays ps)) ≡ placed_change l ps (fit_brought l space need c)
unfolding placed_change
each_brought l space need [] ps = each_stays l space ps
each_brought l space need (bring x ∷ c) ps =
    bind_assoc (fit space (need x)) _ _ ∙ (bind_same (fit space (need x)) _ _ (λ f. rw (each_brought l f.space need c ps) (bind_assoc (fit_brought l f.space need c) _ _ ∙ sym (bind_assoc (fit_brought l f.space need c) _ _)))
    ∙ sym (bind_assoc (fit space (need x)) _ _))
each_brought l space need (keep ∷ c) [] = rw (each_brought l space need c []) (sym (bind_assoc (fit_brought l space need c) _ _))
each_brought l space need (keep ∷ c) (p ∷ ps) = rw (each_brought l space need c ps) (bind_assoc (fit_brought l space need c) _ _ ∙ sym (bind_assoc (fit_brought l space need c) _ _))
each_brought l space need (omit ∷ c) [] = rw (each_brought l space need c []) (sym (bind_assoc (fit_brought l space need c) _ _))
each_brought l space need (omit ∷ c) (p ∷ ps) = rw (each_brought l space need c ps) (sym (bind_assoc (fit_brought l space need c) _ _))

-- a list that changes doesn't stay
nothing_new : {X : Type 0} (g : X → Asked) (c : List (Act X)) (ps qs : List Place) → ((p : Place) (x : X) → stays_at p (g x) ≡ false) → all_stay qs (changed (mapped g c) (map stays ps)) ≡ true → brought c ≡ []
nothing_new g [] ps qs moves e = refl
nothing_new g (bring x ∷ c) ps (q ∷ qs) moves e = let clash : false ≡ true = sym (moves q x) ∙ (and_parts _ _ e).0 in cc
nothing_new g (keep ∷ c) [] qs moves e = nothing_new g c [] qs moves e
nothing_new g (keep ∷ c) (p ∷ ps) (q ∷ qs) moves e = nothing_new g c ps qs moves (and_parts _ _ e).1
nothing_new g (omit ∷ c) [] qs moves e = nothing_new g c [] qs moves e
nothing_new g (omit ∷ c) (p ∷ ps) qs moves e = nothing_new g c ps qs moves e
nothing_new g c ps [] moves e = cc (e)

not_longer : {X : Type 0} (g : X → Asked) (c : List (Act X)) (ps : List Place) → brought c ≡ [] → length (changed (mapped g c) (map stays ps)) ≤ length ps
not_longer g [] [] none = omega arith
not_longer g [] (p ∷ ps) none = omega (arith, not_longer g [] ps none)
not_longer g (bring x ∷ c) ps none = cc (none)
not_longer g (keep ∷ c) [] none = not_longer g c [] none
not_longer g (keep ∷ c) (p ∷ ps) none = omega (arith, not_longer g c ps none)
not_longer g (omit ∷ c) [] none = not_longer g c [] none
not_longer g (omit ∷ c) (p ∷ ps) none = omega (arith, not_longer g c ps none)

shorter : {X : Type 0} (g : X → Asked) (c : List (Act X)) (ps : List Place) → brought c ≡ [] → changes c (length ps) ≡ true → length (changed (mapped g c) (map stays ps)) < length ps
shorter g [] ps none e = cc (e)
shorter g (bring x ∷ c) ps none e = cc (none)
shorter g (keep ∷ c) [] none e = shorter g c [] none e
shorter g (keep ∷ c) (p ∷ ps) none e = omega (arith, shorter g c ps none e)
shorter g (omit ∷ c) [] none e = shorter g c [] none e
shorter g (omit ∷ c) (p ∷ ps) none e = omega (arith, not_longer g c ps none)

pub change_moves : {X : Type 0} (g : X → Asked) (c : List (Act X)) (ps : List Place) → ((p : Place) (x : X) → stays_at p (g x) ≡ false) → changes c (length ps) ≡ true
    → all_stay ps (changed (mapped g c) (map stays ps)) ≡ false
change_moves g c ps moves e = elim (cases_Bool (all_stay ps (changed (mapped g c) (map stays ps)))) [
  | inr f ↦ f
  | inl t ↦ absurd (omega (arith, all_stay_length ps (changed (mapped g c) (map stays ps)) t, shorter g c ps (nothing_new g c ps ps moves t) e))
]

-- what is asked_layout, by a change of each part
unfoldable pub asked_by : {S A M : Type 0} (f : S → Asked) (g : A → Asked) (h : M → Asked) → List (Act S) → List (Act A) → Setting M → Layout → List Asked
asked_by f g h cs ca cm l = changed (mapped f cs) (map stays l.subblocks) ++ (changed (mapped g ca) (map stays l.attachments) ++ option_to_list (set (mapped_setting h cm) (option_map stays l.metadata)))

unfoldable pub Moves : {X : Type 0} → (X → Asked) → Type 0
Moves {X} g = (x : X) (as' : List Asked) → staying (g x ∷ as') ≡ staying as'

-- the items that leave
pub items_leave : {S A M : Type 0} (f : S → Asked) (g : A → Asked) (h : M → Asked) (cs : List (Act S)) (ca : List (Act A)) (cm : Setting M) (l : Layout) → Moves f → Moves g → Moves h → AreApart l
    → not_among (staying (asked_by f g h cs ca cm l)) (item_places (items_of l)) ≡ omitted cs l.subblocks ++ (omitted ca l.attachments ++ option_to_list (set_omitted cm l.metadata))
unfolding asked_by Moves
items_leave f g h cs ca cm l mf mg mh apart =
    let T : List Asked = changed (mapped f cs) (map stays l.subblocks) in
    let A : List Asked = changed (mapped g ca) (map stays l.attachments) in
    let M : List Asked = option_to_list (set (mapped_setting h cm) (option_map stays l.metadata)) in
    let kt : List Place = kept cs l.subblocks in
    let ka : List Place = kept ca l.attachments in
    let km : List Place = option_to_list (set_kept cm l.metadata) in
    let stay : staying (T ++ (A ++ M)) ≡ spans_of (kt ++ (ka ++ km)) =
    staying-both T (A ++ M) ∙ ((λ i. staying_changed f cs l.subblocks mf i ++ (staying-both A M ∙ (λ j. staying_changed g ca l.attachments mg j ++ staying_set h cm l.metadata mh j)) i)
    ∙ sym (spans-append kt (ka ++ km) ∙ ap (λ z. spans_of kt ++ z) (spans-append ka km))) in
    let parted = parted_both l.subblocks kt (omitted cs l.subblocks) (l.attachments ++ option_to_list l.metadata) (ka ++ km) (omitted ca l.attachments ++ option_to_list (set_omitted cm l.metadata)) (parted_list cs l.subblocks)
    (parted_both l.attachments ka (omitted ca l.attachments) (option_to_list l.metadata) km (option_to_list (set_omitted cm l.metadata)) (parted_list ca l.attachments) (parted_set cm l.metadata)) in
    let some = live_parts (λ (p : Place). 0 < p.span.len) l apart.some in
    ap (λ z. not_among z (item_places (items_of l))) stay
    ∙ not_kept (item_places (items_of l)) (kt ++ (ka ++ km)) (omitted cs l.subblocks ++ (omitted ca l.attachments ++ option_to_list (set_omitted cm l.metadata))) parted
    (λ p. omega (arith, apart.once p, cover-live_places l p)) some.0

-- the directories that leave
pub directories_leave : (l : Layout) (a b : Bool) (m n : ℕ) → AreApart l
    → not_among (staying (option_to_list (directory_asked l.directory a m) ++ option_to_list (directory_asked l.attdir b n))) (directories l)
    ≡ option_to_list (if a then None else l.directory) ++ option_to_list (if b then None else l.attdir)
directories_leave l a b m n apart =
    let D : List Asked = option_to_list (directory_asked l.directory a m) in
    let X : List Asked = option_to_list (directory_asked l.attdir b n) in
    let kd : List Place = option_to_list (if a then l.directory else None) in
    let kx : List Place = option_to_list (if b then l.attdir else None) in
    let od : List Place = option_to_list (if a then None else l.directory) in
    let ox : List Place = option_to_list (if b then None else l.attdir) in
    let stay : staying (D ++ X) ≡ spans_of (kd ++ kx) = staying-both D X ∙ ((λ i. staying_directory l.directory a m i ++ staying_directory l.attdir b n i) ∙ sym (spans-append kd kx)) in
    let some = live_parts (λ (p : Place). 0 < p.span.len) l apart.some in
    ap (λ z. not_among z (directories l)) stay
    ∙ not_kept (directories l) (kd ++ kx) (od ++ ox) (parted_both (option_to_list l.directory) kd od (option_to_list l.attdir) kx ox (parted_directory a l.directory) (parted_directory b l.attdir))
    (λ p. omega (arith, apart.once p, cover-live_places l p)) some.1

pub new_moves : {X : Type 0} (need : X → ℕ) → Moves (λ x. fresh (need x))
unfolding Moves
new_moves need x as' = refl

-- a directory that is asked for, and what is left of the old one
pub asked_laid : (l : Layout) (space : Space) (old : Option Place) (b : Bool) (need : ℕ) → fit_option l space (directory_asked old b need) ≡ directory_laid l space old b need
asked_laid l space old true need = option_stays l space old
asked_laid l space old false need = on_fit (fit space need) refl
  where
    on_fit : (r : Result Fit Full) → fit space need ≡ r → fit_option l space (directory_asked old false need) ≡ directory_laid l space old false need
    on_fit (Ok f) e = rw e refl
    on_fit (Err z) e = rw e refl

pub left_is : (b : Bool) (o : Option Place) → option_to_list (if b then None else o) ≡ directory_left b o
left_is true o = refl
left_is false o = refl

pub new_never : {X : Type 0} (need : X → ℕ) (p : Place) (x : X) → stays_at p (fresh (need x)) ≡ false
new_never need p x = refl

pub back_moves : Moves back
unfolding Moves
back_moves p as' = refl

-- a change of the subblocks, by an edit or an undo: what it brings is placed, and then a directory
abbrev subblocks_placed : State → Document → Bool → Fitted (List Place) → List Place → Result Layout Full
subblocks_placed s d b f gone = directory_laid s.layout f.space s.layout.directory b (directory_need d.subblocks) >>= λ dir. Ok (freeing s.layout (record {
  directory = dir.places;
  attdir = s.layout.attdir;
  items = record (items_of s.layout) { subblocks = f.places };
  used = f.back ++ (f.used ++ dir.used);
  length = dir.space.length;
}) (gone ++ directory_left b s.layout.directory))

pub subblocks_go : {X Y : Type 0} (s : State) (d : Document) (g : X → Asked) (c : List (Act X)) (r : Result Y Full) (fitted : Y → Fitted (List Place)) → AreApart s.layout → Moves g → ((p : Place) (x : X) → stays_at p (g x) ≡ false)
    → changes c (length s.layout.subblocks) ≡ true → fit_each s.layout (space_of s) (changed (mapped g c) (map stays s.layout.subblocks)) ≡ (r >>= λ y. Ok (fitted y))
    → laid s (asked_layout s d (changed (mapped g c) (map stays s.layout.subblocks)) (map stays s.layout.attachments) (option_map stays s.layout.metadata))
    ≡ (r >>= λ y. subblocks_placed s d (in_place s.layout.directory 128 s.layout.subblocks (changed (mapped g c) (map stays s.layout.subblocks)) (entry_sizes s.document.subblocks) (entry_sizes d.subblocks)) (fitted y) (omitted c s.layout.subblocks))
unfolding asked_by
subblocks_go {Y = Y} s d g c r fitted apart moves never ch fits =
    let l : Layout = s.layout in
    let T : List Asked = changed (mapped g c) (map stays l.subblocks) in
    let b : Bool = in_place l.directory 128 l.subblocks T (entry_sizes s.document.subblocks) (entry_sizes d.subblocks) in
    let other : Bool = in_place l.attdir 256 l.attachments (map stays l.attachments) (a1_sizes s.document.attachments) (a1_sizes d.attachments) in
    let n : AskedLayout = asked_layout s d T (map stays l.attachments) (option_map stays l.metadata) in
    let moved : all_stay l.subblocks T ≡ false = change_moves g c l.subblocks never ch in
    let none : List (Act Place) = [] in
    let kept : Setting Place = same in
    let items = items_leave g back back c none kept l moves back_moves back_moves apart in
    let dirs = directories_leave l (keeps_directory s d T) (keeps_attdir s d (map stays l.attachments)) (directory_need d.subblocks) (attdir_need d.attachments) apart in
    let leaves : leaving l n ≡ omitted c l.subblocks ++ directory_left b l.directory =
    (λ i. items i ++ dirs i)
    ∙ ((λ i. append-nil (omitted c l.subblocks) i ++ (option_to_list (if (moved i || b) then None else l.directory) ++ option_to_list (if (all_stay_same l.attachments i || other) then None else l.attdir)))
    ∙ ap (λ z. omitted c l.subblocks ++ z) (append-nil (option_to_list (if b then None else l.directory)) ∙ left_is b l.directory)) in
    let asked : (space : Space) → fit_option l space n.directory ≡ directory_laid l space l.directory b (directory_need d.subblocks) =
    λ space. ap (λ z. fit_option l space (directory_asked l.directory (z || b) (directory_need d.subblocks))) moved ∙ asked_laid l space l.directory b (directory_need d.subblocks) in
    let its : Fitted (List Place) → Fitted (Option Place) → List Span → Placed = λ f dir used. record {
      directory = dir.places;
      attdir = l.attdir;
      items = record (items_of l) { subblocks = f.places };
      used = f.back ++ (f.used ++ used);
      length = dir.space.length;
    } in
    let D : Y → Result (Fitted (Option Place)) Full = λ y. directory_laid l (fitted y).space l.directory b (directory_need d.subblocks) in
    let goes : placed l (space_of s) n ≡ (r >>= λ y. D y >>= λ dir. Ok (its (fitted y) dir (dir.used ++ []))) =
    rw fits (bind_assoc r _ _ ∙ bind_same r _ _ (λ y. rw (each_stays l (fitted y).space l.attachments, option_stays l (fitted y).space l.metadata, asked (fitted y).space)
    (bind_same (D y) _ _ (λ dir. rw (all_stay_same l.attachments, option_stays l dir.space l.attdir) refl)))) in
    ap (λ z. z >>= λ p. Ok (relaid l n p)) goes ∙ (bind_assoc r _ _ ∙ bind_same r _ _ (λ y. bind_assoc (D y) _ _ ∙ bind_same (D y) _ _ (λ dir i. Ok (freeing l (its (fitted y) dir (append-nil dir.used i)) (leaves i)))))

pub subblocks_row : (s : State) (c : List (Act Subblock)) → AreApart s.layout → changes c (length s.layout.subblocks) ≡ true → laid s (edit_asks s (in_subblocks c)) ≡ subblocks_laid s c
unfolding placed_change
subblocks_row s c apart ch =
    subblocks_go s (after (in_subblocks c) s.document) (λ x. fresh (subblock_need x)) c (fit_brought s.layout (space_of s) subblock_need c)
    (λ f. record { places = changed f.places s.layout.subblocks; back = []; used = f.used; space = f.space }) apart (new_moves subblock_need) (new_never subblock_need) ch (each_brought s.layout (space_of s) subblock_need c s.layout.subblocks)

-- The machine keeps to the table of commands: changes of the attachments, and settings of the metadata.

-- a change of the attachments, by an edit or an undo
abbrev attachments_placed : State → Document → Bool → Fitted (List Place) → List Place → Result Layout Full
attachments_placed s d b f gone = directory_laid s.layout f.space s.layout.attdir b (attdir_need d.attachments) >>= λ dir. Ok (freeing s.layout (record {
  directory = s.layout.directory;
  attdir = dir.places;
  items = record (items_of s.layout) { attachments = f.places };
  used = f.back ++ (f.used ++ dir.used);
  length = dir.space.length;
}) (gone ++ directory_left b s.layout.attdir))

pub attachments_go : {X Y : Type 0} (s : State) (d : Document) (g : X → Asked) (c : List (Act X)) (r : Result Y Full) (fitted : Y → Fitted (List Place)) → AreApart s.layout → Moves g → ((p : Place) (x : X) → stays_at p (g x) ≡ false)
    → changes c (length s.layout.attachments) ≡ true → fit_each s.layout (space_of s) (changed (mapped g c) (map stays s.layout.attachments)) ≡ (r >>= λ y. Ok (fitted y))
    → laid s (asked_layout s d (map stays s.layout.subblocks) (changed (mapped g c) (map stays s.layout.attachments)) (option_map stays s.layout.metadata))
    ≡ (r >>= λ y. attachments_placed s d (in_place s.layout.attdir 256 s.layout.attachments (changed (mapped g c) (map stays s.layout.attachments)) (a1_sizes s.document.attachments) (a1_sizes d.attachments)) (fitted y) (omitted c s.layout.attachments))
unfolding asked_by
attachments_go {Y = Y} s d g c r fitted apart moves never ch fits =
    let l : Layout = s.layout in
    let A : List Asked = changed (mapped g c) (map stays l.attachments) in
    let b : Bool = in_place l.attdir 256 l.attachments A (a1_sizes s.document.attachments) (a1_sizes d.attachments) in
    let other : Bool = in_place l.directory 128 l.subblocks (map stays l.subblocks) (entry_sizes s.document.subblocks) (entry_sizes d.subblocks) in
    let n : AskedLayout = asked_layout s d (map stays l.subblocks) A (option_map stays l.metadata) in
    let moved : all_stay l.attachments A ≡ false = change_moves g c l.attachments never ch in
    let none : List (Act Place) = [] in
    let kept : Setting Place = same in
    let items = items_leave back g back none c kept l back_moves moves back_moves apart in
    let dirs = directories_leave l (keeps_directory s d (map stays l.subblocks)) (keeps_attdir s d A) (directory_need d.subblocks) (attdir_need d.attachments) apart in
    let leaves : leaving l n ≡ omitted c l.attachments ++ directory_left b l.attdir =
    (λ i. items i ++ dirs i)
    ∙ ((λ i. append-nil (omitted c l.attachments) i ++ (option_to_list (if (all_stay_same l.subblocks i || other) then None else l.directory) ++ option_to_list (if (moved i || b) then None else l.attdir)))
    ∙ ap (λ z. omitted c l.attachments ++ z) (left_is b l.attdir)) in
    let asked : (space : Space) → fit_option l space n.attdir ≡ directory_laid l space l.attdir b (attdir_need d.attachments) =
    λ space. ap (λ z. fit_option l space (directory_asked l.attdir (z || b) (attdir_need d.attachments))) moved ∙ asked_laid l space l.attdir b (attdir_need d.attachments) in
    let its : Fitted (List Place) → Fitted (Option Place) → Placed = λ f dir. record {
      directory = l.directory;
      attdir = dir.places;
      items = record (items_of l) { attachments = f.places };
      used = f.back ++ (f.used ++ dir.used);
      length = dir.space.length;
    } in
    let D : Y → Result (Fitted (Option Place)) Full = λ y. directory_laid l (fitted y).space l.attdir b (attdir_need d.attachments) in
    let goes : placed l (space_of s) n ≡ (r >>= λ y. D y >>= λ dir. Ok (its (fitted y) dir)) =
    rw (each_stays l (space_of s) l.subblocks, fits) (bind_assoc r _ _ ∙ bind_same r _ _ (λ y.
    rw (option_stays l (fitted y).space l.metadata, all_stay_same l.subblocks, option_stays l (fitted y).space l.directory, asked (fitted y).space) refl)) in
    ap (λ z. z >>= λ p. Ok (relaid l n p)) goes ∙ (bind_assoc r _ _ ∙ bind_same r _ _ (λ y. bind_assoc (D y) _ _ ∙ bind_same (D y) _ _ (λ dir i. Ok (freeing l (its (fitted y) dir) (leaves i)))))

pub attachments_row : (s : State) (c : List (Act Attachment)) → AreApart s.layout → changes c (length s.layout.attachments) ≡ true → laid s (edit_asks s (in_attachments c)) ≡ attachments_laid s c
unfolding placed_change
attachments_row s c apart ch =
    attachments_go s (after (in_attachments c) s.document) (λ x. fresh (attachment_need x)) c (fit_brought s.layout (space_of s) attachment_need c)
    (λ f. record { places = changed f.places s.layout.attachments; back = []; used = f.used; space = f.space }) apart (new_moves attachment_need) (new_never attachment_need) ch (each_brought s.layout (space_of s) attachment_need c s.layout.attachments)

metadata_leaves : (s : State) (m : Metadata) → AreApart s.layout → leaving s.layout (edit_asks s (to_metadata m)) ≡ option_to_list s.layout.metadata
unfolding asked_by
metadata_leaves s m apart =
    let l : Layout = s.layout in
    let items = items_leave (λ x. fresh (subblock_need x)) (λ x. fresh (attachment_need x)) (λ x. fresh (metadata_need x)) [] [] (to (Some m)) l (new_moves subblock_need) (new_moves attachment_need) (new_moves metadata_need) apart in
    let d : Document = after (to_metadata m) s.document in
    let dirs = directories_leave l (keeps_directory s d (map stays l.subblocks)) (keeps_attdir s d (map stays l.attachments)) (directory_need s.document.subblocks) (attdir_need s.document.attachments) apart in
    let of_tiles : Bool = in_place l.directory 128 l.subblocks (map stays l.subblocks) (entry_sizes s.document.subblocks) (entry_sizes d.subblocks) in
    let of_attachments : Bool = in_place l.attdir 256 l.attachments (map stays l.attachments) (a1_sizes s.document.attachments) (a1_sizes d.attachments) in
    (λ i. items i ++ dirs i)
    ∙ ((λ i. option_to_list l.metadata ++ (option_to_list (if (all_stay_same l.subblocks i || of_tiles) then None else l.directory) ++ option_to_list (if (all_stay_same l.attachments i || of_attachments) then None else l.attdir)))
    ∙ append-nil (option_to_list l.metadata))

pub metadata_row : (s : State) (m : Metadata) → AreApart s.layout → laid s (edit_asks s (to_metadata m)) ≡ metadata_laid s m
metadata_row s m apart = on_item (fit (space_of s) (metadata_need m)) refl
  where
    on_item : (r : Result Fit Full) → fit (space_of s) (metadata_need m) ≡ r → laid s (edit_asks s (to_metadata m)) ≡ metadata_laid s m
    on_item (Err z) e =
        let goes : placed s.layout (space_of s) (edit_asks s (to_metadata m)) ≡ Err z = rw (each_stays s.layout (space_of s) s.layout.subblocks, each_stays s.layout (space_of s) s.layout.attachments, e) in
        ap (λ r. r >>= λ p. Ok (relaid s.layout (edit_asks s (to_metadata m)) p)) goes ∙ sym (rw e)
    on_item (Ok item) e =
        let its : Placed = record {
          directory = s.layout.directory;
          attdir = s.layout.attdir;
          items = record (items_of s.layout) { metadata = Some (new_place s.layout item.span) };
          used = item.span ∷ [];
          length = item.space.length;
        } in
        let goes : placed s.layout (space_of s) (edit_asks s (to_metadata m)) ≡ Ok its =
        rw (
          each_stays s.layout (space_of s) s.layout.subblocks,
          each_stays s.layout (space_of s) s.layout.attachments,
          e,
          all_stay_same s.layout.subblocks,
          option_stays s.layout item.space s.layout.directory,
          all_stay_same s.layout.attachments,
          option_stays s.layout item.space s.layout.attdir,
        ) in
        ap (λ r. r >>= λ p. Ok (relaid s.layout (edit_asks s (to_metadata m)) p)) goes
        ∙ (ap (λ g. Ok (freeing s.layout its g)) (metadata_leaves s m apart) ∙ sym (rw e))

-- The machine keeps to the table of commands: undos.

present_among : (l : Layout) → AllByRecursion (λ (p : Place). list_any (same_span p.span) (item_spans (items_of l)) ≡ true) (item_places (items_of l))
present_among l = All-map (λ (p : Place). p.span) (λ t. list_any (same_span t) (item_spans (items_of l)) ≡ true) (item_places (items_of l)) (among_themselves (item_spans (items_of l)))

there_stays : (present : List Span) (ps : List Place) → AllByRecursion (λ (p : Place). list_any (same_span p.span) present ≡ true) ps → map (stays_or_back present) ps ≡ map stays ps
there_stays present [] all = refl
there_stays present (p ∷ ps) all = rw (all.0) (ap (λ l. stays p ∷ l) (there_stays present ps all.1))

option_there : (present : List Span) (o : Option Place) → AllByRecursion (λ (p : Place). list_any (same_span p.span) present ≡ true) (option_to_list o) → option_map (stays_or_back present) o ≡ option_map stays o
option_there present None all = refl
option_there present (Some p) all = rw (all.0)

there_back : (present : List Span) (c : List (Act Place)) → AllByRecursion (λ (p : Place). list_any (same_span p.span) present ≡ false) (brought c) → mapped (stays_or_back present) c ≡ mapped back c
there_back present [] all = refl
there_back present (bring p ∷ c) all = rw (all.0) (ap (λ l. bring (back p) ∷ l) (there_back present c all.1))
there_back present (keep ∷ c) all = ap (λ l. keep ∷ l) (there_back present c all)
there_back present (omit ∷ c) all = ap (λ l. omit ∷ l) (there_back present c all)

stays_there : (present : List Span) (p : Place) → list_any (same_span p.span) present ≡ true → stays p ≡ stays_or_back present p
stays_there present p e = rw e

-- the items of a former document, asked for
there_changed : (present : List Span) (c : List (Act Place)) (ps : List Place) → AllByRecursion (λ (p : Place). list_any (same_span p.span) present ≡ true) ps → AllByRecursion (λ (p : Place). list_any (same_span p.span) present ≡ false) (brought c)
    → map (stays_or_back present) (changed c ps) ≡ changed (mapped back c) (map stays ps)
there_changed present c ps there new =
    map-changed stays (stays_or_back present) c ps (All-weaken (λ (p : Place). list_any (same_span p.span) present ≡ true) (λ p. stays p ≡ stays_or_back present p) (λ p e. stays_there present p e) (kept c ps) (All-kept _ c ps there))
    ∙ ap (λ z. changed z (map stays ps)) (there_back present c new)

-- they lie where they lay
each_back : (l : Layout) (space : Space) (c : List (Act Place)) (ps : List Place)
    → fit_each l space (changed (mapped back c) (map stays ps)) ≡ Ok (record { places = changed c ps; back = spans_of (brought c); used = []; space = space })
each_back l space [] ps = each_stays l space ps
each_back l space (bring p ∷ c) ps = rw (each_back l space c ps)
each_back l space (keep ∷ c) [] = each_back l space c []
each_back l space (keep ∷ c) (p ∷ ps) = rw (each_back l space c ps)
each_back l space (omit ∷ c) [] = each_back l space c []
each_back l space (omit ∷ c) (p ∷ ps) = each_back l space c ps

-- what is asked_layout, after an undo of a change of the subblocks
abbrev pub with_subblocks : Layout → List (Act Place) → Items
with_subblocks l c = record (items_of l) { subblocks = changed c l.subblocks }

abbrev pub with_attachments : Layout → List (Act Place) → Items
with_attachments l c = record (items_of l) { attachments = changed c l.attachments }

abbrev pub with_metadata : Layout → Option Place → Items
with_metadata l o = record (items_of l) { metadata = o }

present_parts : (l : Layout) → AllByRecursion (λ (p : Place). list_any (same_span p.span) (item_spans (items_of l)) ≡ true) l.subblocks
    × AllByRecursion (λ (p : Place). list_any (same_span p.span) (item_spans (items_of l)) ≡ true) l.attachments
    × AllByRecursion (λ (p : Place). list_any (same_span p.span) (item_spans (items_of l)) ≡ true) (option_to_list l.metadata)
present_parts l =
    let one = All-append _ l.subblocks _ (present_among l) in
    let two = All-append _ l.attachments (option_to_list l.metadata) one.1 in
    (one.0, two.0, two.1)

subblocks_next : (s : State) (d : Document) (c : List (Act Place)) → AreNew s.layout (brought c)
    → undo_asks s (record { document = d; items = with_subblocks s.layout c; edits = 1 }) ≡ asked_layout s d (changed (mapped back c) (map stays s.layout.subblocks)) (map stays s.layout.attachments) (option_map stays s.layout.metadata)
subblocks_next s d c new =
    let l : Layout = s.layout in
    let present : List Span = item_spans (items_of l) in
    let parts = present_parts l in
    λ i. asked_layout s d (there_changed present c l.subblocks parts.0 new i) (there_stays present l.attachments parts.1 i) (option_there present l.metadata parts.2 i)

pub subblocks_undone_row : (s : State) (d : Document) (c : List (Act Place)) → AreApart s.layout → changes c (length s.layout.subblocks) ≡ true → AreNew s.layout (brought c)
    → laid s (undo_asks s (record { document = d; items = with_subblocks s.layout c; edits = 1 })) ≡ subblocks_undone s (record { document = d; items = with_subblocks s.layout c; edits = 1 }) c
subblocks_undone_row s d c apart ch new = ap (laid s) (subblocks_next s d c new) ∙ subblocks_go s d back c (Ok (space_of s))
    (λ space. record { places = changed c s.layout.subblocks; back = spans_of (brought c); used = []; space = space }) apart back_moves (λ p x. refl) ch (each_back s.layout (space_of s) c s.layout.subblocks)

attachments_next : (s : State) (d : Document) (c : List (Act Place)) → AreNew s.layout (brought c)
    → undo_asks s (record { document = d; items = with_attachments s.layout c; edits = 1 }) ≡ asked_layout s d (map stays s.layout.subblocks) (changed (mapped back c) (map stays s.layout.attachments)) (option_map stays s.layout.metadata)
attachments_next s d c new =
    let l : Layout = s.layout in
    let present : List Span = item_spans (items_of l) in
    let parts = present_parts l in
    λ i. asked_layout s d (there_stays present l.subblocks parts.0 i) (there_changed present c l.attachments parts.1 new i) (option_there present l.metadata parts.2 i)

pub attachments_undone_row : (s : State) (d : Document) (c : List (Act Place)) → AreApart s.layout → changes c (length s.layout.attachments) ≡ true → AreNew s.layout (brought c)
    → laid s (undo_asks s (record { document = d; items = with_attachments s.layout c; edits = 1 })) ≡ attachments_undone s (record { document = d; items = with_attachments s.layout c; edits = 1 }) c
attachments_undone_row s d c apart ch new = ap (laid s) (attachments_next s d c new) ∙ attachments_go s d back c (Ok (space_of s))
    (λ space. record { places = changed c s.layout.attachments; back = spans_of (brought c); used = []; space = space }) apart back_moves (λ p x. refl) ch (each_back s.layout (space_of s) c s.layout.attachments)

option_back : (present : List Span) (o : Option Place) → AllByRecursion (λ (p : Place). list_any (same_span p.span) present ≡ false) (option_to_list o) → option_map (stays_or_back present) o ≡ set (mapped_setting back (to o)) None
option_back present None all = refl
option_back present (Some p) all = rw (all.0)

set_back : (o : Option Place) (old : Option Asked) → set (mapped_setting back (to o)) None ≡ set (mapped_setting back (to o)) old
set_back None old = refl
set_back (Some p) old = refl

goes_back : (l : Layout) (space : Space) (o : Option Place) → fit_option l space (set (mapped_setting back (to o)) None) ≡ Ok (record { places = o; back = spans_of (option_to_list o); used = []; space = space })
goes_back l space None = refl
goes_back l space (Some p) = refl

pub metadata_undone_row : (s : State) (d : Document) (o : Option Place) → AreApart s.layout → AreNew s.layout (option_to_list o)
    → laid s (undo_asks s (record { document = d; items = with_metadata s.layout o; edits = 1 })) ≡ Ok (metadata_undone s (record { document = d; items = with_metadata s.layout o; edits = 1 }))
unfolding asked_by
metadata_undone_row s d o apart new =
    let l : Layout = s.layout in
    let present : List Span = item_spans (items_of l) in
    let parts = present_parts l in
    let n : AskedLayout = asked_layout s d (map stays l.subblocks) (map stays l.attachments) (set (mapped_setting back (to o)) None) in
    let next_is : undo_asks s (record { document = d; items = with_metadata l o; edits = 1 }) ≡ n =
    λ i. asked_layout s d (there_stays present l.subblocks parts.0 i) (there_stays present l.attachments parts.1 i) (option_back present o new i) in
    let none : List (Act Place) = [] in
    let items = items_leave back back back none none (to o) l back_moves back_moves back_moves apart in
    let dirs = directories_leave l (keeps_directory s d (map stays l.subblocks)) (keeps_attdir s d (map stays l.attachments)) (directory_need d.subblocks) (attdir_need d.attachments) apart in
    let of_tiles : Bool = in_place l.directory 128 l.subblocks (map stays l.subblocks) (entry_sizes s.document.subblocks) (entry_sizes d.subblocks) in
    let of_attachments : Bool = in_place l.attdir 256 l.attachments (map stays l.attachments) (a1_sizes s.document.attachments) (a1_sizes d.attachments) in
    let same_next : asked_layout s d (map stays l.subblocks) (map stays l.attachments) (set (mapped_setting back (to o)) (option_map stays l.metadata)) ≡ n =
    ap (asked_layout s d (map stays l.subblocks) (map stays l.attachments)) (sym (set_back o (option_map stays l.metadata))) in
    let leaves : leaving l n ≡ option_to_list l.metadata =
    sym (ap (leaving l) same_next)
    ∙ ((λ i. items i ++ dirs i)
    ∙ ((λ i. option_to_list l.metadata ++ (option_to_list (if (all_stay_same l.subblocks i || of_tiles) then None else l.directory) ++ option_to_list (if (all_stay_same l.attachments i || of_attachments) then None else l.attdir)))
    ∙ append-nil (option_to_list l.metadata))) in
    let its : Placed = record { directory = l.directory; attdir = l.attdir; items = with_metadata l o; used = spans_of (option_to_list o); length = l.length } in
    let used : spans_of (option_to_list o) ++ [] ≡ spans_of (option_to_list o) = append-nil (spans_of (option_to_list o)) in
    let goes : placed l (space_of s) n ≡ Ok (record its { used = spans_of (option_to_list o) ++ [] }) =
    rw (
      each_stays l (space_of s) l.subblocks,
      each_stays l (space_of s) l.attachments,
      goes_back l (space_of s) o,
      all_stay_same l.subblocks,
      option_stays l (space_of s) l.directory,
      all_stay_same l.attachments,
      option_stays l (space_of s) l.attdir,
    ) in
    ap (laid s) next_is ∙ (ap (λ r. r >>= λ p. Ok (relaid l n p)) (goes ∙ ap (λ z. Ok (record its { used = z })) used) ∙ ap (λ g. Ok (freeing l its g)) leaves)
