-- What brings a former document back still does, where the bytes of held items are the same.
use Rattle.std.proofs.Common.{◌≡◌, ℕ, zero, suc, ◌+◌, ◌-◌, List, [], ◌∷◌, ◌++◌, take, Bool, true, false, not, Option, Some, option_to_list, refl, ap, sym, ◌∙◌, arith, subst, inl, inr}
use Rattle.std.specs.List.{AllByRecursion, filter, list_any}
use Rattle.std.proofs.lemmas.Bool.{cases_Bool}
use Rattle.czi_format.specs.Bytes.{bytes_at}
use Rattle.czi_format.specs.Layout.{Place}
use Rattle.czi_format.specs.Live.{Tile, tile, AttItem, att_item, MetaItem, meta_item, subblock_of, attachment_of, metadata_of}
use Rattle.czi_format.specs.Segment.{Segment, extent, data_of}
use Rattle.czi_format.specs.Space.{same_span}
use Rattle.czi_format.specs.Span.{Span}
use Rattle.czi_format.proofs.Local.{All-append}
use Rattle.czi_machine.specs.Change.{Act, keep, omit, bring, changed, brought, mapped, Setting, to, set, set_new, mapped_setting}
use Rattle.czi_machine.specs.Edit.{after}
use Rattle.czi_machine.specs.Formers.{Lain, tile_place, attachment_place, metadata_place, Return, return_items, brought_back, LiesHeld, BringBack}
use Rattle.czi_machine.specs.State.{Items, Former, held_by, item_places, item_spans, spans_of, not_among}
use Rattle.czi_machine.proofs.Steady.{on_all}
use Rattle.czi_machine.proofs.Tiled.{All-map, All-weaken, map-All}

-- the bytes of a span behind the first 32 are the same
abbrev pub SameBehind : List ℕ → List ℕ → Span → Type 0
SameBehind image other h = bytes_at other (h.at + 32) (h.len - 32) ≡ bytes_at image (h.at + 32) (h.len - 32)

pub same_data : (image other : List ℕ) (s : Segment) → SameBehind image other (extent s) → data_of other s ≡ data_of image s
same_data image other s alike =
    let n : 32 + s.allocated - 32 ≡ s.allocated = omega arith in
    subst (λ k. bytes_at other (s.at + 32) k ≡ bytes_at image (s.at + 32) k) n alike

-- what holds of what a filter leaves holds of what passes
pub All-passing : (P : Place → Type 0) (q : Place → Bool) (xs : List Place) → AllByRecursion P (filter q xs) → AllByRecursion (λ x. q x ≡ true → P x) xs
All-passing P q [] all = tt
All-passing P q (x ∷ xs) all = elim (cases_Bool (q x)) [
  | inl e ↦ let both = rw e at all in (λ f. both.0, All-passing P q xs both.1)
  | inr e ↦ (λ f. absurd (let clash : false ≡ true = sym e ∙ f in cc (clash)), All-passing P q xs (rw e at all))
]

-- what holds of a changed list holds of what was brought
pub All-brought : {X : Type 0} (P : X → Type 0) (c : List (Act X)) (xs : List X) → AllByRecursion P (changed c xs) → AllByRecursion P (brought c)
All-brought P [] xs all = tt
All-brought P (bring x ∷ c) xs all = (all.0, All-brought P c xs all.1)
All-brought P (keep ∷ c) [] all = All-brought P c [] all
All-brought P (keep ∷ c) (x ∷ xs) all = All-brought P c xs all.1
All-brought P (omit ∷ c) [] all = All-brought P c [] all
All-brought P (omit ∷ c) (x ∷ xs) all = All-brought P c xs all

pub mapped_brought : {X Y : Type 0} (f : X → Y) (P : Y → Type 0) (c : List (Act X)) → AllByRecursion P (brought (mapped f c)) → AllByRecursion (λ x. P (f x)) (brought c)
mapped_brought f P [] all = tt
mapped_brought f P (bring x ∷ c) all = (all.0, mapped_brought f P c all.1)
mapped_brought f P (keep ∷ c) all = mapped_brought f P c all
mapped_brought f P (omit ∷ c) all = mapped_brought f P c all

-- the same change, where what it brings is
pub same_mapped : {X Y : Type 0} (f g : X → Y) (c : List (Act X)) → AllByRecursion (λ x. f x ≡ g x) (brought c) → mapped f c ≡ mapped g c
same_mapped f g [] all = refl
same_mapped f g (bring x ∷ c) all = λ i. bring (all.0 i) ∷ same_mapped f g c all.1 i
same_mapped f g (keep ∷ c) all = ap (λ l. keep ∷ l) (same_mapped f g c all)
same_mapped f g (omit ∷ c) all = ap (λ l. omit ∷ l) (same_mapped f g c all)

pub same_mapped_setting : {X Y : Type 0} (f g : X → Y) (c : Setting X) → AllByRecursion (λ x. f x ≡ g x) (option_to_list (set_new c)) → mapped_setting f c ≡ mapped_setting g c
same_mapped_setting f g (to (Some x)) all = ap (λ y. to (Some y)) all.0
same_mapped_setting f g c all = refl

set_brought : {X Y : Type 0} (f : X → Y) (P : Y → Type 0) (c : Setting X) (old : Option Y) → AllByRecursion P (option_to_list (set (mapped_setting f c) old)) → AllByRecursion (λ x. P (f x)) (option_to_list (set_new c))
set_brought f P (to (Some x)) old all = (all.0, tt)
set_brought f P c old all = tt

-- what holds of the spans that a former has and the newer one hasn't holds of the items that are brought back
pub record HasBack (P : Span → Type 0) (r : Return) : Type 0 where
  pub tiles : AllByRecursion (λ (y : Lain Tile). P (extent y.item.segment)) (brought r.tiles)
  pub attachments : AllByRecursion (λ (y : Lain AttItem). P (extent y.item.segment)) (brought r.attachments)
  pub metadata : AllByRecursion (λ (y : Lain MetaItem). P (extent y.item.segment)) (option_to_list (set_new r.metadata))

pub has_back : (P : Span → Type 0) (image : List ℕ) (newer : Items) (r : Return) → LiesHeld image newer r → AllByRecursion P (spans_of (not_among (item_spans newer) (item_places (return_items r newer)))) → HasBack P r
has_back P image newer r lies have =
    let Q : Place → Type 0 = λ p. P p.span in
    let q : Place → Bool = λ p. not (list_any (same_span p.span) (item_spans newer)) in
    let i : Items = return_items r newer in
    let all : AllByRecursion (λ p. q p ≡ true → Q p) (item_places i) = All-passing Q q (item_places i) (All-map (λ (p : Place). p.span) P (filter q (item_places i)) have) in
    let one = All-append (λ p. q p ≡ true → Q p) i.subblocks (i.attachments ++ option_to_list i.metadata) all in
    let two = All-append (λ p. q p ≡ true → Q p) i.attachments (option_to_list i.metadata) one.1 in
    record {
      tiles = on_all _ (λ (y : Lain Tile). q (tile_place y) ≡ true → Q (tile_place y)) (λ (y : Lain Tile). P (extent y.item.segment)) (λ y l f. f (ap not l.4)) (brought r.tiles) lies.tiles
          (mapped_brought tile_place (λ p. q p ≡ true → Q p) r.tiles (All-brought (λ p. q p ≡ true → Q p) (mapped tile_place r.tiles) newer.subblocks one.0));
      attachments = on_all _ (λ (y : Lain AttItem). q (attachment_place y) ≡ true → Q (attachment_place y)) (λ (y : Lain AttItem). P (extent y.item.segment)) (λ y l f. f (ap not l.4)) (brought r.attachments) lies.attachments
          (mapped_brought attachment_place (λ p. q p ≡ true → Q p) r.attachments (All-brought (λ p. q p ≡ true → Q p) (mapped attachment_place r.attachments) newer.attachments two.0));
      metadata = on_all _ (λ (y : Lain MetaItem). q (metadata_place y) ≡ true → Q (metadata_place y)) (λ (y : Lain MetaItem). P (extent y.item.segment)) (λ y l f. f (ap not l.3)) (option_to_list (set_new r.metadata)) lies.metadata
          (set_brought metadata_place (λ p. q p ≡ true → Q p) r.metadata newer.metadata two.1);
    }

-- the held items of the next former
record SameReturn (image other : List ℕ) (r : Return) : Type 0 where
  tiles : AllByRecursion (λ (y : Lain Tile). data_of other y.item.segment ≡ data_of image y.item.segment) (brought r.tiles)
  attachments : AllByRecursion (λ (y : Lain AttItem). data_of other y.item.segment ≡ data_of image y.item.segment) (brought r.attachments)
  metadata : AllByRecursion (λ (y : Lain MetaItem). data_of other y.item.segment ≡ data_of image y.item.segment) (option_to_list (set_new r.metadata))

same_return : (image other : List ℕ) (newer : Items) (r : Return) → LiesHeld image newer r → AllByRecursion (SameBehind image other) (spans_of (not_among (item_spans newer) (item_places (return_items r newer)))) → SameReturn image other r
same_return image other newer r lies alike =
    let h : HasBack (SameBehind image other) r = has_back (SameBehind image other) image newer r lies alike in
    record {
      tiles = All-weaken (λ (y : Lain Tile). SameBehind image other (extent y.item.segment)) _ (λ y b. same_data image other y.item.segment b) (brought r.tiles) h.tiles;
      attachments = All-weaken (λ (y : Lain AttItem). SameBehind image other (extent y.item.segment)) _ (λ y b. same_data image other y.item.segment b) (brought r.attachments) h.attachments;
      metadata = All-weaken (λ (y : Lain MetaItem). SameBehind image other (extent y.item.segment)) _ (λ y b. same_data image other y.item.segment b) (option_to_list (set_new r.metadata)) h.metadata;
    }

-- it brings back the same
same_brought_back : (image other : List ℕ) (newer : Former) (r : Return) → SameReturn image other r → brought_back image r newer ≡ brought_back other r newer
same_brought_back image other newer r alike =
    let tiles = same_mapped (λ (y : Lain Tile). subblock_of image y.item) (λ (y : Lain Tile). subblock_of other y.item) r.tiles
    (All-weaken (λ (y : Lain Tile). data_of other y.item.segment ≡ data_of image y.item.segment) _ (λ y d. cc (d)) (brought r.tiles) alike.tiles) in
    let attachments = same_mapped (λ (y : Lain AttItem). attachment_of image y.item) (λ (y : Lain AttItem). attachment_of other y.item) r.attachments
    (All-weaken (λ (y : Lain AttItem). data_of other y.item.segment ≡ data_of image y.item.segment) _ (λ y d. cc (d)) (brought r.attachments) alike.attachments) in
    let metadata = same_mapped_setting (λ (y : Lain MetaItem). metadata_of image y.item) (λ (y : Lain MetaItem). metadata_of other y.item) r.metadata
    (All-weaken (λ (y : Lain MetaItem). data_of other y.item.segment ≡ data_of image y.item.segment) _ (λ y d. cc (d)) (option_to_list (set_new r.metadata)) alike.metadata) in
    λ i. record { document = after (record { subblocks = tiles i; attachments = attachments i; metadata = metadata i }) newer.document; items = return_items r newer.items; edits = r.edits }

same_held : (image other : List ℕ) (newer : Items) (r : Return) → LiesHeld image newer r → SameReturn image other r → LiesHeld other newer r
same_held image other newer r lies alike = record {
  tiles = on_all _ (λ (y : Lain Tile). data_of other y.item.segment ≡ data_of image y.item.segment) _ (λ y l d. (ap (tile y.item.entry y.item.segment) d ∙ l.0, l.1, l.2, l.3, l.4)) (brought r.tiles) lies.tiles alike.tiles;
  attachments = on_all _ (λ (y : Lain AttItem). data_of other y.item.segment ≡ data_of image y.item.segment) _ (λ y l d. (ap (att_item y.item.entry y.item.segment) d ∙ l.0, l.1, l.2, l.3, l.4)) (brought r.attachments) lies.attachments alike.attachments;
  metadata = on_all _ (λ (y : Lain MetaItem). data_of other y.item.segment ≡ data_of image y.item.segment) _ (λ y l d. (ap (meta_item y.item.segment) d ∙ l.0, l.1, l.2, l.3)) (option_to_list (set_new r.metadata)) lies.metadata alike.metadata;
}

-- so the whole list does
pub bring_back_same : (image other : List ℕ) (newer : Former) (returns : List Return) (formers : List Former) → AllByRecursion (SameBehind image other) (spans_of (held_by newer.items formers))
    → BringBack image newer returns formers → BringBack other newer returns formers
bring_back_same image other newer [] [] alike b = tt
bring_back_same image other newer (r ∷ returns) (f ∷ formers) alike b =
    let own : List Place = not_among (item_spans newer.items) (item_places f.items) in
    let places : AllByRecursion (λ (p : Place). SameBehind image other p.span) (own ++ held_by f.items formers) = All-map (λ (p : Place). p.span) (SameBehind image other) (own ++ held_by f.items formers) alike in
    let parts = All-append (λ (p : Place). SameBehind image other p.span) own (held_by f.items formers) places in
    let items : f.items ≡ return_items r newer.items = ap (λ (z : Former). z.items) b.0 in
    let first : AllByRecursion (SameBehind image other) (spans_of (not_among (item_spans newer.items) (item_places (return_items r newer.items)))) =
    map-All (λ (p : Place). p.span) (SameBehind image other) (not_among (item_spans newer.items) (item_places (return_items r newer.items)))
    (subst (λ z. AllByRecursion (λ (p : Place). SameBehind image other p.span) (not_among (item_spans newer.items) (item_places z))) items parts.0) in
    let ret : SameReturn image other r = same_return image other newer.items r b.1 first in
    (b.0 ∙ same_brought_back image other newer r ret, same_held image other newer.items r b.1 ret, bring_back_same image other f returns formers (map-All (λ (p : Place). p.span) (SameBehind image other) (held_by f.items formers) parts.1) b.2)
bring_back_same image other newer returns formers alike b = absurd b

-- fewer of them bring back fewer
pub bring_back_fewer : (image : List ℕ) (newer : Former) (returns : List Return) (formers : List Former) (n : ℕ) → BringBack image newer returns formers → BringBack image newer (take n returns) (take n formers)
bring_back_fewer image newer returns formers zero b = tt
bring_back_fewer image newer [] [] (suc n) b = tt
bring_back_fewer image newer [] (f ∷ formers) (suc n) b = absurd b
bring_back_fewer image newer (r ∷ returns) [] (suc n) b = absurd b
bring_back_fewer image newer (r ∷ returns) (f ∷ formers) (suc n) b = (b.0, b.1, bring_back_fewer image f returns formers n b.2)
