-- An index can lose one subblock, with its directory behind the image or where it lay.
use Rattle.std.proofs.Common.{◌≡◌, ℕ, zero, suc, ◌+◌, ◌<◌, ◌≤◌, ◌^◌, List, [], ◌∷◌, ◌++◌, map, length, take, drop, Option, Some, None, option_map, option_to_list, ap, sym, subst, arith}
use Rattle.std.specs.Prelude.{IsFalse}
use Rattle.std.specs.List.{AllByRecursion}
use Rattle.std.proofs.lemmas.Bool.{le-ltb}
use Rattle.std.proofs.lemmas.List.{length-append, length-drop, length-take}
use Rattle.czi_format.specs.Span.{Span, AreDisjoint, end_of, meets}
use Rattle.czi_machine.specs.Change.{changed, out, set}
use Rattle.czi_machine.proofs.Changing.{changed-out}
use Rattle.czi_machine.proofs.Tiled.{All-weaken}
use Rattle.czi_image.specs.Applied.{CanChange, directory_after, live_after}
use Rattle.czi_image.specs.Change.{AreWithin, acts_of, setting_of}
use Rattle.czi_image.specs.Spans.{header_span, directory_span, tile_span, att_item_span, meta_item_span, live_spans}
use Rattle.czi_image.specs.declared.change.Change.{Change}
use Rattle.czi_image.specs.declared.change.DirectoryChange.{DirectoryChange}
use Rattle.czi_image.specs.declared.change.DirectoryChange.TheVariants.{Patched, New}
use Rattle.czi_image.specs.declared.index.Index.{Index}
use Rattle.czi_image.specs.declared.types.DirItem.{DirItem}
use Rattle.czi_image.specs.declared.types.Tile.{Tile}
use Rattle.czi_test_image.specs.Removal.{IsRemoval}

-- what holds of each of some spans, and that no two of them meet, holds of a part of them
record IsPart (ys xs : List Span) : Type 1 where
  all : (P : Span → Type 0) → AllByRecursion P xs → AllByRecursion P ys
  disjoint : AreDisjoint xs → AreDisjoint ys

abbrev spans_of : Option DirItem → List Span
spans_of o = option_to_list (option_map directory_span o)

part_same : (xs : List Span) → IsPart xs xs
part_same xs = record { all = λ P all. all; disjoint = λ d. d }

part_with : (s : Span) (ys xs : List Span) → IsPart ys xs → IsPart (s ∷ ys) (s ∷ xs)
part_with s ys xs part = record { all = λ P all. (all.0, part.all P all.1); disjoint = λ d. (part.all (λ t. IsFalse (meets s t)) d.0, part.disjoint d.1) }

part_without : (s : Span) (ys xs : List Span) → IsPart ys xs → IsPart ys (s ∷ xs)
part_without s ys xs part = record { all = λ P all. part.all P all.1; disjoint = λ d. part.disjoint d.1 }

part_out : (i : ℕ) (ts : List Tile) (rest : List Span) → IsPart (map tile_span (changed (out i) ts) ++ rest) (map tile_span ts ++ rest)
part_out zero [] rest = part_same rest
part_out (suc i) [] rest = part_out i [] rest
part_out zero (t ∷ ts) rest = part_without (tile_span t) _ _ (part_same (map tile_span ts ++ rest))
part_out (suc i) (t ∷ ts) rest = part_with (tile_span t) _ _ (part_out i ts rest)

part_behind : (o : Option DirItem) (ys xs : List Span) → IsPart ys xs → IsPart (spans_of o ++ ys) (spans_of o ++ xs)
part_behind None ys xs part = part
part_behind (Some d) ys xs part = part_with (directory_span d) ys xs part

part_alone : (o : Option DirItem) (ys xs : List Span) → IsPart ys xs → IsPart ys (spans_of o ++ xs)
part_alone None ys xs part = part
part_alone (Some d) ys xs part = part_without (directory_span d) ys xs part

abbrev live_without : DirectoryChange → ℕ → Index → List Span
live_without d i x = live_spans x.header (directory_after d x.directory) (changed (out i) x.tiles.items) x.attdir x.attachments.items x.metadata

-- an index can be changed to live extents that end within the length and don't meet
can_change : (x : Index) (i n : ℕ) (d : DirectoryChange) (c : Change) → IsRemoval i d c → i < length x.tiles.items → x.length ≤ n → n ≤ 2 ^ 62 → AllByRecursion (λ s. end_of s ≤ n) (live_without d i x) → AreDisjoint (live_without d i x)
    → CanChange c [] n x
can_change x i n d c is h longer small inside disjoint =
    let live : live_without d i x ≡ live_after c x =
    λ j. live_spans x.header (directory_after (sym is.directory j) x.directory) (changed (acts_of (sym is.tiles j)) x.tiles.items) (directory_after (sym is.attdir j) x.attdir) (changed (acts_of (sym is.attachments j)) x.attachments.items) (set (setting_of (sym is.metadata j)) x.metadata) in
    record {
      tiles = subst (λ l. AreWithin l (length x.tiles.items)) (sym is.tiles) (h, tt);
      attachments = subst (λ l. AreWithin l (length x.attachments.items)) (sym is.attachments) tt;
      few_tiles = subst (λ l. length (changed (acts_of l) x.tiles.items) ≤ 2 ^ 20) (sym is.tiles) (omega (arith, ap length (changed-out i x.tiles.items), length-append (take i x.tiles.items) (drop (suc i) x.tiles.items), length-take i x.tiles.items, length-drop (suc i) x.tiles.items, x.few_tiles, x.tiles.ok));
      few_attachments = subst (λ l. length (changed (acts_of l) x.attachments.items) ≤ 2 ^ 12) (sym is.attachments) (omega (arith, x.few_attachments, x.attachments.ok));
      longer = longer;
      small = small;
      inside = subst (AllByRecursion (λ (s : Span). end_of s ≤ n)) live inside;
      disjoint = subst AreDisjoint live disjoint;
      free = record { apart = tt; aligned = tt; inside = tt; clear = tt };
    }

abbrev others : Index → List Span
others x = spans_of x.attdir ++ (map att_item_span x.attachments.items ++ option_to_list (option_map meta_item_span x.metadata))

pub can_in_place : (x : Index) (i : ℕ) (c : Change) → IsRemoval i Patched c → i < length x.tiles.items → CanChange c [] x.length x
can_in_place x i c is h =
    let part = part_with (header_span x.header) _ _ (part_behind x.directory _ _ (part_out i x.tiles.items (others x))) in
    can_change x i x.length Patched c is h (omega arith) x.small (part.all (λ s. end_of s ≤ x.length) x.inside) (part.disjoint x.disjoint)

pub can_at_end : (x : Index) (i n : ℕ) (d : DirItem) (c : Change) → IsRemoval i (New d) c → i < length x.tiles.items → x.length ≤ d.span.at → d.span.at + d.span.len ≤ n → n ≤ 2 ^ 62 → CanChange c [] n x
can_at_end x i n d c is h behind ends small =
    let stay : List Span = header_span x.header ∷ (map tile_span (changed (out i) x.tiles.items) ++ others x) in
    let part : IsPart stay (live_spans x.header x.directory x.tiles.items x.attdir x.attachments.items x.metadata) = part_with (header_span x.header) _ _ (part_alone x.directory _ _ (part_out i x.tiles.items (others x))) in
    let end : AllByRecursion (λ (s : Span). end_of s ≤ x.length) stay = part.all (λ s. end_of s ≤ x.length) x.inside in
    let within = All-weaken (λ (s : Span). end_of s ≤ x.length) (λ (s : Span). end_of s ≤ n) (λ s e. omega (arith, e, behind, ends)) stay end in
    let apart = All-weaken (λ (s : Span). end_of s ≤ x.length) (λ (s : Span). IsFalse (meets (directory_span d) s)) (λ s e. le-ltb _ _ (omega (arith, e, behind))) stay end in
    let disjoint : AreDisjoint stay = part.disjoint x.disjoint in
    can_change x i n (New d) c is h (omega (arith, behind, ends)) small (within.0, (ends, within.1)) ((le-ltb _ _ (omega (arith, end.0, behind)), disjoint.0), (apart.1, disjoint.1))
