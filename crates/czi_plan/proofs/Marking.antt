-- Marks that are put one behind another.
use Rattle.std.proofs.Common.{◌≡◌, ℕ, ◌+◌, ◌≤◌, List, [], ◌∷◌, ◌++◌, map, filter, take, drop, length, true, false, refl, ap, sym, ◌∙◌, subst, arith, append_assoc, append-nil, ◌<◌, get_or}
use Rattle.std.proofs.lemmas.List.{map-append}
use Rattle.std.proofs.lemmas.List.Elements.{filter-append}
use Rattle.czi_links.specs.Record.{Bytes}
use Rattle.czi_format.specs.Span.{Span}
use Rattle.czi_machine.proofs.Tiled.{All-both}
use Rattle.czi_num.specs.Span.{span_of}
use Rattle.czi_num.specs.declared.span.Span.{Span as CodeSpan}
use Rattle.czi_region.specs.Pieces.{IsPiece, bytes_of}
use Rattle.czi_region.specs.declared.block.Piece.{Piece as Range}
use Rattle.czi_region.specs.declared.block.Region.{Region}
use Rattle.czi_plan.specs.Marks.{AddsMarks, AreMarks, AreSized, IsSized, Mark, deleted_mark, is_new, mark_of, marks_of, some_mark}
use Rattle.czi_plan.proofs.Entries.{drop_here, take_here}
use Rattle.czi_plan.proofs.Linking.{piece_length}

pub adds_none : (region : Region) (ms : List Mark) → AddsMarks region ms ms []
adds_none region ms = record { links_are = sym (append-nil (marks_of region ms)); sized = λ s. s }

pub adds_one : (region : Region) (old new : List Mark) (m : Mark) → new ≡ old ++ m ∷ [] → IsSized region m → AddsMarks region old new (mark_of region m ∷ [])
adds_one region old new m is one = record {
  links_are = ap (marks_of region) is ∙ map-append (mark_of region) old (m ∷ []);
  sized = λ s. subst (AreSized region) (sym is) (All-both (IsSized region) old (m ∷ []) s (one, tt));
}

pub adds_both : {region : Region} {a b c : List Mark} {xs ys : List Bytes} → AddsMarks region a b xs → AddsMarks region b c ys → AddsMarks region a c (xs ++ ys)
adds_both {region = region} {a = a} {xs = xs} {ys = ys} one two = record {
  links_are = two.links_are ∙ (ap (λ l. l ++ ys) one.links_are ∙ append_assoc (marks_of region a) xs ys);
  sized = λ s. two.sized (one.sized s);
}

pub adds_as : {region : Region} {a b : List Mark} {xs ys : List Bytes} → xs ≡ ys → AddsMarks region a b xs → AddsMarks region a b ys
adds_as {region = region} {a = a} {b = b} e one = subst (AddsMarks region a b) e one

-- the first marks of a plan
pub first_marks : {region : Region} {a b : List Mark} {xs : List Bytes} → a ≡ [] → AddsMarks region a b xs → AreMarks region b xs
first_marks {region = region} {b = b} {xs = xs} none one =
    let first : AddsMarks region [] b xs = subst (λ l. AddsMarks region l b xs) none one in
    record { links_are = first.links_are; sized = first.sized tt }

pub no_marks : (region : Region) (ms : List Mark) → ms ≡ [] → AreMarks region ms []
no_marks region ms none = subst (λ l. AreMarks region l []) (sym none) (record { links_are = λ i. []; sized = tt })

-- the next of some spans
pub dead_next : (xs : List CodeSpan) (i : ℕ) (s : CodeSpan) → i < length xs → s ≡ get_or xs i s → map deleted_mark (map span_of (take i xs)) ++ deleted_mark (span_of s) ∷ [] ≡ map deleted_mark (map span_of (take (i + 1) xs))
dead_next xs i s h e = sym (ap (λ l. map deleted_mark (map span_of l)) (take_here xs i s h e) ∙ (ap (map deleted_mark) (map-append span_of (take i xs) (s ∷ [])) ∙ map-append deleted_mark (map span_of (take i xs)) (span_of s ∷ [])))

abbrev news : List Span → List CodeSpan → List Span
news before xs = filter (is_new before) (map span_of xs)

news_next : (before : List Span) (xs : List CodeSpan) (i : ℕ) (s : CodeSpan) → i < length xs → s ≡ get_or xs i s → news before (take (i + 1) xs) ≡ news before (take i xs) ++ news before (s ∷ [])
news_next before xs i s h e = ap (news before) (take_here xs i s h e) ∙ (ap (filter (is_new before)) (map-append span_of (take i xs) (s ∷ [])) ∙ filter-append (is_new before) (map span_of (take i xs)) (span_of s ∷ []))

pub new_next : (before : List Span) (xs : List CodeSpan) (i : ℕ) (s : CodeSpan) → i < length xs → s ≡ get_or xs i s → is_new before (span_of s) ≡ true
    → map deleted_mark (news before (take i xs)) ++ deleted_mark (span_of s) ∷ [] ≡ map deleted_mark (news before (take (i + 1) xs))
new_next before xs i s h e new =
    let one : news before (s ∷ []) ≡ span_of s ∷ [] = rw new (λ i. span_of s ∷ []) in
    sym (ap (map deleted_mark) (news_next before xs i s h e ∙ ap (λ l. news before (take i xs) ++ l) one) ∙ map-append deleted_mark (news before (take i xs)) (span_of s ∷ []))

pub old_next : (before : List Span) (xs : List CodeSpan) (i : ℕ) (s : CodeSpan) → i < length xs → s ≡ get_or xs i s → is_new before (span_of s) ≡ false → news before (take i xs) ≡ news before (take (i + 1) xs)
old_next before xs i s h e old =
    let none : news before (s ∷ []) ≡ [] = rw old (λ i. []) in
    sym (news_next before xs i s h e ∙ (ap (λ l. news before (take i xs) ++ l) none ∙ append-nil (news before (take i xs))))

pub news_left : (before : List Span) (xs : List CodeSpan) (i : ℕ) (s : CodeSpan) → i < length xs → s ≡ get_or xs i s → is_new before (span_of s) ≡ true → length (news before (drop i xs)) ≡ 1 + length (news before (drop (i + 1) xs))
news_left before xs i s h e new = ap (λ l. length (news before l)) (drop_here xs i s h e) ∙ (rw new (omega arith))

pub news_kept : (before : List Span) (xs : List CodeSpan) (i : ℕ) (s : CodeSpan) → i < length xs → s ≡ get_or xs i s → is_new before (span_of s) ≡ false → length (news before (drop i xs)) ≡ length (news before (drop (i + 1) xs))
news_kept before xs i s h e old = ap (λ l. length (news before l)) (drop_here xs i s h e) ∙ (rw old (omega arith))

-- the entries of a directory that is changed in place are a mark where there are some
pub some_full : (region : Region) (piece : Range) (place : ℕ) → IsPiece region piece → 0 < piece.len → some_mark place (bytes_of region piece) ≡ record { place = place; bytes = bytes_of region piece } ∷ []
some_full region piece place staged some = full (bytes_of region piece) (omega (arith, piece_length region piece staged, some))
  where
    full : (bytes : List ℕ) → 0 < length bytes → some_mark place bytes ≡ record { place = place; bytes = bytes } ∷ []
    full [] h = absurd (omega (arith, h))
    full (b ∷ bytes) h = refl

pub some_empty : (region : Region) (piece : Range) (place : ℕ) → IsPiece region piece → piece.len ≤ 0 → some_mark place (bytes_of region piece) ≡ []
some_empty region piece place staged none = empty (bytes_of region piece) (omega (arith, piece_length region piece staged, none))
  where
    empty : (bytes : List ℕ) → length bytes ≤ 0 → some_mark place bytes ≡ []
    empty [] h = refl
    empty (b ∷ bytes) h = absurd (omega (arith, h))
