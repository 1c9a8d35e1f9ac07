-- The walk, from segment to segment.
use Rattle.std.proofs.Common.{◌≡◌, ℕ, ◌+◌, ◌≤◌, List, [], ◌∷◌, ◌++◌, length, map, take, Some, None, option_map, refl, sym, ap, ◌∙◌, subst, arith, append-nil, ⊎_elim}
use Rattle.std.specs.List.{AllByRecursion}
use Rattle.std.specs.Option.{ForSome}
use Rattle.std.proofs.lemmas.Option.{same_Some}
use Rattle.czi_format.specs.Span.{Span, end_of, round32}
use Rattle.czi_format.specs.Segment.{Segment, extent, segment_at}
use Rattle.czi_format.proofs.Readings.{bind_some, given_some, option_or_some, segment_stands}
use Rattle.czi_format.specs.Walk.{stands_at, next_from, WalksFrom, IsWalk}
use Rattle.czi_num.specs.declared.span.Span.{Span as CodeSpan}
use Rattle.czi_num.specs.Span.{span_of}
use Rattle.czi_rig.specs.declared.file.File.{File}
use Rattle.czi_rig.specs.declared.file.File.TheVariants.{Image, Journal}
use Rattle.czi_rig.specs.declared.rig.Rig.{Ghosts}
use Rattle.czi_rig.specs.Disk.{Disk}
use Rattle.czi_rig.specs.State.{State, SameAll, seen_of}
use Rattle.czi_rig.specs.Faults.{Faults}
use Rattle.czi_rig.specs.Quiet.{Untouched}
use Rattle.czi_rig.proofs.Faults.{no_faults, faults_then}
use Rattle.czi_rig.proofs.Quiet.{untouched_here, untouched_then}
use Rattle.czi_seg.specs.declared.header.SegHeader.{SegHeader}
use Rattle.czi_spans.specs.Apart.{AreApart, first_of}
use Rattle.czi_walk.specs.View.{segment_of, HasExtent, IsRow, EndBy, IsNext, Knows}

-- what a read gives after calls that leave everything as it was
pub seen_same : (s t : State) (f : File) (bytes : List ℕ) → SameAll s t → seen_of s f ≡ Some bytes → seen_of t f ≡ Some bytes
seen_same s t Image bytes same is = ap (option_map (λ (disk : Disk). disk.seen)) same.image ∙ is
seen_same s t Journal bytes same is = ap (option_map (λ (disk : Disk). disk.seen)) same.journal ∙ is

seen_before : (s t : State) (bytes : List ℕ) → SameAll s t → seen_of t Image ≡ Some bytes → seen_of s Image ≡ Some bytes
seen_before s t bytes same is = ap (option_map (λ (disk : Disk). disk.seen)) (sym same.image) ∙ is

-- The walk has come to a place of the image's first bytes, and what walks on from there completes what was found.
pub record Walked {D : Type 0} (rig : Ghosts D) (first now : D) (size place : ℕ) (found : List (CodeSpan × SegHeader)) : Type 0 where
  pub inside : place ≤ size
  pub untouched : Untouched rig first now
  pub no_fault : Faults None (rig.state first) (rig.state now)
  pub extents : AllByRecursion HasExtent found
  pub ends : EndBy size found
  pub apart : (rest : List Span) → AreApart place rest → AreApart 0 (map first_of found ++ rest)
  pub goes_on : ForSome (seen_of (rig.state first) Image) (λ image. (rest : List Segment) → WalksFrom (take size image) place rest → WalksFrom (take size image) 0 (map segment_of found ++ rest))

shift : {X Y : Type 0} (f : X → Y) (found : List X) (x : X) (rest : List Y) → map f found ++ (f x ∷ rest) ≡ map f (found ++ x ∷ []) ++ rest
shift f [] x rest = refl
shift f (y ∷ found) x rest = ap (λ l. f y ∷ l) (shift f found x rest)

all_push : {X : Type 0} (P : X → Type 0) (xs : List X) (x : X) → AllByRecursion P xs → P x → AllByRecursion P (xs ++ x ∷ [])
all_push P [] x all px = (px, tt)
all_push P (y ∷ ys) x all px = (all.0, all_push P ys x all.1 px)

module _ {D : Type 0} (rig : Ghosts D) where
  pub walked_begins : (first : D) (size : ℕ) → Walked rig first first size 0 []
  walked_begins first size = record {
    inside = omega arith;
    untouched = untouched_here rig first;
    no_fault = no_faults (rig.state first);
    extents = tt;
    ends = tt;
    apart = λ rest apart. apart;
    goes_on = λ image is rest walks. walks;
  }

  -- what is known at first is known now
  pub knows_now : {first now : D} {size : ℕ} {known : List (CodeSpan × SegHeader)} → Untouched rig first now → ForSome (seen_of (rig.state first) Image) (λ image. Knows size image known)
      → ForSome (seen_of (rig.state now) Image) (λ image. Knows size image known)
  knows_now {first = first} {now = now} same knows = λ image is. knows image (seen_before (rig.state first) (rig.state now) image same.same is)

  -- one segment more
  pub walked_more : {first now next : D} {size place : ℕ} {found : List (CodeSpan × SegHeader)} (item : CodeSpan × SegHeader) → Walked rig first now size place found → Untouched rig now next → Faults None (rig.state now) (rig.state next) → IsNext place size item
      → ForSome (seen_of (rig.state now) Image) (λ image. Some (segment_of item) ≡ next_from (take size image) place)
      → Walked rig first next size (item.0.at + item.0.len) (found ++ item ∷ [])
  walked_more {first = first} {now = now} {next = after} {size = size} {found = found} item walked untouched no_fault goes next = record {
    inside = goes.inside;
    untouched = untouched_then rig walked.untouched untouched;
    no_fault = faults_then None (rig.state first) (rig.state now) (rig.state after) walked.no_fault no_fault;
    extents = all_push HasExtent found item walked.extents goes.extent;
    ends = all_push (λ (i : CodeSpan × SegHeader). end_of (span_of i.0) ≤ size) found item walked.ends goes.inside;
    apart = λ rest apart. subst (AreApart 0) (shift first_of found item rest) (walked.apart (first_of item ∷ rest)
        (goes.behind, (let len : item.0.len ≡ 32 + item.1.allocated = ap (λ (s : Span). s.len) goes.extent in omega (arith, len)), apart));
    goes_on = λ image is rest walks.
        let on : end_of (span_of item.0) ≡ end_of (extent (segment_of item)) = ap end_of goes.extent in
        subst (WalksFrom (take size image) 0) (shift segment_of found item rest) (walked.goes_on image is (segment_of item ∷ rest)
        (sym (next image (seen_same (rig.state first) (rig.state now) Image image walked.untouched.same is)), subst (λ (p : ℕ). WalksFrom (take size image) p rest) on walks));
  }

  -- no segment more
  pub walked_ends : {first now : D} {size place : ℕ} {found : List (CodeSpan × SegHeader)} → Walked rig first now size place found
      → ForSome (seen_of (rig.state now) Image) (λ image. None ≡ next_from (take size image) place)
      → ForSome (seen_of (rig.state first) Image) (λ image. IsWalk (take size image) (map segment_of found))
  walked_ends {first = first} {now = now} {size = size} {found = found} walked none = λ image is.
      subst (WalksFrom (take size image) 0) (append-nil (map segment_of found)) (walked.goes_on image is []
      (sym (none image (seen_same (rig.state first) (rig.state now) Image image walked.untouched.same is))))

  pub walked_row : {first now : D} {size place : ℕ} {found : List (CodeSpan × SegHeader)} → Walked rig first now size place found → IsRow found
  walked_row {found = found} walked = record { extents = walked.extents; apart = subst (AreApart 0) (append-nil (map first_of found)) (walked.apart [] tt) }

named_stands : (image : List ℕ) (at : ℕ) (s : Segment) → stands_at image at ≡ Some s → segment_at image s.at ≡ Some s
unfolding stands_at
named_stands image at s found =
    let b = bind_some (segment_at image at) _ s found in
    let g = given_some _ b.0 s b.2 in
    let here : segment_at image at ≡ Some s = b.1 ∙ ap Some g.1 in
    subst (λ (p : ℕ). segment_at image p ≡ Some s) (sym (segment_stands image at s here).place) here

-- each segment of a walk stands in the image
pub walk_stands : (image : List ℕ) (place : ℕ) (items : List (CodeSpan × SegHeader)) → WalksFrom image place (map segment_of items) → AllByRecursion (λ (i : CodeSpan × SegHeader). segment_at image i.0.at ≡ Some (segment_of i)) items
walk_stands image place [] walks = tt
walk_stands image place (x ∷ xs) walks = (
  ⊎_elim (named_stands image place (segment_of x)) (named_stands image (round32 place) (segment_of x)) (option_or_some (stands_at image place) (stands_at image (round32 place)) (segment_of x) walks.0),
  walk_stands image (end_of (extent (segment_of x))) xs walks.1,
)

-- what was walked is known
pub knows_walk : (s t : State) (content image : List ℕ) (items : List (CodeSpan × SegHeader)) → SameAll s t → seen_of s Image ≡ Some content → seen_of t Image ≡ Some image
    → ForSome (seen_of s Image) (λ image. IsWalk (take (length content) image) (map segment_of items)) → Knows (length content) image items
knows_walk s t content image items same was is walk =
    let now : seen_of s Image ≡ Some image = seen_before s t image same is in
    let whole : content ≡ image = same_Some content image (sym was ∙ now) in
    record { long = subst (λ (l : List ℕ). length content ≤ length l) whole (omega arith); stand = walk_stands (take (length content) image) 0 items (walk image now) }
