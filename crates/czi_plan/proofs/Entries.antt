-- Steps of loops over lists, and entries that are written one behind another.
use Rattle.std.proofs.Common.{◌≡◌, ◌==◌, true, false, inl, inr, ℕ, ◌+◌, List, [], ◌∷◌, ◌++◌, map, take, drop, length, sum, refl, ap, ◌∙◌, arith, length-append, append_assoc, suc, ◌<◌, get_or, sym, subst, ◌-◌, ◌≤◌, pos, replicate, append-nil}
use Rattle.std.proofs.Math.Seq.{drop-append_seam, drop-cons, take-suc, take-append_seam}
use Rattle.std.proofs.lemmas.Bool.{cases_Bool}
use Rattle.std.proofs.lemmas.List.{length-map, drop-drop, drop-replicate, length-replicate, length-take-le, map-append, drop_all, take-append-drop}
use Rattle.std.specs.List.{AllByRecursion, flat_map}
use Rattle.std.proofs.Math.Numerals.{add-one}
use Rattle.std.proofs.lemmas.List.Sums.{sum_by-append, sum_by-cons}
use Rattle.std.proofs.lemmas.List.Concat.{flat_map-append}
use Rattle.czi_format.specs.Entry.{Entry, entry_len, IsEntry, entry_bytes}
use Rattle.czi_format.specs.Segment.{directory_id}
use Rattle.czi_image.specs.View.{tile_of}
use Rattle.czi_image.specs.declared.types.Tile.{Tile}
use Rattle.czi_links.specs.Record.{Bytes}
use Rattle.czi_machine.proofs.Tiled.{All-both}
use Rattle.czi_format.specs.Bytes.{i32_bytes, put_at}
use Rattle.czi_format.specs.Contents.{directory_head}
use Rattle.czi_plan.specs.Directory.{WritesEntries, as_long_in, back_in, data_in, directory_size, entries_of, middle_in}
use Rattle.czi_plan.specs.declared.tiles.Sizes.{Sizes}
use Rattle.czi_plan.specs.Kind.{Kind}
use Rattle.czi_plan.specs.Listing.{AreSizes, entries_len, size_in, sizes_with}
use Rattle.czi_plan.specs.Marks.{head_mark, patch_marks, pointer_mark}

pub len_both : {E : Type 0} (len : E → ℕ) (es fs : List E) → sum (map len (es ++ fs)) ≡ sum (map len es) + sum (map len fs)
len_both len es fs = ap sum (map-append len es fs) ∙ sum_by-append (λ n. n) (map len es) (map len fs)

sum_both : (es fs : List Entry) → sum (map entry_len (es ++ fs)) ≡ sum (map entry_len es) + sum (map entry_len fs)
sum_both es fs = len_both entry_len es fs

pub size_both : {C E S : Type 0} (k : Kind C E S) (es fs : List E) → size_in k (es ++ fs) ≡ k.head + entries_len k es + entries_len k fs
size_both k es fs = omega (arith, len_both k.len es fs)

pub size_of_both : (es fs : List Entry) → directory_size (es ++ fs) ≡ 128 + sum (map entry_len es) + sum (map entry_len fs)
size_of_both es fs = omega (arith, sum_both es fs)

pub size_in_part : {C E S : Type 0} (k : Kind C E S) (front middle back : List E) → size_in k front + entries_len k middle ≤ size_in k (front ++ (middle ++ back))
size_in_part k front middle back = omega (arith, size_both k front (middle ++ back), len_both k.len middle back)

pub length-directory : length directory_id ≡ 16
unfolding directory_id
length-directory = refl

pub entries_length : (tiles : List Tile) → length (entries_of tiles) ≡ length tiles
entries_length tiles = length-map tiles (λ (t : Tile). (tile_of t).entry)

-- The sizes of parts where entries make room for others: they are those of the three parts, and what is behind counts once.
pub sizes_are : {C E S : Type 0} (k : Kind C E S) (es come leaving behind : List E) (f b l h : ℕ) → f ≡ size_in k es → b ≡ entries_len k come → l ≡ entries_len k leaving → h ≡ entries_len k behind
    → AreSizes k (sizes_with f b l h) es (middle_in k.len come leaving behind) (back_in k.len come leaving behind)
sizes_are k es come leaving behind f b l h fi bi li hi =
    let same : as_long_in k.len come leaving ≡ (b == l) = ap (λ n. n == sum (map k.len leaving)) (sym bi) ∙ ap (λ n. b == n) (sym li) in
    elim (cases_Bool (b == l)) [
      | inl e ↦ let long : as_long_in k.len come leaving ≡ true = same ∙ e in rw long (rw e (record { front_is = fi; middle_is = bi; back_is = hi }))
      | inr e ↦ let short : as_long_in k.len come leaving ≡ false = same ∙ e in rw short (rw e (record { front_is = fi; middle_is = omega (arith, len_both k.len come behind, bi, hi); back_is = refl }))
    ]

pub sizes_sum : (f b l h : ℕ) → (sizes_with f b l h).front + (sizes_with f b l h).middle + (sizes_with f b l h).back ≡ f + b + h
sizes_sum f b l h = elim (cases_Bool (b == l)) [ inl e ↦ rw e refl | inr e ↦ rw e (omega arith) ]

-- the sizes of three parts, summed
pub sizes_total : {C E S : Type 0} (k : Kind C E S) (s : Sizes) (es fs gs : List E) → AreSizes k s es fs gs → s.front + s.middle + s.back ≡ size_in k (es ++ (fs ++ gs))
sizes_total k s es fs gs are = omega (arith, size_both k es (fs ++ gs), len_both k.len fs gs, are.front_is, are.middle_is, are.back_is)

-- the numbers of a patch
pub patch_as : (old new : List Bytes) (at u u' n n' f f' : ℕ) (b b' : List ℕ) → new ≡ old ++ patch_marks at u n f b → u ≡ u' → n ≡ n' → f ≡ f' → b ≡ b' → new ≡ old ++ patch_marks at u' n' f' b'
patch_as old new at u u' n n' f f' b b' e p q r s = e ∙ (λ i. old ++ patch_marks at (p i) (q i) (r i) (s i))

-- the pointer and the header
pub two_marks : (old one two : List Bytes) (pointer at allocated : ℕ) (id : List ℕ) (used used' : ℕ) → one ≡ old ++ pointer_mark pointer at ∷ [] → two ≡ one ++ head_mark (record { at = at; id = id; allocated = allocated; used = used }) ∷ [] → used ≡ used'
    → two ≡ old ++ pointer_mark pointer at ∷ head_mark (record { at = at; id = id; allocated = allocated; used = used' }) ∷ []
two_marks old one two pointer at allocated id used used' a b same =
    b ∙ (ap (λ l. l ++ head_mark (record { at = at; id = id; allocated = allocated; used = used }) ∷ []) a
    ∙ (append_assoc old (pointer_mark pointer at ∷ []) (head_mark (record { at = at; id = id; allocated = allocated; used = used }) ∷ [])
    ∙ ap (λ n. old ++ pointer_mark pointer at ∷ head_mark (record { at = at; id = id; allocated = allocated; used = n }) ∷ []) same))

-- the list from an element on, and up to it
pub drop_here : {X : Type 0} (xs : List X) (i : ℕ) (x : X) → i < length xs → x ≡ get_or xs i x → drop i xs ≡ x ∷ drop (i + 1) xs
drop_here xs i x h e = drop-cons xs i x h ∙ (ap (λ z. z ∷ drop (suc i) xs) (sym e) ∙ ap (λ n. x ∷ drop n xs) (sym (add-one i)))

pub take_here : {X : Type 0} (xs : List X) (i : ℕ) (x : X) → i < length xs → x ≡ get_or xs i x → take (i + 1) xs ≡ take i xs ++ x ∷ []
take_here xs i x h e = ap (λ n. take n xs) (add-one i) ∙ (take-suc xs i x h ∙ ap (λ z. take i xs ++ z ∷ []) (sym e))

pub all_more : {X : Type 0} (P : X → Type 0) (xs : List X) (i : ℕ) (d : X) → i < length xs → AllByRecursion P (take i xs) → P (get_or xs i d) → AllByRecursion P (take (i + 1) xs)
all_more P xs i d h all one = subst (λ n. AllByRecursion P (take n xs)) (sym (add-one i)) (subst (AllByRecursion P) (sym (take-suc xs i d h)) (All-both P (take i xs) (get_or xs i d ∷ []) all (one, tt)))

pub entries_here : (tiles : List Tile) (i : ℕ) (t : Tile) → i < length tiles → t ≡ get_or tiles i t → entries_of (drop i tiles) ≡ entries_of (t ∷ drop (i + 1) tiles)
entries_here tiles i t h e = ap entries_of (drop_here tiles i t h e)

pub sum_here : (tiles : List Tile) (i : ℕ) (t : Tile) → i < length tiles → t ≡ get_or tiles i t
    → sum (map entry_len (entries_of (drop i tiles))) ≡ entry_len (tile_of t).entry + sum (map entry_len (entries_of (drop (i + 1) tiles)))
sum_here tiles i t h e =
    ap (λ (es : List Entry). sum (map entry_len es)) (entries_here tiles i t h e) ∙ sum_by-cons (λ n. n) (entry_len (tile_of t).entry) (map entry_len (entries_of (drop (i + 1) tiles)))

pub bytes_here : (tiles : List Tile) (i : ℕ) (t : Tile) → i < length tiles → t ≡ get_or tiles i t
    → flat_map entry_bytes (entries_of (take (i + 1) tiles)) ≡ flat_map entry_bytes (entries_of (take i tiles)) ++ flat_map entry_bytes (entries_of (t ∷ []))
bytes_here tiles i t h e =
    ap (λ l. flat_map entry_bytes (entries_of l)) (take_here tiles i t h e)
    ∙ (ap (flat_map entry_bytes) (map-append _ (take i tiles) (t ∷ [])) ∙ flat_map-append entry_bytes (entries_of (take i tiles)) (entries_of (t ∷ [])))

behind : (n m : ℕ) (xs : List ℕ) → drop m (drop n xs) ≡ drop (n + m) xs
behind n m xs = drop-drop m n xs

-- bytes written over a list right behind those that were
pub next_bytes : (front old out new : List ℕ) (end k : ℕ) → length front ≡ end → out ≡ front ++ drop end old → take end out ++ (new ++ drop (end + k) out) ≡ (front ++ new) ++ drop (end + k) old
next_bytes front old out new end k long is =
    let low : take end out ≡ front = ap (λ l. take end l) is ∙ (ap (λ n. take n (front ++ drop end old)) (sym long) ∙ take-append_seam front (drop end old)) in
    let at_end : drop end out ≡ drop end old = ap (λ l. drop end l) is ∙ (ap (λ n. drop n (front ++ drop end old)) (sym long) ∙ drop-append_seam front (drop end old)) in
    let high : drop (end + k) out ≡ drop (end + k) old = sym (behind end k out) ∙ (ap (drop k) at_end ∙ behind end k old) in
    ap (λ l. l ++ (new ++ drop (end + k) out)) low ∙ (ap (λ l. front ++ (new ++ l)) high ∙ sym (append_assoc front new (drop (end + k) old)))

-- one more entry was written
pub entry_next : (tiles : List Tile) (i : ℕ) (t : Tile) (at end k : ℕ) (old out new : List ℕ) → i < length tiles → t ≡ get_or tiles i t → at ≤ length old
    → at + length (flat_map entry_bytes (entries_of (take i tiles))) ≡ end → out ≡ take at old ++ (flat_map entry_bytes (entries_of (take i tiles)) ++ drop end old)
    → new ≡ entry_bytes (tile_of t).entry → length new ≡ k
    → (at + length (flat_map entry_bytes (entries_of (take (i + 1) tiles))) ≡ end + k)
    × (take end out ++ (new ++ drop (end + k) out) ≡ take at old ++ (flat_map entry_bytes (entries_of (take (i + 1) tiles)) ++ drop (end + k) old))
entry_next tiles i t at end k old out new h e low seam is own size =
    let done : List ℕ = flat_map entry_bytes (entries_of (take i tiles)) in
    let front : length (take at old ++ done) ≡ end = omega (arith, length-append (take at old) done, length-take-le at old low, seam) in
    let one : flat_map entry_bytes (entries_of (t ∷ [])) ≡ new = append-nil (entry_bytes (tile_of t).entry) ∙ sym own in
    let more : flat_map entry_bytes (entries_of (take (i + 1) tiles)) ≡ done ++ new = bytes_here tiles i t h e ∙ ap (λ l. done ++ l) one in (
      omega (arith, ap length more, length-append done new, seam, size),
      next_bytes (take at old ++ done) old out new end k front (is ∙ sym (append_assoc (take at old) done (drop end old)))
          ∙ (ap (λ l. l ++ drop (end + k) old) (append_assoc (take at old) done new ∙ ap (λ l. take at old ++ l) (sym more)) ∙ append_assoc (take at old) (flat_map entry_bytes (entries_of (take (i + 1) tiles))) (drop (end + k) old)),
    )

-- entries written right behind others are written with them
pub writes_both : (es fs : List Entry) (a b c : ℕ) (old one two : List ℕ) → a ≤ length old → WritesEntries es a b old one → WritesEntries fs b c one two → WritesEntries (es ++ fs) a c old two
writes_both es fs a b c old one two low first second =
    let F : List ℕ = flat_map entry_bytes es in
    let G : List ℕ = flat_map entry_bytes fs in
    let both : flat_map entry_bytes (es ++ fs) ≡ F ++ G = flat_map-append entry_bytes es fs in
    let long : length (take a old ++ F) ≡ b = omega (arith, length-append (take a old) F, length-take-le a old low, first.size, first.ends) in
    let more : c ≡ b + sum (map entry_len fs) = second.ends in
    let over : take b one ++ (G ++ drop c one) ≡ ((take a old ++ F) ++ G) ++ drop c old
    = ap (λ k. take b one ++ (G ++ drop k one)) more ∙ (next_bytes (take a old ++ F) old one G b (sum (map entry_len fs)) long (first.written ∙ sym (append_assoc (take a old) F (drop b old)))
    ∙ ap (λ k. ((take a old ++ F) ++ G) ++ drop k old) (sym more)) in
    record {
      ends = omega (arith, first.ends, more, sum_both es fs);
      entries = All-both IsEntry es fs first.entries second.entries;
      size = omega (arith, ap length both, length-append F G, first.size, second.size, sum_both es fs);
      written = second.written ∙ (over ∙ (ap (λ l. l ++ drop c old) (append_assoc (take a old) F G ∙ ap (λ l. take a old ++ l) (sym both)) ∙ append_assoc (take a old) (flat_map entry_bytes (es ++ fs)) (drop c old)));
    }

-- the head and the entries, over zeros
pub filled : (n end : ℕ) (zeros head b1 out : List ℕ) (es : List Entry) → zeros ≡ replicate n 0 → head ≡ directory_head (length es) → length head ≡ 128
    → b1 ≡ put_at zeros 0 head → WritesEntries es 128 end b1 out → out ≡ data_in n es
filled n end zeros head b1 out es zeros_is head_is long b1_is writes =
    let F : List ℕ = flat_map entry_bytes es in
    let s : ℕ = sum (map entry_len es) in
    let behind_head : 0 + length head ≡ 128 = omega (arith, long) in
    let first : b1 ≡ head ++ drop 128 zeros = b1_is ∙ ap (λ k. take 0 zeros ++ (head ++ drop k zeros)) behind_head in
    let second : out ≡ (head ++ F) ++ drop (128 + s) zeros = writes.written ∙ (ap (λ k. take 128 b1 ++ (F ++ drop k b1)) writes.ends ∙ next_bytes head zeros b1 F 128 s long first) in
    let rest : drop (128 + s) zeros ≡ replicate (n - (128 + s)) 0 = ap (λ l. drop (128 + s) l) zeros_is ∙ drop-replicate (128 + s) n 0 in
    second ∙ (ap (λ l. (head ++ F) ++ l) rest ∙ (append_assoc head F _ ∙ (ap (λ l. l ++ (F ++ replicate (n - (128 + s)) 0)) head_is
    ∙ append_assoc (i32_bytes (pos (length es))) (replicate 124 0) _)))

-- a piece at the end of the bytes put was written over
pub over_last : (old put new data' : List ℕ) (at n : ℕ) → put ≡ old ++ replicate n 0 → at ≡ length old → new ≡ data' → take at put ++ (new ++ drop (at + n) put) ≡ old ++ data'
over_last old put new data' at n put_is at_is is =
    let low : take at put ≡ old = ap (λ l. take at l) put_is ∙ (ap (λ k. take k (old ++ replicate n 0)) at_is ∙ take-append_seam old (replicate n 0)) in
    let long : length put ≡ at + n = omega (arith, ap length put_is, length-append old (replicate n 0), length-replicate {A = ℕ} n 0, at_is) in
    let high : drop (at + n) put ≡ [] = drop_all (at + n) put (omega (arith, long)) in
    ap (λ l. l ++ (new ++ drop (at + n) put)) low ∙ (ap (λ l. old ++ (new ++ l)) high ∙ (ap (λ l. old ++ l) (append-nil new) ∙ ap (λ l. old ++ l) is))

-- what stands in a list after a part of it was written over
pub put_as : (end k n : ℕ) (out new : List ℕ) → n ≡ k → take end out ++ (new ++ drop n (drop end out)) ≡ take end out ++ (new ++ drop (end + k) out)
put_as end k n out new e = ap (λ m. take end out ++ (new ++ drop m (drop end out))) e ∙ ap (λ l. take end out ++ (new ++ l)) (behind end k out)

pub all_here : (tiles : List Tile) (i : ℕ) (t : Tile) → i < length tiles → t ≡ get_or tiles i t → AllByRecursion IsEntry (entries_of (take i tiles)) → IsEntry (tile_of t).entry → AllByRecursion IsEntry (entries_of (take (i + 1) tiles))
all_here tiles i t h e all one =
    subst (AllByRecursion IsEntry) (sym (ap entries_of (take_here tiles i t h e) ∙ map-append (λ (z : Tile). (tile_of z).entry) (take i tiles) (t ∷ []))) (All-both IsEntry (entries_of (take i tiles)) (entries_of (t ∷ [])) all (one, tt))

-- the entries before a place, and those from it on
pub split_len : (n : ℕ) (tiles : List Tile) → sum (map entry_len (entries_of (take n tiles))) + sum (map entry_len (entries_of (drop n tiles))) ≡ sum (map entry_len (entries_of tiles))
split_len n tiles =
    sym (sum_both (entries_of (take n tiles)) (entries_of (drop n tiles)))
    ∙ ap (λ es. sum (map entry_len es)) (sym (map-append (λ (t : Tile). (tile_of t).entry) (take n tiles) (drop n tiles)) ∙ ap entries_of (take-append-drop n tiles))

-- entries that fill all bytes
pub whole_written : (es : List Entry) (end : ℕ) (old new : List ℕ) → WritesEntries es 0 end old new → sum (map entry_len es) ≡ length old → new ≡ flat_map entry_bytes es
whole_written es end old new w all =
    let none : drop end old ≡ [] = drop_all end old (omega (arith, w.ends, all)) in
    w.written ∙ (ap (λ l. flat_map entry_bytes es ++ l) none ∙ append-nil (flat_map entry_bytes es))
