-- One act on a list: what it makes of it, and the entries of the directory afterwards.
use Rattle.std.proofs.Common.{◌≡◌, ◌⊎◌, ℕ, zero, suc, ◌+◌, ◌<◌, ◌≤◌, List, [], ◌∷◌, ◌++◌, map, take, drop, length, sum, ◌==◌, true, false, if◌then◌else◌, refl, ap, sym, ◌∙◌, arith, inl, inr, append-nil, length-append}
use Rattle.std.proofs.Math.Numerals.{add-one}
use Rattle.std.proofs.Math.Seq.{drop-append_seam}
use Rattle.std.proofs.lemmas.Bool.{cases_Bool, eq-eqb, eqb-true}
use Rattle.std.proofs.lemmas.List.{drop-drop, drop-map, drop_all, length-drop, length-take-le, map-append, take-append-drop, take-map}
use Rattle.std.proofs.lemmas.List.Sums.{sum_by-append}
use Rattle.std.specs.List.{AllByRecursion}
use Rattle.czi_format.specs.Layout.{Place}
use Rattle.czi_image.specs.Change.{AreWithin, act_of}
use Rattle.czi_image.specs.declared.change.Act.{Act as CodeAct}
use Rattle.czi_image.specs.declared.change.Act.TheVariants.{Out, Put, Into}
use Rattle.czi_machine.specs.Change.{Act, bring, brought, changed, keep, mapped, omit, omitted, out, past}
use Rattle.czi_machine.specs.Cover.{cover}
use Rattle.czi_machine.specs.Places.{Asked, patched_len}
use Rattle.czi_machine.specs.Planned.{Brings}
use Rattle.czi_machine.specs.Ranges.{NeverStays, asked_for}
use Rattle.czi_machine.specs.State.{spans_of}
use Rattle.czi_machine.specs.Table.{changes}
use Rattle.czi_machine.proofs.Changing.{changed-into, changed-out, changed-put}
use Rattle.czi_machine.proofs.Ranges.{not_same, not_same', range_into, range_out, range_put}
use Rattle.czi_plan.specs.Changing.{back_entries, entries_in, front_entries, middle_entries, size_of, stays_behind, tiles_before, tiles_behind, tiles_brought, tiles_leaving}
use Rattle.czi_plan.specs.Directory.{as_long_in, back_in, middle_in}
use Rattle.czi_plan.specs.Kind.{Kind}
use Rattle.czi_plan.specs.Listing.{size_in}
use Rattle.czi_plan.proofs.Entries.{size_both}

out_parts : {Y : Type 0} (i : ℕ) (ys : List Y) → ys ≡ take i ys ++ (take 1 (drop i ys) ++ drop (i + 1) ys)
out_parts i ys = sym (take-append-drop i ys) ∙ ap (λ l. take i ys ++ l) (sym (take-append-drop 1 (drop i ys)) ∙ ap (λ l. take 1 (drop i ys) ++ l) (drop-drop 1 i ys))

-- a list is what stands before an act, what leaves, and what comes behind
pub act_parts : {X Y : Type 0} (a : CodeAct X) (ys : List Y) → ys ≡ tiles_before a ys ++ (tiles_leaving a ys ++ tiles_behind a ys)
act_parts (Out i) ys = out_parts i ys
act_parts (Put i x) ys = out_parts i ys
act_parts (Into i x) ys = sym (take-append-drop i ys)

-- and then what stands before it, what it brings, and what comes behind
pub changed_act : {X : Type 0} (a : CodeAct X) (xs : List X) → changed (act_of a) xs ≡ tiles_before a xs ++ (tiles_brought a ++ tiles_behind a xs)
changed_act (Out i) xs = changed-out i xs ∙ ap (λ n. take i xs ++ drop n xs) (sym (add-one i))
changed_act (Put i x) xs = changed-put i x xs ∙ ap (λ n. take i xs ++ x ∷ drop n xs) (sym (add-one i))
changed_act (Into i x) xs = changed-into i x xs

brought_past : {X : Type 0} (i : ℕ) (c : List (Act X)) → brought (past i c) ≡ brought c
brought_past zero c = refl
brought_past (suc i) c = brought_past i c

pub brought_act : {X : Type 0} (a : CodeAct X) → brought (act_of a) ≡ tiles_brought a
brought_act (Out i) = brought_past i (omit ∷ [])
brought_act (Put i x) = brought_past i (omit ∷ bring x ∷ [])
brought_act (Into i x) = brought_past i (bring x ∷ [])

omitted_past : {X Y : Type 0} (i : ℕ) (c : List (Act X)) (ys : List Y) → omitted (past i c) ys ≡ omitted c (drop i ys)
omitted_past zero c ys = refl
omitted_past (suc i) c [] = omitted_past i c [] ∙ ap (omitted c) (drop_all i [] (omega arith))
omitted_past (suc i) c (y ∷ ys) = omitted_past i c ys

pub omitted_act : {X Y : Type 0} (a : CodeAct X) (ys : List Y) → omitted (act_of a) ys ≡ tiles_leaving a ys
omitted_act {X = X} (Out i) ys = omitted_past i (omit ∷ []) ys ∙ first X (drop i ys)
  where
    first : (X : Type 0) {Y : Type 0} (ys : List Y) → omitted (let c : List (Act X) = omit ∷ [] in c) ys ≡ take 1 ys
    first X [] = refl
    first X (y ∷ ys) = refl
omitted_act (Put i x) ys = omitted_past i (omit ∷ bring x ∷ []) ys ∙ first x (drop i ys)
  where
    first : {X Y : Type 0} (x : X) (ys : List Y) → omitted (omit ∷ bring x ∷ []) ys ≡ take 1 ys
    first x [] = refl
    first x (y ∷ ys) = refl
omitted_act (Into i x) ys = omitted_past i (bring x ∷ []) ys

changes_past : {X : Type 0} (c : List (Act X)) (i n : ℕ) → ((k : ℕ) → n ≡ i + k → changes c k ≡ true) → i ≤ n → changes (past i c) n ≡ true
changes_past c zero n here h = here n (omega arith)
changes_past c (suc i) zero here h = absurd (omega (arith, h))
changes_past c (suc i) (suc n) here h = changes_past c i n (λ k e. here k (omega (arith, e))) (omega (arith, h))

pub changes_act : {X : Type 0} (a : CodeAct X) (n : ℕ) → AreWithin (a ∷ []) n → changes (act_of a) n ≡ true
changes_act {X = X} (Out i) n w = changes_past (omit ∷ []) i n (λ k e. some X k (omega (arith, e, w.0))) (omega (arith, w.0))
  where
    some : (X : Type 0) (k : ℕ) → 0 < k → changes (let c : List (Act X) = omit ∷ [] in c) k ≡ true
    some X zero h = absurd (omega (arith, h))
    some X (suc k) h = refl
changes_act (Put i x) n w = changes_past (omit ∷ bring x ∷ []) i n (λ k e. some x k (omega (arith, e, w.0))) (omega (arith, w.0))
  where
    some : {X : Type 0} (x : X) (k : ℕ) → 0 < k → changes (omit ∷ bring x ∷ []) k ≡ true
    some x zero h = absurd (omega (arith, h))
    some x (suc k) h = refl
changes_act (Into i x) n w = changes_past (bring x ∷ []) i n (λ k e. refl) w.0

-- the same act with images
abbrev pub act_as : {X Y : Type 0} → (X → Y) → CodeAct X → CodeAct Y
act_as f (Out i) = Out i
act_as f (Put i x) = Put i (f x)
act_as f (Into i x) = Into i (f x)

mapped_past : {X Y : Type 0} (f : X → Y) (i : ℕ) (c : List (Act X)) → mapped f (past i c) ≡ past i (mapped f c)
mapped_past f zero c = refl
mapped_past f (suc i) c = ap (λ l. keep ∷ l) (mapped_past f i c)

pub mapped_out : {X Y : Type 0} (f : X → Y) (i : ℕ) → mapped f (out i) ≡ out i
mapped_out f i = mapped_past f i (omit ∷ [])

pub mapped_act : {X Y : Type 0} (f : X → Y) (a : CodeAct X) → mapped f (act_of a) ≡ act_of (act_as f a)
mapped_act f (Out i) = mapped_out f i
mapped_act f (Put i x) = mapped_past f i (omit ∷ bring x ∷ [])
mapped_act f (Into i x) = mapped_past f i (bring x ∷ [])

pub brought_as : {X Y : Type 0} (f : X → Y) (a : CodeAct X) → tiles_brought (act_as f a) ≡ map f (tiles_brought a)
brought_as f (Out i) = refl
brought_as f (Put i x) = refl
brought_as f (Into i x) = refl

-- an item in the place of one, in two changes
pub brings_past : {X Y : Type 0} (P : X → Y → Type 0) (i : ℕ) (c : List (Act X)) (d : List (Act Y)) → Brings P c d → Brings P (past i c) (past i d)
brings_past P zero c d b = b
brings_past P (suc i) c d b = brings_past P i c d b

map_before : {X Y Z : Type 0} (f : Y → Z) (a : CodeAct X) (ys : List Y) → map f (tiles_before a ys) ≡ tiles_before a (map f ys)
map_before f (Out i) ys = sym (take-map f i ys)
map_before f (Put i x) ys = sym (take-map f i ys)
map_before f (Into i x) ys = sym (take-map f i ys)

pub map_leaving : {X Y Z : Type 0} (f : Y → Z) (a : CodeAct X) (ys : List Y) → map f (tiles_leaving a ys) ≡ tiles_leaving a (map f ys)
map_leaving f (Out i) ys = sym (take-map f 1 (drop i ys)) ∙ ap (take 1) (sym (drop-map f i ys))
map_leaving f (Put i x) ys = sym (take-map f 1 (drop i ys)) ∙ ap (take 1) (sym (drop-map f i ys))
map_leaving f (Into i x) ys = refl

map_behind : {X Y Z : Type 0} (f : Y → Z) (a : CodeAct X) (ys : List Y) → map f (tiles_behind a ys) ≡ tiles_behind a (map f ys)
map_behind f (Out i) ys = sym (drop-map f (i + 1) ys)
map_behind f (Put i x) ys = sym (drop-map f (i + 1) ys)
map_behind f (Into i x) ys = sym (drop-map f i ys)

pub map-three : {X Y : Type 0} (f : X → Y) (xs ys zs : List X) → map f (xs ++ (ys ++ zs)) ≡ map f xs ++ (map f ys ++ map f zs)
map-three f xs ys zs = map-append f xs (ys ++ zs) ∙ ap (λ l. map f xs ++ l) (map-append f ys zs)

-- images of a list after an act
pub changed_images : {X Y : Type 0} (f : X → Y) (a : CodeAct X) (xs : List X) → map f (changed (act_of a) xs) ≡ tiles_before a (map f xs) ++ (map f (tiles_brought a) ++ tiles_behind a (map f xs))
changed_images f a xs =
    ap (map f) (changed_act a xs) ∙ (map-three f (tiles_before a xs) (tiles_brought a) (tiles_behind a xs) ∙ (λ j. map_before f a xs j ++ (map f (tiles_brought a) ++ map_behind f a xs j)))

-- lengths
pub sum-both : (ms ns : List ℕ) → sum (ms ++ ns) ≡ sum ms + sum ns
sum-both ms ns = sum_by-append (λ n. n) ms ns

pub sum-three : (ks ms ns : List ℕ) → sum (ks ++ (ms ++ ns)) ≡ sum ks + (sum ms + sum ns)
sum-three ks ms ns = sum-both ks (ms ++ ns) ∙ ap (λ n. sum ks + n) (sum-both ms ns)

behind_seam : (i : ℕ) (ls rest : List ℕ) → i ≤ length ls → drop i (take i ls ++ rest) ≡ rest
behind_seam i ls rest h = ap (λ n. drop n (take i ls ++ rest)) (sym (length-take-le i ls h)) ∙ drop-append_seam (take i ls) rest

first_some : (i : ℕ) (ls : List ℕ) → i < length ls → AllByRecursion (λ n. 0 < n) ls → 0 < sum (take 1 (drop i ls))
first_some i [] h all = absurd (omega (arith, h))
first_some zero (n ∷ ls) h all = omega (arith, all.0)
first_some (suc i) (n ∷ ls) h all = first_some i ls (omega (arith, h)) all.1

same_sums : (f b g h : ℕ) → (f + (b + g) == f + (h + g)) ≡ (h == b)
same_sums f b g h = elim (cases_Bool (h == b)) [
  | inl e ↦ eq-eqb _ _ (omega (arith, eqb-true h b e)) ∙ sym e
  | inr e ↦ elim (cases_Bool (f + (b + g) == f + (h + g))) [ inr k ↦ k ∙ sym e | inl k ↦ absurd (let same : h ≡ b = omega (arith, eqb-true _ _ k) in let clash : true ≡ false = sym (eq-eqb h b same) ∙ e in cc (clash)) ]
]

-- The patched range of an act: what it brings, and what comes behind, unless as many bytes of entries come as leave.
pub range_act : {X : Type 0} (f : X → Asked) (size : X → ℕ) (a : CodeAct X) (ps : List Place) (ls : List ℕ) → NeverStays f → ((x : X) → 0 < size x) → AreWithin (a ∷ []) (length ps) → length ls ≡ length ps → AllByRecursion (λ n. 0 < n) ls
    → AllByRecursion (λ (p : Place). 0 < p.span.len) ps → ((q : ℕ) → cover (spans_of ps) q ≤ 1)
    → patched_len ps (asked_for f (act_of a) ps) ls (tiles_before a ls ++ (map size (tiles_brought a) ++ tiles_behind a ls))
    ≡ (if sum (map size (tiles_brought a)) == sum (tiles_leaving a ls) then sum (map size (tiles_brought a)) else sum (map size (tiles_brought a)) + sum (tiles_behind a ls))
range_act f size (Out i) ps ls never new w long some some' once =
    let after : List ℕ = take i ls ++ drop (i + 1) ls in
    let all : 0 + sum (drop (i + 1) ls) ≡ sum (drop (i + 1) ls) = omega arith in
    let none : (0 == sum (take 1 (drop i ls))) ≡ false = not_same 0 _ (first_some i ls (omega (arith, w.0, long)) some) in
    range_out f i ps ls after w.0 (omega (arith, length-append (take i ls) (drop (i + 1) ls), length-take-le i ls (omega (arith, w.0, long)), length-drop (i + 1) ls, w.0, long)) long some' once
    ∙ (ap sum (behind_seam i ls (drop (i + 1) ls) (omega (arith, w.0, long))) ∙ sym (rw none all))
range_act f size (Put i x) ps ls never new w long some some' once =
    let rest : List ℕ = size x ∷ drop (i + 1) ls in
    let after : List ℕ = take i ls ++ rest in
    let behind : drop i after ≡ rest = behind_seam i ls rest (omega (arith, w.0, long)) in
    let before : sum ls ≡ sum (take i ls) + (sum (take 1 (drop i ls)) + sum (drop (i + 1) ls))
    = ap sum (out_parts i ls) ∙ (sum-both (take i ls) (take 1 (drop i ls) ++ drop (i + 1) ls) ∙ ap (λ n. sum (take i ls) + n) (sum-both (take 1 (drop i ls)) (drop (i + 1) ls))) in
    let behind' : sum after ≡ sum (take i ls) + (sum (size x ∷ []) + sum (drop (i + 1) ls)) = sum-both (take i ls) rest ∙ ap (λ n. sum (take i ls) + n) (sum-both (size x ∷ []) (drop (i + 1) ls)) in
    let test : (sum ls == sum after) ≡ (sum (size x ∷ []) == sum (take 1 (drop i ls))) = (λ j. before j == behind' j) ∙ same_sums (sum (take i ls)) (sum (take 1 (drop i ls))) (sum (drop (i + 1) ls)) (sum (size x ∷ [])) in
    range_put f i x ps ls after never w.0 long (omega (arith, length-append (take i ls) rest, length-take-le i ls (omega (arith, w.0, long)), length-drop (i + 1) ls, w.0, long))
    ∙ ((λ j. if test j then sum (take 1 (behind j)) else sum (behind j)) ∙ ap (λ n. if sum (size x ∷ []) == sum (take 1 (drop i ls)) then sum (size x ∷ []) else n) (sum-both (size x ∷ []) (drop (i + 1) ls)))
range_act f size (Into i x) ps ls never new w long some some' once =
    let rest : List ℕ = size x ∷ drop i ls in
    let after : List ℕ = take i ls ++ rest in
    let none : (sum (size x ∷ []) == 0) ≡ false = not_same' (sum (size x ∷ [])) 0 (omega (arith, new x)) in
    range_into f i x ps ls after never w.0 long (omega (arith, length-append (take i ls) rest, length-take-le i ls (omega (arith, w.0, long)), length-drop i ls, w.0, long))
    ∙ (ap sum (behind_seam i ls rest (omega (arith, w.0, long))) ∙ (sum-both (size x ∷ []) (drop i ls) ∙ sym (rw none refl)))

-- the lengths of entries before an act, of those that leave, and of those behind
pub lens_before : {X C E S : Type 0} (k : Kind C E S) (a : CodeAct X) (ts : List C) → tiles_before a (map k.len (entries_in k ts)) ≡ map k.len (entries_in k (tiles_before a ts))
lens_before k a ts = sym (ap (map k.len) (map_before k.entry a ts) ∙ map_before k.len a (entries_in k ts))

pub lens_leaving : {X C E S : Type 0} (k : Kind C E S) (a : CodeAct X) (ts : List C) → tiles_leaving a (map k.len (entries_in k ts)) ≡ map k.len (entries_in k (tiles_leaving a ts))
lens_leaving k a ts = sym (ap (map k.len) (map_leaving k.entry a ts) ∙ map_leaving k.len a (entries_in k ts))

pub lens_behind : {X C E S : Type 0} (k : Kind C E S) (a : CodeAct X) (ts : List C) → tiles_behind a (map k.len (entries_in k ts)) ≡ map k.len (entries_in k (tiles_behind a ts))
lens_behind k a ts = sym (ap (map k.len) (map_behind k.entry a ts) ∙ map_behind k.len a (entries_in k ts))

-- the entries in the middle and at the back
pub parts_behind : {C E S : Type 0} (k : Kind C E S) (come leaving behind : List E) → middle_in k.len come leaving behind ++ back_in k.len come leaving behind ≡ come ++ behind
parts_behind k come leaving behind = elim (cases_Bool (as_long_in k.len come leaving)) [ inl e ↦ rw e refl | inr e ↦ rw e (append-nil (come ++ behind)) ]

-- all of them
pub entries_after_act : {C E S : Type 0} (k : Kind C E S) (a : CodeAct C) (ts : List C) → entries_in k (changed (act_of a) ts) ≡ front_entries k a ts ++ (middle_entries k a ts ++ back_entries k a ts)
entries_after_act k a ts =
    ap (entries_in k) (changed_act a ts) ∙ (map-three k.entry (tiles_before a ts) (tiles_brought a) (tiles_behind a ts) ∙ ap (λ l. front_entries k a ts ++ l) (sym (parts_behind k (entries_in k (tiles_brought a)) (entries_in k (tiles_leaving a ts)) (entries_in k (tiles_behind a ts)))))

-- what stood in the place of those in the middle
abbrev pub old_entries : {C E S : Type 0} → Kind C E S → CodeAct C → List C → List E
old_entries k a ts = if stays_behind k a ts then entries_in k (tiles_leaving a ts) else entries_in k (tiles_leaving a ts) ++ entries_in k (tiles_behind a ts)

pub entries_before_act : {C E S : Type 0} (k : Kind C E S) (a : CodeAct C) (ts : List C) → entries_in k ts ≡ front_entries k a ts ++ (old_entries k a ts ++ back_entries k a ts)
entries_before_act k a ts =
    ap (entries_in k) (act_parts a ts) ∙ (map-three k.entry (tiles_before a ts) (tiles_leaving a ts) (tiles_behind a ts) ∙ ap (λ l. front_entries k a ts ++ l) (elim (cases_Bool (stays_behind k a ts)) [
      | inl e ↦ rw e refl
      | inr e ↦ rw e (sym (append-nil (entries_in k (tiles_leaving a ts) ++ entries_in k (tiles_behind a ts))))
    ]))

-- what comes behind stays where as many bytes come as leave
pub back_stays : {C E S : Type 0} (k : Kind C E S) (a : CodeAct C) (ts : List C) → (back_entries k a ts ≡ []) ⊎ (sum (map k.len (old_entries k a ts)) ≡ sum (map k.len (middle_entries k a ts)))
back_stays k a ts = elim (cases_Bool (stays_behind k a ts)) [
  | inr e ↦ inl (rw e refl)
  | inl e ↦ inr (rw e (sym (eqb-true (size_of k (tiles_brought a)) (size_of k (tiles_leaving a ts)) e)))
]

-- the numbers of an act hang on the lengths of the entries alone
pub size_as : {X C E S : Type 0} (k : Kind C E S) (b : CodeAct X) (come : List E) (ts : List C)
    → size_in k (entries_in k (tiles_before b ts) ++ (middle_in k.len come (entries_in k (tiles_leaving b ts)) (entries_in k (tiles_behind b ts)) ++ back_in k.len come (entries_in k (tiles_leaving b ts)) (entries_in k (tiles_behind b ts))))
    ≡ k.head + (size_of k (tiles_before b ts) + (sum (map k.len come) + size_of k (tiles_behind b ts)))
size_as {E = E} k b come ts =
    let leaving : List E = entries_in k (tiles_leaving b ts) in
    let behind : List E = entries_in k (tiles_behind b ts) in
    omega (
      arith,
      size_both k (entries_in k (tiles_before b ts)) (middle_in k.len come leaving behind ++ back_in k.len come leaving behind),
      ap (λ l. sum (map k.len l)) (parts_behind k come leaving behind),
      ap sum (map-append k.len come behind),
      sum-both (map k.len come) (map k.len behind),
    )

pub range_as : {C E S : Type 0} (k : Kind C E S) (come leaving behind : List E) → sum (map k.len (middle_in k.len come leaving behind))
    ≡ (if sum (map k.len come) == sum (map k.len leaving) then sum (map k.len come) else sum (map k.len come) + sum (map k.len behind))
range_as k come leaving behind = elim (cases_Bool (as_long_in k.len come leaving)) [
  | inl e ↦ rw e refl
  | inr e ↦ rw e (ap sum (map-append k.len come behind) ∙ sum-both (map k.len come) (map k.len behind))
]
