-- The links of a slot, taken one after another.
use Rattle.std.proofs.Common.{◌≡◌, ℕ, suc, ◌+◌, ◌-◌, ◌<◌, ◌≤◌, Bool, true, false, List, [], ◌∷◌, ◌++◌, length, take, drop, Ok, Err, refl, sym, ◌∙◌, ap, arith}
use Rattle.std.specs.Prelude.{Result, if◌then◌else◌}
use Rattle.std.proofs.lemmas.List.{append_assoc, append-nil, drop-drop}
use Rattle.czi_format.specs.Bytes.{bytes_at, u32_at, u64_at}
use Rattle.czi_links.specs.Record.{Bytes}
use Rattle.czi_links.specs.Reading.{KeepsRules, is_good, after, links_at}
use Rattle.czi_links.proofs.Again.{if_true, good_is}
use Rattle.czi_links.proofs.Sound.{good_of}

-- links in front of those that were read
abbrev pub prepended : List Bytes → Result (List Bytes) ℕ → Result (List Bytes) ℕ
prepended ls (Ok more) = Ok (ls ++ more)
prepended ls (Err place) = Err place

pub prepended-none : (r : Result (List Bytes) ℕ) → r ≡ prepended [] r
prepended-none (Ok ls) = refl
prepended-none (Err place) = refl

prepended-after : (ls : List Bytes) (l : Bytes) (r : Result (List Bytes) ℕ) → prepended ls (after l r) ≡ prepended (ls ++ l ∷ []) r
prepended-after ls l (Ok more) = ap (λ (x : List Bytes). Ok x) (sym (append_assoc ls (l ∷ []) more))
prepended-after ls l (Err place) = refl

pub if_false : {A : Type 0} (b : Bool) (x y : A) → (b ≡ true → ⊥) → (if b then x else y) ≡ y
if_false true x y never = absurd (never refl)
if_false false x y never = refl

-- the fields of a link, read in the whole slot
pub place_at : (slot : List ℕ) (at : ℕ) → u64_at slot at ≡ u64_at (drop at slot) 0
unfolding u64_at bytes_at
place_at slot at = refl

pub size_at : (slot : List ℕ) (at : ℕ) → u32_at slot (at + 8) ≡ u32_at (drop at slot) 8
unfolding u32_at bytes_at
size_at slot at = ap (λ (x : List ℕ). u32_at x 0) (sym (drop-drop 8 at slot))

pub content_at : (slot : List ℕ) (at n : ℕ) → take n (drop (at + 12) slot) ≡ bytes_at (drop at slot) 12 n
unfolding bytes_at
content_at slot at n = ap (take n) (sym (drop-drop 12 at slot))

module _ (slot : List ℕ) (n at from limit : ℕ) where
  rest : List ℕ
  rest = drop at slot

  pub one_bad : (KeepsRules (u64_at (drop at slot) 0) (u32_at (drop at slot) 8) from limit (length (drop at slot)) → ⊥) → links_at (suc n) at from limit (drop at slot) ≡ Err at
  unfolding links_at rest
  one_bad bad = if_false (is_good (u64_at rest 0) (u32_at rest 8) from limit (length rest)) _ _ (λ is. bad (good_of _ _ from limit _ is))

  pub one_good : KeepsRules (u64_at (drop at slot) 0) (u32_at (drop at slot) 8) from limit (length (drop at slot))
      → links_at (suc n) at from limit (drop at slot) ≡ after (record { place = u64_at (drop at slot) 0; bytes = bytes_at (drop at slot) 12 (u32_at (drop at slot) 8) })
      (links_at n (at + (12 + u32_at (drop at slot) 8)) (u64_at (drop at slot) 0 + u32_at (drop at slot) 8) limit (drop (at + (12 + u32_at (drop at slot) 8)) slot))
  unfolding links_at rest
  one_good good = if_true (is_good (u64_at rest 0) (u32_at rest 8) from limit (length rest)) _ _ (good_is good)
      ∙ ap (λ (x : List ℕ). after (record { place = u64_at rest 0; bytes = bytes_at rest 12 (u32_at rest 8) }) (links_at n (at + (12 + u32_at rest 8)) (u64_at rest 0 + u32_at rest 8) limit x)) (drop-drop (12 + u32_at rest 8) at slot)

-- as many are left
pub left_more : (count taken : ℕ) → taken < count → count - taken ≡ suc (count - (taken + 1))
left_more count taken lt = omega (arith, lt)

-- one more link was taken
pub one_taken : (slot : List ℕ) (count taken at from limit : ℕ) (ls new : List Bytes) (place len : ℕ) (whole : Result (List Bytes) ℕ) → taken < count → KeepsRules (u64_at (drop at slot) 0) (u32_at (drop at slot) 8) from limit (length (drop at slot))
    → place ≡ u64_at (drop at slot) 0 → len ≡ u32_at (drop at slot) 8 → whole ≡ prepended ls (links_at (count - taken) at from limit (drop at slot))
    → new ≡ ls ++ record { place = place; bytes = take len (drop (at + 12) slot) } ∷ []
    → whole ≡ prepended new (links_at (count - (taken + 1)) (at + 12 + len) (place + len) limit (drop (at + 12 + len) slot))
one_taken slot count taken at from limit ls new place len whole lt good place_is len_is so_far new_is =
    so_far
    ∙ ap (λ (k : ℕ). prepended ls (links_at k at from limit (drop at slot))) (left_more count taken lt)
    ∙ ap (prepended ls) (one_good slot left at from limit good)
    ∙ ap (λ (k : ℕ). prepended ls (after (record { place = k; bytes = bytes_at (drop at slot) 12 size }) (links_at left (at + (12 + size)) (k + size) limit (drop (at + (12 + size)) slot)))) (sym place_is)
    ∙ ap (λ (k : ℕ). prepended ls (after (record { place = place; bytes = bytes_at (drop at slot) 12 k }) (links_at left (at + (12 + k)) (place + k) limit (drop (at + (12 + k)) slot)))) (sym len_is)
    ∙ ap (λ (b : List ℕ). prepended ls (after (record { place = place; bytes = b }) (links_at left (at + (12 + len)) (place + len) limit (drop (at + (12 + len)) slot)))) (sym (content_at slot at len))
    ∙ ap (λ (k : ℕ). prepended ls (after l (links_at left k (place + len) limit (drop k slot)))) same_end
    ∙ prepended-after ls l (links_at left (at + 12 + len) (place + len) limit (drop (at + 12 + len) slot))
    ∙ ap (λ (x : List Bytes). prepended x (links_at left (at + 12 + len) (place + len) limit (drop (at + 12 + len) slot))) (sym new_is)
  where
    left : ℕ
    left = count - (taken + 1)

    size : ℕ
    size = u32_at (drop at slot) 8

    l : Bytes
    l = record { place = place; bytes = take len (drop (at + 12) slot) }

    same_end : at + (12 + len) ≡ at + 12 + len
    same_end = omega arith

-- where the last begins no good link, that place is the answer
pub none_taken : (slot : List ℕ) (count taken at from limit : ℕ) (ls : List Bytes) (whole : Result (List Bytes) ℕ) → taken < count → (KeepsRules (u64_at (drop at slot) 0) (u32_at (drop at slot) 8) from limit (length (drop at slot)) → ⊥)
    → whole ≡ prepended ls (links_at (count - taken) at from limit (drop at slot)) → whole ≡ Err at
none_taken slot count taken at from limit ls whole lt bad so_far =
    so_far ∙ ap (λ (k : ℕ). prepended ls (links_at k at from limit (drop at slot))) (left_more count taken lt) ∙ ap (prepended ls) (one_bad slot (count - (taken + 1)) at from limit bad)

-- when all are taken
pub all_taken : (slot : List ℕ) (count taken at from limit : ℕ) (ls : List Bytes) (whole : Result (List Bytes) ℕ) → count ≤ taken → whole ≡ prepended ls (links_at (count - taken) at from limit (drop at slot)) → whole ≡ Ok ls
unfolding links_at
all_taken slot count taken at from limit ls whole le so_far =
    let none : count - taken ≡ 0 = omega (arith, le) in
    so_far ∙ ap (λ (k : ℕ). prepended ls (links_at k at from limit (drop at slot))) none ∙ ap (λ (x : List Bytes). Ok x) (append-nil ls)
