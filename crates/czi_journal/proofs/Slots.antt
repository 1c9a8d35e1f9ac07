-- What torn writes leave of what a journal says.
use Rattle.std.proofs.Common.{◌≡◌, ◌⊎◌, inl, inr, ⊎_elim, ℕ, ◌+◌, ◌<◌, ◌≤◌, List, length, take, drop, get_or, sym, ◌∙◌, ap, subst, arith}
use Rattle.std.specs.Prelude.{◌==◌, if◌then◌else◌}
use Rattle.std.proofs.lemmas.List.{ext_get_or, places}
use Rattle.std.proofs.lemmas.Bool.{cases_lt}
use Rattle.std.proofs.lemmas.Bool.Decides.{nat_tests}
use Rattle.czi_links.specs.Reading.{Reading, Void, Holds, OfVersion, BadAt, read}
use Rattle.czi_links.proofs.Sound.{IsOfSlot, read_sound}
use Rattle.czi_journal.specs.declared.journal.Slot.{Slot}
use Rattle.czi_journal.specs.declared.journal.Slot.TheVariants.{A, B}
use Rattle.czi_journal.specs.Journals.{slot_place, behind, slot_in, selected_in, slot_of, Counts, CountsWith}

-- the same bytes from p on
pub window : (p n : ℕ) (a b : List ℕ) → p + n ≤ length a → p + n ≤ length b → ((k : ℕ) → p ≤ k → k < p + n → get_or b k 0 ≡ get_or a k 0) → take n (drop p b) ≡ take n (drop p a)
window p n a b fits_a fits_b same = ext_get_or 0 (take n (drop p b)) (take n (drop p a)) (grind (arith, places)) (λ k lt. each k (inside k lt))
  where
    inside : (k : ℕ) → k < length (take n (drop p b)) → k < n
    inside k lt = grind (arith, places)

    left : (xs : List ℕ) (k : ℕ) → k < n → get_or (take n (drop p xs)) k 0 ≡ get_or xs (p + k) 0
    left xs k lt = grind (arith, places)

    each : (k : ℕ) → k < n → get_or (take n (drop p b)) k 0 ≡ get_or (take n (drop p a)) k 0
    each k lt = left b k lt ∙ same (p + k) (omega arith) (omega (arith, lt)) ∙ sym (left a k lt)

pub slot_room : (s : Slot) → slot_place s + 262144 ≤ 524352
slot_room A = omega arith
slot_room B = omega arith

pub slot_in_same : (s : Slot) (a b : List ℕ) → 524352 ≤ length a → 524352 ≤ length b → ((k : ℕ) → slot_place s ≤ k → k < slot_place s + 262144 → get_or b k 0 ≡ get_or a k 0) → slot_in s b ≡ slot_in s a
unfolding slot_in
slot_in_same s a b long_a long_b same = ap (λ (slot : List ℕ). behind (slot_place s) (read slot)) (window (slot_place s) 262144 a b (omega (arith, slot_room s)) (omega (arith, slot_room s)) same)

pub slot_of_counts : (j : List ℕ) → Counts j → slot_of j ≡ slot_in (selected_in j) j
slot_of_counts j c = grind (arith, nat_tests, c.long, c.mark)

pub slot_of_void : (j : List ℕ) → (get_or j 0 0 ≡ 90 → ⊥) → slot_of j ≡ Void
slot_of_void j not = grind (arith, nat_tests)

pub slot_of_short : (j : List ℕ) → length j < 524352 → slot_of j ≡ Void
slot_of_short j lt = grind (arith, nat_tests)

pub same_selector : (a b : List ℕ) → get_or b 1 0 ≡ get_or a 1 0 → selected_in b ≡ selected_in a
same_selector a b same = ap (λ (x : ℕ). if x == 1 then B else A) same

-- heads that agree
pub same_head : (s : Slot) (a b : List ℕ) → CountsWith s a → length a ≤ length b → get_or b 0 0 ≡ get_or a 0 0 → get_or b 1 0 ≡ get_or a 1 0 → CountsWith s b
same_head s a b c long zeroth first = record {
  counts = record { long = omega (arith, c.counts.long, long); mark = zeroth ∙ c.counts.mark };
  selected = same_selector a b first ∙ c.selected;
}

pub says_slot : (s : Slot) (j : List ℕ) → CountsWith s j → slot_of j ≡ slot_in s j
says_slot s j c = slot_of_counts j c.counts ∙ ap (λ (t : Slot). slot_in t j) c.selected

pub past_head : (s : Slot) → 64 ≤ slot_place s
past_head A = omega arith
past_head B = omega arith

pub number_or_not : (n m : ℕ) → (n ≡ m) ⊎ (n ≡ m → ⊥)
number_or_not n m = ⊎_elim (λ lt. inr (λ e. omega (arith, lt, e))) (λ le. ⊎_elim (λ gt. inr (λ e. omega (arith, gt, e))) (λ ge. inl (omega (arith, le, ge))) (cases_lt m n)) (cases_lt n m)

pub marked_or_not : (j : List ℕ) → (get_or j 0 0 ≡ 90) ⊎ (get_or j 0 0 ≡ 90 → ⊥)
marked_or_not j = number_or_not (get_or j 0 0) 90

slot_in_sound : (s : Slot) (j : List ℕ) → IsOfSlot (slot_in s j)
unfolding slot_in
slot_in_sound s j = placed (read (take 262144 (drop (slot_place s) j))) (read_sound (take 262144 (drop (slot_place s) j)))
  where
    placed : (reading : Reading) → IsOfSlot reading → IsOfSlot (behind (slot_place s) reading)
    placed Void is = is
    placed (Holds r) is = is
    placed (OfVersion v) is = is
    placed (BadAt place) is = is

-- what a journal that counts says
pub counted_sound : (j : List ℕ) → Counts j → IsOfSlot (slot_of j)
counted_sound j c = subst IsOfSlot (sym (slot_of_counts j c)) (slot_in_sound (selected_in j) j)
