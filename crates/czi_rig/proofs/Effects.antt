-- What a write, a cut and a sync of a rig in memory make of a file.
use Rattle.std.proofs.Common.{◌≡◌, inl, inr, ⊎_elim, ℕ, ◌+◌, ◌-◌, ◌<◌, ◌≤◌, ◌^◌, max, Bool, true, false, List, length, get_or, take, drop, refl, sym, ◌∙◌, subst, arith}
use Rattle.std.specs.Prelude.{All}
use Rattle.std.proofs.lemmas.List.{places, get_or_past, get_or_default, take_all, ext_get_or, length-drop, get_or-drop}
use Rattle.std.proofs.lemmas.Bool.{cases_lt}
use Rattle.std.proofs.lemmas.Grind.{common_steps}
use Rattle.czi_rig.specs.Disk.{Disk, Durable, Left, Torn, TornCut, at_rest, settled, begun_write, begun_cut, overwritten}
use Rattle.czi_rig.specs.Replay.{done, landed, cut_to, put, was_cut, synced, IsSoundDisk}
use Rattle.czi_rig.proofs.Files.{left_settled, Left-begun_write, Left-begun_cut}

length_over : (at : ℕ) (bytes seen : List ℕ) → at ≤ length seen → length (overwritten at bytes seen) ≡ max (length seen) (at + length bytes)
length_over at bytes seen fits = grind (arith, common_steps)

over_front : (at : ℕ) (bytes seen : List ℕ) (k : ℕ) → at ≤ length seen → k < at → get_or (overwritten at bytes seen) k 0 ≡ get_or seen k 0
over_front at bytes seen k fits before = grind (arith, places)

over_back : (at : ℕ) (bytes seen : List ℕ) (k : ℕ) → at ≤ length seen → at + length bytes ≤ k → get_or (overwritten at bytes seen) k 0 ≡ get_or seen k 0
over_back at bytes seen k fits after = grind (arith, places)

over_mid : (at : ℕ) (bytes seen : List ℕ) (k : ℕ) → at ≤ length seen → at ≤ k → k < at + length bytes → get_or (overwritten at bytes seen) k 0 ≡ get_or bytes (k - at) 0
over_mid at bytes seen k fits from to = grind (arith, places)

-- each is a byte
pub record Bytes (xs : List ℕ) : Type 0 where
  pub each : (k : ℕ) → get_or xs k 0 < 2 ^ 8

pub to_all : (xs : List ℕ) → Bytes xs → All (λ b. b < 2 ^ 8) xs
to_all xs b = λ k d lt. subst (λ (x : ℕ). x < 2 ^ 8) (get_or_default xs k 0 d lt) (b.each k)

pub from_all : (xs : List ℕ) → All (λ b. b < 2 ^ 8) xs → Bytes xs
from_all xs a = record { each = λ k. ⊎_elim (λ lt. a k 0 lt) (λ past. subst (λ (x : ℕ). x < 2 ^ 8) (sym (get_or_past xs k 0 past)) (omega arith)) (cases_lt k (length xs)) }

take_short : (n : ℕ) (xs : List ℕ) → length (take n xs) ≤ n
take_short n xs = grind (arith, common_steps)

take_within : (n : ℕ) (xs : List ℕ) → length (take n xs) ≤ length xs
take_within n xs = grind (arith, common_steps)

take_same : (n k : ℕ) (xs : List ℕ) → k < n → get_or (take n xs) k 0 ≡ get_or xs k 0
take_same n k xs lt = grind (arith, places)

bytes_take : (n : ℕ) (xs : List ℕ) → Bytes xs → Bytes (take n xs)
bytes_take n xs b = record {
  each = λ k. ⊎_elim
      (λ lt. subst (λ (x : ℕ). x < 2 ^ 8) (sym (take_same n k xs lt)) (b.each k))
      (λ past. subst (λ (x : ℕ). x < 2 ^ 8) (sym (get_or_past (take n xs) k 0 (omega (arith, take_short n xs)))) (omega arith))
      (cases_lt k n);
}

bytes_over : (at : ℕ) (bytes seen : List ℕ) → at ≤ length seen → Bytes bytes → Bytes seen → Bytes (overwritten at bytes seen)
bytes_over at bytes seen fits b s = record {
  each = λ k. ⊎_elim
      (λ lt. subst (λ (x : ℕ). x < 2 ^ 8) (sym (over_front at bytes seen k fits lt)) (s.each k))
      (λ from. ⊎_elim
      (λ to. subst (λ (x : ℕ). x < 2 ^ 8) (sym (over_mid at bytes seen k fits from to)) (b.each (k - at)))
      (λ past. subst (λ (x : ℕ). x < 2 ^ 8) (sym (over_back at bytes seen k fits past)) (s.each k))
      (cases_lt k (at + length bytes)))
      (cases_lt k at);
}

-- a part of a write of n bytes
left_over : (at n : ℕ) (part seen : List ℕ) (file : Durable) → at ≤ length seen → length part ≤ n → Bytes part → Left file seen → Left (begun_write at n file) (overwritten at part seen)
left_over at n part seen file fits short b l = record {
  bytes = to_all _ (bytes_over at part seen fits b (from_all seen l.bytes));
  no_shorter = omega (arith, length_over at part seen fits, l.no_shorter);
  no_longer = omega (arith, length_over at part seen fits, l.no_longer);
  same = λ k lt out. ⊎_elim
      (λ before. over_front at part seen k fits before ∙ l.same k lt (λ cov. out (inr cov)))
      (λ from. ⊎_elim
      (λ to. absurd (out (inl (from, to))))
      (λ past. over_back at part seen k fits (omega arith) ∙ l.same k lt (λ cov. out (inr cov)))
      (cases_lt k (at + n)))
      (cases_lt k at);
}

front_over : (at : ℕ) (part seen : List ℕ) → at ≤ length seen → take at (overwritten at part seen) ≡ take at seen
front_over at part seen fits = grind (arith, common_steps)

back_over : (at n : ℕ) (part seen : List ℕ) → at ≤ length seen → length part ≤ n → drop (at + n) (overwritten at part seen) ≡ drop (at + n) seen
back_over at n part seen fits short = ext_get_or 0 _ _
    (length-drop (at + n) (overwritten at part seen) ∙ longer ∙ sym (length-drop (at + n) seen))
    (λ k lt. get_or-drop (at + n) (overwritten at part seen) k 0 ∙ over_back at part seen (at + n + k) fits (omega arith) ∙ sym (get_or-drop (at + n) seen k 0))
  where
    longer : length (overwritten at part seen) - (at + n) ≡ length seen - (at + n)
    longer = omega (arith, length_over at part seen fits)

pub torn_over : (at n : ℕ) (part seen : List ℕ) → at ≤ length seen → length part ≤ n → Torn at n seen (overwritten at part seen)
torn_over at n part seen fits short = record {
  before = front_over at part seen fits;
  after = back_over at n part seen fits short;
  no_shorter = omega (arith, length_over at part seen fits);
  no_longer = omega (arith, length_over at part seen fits);
}

pub landed_within : (failed : Bool) (bytes : List ℕ) → length (landed failed bytes) ≤ length bytes
landed_within failed bytes = take_within (done failed (length bytes)) bytes

pub landed_all : (bytes : List ℕ) → landed false bytes ≡ bytes
landed_all bytes = take_all (length bytes) bytes (omega arith)

pub done_within : (failed : Bool) (n : ℕ) → done failed n ≤ n
done_within true n = omega arith
done_within false n = omega arith

-- a cut comes to that length or stops on the way
pub cut_above : (len : ℕ) (failed : Bool) (old : ℕ) → len ≤ cut_to len failed old
cut_above len true old = omega arith
cut_above len false old = omega arith

pub cut_below : (len : ℕ) (failed : Bool) (old : ℕ) → len ≤ old → cut_to len failed old ≤ old
cut_below len true old fits = omega arith
cut_below len false old fits = omega arith

length_take : (to : ℕ) (seen : List ℕ) → to ≤ length seen → length (take to seen) ≡ to
length_take to seen fits = grind (arith, common_steps)

left_take : (len to : ℕ) (file : Durable) (seen : List ℕ) → len ≤ to → to ≤ length seen → Left file seen → Left (begun_cut len file) (take to seen)
left_take len to file seen above fits l = record {
  bytes = to_all _ (bytes_take to seen (from_all seen l.bytes));
  no_shorter = omega (arith, length_take to seen fits);
  no_longer = omega (arith, length_take to seen fits, l.no_longer);
  same = λ k lt out. take_same to k seen (omega arith) ∙ l.same k (omega arith) out;
}

take_front : (len to : ℕ) (seen : List ℕ) → len ≤ to → take len (take to seen) ≡ take len seen
take_front len to seen above = grind (arith, common_steps)

pub torn_take : (len to : ℕ) (seen : List ℕ) → len ≤ to → to ≤ length seen → TornCut len seen (take to seen)
torn_take len to seen above fits = record {
  before = take_front len to seen above;
  no_shorter = omega (arith, length_take to seen fits);
  no_longer = omega (arith, length_take to seen fits);
}

settled_left : (seen : List ℕ) → All (λ b. b < 2 ^ 8) seen → Left (settled seen) seen
settled_left seen a = record { bytes = a; no_shorter = omega arith; no_longer = omega arith; same = λ k lt out. refl }

-- the files stay sound
pub sound_at_rest : (seen : List ℕ) → ((k : ℕ) → get_or seen k 0 < 2 ^ 8) → length seen ≤ 2 ^ 62 → IsSoundDisk (at_rest seen)
sound_at_rest seen b small = let l : Left (settled seen) seen = settled_left seen (to_all seen (record { each = b })) in record { new = l; old = l; small = small }

pub sound_put : (at : ℕ) (bytes : List ℕ) (failed : Bool) (d : Disk) → at ≤ length d.seen → at + length bytes ≤ 2 ^ 62 → ((k : ℕ) → get_or bytes k 0 < 2 ^ 8) → IsSoundDisk d → IsSoundDisk (put at bytes failed d)
sound_put at bytes failed d fits small b s = record {
  new = left_over at (length bytes) (landed failed bytes) d.seen d.durable fits (landed_within failed bytes) (bytes_take (done failed (length bytes)) bytes (record { each = b })) s.new;
  old = Left-begun_write at (length bytes) d.durable d.durable.synced s.old;
  small = omega (arith, s.small, small);
}

pub sound_cut : (len : ℕ) (failed : Bool) (d : Disk) → len ≤ length d.seen → IsSoundDisk d → IsSoundDisk (was_cut len failed d)
sound_cut len failed d fits s = record {
  new = left_take len (cut_to len failed (length d.seen)) d.durable d.seen (cut_above len failed (length d.seen)) (cut_below len failed (length d.seen) fits) s.new;
  old = Left-begun_cut len d.durable d.durable.synced s.old;
  small = s.small;
}

pub sound_sync : (failed : Bool) (d : Disk) → IsSoundDisk d → IsSoundDisk (synced failed d)
sound_sync true d s = s
sound_sync false d s = let l : Left (settled d.seen) d.seen = settled_left d.seen s.new.bytes in record { new = l; old = l; small = omega (arith, s.new.no_longer, s.small) }

-- a sync leaves nothing that wasn't possible before
pub synced_less : (failed : Bool) (disk : Disk) → Left disk.durable disk.seen → (left : List ℕ) → Left (synced failed disk).durable left → Left disk.durable left
synced_less true disk now left l = l
synced_less false disk now left l = subst (λ (c : List ℕ). Left disk.durable c) (sym (left_settled disk.seen left l)) now
