-- A void journal is armed.
use Rattle.std.proofs.Common.{◌≡◌, inl, inr, ⊎_elim, ℕ, ◌+◌, ◌<◌, ◌≤◌, Option, None, Some, List, [], ◌∷◌, length, take, drop, get_or, refl, sym, ◌∙◌, ap, subst, arith}
use Rattle.std.specs.Prelude.{option_map, ◌==◌, if◌then◌else◌}
use Rattle.std.proofs.lemmas.Option.{none-some, same_Some}
use Rattle.std.proofs.lemmas.List.{ext_get_or, get_or-take, get_or-drop, length-take-le, length-drop, append-nil}
use Rattle.czi_rig.specs.declared.rig.Rig.{Ghosts}
use Rattle.czi_rig.specs.declared.file.File.TheVariants.{Journal}
use Rattle.czi_rig.specs.Disk.{Disk, Left, IsAtRest, TornFrom, settled, overwritten, begun_write}
use Rattle.czi_rig.specs.State.{Instant}
use Rattle.czi_rig.specs.Moments.{Devices, devices, Leaves, LeavesNow, LeavesWith, Throughout}
use Rattle.czi_rig.proofs.Keeps.{Keeps, WriteKeeps, keeps_begins, write_keeps, overwritten_torn, overwritten_reaches}
use Rattle.czi_rig.proofs.Files.{left_settled, overwritten_at}
use Rattle.czi_rig.proofs.Runs.{weaker}
use Rattle.czi_links.specs.Record.{Record}
use Rattle.czi_links.specs.Reading.{Void, Holds, Spells, read}
use Rattle.czi_links.proofs.Sound.{IsOfSlot}
use Rattle.czi_journal.specs.declared.journal.Slot.TheVariants.{A, B}
use Rattle.czi_journal.specs.Journals.{slot_in, slot_of, behind, CountsWith, IsUnmarked, IsFilled, IsVoidOr}
use Rattle.czi_journal.proofs.Slots.{slot_of_void, slot_of_short, counted_sound, marked_or_not, says_slot}

abbrev pub StillVoid : Devices → Instant
StillVoid all image journal said = Left all.image.durable image × (slot_of journal ≡ Void) × (said ≡ all.said)

rest_durable : (disk : Disk) → IsAtRest disk → disk.durable ≡ settled disk.seen
rest_durable disk rest = ap (λ (d : Disk). d.durable) rest

pub void_unmarked : (j : List ℕ) → 524352 ≤ length j → slot_of j ≡ Void → IsUnmarked j
void_unmarked j long void = record { some = omega (arith, long); mark = λ e. subst IsOfSlot void (counted_sound j (record { long = long; mark = e })) }

-- the first byte of a short journal
pub clear_torn : (all : Devices) → IsAtRest all.journal → length all.journal.seen < 524352 → (image journal said : List ℕ) → Leaves all.image.durable (begun_write 0 1 all.journal.durable) all.said image journal said → StillVoid all image journal said
clear_torn all rest short i j o l =
    let left : Left (begun_write 0 1 (settled all.journal.seen)) j = subst (λ d. Left (begun_write 0 1 d) j) (rest_durable all.journal rest) l.journal_is in
    (l.image_is, slot_of_short j (omega (arith, left.no_longer, short)), l.said_is)

-- all but the first byte
abbrev pub UnmarkedNow : Devices → Instant
UnmarkedNow all image journal said = Left all.image.durable image × (get_or journal 0 0 ≡ 90 → ⊥) × (said ≡ all.said)

pub unmarked_void : (all : Devices) (image journal said : List ℕ) → UnmarkedNow all image journal said → StillVoid all image journal said
unmarked_void all i j o p = (p.0, slot_of_void j p.1, p.2)

pub unmarked_kept : (all : Devices) (at n : ℕ) → 1 ≤ at → WriteKeeps Journal at n (UnmarkedNow all)
unmarked_kept all at n past i o old new p t = (p.0, (λ e. p.1 (sym (t.same 0 (inl (omega (arith, past)))) ∙ e)), p.2)

pub fill_begins : {D : Type 0} (rig : Ghosts D) (first : D) (all : Devices) → devices (rig.state first) ≡ Some all → IsAtRest all.journal → IsUnmarked all.journal.seen → Keeps rig first first all (UnmarkedNow all)
fill_begins rig first all is rest unmarked = keeps_begins rig first all (UnmarkedNow all) is (λ i j o l.
    let e : j ≡ all.journal.seen = left_settled all.journal.seen j (subst (λ d. Left d j) (rest_durable all.journal rest) l.journal_is) in
    (l.image_is, (λ m. unmarked.mark (sym (ap (λ (x : List ℕ). get_or x 0 0) e) ∙ m)), l.said_is))

pub at_64 : (z seen : List ℕ) → IsUnmarked seen → length z ≡ 63 → 64 ≤ length (overwritten 1 z seen)
at_64 z seen unmarked len = omega (arith, overwritten_reaches 1 z seen unmarked.some, len)

pub at_262208 : (z slot seen : List ℕ) → IsUnmarked seen → length z ≡ 63 → length slot ≡ 262144 → 262208 ≤ length (overwritten 64 slot (overwritten 1 z seen))
at_262208 z slot seen unmarked len len_slot = omega (arith, overwritten_reaches 64 slot (overwritten 1 z seen) (at_64 z seen unmarked len), len_slot)

pub filled_is : (z slot seen : List ℕ) → length z ≡ 63 → get_or z 0 0 ≡ 0 → length slot ≡ 262144 → IsUnmarked seen → IsFilled slot (overwritten 262208 slot (overwritten 64 slot (overwritten 1 z seen)))
filled_is z slot seen len zero len_slot unmarked = record {
  long = omega (arith, overwritten_reaches 262208 slot s2 in2, len_slot);
  mark = λ e. unmarked.mark (sym (low 0 (omega arith) ∙ t1.same 0 (inl (omega arith))) ∙ e);
  selected = low 1 (omega arith) ∙ overwritten_at 1 z seen 0 unmarked.some (omega (arith, len)) ∙ zero;
  same = λ k lt. t3.same (64 + k) (inl (omega (arith, lt))) ∙ overwritten_at 64 slot s1 k in1 (omega (arith, lt, len_slot));
}
  where
    s1 : List ℕ
    s1 = overwritten 1 z seen

    s2 : List ℕ
    s2 = overwritten 64 slot (overwritten 1 z seen)

    in1 : 64 ≤ length (overwritten 1 z seen)
    in1 = omega (arith, overwritten_reaches 1 z seen unmarked.some, len)

    in2 : 262208 ≤ length (overwritten 64 slot (overwritten 1 z seen))
    in2 = omega (arith, overwritten_reaches 64 slot (overwritten 1 z seen) in1, len_slot)

    t1 : TornFrom 1 (length z) seen (overwritten 1 z seen)
    t1 = overwritten_torn 1 z seen unmarked.some

    t2 : TornFrom 64 (length slot) (overwritten 1 z seen) (overwritten 64 slot (overwritten 1 z seen))
    t2 = overwritten_torn 64 slot (overwritten 1 z seen) in1

    t3 : TornFrom 262208 (length slot) (overwritten 64 slot (overwritten 1 z seen)) (overwritten 262208 slot (overwritten 64 slot (overwritten 1 z seen)))
    t3 = overwritten_torn 262208 slot (overwritten 64 slot (overwritten 1 z seen)) in2

    low : (k : ℕ) → k < 64 → get_or (overwritten 262208 slot (overwritten 64 slot (overwritten 1 z seen))) k 0 ≡ get_or (overwritten 1 z seen) k 0
    low k lt = t3.same k (inl (omega (arith, lt))) ∙ t2.same k (inl lt)

-- where a list came from
pub record From (before : Option (List ℕ)) (h : List ℕ → List ℕ) (now : List ℕ) : Type 0 where
  pub old : List ℕ
  pub was : before ≡ Some old
  pub is : now ≡ h old

pub from_map : (before after : Option (List ℕ)) (h : List ℕ → List ℕ) (now : List ℕ) → after ≡ option_map h before → after ≡ Some now → From before h now
from_map None after h now e is = absurd (none-some now (sym e ∙ is))
from_map (Some old) after h now e is = record { old = old; was = refl; is = same_Some now (h old) (sym is ∙ e) }

-- the first byte is written
record Marking (slot journal : List ℕ) : Type 0 where
  long : 524352 ≤ length journal
  selected : get_or journal 1 0 ≡ 0
  same : (k : ℕ) → k < 262144 → get_or journal (64 + k) 0 ≡ get_or slot k 0

marking_torn : (slot old new : List ℕ) → Marking slot old → TornFrom 0 1 old new → Marking slot new
marking_torn slot old new m t = record {
  long = omega (arith, m.long, t.no_shorter);
  selected = t.same 1 (inr (omega arith)) ∙ m.selected;
  same = λ k lt. t.same (64 + k) (inr (omega arith)) ∙ m.same k lt;
}

marking_slot : (slot journal : List ℕ) → length slot ≡ 262144 → Marking slot journal → take 262144 (drop 64 journal) ≡ slot
marking_slot slot j len m = whole 64 262144 (omega (arith, m.long)) len (λ k lt. m.same k lt)
  where
    whole : (p n : ℕ) → p + n ≤ length j → length slot ≡ n → ((k : ℕ) → k < n → get_or j (p + k) 0 ≡ get_or slot k 0) → take n (drop p j) ≡ slot
    whole p n fits e same =
        let a : length (take n (drop p j)) ≡ n = length-take-le n (drop p j) (omega (arith, fits, length-drop p j)) in
        ext_get_or 0 (take n (drop p j)) slot (a ∙ sym e) (λ k lt. get_or-take n (drop p j) k 0 (omega (arith, lt, a)) ∙ get_or-drop p j k 0 ∙ same k (omega (arith, lt, a)))

marking_counts : (slot journal : List ℕ) → Marking slot journal → get_or journal 0 0 ≡ 90 → CountsWith A journal
marking_counts slot j m e = record { counts = record { long = m.long; mark = e }; selected = ap (λ (x : ℕ). if x == 1 then B else A) m.selected }

marking_says : (r : Record) (slot journal : List ℕ) → length slot ≡ 262144 → Spells r slot → Marking slot journal → get_or journal 0 0 ≡ 90 → slot_of journal ≡ Holds r
unfolding slot_in
marking_says r slot j len spells m e = says_slot A j (marking_counts slot j m e) ∙ ap (λ (x : List ℕ). behind 64 (read x)) (marking_slot slot j len m)
    ∙ ap (λ (x : List ℕ). behind 64 (read x)) (sym (append-nil slot)) ∙ ap (behind 64) (spells.again [])

marking_void_or : (r : Record) (slot journal : List ℕ) → length slot ≡ 262144 → Spells r slot → Marking slot journal → IsVoidOr r journal
marking_void_or r slot j len spells m = ⊎_elim (λ e. inr (marking_says r slot j len spells m e)) (λ not. inl (slot_of_void j not)) (marked_or_not j)

abbrev pub VoidOrNow : Record → Devices → Instant
VoidOrNow r all image journal said = Left all.image.durable image × IsVoidOr r journal × (said ≡ all.said)

pub void_then : (r : Record) (all : Devices) (image journal said : List ℕ) → StillVoid all image journal said → VoidOrNow r all image journal said
void_then r all i j o p = (p.0, inl p.1, p.2)

abbrev MarkingNow : List ℕ → Devices → Instant
MarkingNow slot all image journal said = Left all.image.durable image × Marking slot journal × (said ≡ all.said)

marking_of : (slot journal : List ℕ) → IsFilled slot journal → Marking slot journal
marking_of slot j f = record { long = f.long; selected = f.selected; same = f.same }

pub mark_moments : {D : Type 0} (rig : Ghosts D) (old new : D) (r : Record) (slot : List ℕ) (all : Devices) → devices (rig.state old) ≡ Some all → IsAtRest all.journal → IsFilled slot all.journal.seen → length slot ≡ 262144 → Spells r slot
    → Left all.journal.durable all.journal.seen → Throughout rig old new (LeavesWith all Journal (begun_write 0 1 all.journal.durable)) → Throughout rig old new (VoidOrNow r all)
mark_moments rig old new r slot all is rest filled len spells reads moments = weaker rig (λ i j o p. (p.0, marking_void_or r slot j len spells p.1, p.2))
    (write_keeps rig Journal (keeps_begins rig old all (MarkingNow slot all) is here) reads 0 1 (omega arith) keeps moments)
  where
    here : (image journal said : List ℕ) → LeavesNow all image journal said → MarkingNow slot all image journal said
    here i j o l = (l.image_is, subst (Marking slot) (sym (left_settled all.journal.seen j (subst (λ d. Left d j) (rest_durable all.journal rest) l.journal_is))) (marking_of slot all.journal.seen filled), l.said_is)

    keeps : WriteKeeps Journal 0 1 (MarkingNow slot all)
    keeps i o a b p t = (p.0, marking_torn slot a b p.1 t, p.2)

module _ (slot seen : List ℕ) (f : IsFilled slot seen) where
  marked_now : Marking slot (overwritten 0 (90 ∷ []) seen)
  marked_now = marking_torn slot seen (overwritten 0 (90 ∷ []) seen) (marking_of slot seen f) (overwritten_torn 0 (90 ∷ []) seen (omega arith))

  mark_is : get_or (overwritten 0 (90 ∷ []) seen) 0 0 ≡ 90
  mark_is = overwritten_at 0 (90 ∷ []) seen 0 (omega arith) (omega arith)

  pub armed_counts : CountsWith A (overwritten 0 (90 ∷ []) seen)
  armed_counts = marking_counts slot (overwritten 0 (90 ∷ []) seen) marked_now mark_is

  pub armed_says : (r : Record) → length slot ≡ 262144 → Spells r slot → slot_of (overwritten 0 (90 ∷ []) seen) ≡ Holds r
  armed_says r len spells = marking_says r slot (overwritten 0 (90 ∷ []) seen) len spells marked_now mark_is
