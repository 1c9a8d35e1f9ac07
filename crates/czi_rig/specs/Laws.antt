-- The laws of a device hold of a rig in memory.
use Rattle.std.specs.Prelude.{◌≡◌, ℕ, zero, suc, ◌≤◌, List, [], ◌++◌, length, take, drop, refl}
use Rattle.std.proofs.Common.{sym, ◌∙◌, ap, subst, zero-le}
use Rattle.std.proofs.Math.Nat.{le_refl, le_antisymm}
use Rattle.std.specs.Option.{ForSome}
use Rattle.std.proofs.lemmas.Option.{same_Some}
use Rattle.std.proofs.lemmas.List.{take_all, drop_all, append-nil}
use Rattle.czi_rig.specs.declared.file.File.{File}
use Rattle.czi_rig.specs.declared.file.File.TheVariants.{Image, Journal}
use Rattle.czi_rig.specs.declared.log.Event.{Event}
use Rattle.czi_rig.specs.Disk.{Disk, Durable, Left, at_rest}
use Rattle.czi_rig.specs.State.{MayLeave, known}
use Rattle.czi_rig.specs.Moments.{Leaves}
use Rattle.czi_rig.specs.Replay.{History, Faults, state_of, LeftSaying, LeftAt, LeftSince, disk_at, disk_now, said_now, said_after, first_saying, first_of, replay, IsSoundDisk, IsKept}

-- a crash now, in a rig's own words and in these
pub leaves_from_may_leave : (h : History) (faults : Faults) (image journal said : List ℕ) → MayLeave (state_of h faults) image journal said
    → Leaves (disk_now h Image).durable (disk_now h Journal).durable (said_now h) image journal said
leaves_from_may_leave h faults image journal said m = record {
  image_is = m.of_image (disk_now h Image).durable refl;
  journal_is = m.of_journal (disk_now h Journal).durable refl;
  said_is = m.was_said (said_now h) refl;
}

pub may_leave_from_leaves : (h : History) (faults : Faults) (image journal said : List ℕ)
    → Leaves (disk_now h Image).durable (disk_now h Journal).durable (said_now h) image journal said → MayLeave (state_of h faults) image journal said
may_leave_from_leaves h faults image journal said l = record {
  of_image = λ (d : Durable) is. subst (λ (d : Durable). Left d image) (same_Some _ d is) l.image_is;
  of_journal = λ (d : Durable) is. subst (λ (d : Durable). Left d journal) (same_Some _ d is) l.journal_is;
  was_said = λ (s : List ℕ) is. l.said_is ∙ same_Some _ s is;
}

-- none of the bytes
pub silent : {of_image of_journal : Durable} {before image journal said : List ℕ} (next : List ℕ) → Leaves of_image of_journal before image journal said → LeftSaying of_image of_journal before next image journal said
silent {before = before} next l = record {
  n = 0;
  in_bytes = zero-le;
  leaves = record { image_is = l.image_is; journal_is = l.journal_is; said_is = l.said_is ∙ sym (append-nil before) };
}

take_none : (n : ℕ) → take n (let none : List ℕ = [] in none) ≡ []
take_none zero = refl
take_none (suc n) = refl

-- where there are none
pub unspoken : {of_image of_journal : Durable} {before image journal said : List ℕ} → LeftSaying of_image of_journal before [] image journal said → Leaves of_image of_journal before image journal said
unspoken {before = before} l = record {
  image_is = l.leaves.image_is;
  journal_is = l.leaves.journal_is;
  said_is = l.leaves.said_is ∙ ap (λ (s : List ℕ). before ++ s) (take_none l.n) ∙ append-nil before;
}

-- after all of the calls
pub leaves_from_left_at_end : (h : History) (image journal said : List ℕ) → LeftAt h (length h.calls) image journal said
    → Leaves (disk_now h Image).durable (disk_now h Journal).durable (said_now h) image journal said
leaves_from_left_at_end h image journal said l =
    let all : take (length h.calls) h.calls ≡ h.calls = take_all (length h.calls) h.calls (le_refl (length h.calls)) in
    let none : drop (length h.calls) h.calls ≡ [] = drop_all (length h.calls) h.calls (le_refl (length h.calls)) in
    let l' : LeftSaying (disk_now h Image).durable (disk_now h Journal).durable (said_now h) [] image journal said = subst (λ (calls : List Event). LeftSaying (replay Image (at_rest h.image) calls).durable (replay Journal (at_rest h.journal) calls).durable (said_after [] calls) [] image journal said) all
    (subst (λ (next : List Event). LeftSaying (disk_at h Image (length h.calls)).durable (disk_at h Journal (length h.calls)).durable (said_after [] (take (length h.calls) h.calls)) (first_saying next) image journal said) none l) in
    unspoken l'

pub left_at_end_from_leaves : (h : History) (image journal said : List ℕ)
    → Leaves (disk_now h Image).durable (disk_now h Journal).durable (said_now h) image journal said → LeftAt h (length h.calls) image journal said
left_at_end_from_leaves h image journal said l =
    let all : take (length h.calls) h.calls ≡ h.calls = take_all (length h.calls) h.calls (le_refl (length h.calls)) in
    subst (λ (calls : List Event). LeftSaying (replay Image (at_rest h.image) calls).durable (replay Journal (at_rest h.journal) calls).durable (said_after [] calls) (first_saying (drop (length h.calls) h.calls)) image journal said)
    (sym all) (silent _ l)

pub counts_now_of : (h : History) (faults : Faults) (t : ℕ) (image journal said : List ℕ) → t ≤ length h.calls → MayLeave (state_of h faults) image journal said → LeftSince h t image journal said
counts_now_of h faults t image journal said le m = record {
  k = length h.calls;
  since = le;
  so_far = le_refl (length h.calls);
  left = left_at_end_from_leaves h image journal said (leaves_from_may_leave h faults image journal said m);
}

pub only_now_of : (h : History) (faults : Faults) (image journal said : List ℕ) → LeftSince h (length h.calls) image journal said → MayLeave (state_of h faults) image journal said
only_now_of h faults image journal said l =
    let end : l.k ≡ length h.calls = le_antisymm l.so_far l.since in
    may_leave_from_leaves h faults image journal said (leaves_from_left_at_end h image journal said (subst (λ (k : ℕ). LeftAt h k image journal said) end l.left))

-- a file that was sound at each moment is so now
pub sound_now : (h : History) (f : File) → ((k : ℕ) → IsSoundDisk (disk_at h f k)) → IsSoundDisk (disk_now h f)
sound_now h f was = subst (λ (calls : List Event). IsSoundDisk (replay f (at_rest (first_of h f)) calls)) (take_all (length h.calls) h.calls (le_refl (length h.calls))) (was (length h.calls))

pub reads_now_of : (h : History) (faults : Faults) (f : File) {image journal said : List ℕ} → IsKept h image journal said → ForSome (known (state_of h faults) f) (λ (disk : Disk). Left disk.durable disk.seen)
reads_now_of h faults Image k = λ (disk : Disk) is. subst (λ (d : Disk). Left d.durable d.seen) (same_Some _ disk is) (sound_now h Image (k.sound Image)).new
reads_now_of h faults Journal k = λ (disk : Disk) is. subst (λ (d : Disk). Left d.durable d.seen) (same_Some _ disk is) (sound_now h Journal (k.sound Journal)).new
