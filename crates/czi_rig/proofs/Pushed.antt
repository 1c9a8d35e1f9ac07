-- What one call more makes of a rig in memory.
use Rattle.std.proofs.Common.{◌≡◌, ◌⊎◌, inl, inr, ⊎_elim, ℕ, zero, suc, ◌<◌, ◌≤◌, List, [], ◌∷◌, ◌++◌, length, take, drop, refl, sym, ◌∙◌, ap, subst, arith}
use Rattle.std.proofs.lemmas.List.{take_all, take-append-le, length_push}
use Rattle.std.proofs.lemmas.Bool.{cases_lt}
use Rattle.czi_rig.specs.declared.file.File.{File}
use Rattle.czi_rig.specs.declared.file.File.TheVariants.{Image, Journal}
use Rattle.czi_rig.specs.declared.log.Event.{Event}
use Rattle.czi_rig.specs.Disk.{Disk, at_rest}
use Rattle.czi_rig.specs.State.{Instant}
use Rattle.czi_rig.specs.Passes.{Passes}
use Rattle.czi_rig.specs.Moments.{Leaves}
use Rattle.czi_rig.specs.Replay.{History, Faults, state_of, push, LeftSaying, LeftAt, LeftSince, disk_at, disk_now, said_now, said_after, first_saying, saying, landed, replay, after_event, IsSoundDisk}
use Rattle.czi_rig.specs.Laws.{silent, leaves_from_left_at_end}

pub replay_push : (f : File) (disk : Disk) (calls : List Event) (e : Event) → replay f disk (calls ++ e ∷ []) ≡ after_event f e (replay f disk calls)
replay_push f disk [] e = refl
replay_push f disk (c ∷ calls) e = replay_push f (after_event f c disk) calls e

pub said_push : (said : List ℕ) (calls : List Event) (e : Event) → said_after said (calls ++ e ∷ []) ≡ said_after said calls ++ landed e.failed (saying e.call e.bytes.items)
said_push said [] e = refl
said_push said (c ∷ calls) e = said_push (said ++ landed c.failed (saying c.call c.bytes.items)) calls e

pub disk_push : (h : History) (e : Event) (f : File) → disk_now (push h e) f ≡ after_event f e (disk_now h f)
disk_push h e Image = replay_push Image (at_rest h.image) h.calls e
disk_push h e Journal = replay_push Journal (at_rest h.journal) h.calls e

-- a file at an earlier moment, and at the last one
disk_before : (h : History) (e : Event) (f : File) (k : ℕ) → k ≤ length h.calls → disk_at (push h e) f k ≡ disk_at h f k
disk_before h e Image k le = ap (replay Image (at_rest h.image)) (take-append-le k h.calls (e ∷ []) le)
disk_before h e Journal k le = ap (replay Journal (at_rest h.journal)) (take-append-le k h.calls (e ∷ []) le)

disk_after : (h : History) (e : Event) (f : File) (k : ℕ) → length h.calls < k → disk_at (push h e) f k ≡ disk_now (push h e) f
disk_after h e Image k lt = ap (replay Image (at_rest h.image)) (take_all k (h.calls ++ e ∷ []) (omega (arith, length_push h.calls e)))
disk_after h e Journal k lt = ap (replay Journal (at_rest h.journal)) (take_all k (h.calls ++ e ∷ []) (omega (arith, length_push h.calls e)))

-- sound at each moment so far, and at one more
pub sound_push : (h : History) (e : Event) (f : File) (k : ℕ) → ((k : ℕ) → IsSoundDisk (disk_at h f k)) → IsSoundDisk (disk_now (push h e) f) → IsSoundDisk (disk_at (push h e) f k)
sound_push h e f k was now = ⊎_elim
    (λ past. subst IsSoundDisk (sym (disk_after h e f k past)) now)
    (λ le. subst IsSoundDisk (sym (disk_before h e f k le)) (was k))
    (cases_lt (length h.calls) k)

-- an earlier moment
saying_push : (calls : List Event) (e : Event) (k : ℕ) → k < length calls → first_saying (drop k (calls ++ e ∷ [])) ≡ first_saying (drop k calls)
saying_push [] e k lt = absurd (omega arith)
saying_push (c ∷ calls) e zero lt = refl
saying_push (c ∷ calls) e (suc k) lt = saying_push calls e k (omega arith)

-- the last moment before the call
saying_last : (calls : List Event) (e : Event) → first_saying (drop (length calls) (calls ++ e ∷ [])) ≡ saying e.call e.bytes.items
saying_last [] e = refl
saying_last (c ∷ calls) e = saying_last calls e

same_moment : (h : History) (e : Event) (k : ℕ) (image journal said : List ℕ) → k < length h.calls → LeftAt (push h e) k image journal said ≡ LeftAt h k image journal said
same_moment h e k image journal said lt =
    let t : take k (h.calls ++ e ∷ []) ≡ take k h.calls = take-append-le k h.calls (e ∷ []) (omega arith) in
    let s : first_saying (drop k (h.calls ++ e ∷ [])) ≡ first_saying (drop k h.calls) = saying_push h.calls e k lt in
    ap (λ (calls : List Event). LeftSaying (replay Image (at_rest h.image) calls).durable (replay Journal (at_rest h.journal) calls).durable (said_after [] calls) (first_saying (drop k (h.calls ++ e ∷ []))) image journal said) t
    ∙ ap (λ (next : List ℕ). LeftSaying (disk_at h Image k).durable (disk_at h Journal k).durable (said_after [] (take k h.calls)) next image journal said) s

last_moment : (h : History) (e : Event) (image journal said : List ℕ)
    → LeftAt (push h e) (length h.calls) image journal said ≡ LeftSaying (disk_now h Image).durable (disk_now h Journal).durable (said_now h) (saying e.call e.bytes.items) image journal said
last_moment h e image journal said =
    let t : take (length h.calls) (h.calls ++ e ∷ []) ≡ h.calls = take-append-le (length h.calls) h.calls (e ∷ []) (omega arith) ∙ take_all (length h.calls) h.calls (omega arith) in
    let s : first_saying (drop (length h.calls) (h.calls ++ e ∷ [])) ≡ saying e.call e.bytes.items = saying_last h.calls e in
    ap (λ (calls : List Event). LeftSaying (replay Image (at_rest h.image) calls).durable (replay Journal (at_rest h.journal) calls).durable (said_after [] calls) (first_saying (drop (length h.calls) (h.calls ++ e ∷ []))) image journal said) t
    ∙ ap (λ (next : List ℕ). LeftSaying (disk_now h Image).durable (disk_now h Journal).durable (said_now h) next image journal said) s

cast : {A B : Type 0} → A ≡ B → A → B
cast e a = subst (λ (X : Type 0). X) e a

left_keeps : (h : History) (e : Event) (k : ℕ) (image journal said : List ℕ) → k ≤ length h.calls → LeftAt h k image journal said → LeftAt (push h e) k image journal said
left_keeps h e k image journal said le l = ⊎_elim
    (λ lt. cast (sym (same_moment h e k image journal said lt)) l)
    (λ past. let end : k ≡ length h.calls = omega arith in
    let at_end : LeftAt h (length h.calls) image journal said = subst (λ (k : ℕ). LeftAt h k image journal said) end l in
    subst (λ (k : ℕ). LeftAt (push h e) k image journal said) (sym end)
    (cast (sym (last_moment h e image journal said)) (silent (saying e.call e.bytes.items) (leaves_from_left_at_end h image journal said at_end))))
    (cases_lt k (length h.calls))

-- no count is lower
pub record NoFewer (old new : Faults) : Type 0 where
  pub image : old.image ≤ new.image
  pub journal : old.journal ≤ new.journal
  pub output : old.output ≤ new.output

-- a call that found no memory
pub passes_same : (h : History) (old new : Faults) (within : Instant) → NoFewer old new → Passes (state_of h old) (state_of h new) (LeftSince h) (LeftSince h) within
passes_same h old new within n = record {
  goes_on = record {
    honest = refl;
    tells_image = refl;
    tells_journal = refl;
    tells_said = refl;
    image_faults = n.image;
    journal_faults = n.journal;
    output_faults = n.output;
    later = omega arith;
  };
  keeps = λ t i j o le l. l;
  adds = λ t i j o honest le l. inl l;
}

since_end : (h : History) (t : ℕ) (image journal said : List ℕ) → t ≤ length h.calls → LeftAt h (length h.calls) image journal said → LeftSince h t image journal said
since_end h t image journal said le l = record { k = length h.calls; since = le; so_far = omega arith; left = l }

-- one that was made: what a crash inside it, and after it, leaves
pub passes_push : (h : History) (e : Event) (old new : Faults) (within : Instant) → NoFewer old new
    → ((image journal said : List ℕ) → LeftSaying (disk_now h Image).durable (disk_now h Journal).durable (said_now h) (saying e.call e.bytes.items) image journal said
    → LeftAt h (length h.calls) image journal said ⊎ within image journal said)
    → ((image journal said : List ℕ) → Leaves (disk_now (push h e) Image).durable (disk_now (push h e) Journal).durable (said_now (push h e)) image journal said → within image journal said)
    → Passes (state_of h old) (state_of (push h e) new) (LeftSince h) (LeftSince (push h e)) within
passes_push h e old new within n inside after = record {
  goes_on = record {
    honest = refl;
    tells_image = refl;
    tells_journal = refl;
    tells_said = refl;
    image_faults = n.image;
    journal_faults = n.journal;
    output_faults = n.output;
    later = omega (arith, length_push h.calls e);
  };
  keeps = λ t i j o le l. record { k = l.k; since = l.since; so_far = omega (arith, length_push h.calls e, l.so_far); left = left_keeps h e l.k i j o l.so_far l.left };
  adds = λ t i j o honest le l. adds t i j o le l (cases_lt l.k (length h.calls)) (cases_lt (length h.calls) l.k);
}
  where
    adds : (t : ℕ) (image journal said : List ℕ) → t ≤ length h.calls → (l : LeftSince (push h e) t image journal said) → (l.k < length h.calls) ⊎ (length h.calls ≤ l.k) → (length h.calls < l.k) ⊎ (l.k ≤ length h.calls)
        → LeftSince h t image journal said ⊎ within image journal said
    adds t i j o le l (inl lt) w = inl (record { k = l.k; since = l.since; so_far = omega arith; left = cast (same_moment h e l.k i j o lt) l.left })
    adds t i j o le l (inr past) (inr here) =
        let end : l.k ≡ length h.calls = omega arith in
        let at_end : LeftAt (push h e) (length h.calls) i j o = subst (λ (k : ℕ). LeftAt (push h e) k i j o) end l.left in
        ⊎_elim (λ b. inl (since_end h t i j o le b)) (λ w. inr w) (inside i j o (cast (last_moment h e i j o) at_end))
    adds t i j o le l (inr past) (inl beyond) =
        let end : l.k ≡ length (h.calls ++ e ∷ []) = omega (arith, length_push h.calls e, l.so_far) in
        inr (after i j o (leaves_from_left_at_end (push h e) i j o (subst (λ (k : ℕ). LeftAt (push h e) k i j o) end l.left)))
