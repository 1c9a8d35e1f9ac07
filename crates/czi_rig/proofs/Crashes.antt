-- What a crash inside a call of a rig in memory leaves.
use Rattle.std.proofs.Common.{◌≡◌, ◌⊎◌, inl, inr, ⊎_elim, ℕ, zero, suc, ◌+◌, ◌-◌, ◌<◌, ◌≤◌, ◌^◌, Bool, List, [], ◌∷◌, ◌++◌, length, get_or, take, drop, reverse, replicate, refl, sym, ◌∙◌, ap, subst, arith}
use Rattle.std.specs.Prelude.{All}
use Rattle.std.proofs.lemmas.List.{drop_more, take_more, places, get_or_past, reverse-append}
use Rattle.std.proofs.lemmas.Grind.{common_steps}
use Rattle.std.proofs.lemmas.Bool.{cases_lt}
use Rattle.czi_rig.specs.declared.file.File.{File}
use Rattle.czi_rig.specs.declared.file.File.TheVariants.{Image, Journal}
use Rattle.czi_rig.specs.declared.call.Call.{Call}
use Rattle.czi_rig.specs.declared.call.Call.TheVariants.{Len, Read, Write, Cut, Sync, Say}
use Rattle.czi_rig.specs.declared.call.Pick.{Pick}
use Rattle.czi_rig.specs.declared.log.Event.{Event}
use Rattle.czi_rig.specs.Disk.{Disk, Durable, Left, at_rest}
use Rattle.czi_rig.specs.Replay.{History, LeftSince, disk_at, replay, after_call, after_event, said_after, first_saying, IsSoundDisk}
use Rattle.czi_rig.specs.Laws.{silent}
use Rattle.czi_rig.specs.Crash.{inside_call, inside_event, inside_first, disk_within, disk_inside, IsPainted, IsFill, IsCrash, Picked}
use Rattle.czi_rig.proofs.Effects.{to_all, from_all}
use Rattle.czi_rig.proofs.Pushed.{replay_push}

pub replay_at : (f : File) (disk : Disk) (calls : List Event) (i : ℕ) (e : Event) → i < length calls → e ≡ get_or calls i e → replay f disk (take (i + 1) calls) ≡ after_event f e (replay f disk (take i calls))
replay_at f disk calls i e lt is =
    ap (replay f disk) (take_more calls i e lt ∙ ap (λ (x : Event). take i calls ++ x ∷ []) (sym is)) ∙ replay_push f disk (take i calls) e

inside_sound_by : (f : File) (c : Call) (bytes : List ℕ) (failed : Bool) (disk : Disk) → IsSoundDisk disk → IsSoundDisk (after_call f c bytes failed disk) → IsSoundDisk (inside_call f c bytes failed disk)
inside_sound_by f (Len g) bytes failed disk s a = a
inside_sound_by f (Read g at n) bytes failed disk s a = a
inside_sound_by f (Write g at n) bytes failed disk s a = a
inside_sound_by f (Cut g len) bytes failed disk s a = a
inside_sound_by f (Sync g) bytes failed disk s a = s
inside_sound_by f Say bytes failed disk s a = a

-- inside a call of the log the file is sound
pub inside_sound : (f : File) (bytes : List ℕ) (calls : List Event) (i : ℕ) (e : Event) (disk : Disk) → i < length calls → e ≡ get_or calls i e → ((k : ℕ) → IsSoundDisk (replay f (at_rest bytes) (take k calls)))
    → disk ≡ replay f (at_rest bytes) (take i calls) → IsSoundDisk (inside_event f e disk)
inside_sound f bytes calls i e disk lt is was at = subst (λ (d : Disk). IsSoundDisk (inside_event f e d)) (sym at)
    (inside_sound_by f e.call e.bytes.items e.failed _ (was i) (subst IsSoundDisk (replay_at f (at_rest bytes) calls i e lt is) (was (i + 1))))

pub within_is : (f : File) (bytes : List ℕ) (calls : List Event) (i : ℕ) (e : Event) → i < length calls → e ≡ get_or calls i e → disk_within f bytes calls i ≡ inside_event f e (replay f (at_rest bytes) (take i calls))
within_is f bytes calls i e lt is =
    ap (λ (l : List Event). inside_first f l (replay f (at_rest bytes) (take i calls))) (drop_more calls i e lt) ∙ ap (λ (x : Event). inside_event f x (replay f (at_rest bytes) (take i calls))) (sym is)

-- the ranges painted so far
pub reverse_more : (xs : List (ℕ × ℕ)) (i : ℕ) (d : ℕ × ℕ) → i < length xs → reverse (take (i + 1) xs) ≡ get_or xs i d ∷ reverse (take i xs)
reverse_more xs i d lt = ap reverse (take_more xs i d lt) ∙ reverse-append (take i xs) (get_or xs i d ∷ [])

first_length : (least len byte : ℕ) (synced : List ℕ) → least ≤ length synced → least ≤ len → length (take len (take least synced) ++ replicate (len - length (take least synced)) byte) ≡ len
first_length least len byte synced long le = grind (arith, common_steps)

first_front : (least len byte : ℕ) (synced : List ℕ) (k : ℕ) → least ≤ length synced → least ≤ len → k < least → get_or (take len (take least synced) ++ replicate (len - length (take least synced)) byte) k 0 ≡ get_or synced k 0
first_front least len byte synced k long le lt = grind (arith, places)

first_back : (least len byte : ℕ) (synced : List ℕ) (k : ℕ) → least ≤ length synced → least ≤ len → least ≤ k → k < len → get_or (take len (take least synced) ++ replicate (len - length (take least synced)) byte) k 0 ≡ byte
first_back least len byte synced k long le from lt = grind (arith, places)

pub fill_first : (byte len : ℕ) (file : Durable) (left : List ℕ) → byte < 2 ^ 8 → All (λ b. b < 2 ^ 8) file.synced → file.least ≤ length file.synced → file.least ≤ len
    → left ≡ take len (take file.least file.synced) ++ replicate (len - length (take file.least file.synced)) byte → IsFill byte file [] len left
fill_first byte len file left small all long le is = rw is (record {
  len_is = first_length file.least len byte file.synced long le;
  bytes = λ k. ⊎_elim
      (λ lt. subst (λ (x : ℕ). x < 2 ^ 8) (sym (first_front file.least len byte file.synced k long le lt)) ((from_all file.synced all).each k))
      (λ from. ⊎_elim
      (λ lt. subst (λ (x : ℕ). x < 2 ^ 8) (sym (first_back file.least len byte file.synced k long le from lt)) small)
      (λ past. subst (λ (x : ℕ). x < 2 ^ 8) (sym (get_or_past _ k 0 (omega (arith, first_length file.least len byte file.synced long le, past)))) (omega arith))
      (cases_lt k len))
      (cases_lt k file.least);
  free = λ k lt. ⊎_elim (λ from. first_back file.least len byte file.synced k long le from lt) (λ none. absurd none);
  same = λ k lt out. first_front file.least len byte file.synced k long le lt;
})

pub first_is : (least len n byte : ℕ) (mid synced whole new : List ℕ) → new ≡ take len mid ++ replicate (len - n) byte → n ≡ length mid → mid ≡ take least whole → whole ≡ synced
    → new ≡ take len (take least synced) ++ replicate (len - length (take least synced)) byte
first_is least len n byte mid synced whole new a b c d = rw (a, b, c, d)

pub fill_more : (byte len : ℕ) (file : Durable) (ranges : List (ℕ × ℕ)) (at n : ℕ) (old new : List ℕ) → byte < 2 ^ 8 → IsFill byte file ranges len old → IsPainted at n byte old new → IsFill byte file ((at, n) ∷ ranges) len new
fill_more byte len file ranges at n old new small f p = record {
  len_is = p.len ∙ f.len_is;
  bytes = λ k. ⊎_elim
      (λ before. subst (λ (x : ℕ). x < 2 ^ 8) (sym (p.outside k (inl before))) (f.bytes k))
      (λ from. ⊎_elim
      (λ to. ⊎_elim
      (λ lt. subst (λ (x : ℕ). x < 2 ^ 8) (sym (p.inside k from to lt)) small)
      (λ past. subst (λ (x : ℕ). x < 2 ^ 8) (sym (get_or_past new k 0 (omega (arith, p.len, past)))) (omega arith))
      (cases_lt k (length old)))
      (λ past. subst (λ (x : ℕ). x < 2 ^ 8) (sym (p.outside k (inr past))) (f.bytes k))
      (cases_lt k (at + n)))
      (cases_lt k at);
  free = λ k lt opens. ⊎_elim
      (λ before. p.outside k (inl before) ∙ f.free k lt (⊎_elim (λ from. inl from) (⊎_elim (λ has. absurd (omega (arith, has.0, before))) (λ cov. inr cov)) opens))
      (λ from. ⊎_elim
      (λ to. p.inside k from to (omega (arith, f.len_is, lt)))
      (λ past. p.outside k (inr past) ∙ f.free k lt (⊎_elim (λ from. inl from) (⊎_elim (λ has. absurd (omega (arith, has.1, past))) (λ cov. inr cov)) opens))
      (cases_lt k (at + n)))
      (cases_lt k at);
  same = λ k lt out. ⊎_elim
      (λ before. p.outside k (inl before) ∙ f.same k lt (λ cov. out (inr cov)))
      (λ from. ⊎_elim
      (λ to. absurd (out (inl (from, to))))
      (λ past. p.outside k (inr past) ∙ f.same k lt (λ cov. out (inr cov)))
      (cases_lt k (at + n)))
      (cases_lt k at);
}

-- what a write through a slice leaves of the whole
pub written_back : (len : ℕ) (new items : List ℕ) → length new ≡ length items → length items ≡ len → take len (new ++ drop (length new) items) ≡ new
written_back len new items same is = grind (arith, common_steps)

pub fill_left : (byte len : ℕ) (file : Durable) (left : List ℕ) → IsFill byte file file.written len left → file.least ≤ len → len ≤ file.greatest → Left file left
fill_left byte len file left f low high = record {
  bytes = to_all left (record { each = f.bytes });
  no_shorter = omega (arith, f.len_is);
  no_longer = omega (arith, f.len_is);
  same = f.same;
}

-- a crash inside a call is one of those since it began
record Inside (h : History) (number : ℕ) (k : ℕ) : Type 0 where
  since : number ≤ k
  so_far : k ≤ length h.calls
  image : disk_inside h Image number ≡ disk_at h Image k
  journal : disk_inside h Journal number ≡ disk_at h Journal k

later : (h : History) (number : ℕ) (e : Event) → number < length h.calls → e ≡ get_or h.calls number e
    → ((f : File) (disk : Disk) → inside_event f e disk ≡ after_event f e disk) → Inside h number (number + 1)
later h number e lt is same = record {
  since = omega arith;
  so_far = omega arith;
  image = within_is Image h.image h.calls number e lt is ∙ same Image _ ∙ sym (replay_at Image (at_rest h.image) h.calls number e lt is);
  journal = within_is Journal h.journal h.calls number e lt is ∙ same Journal _ ∙ sym (replay_at Journal (at_rest h.journal) h.calls number e lt is);
}

earlier : (h : History) (number : ℕ) (e : Event) → number < length h.calls → e ≡ get_or h.calls number e
    → ((f : File) (disk : Disk) → inside_event f e disk ≡ disk) → Inside h number number
earlier h number e lt is same = record {
  since = omega arith;
  so_far = omega arith;
  image = within_is Image h.image h.calls number e lt is ∙ same Image _;
  journal = within_is Journal h.journal h.calls number e lt is ∙ same Journal _;
}

same_by : (c : Call) (bytes : List ℕ) (failed : Bool) → ((f : File) (disk : Disk) → inside_call f c bytes failed disk ≡ after_call f c bytes failed disk) ⊎ ((f : File) (disk : Disk) → inside_call f c bytes failed disk ≡ disk)
same_by (Len g) bytes failed = inl (λ f disk. refl)
same_by (Read g at n) bytes failed = inl (λ f disk. refl)
same_by (Write g at n) bytes failed = inl (λ f disk. refl)
same_by (Cut g len) bytes failed = inl (λ f disk. refl)
same_by (Sync g) bytes failed = inr (λ f disk. refl)
same_by Say bytes failed = inl (λ f disk. refl)

left_inside : (h : History) (number k : ℕ) (image journal : List ℕ) → Inside h number k → Left (disk_inside h Image number).durable image → Left (disk_inside h Journal number).durable journal
    → (said : List ℕ) × LeftSince h number image journal said
left_inside h number k image journal in_call i j = (
  said_after [] (take k h.calls),
  record {
    k = k;
    since = in_call.since;
    so_far = in_call.so_far;
    left = silent (first_saying (drop k h.calls)) (record {
      image_is = subst (λ (d : Disk). Left d.durable image) in_call.image i;
      journal_is = subst (λ (d : Disk). Left d.durable journal) in_call.journal j;
      said_is = refl;
    });
  },
)

pub crash_since : (h : History) (number : ℕ) (e : Event) (image journal : List ℕ) → number < length h.calls → e ≡ get_or h.calls number e
    → Left (disk_inside h Image number).durable image → Left (disk_inside h Journal number).durable journal → (said : List ℕ) × LeftSince h number image journal said
crash_since h number e image journal lt is i j = ⊎_elim
    (λ same. left_inside h number (number + 1) image journal (later h number e lt is same) i j)
    (λ same. left_inside h number number image journal (earlier h number e lt is same) i j)
    (same_by e.call e.bytes.items e.failed)

event_at : (calls : List Event) (i : ℕ) → i < length calls → (e : Event) × (e ≡ get_or calls i e)
event_at [] i lt = absurd (omega arith)
event_at (e ∷ calls) zero lt = (e, refl)
event_at (e ∷ calls) (suc i) lt = event_at calls i (omega arith)

pub crash_is : (h : History) (number : ℕ) (pick : Pick) (image journal first_image first_journal : List ℕ) (calls : List Event) → number < length h.calls → first_image ≡ h.image → first_journal ≡ h.journal → calls ≡ h.calls
    → Left (disk_within Image first_image calls number).durable image → Left (disk_within Journal first_journal calls number).durable journal
    → Picked pick (disk_within Image first_image calls number) image → Picked pick (disk_within Journal first_journal calls number) journal → IsCrash h number pick image journal
crash_is h number pick image journal first_image first_journal calls lt i j c li lj pi pj =
    let image_same : disk_within Image first_image calls number ≡ disk_inside h Image number = rw (i, c) in
    let journal_same : disk_within Journal first_journal calls number ≡ disk_inside h Journal number = rw (j, c) in
    let li' : Left (disk_inside h Image number).durable image = subst (λ (d : Disk). Left d.durable image) image_same li in
    let lj' : Left (disk_inside h Journal number).durable journal = subst (λ (d : Disk). Left d.durable journal) journal_same lj in
    let e : (e : Event) × (e ≡ get_or h.calls number e) = event_at h.calls number lt in
    record {
      image_left = li';
      journal_left = lj';
      image_picked = subst (λ (d : Disk). Picked pick d image) image_same pi;
      journal_picked = subst (λ (d : Disk). Picked pick d journal) journal_same pj;
      since = crash_since h number e.0 image journal lt e.1 li' lj';
    }
