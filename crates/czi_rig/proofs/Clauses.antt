-- The clauses of a device, of each call of a rig in memory.
use Rattle.std.proofs.Common.{◌≡◌, ◌⊎◌, inl, inr, ⊎_elim, ℕ, ◌+◌, ◌<◌, ◌≤◌, ◌^◌, Bool, true, false, Some, Ok, Err, Result, List, [], ◌++◌, length, get_or, take, drop, refl, sym, ◌∙◌, ap, subst, arith}
use Rattle.std.specs.Prelude.{is_err, option_map, OnOk, OnErr, IfOk}
use Rattle.std.specs.Option.{ForSome}
use Rattle.std.proofs.lemmas.Bool.{false≢true}
use Rattle.std.proofs.lemmas.Option.{same_Some}
use Rattle.std.proofs.lemmas.List.{append-nil}
use Rattle.std.proofs.Math.Seq.{take-nil}
use Rattle.czi_rig.specs.declared.file.File.{File}
use Rattle.czi_rig.specs.declared.file.File.TheVariants.{Image, Journal}
use Rattle.czi_rig.specs.declared.file.Failed.{Failed}
use Rattle.czi_rig.specs.declared.call.Call.{Call}
use Rattle.czi_rig.specs.declared.call.Call.TheVariants.{Write, Cut, Sync, Say}
use Rattle.czi_rig.specs.declared.log.Event.{Event}
use Rattle.czi_rig.specs.Disk.{Disk, Durable, Left, Torn, TornCut, begun_write, begun_cut, overwritten, settled, at_rest}
use Rattle.czi_rig.specs.State.{State, Instant, known, seen_of, durable_of, MayLeave, MayLeaveSaying, LeavesOther, SameAll, SameFiles, Becomes, MayHaveBegun, SaysSome}
use Rattle.czi_rig.specs.Passes.{Passes}
use Rattle.czi_rig.specs.Faults.{Faults as FaultsAt, device_of, failed_at}
use Rattle.czi_rig.specs.Moments.{Leaves}
use Rattle.czi_rig.specs.Told.{Told}
use Rattle.czi_rig.specs.Replay.{History, Faults, state_of, LeftSaying, LeftSince, disk_at, disk_now, said_now, saying, done, landed, cut_to, put, was_cut, synced, replay, IsSoundDisk, IsKept}
use Rattle.czi_rig.specs.Laws.{sound_now}
use Rattle.czi_rig.proofs.Effects.{sound_at_rest, torn_over, torn_take, landed_within, landed_all, done_within, cut_above, cut_below, sound_put, sound_cut, sound_sync, synced_less}
use Rattle.czi_rig.proofs.Pushed.{passes_same, passes_push}
use Rattle.czi_rig.proofs.Steps.{Step, FileStep, Came, On, came, known_is, seen_is, durable_is, on_write, on_cut, on_sync, leaves_other, passes_begun, passes_less, disk_added, said_added, sound_added}

becomes : (h g : History) (a b : Faults) (f : File) (R : List ℕ → List ℕ → Type 0) → R (disk_now h f).seen (disk_now g f).seen → Becomes R (seen_of (state_of h a) f) (seen_of (state_of g b) f)
becomes h g a b f R r = λ old is. ((disk_now g f).seen, seen_is g b f, subst (λ (s : List ℕ). R s (disk_now g f).seen) (same_Some _ old (sym (seen_is h a f) ∙ is)) r)

-- a write or a cut, by what it makes of the file
pub record Begins (f : File) (step : Durable → Durable) (seen : List ℕ → List ℕ) (tears : List ℕ → List ℕ → Type 0) (result : Result (Unit {0}) Failed) (s t : State) (before since : ℕ → Instant) : Type 0 where
  pub written : OnOk result (seen_of t f ≡ option_map seen (seen_of s f))
  pub torn : OnErr result (Becomes tears (seen_of s f) (seen_of t f))
  pub begun : OnOk result (durable_of t f ≡ option_map step (durable_of s f))
  pub failed : OnErr result (MayHaveBegun step (known s f) (known t f))
  pub other : LeavesOther f s t
  pub cause : FaultsAt (failed_at result (device_of f)) s t
  pub time : Passes s t before since (MayLeave t)

begins : (f : File) (call : Call) (bytes : List ℕ) (result : Result (Unit {0}) Failed) (old new : History) (a b : Faults) (t u : Told) (now : List ℕ) (make : List ℕ → List ℕ) (made : Disk)
    (step : Durable → Durable) (seen : List ℕ → List ℕ) (torn : List ℕ → List ℕ → Type 0) → saying call bytes ≡ []
    → FileStep f call bytes (is_err result) old new a b t u now make → Came f (is_err result) old new now made
    → made.durable ≡ step (disk_now old f).durable → (is_err result ≡ false → made.seen ≡ seen (disk_now old f).seen) → torn (disk_now old f).seen (disk_now old f).seen → torn (disk_now old f).seen made.seen
    → Begins f step seen torn result (state_of old a) (state_of new b) (LeftSince old) (LeftSince new)
begins f call bytes result old new a b t u now make made step seen torn none s c durable whole same_torn made_torn = record {
  written = written result c.here whole;
  torn = torn_of result c.here;
  begun = begun result c.here;
  failed = failed result c.here;
  other = leaves_other f (is_err result) old new a b now made c;
  cause = s.counts;
  time = passes_begun f call bytes (is_err result) old new a b t u now make none s;
}
  where
    begun_of : disk_now new f ≡ made → durable_of (state_of new b) f ≡ option_map step (durable_of (state_of old a) f)
    begun_of m = durable_is new b f ∙ ap Some (ap (λ (d : Disk). d.durable) m ∙ durable) ∙ sym (ap (option_map step) (durable_is old a f))

    written : (r : Result (Unit {0}) Failed) → ((is_err r ≡ true) × (disk_now new f ≡ disk_now old f)) ⊎ (disk_now new f ≡ made) → (is_err r ≡ false → made.seen ≡ seen (disk_now old f).seen)
        → OnOk r (seen_of (state_of new b) f ≡ option_map seen (seen_of (state_of old a) f))
    written (Ok u) (inl w) h = absurd (false≢true w.0)
    written (Ok u) (inr m) h = seen_is new b f ∙ ap Some (ap (λ (d : Disk). d.seen) m ∙ h refl) ∙ sym (ap (option_map seen) (seen_is old a f))
    written (Err e) w h = _

    torn_of : (r : Result (Unit {0}) Failed) → ((is_err r ≡ true) × (disk_now new f ≡ disk_now old f)) ⊎ (disk_now new f ≡ made) → OnErr r (Becomes torn (seen_of (state_of old a) f) (seen_of (state_of new b) f))
    torn_of (Ok u) w = _
    torn_of (Err e) (inl w) = becomes old new a b f torn (subst (λ (d : Disk). torn (disk_now old f).seen d.seen) (sym w.1) same_torn)
    torn_of (Err e) (inr m) = becomes old new a b f torn (subst (λ (d : Disk). torn (disk_now old f).seen d.seen) (sym m) made_torn)

    begun : (r : Result (Unit {0}) Failed) → ((is_err r ≡ true) × (disk_now new f ≡ disk_now old f)) ⊎ (disk_now new f ≡ made) → OnOk r (durable_of (state_of new b) f ≡ option_map step (durable_of (state_of old a) f))
    begun (Ok u) (inl w) = absurd (false≢true w.0)
    begun (Ok u) (inr m) = begun_of m
    begun (Err e) w = _

    failed : (r : Result (Unit {0}) Failed) → ((is_err r ≡ true) × (disk_now new f ≡ disk_now old f)) ⊎ (disk_now new f ≡ made) → OnErr r (MayHaveBegun step (known (state_of old a) f) (known (state_of new b) f))
    failed (Ok u) w = _
    failed (Err e) (inl w) = inr (known_is new b f ∙ ap Some w.1 ∙ sym (known_is old a f))
    failed (Err e) (inr m) = inl (begun_of m)

-- `write_at`
pub record Writes (f : File) (at : ℕ) (bytes : List ℕ) (result : Result (Unit {0}) Failed) (old new : History) (a b : Faults) (now : List ℕ) : Type 0 where
  pub came : Came f (is_err result) old new now (put at bytes (is_err result) (disk_now old f))
  pub begins : Begins f (begun_write at (length bytes)) (overwritten at bytes) (Torn at (length bytes)) result (state_of old a) (state_of new b) (LeftSince old) (LeftSince new)

pub writes : (f : File) (at : ℕ) (bytes : List ℕ) (result : Result (Unit {0}) Failed) (old new : History) (a b : Faults) (t u : Told) (now : List ℕ) {image journal said : List ℕ} → IsKept old image journal said
    → ForSome (seen_of (state_of old a) f) (λ (seen : List ℕ). at ≤ length seen) → at + length bytes ≤ 2 ^ 62 → ((k : ℕ) → get_or bytes k 0 < 2 ^ 8)
    → FileStep f (Write f at (length bytes)) bytes (is_err result) old new a b t u now (overwritten at (landed (is_err result) bytes)) → Writes f at bytes result old new a b now
writes f at bytes result old new a b t u now k within small b8 s =
    let fits : at ≤ length (disk_now old f).seen = within _ (seen_is old a f) in
    let c : Came f (is_err result) old new now (put at bytes (is_err result) (disk_now old f)) = came f _ bytes (is_err result) old new a b t u now _ _ s (on_write f at (length bytes) bytes (is_err result) (disk_now old f)) refl
    (sound_put at bytes (is_err result) (disk_now old f) fits small b8 (sound_now old f (k.sound f))) k.sound in
    record {
      came = c;
      begins = begins f _ bytes result old new a b t u now _ _ (begun_write at (length bytes)) (overwritten at bytes) (Torn at (length bytes)) refl s c refl
          (λ ok. ap (λ (l : List ℕ). overwritten at l (disk_now old f).seen) (ap (λ (x : Bool). landed x bytes) ok ∙ landed_all bytes))
          (record { before = refl; after = refl; no_shorter = omega arith; no_longer = omega arith })
          (torn_over at (length bytes) (landed (is_err result) bytes) (disk_now old f).seen fits (landed_within (is_err result) bytes));
    }

-- `cut`
pub record Cuts (f : File) (len : ℕ) (result : Result (Unit {0}) Failed) (old new : History) (a b : Faults) (now : List ℕ) : Type 0 where
  pub came : Came f (is_err result) old new now (was_cut len (is_err result) (disk_now old f))
  pub begins : Begins f (begun_cut len) (take len) (TornCut len) result (state_of old a) (state_of new b) (LeftSince old) (LeftSince new)

pub cuts : (f : File) (len : ℕ) (result : Result (Unit {0}) Failed) (old new : History) (a b : Faults) (t u : Told) (now : List ℕ) {image journal said : List ℕ} → IsKept old image journal said
    → ForSome (seen_of (state_of old a) f) (λ (seen : List ℕ). len ≤ length seen)
    → FileStep f (Cut f len) [] (is_err result) old new a b t u now (λ (s : List ℕ). take (cut_to len (is_err result) (length s)) s) → Cuts f len result old new a b now
cuts f len result old new a b t u now k within s =
    let fits : len ≤ length (disk_now old f).seen = within _ (seen_is old a f) in
    let c : Came f (is_err result) old new now (was_cut len (is_err result) (disk_now old f)) = came f _ [] (is_err result) old new a b t u now _ _ s (on_cut f len (is_err result) (disk_now old f)) refl
    (sound_cut len (is_err result) (disk_now old f) fits (sound_now old f (k.sound f))) k.sound in
    record {
      came = c;
      begins = begins f _ [] result old new a b t u now _ _ (begun_cut len) (take len) (TornCut len) refl s c refl
          (λ ok. ap (λ (x : Bool). take (cut_to len x (length (disk_now old f).seen)) (disk_now old f).seen) ok)
          (record { before = refl; no_shorter = fits; no_longer = omega arith })
          (torn_take len (cut_to len (is_err result) (length (disk_now old f).seen)) (disk_now old f).seen (cut_above len (is_err result) (length (disk_now old f).seen)) (cut_below len (is_err result) (length (disk_now old f).seen) fits));
    }

-- `len` and `read_at`
pub record Quiet (f : File) {T : Type 0} (result : Result T Failed) (old new : History) (a b : Faults) (now : List ℕ) : Type 0 where
  pub came : Came f (is_err result) old new now (disk_now old f)
  pub same : SameAll (state_of old a) (state_of new b)
  pub cause : FaultsAt (failed_at result (device_of f)) (state_of old a) (state_of new b)
  pub time : Passes (state_of old a) (state_of new b) (LeftSince old) (LeftSince new) (MayLeave (state_of old a))

same_all : (f : File) (failed : Bool) (old new : History) (a b : Faults) (now : List ℕ) → Came f failed old new now (disk_now old f) → SameAll (state_of old a) (state_of new b)
same_all f failed old new a b now c = record { image = ap Some (each f c Image); journal = ap Some (each f c Journal); said = ap Some c.said }
  where
    here : (f : File) → Came f failed old new now (disk_now old f) → disk_now new f ≡ disk_now old f
    here f c = ⊎_elim (λ w. w.1) (λ m. m) c.here

    each : (f : File) → Came f failed old new now (disk_now old f) → (g : File) → disk_now new g ≡ disk_now old g
    each Image c Image = here Image c
    each Image c Journal = c.rest
    each Journal c Image = c.rest
    each Journal c Journal = here Journal c

pub quiet : (f : File) (call : Call) {T : Type 0} (result : Result T Failed) (old new : History) (a b : Faults) (t u : Told) (now : List ℕ) {image journal said : List ℕ} → IsKept old image journal said
    → On f call [] (is_err result) (disk_now old f) (disk_now old f) → FileStep f call [] (is_err result) old new a b t u now (λ (s : List ℕ). s) → Quiet f result old new a b now
quiet f call result old new a b t u now k on s =
    let c : Came f (is_err result) old new now (disk_now old f) = came f call [] (is_err result) old new a b t u now _ _ s on refl (sound_now old f (k.sound f)) k.sound in
    record {
      came = c;
      same = same_all f (is_err result) old new a b now c;
      cause = s.counts;
      time = passes_less f call [] (is_err result) old new a b t u now _ _ on.silent s c (λ left l. l);
    }

-- the content of a file, where the file is told by another name
pub here : (f g : File) (old : History) (content : List ℕ) → f ≡ g → content ≡ (disk_now old g).seen → content ≡ (disk_now old f).seen
here f g old content is at = subst (λ (g : File). content ≡ (disk_now old g).seen) (sym is) at

-- no file is longer than 2^62
pub length_bound : (old : History) (f : File) {image journal said : List ℕ} → IsKept old image journal said → length (disk_now old f).seen ≤ 2 ^ 62
length_bound old f k = let s : IsSoundDisk (disk_now old f) = sound_now old f (k.sound f) in omega (arith, s.new.no_longer, s.small)

pub len_is : (old : History) (a : Faults) (f : File) (content : List ℕ) (result : Result ℕ Failed) → content ≡ (disk_now old f).seen → IfOk result (λ (n : ℕ). n ≡ length content)
    → IfOk result (λ (n : ℕ). ForSome (seen_of (state_of old a) f) (λ (seen : List ℕ). n ≡ length seen))
len_is old a f content (Ok n) here is = λ seen e. is ∙ ap length (here ∙ same_Some _ seen (sym (seen_is old a f) ∙ e))
len_is old a f content (Err e) here is = _

pub len_bound : (old : History) (f : File) (content : List ℕ) (result : Result ℕ Failed) {image journal said : List ℕ} → IsKept old image journal said → content ≡ (disk_now old f).seen → IfOk result (λ (n : ℕ). n ≡ length content)
    → IfOk result (λ (n : ℕ). n ≤ 2 ^ 62)
len_bound old f content (Ok n) k here is = omega (arith, is, ap length here, length_bound old f k)
len_bound old f content (Err e) k here is = _

pub read_is : (old : History) (a : Faults) (f : File) (at n : ℕ) (content into : List ℕ) (result : Result (Unit {0}) Failed) → content ≡ (disk_now old f).seen → OnOk result (into ≡ take n (drop at content))
    → OnOk result (ForSome (seen_of (state_of old a) f) (λ (seen : List ℕ). into ≡ take n (drop at seen)))
read_is old a f at n content into (Ok u) here is = λ seen e. is ∙ ap (λ (s : List ℕ). take n (drop at s)) (here ∙ same_Some _ seen (sym (seen_is old a f) ∙ e))
read_is old a f at n content into (Err e) here is = _

-- `sync`
pub record Syncs (f : File) (result : Result (Unit {0}) Failed) (old new : History) (a b : Faults) (now : List ℕ) : Type 0 where
  pub came : Came f (is_err result) old new now (synced (is_err result) (disk_now old f))
  pub same : seen_of (state_of new b) f ≡ seen_of (state_of old a) f
  pub synced_is : OnOk result (durable_of (state_of new b) f ≡ option_map settled (seen_of (state_of old a) f))
  pub failed : OnErr result (durable_of (state_of new b) f ≡ durable_of (state_of old a) f)
  pub other : LeavesOther f (state_of old a) (state_of new b)
  pub cause : FaultsAt (failed_at result (device_of f)) (state_of old a) (state_of new b)
  pub time : Passes (state_of old a) (state_of new b) (LeftSince old) (LeftSince new) (MayLeave (state_of old a))

pub syncs : (f : File) (result : Result (Unit {0}) Failed) (old new : History) (a b : Faults) (t u : Told) (now : List ℕ) {image journal said : List ℕ} → IsKept old image journal said
    → FileStep f (Sync f) [] (is_err result) old new a b t u now (λ (s : List ℕ). s) → Syncs f result old new a b now
syncs f result old new a b t u now k s =
    let sound : IsSoundDisk (disk_now old f) = sound_now old f (k.sound f) in
    let c : Came f (is_err result) old new now (synced (is_err result) (disk_now old f)) = came f _ [] (is_err result) old new a b t u now _ _ s (on_sync f (is_err result) (disk_now old f)) refl
    (sound_sync (is_err result) (disk_now old f) sound) k.sound in
    record {
      came = c;
      same = seen_is new b f ∙ ap Some (⊎_elim (λ w. ap (λ (d : Disk). d.seen) w.1) (λ m. ap (λ (d : Disk). d.seen) m) c.here) ∙ sym (seen_is old a f);
      synced_is = ok result c.here;
      failed = err result c.here;
      other = leaves_other f (is_err result) old new a b now _ c;
      cause = s.counts;
      time = passes_less f _ [] (is_err result) old new a b t u now _ _ refl s c (synced_less (is_err result) (disk_now old f) sound.new);
    }
  where
    ok : (r : Result (Unit {0}) Failed) → ((is_err r ≡ true) × (disk_now new f ≡ disk_now old f)) ⊎ (disk_now new f ≡ synced (is_err r) (disk_now old f)) → OnOk r (durable_of (state_of new b) f ≡ option_map settled (seen_of (state_of old a) f))
    ok (Ok u) (inl w) = absurd (false≢true w.0)
    ok (Ok u) (inr m) = durable_is new b f ∙ ap (λ (d : Disk). Some d.durable) m ∙ sym (ap (option_map settled) (seen_is old a f))
    ok (Err e) w = _

    err : (r : Result (Unit {0}) Failed) → ((is_err r ≡ true) × (disk_now new f ≡ disk_now old f)) ⊎ (disk_now new f ≡ synced (is_err r) (disk_now old f)) → OnErr r (durable_of (state_of new b) f ≡ durable_of (state_of old a) f)
    err (Ok u) w = _
    err (Err e) (inl w) = durable_is new b f ∙ ap (λ (d : Disk). Some d.durable) w.1 ∙ sym (durable_is old a f)
    err (Err e) (inr m) = durable_is new b f ∙ ap (λ (d : Disk). Some d.durable) m ∙ sym (durable_is old a f)

-- `say`
pub record Says (bytes : List ℕ) (result : Result (Unit {0}) Failed) (old new : History) (a b : Faults) (image journal said : List ℕ) : Type 0 where
  pub kept : IsKept new image journal said
  pub said_is : SaysSome (state_of old a) (state_of new b) bytes result
  pub files : SameFiles (state_of old a) (state_of new b)
  pub time : Passes (state_of old a) (state_of new b) (LeftSince old) (LeftSince new) (MayLeaveSaying (state_of old a) bytes)

leaves_saying : (bytes : List ℕ) (old : History) (a : Faults) (i j o : List ℕ) → LeftSaying (disk_now old Image).durable (disk_now old Journal).durable (said_now old) bytes i j o → MayLeaveSaying (state_of old a) bytes i j o
leaves_saying bytes old a i j o l = record {
  n = l.n;
  in_bytes = l.in_bytes;
  of_image = λ (d : Durable) is. subst (λ (d : Durable). Left d i) (same_Some _ d is) l.leaves.image_is;
  of_journal = λ (d : Durable) is. subst (λ (d : Durable). Left d j) (same_Some _ d is) l.leaves.journal_is;
  was_said = λ (s : List ℕ) is. l.leaves.said_is ∙ ap (λ (s : List ℕ). s ++ take l.n bytes) (same_Some _ s is);
}

says_some : (bytes : List ℕ) (old new : History) (a b : Faults) (result : Result (Unit {0}) Failed) → ((is_err result ≡ true) × (new ≡ old)) ⊎ (said_now new ≡ said_now old ++ landed (is_err result) bytes) → SaysSome (state_of old a) (state_of new b) bytes result
says_some bytes old new a b (Ok u) (inl w) = absurd (false≢true w.0)
says_some bytes old new a b (Ok u) (inr m) = ap Some (m ∙ ap (λ (l : List ℕ). said_now old ++ l) (landed_all bytes))
says_some bytes old new a b (Err e) (inl w) = (0, omega arith, ap (λ (h : History). Some (said_now h)) w.1 ∙ ap Some (sym (append-nil (said_now old))))
says_some bytes old new a b (Err e) (inr m) = (done true (length bytes), done_within true (length bytes), ap Some m)

pub says : (bytes : List ℕ) (result : Result (Unit {0}) Failed) (old new : History) (a b : Faults) (t u : Told) {image journal : List ℕ} (said said' : List ℕ) → IsKept old image journal said
    → Step Say bytes (is_err result) old new a b t u said said' (said ++ landed (is_err result) bytes) → Says bytes result old new a b image journal said'
says bytes result old new a b t u {image = image} {journal = journal} said said' k s = ⊎_elim
    (λ none. record {
      kept = subst (λ (h : History). IsKept h image journal said') (sym none.1) (subst (λ (l : List ℕ). IsKept old image journal l) (sym none.2) k);
      said_is = says_some bytes old new a b result (inl (none.0, none.1));
      files = record { image = ap (λ (h : History). Some (disk_now h Image)) none.1; journal = ap (λ (h : History). Some (disk_now h Journal)) none.1 };
      time = subst (λ (h : History). Passes (state_of old a) (state_of h b) (LeftSince old) (LeftSince h) (MayLeaveSaying (state_of old a) bytes)) (sym none.1) (passes_same old a b (MayLeaveSaying (state_of old a) bytes) s.no_fewer);
    })
    (λ made.
    let disks : (f : File) → disk_now new f ≡ disk_now old f = λ (f : File). disk_added Say bytes (is_err result) old new f made.0 in
    let now : said_now new ≡ said_now old ++ landed (is_err result) bytes = said_added Say bytes (is_err result) old new made.0 in
    record {
      kept = record {
        image_is = k.image_is ∙ sym (ap (λ (d : Disk). d.seen) (disks Image));
        journal_is = k.journal_is ∙ sym (ap (λ (d : Disk). d.seen) (disks Journal));
        said_is = made.1 ∙ ap (λ (l : List ℕ). l ++ landed (is_err result) bytes) k.said_is ∙ sym now;
        sound = sound_added Say bytes (is_err result) old new made.0 k.sound (λ f. subst IsSoundDisk (sym (disks f)) (sound_now old f (k.sound f)));
      };
      said_is = says_some bytes old new a b result (inr now);
      files = record { image = ap Some (disks Image); journal = ap Some (disks Journal) };
      time = subst (λ (h : History). Passes (state_of old a) (state_of h b) (LeftSince old) (LeftSince h) (MayLeaveSaying (state_of old a) bytes)) (sym made.0.is) (passes_push old made.0.event a b (MayLeaveSaying (state_of old a) bytes) s.no_fewer
          (λ i j o l. inr (leaves_saying bytes old a i j o (subst (λ (next : List ℕ). LeftSaying (disk_now old Image).durable (disk_now old Journal).durable (said_now old) next i j o) (spoken made.0.event.call made.0.event.bytes.items made.0.call_is made.0.bytes_are) l)))
          (λ i j o l. leaves_saying bytes old a i j o (after disks now i j o (subst (λ (h : History). Leaves (disk_now h Image).durable (disk_now h Journal).durable (said_now h) i j o) (sym made.0.is) l))));
    })
    s.ended
  where
    spoken : (c : Call) (l : List ℕ) → c ≡ Say → l ≡ bytes → saying c l ≡ bytes
    spoken c l ce le = rw (ce, le)

    after : ((f : File) → disk_now new f ≡ disk_now old f) → said_now new ≡ said_now old ++ landed (is_err result) bytes → (i j o : List ℕ) → Leaves (disk_now new Image).durable (disk_now new Journal).durable (said_now new) i j o
        → LeftSaying (disk_now old Image).durable (disk_now old Journal).durable (said_now old) bytes i j o
    after disks now i j o l = record {
      n = done (is_err result) (length bytes);
      in_bytes = done_within (is_err result) (length bytes);
      leaves = record {
        image_is = subst (λ (d : Disk). Left d.durable i) (disks Image) l.image_is;
        journal_is = subst (λ (d : Disk). Left d.durable j) (disks Journal) l.journal_is;
        said_is = l.said_is ∙ now;
      };
    }

-- a rig at first
first_sound : (image journal : List ℕ) (f : File) (k : ℕ) → IsSoundDisk (at_rest image) → IsSoundDisk (at_rest journal) → IsSoundDisk (disk_at (record { image = image; journal = journal; calls = [] }) f k)
first_sound image journal Image k i j = subst (λ (l : List Event). IsSoundDisk (replay Image (at_rest image) l)) (sym (take-nil k)) i
first_sound image journal Journal k i j = subst (λ (l : List Event). IsSoundDisk (replay Journal (at_rest journal) l)) (sym (take-nil k)) j

-- a file at first
pub record IsFirst (given first bytes : List ℕ) : Type 0 where
  pub first_is : first ≡ given
  pub bytes_are : bytes ≡ given
  pub fits : (k : ℕ) → get_or given k 0 < 2 ^ 8
  pub small : length given ≤ 2 ^ 62

pub kept_first : (image journal image' journal' image'' journal'' said : List ℕ) (calls : List Event) → IsFirst image image' image'' → IsFirst journal journal' journal'' → said ≡ [] → calls ≡ []
    → IsKept (record { image = image'; journal = journal'; calls = calls }) image'' journal'' said
kept_first image journal image' journal' image'' journal'' said calls i j s c = rw (i.first_is, i.bytes_are, j.first_is, j.bytes_are, s, c) (record {
  image_is = refl;
  journal_is = refl;
  said_is = refl;
  sound = λ f k. first_sound image journal f k (sound_at_rest image i.fits i.small) (sound_at_rest journal j.fits j.small);
})
