-- What a call of a rig in memory came to, and what it keeps.
use Rattle.std.proofs.Common.{◌≡◌, ◌⊎◌, inl, inr, ⊎_elim, ℕ, ◌-◌, ◌<◌, ◌≤◌, ◌^◌, Bool, true, false, cond, Some, None, Result, List, [], ◌∷◌, ◌++◌, length, map, refl, sym, ◌∙◌, ap, subst, arith}
use Rattle.std.specs.Prelude.{is_err, option_map, Contains}
use Rattle.std.specs.Option.{ForSome}
use Rattle.std.proofs.lemmas.List.{append-nil, map_push, length-map}
use Rattle.std.proofs.lemmas.Bool.{false≢true}
use Rattle.czi_rig.specs.declared.file.File.{File}
use Rattle.czi_rig.specs.declared.file.File.TheVariants.{Image, Journal}
use Rattle.czi_rig.specs.declared.file.Failed.{Failed}
use Rattle.czi_rig.specs.declared.call.Call.{Call}
use Rattle.czi_rig.specs.declared.call.Call.TheVariants.{Len, Read, Write, Cut, Sync, Say}
use Rattle.czi_rig.specs.declared.log.Event.{Event}
use Rattle.czi_rig.specs.declared.log.Log.{Log}
use Rattle.czi_rig.specs.declared.content.Content.{Content}
use Rattle.czi_rig.specs.Disk.{Disk, Left}
use Rattle.czi_rig.specs.State.{Instant, known, seen_of, durable_of, other, MayLeave, LeavesOther}
use Rattle.czi_rig.specs.Passes.{Passes}
use Rattle.czi_rig.specs.Faults.{Counted, Faults as FaultsAt, device_of}
use Rattle.czi_rig.proofs.Faults.{image_counts, journal_counts}
use Rattle.czi_rig.specs.Moments.{Leaves}
use Rattle.czi_rig.specs.Outcome.{Outcome, raised}
use Rattle.czi_rig.specs.Memory.{history, faults}
use Rattle.czi_rig.specs.Told.{Told, Accounts, told_by}
use Rattle.czi_rig.specs.Replay.{History, Faults, state_of, push, LeftSaying, LeftSince, disk_at, disk_now, said_now, saying, landed, after_call, put, was_cut, synced, IsSoundDisk, IsKept}
use Rattle.czi_rig.specs.Laws.{sound_now, unspoken, left_at_end_from_leaves, may_leave_from_leaves}
use Rattle.czi_rig.proofs.Pushed.{disk_push, said_push, sound_push, NoFewer, passes_same, passes_push}

-- the call was made
pub record Added (call : Call) (bytes : List ℕ) (failed : Bool) (old new : History) : Type 0 where
  pub event : Event
  pub is : new ≡ push old event
  pub call_is : event.call ≡ call
  pub bytes_are : event.bytes.items ≡ bytes
  pub failed_is : event.failed ≡ failed

-- A call came to its end, with `now` what it left of what it acts on: it found no memory and did nothing, or it was made.
pub record Step (call : Call) (bytes : List ℕ) (failed : Bool) (old new : History) (a b : Faults) (t u : Told) (content now made : List ℕ) : Type 0 where
  pub ended : ((failed ≡ true) × (new ≡ old) × (now ≡ content)) ⊎ (Added call bytes failed old new × (now ≡ made))
  pub no_fewer : NoFewer a b
  pub told : Accounts call failed t u old new a b

history_is : (image journal image' journal' : List ℕ) (calls calls' : List Event) → image' ≡ image → journal' ≡ journal → calls' ≡ calls
    → (let new : History = record { image = image'; journal = journal'; calls = calls' } in new) ≡ (let old : History = record { image = image; journal = journal; calls = calls } in old)
history_is image journal image' journal' calls calls' i j c = rw (i, j, c)

rises : (old new : ℕ) → new ≡ raised old → old < 2 ^ 64 - 1 → old < new
rises old new is below = omega arith

clash : (b : Bool) → b ≡ true → b ≡ false → ⊥
clash b t f = false≢true (sym f ∙ t)

module _ (call : Call) (bytes : List ℕ) {T : Type 0} (result : Result T Failed) (log log' : Log) (f f' : ℕ) (content now made : List ℕ) (o : Outcome call bytes result log log' f f' content now made) where
  calls_is : length (map (λ (e : Event). e.call) log.calls.items) ≡ length log.calls.items
  calls_is = length-map log.calls.items (λ (e : Event). e.call)

  accounts : (old new : History) (before after : Faults) → (f' ≡ f → after ≡ before) → (log'.calls.items ≡ log.calls.items → new ≡ old) → Accounts call (is_err result) (told_by log) (told_by log') old new before after
  accounts old new before after same idle = elim o [
    | inl none ↦ record {
      to_fail = ap (λ s. s.keys) none.1.to_fail;
      later = none.1.later;
      counted = λ is below. absurd (let more : log.starved < log'.starved = rises log.starved log'.starved none.1.starved below in omega arith);
      starved = λ more. ap (map (λ (e : Event). e.call)) none.1.calls;
      idle = λ more. idle none.1.calls;
      fails = λ below. (λ _. inr (rises log.starved log'.starved none.1.starved below), λ _. none.0);
      no_fault = λ ok. absurd (clash (is_err result) none.0 ok);
    }
    | inr done ↦ record {
      to_fail = ap (λ s. s.keys) done.0.to_fail;
      later = omega (arith, done.0.starved);
      counted = λ _ _. added done.0.noted.event done.0.noted.added done.0.noted.call_is;
      starved = λ more. absurd (omega (arith, done.0.starved, more));
      idle = λ more. absurd (omega (arith, done.0.starved, more));
      fails = λ below. (
        λ failed. inl (subst (λ (n : ℕ). Contains log.to_fail.keys n) (sym calls_is) (done.0.told.0 failed)),
        ⊎_elim (λ told. done.0.told.1 (subst (λ (n : ℕ). Contains log.to_fail.keys n) calls_is told)) (λ more. absurd (omega (arith, done.0.starved, more))),
      );
      no_fault = λ ok. same (done.0.faults ∙ ap (λ (b : Bool). cond b (raised f) f) ok);
    }
  ]
    where
      added : (e : Event) → log'.calls.items ≡ log.calls.items ++ e ∷ [] → e.call ≡ call → map (λ (e : Event). e.call) log'.calls.items ≡ map (λ (e : Event). e.call) log.calls.items ++ call ∷ []
      added e is call_is = ap (map (λ (e : Event). e.call)) is ∙ map_push (λ (e : Event). e.call) log.calls.items e ∙ ap (λ (c : Call). map (λ (e : Event). e.call) log.calls.items ++ c ∷ []) call_is

  no_less : f ≤ f'
  no_less = ⊎_elim (λ none. none.1.no_fewer) (λ done. done.0.no_fewer) o

  -- the count has risen where the call failed, and is as it was where it didn't
  counted : Counted (is_err result) f f'
  counted = elim o [
    | inl none ↦ subst (λ (b : Bool). Counted b f f') (sym none.0) (omega (arith, none.1.faults))
    | inr done ↦ raised_where (is_err result) done.0.faults
  ]
    where
      raised_where : (failed : Bool) → f' ≡ cond failed (raised f) f → Counted failed f f'
      raised_where true is = omega (arith, is)
      raised_where false is = is

  step : (image journal image' journal' : List ℕ) (a b : Faults) → image' ≡ image → journal' ≡ journal → NoFewer a b → (f' ≡ f → b ≡ a)
      → Step call bytes (is_err result) (record { image = image; journal = journal; calls = log.calls.items }) (record { image = image'; journal = journal'; calls = log'.calls.items }) a b (told_by log) (told_by log') content now made
  step image journal image' journal' a b i j n same = record {
    ended = ⊎_elim
        (λ none. inl (none.0, history_is _ _ _ _ _ _ i j none.1.calls, none.2))
        (λ done. inr (
          record {
            event = done.0.noted.event;
            is = history_is _ _ _ _ _ _ i j done.0.noted.added;
            call_is = done.0.noted.call_is;
            bytes_are = done.0.noted.bytes_are;
            failed_is = done.0.noted.failed_is;
          },
          done.1,
        ))
        o;
    no_fewer = n;
    told = accounts _ _ a b same (λ c. history_is _ _ _ _ _ _ i j c);
  }

-- A call on a file: the step, from what reads gave of that file; and its count alone rose where it failed.
pub record FileStep (f : File) (call : Call) (bytes : List ℕ) (failed : Bool) (old new : History) (a b : Faults) (t u : Told) (now : List ℕ) (make : List ℕ → List ℕ) : Type 0 where
  pub step : Step call bytes failed old new a b t u (disk_now old f).seen now (make (disk_now old f).seen)
  pub counts : FaultsAt (cond failed (Some (device_of f)) None) (state_of old a) (state_of new b)

module _ (f : File) (call : Call) (bytes : List ℕ) {T : Type 0} (result : Result T Failed) (log log' : Log) (make : List ℕ → List ℕ) where
  pub image_step : (image image' journal : Content) (output : ℕ) {journal_bytes said : List ℕ} → f ≡ Image → IsKept (history image journal log) image.bytes.items journal_bytes said → image'.first ≡ image.first
      → Outcome call bytes result log log' image.faults image'.faults image.bytes.items image'.bytes.items (make image.bytes.items)
      → FileStep f call bytes (is_err result) (history image journal log) (history image' journal log') (faults image journal output) (faults image' journal output) (told_by log) (told_by log') image'.bytes.items make
  image_step image image' journal output is k first o =
      let at : FileStep Image call bytes (is_err result) (history image journal log) (history image' journal log') (faults image journal output) (faults image' journal output) (told_by log) (told_by log') image'.bytes.items make = record {
        step = subst (λ (c : List ℕ). Step call bytes (is_err result) (history image journal log) (history image' journal log') (faults image journal output) (faults image' journal output) (told_by log) (told_by log') c image'.bytes.items (make c)) k.image_is
            (step call bytes result log log' image.faults image'.faults _ _ _ o image.first.items journal.first.items image'.first.items journal.first.items _ _ (ap (λ v. v.items) first) refl
            (record { image = no_less call bytes result log log' image.faults image'.faults _ _ _ o; journal = omega arith; output = omega arith })
            (ap (λ (n : ℕ). let s : Faults = record { image = n; journal = journal.faults; output = output } in s)));
        counts = image_counts (is_err result) _ _ (counted call bytes result log log' image.faults image'.faults _ _ _ o) refl refl;
      } in
      subst (λ (f : File). FileStep f call bytes (is_err result) (history image journal log) (history image' journal log') (faults image journal output) (faults image' journal output) (told_by log) (told_by log') image'.bytes.items make) (sym is) at

  pub journal_step : (image journal journal' : Content) (output : ℕ) {image_bytes said : List ℕ} → f ≡ Journal → IsKept (history image journal log) image_bytes journal.bytes.items said → journal'.first ≡ journal.first
      → Outcome call bytes result log log' journal.faults journal'.faults journal.bytes.items journal'.bytes.items (make journal.bytes.items)
      → FileStep f call bytes (is_err result) (history image journal log) (history image journal' log') (faults image journal output) (faults image journal' output) (told_by log) (told_by log') journal'.bytes.items make
  journal_step image journal journal' output is k first o =
      let at : FileStep Journal call bytes (is_err result) (history image journal log) (history image journal' log') (faults image journal output) (faults image journal' output) (told_by log) (told_by log') journal'.bytes.items make = record {
        step = subst (λ (c : List ℕ). Step call bytes (is_err result) (history image journal log) (history image journal' log') (faults image journal output) (faults image journal' output) (told_by log) (told_by log') c journal'.bytes.items (make c)) k.journal_is
            (step call bytes result log log' journal.faults journal'.faults _ _ _ o image.first.items journal.first.items image.first.items journal'.first.items _ _ refl (ap (λ v. v.items) first)
            (record { image = omega arith; journal = no_less call bytes result log log' journal.faults journal'.faults _ _ _ o; output = omega arith })
            (ap (λ (n : ℕ). let s : Faults = record { image = image.faults; journal = n; output = output } in s)));
        counts = journal_counts (is_err result) _ _ refl (counted call bytes result log log' journal.faults journal'.faults _ _ _ o) refl;
      } in
      subst (λ (f : File). FileStep f call bytes (is_err result) (history image journal log) (history image journal' log') (faults image journal output) (faults image journal' output) (told_by log) (told_by log') journal'.bytes.items make) (sym is) at

pub output_step : (bytes : List ℕ) {T : Type 0} (result : Result T Failed) (log log' : Log) (image journal : Content) (output output' : ℕ) (said said' : List ℕ)
    → Outcome Say bytes result log log' output output' said said' (said ++ landed (is_err result) bytes)
    → Step Say bytes (is_err result) (history image journal log) (history image journal log') (faults image journal output) (faults image journal output') (told_by log) (told_by log') said said' (said ++ landed (is_err result) bytes)
output_step bytes result log log' image journal output output' said said' o =
    step Say bytes result log log' output output' _ _ _ o image.first.items journal.first.items image.first.items journal.first.items _ _ refl refl
    (record { image = omega arith; journal = omega arith; output = no_less Say bytes result log log' output output' _ _ _ o })
    (ap (λ (n : ℕ). let s : Faults = record { image = image.faults; journal = journal.faults; output = n } in s))

-- a file and what was said, after a call that was made
pub disk_added : (call : Call) (bytes : List ℕ) (failed : Bool) (old new : History) (f : File) → Added call bytes failed old new → disk_now new f ≡ after_call f call bytes failed (disk_now old f)
disk_added call bytes failed old new f a =
    ap (λ (h : History). disk_now h f) a.is ∙ disk_push old a.event f ∙ same a.event.call a.event.bytes.items a.event.failed a.call_is a.bytes_are a.failed_is
  where
    same : (c : Call) (b : List ℕ) (x : Bool) → c ≡ call → b ≡ bytes → x ≡ failed → after_call f c b x (disk_now old f) ≡ after_call f call bytes failed (disk_now old f)
    same c b x ce be xe = rw (ce, be, xe)

pub said_added : (call : Call) (bytes : List ℕ) (failed : Bool) (old new : History) → Added call bytes failed old new → said_now new ≡ said_now old ++ landed failed (saying call bytes)
said_added call bytes failed old new a =
    ap said_now a.is ∙ said_push [] old.calls a.event ∙ same a.event.call a.event.bytes.items a.event.failed a.call_is a.bytes_are a.failed_is
  where
    same : (c : Call) (b : List ℕ) (x : Bool) → c ≡ call → b ≡ bytes → x ≡ failed → said_now old ++ landed x (saying c b) ≡ said_now old ++ landed failed (saying call bytes)
    same c b x ce be xe = rw (ce, be, xe)

pub sound_added : (call : Call) (bytes : List ℕ) (failed : Bool) (old new : History) → Added call bytes failed old new → ((f : File) (k : ℕ) → IsSoundDisk (disk_at old f k)) → ((f : File) → IsSoundDisk (disk_now new f)) → (f : File) (k : ℕ) → IsSoundDisk (disk_at new f k)
sound_added call bytes failed old new a was now f k =
    subst (λ (h : History). IsSoundDisk (disk_at h f k)) (sym a.is) (sound_push old a.event f k (was f) (subst (λ (h : History). IsSoundDisk (disk_now h f)) a.is (now f)))

-- a call on a file, with what it makes of that file
pub record On (f : File) (call : Call) (bytes : List ℕ) (failed : Bool) (old made : Disk) : Type 0 where
  pub same : after_call f call bytes failed old ≡ made
  pub rest : (disk : Disk) → after_call (other f) call bytes failed disk ≡ disk
  pub silent : saying call bytes ≡ []

pub on_len : (f : File) (failed : Bool) (disk : Disk) → On f (Len f) [] failed disk disk
on_len f failed disk = record { same = refl; rest = λ _. refl; silent = refl }

pub on_read : (f : File) (at n : ℕ) (failed : Bool) (disk : Disk) → On f (Read f at n) [] failed disk disk
on_read f at n failed disk = record { same = refl; rest = λ _. refl; silent = refl }

pub on_write : (f : File) (at n : ℕ) (bytes : List ℕ) (failed : Bool) (disk : Disk) → On f (Write f at n) bytes failed disk (put at bytes failed disk)
on_write Image at n bytes failed disk = record { same = refl; rest = λ _. refl; silent = refl }
on_write Journal at n bytes failed disk = record { same = refl; rest = λ _. refl; silent = refl }

pub on_cut : (f : File) (len : ℕ) (failed : Bool) (disk : Disk) → On f (Cut f len) [] failed disk (was_cut len failed disk)
on_cut Image len failed disk = record { same = refl; rest = λ _. refl; silent = refl }
on_cut Journal len failed disk = record { same = refl; rest = λ _. refl; silent = refl }

pub on_sync : (f : File) (failed : Bool) (disk : Disk) → On f (Sync f) [] failed disk (synced failed disk)
on_sync Image failed disk = record { same = refl; rest = λ _. refl; silent = refl }
on_sync Journal failed disk = record { same = refl; rest = λ _. refl; silent = refl }

-- what is known of a rig in memory
pub known_is : (h : History) (a : Faults) (f : File) → known (state_of h a) f ≡ Some (disk_now h f)
known_is h a Image = refl
known_is h a Journal = refl

pub seen_is : (h : History) (a : Faults) (f : File) → seen_of (state_of h a) f ≡ Some (disk_now h f).seen
seen_is h a f = ap (option_map (λ (disk : Disk). disk.seen)) (known_is h a f)

pub durable_is : (h : History) (a : Faults) (f : File) → durable_of (state_of h a) f ≡ Some (disk_now h f).durable
durable_is h a f = ap (option_map (λ (disk : Disk). disk.durable)) (known_is h a f)

none_landed : (failed : Bool) → landed failed [] ≡ []
none_landed true = refl
none_landed false = refl

pub said_quiet : (call : Call) (bytes : List ℕ) (failed : Bool) (old new : History) → saying call bytes ≡ [] → Added call bytes failed old new → said_now new ≡ said_now old
said_quiet call bytes failed old new silent added =
    said_added call bytes failed old new added ∙ ap (λ (l : List ℕ). said_now old ++ landed failed l) silent ∙ ap (λ (l : List ℕ). said_now old ++ l) (none_landed failed) ∙ append-nil (said_now old)

-- what a call on a file comes to: of that file as it was or what the call made of it, and of nothing else
pub record Came (f : File) (failed : Bool) (old new : History) (now : List ℕ) (made : Disk) : Type 0 where
  pub here : ((failed ≡ true) × (disk_now new f ≡ disk_now old f)) ⊎ (disk_now new f ≡ made)
  pub now_is : now ≡ (disk_now new f).seen
  pub rest : disk_now new (other f) ≡ disk_now old (other f)
  pub said : said_now new ≡ said_now old
  pub sound : (g : File) (k : ℕ) → IsSoundDisk (disk_at new g k)

each_file : (f : File) (P : File → Type 0) → P f → P (other f) → (g : File) → P g
each_file Image P a b Image = a
each_file Image P a b Journal = b
each_file Journal P a b Image = b
each_file Journal P a b Journal = a

pub came : (f : File) (call : Call) (bytes : List ℕ) (failed : Bool) (old new : History) (a b : Faults) (t u : Told) (now : List ℕ) (make : List ℕ → List ℕ) (made : Disk)
    → FileStep f call bytes failed old new a b t u now make → On f call bytes failed (disk_now old f) made → make (disk_now old f).seen ≡ made.seen → IsSoundDisk made → ((g : File) (k : ℕ) → IsSoundDisk (disk_at old g k))
    → Came f failed old new now made
came f call bytes failed old new a b t u now make made s on seen sound was = ⊎_elim
    (λ none. record {
      here = inl (none.0, ap (λ (h : History). disk_now h f) none.1);
      now_is = none.2 ∙ sym (ap (λ (h : History). (disk_now h f).seen) none.1);
      rest = ap (λ (h : History). disk_now h (other f)) none.1;
      said = ap said_now none.1;
      sound = λ g k. subst (λ (h : History). IsSoundDisk (disk_at h g k)) (sym none.1) (was g k);
    })
    (λ done.
    let here : disk_now new f ≡ made = disk_added call bytes failed old new f done.0 ∙ on.same in
    let rest : disk_now new (other f) ≡ disk_now old (other f) = disk_added call bytes failed old new (other f) done.0 ∙ on.rest (disk_now old (other f)) in
    record {
      here = inr here;
      now_is = done.1 ∙ seen ∙ sym (ap (λ (d : Disk). d.seen) here);
      rest = rest;
      said = said_quiet call bytes failed old new on.silent done.0;
      sound = sound_added call bytes failed old new done.0 was
          (each_file f (λ (g : File). IsSoundDisk (disk_now new g)) (subst IsSoundDisk (sym here) sound) (subst IsSoundDisk (sym rest) (sound_now old (other f) (was (other f)))));
    })
    s.step.ended

pub kept_image : (f : File) (failed : Bool) (old new : History) (now : List ℕ) (made : Disk) {image journal said : List ℕ} → f ≡ Image → IsKept old image journal said → Came f failed old new now made → IsKept new now journal said
kept_image f failed old new now made is k c =
    let at : Came Image failed old new now made = subst (λ (f : File). Came f failed old new now made) is c in
    record { image_is = at.now_is; journal_is = k.journal_is ∙ sym (ap (λ (d : Disk). d.seen) at.rest); said_is = k.said_is ∙ sym at.said; sound = at.sound }

pub kept_journal : (f : File) (failed : Bool) (old new : History) (now : List ℕ) (made : Disk) {image journal said : List ℕ} → f ≡ Journal → IsKept old image journal said → Came f failed old new now made → IsKept new image now said
kept_journal f failed old new now made is k c =
    let at : Came Journal failed old new now made = subst (λ (f : File). Came f failed old new now made) is c in
    record { image_is = k.image_is ∙ sym (ap (λ (d : Disk). d.seen) at.rest); journal_is = at.now_is; said_is = k.said_is ∙ sym at.said; sound = at.sound }

pub leaves_other : (f : File) (failed : Bool) (old new : History) (a b : Faults) (now : List ℕ) (made : Disk) → Came f failed old new now made → LeavesOther f (state_of old a) (state_of new b)
leaves_other f failed old new a b now made c = record {
  file = known_is new b (other f) ∙ ap Some c.rest ∙ sym (known_is old a (other f));
  said = ap Some c.said;
}

-- a call that says nothing
passes_file : (call : Call) (bytes : List ℕ) (failed : Bool) (old new : History) (a b : Faults) (within : Instant) → saying call bytes ≡ [] → (new ≡ old) ⊎ Added call bytes failed old new → NoFewer a b
    → ((image journal said : List ℕ) → Leaves (disk_now new Image).durable (disk_now new Journal).durable (said_now new) image journal said → within image journal said)
    → Passes (state_of old a) (state_of new b) (LeftSince old) (LeftSince new) within
passes_file call bytes failed old new a b within none (inl same) n after =
    subst (λ (h : History). Passes (state_of old a) (state_of h b) (LeftSince old) (LeftSince h) within) (sym same) (passes_same old a b within n)
passes_file call bytes failed old new a b within none (inr added) n after =
    subst (λ (h : History). Passes (state_of old a) (state_of h b) (LeftSince old) (LeftSince h) within) (sym added.is) (passes_push old added.event a b within n
    (λ i j o l. inl (left_at_end_from_leaves old i j o (unspoken (subst (λ (next : List ℕ). LeftSaying (disk_now old Image).durable (disk_now old Journal).durable (said_now old) next i j o) (silence added.event.call added.event.bytes.items added.call_is added.bytes_are) l))))
    (λ i j o l. after i j o (subst (λ (h : History). Leaves (disk_now h Image).durable (disk_now h Journal).durable (said_now h) i j o) (sym added.is) l)))
  where
    silence : (c : Call) (l : List ℕ) → c ≡ call → l ≡ bytes → saying c l ≡ []
    silence c l ce le = rw (ce, le) none

-- a write or a cut
pub passes_begun : (f : File) (call : Call) (bytes : List ℕ) (failed : Bool) (old new : History) (a b : Faults) (t u : Told) (now : List ℕ) (make : List ℕ → List ℕ) → saying call bytes ≡ []
    → FileStep f call bytes failed old new a b t u now make → Passes (state_of old a) (state_of new b) (LeftSince old) (LeftSince new) (MayLeave (state_of new b))
passes_begun f call bytes failed old new a b t u now make none s =
    passes_file call bytes failed old new a b (MayLeave (state_of new b)) none (⊎_elim (λ w. inl w.1) (λ w. inr w.0) s.step.ended) s.step.no_fewer (λ i j o l. may_leave_from_leaves new b i j o l)

leaves_less : (f : File) (old new : History) → ((left : List ℕ) → Left (disk_now new f).durable left → Left (disk_now old f).durable left) → disk_now new (other f) ≡ disk_now old (other f) → said_now new ≡ said_now old
    → (image journal said : List ℕ) → Leaves (disk_now new Image).durable (disk_now new Journal).durable (said_now new) image journal said → Leaves (disk_now old Image).durable (disk_now old Journal).durable (said_now old) image journal said
leaves_less Image old new less rest same i j o l = record { image_is = less i l.image_is; journal_is = subst (λ (d : Disk). Left d.durable j) rest l.journal_is; said_is = l.said_is ∙ same }
leaves_less Journal old new less rest same i j o l = record { image_is = subst (λ (d : Disk). Left d.durable i) rest l.image_is; journal_is = less j l.journal_is; said_is = l.said_is ∙ same }

-- a call that makes nothing new of what is durable
pub passes_less : (f : File) (call : Call) (bytes : List ℕ) (failed : Bool) (old new : History) (a b : Faults) (t u : Told) (now : List ℕ) (make : List ℕ → List ℕ) (made : Disk) → saying call bytes ≡ []
    → FileStep f call bytes failed old new a b t u now make → Came f failed old new now made → ((left : List ℕ) → Left made.durable left → Left (disk_now old f).durable left)
    → Passes (state_of old a) (state_of new b) (LeftSince old) (LeftSince new) (MayLeave (state_of old a))
passes_less f call bytes failed old new a b t u now make made none s c less =
    passes_file call bytes failed old new a b (MayLeave (state_of old a)) none (⊎_elim (λ w. inl w.1) (λ w. inr w.0) s.step.ended) s.step.no_fewer
    (λ i j o l. may_leave_from_leaves old a i j o (leaves_less f old new (λ left m. ⊎_elim
    (λ w. subst (λ (d : Disk). Left d.durable left) w.1 m)
    (λ w. less left (subst (λ (d : Disk). Left d.durable left) w m)) c.here) c.rest c.said i j o l))

-- a condition on what reads give of a file
pub in_file : (h : History) (a : Faults) (f : File) (P : List ℕ → Type 0) → ForSome (seen_of (state_of h a) f) P → P (disk_now h f).seen
in_file h a f P within = within _ (seen_is h a f)
