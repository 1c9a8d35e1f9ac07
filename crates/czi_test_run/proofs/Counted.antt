-- A count whose files were synced, and one byte more.
use Rattle.std.proofs.Common.{◌≡◌, inl, ℕ, ◌+◌, ◌^◌, ◌<◌, List, [], ◌∷◌, ◌++◌, length, refl, sym, ◌∙◌, ap, arith, append-nil}
use Rattle.czi_script.specs.Script.{Command}
use Rattle.std.specs.Prelude.{min, option_map}
use Rattle.std.specs.Option.{ForSome}
use Rattle.std.proofs.lemmas.Grind.{common_steps}
use Rattle.czi_rig.specs.declared.rig.Rig.{Ghosts}
use Rattle.czi_rig.specs.declared.file.File.TheVariants.{Image}
use Rattle.czi_rig.specs.Disk.{Disk, at_rest, overwritten}
use Rattle.czi_rig.specs.State.{State, Instant, SameAll, LeavesOther, known, seen_of}
use Rattle.czi_rig.specs.Moments.{Devices, Run, OnlyNow, FromSomeMoment}
use Rattle.czi_rig.proofs.Files.{left_settled}
use Rattle.czi_rig.proofs.Known.{same_known, file_known, known_file, known_seen}
use Rattle.czi_rig.proofs.Runs.{started, always}
use Rattle.czi_rig.proofs.Spans.{each_two, one_span}
use Rattle.czi_session.specs.Course.{AlikeFrom, Opening, Replied, Stands, Open}
use Rattle.czi_test_run.specs.Counting.{counting, Counts, ok_line}

abbrev pub No : Instant
No image journal said = ⊥

abbrev pub resting : Devices → Devices
resting all = record { image = at_rest all.image.seen; journal = at_rest all.journal.seen; said = all.said }

module _ {D : Type 0} (rig : Ghosts D) (only : OnlyNow rig) (old new : D) (said : List ℕ) (s : ℕ) (h : Opening counting (rig.state old) said s) (r : Run rig old new (resting h.now) No) where
  pub opened : FromSomeMoment rig old new (Open counting s said)
  opened = record {
    then = new;
    before = r.moments;
    after = started rig new (Open counting s said);
    always = always rig (resting h.now) only r.known (started rig new (Open counting s said))
        (λ i j o l. (ap (λ (x : List ℕ). length x) (left_settled h.now.image.seen i l.image_is) ∙ h.begins, l.said_is ∙ h.said_is));
  }

  -- any two pairs are of the same kind to a counter
  pub opened_alike : AlikeFrom rig old new counting
  opened_alike = record { then = opened.then; before = opened.before; spans = one_span rig counting.alike opened.then new (each_two rig counting.alike (λ i j o i' j' o' one two. tt) (record { throughout = opened.after; always = opened.always })) }

  pub stood : Stands counting Counts (rig.state new) said s
  stood = record { now = resting h.now; known = r.known; said_is = h.said_is; stands = record { rest = refl; count = h.begins } }

length_more : (seen : List ℕ) (at : ℕ) → at ≡ length seen → length (overwritten at (0 ∷ []) seen) ≡ length seen + 1
length_more seen at is = grind (arith, common_steps)

below : (s : ℕ) → s < 2 ^ 62 → s + 1 ≡ min (s + 1) (2 ^ 62)
below s less = omega (arith, less)

pub one_more : (old mid new : State) (said : List ℕ) (s : ℕ) (at : ℕ) (h : Stands counting Counts old said s) → at < 2 ^ 62 → ForSome (seen_of old Image) (λ seen. at ≡ length seen) → SameAll old mid → LeavesOther Image mid new
    → known new Image ≡ option_map (λ (disk : Disk). at_rest (overwritten at (0 ∷ []) disk.seen)) (known mid Image) → Stands counting Counts new said (min (s + 1) (2 ^ 62))
one_more old mid new said s at h less at_is same other is =
    let here = same_known old mid h.now h.known same in
    let length_is : at ≡ length h.now.image.seen = at_is h.now.image.seen (known_seen old Image h.now h.known) in
    record {
      now = _;
      known = file_known mid new Image h.now _ here other (is ∙ ap (option_map (λ (disk : Disk). at_rest (overwritten at (0 ∷ []) disk.seen))) (known_file mid Image h.now here));
      said_is = h.said_is;
      stands = record { rest = refl; count = length_more h.now.image.seen at length_is ∙ (ap (λ (n : ℕ). n + 1) h.stands.count ∙ below s (omega (arith, less, length_is, h.stands.count))) };
    }

-- the reply is one piece
pub all_said : (s : ℕ) (c : Command) (old new : List ℕ) → old ≡ [] → new ≡ old ++ ok_line → Replied counting s c new (λ rest. rest ≡ []) 0
all_said s c old new none is = record { rest = []; whole = sym (is ∙ ap (λ (z : List ℕ). z ++ ok_line) none) ∙ sym (append-nil new); owed = refl; one = inl refl }
