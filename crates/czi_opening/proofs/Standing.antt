-- What two files stand for, and what a crash leaves of files that are synced.
use Rattle.std.proofs.Common.{◌≡◌, ⊎_elim, inl, inr, ℕ, ◌≤◌, Option, None, Some, List, [], refl, sym, ◌∙◌, ap, subst}
use Rattle.std.specs.Prelude.{option_map, Result, Ok, Err}
use Rattle.std.specs.Option.{ForSome}
use Rattle.std.proofs.lemmas.Option.{same_Some}
use Rattle.czi_rig.specs.declared.rig.Rig.{Ghosts}
use Rattle.czi_rig.specs.declared.file.File.{File}
use Rattle.czi_rig.specs.Disk.{Disk, Left, IsAtRest, at_rest}
use Rattle.czi_rig.specs.State.{State, Instant, known, seen_of}
use Rattle.czi_rig.specs.Moments.{Devices, devices, LeavesNow, Throughout, OnlyNow, FromSomeMoment}
use Rattle.czi_rig.specs.Quiet.{AddsNothing}
use Rattle.czi_rig.proofs.Files.{left_settled}
use Rattle.czi_rig.proofs.Known.{is_honest}
use Rattle.czi_rig.proofs.Runs.{always}
use Rattle.czi_links.specs.Record.{Record}
use Rattle.czi_links.specs.Reading.{Reading, Void, Holds, OfVersion, BadAt}
use Rattle.czi_journal.specs.Journals.{slot_of, SaysAsBeforeOrVoid}
use Rattle.czi_vault.specs.Recovered.{View, Stands, StandsNow, StandsFor, Makes, Recovered, applied}
use Rattle.czi_vault.proofs.Lists.{same_everywhere}
use Rattle.czi_opening.specs.declared.opening.Opened.{Opened}
use Rattle.czi_opening.specs.declared.error.OpenError.{OpenError}
use Rattle.czi_opening.specs.declared.error.OpenError.TheVariants.{JournalVersion, BadJournal, ImageShort, ForeignJournal, Refused, ImageDevice, JournalDevice, Memory}
use Rattle.czi_opening.specs.Course.{Stays, OpensFrom, StandsForItself}
use Rattle.czi_opening.specs.Steps.{CanBeOf}

-- a reading and an image stand for one list of bytes at most
pub stands_one : (r : Reading) (image b c : List ℕ) → StandsFor r image b → StandsFor r image c → b ≡ c
stands_one Void image b c p q = p ∙ sym q
stands_one (Holds r) image b c p q = p.is ∙ sym q.is
stands_one (OfVersion v) image b c p q = absurd p
stands_one (BadAt place) image b c p q = absurd p

rest_of : (o : Option Disk) (x : List ℕ) → ForSome o IsAtRest → option_map (λ (d : Disk). d.seen) o ≡ Some x → o ≡ Some (at_rest x)
rest_of None x rest is = cc
rest_of (Some d) x rest is = ap Some (rest d refl ∙ ap at_rest (same_Some d.seen x is))

pub rest_known : (s : State) (f : File) (x : List ℕ) → ForSome (known s f) IsAtRest → seen_of s f ≡ Some x → known s f ≡ Some (at_rest x)
rest_known s f x rest is = rest_of (known s f) x rest is

left_seen : (d : Disk) (left : List ℕ) → IsAtRest d → Left d.durable left → left ≡ d.seen
left_seen d left rest l = left_settled d.seen left (subst (λ e. Left e left) (ap (λ (x : Disk). x.durable) rest) l)

-- these bytes, without a hole
abbrev pub exactly : List ℕ → View
exactly bytes = record { bytes = bytes; holes = []; high = λ k none. absurd none }

pub exact : (bytes image journal : List ℕ) → Stands (exactly bytes) image journal → Recovered image journal bytes
exact bytes i j s = subst (λ (x : List ℕ). StandsFor (slot_of j) i x) (same_everywhere bytes s.bytes s.agrees) s.recovered

-- a pair that stands for the same bytes
pub repaired_stays : (all : Devices) (bytes : List ℕ) → Recovered all.image.seen all.journal.seen bytes
    → (image journal said : List ℕ) → Stands (exactly bytes) image journal × (said ≡ all.said) → Stays all image journal said
repaired_stays all bytes r i j o p = (
  record {
    same = λ b q. subst (λ (x : List ℕ). Recovered i j x) (stands_one (slot_of all.journal.seen) all.image.seen bytes b r q) (exact bytes i j p.0);
    none = λ never. absurd (never bytes r);
  },
  p.1,
)

module _ (all : Devices) (image : IsAtRest all.image) (journal : IsAtRest all.journal) where
  -- a crash leaves files that are synced
  pub rest_stays : (i j o : List ℕ) → LeavesNow all i j o → Stays all i j o
  rest_stays i j o l =
      let of_image : i ≡ all.image.seen = left_seen all.image i image l.image_is in
      let of_journal : j ≡ all.journal.seen = left_seen all.journal j journal l.journal_is in (
        record {
          same = λ bytes r. subst (λ (x : List ℕ). Recovered x j bytes) (sym of_image) (subst (λ (x : List ℕ). Recovered all.image.seen x bytes) (sym of_journal) r);
          none = λ never. (of_image, of_journal);
        },
        l.said_is,
      )

  module _ (r : Record) (holds : slot_of all.journal.seen ≡ Holds r) (fits : CanBeOf r.guid r.committed all.image.seen) where
    pub makes : Recovered all.image.seen all.journal.seen (applied r all.image.seen)
    makes =
        let made : Makes r all.image.seen (applied r all.image.seen) = record { long = fits.long; guid = fits.stored; is = refl } in
        subst (λ (read : Reading). StandsFor read all.image.seen (applied r all.image.seen)) (sym holds) made

    pub slots_hold : (j : List ℕ) → Left all.journal.durable j → slot_of j ≡ Holds r
    slots_hold j l = ap slot_of (left_seen all.journal j journal l) ∙ holds

    pub record_stands : StandsNow (exactly (applied r all.image.seen)) all
    record_stands i j o l = record {
      bytes = applied r all.image.seen;
      recovered = (rest_stays i j o l).0.same (applied r all.image.seen) makes;
      agrees = record { len = refl; each = λ k out. refl };
    }

-- while a journal is sealed beside an image that is at rest
pub closing_stands : (all : Devices) → IsAtRest all.image → StandsForItself all → (i j o : List ℕ)
    → Left all.image.durable i × SaysAsBeforeOrVoid all.journal.durable j × (o ≡ all.said) → Recovered i j all.image.seen × (o ≡ all.said)
closing_stands all rest own i j o p =
    let of_image : i ≡ all.image.seen = left_seen all.image i rest p.0 in (
      ⊎_elim
          (λ same. subst (λ (read : Reading). StandsFor read i all.image.seen) (sym same) (own i p.1.old all.said (record { image_is = p.0; journal_is = p.1.was; said_is = refl })))
          (λ void. subst (λ (read : Reading). StandsFor read i all.image.seen) (sym void) (sym of_image)) p.1.same,
      p.2,
    )

-- the same, both on the disk
abbrev pub both_rest : Devices → Devices
both_rest all = record { image = at_rest all.image.seen; journal = at_rest all.journal.seen; said = all.said }

module _ {D : Type 0} (rig : Ghosts D) where
  pub opens_from : (old new : D) (P : Instant) (result : Result Opened OpenError) → FromSomeMoment rig old new P → OpensFrom rig old new P result
  opens_from old new P (Ok opened) f = f
  opens_from old new P (Err (JournalVersion version)) f = f
  opens_from old new P (Err (BadJournal place)) f = f
  opens_from old new P (Err (ImageShort have need)) f = f
  opens_from old new P (Err (ForeignJournal journal image)) f = f
  opens_from old new P (Err (Refused refusal)) f = f
  opens_from old new P (Err ImageDevice) f = inr f
  opens_from old new P (Err JournalDevice) f = inr f
  opens_from old new P (Err Memory) f = f

  -- both files were synced, and from then on what a crash leaves has P
  pub from_synced : (old mid new : D) (all : Devices) (P : Instant) → OnlyNow rig → devices (rig.state old) ≡ Some all → AddsNothing rig old mid → (rig.state old).moment ≤ (rig.state mid).moment
      → devices (rig.state mid) ≡ Some (both_rest all)
      → ((image journal said : List ℕ) → LeavesNow (both_rest all) image journal said → P image journal said) → Throughout rig mid new P → FromSomeMoment rig old new P
  from_synced old mid new all P only is adds later synced here opened = record {
    then = mid;
    before = record { later = later; each = λ t i j o le left. inl (adds (is_honest (rig.state old) all is) t i j o le left) };
    after = opened;
    always = always rig (both_rest all) only synced opened here;
  }
