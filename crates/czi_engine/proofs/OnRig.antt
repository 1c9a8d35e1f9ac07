-- A prepared plan carried out on a rig: what an edit keeps to.
use Rattle.std.proofs.Common.{◌≡◌, ◌⊎◌, ℕ, zero, suc, ◌≤◌, [], ◌∷◌, List, map, take, length, Option, None, Some, Result, Ok, Err, option_map, true, true≢false, refl, ap, sym, ◌∙◌, subst, arith, inl, inr, ⊎_elim}
use Rattle.std.specs.Prelude.{IsErrAnd, IsTrue, IsFalse, slice_index}
use Rattle.std.specs.Option.{ForSome}
use Rattle.std.proofs.lemmas.Option.{same_Some}
use Rattle.std.proofs.lemmas.List.{length-take}
use Rattle.czi_commit.specs.Filled.{AreFree, filled}
use Rattle.czi_format.specs.Live.{Live}
use Rattle.czi_image.specs.Applied.{IsChanged, IsSame}
use Rattle.czi_image.specs.declared.index.Index.{Index}
use Rattle.czi_machine.specs.Edit.{Refusal}
use Rattle.czi_machine.specs.Machine.{one_more}
use Rattle.czi_machine.specs.State.{State as MachineState}
use Rattle.czi_machine.specs.LiveChange.{changed_live}
use Rattle.czi_num.specs.Span.{span_of}
use Rattle.czi_num.specs.declared.span.Span.{Span as CodeSpan}
use Rattle.czi_opening.specs.Answers.{IsJournal}
use Rattle.czi_plan.specs.Pieces.{writes_of}
use Rattle.czi_plan.specs.Plan.{extents_after}
use Rattle.czi_rig.specs.declared.rig.Rig.{Ghosts}
use Rattle.czi_rig.specs.declared.file.File.TheVariants.{Image, Journal}
use Rattle.czi_rig.specs.Disk.{Disk, Covers, Everywhere, IsAtRest, at_rest}
use Rattle.czi_rig.specs.State.{State, known}
use Rattle.czi_rig.specs.Passes.{GoesOn}
use Rattle.czi_rig.specs.Moments.{Devices, devices, all_of, LeavesNow, OnlyNow, Throughout}
use Rattle.czi_rig.specs.Spans.{EachTwo}
use Rattle.czi_rig.proofs.Known.{came_from, known_file, known_said, source_of, told_before}
use Rattle.czi_rig.proofs.Quiet.{untouched_here}
use Rattle.czi_rig.proofs.Runs.{started, weaker}
use Rattle.czi_rig.proofs.Spans.{during, each_two}
use Rattle.czi_format.specs.Span.{IsWhole}
use Rattle.czi_vault.specs.Alone.{HasBytes, KeepsOr}
use Rattle.czi_vault.specs.Puts.{ranges}
use Rattle.czi_vault.specs.Recovered.{Recovered, StandsNow, StandsOr, View}
use Rattle.czi_rig.specs.Faults.{Faults}
use Rattle.czi_vault.specs.Devices.{vault_device}
use Rattle.czi_vault.specs.declared.committing.VaultFault.{VaultFault}
use Rattle.czi_vault.specs.declared.committing.VaultFault.TheVariants as Vault
use Rattle.czi_engine.specs.Devices.{Fault, of_refusal, of_memory, of_device, device_in, edit_fault, is_device, undo_fault}
use Rattle.czi_engine.specs.Edited.{Commands, OnFiles, OnImage}
use Rattle.czi_engine.specs.Editing.{Accepts, Alike, AsBefore, DuringEdit, Goes, Refuses, error_of, undo_error_of}
use Rattle.czi_engine.specs.Holes.{AreHigh, view_of}
use Rattle.czi_engine.specs.Prepared.{IsPrepared, IsSameButDown}
use Rattle.czi_undo.specs.declared.inverse.Inverse.{Inverse}
use Rattle.czi_engine.specs.Standing.{FewKept, HasItsMap, HasSome, HasState, IsItself, Origin, StandsOnRig, origin_in}
use Rattle.czi_engine.specs.declared.engine.Engine.{Engine}
use Rattle.czi_engine.specs.declared.engine.EngineState.{EngineState}
use Rattle.czi_engine.proofs.Going.{has_next, high, kept_next, leaves_100, made_by, stands_next, touches, turn, writes_free}
use Rattle.czi_engine.proofs.Keeping.{rests_stands, during_edit, one_alike}
use Rattle.czi_engine.proofs.Same.{same_has, stays_has}

seen_is : (o : Option Disk) (disk : Disk) (bytes : List ℕ) → o ≡ Some disk → option_map (λ (d : Disk). d.seen) o ≡ Some bytes → disk.seen ≡ bytes
seen_is o disk bytes is seen = same_Some disk.seen bytes (sym (ap (option_map (λ (d : Disk). d.seen)) is) ∙ seen)

-- what a crash may leave stands for the bytes of the state
stands_now : (all : Devices) (s : MachineState) (up : AreHigh s) → IsAtRest all.image → IsItself all.image all.journal → StandsNow (view_of all.image.seen s up) all
stands_now all s up rest itself = rests_stands all all.image.seen s up (record { image = rest; recovers = λ i j o l. itself i j l.image_is l.journal_is })

-- what is said of carrying it out
abbrev pub Carried : {D : Type 0} → Ghosts D → Engine → D → D → Type 0
Carried rig x old new = ForSome (devices (rig.state old)) (λ all. (view : View) → StandsNow view all → HasBytes view all.image.seen → slice_index all.image.seen 100 ≡ 0
    → (Covers (ranges x.scratch.plan.links.links) 100 → ⊥) → AreFree view (filled x.state.index.length (writes_of x.scratch.region x.scratch.plan))
    → Throughout rig old new (λ image j said. KeepsOr view (made_by x all.image.seen) image j × (said ≡ all.said)))

keeps_stands : (view : View) (bytes image journal : List ℕ) → KeepsOr view bytes image journal → StandsOr view bytes image journal
keeps_stands view bytes image journal sides = ⊎_elim (λ keeps. inl keeps.0) (λ made. inr made.0) sides

module _ {D : Type 0} (rig : Ghosts D) (old new : D) (x : Engine) (go : Goes) (kept : List Inverse) (p : IsPrepared go x kept) (on : StandsOnRig (rig.state old) x.state) (carried : Carried rig x old new) where
  carried_on : (all : Devices) → devices (rig.state old) ≡ Some all → (o : Origin) (live : Live) (s : MachineState) → (has : HasState o all.image.seen live s x.state)
      → Throughout rig old new (λ image j said. KeepsOr (view_of all.image.seen s (high o all.image.seen live s x has on.own_map p.plan)) (made_by x all.image.seen) image j × (said ≡ all.said))
  carried_on all is o live s has =
      let up = high o all.image.seen live s x has on.own_map p.plan in
      carried all is (view_of all.image.seen s up) (stands_now all s up (on.image all.image (known_file (rig.state old) Image all is)) (on.itself all is))
      (record { long = omega arith; each = λ k lt out. refl }) (has.stands.settled 100 (omega arith) (omega arith))
      (leaves_100 o all.image.seen live s x has on.own_map p.plan go kept (p.means o all.image.seen live s has)) (writes_free o all.image.seen live s x has on.own_map p.plan)

  pub moments : OnFiles (rig.state old) x.state (λ all o s. Throughout rig old new (DuringEdit o s go all.said))
  moments all is o live s has =
      let bytes = all.image.seen in
      let by = p.means o bytes live s has in
      let up = high o bytes live s x has on.own_map p.plan in
      weaker rig (λ i j said sides. during_edit o bytes (made_by x bytes) i j said all.said live (changed_live (turn x) live) s by.state go up has.stands has.kept
      (stands_next o bytes live s x has on.own_map p.plan go kept by) (kept_next o bytes live s x has on.own_map p.plan go kept by) by.goes sides) (carried_on all is o live s has)

  pub alike : OnlyNow rig → OnFiles (rig.state old) x.state (λ all o s. EachTwo rig old new Alike)
  alike only all is o live s has =
      let bytes = all.image.seen in
      let by = p.means o bytes live s has in
      let up = high o bytes live s x has on.own_map p.plan in
      let rests = stands_now all s up (on.image all.image (known_file (rig.state old) Image all is)) (on.itself all is) in
      each_two rig Alike (λ i j said i' j' said' one two a b l m ra rb la lb. touches o bytes live s x has on.own_map p.plan go kept by i j i' j' a b l m one two ra rb la lb)
      (during rig all only is (weaker rig (λ i j said sides. keeps_stands (view_of bytes s up) (made_by x bytes) i j sides.0) (carried_on all is o live s has)) (λ i j said l. inl (rests i j said l)))

-- the engine afterwards
module _ (x : Engine) (y : EngineState) (go : Goes) (kept : List Inverse) (p : IsPrepared go x kept) (own : HasItsMap x.state)
    (index : IsChanged x.scratch.plan.change y.index.extents.items x.scratch.plan.length x.state.index y.index) (extents : map span_of y.index.extents.items ≡ extents_after x.scratch.plan x.state.map.extents)
    (edits : y.edits ≡ kept) (number : y.number ≡ one_more x.state.number) (old new : State)
    (image : known new Image ≡ option_map (λ (disk : Disk). at_rest (made_by x disk.seen)) (known old Image)) where
  has_after : (bytes : List ℕ) (o : Origin) (live : Live) (s : MachineState) → (has : HasState o bytes live s x.state) → (let by = p.means o bytes live s has in HasState (origin_in o by.state) (made_by x bytes) (changed_live (turn x) live) by.state y)
  has_after bytes o live s has = has_next o bytes live s x has own p.plan go kept (p.means o bytes live s has) y index extents edits number

  pub accepts : OnImage old x.state (λ o s. Accepts go o s new y y.number)
  accepts bytes seen o live s has =
      let by = p.means o bytes live s has in
      record {
        state = by.state;
        goes = by.goes;
        numbered = (has_after bytes o live s has).number;
        counted = number ∙ ap one_more has.number;
        live = changed_live (turn x) live;
        has = λ now is.
            let from = source_of (known old Image) (known new Image) (λ (disk : Disk). at_rest (made_by x disk.seen)) now image is in
            let same : from.disk.seen ≡ bytes = seen_is (known old Image) from.disk bytes from.known_before seen in
            subst (λ (b : List ℕ). HasState (origin_in o by.state) b (changed_live (turn x) live) by.state y) (ap (made_by x) (sym same) ∙ sym from.seen_is) (has_after bytes o live s has);
      }

  pub stands_after : StandsOnRig old x.state → HasItsMap y
      → ForSome (devices old) (λ all. ForSome (devices new) (λ now. (image j said : List ℕ) → LeavesNow now image j said → Recovered image j (made_by x all.image.seen)))
      → ForSome (known new Journal) (Everywhere (IsJournal y.journal)) → y.journal.armed ≡ true → GoesOn old new → new.said ≡ old.said → StandsOnRig new y
  stands_after on map_is committed journal armed goes said =
      let h : Disk → Disk = λ disk. at_rest (made_by x disk.seen) in
      record {
        image = λ disk is. let from = came_from (known old Image) (known new Image) h disk image is in subst IsAtRest (sym from.is) refl;
        itself = λ now is.
            let of_image = told_before old new Image now.image goes (known_file new Image now is) in
            let of_journal = told_before old new Journal now.journal goes (known_file new Journal now is) in
            let of_said : old.said ≡ Some now.said = sym said ∙ known_said new now is in
            let all : Devices = record { image = of_image.0; journal = of_journal.0; said = now.said } in
            let was : devices old ≡ Some all = λ k. all_of (of_image.1 k) (of_journal.1 k) (of_said k) in
            let made_is : now.image.seen ≡ made_by x all.image.seen =
            seen_is (known new Image) now.image (h all.image).seen (known_file new Image now is) (ap (option_map (λ (d : Disk). d.seen)) (image ∙ ap (option_map h) of_image.1)) in
            λ i j li lj. subst (λ (b : List ℕ). Recovered i j b) (sym made_is) (committed all was now is i j now.said (record { image_is = li; journal_is = lj; said_is = refl }));
        state = λ bytes is.
            let from = source_of (known old Image) (known new Image) h bytes image is in
            let some : HasSome from.disk.seen x.state = on.state from.disk.seen (ap (option_map (λ (d : Disk). d.seen)) from.known_before) in
            subst (λ (b : List ℕ). HasSome b y) (sym from.seen_is)
            (record { start = _; live = _; state = _; has = has_after from.disk.seen some.start some.live some.state some.has });
        armed = journal;
        idle = λ off. absurd (true≢false (sym armed ∙ off));
        own_map = map_is;
        few = subst FewKept (sym edits) p.few;
      }

-- a device's fault is no refusal
device_refuses : (go : Goes) (s : MachineState) (fault : Fault) → IsTrue (is_device fault) → Refuses go s fault
device_refuses go s (of_refusal refusal) is = absurd (true≢false (sym is))
device_refuses go s of_memory is = absurd (true≢false (sym is))
device_refuses go s (of_device device) is = tt

-- and a refusal leaves no doubt
refused_is : (go : Goes) (s : MachineState) (fault : Fault) (refusal : Refusal) → IsFalse (is_device fault) → Refuses go s fault → go s ≡ Err refusal → (fault ≡ of_refusal refusal) ⊎ (fault ≡ of_memory)
refused_is go s (of_refusal told) refusal off refuses goes = inl (let same : told ≡ refusal = cc (refuses, goes) in ap of_refusal same)
refused_is go s of_memory refusal off refuses goes = inr refl
refused_is go s (of_device device) refusal off refuses goes = absurd (true≢false off)

no_fault : (s : State) → Faults None s s
no_fault s = record { image_count = refl; journal_count = refl; output_count = refl }

no_cause : (s : State) (fault : Fault) → IsFalse (is_device fault) → Faults (device_in fault) s s
no_cause s (of_refusal refusal) off = no_fault s
no_cause s of_memory off = no_fault s
no_cause s (of_device device) off = absurd (true≢false off)

-- a fault of a file is one of a device, that of the file
pub failed_device : (fault : VaultFault) → is_device (edit_fault (error_of fault)) ≡ true
failed_device Vault.Image = refl
failed_device Vault.Journal = refl

pub undo_failed_device : (fault : VaultFault) → is_device (undo_fault (undo_error_of fault)) ≡ true
undo_failed_device Vault.Image = refl
undo_failed_device Vault.Journal = refl

pub undo_failed_at_device : (fault : VaultFault) → vault_device fault ≡ device_in (undo_fault (undo_error_of fault))
undo_failed_at_device Vault.Image = refl
undo_failed_at_device Vault.Journal = refl

pub failed_at_device : (fault : VaultFault) → vault_device fault ≡ device_in (edit_fault (error_of fault))
failed_at_device Vault.Image = refl
failed_at_device Vault.Journal = refl

not_both : (go : Goes) (s s' : MachineState) (refusal : Refusal) → go s ≡ Ok s' → go s ≡ Err refusal → ⊥
not_both go s s' refusal goes refused = cc (goes, refused)

module _ {D E : Type 0} (tells : E → Fault) (rig : Ghosts D) (old new : D) (x : Engine) (go : Goes) (kept : List Inverse) (p : IsPrepared go x kept) (on : StandsOnRig (rig.state old) x.state) (carried : Carried rig x old new) (only : OnlyNow rig)
    (said : (rig.state new).said ≡ (rig.state old).said) (goes_on : GoesOn (rig.state old) (rig.state new)) where
  -- the plan was carried out and taken over
  pub edited_ok : (y : EngineState) → IsChanged x.scratch.plan.change y.index.extents.items x.scratch.plan.length x.state.index y.index → map span_of y.index.extents.items ≡ extents_after x.scratch.plan x.state.map.extents
      → HasItsMap y → y.edits ≡ kept → y.number ≡ one_more x.state.number → IsFalse y.down
      → known (rig.state new) Image ≡ option_map (λ (disk : Disk). at_rest (made_by x disk.seen)) (known (rig.state old) Image)
      → ForSome (devices (rig.state old)) (λ all. ForSome (devices (rig.state new)) (λ now. (image j said : List ℕ) → LeavesNow now image j said → Recovered image j (made_by x all.image.seen)))
      → ForSome (known (rig.state new) Journal) (Everywhere (IsJournal y.journal)) → y.journal.armed ≡ true → Faults None (rig.state old) (rig.state new) → Commands tells rig go old new x.state y (Ok y.number)
  edited_ok y index extents map_is edits number up image committed journal armed cause =
      record {
        moments = moments rig old new x go kept p on carried;
        alike = alike rig old new x go kept p on carried only;
        accepted = accepts x y go kept p on.own_map index extents edits number (rig.state old) (rig.state new) image;
        stands = stands_after x y go kept p on.own_map index extents edits number (rig.state old) (rig.state new) image on map_is committed journal armed goes_on said;
        up = up;
        armed = armed;
        refused = tt;
        refuses = λ bytes seen o live s has refusal refused. let by = p.means o bytes live s has in not_both go s by.state refusal by.goes refused;
        quiet = tt;
        down = tt;
        said = said;
        goes_on = goes_on;
        cause = cause;
      }

  -- a device failed
  pub edited_err : (y : EngineState) (error : E) → IsTrue (is_device (tells error)) → IsTrue y.down → Faults (device_in (tells error)) (rig.state old) (rig.state new) → Commands tells rig go old new x.state y (Err error)
  edited_err y error device down cause = record {
    moments = moments rig old new x go kept p on carried;
    alike = alike rig old new x go kept p on carried only;
    accepted = tt;
    stands = tt;
    up = tt;
    armed = tt;
    refused = λ bytes seen o live s has. device_refuses go s (tells error) device;
    refuses = λ bytes seen o live s has refusal refused. absurd (let by = p.means o bytes live s has in not_both go s by.state refusal by.goes refused);
    quiet = λ off. absurd (true≢false (sym device ∙ off));
    down = down ∙ sym device;
    said = said;
    goes_on = goes_on;
    cause = cause;
  }

-- nothing was asked of a device
pub edited_none : {D E : Type 0} (tells : E → Fault) (rig : Ghosts D) (r : D) (only : OnlyNow rig) (itself : ForSome (devices (rig.state r)) (λ all. IsItself all.image all.journal)) (x y : EngineState) (go : Goes) (error : E) → IsFalse x.down → IsFalse (is_device (tells error)) → AsBefore x y
    → ((o : Origin) (bytes : List ℕ) (live : Live) (s : MachineState) → HasState o bytes live s x → Refuses go s (tells error)) → Commands tells rig go r r x y (Err error)
edited_none tells rig r only itself x y go error up off same refuses = record {
  moments = λ all is o live s has. started rig r (DuringEdit o s go all.said);
  alike = λ all is o live s has. each_two rig Alike (λ i j said i' j' said' one two. one_alike all.image.seen i j i' j' one two)
      (during rig all only is (started rig r (λ i j said. Recovered i j all.image.seen)) (λ i j said l. itself all is i j l.image_is l.journal_is));
  accepted = tt;
  stands = tt;
  up = tt;
  armed = tt;
  refused = λ bytes seen o live s has. refuses o bytes live s has;
  refuses = λ bytes seen o live s has refusal refused. refused_is go s (tells error) refusal off (refuses o bytes live s has) refused;
  quiet = λ none. (refl, same);
  down = same.down ∙ (up ∙ sym off);
  said = refl;
  goes_on = (untouched_here rig r).goes_on;
  cause = no_cause (rig.state r) (tells error) off;
}

same_index : (a b c : Index) → IsSame a b → IsSame b c → IsSame a c
same_index a b c p q = record {
  header = q.header ∙ p.header;
  length = q.length ∙ p.length;
  directory = q.directory ∙ p.directory;
  tiles = q.tiles ∙ p.tiles;
  attdir = q.attdir ∙ p.attdir;
  attachments = q.attachments ∙ p.attachments;
  metadata = q.metadata ∙ p.metadata;
  extents = q.extents ∙ p.extents;
  unknown = q.unknown ∙ p.unknown;
  walk_end = q.walk_end ∙ p.walk_end;
}

pub before_then : (a b c : EngineState) → AsBefore a b → AsBefore b c → AsBefore a c
before_then a b c p q = record {
  journal = q.journal ∙ p.journal;
  index = same_index a.index b.index c.index p.index q.index;
  map = record { extents = q.map.extents ∙ p.map.extents; held = q.map.held ∙ p.map.held; length = q.map.length ∙ p.map.length };
  edits = q.edits ∙ p.edits;
  number = q.number ∙ p.number;
  down = q.down ∙ p.down;
}

-- what an edit keeps to, told by an engine that was as this one
pub edited_from : {D E : Type 0} (tells : E → Fault) (rig : Ghosts D) (old new : D) (x z y : EngineState) (go : Goes) (number : ℕ) → AsBefore x z → Commands tells rig go old new z y (Ok number) → Commands tells rig go old new x y (Ok number)
edited_from tells rig old new x z y go number same e = record {
  moments = λ all is o live s has. e.moments all is o live s (same_has x z same o all.image.seen live s has);
  alike = λ all is o live s has. e.alike all is o live s (same_has x z same o all.image.seen live s has);
  accepted = λ bytes seen o live s has. e.accepted bytes seen o live s (same_has x z same o bytes live s has);
  stands = e.stands;
  up = e.up;
  armed = e.armed;
  refused = tt;
  refuses = λ bytes seen o live s has. e.refuses bytes seen o live s (same_has x z same o bytes live s has);
  quiet = tt;
  down = tt;
  said = e.said;
  goes_on = e.goes_on;
  cause = e.cause;
}

pub edited_from_err : {D E : Type 0} (tells : E → Fault) (rig : Ghosts D) (old new : D) (x z y : EngineState) (go : Goes) (error : E) → AsBefore x z → Commands tells rig go old new z y (Err error) → Commands tells rig go old new x y (Err error)
edited_from_err tells rig old new x z y go error same e = record {
  moments = λ all is o live s has. e.moments all is o live s (same_has x z same o all.image.seen live s has);
  alike = λ all is o live s has. e.alike all is o live s (same_has x z same o all.image.seen live s has);
  accepted = tt;
  stands = tt;
  up = tt;
  armed = tt;
  refused = λ bytes seen o live s has. e.refused bytes seen o live s (same_has x z same o bytes live s has);
  refuses = λ bytes seen o live s has. e.refuses bytes seen o live s (same_has x z same o bytes live s has);
  quiet = λ off. let u = e.quiet off in (u.0, before_then x z y same u.1);
  down = e.down;
  said = e.said;
  goes_on = e.goes_on;
  cause = e.cause;
}

pub edited_as : {D E : Type 0} (tells : E → Fault) (rig : Ghosts D) (old new : D) (x z y : EngineState) (go : Goes) (result : Result ℕ E) → AsBefore x z → Commands tells rig go old new z y result → Commands tells rig go old new x y result
edited_as tells rig old new x z y go (Ok number) same e = edited_from tells rig old new x z y go number same e
edited_as tells rig old new x z y go (Err error) same e = edited_from_err tells rig old new x z y go error same e

-- a command that was carried out, told by an engine that was as this one, but that it wasn't down
pub edited_up : {D E : Type 0} (tells : E → Fault) (rig : Ghosts D) (old new : D) (x z y : EngineState) (go : Goes) (number : ℕ) → IsSameButDown x z → Commands tells rig go old new z y (Ok number) → Commands tells rig go old new x y (Ok number)
edited_up tells rig old new x z y go number same e = record {
  moments = λ all is o live s has. e.moments all is o live s (stays_has x z same o all.image.seen live s has);
  alike = λ all is o live s has. e.alike all is o live s (stays_has x z same o all.image.seen live s has);
  accepted = λ bytes seen o live s has. e.accepted bytes seen o live s (stays_has x z same o bytes live s has);
  stands = e.stands;
  up = e.up;
  armed = e.armed;
  refused = tt;
  refuses = λ bytes seen o live s has. e.refuses bytes seen o live s (stays_has x z same o bytes live s has);
  quiet = tt;
  down = tt;
  said = e.said;
  goes_on = e.goes_on;
  cause = e.cause;
}

-- or that a device failed
pub edited_down : {D E : Type 0} (tells : E → Fault) (rig : Ghosts D) (old new : D) (x z y : EngineState) (go : Goes) (error : E) → IsTrue (is_device (tells error)) → IsSameButDown x z → Commands tells rig go old new z y (Err error) → Commands tells rig go old new x y (Err error)
edited_down tells rig old new x z y go error device same e = record {
  moments = λ all is o live s has. e.moments all is o live s (stays_has x z same o all.image.seen live s has);
  alike = λ all is o live s has. e.alike all is o live s (stays_has x z same o all.image.seen live s has);
  accepted = tt;
  stands = tt;
  up = tt;
  armed = tt;
  refused = λ bytes seen o live s has. e.refused bytes seen o live s (stays_has x z same o bytes live s has);
  refuses = λ bytes seen o live s has. e.refuses bytes seen o live s (stays_has x z same o bytes live s has);
  quiet = λ off. absurd (true≢false (sym device ∙ off));
  down = e.down;
  said = e.said;
  goes_on = e.goes_on;
  cause = e.cause;
}

-- the answer of a command that isn't done
pub answered : {D E : Type 0} (tells : E → Fault) (rig : Ghosts D) (old new : D) (x y : EngineState) (go : Goes) (error : E) (result : Result ℕ E) → IsErrAnd result (λ e. e ≡ error) → Commands tells rig go old new x y (Err error) → Commands tells rig go old new x y result
answered tells rig old new x y go error (Ok n) none done = absurd none
answered tells rig old new x y go error (Err e) is done = subst (λ z. Commands tells rig go old new x y (Err z)) (sym is) done
