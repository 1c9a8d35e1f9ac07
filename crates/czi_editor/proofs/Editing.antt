-- A command that goes on, as a session takes it.
use Rattle.std.proofs.Common.{◌≡◌, ◌⊎◌, ⊎_elim, ℕ, List, Option, None, Some, IfSome, Result, Ok, Err, OnOk, refl, sym, ap, arith, ◌∙◌, subst}
use Rattle.std.specs.Prelude.{IsFalse, IsTrue, ◌≤◌}
use Rattle.std.proofs.lemmas.Option.{none-some, same_Some}
use Rattle.czi_machine.specs.Edit.{Refusal}
use Rattle.czi_machine.specs.Machine.{one_more}
use Rattle.czi_machine.specs.State.{State as MachineState}
use Rattle.czi_rig.specs.declared.file.File.TheVariants.{Image, Journal}
use Rattle.czi_rig.specs.State.{State, SameAll, SameFiles, known}
use Rattle.czi_rig.specs.declared.rig.Rig.{Ghosts}
use Rattle.czi_rig.specs.Passes.{GoesOn}
use Rattle.czi_rig.specs.Moments.{Devices, OnlyNow, devices, all_of}
use Rattle.czi_rig.specs.Spans.{EachTwo}
use Rattle.czi_rig.proofs.Files.{everywhere_weaker}
use Rattle.czi_opening.proofs.Restoring.{counts_armed}
use Rattle.czi_rig.proofs.Known.{known_file, known_said, known_seen, same_known, told_after}
use Rattle.czi_script.specs.Script.{Command}
use Rattle.czi_session.specs.Course.{EitherSide, Stands}
use Rattle.czi_session.proofs.Spoken.{resting_alike}
use Rattle.czi_engine.specs.Devices.{Fault, of_refusal, of_memory, of_device, device_in, is_device, refusal_in}
use Rattle.czi_engine.specs.Editing.{Accepts, Alike, AsBefore, DuringEdit, Goes, or_before, origin_after, state_by}
use Rattle.czi_engine.specs.Standing.{HasState, StandsOnRig}
use Rattle.czi_engine.specs.declared.engine.Engine.{Engine}
use Rattle.czi_engine.proofs.Same.{same_has, same_stands}
use Rattle.czi_editor.specs.Laws.{rests_now_of, stays_ready_of}
use Rattle.czi_editor.specs.Machine.{AtState, Begun, IsReady, the_machine}
use Rattle.czi_editor.specs.Replies.{Asked, after_asked, asked, edit_reply, leads, origin_asked, reply, reply_asked}
use Rattle.czi_report.specs.Replies.{no_line, ok_line}

-- the state of a run after what was asked
then_asked : Begun → Asked → Begun
then_asked b a = record { start = origin_asked b.start b.state a; journal = b.journal; state = after_asked b.state a }

-- such a command leads where it goes
pub leads_there : (b : Begun) (c : Command) (go : Goes) → asked c ≡ leads go → record { start = origin_after b.start (go b.state); journal = b.journal; state = state_by go b.state } ≡ the_machine.after b c
unfolding then_asked
leads_there b c go asks = ap (then_asked b) (sym asks)

pub sides : (b : Begun) (c : Command) (go : Goes) → asked c ≡ leads go → (before start : List ℕ) → before ≡ start → (image journal said : List ℕ) → DuringEdit b.start b.state go before image journal said
    → EitherSide the_machine b c start image journal said
sides b c go asks before start same image journal said d =
    let there : Begun → Type 0 = λ t. (the_machine.opens image journal b × the_machine.alone image b) ⊎ (the_machine.opens image journal t × (the_machine.alone image b ⊎ the_machine.alone image t)) in
    (subst there (leads_there b c go asks) d.0, d.1 ∙ same)

one_or_more : (n : ℕ) → 1 ≤ one_more n
one_or_more n = grind arith

module _ (x y : Engine) (old new : State) (said : List ℕ) (b : Begun) (go : Goes) (h : Stands the_machine (AtState x) old said b) where
  pub accepted_stands : (n : ℕ) → Accepts go b.start b.state new y.state n → StandsOnRig new y.state → IsTrue y.state.journal.armed → GoesOn old new → new.said ≡ old.said
      → Stands the_machine (AtState y) new said (record { start = origin_after b.start (go b.state); journal = b.journal; state = state_by go b.state })
  accepted_stands n a on armed goes same =
      let image = told_after old new Image h.now.image goes (known_file old Image h.now h.known) in
      let journal = told_after old new Journal h.now.journal goes (known_file old Journal h.now h.known) in
      let now : Devices = record { image = image.0; journal = journal.0; said = h.now.said } in
      let is : devices new ≡ Some now = λ k. all_of (image.1 k) (journal.1 k) ((same ∙ known_said old h.now h.known) k) in
      record {
        now = now;
        known = is;
        said_is = h.said_is;
        stands = record {
          rest = on.image image.0 image.1;
          itself = on.itself now is;
          holds = everywhere_weaker journal.0 (λ j counts.
              let some : 1 ≤ (or_before b.state (go b.state)).number = subst (λ (r : Result MachineState Refusal). 1 ≤ (or_before b.state r).number) (sym a.goes) (omega (arith, one_or_more b.state.number, a.counted, a.numbered)) in
              record { unedited = λ none. absurd (omega (arith, none, some)); edited = λ one. counts_armed y.state.journal.armed y.state.journal.selected j armed counts }) (on.armed journal.0 journal.1);
          live = a.live;
          has = subst (λ (r : Result MachineState Refusal). HasState (origin_after b.start r) image.0.seen a.live (or_before b.state r) y.state) (sym a.goes) (a.has image.0.seen (known_seen new Image now is));
        };
      }

  -- nothing changed
  pub kept_stands : AsBefore x.state y.state → SameAll old new → Stands the_machine (AtState y) new said b
  kept_stands engine same = record {
    now = h.now;
    known = same_known old new h.now h.known same;
    said_is = h.said_is;
    stands = record { rest = h.stands.rest; itself = h.stands.itself; holds = h.stands.holds; live = h.stands.live; has = same_has x.state y.state engine b.start h.now.image.seen h.stands.live b.state h.stands.has };
  }

  pub refused_stands : (r : Refusal) → go b.state ≡ Err r → AsBefore x.state y.state → SameAll old new → Stands the_machine (AtState y) new said (record { start = origin_after b.start (go b.state); journal = b.journal; state = state_by go b.state })
  refused_stands r refused engine same = subst (λ (a : Result MachineState Refusal). Stands the_machine (AtState y) new said (record { start = origin_after b.start a; journal = b.journal; state = or_before b.state a })) (sym refused) (kept_stands engine same)

-- the reply to it
pub ok_is : (s t : MachineState) (c : Command) (go : Goes) → asked c ≡ leads go → (n : ℕ) → go s ≡ Ok t → n ≡ t.number → ok_line n ≡ reply s c
ok_is s t c go asks n goes number = ap ok_line number ∙ (ap edit_reply (sym goes) ∙ ap (reply_asked s) (sym asks))

pub no_is : (s : MachineState) (c : Command) (go : Goes) → asked c ≡ leads go → (r : Refusal) → go s ≡ Err r → no_line r ≡ reply s c
no_is s c go asks r refused = ap edit_reply (sym refused) ∙ ap (reply_asked s) (sym asks)

-- a property of what is there
pub if_some : {A : Type 0} (o : Option A) (x : A) (P : A → Type 0) → o ≡ Some x → IfSome o P → P x
if_some None x P is all = absurd (none-some x is)
if_some (Some a) x P is all = subst P (same_Some a x is) all

-- a refusal isn't a fault of a device
pub no_device : (fault : Fault) (r : Refusal) → refusal_in fault ≡ Some r → IsFalse (is_device fault)
no_device (of_refusal refusal) r is = refl
no_device of_memory r is = refl
no_device (of_device device) r is = absurd (none-some r is)

-- nor is what the machine refuses, or want of memory
pub told_no_device : (fault : Fault) (r : Refusal) → (fault ≡ of_refusal r) ⊎ (fault ≡ of_memory) → device_in fault ≡ None
told_no_device (of_refusal refusal) r told = refl
told_no_device of_memory r told = refl
told_no_device (of_device device) r told = absurd (⊎_elim (λ is. cc) (λ is. cc) told)

-- a device that is as it was altogether
pub same_all : {D : Type 0} (rig : Ghosts D) {old new : D} → new ≡ old → SameAll (rig.state old) (rig.state new)
same_all rig same = record {
  image = ap (λ x. known (rig.state x) Image) same;
  journal = ap (λ x. known (rig.state x) Journal) same;
  said = ap (λ x. (rig.state x).said) same;
}

-- an engine whose edit was refused may be used
pub refused_ready : (x y : Engine) (old new : State) → IsReady x old → AsBefore x.state y.state → SameFiles old new → GoesOn old new → IsReady y new
refused_ready x y old new ready same files goes =
    let on = stays_ready_of x old new ready files goes in
    record { stands = same_stands x.state y.state same new on.stands; up = same.down ∙ on.up }

pub both_ok : {T E : Type 0} {P Q S : Type 0} (r : Result T E) → (P → Q → S) → OnOk r P → OnOk r Q → OnOk r S
both_ok (Ok t) f p q = f p q
both_ok (Err e) f p q = tt

-- any two pairs that a crash leaves where no call is made
pub unasked_alike : {D : Type 0} (rig : Ghosts D) → OnlyNow rig → (x : Engine) (r : D) (said : List ℕ) (b : Begun) → Stands the_machine (AtState x) (rig.state r) said b → EachTwo rig r r Alike
unasked_alike rig only x r said b h = resting_alike rig only the_machine (AtState x) (rests_now_of x) b said r h
