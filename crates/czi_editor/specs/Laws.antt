-- The laws of an editor hold of an engine.
use Rattle.std.specs.Prelude.{◌≡◌, ℕ, ◌<◌, ◌==◌, List, ◌++◌, Bool, true, false, if◌then◌else◌, codes, length, Option, Some, None, is_some, option_map, refl, Result, Ok, Err}
use Rattle.std.proofs.Common.{sym, ◌∙◌, ap, arith, subst}
use Rattle.std.proofs.Math.Nat.{zero-lt-suc}
use Rattle.std.proofs.lemmas.Bool.{false≢true}
use Rattle.czi_rig.specs.declared.file.File.TheVariants.{Image, Journal}
use Rattle.czi_rig.specs.Disk.{Disk, IsAtRest, Left}
use Rattle.czi_rig.specs.State.{State, SameFiles}
use Rattle.czi_rig.specs.Passes.{GoesOn}
use Rattle.czi_rig.specs.Moments.{Devices, devices, all_of}
use Rattle.czi_rig.proofs.Files.{left_settled}
use Rattle.czi_rig.proofs.Known.{known_file, known_said}
use Rattle.czi_format.specs.Live.{Live}
use Rattle.czi_journal.specs.Journals.{slot_of}
use Rattle.czi_format.specs.Document.{Subblock}
use Rattle.czi_format.specs.Painting.{Query}
use Rattle.czi_format.specs.PaintRefusals.{PaintRefusal, too_long, compressed, kind, mixed, short_data, region_refusal}
use Rattle.czi_report.specs.Pnm.{pnm_head}
use Rattle.czi_editor.specs.Regions.{region_said}
use Rattle.czi_machine.specs.Edit.{Refusal, too_long as too_long_edit, no_key, duplicate, too_many, nothing, full}
use Rattle.czi_machine.specs.Machine.{after_edit}
use Rattle.czi_machine.specs.State.{State as MachineState}
use Rattle.czi_report.specs.Refusals.{cause_text}
use Rattle.czi_report.specs.Replies.{no_line, ok_line}
use Rattle.czi_report.specs.States.{list_of, info_of}
use Rattle.czi_report.specs.Text.{check_text, items_text, map_text, text_line}
use Rattle.czi_script.specs.Script.{Command, Add, Replace, Remove, Attach, Reattach, Detach, SetMeta, Undo, Region, Listing, Info, Map, Check, Past}
use Rattle.czi_opening.proofs.Verdict.{one_cause}
use Rattle.czi_engine.specs.declared.engine.Engine.{Engine}
use Rattle.czi_engine.specs.Editing.{ShowsAlone}
use Rattle.czi_engine.specs.Standing.{IsItself, KeepsItems}
use Rattle.czi_engine.specs.Stands.{StandsOn}
use Rattle.czi_engine.proofs.Keeping.{has_opens, one_alike, shows_alone}
use Rattle.czi_session.specs.Course.{Rests, Unsealed}
use Rattle.czi_editor.specs.Machine.{AtState, Begins, Begun, HoldsAt, IsReady, IsRefused, the_machine}
use Rattle.czi_editor.specs.Replies.{Asked, asked, leads, tells, edit_reply, reply, reply_asked}

-- files of a state, of which every pair that a crash leaves stands for the image, rest at it
pub rests_at : (b : Begun) (image journal : Disk) (live : Live) → IsAtRest image → IsItself image journal → StandsOn b.start.bytes image.seen live b.state → KeepsItems b.start image.seen b.state.layout
    → Rests the_machine image journal b
rests_at b image journal live rest itself stands kept = record {
  opens = λ i j li lj. has_opens b.start image.seen i j live b.state stands kept (itself i j li lj);
  alone = λ i li. subst (λ (z : List ℕ). ShowsAlone z b.state.document) (sym (left_settled image.seen i (subst (λ (d : Disk). Left d.durable i) rest li))) (shows_alone b.start.bytes image.seen live b.state stands);
  itself = itself;
  alike = λ i j i' j' li lj li' lj'. one_alike image.seen i j i' j' (itself i j li lj) (itself i' j' li' lj');
}

-- an engine's do, and their journal isn't sealed
pub rests_now_of : (x : Engine) (image journal : Disk) (b : Begun) → AtState x image journal b → Unsealed the_machine image journal b
rests_now_of x image journal b at = record { rests = rests_at b image journal at.live at.rest at.itself at.has.stands at.has.kept; holds = at.holds }

-- nor is the journal of files at which a run begins
pub begins_unsealed_of : (image journal : List ℕ) (b : Begun) → Begins image journal b → HoldsAt b journal
begins_unsealed_of image journal b is = record { unedited = λ none. ap slot_of is.own; edited = λ some. absurd (omega (arith, some, is.fresh.number)) }

said_before : (old new : Option (List ℕ)) (b : List ℕ) → is_some new ≡ is_some old → new ≡ Some b → (a : List ℕ) × (old ≡ Some a)
said_before None new b same is = absurd (false≢true (sym same ∙ ap is_some is))
said_before (Some a) new b same is = (a, refl)

-- an engine stays ready while something is said
pub stays_ready_of : (x : Engine) (old new : State) → IsReady x old → SameFiles old new → GoesOn old new → IsReady x new
stays_ready_of x old new ready files goes =
    let on = ready.stands in
    record {
      stands = record {
        image = λ disk is. on.image disk (sym files.image ∙ is);
        itself = λ now is.
            let said = said_before old.said new.said now.said goes.tells_said (known_said new now is) in
            let all : Devices = record { image = now.image; journal = now.journal; said = said.0 } in
            let was : devices old ≡ Some all = λ k. all_of ((sym files.image ∙ known_file new Image now is) k) ((sym files.journal ∙ known_file new Journal now is) k) (said.1 k) in
            on.itself all was;
        state = λ bytes is. on.state bytes (ap (option_map (λ (d : Disk). d.seen)) (sym files.image) ∙ is);
        armed = λ disk is. on.armed disk (sym files.journal ∙ is);
        idle = λ off disk is. on.idle off disk (sym files.journal ∙ is);
        own_map = on.own_map;
        few = on.few;
      };
      up = ready.up;
    }

no_some : (r : Refusal) → 0 < length (no_line r)
unfolding no_line text_line
no_some (too_long_edit n limit) = zero-lt-suc _
no_some no_key = zero-lt-suc _
no_some (duplicate place) = zero-lt-suc _
no_some (too_many count) = zero-lt-suc _
no_some nothing = zero-lt-suc _
no_some (full need n) = zero-lt-suc _

edit_some : (r : Result MachineState Refusal) → 0 < length (edit_reply r)
unfolding ok_line text_line
edit_some (Ok s) = zero-lt-suc _
edit_some (Err refusal) = no_some refusal

kind_some : (b : Bool) (head rows : List ℕ) → 0 < length (((if b then codes "P5" else codes "P6") ++ head) ++ rows)
kind_some true head rows = zero-lt-suc _
kind_some false head rows = zero-lt-suc _

region_some : (refusal : Option PaintRefusal) (q : Query) (subblocks : List Subblock) → 0 < length (region_said refusal q subblocks)
unfolding pnm_head text_line
region_some None q subblocks = kind_some (q.pixel.samples == 1) _ _
region_some (Some (too_long bytes limit)) q subblocks = zero-lt-suc _
region_some (Some (compressed place)) q subblocks = zero-lt-suc _
region_some (Some (kind place)) q subblocks = zero-lt-suc _
region_some (Some (mixed place)) q subblocks = zero-lt-suc _
region_some (Some (short_data place)) q subblocks = zero-lt-suc _

-- what tells something of the state is never empty
TellsSome : Asked → Type 0
TellsSome (leads go) = Unit {0}
TellsSome (tells text) = (s : MachineState) → 0 < length (text s)

tells_some : (c : Command) → TellsSome (asked c)
unfolding TellsSome list_of info_of map_text check_text items_text text_line
tells_some (Add info meta pixels tail) = tt
tells_some (Replace info meta pixels tail) = tt
tells_some (Remove dims) = tt
tells_some (Attach info bytes) = tt
tells_some (Reattach info bytes) = tt
tells_some (Detach name) = tt
tells_some (SetMeta xml tail) = tt
tells_some Undo = tt
tells_some (Region q) = λ s. region_some (region_refusal q s.document.subblocks) q s.document.subblocks
tells_some Listing = λ s. zero-lt-suc _
tells_some Info = λ s. zero-lt-suc _
tells_some Map = λ s. zero-lt-suc _
tells_some Check = λ s. zero-lt-suc _
tells_some (Past len limit) = λ s. no_some (too_long_edit len limit)

says_some : (s : MachineState) (a : Asked) → TellsSome a → 0 < length (reply_asked s a)
unfolding TellsSome
says_some s (leads go) some = edit_some (go s)
says_some s (tells text) some = some s

-- no reply is empty
pub each_says : (s : MachineState) (c : Command) → 0 < length (reply s c)
each_says s c = says_some s (asked c) (tells_some c)

-- a pair is refused with one text
pub refused_once_of : (image journal text other : List ℕ) → IsRefused image journal text → IsRefused image journal other → text ≡ other
refused_once_of image journal text other first again = first.text_is ∙ ap cause_text (one_cause image journal first.cause again.cause first.refused again.refused) ∙ sym again.text_is
