use Rattle.std.proofs.Common.{◌≡◌, ◌∙◌, ℕ, ◌≤◌, List, length, take, drop, refl, sym, subst, arith}
use Rattle.std.specs.Prelude.{option_map}
use Rattle.std.specs.List.{AllByRecursion}
use Rattle.czi_rig.specs.declared.file.File.TheVariants.{Image, Journal}
use Rattle.czi_rig.specs.Disk.{at_rest}
use Rattle.czi_rig.specs.Moments.{with_file}
use Rattle.czi_rig.specs.State.{seen_of}
use Rattle.czi_rig.proofs.Files.{everywhere_weaker}
use Rattle.czi_rig.proofs.Known.{file_known, known_file, known_seen, leaves_then, still_known}
use Rattle.czi_links.specs.Record.{record_of}
use Rattle.czi_region.specs.declared.block.Piece.{Piece}
use Rattle.czi_region.specs.Pieces.{IsPiece}
use Rattle.czi_vault.specs.Recovered.{applied, with_links}
use Rattle.czi_commit.specs.Filled.{AreFree, filled}
use Rattle.czi_plan.specs.Pieces.{bytes_in, writes_of}
use Rattle.czi_commit.specs.Made.{made, step_of}
use Rattle.czi_commit.proofs.Arming.{begins_keeping, counts_armed, has_alone, is_ready}
use Rattle.czi_commit.proofs.Carrying.{course_begins, course_ends, course_fails, course_next, image_committed, image_known, image_seen, image_settled, journal_counts, on_ok}
use Rattle.czi_commit.proofs.Gaps.{filled_front, guid_filled, last_end-least, length-filled, mapped_has}
use Rattle.czi_commit.proofs.Standing.{prefill_keeps}
use Rattle.czi_commit.proofs.steps.carry_out.Goals as goal

pub arm-requires-clause-greatest : goal.arm-requires-clause-greatest
arm-requires-clause-greatest g c = omega (arith, last_end-least c.args.file.now.length (writes_of c.args.region.now c.args.plan.now), c.requires.ready.fits.small)

pub fill-requires-clause-pieces : goal.fill-requires-clause-pieces
fill-requires-clause-pieces g c = subst (AllByRecursion (λ (w : ℕ × Piece). IsPiece c.args.region.now w.1)) (sym c.deref.ensures.value) c.requires.ready.staged

pub commit-requires-clause-counts : goal.commit-requires-clause-counts
commit-requires-clause-counts g c = λ disk is. c.in-Ok.ensures.counts disk (sym (c.settle.ensures.other.file ∙ c.fill.ensures.other.file) ∙ is)

pub commit-requires-clause-in_file : goal.commit-requires-clause-in_file
commit-requires-clause-in_file g c =
    let s = g.R.Rig.state c.args.rig.now in
    let one = g.R.Rig.state c.arm.new.rig in
    let two = g.R.Rig.state c.fill.new.rig in
    let three = g.R.Rig.state c.settle.new.rig in
    let len = c.args.file.now.length in
    let region = c.args.region.now in
    let fills = with_links (filled len (writes_of region c.args.plan.now)) in
    let wrote : seen_of two Image ≡ option_map fills (seen_of one Image)
    = subst (λ (ws : List (ℕ × Piece)). seen_of two Image ≡ option_map (with_links (filled len (bytes_in region ws))) (seen_of one Image)) c.deref.ensures.value c.in-Ok-fill.ensures.written in
    let settled = image_settled s one two three fills c.arm.ensures.other.file wrote c.in-Ok-settle.ensures.ok in
    mapped_has (λ (x : List ℕ). length x ≡ len) (λ (x : List ℕ). c.args.plan.now.length ≤ length x) fills (seen_of s Image) (seen_of three Image) (image_seen s three fills settled) c.requires.ready.whole
    (λ x e. omega (arith, length-filled len (writes_of region c.args.plan.now) x e, c.requires.ready.fits.long))

pub commit-requires-clause-guid : goal.commit-requires-clause-guid
commit-requires-clause-guid g c =
    let s = g.R.Rig.state c.args.rig.now in
    let one = g.R.Rig.state c.arm.new.rig in
    let two = g.R.Rig.state c.fill.new.rig in
    let three = g.R.Rig.state c.settle.new.rig in
    let len = c.args.file.now.length in
    let region = c.args.region.now in
    let fills = with_links (filled len (writes_of region c.args.plan.now)) in
    let wrote : seen_of two Image ≡ option_map fills (seen_of one Image)
    = subst (λ (ws : List (ℕ × Piece)). seen_of two Image ≡ option_map (with_links (filled len (bytes_in region ws))) (seen_of one Image)) c.deref.ensures.value c.in-Ok-fill.ensures.written in
    let settled = image_settled s one two three fills c.arm.ensures.other.file wrote c.in-Ok-settle.ensures.ok in
    mapped_has (λ (x : List ℕ). (length x ≡ len) × (take 16 (drop 64 x) ≡ c.args.file.now.guid)) (λ (x : List ℕ). take 16 (drop 64 x) ≡ c.args.file.now.guid) fills (seen_of s Image) (seen_of three Image)
    (image_seen s three fills settled) (λ x is. (c.requires.ready.whole x is, c.requires.ready.guid x is))
    (λ x p. guid_filled len (writes_of region c.args.plan.now) x p.0 (omega (arith, c.requires.ready.fits.header)) c.requires.ready.fits.behind ∙ p.1)

pub returns-in-Err-clause-moments : goal.returns-in-Err-clause-moments
returns-in-Err-clause-moments g c = λ all is view stands has zero off free.
    let m = g.met.R.Rig in
    let rig = g.R.Rig in
    let first = c.args.rig.now in
    let here = known_file (rig.state first) Image all is in
    let seen = known_seen (rig.state first) Image all is in
    let ready = is_ready c.args.file.now all.image (c.requires.ready.rest all.image here) (c.requires.ready.whole all.image.seen seen) (c.requires.ready.guid all.image.seen seen) zero in
    let begun = course_begins rig m.counts_now m.only_now first all view is (begins_keeping all view (c.requires.ready.rest all.image here) stands has) in
    let new = made c.args.file.now.length (step_of c.args.file.now c.args.region.now c.args.plan.now) all.image.seen in
    let arming = c.arm.ensures.moments all is view begun.stands ready in
    course_fails rig m.counts_now m.only_now new begun arming

pub returns-in-Err-fill-clause-moments : goal.returns-in-Err-fill-clause-moments
returns-in-Err-fill-clause-moments g c = λ all is view stands has zero off free.
    let m = g.met.R.Rig in
    let rig = g.R.Rig in
    let first = c.args.rig.now in
    let here = known_file (rig.state first) Image all is in
    let seen = known_seen (rig.state first) Image all is in
    let ready = is_ready c.args.file.now all.image (c.requires.ready.rest all.image here) (c.requires.ready.whole all.image.seen seen) (c.requires.ready.guid all.image.seen seen) zero in
    let begun = course_begins rig m.counts_now m.only_now first all view is (begins_keeping all view (c.requires.ready.rest all.image here) stands has) in
    let new = made c.args.file.now.length (step_of c.args.file.now c.args.region.now c.args.plan.now) all.image.seen in
    let arming = c.arm.ensures.moments all is view begun.stands ready in
    let still = still_known (rig.state first) (rig.state c.arm.new.rig) Journal all is c.arm.ensures.other c.arm.ensures.goes_on in
    let armed = course_next rig m.counts_now m.only_now (with_file all Journal still.disk) begun arming still.known refl in
    let counted = journal_counts (rig.state c.arm.new.rig) (with_file all Journal still.disk) c.arm.new.journal.selected still.known c.in-Ok.ensures.counts in
    let free_here = subst (λ (ws : List (ℕ × Piece)). AreFree view (filled c.args.file.now.length (bytes_in c.args.region.now ws))) (sym c.deref.ensures.value) free in
    let filling = c.fill.ensures.moments (with_file all Journal still.disk) still.known view armed.stands counted free_here in
    course_fails rig m.counts_now m.only_now new armed filling

pub returns-in-Err-settle-clause-moments : goal.returns-in-Err-settle-clause-moments
returns-in-Err-settle-clause-moments g c = λ all is view stands has zero off free.
    let m = g.met.R.Rig in
    let rig = g.R.Rig in
    let first = c.args.rig.now in
    let here = known_file (rig.state first) Image all is in
    let seen = known_seen (rig.state first) Image all is in
    let ready = is_ready c.args.file.now all.image (c.requires.ready.rest all.image here) (c.requires.ready.whole all.image.seen seen) (c.requires.ready.guid all.image.seen seen) zero in
    let begun = course_begins rig m.counts_now m.only_now first all view is (begins_keeping all view (c.requires.ready.rest all.image here) stands has) in
    let new = made c.args.file.now.length (step_of c.args.file.now c.args.region.now c.args.plan.now) all.image.seen in
    let arming = c.arm.ensures.moments all is view begun.stands ready in
    let still = still_known (rig.state first) (rig.state c.arm.new.rig) Journal all is c.arm.ensures.other c.arm.ensures.goes_on in
    let armed = course_next rig m.counts_now m.only_now (with_file all Journal still.disk) begun arming still.known refl in
    let counted = journal_counts (rig.state c.arm.new.rig) (with_file all Journal still.disk) c.arm.new.journal.selected still.known c.in-Ok.ensures.counts in
    let free_here = subst (λ (ws : List (ℕ × Piece)). AreFree view (filled c.args.file.now.length (bytes_in c.args.region.now ws))) (sym c.deref.ensures.value) free in
    let filling = c.fill.ensures.moments (with_file all Journal still.disk) still.known view armed.stands counted free_here in
    let later = still_known (rig.state c.arm.new.rig) (rig.state c.fill.new.rig) Image (with_file all Journal still.disk) still.known c.fill.ensures.other c.fill.ensures.goes_on in
    let full = course_next rig m.counts_now m.only_now (with_file (with_file all Journal still.disk) Image later.disk) armed filling later.known refl in
    let settling = prefill_keeps rig (c.settle.ensures.moments (with_file (with_file all Journal still.disk) Image later.disk) later.known view (λ i j o l. (full.stands i j o l).0))
    (c.settle.ensures.alone (with_file (with_file all Journal still.disk) Image later.disk) later.known view (λ i j o l. (full.stands i j o l).1)) in
    course_fails rig m.counts_now m.only_now new full settling

pub returns-clause-moments : goal.returns-clause-moments
returns-clause-moments g c = λ all is view stands has zero off free.
    let m = g.met.R.Rig in
    let rig = g.R.Rig in
    let first = c.args.rig.now in
    let here = known_file (rig.state first) Image all is in
    let seen = known_seen (rig.state first) Image all is in
    let ready = is_ready c.args.file.now all.image (c.requires.ready.rest all.image here) (c.requires.ready.whole all.image.seen seen) (c.requires.ready.guid all.image.seen seen) zero in
    let begun = course_begins rig m.counts_now m.only_now first all view is (begins_keeping all view (c.requires.ready.rest all.image here) stands has) in
    let new = made c.args.file.now.length (step_of c.args.file.now c.args.region.now c.args.plan.now) all.image.seen in
    let arming = c.arm.ensures.moments all is view begun.stands ready in
    let still = still_known (rig.state first) (rig.state c.arm.new.rig) Journal all is c.arm.ensures.other c.arm.ensures.goes_on in
    let armed = course_next rig m.counts_now m.only_now (with_file all Journal still.disk) begun arming still.known refl in
    let counted = journal_counts (rig.state c.arm.new.rig) (with_file all Journal still.disk) c.arm.new.journal.selected still.known c.in-Ok.ensures.counts in
    let free_here = subst (λ (ws : List (ℕ × Piece)). AreFree view (filled c.args.file.now.length (bytes_in c.args.region.now ws))) (sym c.deref.ensures.value) free in
    let filling = c.fill.ensures.moments (with_file all Journal still.disk) still.known view armed.stands counted free_here in
    let later = still_known (rig.state c.arm.new.rig) (rig.state c.fill.new.rig) Image (with_file all Journal still.disk) still.known c.fill.ensures.other c.fill.ensures.goes_on in
    let full = course_next rig m.counts_now m.only_now (with_file (with_file all Journal still.disk) Image later.disk) armed filling later.known refl in
    let settling = prefill_keeps rig (c.settle.ensures.moments (with_file (with_file all Journal still.disk) Image later.disk) later.known view (λ i j o l. (full.stands i j o l).0))
    (c.settle.ensures.alone (with_file (with_file all Journal still.disk) Image later.disk) later.known view (λ i j o l. (full.stands i j o l).1)) in
    let s = g.R.Rig.state c.args.rig.now in
    let one = g.R.Rig.state c.arm.new.rig in
    let two = g.R.Rig.state c.fill.new.rig in
    let three = g.R.Rig.state c.settle.new.rig in
    let len = c.args.file.now.length in
    let region = c.args.region.now in
    let fills = with_links (filled len (writes_of region c.args.plan.now)) in
    let wrote : seen_of two Image ≡ option_map fills (seen_of one Image)
    = subst (λ (ws : List (ℕ × Piece)). seen_of two Image ≡ option_map (with_links (filled len (bytes_in region ws))) (seen_of one Image)) c.deref.ensures.value c.in-Ok-fill.ensures.written in
    let settled = image_settled s one two three fills c.arm.ensures.other.file wrote c.in-Ok-settle.ensures.ok in
    let known_now = file_known one three Image (with_file all Journal still.disk) (at_rest (fills all.image.seen)) still.known (leaves_then Image one two three c.fill.ensures.other c.settle.ensures.other) (image_known s three all fills is settled) in
    let there = with_file (with_file all Journal still.disk) Image (at_rest (fills all.image.seen)) in
    let rests = course_next rig m.counts_now m.only_now there full settling known_now refl in
    let reads = m.reads_now c.settle.new.rig Image (at_rest (fills all.image.seen)) (known_file three Image there known_now) in
    let reads_j = m.reads_now c.settle.new.rig Journal still.disk (known_file three Journal there known_now) in
    let alone = (rests.stands (fills all.image.seen) still.disk.seen all.said (record { image_is = reads; journal_is = reads_j; said_is = refl })).1 in
    let ready100 = filled_front len (writes_of region c.args.plan.now) all.image.seen 100 (c.requires.ready.whole all.image.seen seen) c.requires.ready.fits.header c.requires.ready.fits.behind (omega arith) ∙ zero in
    course_ends rig m.counts_now m.only_now new rests
    (c.commit.ensures.alone there known_now view (λ i j o l. (rests.stands i j o l).0) (λ i j o l. (rests.stands i j o l).1) (has_alone view (fills all.image.seen) alone ready100) off)

pub returns-clause-committed : goal.returns-clause-committed
returns-clause-committed g c =
    let s = g.R.Rig.state c.args.rig.now in
    let one = g.R.Rig.state c.arm.new.rig in
    let two = g.R.Rig.state c.fill.new.rig in
    let three = g.R.Rig.state c.settle.new.rig in
    let len = c.args.file.now.length in
    let region = c.args.region.now in
    let fills = with_links (filled len (writes_of region c.args.plan.now)) in
    let wrote : seen_of two Image ≡ option_map fills (seen_of one Image)
    = subst (λ (ws : List (ℕ × Piece)). seen_of two Image ≡ option_map (with_links (filled len (bytes_in region ws))) (seen_of one Image)) c.deref.ensures.value c.in-Ok-fill.ensures.written in
    let settled = image_settled s one two three fills c.arm.ensures.other.file wrote c.in-Ok-settle.ensures.ok in
    on_ok c.commit.result (λ committed all is now is_now.
    let still = still_known s one Journal all is c.arm.ensures.other c.arm.ensures.goes_on in
    let known_now = file_known one three Image (with_file all Journal still.disk) (at_rest (fills all.image.seen)) still.known (leaves_then Image one two three c.fill.ensures.other c.settle.ensures.other) (image_known s three all fills is settled) in
    committed (with_file (with_file all Journal still.disk) Image (at_rest (fills all.image.seen))) known_now now is_now) c.commit.ensures.committed

pub returns-clause-image : goal.returns-clause-image
returns-clause-image g c =
    let s = g.R.Rig.state c.args.rig.now in
    let one = g.R.Rig.state c.arm.new.rig in
    let two = g.R.Rig.state c.fill.new.rig in
    let three = g.R.Rig.state c.settle.new.rig in
    let len = c.args.file.now.length in
    let region = c.args.region.now in
    let fills = with_links (filled len (writes_of region c.args.plan.now)) in
    let wrote : seen_of two Image ≡ option_map fills (seen_of one Image)
    = subst (λ (ws : List (ℕ × Piece)). seen_of two Image ≡ option_map (with_links (filled len (bytes_in region ws))) (seen_of one Image)) c.deref.ensures.value c.in-Ok-fill.ensures.written in
    let settled = image_settled s one two three fills c.arm.ensures.other.file wrote c.in-Ok-settle.ensures.ok in
    let r = record_of (record { guid = c.args.file.now.guid; length = c.args.plan.now.length }) c.args.plan.now.links.links in
    on_ok c.commit.result (λ committed. image_committed s three (g.R.Rig.state c.commit.new.rig) fills (applied r) settled committed) c.commit.ensures.image

pub returns-clause-journal : goal.returns-clause-journal
returns-clause-journal g c =
    on_ok c.commit.result (λ counts disk is. everywhere_weaker disk (λ j with_slot. counts_armed c.commit.new.journal.armed c.commit.new.journal.selected j c.commit.ensures.armed with_slot) (counts disk is)) c.commit.ensures.counts
