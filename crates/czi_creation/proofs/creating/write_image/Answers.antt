use Rattle.std.proofs.Common.{◌≡◌, length, refl, rules}
use Rattle.czi_rig.specs.declared.file.File.TheVariants.{Image}
use Rattle.czi_rig.specs.State.{known}
use Rattle.czi_rig.proofs.Known.{known_file}
use Rattle.czi_rig.proofs.Runs.{joined}
use Rattle.czi_creation.proofs.Writing.{one_byte, after_first, after_second, first_moments, others_are, second_moments, third_moments, written_all}
use Rattle.czi_creation.proofs.creating.write_image.Goals as goal

pub returns-in_err-write_synced-2-clause-moments : goal.returns-in_err-write_synced-2-clause-moments
returns-in_err-write_synced-2-clause-moments g c = λ all is.
    let rig = g.R.Rig in
    let s = rig.state c.args.rig.now in
    let bytes = c.args.bytes.now in
    let long : length bytes ≡ 704 = search rules in
    let empty = c.requires.empty all.image (known_file s Image all is) in
    let now = after_first s (rig.state c.write_synced.new.rig) all is empty c.write_synced.ensures.other c.in_ok-write_synced.ensures.ok in
    joined rig (first_moments bytes long c.requires.front rig c.args.rig.now c.write_synced.new.rig all empty (c.write_synced.ensures.moments all is))
    (second_moments bytes long c.requires.front rig c.write_synced.new.rig c.write_synced-2.new.rig all _ (c.write_synced-2.ensures.moments _ now))

pub returns-in_err-write_synced-3-clause-moments : goal.returns-in_err-write_synced-3-clause-moments
returns-in_err-write_synced-3-clause-moments g c = λ all is.
    let rig = g.R.Rig in
    let s = rig.state c.args.rig.now in
    let bytes = c.args.bytes.now in
    let long : length bytes ≡ 704 = search rules in
    let empty = c.requires.empty all.image (known_file s Image all is) in
    let now = after_first s (rig.state c.write_synced.new.rig) all is empty c.write_synced.ensures.other c.in_ok-write_synced.ensures.ok in
    let then = after_second bytes _ (others_are bytes long) (rig.state c.write_synced.new.rig) (rig.state c.write_synced-2.new.rig) all now c.write_synced-2.ensures.other c.in_ok-write_synced-2.ensures.ok in
    joined rig (first_moments bytes long c.requires.front rig c.args.rig.now c.write_synced.new.rig all empty (c.write_synced.ensures.moments all is))
    (joined rig (second_moments bytes long c.requires.front rig c.write_synced.new.rig c.write_synced-2.new.rig all _ (c.write_synced-2.ensures.moments _ now))
    (third_moments bytes long c.requires.front rig c.write_synced-2.new.rig c.write_synced-3.new.rig all _ (one_byte bytes _ long refl) (c.write_synced-3.ensures.moments _ then)))

pub returns-clause-moments : goal.returns-clause-moments
returns-clause-moments g c = λ all is.
    let rig = g.R.Rig in
    let s = rig.state c.args.rig.now in
    let bytes = c.args.bytes.now in
    let long : length bytes ≡ 704 = search rules in
    let empty = c.requires.empty all.image (known_file s Image all is) in
    let now = after_first s (rig.state c.write_synced.new.rig) all is empty c.write_synced.ensures.other c.in_ok-write_synced.ensures.ok in
    let then = after_second bytes _ (others_are bytes long) (rig.state c.write_synced.new.rig) (rig.state c.write_synced-2.new.rig) all now c.write_synced-2.ensures.other c.in_ok-write_synced-2.ensures.ok in
    joined rig (first_moments bytes long c.requires.front rig c.args.rig.now c.write_synced.new.rig all empty (c.write_synced.ensures.moments all is))
    (joined rig (second_moments bytes long c.requires.front rig c.write_synced.new.rig c.write_synced-2.new.rig all _ (c.write_synced-2.ensures.moments _ now))
    (third_moments bytes long c.requires.front rig c.write_synced-2.new.rig c.write_synced-3.new.rig all _ (one_byte bytes _ long refl) (c.write_synced-3.ensures.moments _ then)))

pub returns-clause-written : goal.returns-clause-written
returns-clause-written g c =
    let rig = g.R.Rig in
    let bytes = c.args.bytes.now in
    let long : length bytes ≡ 704 = search rules in
    written_all bytes long c.requires.front _ _ refl (others_are bytes long) (known (rig.state c.args.rig.now) Image) (known (rig.state c.write_synced.new.rig) Image) (known (rig.state c.write_synced-2.new.rig) Image) (known (rig.state c.write_synced-3.new.rig) Image)
    c.requires.empty c.in_ok-write_synced.ensures.ok c.in_ok-write_synced-2.ensures.ok c.in_ok-write_synced-3.ensures.ok
