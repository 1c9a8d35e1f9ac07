use Rattle.std.proofs.Common.{◌≡◌, ◌∙◌, length, rules, ap, List, ℕ, get_or}
use Rattle.czi_rig.specs.declared.file.File.TheVariants.{Image, Journal}
use Rattle.czi_rig.specs.Moments.{with_file}
use Rattle.czi_rig.proofs.Known.{known_file, known_seen, still_known}
use Rattle.czi_rig.proofs.Runs.{joined, weaker}
use Rattle.czi_creation.proofs.Refusing.{first_is_z, sealing_opens, then_writing}
use Rattle.czi_creation.proofs.creating.make.Goals as goal

pub write_image-requires-clause-front : goal.write_image-requires-clause-front
write_image-requires-clause-front g c = ap (λ (l : List ℕ). get_or l 0 0) c.empty_image.ensures ∙ first_is_z c.args.guid.now

pub returns-in_default-clause-moments : goal.returns-in_default-clause-moments
returns-in_default-clause-moments g c = λ all is.
    let s = g.R.Rig.state c.args.rig.now in
    weaker g.R.Rig (sealing_opens c.args.guid.now all (c.requires.empty all.image (known_file s Image all is)) (c.requires.synced all.journal (known_file s Journal all is))) (c.seal_old.ensures.moments all is)

pub returns-in_default-write_image-clause-moments : goal.returns-in_default-write_image-clause-moments
returns-in_default-write_image-clause-moments g c = λ all is.
    let rig = g.R.Rig in
    let s = rig.state c.args.rig.now in
    let t = rig.state c.seal_old.new.rig in
    let guid = c.args.guid.now in
    let sixteen : length guid ≡ 16 = search rules in
    let empty = c.requires.empty all.image (known_file s Image all is) in
    let rest = c.requires.synced all.journal (known_file s Journal all is) in
    let st = still_known s t Journal all is c.seal_old.ensures.other c.seal_old.ensures.goes_on in
    let here = known_file t Journal (with_file all Journal st.disk) st.known in
    let void = c.in-Ok.ensures.void st.disk.seen (known_seen t Journal (with_file all Journal st.disk) st.known) in
    joined rig (weaker rig (sealing_opens guid all empty rest) (c.seal_old.ensures.moments all is))
    (weaker rig (then_writing guid c.empty_image.result all st.disk sixteen c.empty_image.ensures (c.in-Ok.ensures.synced st.disk here) void) (c.write_image.ensures.moments (with_file all Journal st.disk) st.known))

pub returns-clause-moments : goal.returns-clause-moments
returns-clause-moments g c = λ all is.
    let rig = g.R.Rig in
    let s = rig.state c.args.rig.now in
    let t = rig.state c.seal_old.new.rig in
    let guid = c.args.guid.now in
    let sixteen : length guid ≡ 16 = search rules in
    let empty = c.requires.empty all.image (known_file s Image all is) in
    let rest = c.requires.synced all.journal (known_file s Journal all is) in
    let st = still_known s t Journal all is c.seal_old.ensures.other c.seal_old.ensures.goes_on in
    let here = known_file t Journal (with_file all Journal st.disk) st.known in
    let void = c.in-Ok.ensures.void st.disk.seen (known_seen t Journal (with_file all Journal st.disk) st.known) in
    joined rig (weaker rig (sealing_opens guid all empty rest) (c.seal_old.ensures.moments all is))
    (weaker rig (then_writing guid c.empty_image.result all st.disk sixteen c.empty_image.ensures (c.in-Ok.ensures.synced st.disk here) void) (c.write_image.ensures.moments (with_file all Journal st.disk) st.known))
