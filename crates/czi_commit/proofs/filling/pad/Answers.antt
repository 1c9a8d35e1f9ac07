use Rattle.std.proofs.Common.{List, ◌≡◌, sym, subst, arith}
use Rattle.std.specs.Prelude.{OnOk, option_map}
use Rattle.czi_rig.specs.declared.file.File.TheVariants.{Image}
use Rattle.czi_rig.specs.State.{seen_of}
use Rattle.czi_links.specs.Record.{Bytes}
use Rattle.czi_vault.specs.Recovered.{with_links}
use Rattle.czi_commit.specs.Filled.{AreFree}
use Rattle.czi_commit.proofs.Gaps.{zeros_taken}
use Rattle.czi_commit.proofs.Standing.{prefill_keeps}
use Rattle.czi_commit.proofs.filling.pad.Goals as goal

pub returns-clause-written : goal.returns-clause-written
returns-clause-written g c =
    let e = zeros_taken c.args.end c.args.place 64 (omega arith) c.requires.near in
    subst (λ (ws : List Bytes). OnOk c.prefill.result (seen_of (g.R.Rig.state c.prefill.new.rig) Image ≡ option_map (with_links ws) (seen_of (g.R.Rig.state c.args.rig.now) Image))) (sym e) c.prefill.ensures.written

pub returns-clause-moments : goal.returns-clause-moments
returns-clause-moments g c = λ all is view keeps counts free.
    let e = zeros_taken c.args.end c.args.place 64 (omega arith) c.requires.near in
    let f = (subst (AreFree view) e free).0 in
    prefill_keeps g.R.Rig (c.prefill.ensures.moments all is view (λ i j o l. (keeps i j o l).0) counts f) (c.prefill.ensures.alone all is view (λ i j o l. (keeps i j o l).0) counts (λ i j o l. (keeps i j o l).1) f)
