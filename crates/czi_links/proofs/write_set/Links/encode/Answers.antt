use Rattle.std.proofs.Common.{◌≡◌, ◌≤◌, ◌+◌, ◌++◌, ℕ, List, length, sym, ◌∙◌, ap, subst, rules, arith}
use Rattle.std.specs.List.{flat_map}
use Rattle.std.proofs.lemmas.List.{length-map}
use Rattle.czi_format.specs.Bytes.{put_at}
use Rattle.czi_links.specs.Record.{Record, AreRising, encoded_len, spell_head, spell_link, spelling, record_of}
use Rattle.czi_links.specs.Reading.{Spells}
use Rattle.czi_links.specs.WriteSet.{WriteSet, link_in, links_in}
use Rattle.czi_links.proofs.Again.{count_small, spells_spelling, sound_of}
use Rattle.czi_links.proofs.Encoding.{encoded_is}
use Rattle.czi_links.proofs.write_set.Links.encode.Goals as goal

pub overflow_cast-len : goal.overflow_cast-len
overflow_cast-len c =
    let s = c.self.inside in
    let links_are : links_in s.block.items s.entries.items ≡ c.args.self.now.links = ap (λ (w : WriteSet). w.links) c.self.view_is in
    let n : length s.entries.items ≡ length c.args.self.now.links = sym (length-map s.entries.items (link_in s.block.items)) ∙ ap length links_are in
    omega (arith, c.requires.whole, c.requires.fits, c.len.ensures, s.entries.ok.0, n, count_small c.args.self.now.links)

pub returns : goal.returns
unfolding spelling
returns c =
    let s = c.self.inside in
    let head = c.args.head.now in
    let r : Record = record_of c.args.head.now c.args.self.now.links in
    let g : length c.args.head.now.guid ≡ 16 = search rules in
    let links_are : links_in s.block.items s.entries.items ≡ c.args.self.now.links = ap (λ (w : WriteSet). w.links) c.self.view_is in
    let block_is : s.block.items ≡ flat_map spell_link c.args.self.now.links = c.self.invariant.0.spelt ∙ ap (flat_map spell_link) links_are in
    let n : c.len.result ≡ length c.args.self.now.links = c.len.ensures ∙ s.entries.ok.0 ∙ sym (length-map s.entries.items (link_in s.block.items)) ∙ ap length links_are in
    let is : c.write_bytes.new.bytes ≡ spelling (record_of c.args.head.now c.args.self.now.links) =
    encoded_is c.args.out.now head.guid s.block.items head.length c.len.result c.write_head.new.out c.write_bytes.new.bytes g
    (c.requires.whole ∙ ap (λ (b : List ℕ). 32 + length b) (sym block_is)) c.write_head.ensures (c.write_bytes.ensures.written ∙ ap (put_at c.write_head.new.out 32) c.deref.ensures.value)
    ∙ ap (λ (b : List ℕ). spell_head head.guid head.length c.len.result ++ b) block_is ∙ ap (λ (k : ℕ). spell_head head.guid head.length k ++ flat_map spell_link c.args.self.now.links) n in
    let fits : encoded_len c.args.self.now.links ≤ 262144 = omega (arith, c.requires.whole, c.requires.fits) in
    let sound = sound_of r g c.requires.least c.requires.greatest (subst (AreRising 84) links_are c.self.invariant.0.rising) c.requires.ends fits in
    record { bytes = is; read_again = subst (Spells r) (sym is) (spells_spelling r sound) }
