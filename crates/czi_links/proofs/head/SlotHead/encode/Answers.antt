use Rattle.std.proofs.Common.{◌≡◌, ◌≤◌, ◌++◌, [], ℕ, List, length, drop, sym, ◌∙◌, ap, subst, rules, arith}
use Rattle.std.proofs.lemmas.List.{append-nil}
use Rattle.std.proofs.lemmas.List.Elements.{All-nil}
use Rattle.czi_format.proofs.Fields.{put_front}
use Rattle.czi_links.specs.Record.{Bytes, Record, end_of, spell_head, spelling, record_of}
use Rattle.czi_links.specs.Reading.{Spells}
use Rattle.czi_links.proofs.Again.{spells_front, sound_of}
use Rattle.czi_links.proofs.Encoding.{head_len}
use Rattle.czi_links.proofs.head.SlotHead.encode.Goals as goal

pub returns : goal.returns
unfolding spelling
returns c =
    let head = c.args.self.now in
    let slot = c.args.slot.now in
    let r : Record = record_of c.args.self.now [] in
    let g : length c.args.self.now.guid ≡ 16 = search rules in
    let h = head_len head.guid head.length 0 g in
    let is : c.write_head.new.out ≡ spelling (record_of c.args.self.now []) ++ drop 32 c.args.slot.now =
    c.write_head.ensures ∙ put_front slot (spell_head head.guid head.length 0) ∙ ap (λ (n : ℕ). spell_head head.guid head.length 0 ++ drop n slot) h ∙ ap (λ (b : List ℕ). b ++ drop 32 slot) (sym (append-nil (spell_head head.guid head.length 0))) in
    let sound = sound_of r g c.requires.least c.requires.greatest tt (All-nil (λ (l : Bytes). end_of l ≤ head.length)) (omega arith) in
    record { bytes = is; read_again = subst (Spells r) (sym is) (spells_front r (drop 32 slot) sound) }
