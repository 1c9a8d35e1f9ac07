use Rattle.std.proofs.Common.{rules, ◌≡◌, ◌+◌, ◌*◌, length, map, drop, Some, ap, sym, ◌∙◌}
use Rattle.std.proofs.lemmas.List.{length-map}
use Rattle.czi_format.specs.Entry.{dims, entry_len, with_records}
use Rattle.czi_format.proofs.EntryRules.{HoldsEntry, rules_hold, entry_bytes_are}
use Rattle.czi_doc.specs.View.{dim_of}
use Rattle.czi_dv.specs.View.{entry_of}
use Rattle.czi_dv.proofs.Faults.{no_entry, some_entry}
use Rattle.czi_dv.proofs.reading.read_entry.Goals as goal

pub returns-in_err-count-clause-none : goal.returns-in_err-count-clause-none
returns-in_err-count-clause-none c = search (rules, no_entry)

pub returns-in_err-list-clause-memory : goal.returns-in_err-list-clause-memory
returns-in_err-list-clause-memory c = λ _. some_entry c.args.bytes.now c.in_ok-count.count c.in_ok-count.ensures.count

pub returns-clause-read : goal.returns-clause-read
returns-clause-read c =
    let holds : HoldsEntry c.args.bytes.now c.in_ok-count.count = rules_hold c.args.bytes.now c.in_ok-count.count c.in_ok-count.ensures.count in
    let records : map dim_of c.in_ok-list.list.items ≡ dims c.in_ok-count.count (drop 32 c.args.bytes.now)
    = c.in_ok-list.ensures.records ∙ ap (dims c.in_ok-count.count) c.split_at.ensures.back in
    holds.reads ∙ ap Some (sym (c.with_list.ensures ∙ ap (with_records c.args.bytes.now) records))

pub returns-clause-len : goal.returns-clause-len
returns-clause-len c =
    let count : length c.in_ok-list.list.items ≡ c.in_ok-count.count = c.in_ok-list.ensures.count in
    (sym (ap entry_len c.with_list.ensures ∙ ap (λ k. 32 + 20 * k) (length-map c.in_ok-list.list.items dim_of ∙ count)), c.in_ok-count.ensures.fits)

pub returns-clause-whole : goal.returns-clause-whole
returns-clause-whole c =
    let holds : HoldsEntry c.args.bytes.now c.in_ok-count.count = rules_hold c.args.bytes.now c.in_ok-count.count c.in_ok-count.ensures.count in
    entry_bytes_are c.args.bytes.now c.in_ok-count.count (entry_of c.with_list.result) holds (returns-clause-read c)
