-- What the faults and the answers of `Dims::new` say.
use Rattle.std.proofs.Common.{rules, ◌≡◌, ℕ, ◌≤◌, ◌<◌, List, None, Result, Ok, Err, refl, arith, ◌⊎◌, inr}
use Rattle.std.specs.Prelude.{◌↔◌, IsOk, IsSome}
use Rattle.czi_format.specs.Entry.{entry}
use Rattle.czi_format.specs.EntryRules as refusal
use Rattle.czi_format.specs.EntryRules.{entry_rules}
use Rattle.czi_format.proofs.EntryRules.{HoldsEntry, rules_hold, refused_none}
use Rattle.czi_doc.specs.declared.dimensions.ItemFault.{ItemFault}
use Rattle.czi_doc.specs.declared.dimensions.ItemFault.TheVariants.{NoDims, ManyDims}
use Rattle.czi_dv.specs.declared.entry.EntryFault.{EntryFault}
use Rattle.czi_dv.specs.declared.entry.EntryFault.TheVariants.{Short, Schema, Dims, Part, Memory}
use Rattle.czi_dv.specs.View.{TellsEntryRule}

-- where a rule refuses, no entry stands
pub no_entry : (bytes : List ℕ) (fault : EntryFault) → TellsEntryRule bytes fault → (fault ≡ Memory) ⊎ (entry bytes ≡ None)
no_entry bytes Short refuses = inr (refused_none bytes refusal.short refuses)
no_entry bytes Schema refuses = inr (refused_none bytes refusal.schema refuses)
no_entry bytes (Dims count) refuses = inr (refused_none bytes (refusal.dims count) refuses)
no_entry bytes (Part part) refuses = inr (refused_none bytes (refusal.part part) refuses)
no_entry bytes Memory refuses = absurd refuses

-- where no rule refuses, an entry stands
pub some_entry : (bytes : List ℕ) (n : ℕ) → entry_rules bytes ≡ Ok n → IsSome (entry bytes)
some_entry bytes n passes = let holds : HoldsEntry bytes n = rules_hold bytes n passes in rw holds.reads (search rules)

-- a list of 1 to 40 records makes dimensions
pub made : {A : Type 0} (r : Result A ItemFault) (n : ℕ) → ((r ≡ Err NoDims) ↔ (n ≡ 0)) → ((k : ℕ) → (r ≡ Err (ManyDims k)) ↔ ((k ≡ n) × (40 < k))) → 1 ≤ n → n ≤ 40 → IsOk r
made (Ok x) n none many some few = search rules
made (Err NoDims) n none many some few = let e : n ≡ 0 = none.0 refl in absurd (omega arith)
made (Err (ManyDims k)) n none many some few = let e : (k ≡ n) × (40 < k) = (many k).0 refl in absurd (omega (arith, e.0, e.1))
