-- What an image stands for while its record is applied.
use Rattle.std.proofs.Common.{◌≡◌, inl, inr, ⊎_elim, ℕ, ◌+◌, ◌<◌, ◌≤◌, Option, None, Some, List, [], ◌∷◌, ◌++◌, length, take, drop, get_or, refl, sym, ◌∙◌, ap, subst, arith}
use Rattle.std.proofs.lemmas.List.{ext_get_or, get_or-take, length-take-le}
use Rattle.std.proofs.lemmas.List.Elements.{All-head, All-tail, All-weaker}
use Rattle.std.proofs.lemmas.Bool.{cases_lt}
use Rattle.czi_rig.specs.declared.file.File.TheVariants.{Image}
use Rattle.czi_rig.specs.Disk.{Disk, Covers, TornFrom, CutFrom, SameOutside, overwritten, at_rest}
use Rattle.czi_rig.specs.State.{Instant}
use Rattle.czi_rig.proofs.Files.{length-overwritten}
use Rattle.czi_rig.proofs.Keeps.{WriteKeeps, CutKeeps, overwritten_torn}
use Rattle.czi_rig.proofs.Known.{option_map_then, source_of}
use Rattle.std.specs.Prelude.{option_map}
use Rattle.czi_vault.proofs.Putting.{wrote_seen}
use Rattle.czi_links.specs.Record.{Bytes, Record, AreRising, EndWithin, end_of}
use Rattle.czi_links.specs.Reading.{Reading, Holds}
use Rattle.czi_journal.specs.Journals.{slot_of}
use Rattle.czi_journal.proofs.Slots.{window}
use Rattle.czi_vault.specs.Recovered.{View, Stands, StandsFor, Makes, applied, with_links}
use Rattle.czi_vault.specs.Puts.{ranges, wrote_each}
use Rattle.czi_vault.proofs.Lists.{Fit, fit-append, covers_last, all_links, mark, applied_torn, take_with_links, length-with_links}

-- what holds of the links and the length
pub record Fine (r : Record) : Type 0 where
  pub least : 112 ≤ r.committed
  pub rising : AreRising 84 r.links
  pub ends : EndWithin r.committed r.links

pub ends_fit : (n : ℕ) (ls : List Bytes) → EndWithin n ls → Fit n ls
ends_fit n [] a = tt
ends_fit n (l ∷ ls) a =
    let P : Bytes → Type 0 = λ l. end_of l ≤ n in
    (All-head P l ls a, ends_fit n ls (All-tail P l ls a))

rising_low : (from : ℕ) (ls : List Bytes) (k : ℕ) → AreRising from ls → Covers (ranges ls) k → from ≤ k
rising_low from [] k a none = absurd none
rising_low from (l ∷ ls) k a cov = ⊎_elim (λ r. omega (arith, a.0, r.0)) (λ more. omega (arith, a.0, rising_low (l.place + length l.bytes) ls k a.2 more)) cov

-- links that end within a length end within a greater one
pub ends_all : (n m : ℕ) (ls : List Bytes) → n ≤ m → EndWithin n ls → EndWithin m ls
ends_all n m ls le a = All-weaker (λ (l : Bytes). end_of l ≤ n) (λ (l : Bytes). end_of l ≤ m) (λ l fits. omega (arith, le, fits)) ls a

fit_all : (r : Record) → Fine r → Fit r.committed (all_links r)
fit_all r f = fit-append r.committed r.links mark (ends_fit r.committed r.links f.ends) (omega (arith, f.least))

covered_low : (r : Record) (k : ℕ) → Fine r → Covers (ranges (all_links r)) k → 84 ≤ k
covered_low r k f cov = low r.links (λ c. rising_low 84 r.links k f.rising c) cov
  where
    low : (ls : List Bytes) → (Covers (ranges ls) k → 84 ≤ k) → Covers (ranges (ls ++ mark ∷ [])) k → 84 ≤ k
    low [] h c = ⊎_elim (λ r. omega (arith, r.0)) (λ none. absurd none) c
    low (l ∷ ls) h c = ⊎_elim (λ here. h (inl here)) (λ more. low ls (λ d. h (inr d)) more) c

-- the record is of this image, and makes of it what the view asks
pub record MadeFor (r : Record) (view : View) (image : List ℕ) : Type 0 where
  pub long : r.committed ≤ length image
  pub guid : take 16 (drop 64 image) ≡ r.guid
  pub agrees : SameOutside (Covers view.holes) view.bytes (applied r image)

pub made_torn : (r : Record) (view : View) (at n : ℕ) (old new : List ℕ) → Fine r → ((k : ℕ) → at ≤ k → k < at + n → Covers (ranges (all_links r)) k)
    → MadeFor r view old → TornFrom at n old new → MadeFor r view new
made_torn r view at n old new fine here m t = record {
  long = omega (arith, m.long, t.no_shorter);
  guid = window 64 16 old new (omega (arith, m.long, fine.least)) (omega (arith, m.long, fine.least, t.no_shorter)) same ∙ m.guid;
  agrees = subst (SameOutside (Covers view.holes) view.bytes) (sym (applied_torn r at n old new (fit_all r fine) m.long t here)) m.agrees;
}
  where
    same : (k : ℕ) → 64 ≤ k → k < 64 + 16 → get_or new k 0 ≡ get_or old k 0
    same k from to = ⊎_elim (λ before. t.same k (inl before))
        (λ past. ⊎_elim (λ inside. absurd (omega (arith, to, covered_low r k fine (here k past inside)))) (λ after. t.same k (inr after)) (cases_lt k (at + n))) (cases_lt k at)

pub made_cut : (r : Record) (v : View) (old new : List ℕ) → Fine r → MadeFor r v old → CutFrom r.committed old new → MadeFor r v new
made_cut r v old new fine m t = record {
  long = omega (arith, m.long, t.no_shorter);
  guid = window 64 16 old new (omega (arith, m.long, fine.least)) (omega (arith, m.long, fine.least, t.no_shorter)) (λ k from to. t.same k (omega (arith, to, fine.least))) ∙ m.guid;
  agrees = subst (SameOutside (Covers v.holes) v.bytes) (sym (ap (λ (x : List ℕ). overwritten 100 (0 ∷ []) (with_links r.links x)) front)) m.agrees;
}
  where
    within : (k : ℕ) → k < r.committed → get_or (take r.committed new) k 0 ≡ get_or (take r.committed old) k 0
    within k lt = get_or-take r.committed new k 0 lt ∙ t.same k lt ∙ sym (get_or-take r.committed old k 0 lt)

    front : take r.committed new ≡ take r.committed old
    front =
        let a = length-take-le r.committed new (omega (arith, m.long, t.no_shorter)) in
        let b = length-take-le r.committed old m.long in
        ext_get_or 0 (take r.committed new) (take r.committed old) (a ∙ sym b) (λ k lt. within k (omega (arith, lt, a)))

abbrev pub MadeNow : Record → View → List ℕ → Instant
MadeNow r view bytes image journal said = (slot_of journal ≡ Holds r) × MadeFor r view image × (said ≡ bytes)

pub made_of : (r : Record) (view : View) (image journal : List ℕ) → slot_of journal ≡ Holds r → Stands view image journal → MadeFor r view image
made_of r view i j slot s =
    let m : Makes r i s.bytes = subst (λ (read : Reading). StandsFor read i s.bytes) slot s.recovered in
    record { long = m.long; guid = m.guid; agrees = subst (SameOutside (Covers view.holes) view.bytes) m.is s.agrees }

pub stands_of : (r : Record) (view : View) (image journal : List ℕ) → slot_of journal ≡ Holds r → MadeFor r view image → Stands view image journal
stands_of r view i j slot m = record {
  bytes = applied r i;
  recovered = let made : Makes r i (applied r i) = record { long = m.long; guid = m.guid; is = refl } in subst (λ (read : Reading). StandsFor read i (applied r i)) (sym slot) made;
  agrees = m.agrees;
}

pub mark_kept : (r : Record) (view : View) (bytes : List ℕ) → Fine r → WriteKeeps Image 100 1 (MadeNow r view bytes)
mark_kept r view bytes fine j o old new p t = (p.0, made_torn r view 100 1 old new fine (λ k from to. covers_last r.links mark k from to) p.1 t, p.2)

pub cut_kept : (r : Record) (view : View) (bytes : List ℕ) → Fine r → CutKeeps Image r.committed (MadeNow r view bytes)
cut_kept r view bytes fine j o old new p t = (p.0, made_cut r view old new fine p.1 t, p.2)

-- the image while the steps are done
abbrev pub marked : Record → List ℕ → List ℕ
marked r seen = overwritten 100 (1 ∷ []) seen

abbrev pub linked : Record → List ℕ → List ℕ
linked r seen = with_links r.links (marked r seen)

abbrev pub shortened : Record → List ℕ → List ℕ
shortened r seen = take r.committed (linked r seen)

module _ (r : Record) (fine : Fine r) (seen : List ℕ) (long : r.committed ≤ length seen) where
  pub length-marked : length (marked r seen) ≡ length seen
  length-marked = length-overwritten 100 (1 ∷ []) seen (omega (arith, fine.least, long))

  pub fit_marked : Fit (length (marked r seen)) r.links
  fit_marked = fit_more r.links (ends_fit r.committed r.links fine.ends)
    where
      fit_more : (ls : List Bytes) → Fit r.committed ls → Fit (length (marked r seen)) ls
      fit_more [] f = tt
      fit_more (l ∷ ls) f = (omega (arith, f.0, long, length-marked), fit_more ls f.1)

  pub length-linked : length (linked r seen) ≡ length seen
  length-linked = length-with_links r.links (marked r seen) fit_marked ∙ length-marked

  pub length-shortened : length (shortened r seen) ≡ r.committed
  length-shortened = length-take-le r.committed (linked r seen) (omega (arith, long, length-linked))

  pub applied_last : overwritten 100 (0 ∷ []) (shortened r seen) ≡ applied r seen
  applied_last = ap (overwritten 100 (0 ∷ [])) (take_with_links r.committed r.links (marked r seen) (ends_fit r.committed r.links fine.ends) (omega (arith, long, length-marked)))
      ∙ applied_torn r 100 1 seen (marked r seen) (fit_all r fine) long (overwritten_torn 100 (1 ∷ []) seen (omega (arith, fine.least, long))) (λ k from to. covers_last r.links mark k from to)

abbrev pub StandsStill : View → List ℕ → Instant
StandsStill view bytes image journal said = Stands view image journal × (said ≡ bytes)

pub made_stands : (r : Record) (view : View) (bytes image journal said : List ℕ) → MadeNow r view bytes image journal said → StandsStill view bytes image journal said
made_stands r view bytes i j o p = (stands_of r view i j p.0 p.1, p.2)

-- what is known of the image after each step
pub wrote_links : (ls : List Bytes) (before now : Option Disk) (h : List ℕ → List ℕ) (first : Option Disk) → before ≡ option_map (λ (d : Disk). at_rest (h d.seen)) first
    → now ≡ option_map (λ (d : Disk). at_rest (wrote_each ls d).seen) before → now ≡ option_map (λ (d : Disk). at_rest (with_links ls (h d.seen))) first
wrote_links ls before now h first e f = f ∙ ap (option_map (λ (d : Disk). at_rest (wrote_each ls d).seen)) e
    ∙ option_map_then (λ (d : Disk). at_rest (h d.seen)) (λ (d : Disk). at_rest (wrote_each ls d).seen) (λ (d : Disk). at_rest (with_links ls (h d.seen))) first (λ d. ap at_rest (wrote_seen ls (at_rest (h d.seen))))

pub then_seen : (g h : List ℕ → List ℕ) (before now first : Option Disk) → before ≡ option_map (λ (d : Disk). at_rest (h d.seen)) first → now ≡ option_map (λ (d : Disk). at_rest (g d.seen)) before
    → now ≡ option_map (λ (d : Disk). at_rest (g (h d.seen))) first
then_seen g h before now first e f = f ∙ ap (option_map (λ (d : Disk). at_rest (g d.seen))) e
    ∙ option_map_then (λ (d : Disk). at_rest (h d.seen)) (λ (d : Disk). at_rest (g d.seen)) (λ (d : Disk). at_rest (g (h d.seen))) first (λ d. refl)

pub mapped_alike : {A B : Type 0} (g h : A → B) (o : Option A) → ((a : A) → o ≡ Some a → g a ≡ h a) → option_map g o ≡ option_map h o
mapped_alike g h None e = refl
mapped_alike g h (Some a) e = ap Some (e a refl)

pub fine_of : (r : Record) → 112 ≤ r.committed → AreRising 84 r.links → EndWithin r.committed r.links → Fine r
fine_of r least rising ends = record { least = least; rising = rising; ends = ends }

-- the image stays long enough
pub still_long : (n : ℕ) (first now : Option Disk) (h : List ℕ → List ℕ) → ((seen : List ℕ) → n ≤ length seen → n ≤ length (h seen)) → now ≡ option_map (λ (d : Disk). at_rest (h d.seen)) first
    → ((seen : List ℕ) → option_map (λ (d : Disk). d.seen) first ≡ Some seen → n ≤ length seen) → (x : List ℕ) → option_map (λ (d : Disk). d.seen) now ≡ Some x → n ≤ length x
still_long n first now h keeps e long x is =
    let from = source_of first now (λ (d : Disk). at_rest (h d.seen)) x e is in
    subst (λ (s : List ℕ). n ≤ length s) (sym from.seen_is) (keeps from.disk.seen (long from.disk.seen (ap (option_map (λ (d : Disk). d.seen)) from.known_before)))
