-- Scripts are read in one way, command by command.
use Rattle.std.proofs.Common.{◌≡◌, ℕ, zero, suc, ◌+◌, ◌-◌, ◌≤◌, List, [], ◌∷◌, ◌++◌, take, length, ◌⊎◌, refl, ap, sym, ◌∙◌, subst, arith, inl, inr, append_assoc, length-append}
use Rattle.std.specs.Prelude.{◌≢◌}
use Rattle.std.proofs.Math.Seq.{take-append-add}
use Rattle.czi_script.specs.declared.kind.Kind.{Kind}
use Rattle.czi_script.specs.declared.kind.Kind.TheVariants.{Cut}
use Rattle.czi_script.specs.Script.{Command, Spells, IsFault, End, Done, Fault, IsEnd, NoneBegins, SpellAll, Reads, Shows}
use Rattle.czi_script.proofs.Faults.{no_cons, SameSpelling, spelled_once, spelled_some, spelled_size, fault_some, one_kind, fault_stuck, fault_stays, begun}

pub empty_stuck : NoneBegins []
empty_stuck = λ c spelled more s e. spelled_some c spelled more s (sym e)

-- the rest of a script after its next command
pub record After (first : ℕ) (c : Command) (more : List ℕ) (cs : List Command) (end : End) : Type 0 where
  pub rest : List Command
  pub whole : cs ≡ c ∷ rest
  pub reads : Reads (first + 1) more rest end

pub reads_next : (first : ℕ) (c : Command) (spelled more bytes : List ℕ) (cs : List Command) (end : End) → bytes ≡ spelled ++ more → Spells c spelled → Reads first bytes cs end → After first c more cs end
reads_next first c spelled more bytes [] end e s r = absurd (r.stuck c spelled more s (sym (r.whole ∙ ap (λ l. l ++ r.rest) r.spelled) ∙ e))
reads_next first c spelled more bytes (d ∷ ds) end e s r =
    let parts = r.spelled in
    let same : SameSpelling c d spelled parts.0 more (parts.1 ++ r.rest) = spelled_once c d spelled parts.0 more (parts.1 ++ r.rest) s parts.3 (sym e ∙ r.whole ∙ ap (λ l. l ++ r.rest) parts.2 ∙ append_assoc parts.0 parts.1 r.rest) in
    record {
      rest = ds;
      whole = ap (λ x. x ∷ ds) (sym same.command);
      reads = record { front = parts.1; rest = r.rest; whole = same.more; spelled = parts.4; stuck = r.stuck; ends = subst (λ n. IsEnd n r.rest end) (count first (length ds)) r.ends };
    }
  where
    count : (a b : ℕ) → a + suc b ≡ a + 1 + b
    count a b = omega arith

-- the last command was read
pub record Over (number : ℕ) (bytes : List ℕ) (cs : List Command) (end : End) : Type 0 where
  pub none : cs ≡ []
  pub ends : IsEnd number bytes end

pub reads_stuck : (first : ℕ) (bytes : List ℕ) (cs : List Command) (end : End) → NoneBegins bytes → Reads first bytes cs end → Over first bytes cs end
reads_stuck first bytes [] end stuck r = record { none = refl; ends = subst (λ b. IsEnd first b end) (sym (r.whole ∙ ap (λ l. l ++ r.rest) r.spelled)) (subst (λ n. IsEnd n r.rest end) (count first) r.ends) }
  where
    count : (a : ℕ) → a + 0 ≡ a
    count a = omega arith
reads_stuck first bytes (d ∷ ds) end stuck r =
    absurd (stuck d r.spelled.0 (r.spelled.1 ++ r.rest) r.spelled.3 (r.whole ∙ ap (λ l. l ++ r.rest) r.spelled.2 ∙ append_assoc r.spelled.0 r.spelled.1 r.rest))

one_end : (number : ℕ) (rest : List ℕ) (a b : End) → IsEnd number rest a → IsEnd number rest b → a ≡ b
one_end number rest Done Done p q = refl
one_end number rest Done (Fault n kind) p q = absurd (fault_some kind (subst (IsFault kind) p q.1))
one_end number rest (Fault n kind) Done p q = absurd (fault_some kind (subst (IsFault kind) q p.1))
one_end number rest (Fault m k) (Fault n l) p q = both m n k l (p.0 ∙ sym q.0) (one_kind k l rest p.1 q.1)
  where
    both : (a b : ℕ) (x y : Kind) → a ≡ b → x ≡ y → Fault a x ≡ Fault b y
    both a b x y e f = cc

-- each byte list is read in one way
pub reads_one : (first : ℕ) (bytes : List ℕ) (cs ds : List Command) (end last : End) → Reads first bytes cs end → Reads first bytes ds last → (cs ≡ ds) × (end ≡ last)
reads_one first bytes [] ds end last r q =
    let stuck : NoneBegins bytes = subst NoneBegins (sym (r.whole ∙ ap (λ l. l ++ r.rest) r.spelled)) r.stuck in
    let over : Over first bytes ds last = reads_stuck first bytes ds last stuck q in
    let same : Over first bytes [] end = reads_stuck first bytes [] end stuck r in
    (sym over.none, one_end first bytes end last same.ends over.ends)
reads_one first bytes (c ∷ cs) ds end last r q =
    let parts = r.spelled in
    let e = r.whole ∙ ap (λ l. l ++ r.rest) parts.2 ∙ append_assoc parts.0 parts.1 r.rest in
    let a : After first c (parts.1 ++ r.rest) ds last = reads_next first c parts.0 (parts.1 ++ r.rest) bytes ds last e parts.3 q in
    let b : Reads (first + 1) (parts.1 ++ r.rest) cs end = record { front = parts.1; rest = r.rest; whole = refl; spelled = parts.4; stuck = r.stuck; ends = subst (λ n. IsEnd n r.rest end) (count first (length cs)) r.ends } in
    let more = reads_one (first + 1) (parts.1 ++ r.rest) cs a.rest end last b a.reads in
    (ap (λ x. c ∷ x) more.0 ∙ sym a.whole, more.1)
  where
    count : (a b : ℕ) → a + suc b ≡ a + 1 + b
    count a b = omega arith

-- some reading
pub record Reading (first : ℕ) (bytes : List ℕ) : Type 0 where
  pub commands : List Command
  pub end : End
  pub reads : Reads first bytes commands end

reading_done : (first : ℕ) → Reading first []
reading_done first = record { commands = []; end = Done; reads = record { front = []; rest = []; whole = refl; spelled = refl; stuck = empty_stuck; ends = refl } }

reading_fault : (first : ℕ) (bytes : List ℕ) (kind : Kind) → IsFault kind bytes → Reading first bytes
reading_fault first bytes kind f = record { commands = []; end = Fault (first + 0) kind; reads = record { front = []; rest = bytes; whole = refl; spelled = refl; stuck = fault_stuck kind bytes f; ends = (refl, f) } }

reading_next : (first : ℕ) (bytes spelled more : List ℕ) (c : Command) → bytes ≡ spelled ++ more → Spells c spelled → Reading (first + 1) more → Reading first bytes
reading_next first bytes spelled more c e s r = record {
  commands = c ∷ r.commands;
  end = r.end;
  reads = record {
    front = spelled ++ r.reads.front;
    rest = r.reads.rest;
    whole = e ∙ ap (λ l. spelled ++ l) r.reads.whole ∙ sym (append_assoc spelled r.reads.front r.reads.rest);
    spelled = (spelled, r.reads.front, refl, s, r.reads.spelled);
    stuck = r.reads.stuck;
    ends = subst (λ n. IsEnd n r.reads.rest r.end) (count first (length r.commands)) r.reads.ends;
  };
}
  where
    count : (a b : ℕ) → a + 1 + b ≡ a + suc b
    count a b = omega arith

shorter : (c : Command) (bytes spelled more : List ℕ) (n : ℕ) → Spells c spelled → bytes ≡ spelled ++ more → length bytes ≤ suc n → length more ≤ n
shorter c bytes spelled more n s e le =
    let a : length bytes ≡ length (spelled ++ more) = ap length e in
    let b : length (spelled ++ more) ≡ length spelled + length more = length-append spelled more in
    let d = spelled_size c spelled s in
    omega (arith, a, b, d, le)

-- each byte list is read
pub reading : (n : ℕ) (first : ℕ) (bytes : List ℕ) → length bytes ≤ n → Reading first bytes
reading n first [] le = reading_done first
reading zero first (b ∷ bytes) le = absurd (omega arith)
reading (suc n) first (b ∷ bytes) le = elim (begun (b ∷ bytes) (λ e. no_cons b bytes e)) [
  | inl x ↦ reading_next first (b ∷ bytes) x.1 x.2 x.0 x.3 x.4 (reading n (first + 1) x.2 (shorter x.0 (b ∷ bytes) x.1 x.2 n x.4 x.3 le))
  | inr x ↦ reading_fault first (b ∷ bytes) x.0 x.1
]

-- a fault that shows in a front is that of each continuation, unless the front is cut
pub reads_stays : (first : ℕ) (bytes more : List ℕ) (cs : List Command) (n : ℕ) (kind : Kind) → kind ≢ Cut → Reads first bytes cs (Fault n kind) → Reads first (bytes ++ more) cs (Fault n kind)
reads_stays first bytes more cs n kind other r =
    let f = fault_stays kind r.rest more other r.ends.1 in
    record { front = r.front; rest = r.rest ++ more; whole = ap (λ l. l ++ more) r.whole ∙ append_assoc r.front r.rest more; spelled = r.spelled; stuck = fault_stuck kind (r.rest ++ more) f; ends = (r.ends.0, f) }

-- what a caller knows of the script that is left

pub reads_empty : (first : ℕ) (cs : List Command) (end : End) → Reads first [] cs end → (cs ≡ []) × (end ≡ Done)
reads_empty first cs end r = let over : Over first [] cs end = reads_stuck first [] cs end empty_stuck r in (over.none, one_end first [] end Done over.ends refl)

pub reads_fault : (first : ℕ) (bytes : List ℕ) (kind : Kind) (cs : List Command) (end : End) → IsFault kind bytes → Reads first bytes cs end → (cs ≡ []) × (end ≡ Fault first kind)
reads_fault first bytes kind cs end f r =
    let over : Over first bytes cs end = reads_stuck first bytes cs end (fault_stuck kind bytes f) r in (over.none, one_end first bytes end (Fault first kind) over.ends (refl, f))

fault_read : (front bytes : List ℕ) (cs : List Command) (kind : Kind) → SpellAll cs front → IsFault kind bytes → Reads 1 (front ++ bytes) cs (Fault (1 + length cs) kind)
fault_read front bytes cs kind spelled f = record { front = front; rest = bytes; whole = refl; spelled = spelled; stuck = fault_stuck kind bytes f; ends = (refl, f) }

-- A fault that shows behind commands shows in the whole script: it has no more bytes than may be taken, or every
-- continuation of these has the fault.
pub fault_shows : (most : ℕ) (front bytes : List ℕ) (cs : List Command) (kind : Kind) → SpellAll cs front → length front ≤ most → Shows (most - length front) kind bytes
    → ((length (front ++ bytes) ≤ most) × Reads 1 (front ++ bytes) cs (Fault (1 + length cs) kind)) ⊎ ((more : List ℕ) → Reads 1 (take most (front ++ bytes) ++ more) cs (Fault (1 + length cs) kind))
fault_shows most front bytes cs kind spelled le shows = elim shows [
  | inl here ↦ inl (let n : length (front ++ bytes) ≡ length front + length bytes = length-append front bytes in omega (arith, n, here.0, le), fault_read front bytes cs kind spelled here.1)
  | inr every ↦ inr (λ more. subst (λ l. Reads 1 l cs (Fault (1 + length cs) kind)) (sym (parts more)) (fault_read front (take (most - length front) bytes ++ more) cs kind spelled (every more)))
]
  where
    size : most ≡ length front + (most - length front)
    size = omega (arith, le)

    parts : (more : List ℕ) → take most (front ++ bytes) ++ more ≡ front ++ (take (most - length front) bytes ++ more)
    parts more = ap (λ l. l ++ more) (ap (λ n. take n (front ++ bytes)) size ∙ take-append-add front bytes (most - length front)) ∙ append_assoc front (take (most - length front) bytes) more
