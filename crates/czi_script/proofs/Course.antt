-- A caller's loop over the commands of a script.
use Rattle.std.proofs.Common.{◌≡◌, ℕ, ◌+◌, ◌-◌, ◌≤◌, ◌^◌, List, [], ◌∷◌, ◌++◌, take, length, Option, Some, inl, inr, refl, ap, sym, ◌∙◌, subst, arith, append-nil, append_assoc, length-append}
use Rattle.czi_script.specs.declared.command.Command.{Command as CodeCommand}
use Rattle.czi_script.specs.declared.error.ScriptError.{ScriptError}
use Rattle.czi_script.specs.declared.error.ScriptError.TheVariants.{Fault, Input, TooLong, Memory}
use Rattle.czi_script.specs.Script.{Command, Spells, SpellAll, Reads, End, Done, Fault as FaultAt, Shows}
use Rattle.czi_script.specs.Reader.{Reader, IsReader, ahead, room, unused, FindsError, LeavesSome, CountsError}
use Rattle.czi_script.specs.View.{command_of}
use Rattle.czi_script.proofs.Faults.{shown_fault}
use Rattle.czi_script.proofs.Reading.{After, reads_next, reads_empty, reads_fault, fault_shows}
use Rattle.czi_script.specs.Course.{Midway, StopsSo}

-- before the first command
pub begins : (bytes : List ℕ) (left : Option (List ℕ)) (cs : List Command) (end : End) → left ≡ Some bytes → Reads 1 bytes cs end → Midway unused left bytes cs end
begins bytes left cs end is r = record {
  done = [];
  rest = cs;
  whole = refl;
  front = [];
  spelled = refl;
  input = bytes;
  told = ap (ahead unused) is;
  taken = refl;
  reads = r;
  uses = refl;
  counted = refl;
}

spell_more : (done : List Command) (front spelled : List ℕ) (c : Command) → SpellAll done front → Spells c spelled → SpellAll (done ++ c ∷ []) (front ++ spelled)
spell_more [] front spelled c all s = (spelled, [], ap (λ l. l ++ spelled) all ∙ sym (append-nil spelled), s, refl)
spell_more (d ∷ done) front spelled c all s = (all.0, all.1 ++ spelled, ap (λ l. l ++ spelled) all.2 ∙ append_assoc all.0 all.1 spelled, all.3, spell_more done all.1 spelled c all.4 s)

-- one command more
pub next : (old new : Reader) (before after : Option (List ℕ)) (all : List ℕ) (cs : List Command) (end : End) (c : CodeCommand) → Midway old before all cs end
    → ((bytes : List ℕ) → ahead old before ≡ Some bytes → LeavesSome old new bytes (ahead new after) (Some c)) → new.commands ≡ old.commands + 1 → Midway new after all cs end
next old new before after all cs end c m leaves count =
    let l = leaves m.input m.told in
    let a : After (length m.done + 1) (command_of c) l.1 m.rest end = reads_next (length m.done + 1) (command_of c) l.0 l.1 m.input m.rest end l.2 l.3 m.reads in
    let n : length (m.done ++ command_of c ∷ []) ≡ length m.done + 1 = length-append m.done (command_of c ∷ []) in
    record {
      done = m.done ++ command_of c ∷ [];
      rest = a.rest;
      whole = m.whole ∙ ap (λ x. m.done ++ x) a.whole ∙ sym (append_assoc m.done (command_of c ∷ []) a.rest);
      front = m.front ++ l.0;
      spelled = spell_more m.done m.front l.0 (command_of c) m.spelled l.3;
      input = l.1;
      told = l.4;
      taken = m.taken ∙ ap (λ x. m.front ++ x) l.2 ∙ sym (append_assoc m.front l.0 l.1);
      reads = subst (λ k. Reads (k + 1) l.1 a.rest end) (sym n) a.reads;
      uses = l.5 ∙ ap (λ k. k + length l.0) m.uses ∙ sym (length-append m.front l.0);
      counted = count ∙ ap (λ k. k + 1) m.counted ∙ sym n;
    }

fits : (r : Reader) (left : Option (List ℕ)) (all : List ℕ) (cs : List Command) (end : End) → IsReader r → (m : Midway r left all cs end) → length m.front ≤ 2 ^ 40
fits r left all cs end sound m = omega (arith, m.uses, sound.few)

-- no more commands
pub over : (r : Reader) (left : Option (List ℕ)) (all : List ℕ) (cs : List Command) (end : End) → IsReader r → Midway r left all cs end → ((bytes : List ℕ) → ahead r left ≡ Some bytes → bytes ≡ []) → (end ≡ Done) × (r.commands ≡ length cs) × (length all ≤ 2 ^ 40)
over r left all cs end sound m none =
    let e = none m.input m.told in
    let x = reads_empty (length m.done + 1) m.rest end (subst (λ b. Reads (length m.done + 1) b m.rest end) e m.reads) in
    let f : length m.front ≤ 2 ^ 40 = fits r left all cs end sound m in
    (x.1, m.counted ∙ ap length (sym (append-nil m.done) ∙ ap (λ l. m.done ++ l) (sym x.0) ∙ sym m.whole), subst (λ l. length l ≤ 2 ^ 40) (sym (m.taken ∙ ap (λ l. m.front ++ l) e ∙ append-nil m.front)) f)

-- an error instead of a command
pub stops : (old new : Reader) (left : Option (List ℕ)) (all : List ℕ) (cs : List Command) (end : End) (error : ScriptError) → IsReader old → Midway old left all cs end → new.commands ≡ old.commands
    → ((bytes : List ℕ) → ahead old left ≡ Some bytes → FindsError old bytes error) → CountsError new error → StopsSo all cs end error
stops old new left all cs end (Fault n kind) sound m same finds counts =
    let s : Shows (room old) kind m.input = finds m.input m.told in
    let x = reads_fault (length m.done + 1) m.input kind m.rest end (shown_fault (room old) kind m.input s) m.reads in
    let number : n ≡ length m.done + 1 = counts ∙ ap (λ k. k + 1) (same ∙ m.counted) in
    let all_done : cs ≡ m.done = m.whole ∙ ap (λ l. m.done ++ l) x.0 ∙ append-nil m.done in
    let turned : 1 + length m.done ≡ n = omega (arith, number) in
    let f = fault_shows (2 ^ 40) m.front m.input m.done kind m.spelled (fits old left all cs end sound m) (subst (λ k. Shows k kind m.input) (ap (λ k. 2 ^ 40 - k) m.uses) s) in (
      x.1 ∙ ap (λ k. FaultAt k kind) (sym number),
      elim f [
        | inl short ↦ inl (subst (λ l. length l ≤ 2 ^ 40) (sym m.taken) short.0)
        | inr every ↦ inr (λ more. subst (λ l. Reads 1 (take (2 ^ 40) l ++ more) cs (FaultAt n kind)) (sym m.taken) (subst (λ l. Reads 1 (take (2 ^ 40) (m.front ++ m.input) ++ more) l (FaultAt n kind)) (sym all_done) (subst (λ k. Reads 1 (take (2 ^ 40) (m.front ++ m.input) ++ more) m.done (FaultAt k kind)) turned (every more))))
      ],
    )
stops old new left all cs end Input sound m same finds counts = tt
stops old new left all cs end TooLong sound m same finds counts =
    let b = finds m.input m.told in
    let n : length all ≡ length (m.front ++ m.input) = ap length m.taken in
    let k : length (m.front ++ m.input) ≡ length m.front + length m.input = length-append m.front m.input in
    omega (arith, n, k, b.0, m.uses, sound.few)
stops old new left all cs end Memory sound m same finds counts = tt
