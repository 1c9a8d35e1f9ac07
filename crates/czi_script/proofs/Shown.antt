-- What the bytes that are held, and those that were used of an unfinished command, show of all that is ahead.
use Rattle.std.proofs.Common.{◌≡◌, ℕ, ◌+◌, ◌-◌, ◌<◌, ◌≤◌, List, [], ◌∷◌, ◌++◌, take, drop, length, Option, Some, refl, ap, sym, ◌∙◌, subst, arith, inl, inr, append-nil, append_assoc, length-append, length-take, min, take_at}
use Rattle.std.specs.Prelude.{◌≢◌}
use Rattle.std.proofs.Math.Seq.{take-append-add, drop-append_seam}
use Rattle.std.proofs.lemmas.List.{take-append-le}
use Rattle.czi_script.specs.declared.kind.Kind.{Kind}
use Rattle.czi_script.specs.declared.kind.Kind.TheVariants.{Cut, Long, Word, Later, Field, Value, Tail}
use Rattle.czi_script.specs.declared.error.ScriptError.{ScriptError}
use Rattle.czi_script.specs.declared.error.ScriptError.TheVariants.{Fault, Input as InputFailed, TooLong, Memory}
use Rattle.czi_script.specs.declared.command.Command.{Command as CodeCommand}
use Rattle.czi_script.specs.declared.head.Head.{Head as CodeHead}
use Rattle.czi_script.specs.declared.lines.Front.TheVariants.{Line}
use Rattle.czi_script.specs.Script.{Command, Head, HasNo, IsHead, Spells, FirstLine, IsWrong, IsFault, IsUnfinished, Shows, Finds, Beyond, payload_len, close}
use Rattle.czi_script.specs.View.{command_of, head_of}
use Rattle.czi_script.specs.Reader.{Reader, IsReader, Uses, GoesOn, ahead, used, room, limit, FindsError, IsUsedBefore, LeavesError, TakesCounted, lost_by}
use Rattle.czi_script.specs.Pieces.{IsFront, AtEnd, TookOn, Lines, LineFault, LineStops, UsesLine, RefusesLine, Passed, PassedPart, OtherByte, Finished, PayloadStops}
use Rattle.czi_script.proofs.Faults.{fault_of_wrong, spells_so}
use Rattle.czi_script.proofs.Passing.{Rest, rest_of, took_ahead, same_used, passed_none, passed_front, passed_both, takes_passed, takes_both, takes_one_more}

-- A front of the bytes that has as many as may be taken holds all that is held.
room_front : (h rest : List ℕ) (r : ℕ) → length h ≤ r → take r (h ++ rest) ≡ h ++ take (r - length h) rest
room_front h rest r le = ap (λ n. take n (h ++ rest)) (parts r (length h) le) ∙ take-append-add h rest (r - length h)
  where
    parts : (a b : ℕ) → b ≤ a → a ≡ b + (a - b)
    parts a b le = omega arith

every : (h rest more : List ℕ) (r : ℕ) → length h ≤ r → take r (h ++ rest) ++ more ≡ h ++ (take (r - length h) rest ++ more)
every h rest more r le = ap (λ l. l ++ more) (room_front h rest r le) ∙ append_assoc h (take (r - length h) rest) more

-- the line in front is the first line of all
first_line : (h ys : List ℕ) (len : ℕ) → IsFront h (Line len) → FirstLine (take len h) (h ++ ys)
first_line h ys len f = record {
  more = drop (len + 1) h ++ ys;
  whole = ap (λ l. l ++ ys) f.3 ∙ append_assoc (take len h) (10 ∷ drop (len + 1) h) ys;
  free = f.2;
  short = let n : length (take len h) ≡ min len (length h) = length-take len h in omega (arith, n, f.0);
}

wrong_shown : (h rest : List ℕ) (r len : ℕ) (kind : Kind) → length h ≤ r → IsFront h (Line len) → IsWrong kind (take len h) → Shows r kind (h ++ rest)
wrong_shown h rest r len kind le f w = inr (λ more. subst (IsFault kind) (sym (every h rest more r le)) (fault_of_wrong kind (take len h) _ (first_line h _ len f) w))

long_shown : (h rest : List ℕ) (r : ℕ) → length h ≤ r → IsFault Long h → Shows r Long (h ++ rest)
long_shown h rest r le f = inr (λ more. subst (IsFault Long) (sym (every h rest more r le)) (longer (take (r - length h) rest ++ more)))
  where
    longer : (ys : List ℕ) → IsFault Long (h ++ ys)
    longer ys = (let n : length (h ++ ys) ≡ length h + length ys = length-append h ys in omega (arith, n, f.0), subst (HasNo 10) (sym (take-append-le 4096 h ys f.0)) f.1)

cut_shown : (h rest : List ℕ) (r : ℕ) → length h ≤ r → IsFault Cut h → rest ≡ [] → Shows r Cut (h ++ rest)
cut_shown h rest r le f none = subst (Shows r Cut) (sym (ap (λ l. h ++ l) none ∙ append-nil h)) (inl (le, f))

beyond_shown : (h rest : List ℕ) (b r : ℕ) → r ≡ length h → IsUnfinished h → Finds r (h ++ b ∷ rest) Beyond
beyond_shown h rest b r full unfinished = (
  let n : length (h ++ b ∷ rest) ≡ length h + length (b ∷ rest) = length-append h (b ∷ rest) in omega (arith, n, full),
  subst IsUnfinished (sym (take_at h (b ∷ rest) r (sym full))) unfinished,
)

held_room : (old new : Reader) (before after : Option (List ℕ)) (more : List ℕ) → IsReader new → TookOn old new before after more → length new.held ≤ room old
held_room old new before after more sound t =
    let u : used new ≡ used old = same_used old new before after more t in omega (arith, u, sound.counted, sound.few)

full_room : (old new : Reader) (before after : Option (List ℕ)) (more : List ℕ) → IsReader new → TookOn old new before after more → new.taken ≡ limit → room old ≡ length new.held
full_room old new before after more sound t full =
    let u : used new ≡ used old = same_used old new before after more t in omega (arith, u, sound.counted, sound.few, full)

-- no whole line is in front
fault_found : (old new : Reader) (before after : Option (List ℕ)) (number : ℕ) (kind : Kind) (bytes : List ℕ) → IsReader new → LineFault old new before after number kind → ahead old before ≡ Some bytes → Shows (room old) kind bytes
fault_found old new before after number kind bytes sound f is = elim f.fault [
  | inl long ↦ subst (λ b. Shows (room old) kind b) (sym a.whole) (subst (λ k. Shows (room old) k (new.held ++ a.rest)) (sym long.1) (long_shown new.held a.rest (room old) fits long.0))
  | inr cut ↦ subst (λ b. Shows (room old) kind b) (sym a.whole) (subst (λ k. Shows (room old) k (new.held ++ a.rest)) (sym cut.1) (cut_shown new.held a.rest (room old) fits cut.0.0 (cut.0.1 a.rest a.left)))
]
  where
    a : Rest new.held bytes after
    a = took_ahead old new before after f.more bytes f.took is

    fits : length new.held ≤ room old
    fits = held_room old new before after f.more sound f.took

pub finds_stopped : (old new : Reader) (before after : Option (List ℕ)) (error : ScriptError) (bytes : List ℕ) → IsReader new → LineStops old new before after error → ahead old before ≡ Some bytes → FindsError old bytes error
finds_stopped old new before after (Fault number kind) bytes sound f is = fault_found old new before after number kind bytes sound f is
finds_stopped old new before after InputFailed bytes sound f is = tt
finds_stopped old new before after TooLong bytes sound f is =
    let a = took_ahead old new before f.middle f.more bytes f.took is in
    let g = f.goes_on a.rest a.left in
    subst (λ b. Finds (room old) b Beyond) (sym (a.whole ∙ ap (λ l. new.held ++ l) g.2))
    (beyond_shown new.held g.1 g.0 (room old) (full_room old new before f.middle f.more sound f.took f.full) (inl (f.unfinished.free, f.unfinished.short)))
finds_stopped old new before after Memory bytes sound f is = absurd f

none_unfinished : IsUnfinished []
none_unfinished = inl (tt, omega arith)

pub leaves_stopped : (old new : Reader) (before after : Option (List ℕ)) (error : ScriptError) → LineStops old new before after error → LeavesError old new before after error
leaves_stopped old new before after (Fault number kind) f = (
  [],
  (passed_none old new before after f.more f.took).uses,
  elim f.fault [
    | inl long ↦ subst (λ k. IsUsedBefore k []) (sym long.1) refl
    | inr cut ↦ subst (λ k. IsUsedBefore k []) (sym cut.1) none_unfinished
  ],
)
leaves_stopped old new before after InputFailed f = ([], (passed_none old new before after f.more f.took).uses, inl (f.unfinished.free, f.unfinished.short))
leaves_stopped old new before after TooLong f = ([], f.middle, (passed_none old new before f.middle f.more f.took).uses, inl (f.unfinished.free, f.unfinished.short), f.full, f.goes_on)
leaves_stopped old new before after Memory f = absurd f

takes_line : (old new : Reader) (before after : Option (List ℕ)) (more : List ℕ) → TookOn old new before after more → TakesCounted old new before after 0
takes_line old new before after more t = record {
  later = omega (arith, t.taken);
  inside = λ left is. let x = t.adds.left left is in inside left x.0 x.1;
  rest = λ left is. let x = t.adds.left left is in x.2 ∙ ap Some (rest_is left x.0 x.1);
}
  where
    gone : (new.taken - old.taken) + 0 ≡ length more
    gone = omega (arith, t.taken)

    inside : (left rest : List ℕ) → left ≡ more ++ rest → (new.taken - old.taken) + 0 ≤ length left
    inside left rest e = let n : length left ≡ length (more ++ rest) = ap length e in let m : length (more ++ rest) ≡ length more + length rest = length-append more rest in omega (arith, n, m, gone)

    rest_is : (left rest : List ℕ) → left ≡ more ++ rest → rest ≡ drop ((new.taken - old.taken) + 0) left
    rest_is left rest e = sym (ap (λ k. drop k left) gone ∙ ap (drop (length more)) e ∙ drop-append_seam more rest)

pub takes_stopped : (old new : Reader) (before after : Option (List ℕ)) (error : ScriptError) → LineStops old new before after error → TakesCounted old new before after (lost_by error)
takes_stopped old new before after (Fault number kind) f = takes_line old new before after f.more f.took
takes_stopped old new before after InputFailed f = takes_line old new before after f.more f.took
takes_stopped old new before after TooLong f = takes_one_more old new before f.middle after (takes_line old new before f.middle f.more f.took) f.goes_on
takes_stopped old new before after Memory f = absurd f

-- a whole line is in front, and is wrong

pub finds_refused : (old mid new : Reader) (before after : Option (List ℕ)) (len : ℕ) (error : ScriptError) (bytes : List ℕ) → IsReader mid → Lines old mid before after (Some len) → RefusesLine mid new len error → ahead old before ≡ Some bytes → FindsError old bytes error
finds_refused old mid new before after len (Fault number kind) bytes sound l f is =
    let a = took_ahead old mid before after l.more bytes l.took is in
    subst (Shows (room old) kind) (sym a.whole) (wrong_shown mid.held a.rest (room old) len kind (held_room old mid before after l.more sound l.took) l.finds f.2)
finds_refused old mid new before after len InputFailed bytes sound l f is = tt
finds_refused old mid new before after len TooLong bytes sound l f is = absurd f
finds_refused old mid new before after len Memory bytes sound l f is = tt

wrong_unused : (kind : Kind) (line : List ℕ) → IsWrong kind line → IsUsedBefore kind []
wrong_unused Cut line w = none_unfinished
wrong_unused Long line w = refl
wrong_unused Word line w = refl
wrong_unused Later line w = refl
wrong_unused Field line w = refl
wrong_unused Value line w = refl
wrong_unused Tail line w = none_unfinished

pub leaves_refused : (old mid new : Reader) (before after : Option (List ℕ)) (len : ℕ) (error : ScriptError) → Lines old mid before after (Some len) → RefusesLine mid new len error → LeavesError old new before after error
leaves_refused old mid new before after len (Fault number kind) l f = ([], subst (λ (r : Reader). Uses old r before after []) (sym f.0) (passed_none old mid before after l.more l.took).uses, wrong_unused kind (take len mid.held) f.2)
leaves_refused old mid new before after len InputFailed l f = absurd f
leaves_refused old mid new before after len TooLong l f = absurd f
leaves_refused old mid new before after len Memory l f = ([], subst (λ (r : Reader). Uses old r before after []) (sym f) (passed_none old mid before after l.more l.took).uses, none_unfinished)

pub takes_refused : (old mid new : Reader) (before after : Option (List ℕ)) (len : ℕ) (error : ScriptError) → Lines old mid before after (Some len) → RefusesLine mid new len error → TakesCounted old new before after (lost_by error)
takes_refused old mid new before after len (Fault number kind) l f = subst (λ (r : Reader). TakesCounted old r before after 0) (sym f.0) (takes_line old mid before after l.more l.took)
takes_refused old mid new before after len InputFailed l f = absurd f
takes_refused old mid new before after len TooLong l f = absurd f
takes_refused old mid new before after len Memory l f = subst (λ (r : Reader). TakesCounted old r before after 0) (sym f) (takes_line old mid before after l.more l.took)

-- a whole line is in front and is used

pub record AtPayload (old now : Reader) (before mid : Option (List ℕ)) (line : List ℕ) (h : Head) : Type 0 where
  pub passed : Passed old now before mid (line ++ 10 ∷ [])
  pub is_head : IsHead h line
  pub free : HasNo 10 line
  pub short : length line < 4096
  pub takes : TakesCounted old now before mid 0
  pub sound : IsReader now

pub at_payload : (h : CodeHead) (old mid now : Reader) (before after : Option (List ℕ)) (len : ℕ) → IsReader mid → IsReader now → Lines old mid before after (Some len) → UsesLine mid now len h → AtPayload old now before after (take len mid.held) (head_of h)
at_payload h old mid now before after len sound sound_now l u = record {
  passed = passed_both old mid now before after after [] (take len mid.held ++ 10 ∷ []) (passed_none old mid before after l.more l.took)
      (subst (Passed mid now after after) one_more (passed_front mid now after (len + 1) (omega (arith, l.finds.1)) (omega (arith, sound.counted)) u.1 u.2 u.3 u.4));
  is_head = u.0;
  free = l.finds.2;
  short = let n : length (take len mid.held) ≡ min len (length mid.held) = length-take len mid.held in omega (arith, n, l.finds.0);
  takes = takes_both old mid now before after after 0 (takes_line old mid before after l.more l.took)
      (takes_passed mid now after after _ sound sound_now (passed_front mid now after (len + 1) (omega (arith, l.finds.1)) (omega (arith, sound.counted)) u.1 u.2 u.3 u.4));
  sound = sound_now;
}
  where
    front_len : length (take len mid.held ++ 10 ∷ []) ≡ len + 1
    front_len =
        let n : length (take len mid.held) ≡ min len (length mid.held) = length-take len mid.held in
        let m : length (take len mid.held ++ 10 ∷ []) ≡ length (take len mid.held) + 1 = length-append (take len mid.held) (10 ∷ []) in
        omega (arith, n, m, l.finds.1)

    one_more : take (len + 1) mid.held ≡ take len mid.held ++ 10 ∷ []
    one_more = ap (take (len + 1)) (l.finds.3 ∙ sym (append_assoc (take len mid.held) (10 ∷ []) (drop (len + 1) mid.held))) ∙ take_at (take len mid.held ++ 10 ∷ []) (drop (len + 1) mid.held) (len + 1) front_len

module _ (old now : Reader) (before mid : Option (List ℕ)) (line : List ℕ) (h : Head) (p : AtPayload old now before mid line h) (new : Reader) (after : Option (List ℕ)) where
  -- what was used of the command
  all_gone : (last : Option (List ℕ)) (part : List ℕ) → Passed now new mid last part → Passed old new before last (line ++ 10 ∷ part)
  all_gone last part q = subst (Passed old new before last) (append_assoc line (10 ∷ []) part) (passed_both old now new before mid last (line ++ 10 ∷ []) part p.passed q)

  part_unfinished : (part : List ℕ) → close h ≡ 10 ∷ [] → length part ≤ payload_len h → IsUnfinished (line ++ 10 ∷ part)
  part_unfinished part closed few = inr (record {
    line = line;
    head = h;
    first = record { more = part; whole = refl; free = p.free; short = p.short };
    is_head = p.is_head;
    less = let n : length (close h) ≡ 1 = ap length closed in omega (arith, n, few);
  })

  gone_room : IsReader new → (last : Option (List ℕ)) (gone : List ℕ) → Passed old new before last gone → length gone + length new.held ≤ room old
  gone_room sound last gone q = omega (arith, q.uses.counted, sound.counted, sound.few)

  -- a command, whole

  pub whole_command : (c : CodeCommand) → IsReader new → Finished now new mid after h c → (bytes : List ℕ) → ahead old before ≡ Some bytes
      → (spelled more : List ℕ) × (bytes ≡ spelled ++ more) × Spells (command_of c) spelled × (length spelled ≤ room old) × (ahead new after ≡ Some more) × (used new ≡ used old + length spelled)
  whole_command c sound f bytes is =
      let q = all_gone after (f.payload ++ close h) f.passed in
      let r = q.uses.rest bytes is in (
        line ++ 10 ∷ (f.payload ++ close h),
        r.0,
        r.1,
        subst (λ (d : Command). Spells d (line ++ 10 ∷ (f.payload ++ close h))) (sym f.tells) (spells_so h line f.payload p.is_head p.short p.free f.sized),
        (let n = gone_room sound after (line ++ 10 ∷ (f.payload ++ close h)) q in omega (arith, n)),
        r.2,
        q.uses.counted,
      )

  pub takes_command : (c : CodeCommand) → IsReader new → Finished now new mid after h c → TakesCounted old new before after 0
  takes_command c sound f = takes_both old now new before mid after 0 p.takes (takes_passed now new mid after (f.payload ++ close h) p.sound sound f.passed)

  -- or not whole

  nothing_left : (more : List ℕ) → new.held ≡ [] → AtEnd after → ahead new after ≡ Some more → more ≡ []
  nothing_left more none ended is = let r = rest_of new after more is in r.whole ∙ ap (λ l. l ++ r.rest) none ∙ ended r.rest r.left

  cut_found : IsReader new → close h ≡ 10 ∷ [] → PassedPart now new mid after (payload_len h) → new.held ≡ [] → AtEnd after → (bytes : List ℕ) → ahead old before ≡ Some bytes → Shows (room old) Cut bytes
  cut_found sound closed q none ended bytes is =
      let all = all_gone after q.part q.passed in
      let r = all.uses.rest bytes is in
      let n = gone_room sound after (line ++ 10 ∷ q.part) all in
      let whole : bytes ≡ line ++ 10 ∷ q.part = r.1 ∙ ap (λ l. (line ++ 10 ∷ q.part) ++ l) (nothing_left r.0 none ended r.2) ∙ append-nil (line ++ 10 ∷ q.part) in
      subst (Shows (room old) Cut) (sym whole) (inl (omega (arith, n), (some line q.part, part_unfinished q.part closed q.few)))
    where
      some : (line part : List ℕ) → line ++ 10 ∷ part ≢ []
      some [] part = λ e. cc
      some (x ∷ line) part = λ e. cc

  tail_found : (number : ℕ) (kind : Kind) → IsReader new → close h ≡ 10 ∷ [] → OtherByte now new mid after (payload_len h) number kind → (bytes : List ℕ) → ahead old before ≡ Some bytes → Shows (room old) kind bytes
  tail_found number kind sound closed f bytes is = subst (λ k. Shows (room old) k bytes) (sym f.is_tail) (inr (λ y. subst (IsFault Tail) (sym (turned y)) (otherwise (take (room old - length front) rest ++ y))))
    where
      all : Passed old new before after (line ++ 10 ∷ f.part)
      all = all_gone after f.part f.passed

      front : List ℕ
      front = (line ++ 10 ∷ f.part) ++ f.byte ∷ []

      at : Rest new.held (all.uses.rest bytes is).0 after
      at = rest_of new after (all.uses.rest bytes is).0 (all.uses.rest bytes is).2

      rest : List ℕ
      rest = f.more ++ at.rest

      whole : bytes ≡ front ++ rest
      whole = (all.uses.rest bytes is).1 ∙ ap (λ l. (line ++ 10 ∷ f.part) ++ l) (at.whole ∙ ap (λ l. l ++ at.rest) f.held) ∙ sym (append_assoc (line ++ 10 ∷ f.part) (f.byte ∷ []) rest)

      long : length front ≤ room old
      long =
          let a : length front ≡ length (line ++ 10 ∷ f.part) + 1 = length-append (line ++ 10 ∷ f.part) (f.byte ∷ []) in
          let b : length new.held ≡ length (f.byte ∷ f.more) = ap length f.held in
          let n = gone_room sound after (line ++ 10 ∷ f.part) all in
          omega (arith, a, b, n)

      turned : (y : List ℕ) → take (room old) bytes ++ y ≡ front ++ (take (room old - length front) rest ++ y)
      turned y = ap (λ l. take (room old) l ++ y) whole ∙ every front rest y (room old) long

      otherwise : (x : List ℕ) → IsFault Tail (front ++ x)
      otherwise x = record {
        line = line;
        head = h;
        payload = f.part;
        byte = f.byte;
        more = x;
        first = record { more = f.part ++ f.byte ∷ x; whole = append_assoc (line ++ 10 ∷ f.part) (f.byte ∷ []) x ∙ append_assoc line (10 ∷ f.part) (f.byte ∷ x); free = p.free; short = p.short };
        is_head = p.is_head;
        sized = f.sized;
        closed = closed;
        behind = refl;
        other = f.other;
      }

  beyond_found : (middle : Option (List ℕ)) → IsReader new → close h ≡ 10 ∷ [] → PassedPart now new mid middle (payload_len h) → new.held ≡ [] → new.taken ≡ limit → GoesOn middle after → (bytes : List ℕ) → ahead old before ≡ Some bytes
      → Finds (room old) bytes Beyond
  beyond_found middle sound closed q none full goes bytes is =
      let all = all_gone middle q.part q.passed in
      let r = all.uses.rest bytes is in
      let at = rest_of new middle r.0 r.2 in
      let on = goes at.rest at.left in
      let empty : length new.held ≡ 0 = ap length none in
      let whole : bytes ≡ (line ++ 10 ∷ q.part) ++ on.0 ∷ on.1 = r.1 ∙ ap (λ l. (line ++ 10 ∷ q.part) ++ l) (at.whole ∙ ap (λ l. l ++ at.rest) none ∙ on.2) in
      subst (λ b. Finds (room old) b Beyond) (sym whole) (beyond_shown (line ++ 10 ∷ q.part) on.1 on.0 (room old) (omega (arith, all.uses.counted, full, empty, sound.few)) (part_unfinished q.part closed q.few))

  pub finds_payload : (error : ScriptError) → IsReader new → PayloadStops now new mid after h error → (bytes : List ℕ) → ahead old before ≡ Some bytes → FindsError old bytes error
  finds_payload (Fault number kind) sound f bytes is = elim f.1 [
    | inl cut ↦ subst (λ k. Shows (room old) k bytes) (sym cut.2) (cut_found sound f.0 cut.0 cut.3 cut.4 bytes is)
    | inr tail ↦ tail_found number kind sound f.0 tail bytes is
  ]
  finds_payload InputFailed sound f bytes is = tt
  finds_payload TooLong sound f bytes is = elim f.1 [
    | inl i ↦ beyond_found i.0 sound f.0 i.1 i.2 i.3 i.4 bytes is
    | inr none ↦ absurd none
  ]
  finds_payload Memory sound f bytes is = tt

  held_none : (part : List ℕ) → new.held ≡ [] → IsUnfinished (line ++ 10 ∷ part) → IsUnfinished ((line ++ 10 ∷ part) ++ new.held)
  held_none part none u = subst IsUnfinished (sym (ap (λ l. (line ++ 10 ∷ part) ++ l) none ∙ append-nil (line ++ 10 ∷ part))) u

  pub leaves_payload : (error : ScriptError) → PayloadStops now new mid after h error → LeavesError old new before after error
  leaves_payload (Fault number kind) f = elim f.1 [
    | inl cut ↦ (line ++ 10 ∷ cut.0.part, (all_gone after cut.0.part cut.0.passed).uses, subst (λ k. IsUsedBefore k (line ++ 10 ∷ cut.0.part)) (sym cut.2) (part_unfinished cut.0.part f.0 cut.0.few))
    | inr tail ↦ (
      line ++ 10 ∷ tail.part,
      (all_gone after tail.part tail.passed).uses,
      subst (λ k. IsUsedBefore k (line ++ 10 ∷ tail.part)) (sym tail.is_tail) (part_unfinished tail.part f.0 (let n : length tail.part ≡ payload_len h = tail.sized in omega (arith, n))),
    )
  ]
  leaves_payload InputFailed f = elim f.1 [
    | inl i ↦ (line ++ 10 ∷ i.0.part, (all_gone after i.0.part i.0.passed).uses, held_none i.0.part i.1 (part_unfinished i.0.part f.0 i.0.few))
    | inr none ↦ absurd none
  ]
  leaves_payload TooLong f = elim f.1 [
    | inl i ↦ (line ++ 10 ∷ i.1.part, i.0, (all_gone i.0 i.1.part i.1.passed).uses, held_none i.1.part i.2 (part_unfinished i.1.part f.0 i.1.few), i.3, i.4)
    | inr none ↦ absurd none
  ]
  leaves_payload Memory f = elim f.1 [
    | inl i ↦ (line ++ 10 ∷ i.part, (all_gone after i.part i.passed).uses, part_unfinished i.part f.0 i.few)
    | inr none ↦ absurd none
  ]

  part_takes : IsReader new → (last : Option (List ℕ)) (part : List ℕ) → Passed now new mid last part → TakesCounted old new before last 0
  part_takes sound last part q = takes_both old now new before mid last 0 p.takes (takes_passed now new mid last part p.sound sound q)

  pub takes_payload : (error : ScriptError) → IsReader new → PayloadStops now new mid after h error → TakesCounted old new before after (lost_by error)
  takes_payload (Fault number kind) sound f = elim f.1 [
    | inl cut ↦ part_takes sound after cut.0.part cut.0.passed
    | inr tail ↦ part_takes sound after tail.part tail.passed
  ]
  takes_payload InputFailed sound f = elim f.1 [ inl i ↦ part_takes sound after i.0.part i.0.passed | inr none ↦ absurd none ]
  takes_payload TooLong sound f = elim f.1 [ inl i ↦ takes_one_more old new before i.0 after (part_takes sound i.0 i.1.part i.1.passed) i.4 | inr none ↦ absurd none ]
  takes_payload Memory sound f = elim f.1 [ inl i ↦ part_takes sound after i.part i.passed | inr none ↦ absurd none ]

-- one command more is counted
abbrev pub counted : Reader → Reader
counted r = record { held = r.held; taken = r.taken; commands = r.commands + 1; error = r.error }

pub takes_counted : (old new : Reader) (before after : Option (List ℕ)) → TakesCounted old new before after 0 → TakesCounted old (counted new) before after 0
takes_counted old new before after t = record { later = t.later; inside = t.inside; rest = t.rest }

-- an error is kept
abbrev pub keeping : Reader → ScriptError → Reader
keeping r error = record { held = r.held; taken = r.taken; commands = r.commands; error = Some error }

uses_kept : (old new : Reader) (kept : ScriptError) (before after : Option (List ℕ)) (gone : List ℕ) → Uses old new before after gone → Uses old (keeping new kept) before after gone
uses_kept old new kept before after gone u = record { counted = u.counted; rest = u.rest }

pub leaves_kept : (old new : Reader) (kept : ScriptError) (before after : Option (List ℕ)) (error : ScriptError) → LeavesError old new before after error → LeavesError old (keeping new kept) before after error
leaves_kept old new kept before after (Fault number kind) l = (l.0, uses_kept old new kept before after l.0 l.1, l.2)
leaves_kept old new kept before after InputFailed l = (l.0, uses_kept old new kept before after l.0 l.1, l.2)
leaves_kept old new kept before after TooLong l = (l.0, l.1, uses_kept old new kept before l.1 l.0 l.2, l.3, l.4, l.5)
leaves_kept old new kept before after Memory l = (l.0, uses_kept old new kept before after l.0 l.1, l.2)
