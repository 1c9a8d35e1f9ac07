-- A reader passes over bytes, piece by piece.
use Rattle.std.proofs.Common.{◌≡◌, ℕ, zero, suc, ◌+◌, ◌-◌, ◌<◌, ◌≤◌, List, [], ◌∷◌, ◌++◌, take, drop, length, Option, Some, None, inl, inr, refl, ap, sym, ◌∙◌, subst, arith, append-nil, append_assoc, length-append, length-take, length-drop, take-append-drop, min, zero-le, true, false, ◌==◌, drop-drop}
use Rattle.std.specs.Prelude.{◌≢◌}
use Rattle.std.proofs.Math.Seq.{drop-append-add, drop-append_seam}
use Rattle.std.proofs.lemmas.Bool.{eqb-true}
use Rattle.std.proofs.lemmas.Option.{same_Some, none-some}
use Rattle.czi_script.specs.declared.kind.Kind.TheVariants.{Cut}
use Rattle.czi_script.specs.declared.error.ScriptError.{ScriptError}
use Rattle.czi_script.specs.declared.error.ScriptError.TheVariants.{Fault, Input as InputFailed, TooLong, Memory}
use Rattle.czi_script.specs.Reader.{Reader, IsReader, GoesOn, ahead, used, limit, TakesCounted}
use Rattle.czi_script.specs.Filled.{Filled}
use Rattle.czi_script.proofs.Bytes.{no_bytes}
use Rattle.czi_script.proofs.Tests.{less_or}
use Rattle.czi_script.specs.Pieces.{AtEnd, Added, TookOn, Fills, FillStops, EndsLine, Passed, PassedPart, Interrupted, TakesSome, EndsTail}

-- what is ahead is what is held, and then what is left
pub record Rest (h bytes : List ℕ) (after : Option (List ℕ)) : Type 0 where
  pub rest : List ℕ
  pub left : after ≡ Some rest
  pub whole : bytes ≡ h ++ rest

pub rest_of : (r : Reader) (after : Option (List ℕ)) (more : List ℕ) → ahead r after ≡ Some more → Rest r.held more after
rest_of r None more is = absurd (none-some more is)
rest_of r (Some left) more is = record { rest = left; left = refl; whole = sym (same_Some (r.held ++ left) more is) }

pub took_ahead : (old new : Reader) (before after : Option (List ℕ)) (more bytes : List ℕ) → TookOn old new before after more → ahead old before ≡ Some bytes → Rest new.held bytes after
took_ahead old new None after more bytes t is = absurd (none-some bytes is)
took_ahead old new (Some left) after more bytes t is =
    let x = t.adds.left left refl in
    record {
      rest = x.0;
      left = x.2;
      whole = sym (same_Some (old.held ++ left) bytes is) ∙ ap (λ l. old.held ++ l) x.1 ∙ sym (append_assoc old.held more x.0) ∙ ap (λ l. l ++ x.0) (sym t.adds.whole);
    }

pub same_used : (old new : Reader) (before after : Option (List ℕ)) (more : List ℕ) → TookOn old new before after more → used new ≡ used old
same_used old new before after more t =
    let n : length new.held ≡ length (old.held ++ more) = ap length t.adds.whole in
    let m : length (old.held ++ more) ≡ length old.held + length more = length-append old.held more in
    omega (arith, n, m, t.taken)

pub passed_none : (old new : Reader) (before after : Option (List ℕ)) (more : List ℕ) → TookOn old new before after more → Passed old new before after []
passed_none old new before after more t = record {
  uses = record {
    counted = let u : used new ≡ used old = same_used old new before after more t in omega (arith, u);
    rest = λ all is. let a = took_ahead old new before after more all t is in (all, refl, ap (ahead new) a.left ∙ ap Some (sym a.whole));
  };
  later = omega (arith, t.taken);
  commands = t.commands;
  error = t.error;
}

pub passed_here : (r : Reader) (before after : Option (List ℕ)) → after ≡ before → Passed r r before after []
passed_here r before after same = record {
  uses = record { counted = nothing (used r); rest = λ all is. (all, refl, ap (ahead r) same ∙ is) };
  later = omega arith;
  commands = refl;
  error = refl;
}
  where
    nothing : (n : ℕ) → n ≡ n + 0
    nothing n = omega arith

-- bytes that are held
pub passed_front : (old new : Reader) (left : Option (List ℕ)) (n : ℕ) → n ≤ length old.held → length old.held ≤ old.taken → new.held ≡ drop n old.held → new.taken ≡ old.taken → new.commands ≡ old.commands → new.error ≡ old.error
    → Passed old new left left (take n old.held)
passed_front old new left n few inside held taken commands error = record {
  uses = record {
    counted =
        let a : length new.held ≡ length (drop n old.held) = ap length held in
        let b : length (drop n old.held) ≡ length old.held - n = length-drop n old.held in
        let c : length (take n old.held) ≡ min n (length old.held) = length-take n old.held in
        omega (arith, a, b, c, few, inside, taken);
    rest = λ all is. let a = rest_of old left all is in (
      drop n old.held ++ a.rest,
      a.whole ∙ ap (λ l. l ++ a.rest) (sym (take-append-drop n old.held)) ∙ append_assoc (take n old.held) (drop n old.held) a.rest,
      ap (ahead new) a.left ∙ ap (λ l. Some (l ++ a.rest)) held,
    );
  };
  later = omega (arith, taken);
  commands = commands;
  error = error;
}

-- one after another
pub passed_both : (a b c : Reader) (start middle end : Option (List ℕ)) (first more : List ℕ) → Passed a b start middle first → Passed b c middle end more → Passed a c start end (first ++ more)
passed_both a b c start middle end first more p q = record {
  uses = record {
    counted = let n : length (first ++ more) ≡ length first + length more = length-append first more in omega (arith, n, p.uses.counted, q.uses.counted);
    rest = λ all is.
        let x = p.uses.rest all is in
        let y = q.uses.rest x.0 x.2 in
        (y.0, x.1 ∙ ap (λ l. first ++ l) y.1 ∙ sym (append_assoc first more y.0), y.2);
  };
  later = omega (arith, p.later, q.later);
  commands = q.commands ∙ p.commands;
  error = q.error ∙ p.error;
}

pub part_then : (a b c : Reader) (start middle end : Option (List ℕ)) (first : List ℕ) (n most : ℕ) → Passed a b start middle first → PassedPart b c middle end n → length first + n ≤ most → PassedPart a c start end most
part_then a b c start middle end first n most p q le = record {
  part = first ++ q.part;
  passed = passed_both a b c start middle end first q.part p q.passed;
  few = let m : length (first ++ q.part) ≡ length first + length q.part = length-append first q.part in omega (arith, m, le, q.few);
}

pub interrupted_then : (a b c : Reader) (start middle end : Option (List ℕ)) (first : List ℕ) (n most : ℕ) (error : ScriptError) → Passed a b start middle first → Interrupted b c middle end n error → length first + n ≤ most
    → Interrupted a c start end most error
interrupted_then a b c start middle end first n most (Fault number kind) p f le = (part_then a b c start middle end first n most p f.0 le, f.1 ∙ ap (λ k. k + 1) p.commands, f.2, f.3, f.4)
interrupted_then a b c start middle end first n most InputFailed p f le = (part_then a b c start middle end first n most p f.0 le, f.1)
interrupted_then a b c start middle end first n most TooLong p f le = (f.0, part_then a b c start middle f.0 first n most p f.1 le, f.2, f.3, f.4)
interrupted_then a b c start middle end first n most Memory p f le = part_then a b c start middle end first n most p f le

pub tail_then : (a b c : Reader) (start middle end : Option (List ℕ)) (first : List ℕ) (n : ℕ) (error : ScriptError) → Passed a b start middle first → EndsTail b c middle end 0 error → length first ≡ n → EndsTail a c start end n error
tail_then a b c start middle end first n (Fault number kind) p f sized = record {
  part = first ++ f.part;
  passed = passed_both a b c start middle end first f.part p f.passed;
  sized = let m : length (first ++ f.part) ≡ length first + length f.part = length-append first f.part in omega (arith, m, sized, f.sized);
  next_one = f.next_one ∙ ap (λ k. k + 1) p.commands;
  is_tail = f.is_tail;
  byte = f.byte;
  more = f.more;
  held = f.held;
  other = f.other;
}
tail_then a b c start middle end first n InputFailed p f sized = absurd f
tail_then a b c start middle end first n TooLong p f sized = absurd f
tail_then a b c start middle end first n Memory p f sized = absurd f

-- nothing was passed
pub part_none : (old new : Reader) (before after : Option (List ℕ)) (most : ℕ) → Passed old new before after [] → PassedPart old new before after most
part_none old new before after most p = record { part = []; passed = p; few = zero-le }

-- the input was at its end, or failed, or goes on
pub cut_here : (r : Reader) (before after : Option (List ℕ)) (most : ℕ) → after ≡ before → AtEnd after → r.held ≡ [] → Interrupted r r before after most (Fault (r.commands + 1) Cut)
cut_here r before after most same ended none = (part_none r r before after most (passed_here r before after same), refl, refl, none, ended)

pub ends_here : (r : Reader) (before after : Option (List ℕ)) (most : ℕ) (error : ScriptError) → EndsLine before after error → r.held ≡ [] → r.taken ≡ limit → Interrupted r r before after most error
ends_here r before after most (Fault number kind) e none full = absurd e
ends_here r before after most InputFailed e none full = (part_none r r before after most (passed_here r before after e), none)
ends_here r before after most TooLong e none full = (before, part_none r r before before most (passed_here r before before refl), none, full, e)
ends_here r before after most Memory e none full = absurd e

pub failed_here : (r : Reader) (before after : Option (List ℕ)) (most : ℕ) → after ≡ before → r.held ≡ [] → Interrupted r r before after most InputFailed
failed_here r before after most same none = (part_none r r before after most (passed_here r before after same), none)

-- a window wasn't filled
pub fill_stopped : (old new : Reader) (before after : Option (List ℕ)) (most : ℕ) (error : ScriptError) → FillStops old new before after error → old.held ≡ [] → Interrupted old new before after most error
fill_stopped old new before after most (Fault number kind) f none = absurd f
fill_stopped old new before after most InputFailed f none = subst (λ (r : Reader). Interrupted old r before after most InputFailed) (sym f.0) (failed_here old before after most f.1 none)
fill_stopped old new before after most TooLong f none = subst (λ (r : Reader). Interrupted old r before after most TooLong) (sym f.0) (ends_here old before after most TooLong f.2 none f.1)
fill_stopped old new before after most Memory f none = absurd f

pub fill_ended : (old new : Reader) (before after : Option (List ℕ)) (most : ℕ) → Fills old new before after false → old.held ≡ [] → Interrupted old new before after most (Fault (new.commands + 1) Cut)
fill_ended old new before after most f none =
    let e = f.none refl in (
      part_none old new before after most (passed_none old new before after f.more f.took),
      ap (λ k. k + 1) f.took.commands,
      refl,
      f.took.adds.whole ∙ ap (λ l. old.held ++ l) e.0 ∙ append-nil old.held ∙ none,
      e.1,
    )

-- bytes that went straight into a buffer
pub added_some : (old new : Reader) (held all : List ℕ) (n : ℕ) (before after : Option (List ℕ)) → Added held all n before after → n ≢ 0 → old.held ≡ [] → new.held ≡ [] → new.taken ≡ old.taken + n → new.commands ≡ old.commands → new.error ≡ old.error
    → TakesSome old new before after held all
added_some old new held all n before after a other none still taken commands error = record {
  more = a.more;
  some = positive;
  whole = a.adds.whole;
  passed = record {
    uses = record {
      counted = let h : length old.held ≡ 0 = ap length none in let k : length new.held ≡ 0 = ap length still in omega (arith, h, k, taken, a.counted);
      rest = λ bytes is.
          let r = rest_of old before bytes is in
          let x = a.adds.left r.rest r.left in
          (x.0, r.whole ∙ ap (λ l. l ++ r.rest) none ∙ x.1, ap (ahead new) x.2 ∙ ap (λ l. Some (l ++ x.0)) still);
    };
    later = omega (arith, taken);
    commands = commands;
    error = error;
  };
}
  where
    positive : 0 < length a.more
    positive = some_len (length a.more) (λ e. other (sym a.counted ∙ e))
      where
        some_len : (m : ℕ) → (m ≡ 0 → ⊥) → 0 < m
        some_len zero other = absurd (other refl)
        some_len (suc m) other = omega arith

pub added_none : (r : Reader) (held all : List ℕ) (before after : Option (List ℕ)) → Added held all 0 before after → (left_same : after ≡ before) → r.held ≡ [] → Interrupted r r before after 0 (Fault (r.commands + 1) Cut)
added_none r held all before after a same none = cut_here r before after 0 same (a.none refl) none

-- what was taken of the input, by what was passed

pub takes_passed : (old new : Reader) (before after : Option (List ℕ)) (gone : List ℕ) → IsReader old → IsReader new → Passed old new before after gone → TakesCounted old new before after 0
takes_passed old new before after gone was is p = record {
  later = p.later;
  inside = λ left e. (by left e).0;
  rest = λ left e. (by left e).1;
}
  where
    by : (left : List ℕ) → before ≡ Some left → ((new.taken - old.taken) + 0 ≤ length left) × (after ≡ Some (drop ((new.taken - old.taken) + 0) left))
    by left e =
        let x = p.uses.rest (old.held ++ left) (ap (ahead old) e) in
        let r = rest_of new after x.0 x.2 in
        let a : length (old.held ++ left) ≡ length (gone ++ x.0) = ap length x.1 in
        let b : length (old.held ++ left) ≡ length old.held + length left = length-append old.held left in
        let c : length (gone ++ x.0) ≡ length gone + length x.0 = length-append gone x.0 in
        let d : length x.0 ≡ length (new.held ++ r.rest) = ap length r.whole in
        let f : length (new.held ++ r.rest) ≡ length new.held + length r.rest = length-append new.held r.rest in
        let all : length gone + length new.held ≡ length old.held + ((new.taken - old.taken) + 0) = omega (arith, p.uses.counted, p.later, was.counted, is.counted) in
        let same : gone ++ (new.held ++ r.rest) ≡ old.held ++ left = ap (λ l. gone ++ l) (sym r.whole) ∙ sym x.1 in (
          omega (arith, a, b, c, d, f, p.uses.counted, p.later, was.counted, is.counted),
          r.left ∙ ap Some (
              sym (drop-append_seam new.held r.rest) ∙ sym (drop-append-add gone (new.held ++ r.rest) (length new.held)) ∙ ap (drop (length gone + length new.held)) same
              ∙ ap (λ k. drop k (old.held ++ left)) all ∙ drop-append-add old.held left ((new.taken - old.taken) + 0)
              ),
        )

pub takes_both : (a b c : Reader) (start middle end : Option (List ℕ)) (n : ℕ) → TakesCounted a b start middle 0 → TakesCounted b c middle end n → TakesCounted a c start end n
takes_both a b c start middle end n p q = record {
  later = omega (arith, p.later, q.later);
  inside = λ left is.
      let i = p.inside left is in
      let j = q.inside (drop ((b.taken - a.taken) + 0) left) (p.rest left is) in
      let k : length (drop ((b.taken - a.taken) + 0) left) ≡ length left - ((b.taken - a.taken) + 0) = length-drop ((b.taken - a.taken) + 0) left in
      omega (arith, i, j, k, p.later, q.later);
  rest = λ left is.
      let e : ((b.taken - a.taken) + 0) + ((c.taken - b.taken) + n) ≡ (c.taken - a.taken) + n = omega (arith, p.later, q.later) in
      q.rest (drop ((b.taken - a.taken) + 0) left) (p.rest left is) ∙ ap Some (drop-drop ((c.taken - b.taken) + n) ((b.taken - a.taken) + 0) left ∙ ap (λ k. drop k left) e);
}

pub takes_one_more : (old new : Reader) (before middle after : Option (List ℕ)) → TakesCounted old new before middle 0 → GoesOn middle after → TakesCounted old new before after 1
takes_one_more old new before middle after t goes = record {
  later = t.later;
  inside = λ left is.
      let g = goes (drop n left) (t.rest left is) in
      let k : length (drop n left) ≡ length left - n = length-drop n left in
      let m : length (drop n left) ≡ length (g.0 ∷ g.1) = ap length g.2 in
      omega (arith, k, m, t.inside left is);
  rest = λ left is.
      let g = goes (drop n left) (t.rest left is) in
      g.3 ∙ ap Some (ap (drop 1) (sym g.2) ∙ drop-drop 1 n left ∙ ap (λ k. drop k left) more);
}
  where
    n : ℕ
    n = (new.taken - old.taken) + 0

    more : n + 1 ≡ (new.taken - old.taken) + 1
    more = omega arith

-- a piece of a payload

take_few : (n : ℕ) (xs : List ℕ) → length (take n xs) ≤ length xs
take_few n xs = let e : length (take n xs) ≡ min n (length xs) = length-take n xs in omega (arith, e)

pub filled_few : (n : ℕ) (xs : List ℕ) (f : Filled) → (let view : Filled = record { bytes = take n xs; size = length xs } in view) ≡ f → length f.bytes ≤ f.size
filled_few n xs f is = subst (λ (x : Filled). length x.bytes ≤ x.size) is (take_few n xs)

pub sound_front : (old new : Reader) (n : ℕ) → IsReader old → new.held ≡ drop n old.held → new.taken ≡ old.taken → new.commands ≡ old.commands → IsReader new
sound_front old new n sound held taken commands = record {
  counted = let a : length new.held ≡ length (drop n old.held) = ap length held in let b : length (drop n old.held) ≡ length old.held - n = length-drop n old.held in omega (arith, a, b, sound.counted, taken, commands);
  few = omega (arith, taken, sound.few);
}

pub record PieceBegins (now new : Reader) (left : Option (List ℕ)) (size : ℕ) (f : Filled) : Type 0 where
  pub passed : Passed now new left left f.bytes
  pub sized : f.size ≡ size
  pub few : length f.bytes ≤ f.size
  pub held : length f.bytes < f.size → new.held ≡ []
  pub sound : IsReader new

pub none_held : (old now : Reader) (h : List ℕ) → old ≡ now → h ≡ old.held → true ≡ (length h == 0) → now.held ≡ []
none_held old now h same h_is none = ap (λ (r : Reader). r.held) (sym same) ∙ sym h_is ∙ no_bytes h (eqb-true (length h) 0 (sym none))

pub piece_begins : (now old new : Reader) (left : Option (List ℕ)) (size n : ℕ) (start f : Filled) (h k : List ℕ) → old ≡ now → IsReader old → n ≡ min (length h) size → h ≡ old.held → k ≡ old.held → start ≡ record { bytes = []; size = size }
    → f ≡ record { bytes = start.bytes ++ take n k; size = start.size } → new.held ≡ drop n old.held → new.taken ≡ old.taken → new.commands ≡ old.commands → new.error ≡ old.error → PieceBegins now new left size f
piece_begins now old new left size n start f h k same sound n_is h_is k_is begun added held taken commands error = record {
  passed = subst (λ (r : Reader). Passed r new left left f.bytes) same (subst (Passed old new left left) (sym bytes_is) (passed_front old new left n inside (omega (arith, sound.counted)) held taken commands error));
  sized = sized;
  few = omega (arith, sized, long, n_is, h_len);
  held = λ lt. held ∙ no_bytes (drop n old.held) (let d : length (drop n old.held) ≡ length old.held - n = length-drop n old.held in omega (arith, d, lt, sized, long, n_is, h_len));
  sound = sound_front old new n sound held taken commands;
}
  where
    h_len : length h ≡ length old.held
    h_len = ap length h_is

    inside : n ≤ length old.held
    inside = omega (arith, n_is, h_len)

    bytes_is : f.bytes ≡ take n old.held
    bytes_is = ap (λ (x : Filled). x.bytes) added ∙ ap (λ (x : Filled). x.bytes ++ take n k) begun ∙ ap (take n) k_is

    sized : f.size ≡ size
    sized = ap (λ (x : Filled). x.size) added ∙ ap (λ (x : Filled). x.size) begun

    long : length f.bytes ≡ n
    long = let a : length f.bytes ≡ length (take n old.held) = ap length bytes_is in let b : length (take n old.held) ≡ min n (length old.held) = length-take n old.held in omega (arith, a, b, inside)

-- a turn that passes over what is held
pub record SkipTurn (first new : Reader) (start left : Option (List ℕ)) (count wanting : ℕ) : Type 0 where
  pub bytes : List ℕ
  pub passed : Passed first new start left bytes
  pub sized : length bytes + wanting ≡ count
  pub held : (wanting ≡ 0 → ⊥) → new.held ≡ []

pub skip_turn : (first now old new : Reader) (start left : Option (List ℕ)) (bytes h : List ℕ) (count wanting n : ℕ) → old ≡ now → IsReader old → Passed first now start left bytes → length bytes + wanting ≡ count → n ≡ min wanting (length h) → h ≡ old.held
    → new.held ≡ drop n old.held → new.taken ≡ old.taken → new.commands ≡ old.commands → new.error ≡ old.error → SkipTurn first new start left count (wanting - n)
skip_turn first now old new start left bytes h count wanting n same sound p sized n_is h_is held taken commands error = record {
  bytes = bytes ++ take n old.held;
  passed = passed_both first now new start left left bytes (take n old.held) p (subst (λ (r : Reader). Passed r new left left (take n old.held)) same (passed_front old new left n inside (omega (arith, sound.counted)) held taken commands error));
  sized =
      let a : length (bytes ++ take n old.held) ≡ length bytes + length (take n old.held) = length-append bytes (take n old.held) in
      let b : length (take n old.held) ≡ min n (length old.held) = length-take n old.held in
      omega (arith, a, b, sized, n_is, h_len, inside);
  held = λ some. held ∙ no_bytes (drop n old.held) (let d : length (drop n old.held) ≡ length old.held - n = length-drop n old.held in all_gone d some);
}
  where
    h_len : length h ≡ length old.held
    h_len = ap length h_is

    inside : n ≤ length old.held
    inside = omega (arith, n_is, h_len)

    all_gone : length (drop n old.held) ≡ length old.held - n → (wanting - n ≡ 0 → ⊥) → length (drop n old.held) ≡ 0
    all_gone d some = elim (less_or n wanting) [
      | inl lt ↦ omega (arith, d, lt, n_is, h_len)
      | inr le ↦ absurd (some (omega (arith, le)))
    ]
