-- Steps of a reader inside the reading of one command.
use Rattle.std.proofs.Common.{◌≡◌, ℕ, ◌+◌, ◌<◌, List, [], ◌++◌, length, true, false, Option, None, refl, ap, sym, ◌∙◌, subst, arith, append-nil, append_assoc, length-append, inl, inr}
use Rattle.std.specs.Prelude.{◌≢◌}
use Rattle.czi_script.specs.declared.kind.Kind.TheVariants.{Cut, Long}
use Rattle.czi_script.specs.Script.{HasNo, IsFault}
use Rattle.czi_script.specs.Reader.{Reader}
use Rattle.czi_script.specs.Pieces.{TookOn, AtEnd, Fills, Lines, LineFault}

-- no byte was taken
pub took_nothing : (r : Reader) (before after : Option (List ℕ)) → after ≡ before → TookOn r r before after []
took_nothing r before after same = record {
  adds = record { whole = sym (append-nil r.held); left = λ left is. (left, refl, same ∙ is) };
  taken = sym (nothing r.taken);
  commands = refl;
  error = refl;
}
  where
    nothing : (n : ℕ) → n + 0 ≡ n
    nothing n = omega arith

pub full_fills : (r : Reader) (before after : Option (List ℕ)) → after ≡ before → AtEnd after → Fills r r before after false
full_fills r before after same ended = record { more = []; took = took_nothing r before after same; some_more = λ some. absurd (no_truth some); none = λ none. (refl, ended) }
  where
    no_truth : false ≡ true → ⊥
    no_truth e = cc

-- one after another
pub took_both : (a b c : Reader) (start middle end : Option (List ℕ)) (first more : List ℕ) → TookOn a b start middle first → TookOn b c middle end more → TookOn a c start end (first ++ more)
took_both a b c start middle end first more p q = record {
  adds = record {
    whole = q.adds.whole ∙ ap (λ l. l ++ more) p.adds.whole ∙ append_assoc a.held first more;
    left = λ left is. let x = p.adds.left left is in let y = q.adds.left x.0 x.2 in (y.0, x.1 ∙ ap (λ l. first ++ l) y.1 ∙ sym (append_assoc first more y.0), y.2);
  };
  taken = let n : length (first ++ more) ≡ length first + length more = length-append first more in omega (arith, p.taken, q.taken, n);
  commands = q.commands ∙ p.commands;
  error = q.error ∙ p.error;
}

-- a fault of the line in front
pub long_fault : (old new : Reader) (held : List ℕ) (before after : Option (List ℕ)) (more : List ℕ) → TookOn old new before after more → held ≡ new.held → IsFault Long held → LineFault old new before after (new.commands + 1) Long
long_fault old new held before after more took same fault = record { more = more; took = took; next_one = ap (λ n. n + 1) took.commands; fault = inl (subst (IsFault Long) same fault, refl) }

pub cut_fault : (old mid new : Reader) (held : List ℕ) (start before after : Option (List ℕ)) (more : List ℕ) → TookOn old mid start before more → held ≡ mid.held → HasNo 10 held → length held < 4096
    → Fills mid new before after false → new.held ≢ [] → LineFault old new start after (new.commands + 1) Cut
cut_fault old mid new held start before after more took same free short fills some =
    let none = fills.none refl in
    let both = took_both old mid new start before after more fills.more took fills.took in
    let still : held ≡ new.held = same ∙ sym (append-nil mid.held) ∙ ap (λ l. mid.held ++ l) (sym none.0) ∙ sym fills.took.adds.whole in
    record {
      more = more ++ fills.more;
      took = both;
      next_one = ap (λ n. n + 1) both.commands;
      fault = inr (((some, inl (subst (HasNo 10) still free, subst (λ l. length l < 4096) still short)), none.1), refl);
    }

-- the end behind a whole command
pub no_more : (old mid new : Reader) (start before after : Option (List ℕ)) (more : List ℕ) (found : Option ℕ) → TookOn old mid start before more → Fills mid new before after false → new.held ≡ [] → found ≡ None → Lines old new start after found
no_more old mid new start before after more found took fills empty none = subst (Lines old new start after) (sym none) (record {
  more = more ++ fills.more;
  took = took_both old mid new start before after more fills.more took fills.took;
  finds = (empty, (fills.none refl).1);
})
