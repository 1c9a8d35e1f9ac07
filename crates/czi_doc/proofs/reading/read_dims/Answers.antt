use Rattle.std.proofs.Common.{◌≡◌, suc, ◌+◌, ◌-◌, ◌++◌, ◌∷◌, [], Ok, map, length, ap, sym, ◌∙◌, arith}
use Rattle.std.proofs.lemmas.List.{map-append}
use Rattle.czi_doc.specs.View.{dim_of}
use Rattle.czi_doc.specs.Reading.{items_at, with_front}
use Rattle.czi_doc.proofs.Spelled.{found}
use Rattle.czi_doc.proofs.ReadAgain.{only_ok, only_fault}
use Rattle.czi_doc.proofs.FaultFirst.{told_first}
use Rattle.czi_doc.proofs.InTurn.{fault, done, bad, next, over}
use Rattle.czi_doc.proofs.reading.read_dims.Goals as goal

pub returns-in-Err-clause-read : goal.returns-in-Err-clause-read
returns-in-Err-clause-read c = (
  c.in-Err.left,
  fault (map dim_of c.loop-i.dims.items) (40 - c.loop-i.i) c.in-Err.left c.loop-i.rest.now _ (omega (arith, c.loop-i-test.true)) c.in-Err.ensures.read c.loop-i.invariant.whole,
  omega (arith, c.in-Err.ensures.left, c.loop-i.invariant.inside),
)

pub returns-in-Ok-new-clause-read : goal.returns-in-Ok-new-clause-read
returns-in-Ok-new-clause-read c =
    done (map dim_of c.loop-i.dims.items) (40 - c.loop-i.i) c.loop-i.rest.now (record { it = dim_of c.in-Ok.item.0; rest = c.in-Ok.item.1.now }) _ (omega (arith, c.loop-i-test.true)) c.in-Ok.ensures.read (sym c.is_empty.ensures ∙ c.if-is_empty.true) c.loop-i.invariant.whole
    ∙ ap Ok (sym (map-append dim_of c.loop-i.dims.items (c.in-Ok.item.0 ∷ [])) ∙ ap (map dim_of) (sym c.in-Ok-push.ensures.items ∙ sym c.in-Ok-new.ensures.ok))

pub returns-in-Ok-new-clause-found : goal.returns-in-Ok-new-clause-found
returns-in-Ok-new-clause-found c = found _ _ (
    done (map dim_of c.loop-i.dims.items) (40 - c.loop-i.i) c.loop-i.rest.now (record { it = dim_of c.in-Ok.item.0; rest = c.in-Ok.item.1.now }) _ (omega (arith, c.loop-i-test.true)) c.in-Ok.ensures.read (sym c.is_empty.ensures ∙ c.if-is_empty.true) c.loop-i.invariant.whole
    ∙ ap Ok (sym (map-append dim_of c.loop-i.dims.items (c.in-Ok.item.0 ∷ [])) ∙ ap (map dim_of) (sym c.in-Ok-push.ensures.items ∙ sym c.in-Ok-new.ensures.ok))
    )

pub returns-then-not-begins_with-clause-read : goal.returns-then-not-begins_with-clause-read
returns-then-not-begins_with-clause-read c = (
  length c.in-Ok.item.1.now,
  bad (map dim_of c.loop-i.dims.items) (40 - c.loop-i.i) c.loop-i.rest.now (record { it = dim_of c.in-Ok.item.0; rest = c.in-Ok.item.1.now }) _ (omega (arith, c.loop-i-test.true)) c.in-Ok.ensures.read (sym c.is_empty.ensures ∙ c.if-is_empty.false) (sym c.begins_with.ensures ∙ c.if-not-begins_with.true) c.loop-i.invariant.whole,
  omega (arith, c.in-Ok.ensures.left, c.loop-i.invariant.inside),
)

pub loop-i-preserved : goal.loop-i-preserved
loop-i-preserved c =
    let front : map dim_of c.push.new.self.items ≡ map dim_of c.loop-i.dims.items ++ dim_of c.in-Ok.item.0 ∷ [] =
    ap (map dim_of) c.in-Ok-push.ensures.items ∙ map-append dim_of c.loop-i.dims.items (c.in-Ok.item.0 ∷ []) in
    let less : 40 - (c.loop-i.i + 1) ≡ 40 - c.loop-i.i - 1 = omega arith in
    record {
      whole = ap (λ l. with_front l (items_at (40 - (c.loop-i.i + 1)) c.split_at.result.1.now)) front
          ∙ (ap (λ n. with_front (map dim_of c.loop-i.dims.items ++ dim_of c.in-Ok.item.0 ∷ []) (items_at n c.split_at.result.1.now)) less
          ∙ (ap (λ l. with_front (map dim_of c.loop-i.dims.items ++ dim_of c.in-Ok.item.0 ∷ []) (items_at (40 - c.loop-i.i - 1) l)) c.split_at.ensures.back
          ∙ next (map dim_of c.loop-i.dims.items) (40 - c.loop-i.i) c.loop-i.rest.now (record { it = dim_of c.in-Ok.item.0; rest = c.in-Ok.item.1.now }) _ (omega (arith, c.loop-i-test.true)) c.in-Ok.ensures.read (sym c.is_empty.ensures ∙ c.if-is_empty.false) (sym c.begins_with.ensures ∙ c.if-not-begins_with.false) c.loop-i.invariant.whole));
      inside = omega (arith, c.split_at.ensures.back_len, c.in-Ok.ensures.left, c.loop-i.invariant.inside);
      comma = λ h. omega (arith, c.split_at.ensures.back_len, c.in-Ok.ensures.left, c.loop-i.invariant.inside);
    }

pub returns-clause-read : goal.returns-clause-read
returns-clause-read c = (
  suc (length c.loop-i.rest.now),
  over (map dim_of c.loop-i.dims.items) (40 - c.loop-i.i) c.loop-i.rest.now _ (omega (arith, c.loop-i-test.false)) c.loop-i.invariant.whole,
  omega (arith, c.loop-i-test.false, c.loop-i.invariant.comma (omega (arith, c.loop-i-test.false))),
)

pub returns-in-Err-clause-only : goal.returns-in-Err-clause-only
returns-in-Err-clause-only c = λ ds is. only_fault _ _ ds (returns-in-Err-clause-read c).1 is

pub returns-in-Ok-new-clause-only : goal.returns-in-Ok-new-clause-only
returns-in-Ok-new-clause-only c = λ ds is. only_ok _ _ ds (returns-in-Ok-new-clause-read c) is

pub returns-then-not-begins_with-clause-only : goal.returns-then-not-begins_with-clause-only
returns-then-not-begins_with-clause-only c = λ ds is. only_fault _ _ ds (returns-then-not-begins_with-clause-read c).1 is

pub returns-clause-only : goal.returns-clause-only
returns-clause-only c = λ ds is. only_fault _ _ ds (returns-clause-read c).1 is

pub returns-in-Err-clause-bad : goal.returns-in-Err-clause-bad
returns-in-Err-clause-bad c = let r = returns-in-Err-clause-read c in told_first _ _ r.0 r.1 r.2

pub returns-then-not-begins_with-clause-bad : goal.returns-then-not-begins_with-clause-bad
returns-then-not-begins_with-clause-bad c = let r = returns-then-not-begins_with-clause-read c in told_first _ _ r.0 r.1 r.2

pub returns-clause-bad : goal.returns-clause-bad
returns-clause-bad c = let r = returns-clause-read c in told_first _ _ r.0 r.1 r.2
