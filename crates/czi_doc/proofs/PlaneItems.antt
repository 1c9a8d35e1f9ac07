-- Plane text, item by item.
use Rattle.std.proofs.Common.{◌≡◌, ℕ, ◌+◌, ◌-◌, ℤ, List, [], ◌∷◌, ◌++◌, drop, length, true, false, ◌==◌, ◌⊎◌, Result, Ok, Err, refl, ap, sym, ◌∙◌, subst, arith, inl, inr, w32, append_assoc, append-nil, length-append, map}
use Rattle.std.specs.Prelude.{replicate, FitsSigned}
use Rattle.std.specs.List.{prefix_len}
use Rattle.std.specs.Char.{is_ascii_digit}
use Rattle.czi_format.specs.Key.{Axis}
use Rattle.czi_doc.specs.Reading.{Read, name_at, number_at, begins_with}
use Rattle.std.specs.Prelude.{Option, Some, None, option_map, is_some, IfSome}
use Rattle.czi_format.specs.Painting.{is_plane}
use Rattle.czi_doc.specs.Items.{item_of}
use Rattle.czi_doc.specs.declared.plane.Plane.{Plane}
use Rattle.czi_doc.specs.QueryView.{items_of, plane_of}
use Rattle.czi_doc.specs.PlaneText.{IsPlaneItem, ArePlaneItems, StartsFit, IsPlaneText, plane_item_at}
use Rattle.czi_doc.proofs.Spelled.{NameAt, NumberAt, name_found, number_found, front_is, bind_ok, same_ok}
use Rattle.czi_doc.proofs.ReadAgain.{begins_at, name_again, number_again, no_letter}

-- ---- one item

pub record PlaneItemAt (bytes : List ℕ) (r : Read Axis) : Type 0 where
  pub text : List ℕ
  pub is_item : IsPlaneItem text r.it
  pub fits : FitsSigned w32 r.it.start
  pub whole : bytes ≡ text ++ r.rest

pub found : (bytes : List ℕ) (r : Read Axis) → plane_item_at bytes ≡ Ok r → PlaneItemAt bytes r
unfolding plane_item_at
found bytes r e =
    let a = bind_ok (name_at bytes) _ r e in
    let b = bind_ok (number_at a.first.rest) _ r a.then_is in
    let name : NameAt bytes a.first = name_found bytes a.first a.is in
    let start : NumberAt a.first.rest b.first = number_found a.first.rest b.first b.is in
    subst (PlaneItemAt bytes) (same_ok _ r _ refl b.then_is) (record {
      text = name.name ++ start.number;
      is_item = record { name = name.name; start = start.number; whole = refl; is_name = name.is_name; is_start = start.is_number; padded = name.padded };
      fits = start.fits;
      whole = name.whole ∙ (ap (λ l. name.name ++ l) start.whole ∙ sym (append_assoc name.name start.number b.first.rest));
    })

steps : (bytes name start_bytes rest : List ℕ) (start : ℤ) → name_at bytes ≡ Ok (record { it = name; rest = start_bytes }) → number_at start_bytes ≡ Ok (record { it = start; rest = rest })
    → plane_item_at bytes ≡ Ok (record { it = record { name = name; start = start }; rest = rest })
unfolding plane_item_at
steps bytes name start_bytes rest start a b = rw a (rw b refl)

pub again : (text bytes : List ℕ) (a : Axis) → IsPlaneItem text a → FitsSigned w32 a.start → prefix_len is_ascii_digit bytes ≡ 0 → plane_item_at (text ++ bytes) ≡ Ok (record { it = a; rest = bytes })
again text bytes a is fits stop =
    ap plane_item_at (ap (λ l. l ++ bytes) is.whole ∙ append_assoc is.name is.start bytes)
    ∙ (steps (is.name ++ (is.start ++ bytes)) (is.name ++ replicate (4 - length is.name) 0) (is.start ++ bytes) bytes a.start
    (name_again is.name (is.start ++ bytes) is.is_name (no_letter is.start bytes a.start is.is_start))
    (number_again is.start bytes a.start is.is_start fits stop)
    ∙ ap (λ (n : List ℕ). Ok (record { it = record { name = n; start = a.start }; rest = bytes })) (sym is.padded))

-- ---- items in turn

-- What stands at the front of items is read first: it is the last, or a comma and more items follow.
pub record One (bytes : List ℕ) (axes : List Axis) : Type 0 where
  pub item : Axis
  pub alone : axes ≡ item ∷ []
  pub reads : plane_item_at bytes ≡ Ok (record { it = item; rest = [] })

pub record More (bytes : List ℕ) (axes : List Axis) : Type 0 where
  pub item : Axis
  pub more : List Axis
  pub behind : List ℕ
  pub are : axes ≡ item ∷ more
  pub reads : plane_item_at bytes ≡ Ok (record { it = item; rest = 44 ∷ behind })
  pub items : ArePlaneItems behind more
  pub fits : StartsFit more

pub first : (bytes : List ℕ) (axes : List Axis) → ArePlaneItems bytes axes → StartsFit axes → One bytes axes ⊎ More bytes axes
first bytes [] is fits = absurd is
first bytes (a ∷ []) is fits = inl (record { item = a; alone = refl; reads = ap plane_item_at (sym (append-nil bytes)) ∙ again bytes [] a is fits.0 refl })
first bytes (a ∷ b ∷ more) is fits = inr (record {
  item = a;
  more = b ∷ more;
  behind = is.1;
  are = refl;
  reads = ap plane_item_at is.2 ∙ again is.0 (44 ∷ is.1) a is.3 fits.0 refl;
  items = is.4;
  fits = fits.1;
})

-- what was read so far, and what the rest can be
pub record Midway (text rest : List ℕ) (front : List Axis) : Type 0 where
  pub sound : (more : List Axis) → ArePlaneItems rest more → ArePlaneItems text (front ++ more)
  pub starts : StartsFit front
  pub complete : (axes : List Axis) → ArePlaneItems text axes → StartsFit axes → (more : List Axis) × (axes ≡ front ++ more) × ArePlaneItems rest more × StartsFit more

pub begun : (text : List ℕ) → Midway text text []
begun text = record { sound = λ more is. is; starts = tt; complete = λ axes is fits. (axes, refl, is, fits) }

with_one : (bytes rest first : List ℕ) (a : Axis) (more : List Axis) → bytes ≡ first ++ 44 ∷ rest → IsPlaneItem first a → ArePlaneItems rest more → ArePlaneItems bytes (a ∷ more)
with_one bytes rest first a [] e is more = absurd more
with_one bytes rest first a (b ∷ bs) e is more = (first, rest, e, is, more)

all_push : (front : List Axis) (a : Axis) → StartsFit front → FitsSigned w32 a.start → StartsFit (front ++ a ∷ [])
all_push [] a all one = (one, tt)
all_push (b ∷ front) a all one = (all.0, all_push front a all.1 one)

same_read : (x y : Read Axis) (r : Result (Read Axis) ℕ) → r ≡ Ok x → r ≡ Ok y → x ≡ y
same_read x y r p q = cc

clash : {P : Type 0} (x : Read Axis) (left : ℕ) (r : Result (Read Axis) ℕ) → r ≡ Ok x → r ≡ Err left → P
clash x left r p q = cc

-- a comma behind an item
pub on_comma : (text rest behind : List ℕ) (front : List Axis) (a : Axis) → Midway text rest front → plane_item_at rest ≡ Ok (record { it = a; rest = behind }) → begins_with 44 behind ≡ true
    → Midway text (drop 1 behind) (front ++ a ∷ [])
on_comma text rest behind front a m e comma =
    let i : PlaneItemAt rest (record { it = a; rest = behind }) = found rest _ e in
    let at : behind ≡ 44 ∷ drop 1 behind = front_is 44 behind comma in
    record {
      sound = λ more is. subst (ArePlaneItems text) (sym (append_assoc front (a ∷ []) more)) (m.sound (a ∷ more) (with_one rest (drop 1 behind) i.text a more (i.whole ∙ ap (λ l. i.text ++ l) at) i.is_item is));
      starts = all_push front a m.starts i.fits;
      complete = λ axes is fits. let c = m.complete axes is fits in elim (first rest c.0 c.2 c.3) [
        | inl one ↦
            let same : record { it = a; rest = behind } ≡ record { it = one.item; rest = [] } = same_read _ _ (plane_item_at rest) e one.reads in
            absurd (let none : behind ≡ [] = ap (λ (r : Read Axis). r.rest) same in no_bytes behind none comma)
        | inr some ↦
            let same : record { it = a; rest = behind } ≡ record { it = some.item; rest = 44 ∷ some.behind } = same_read _ _ (plane_item_at rest) e some.reads in
            let item : a ≡ some.item = ap (λ (r : Read Axis). r.it) same in
            let tail : drop 1 behind ≡ some.behind = ap (λ (r : Read Axis). drop 1 r.rest) same in (
              some.more,
              c.1 ∙ (ap (λ l. front ++ l) some.are ∙ (ap (λ (x : Axis). front ++ x ∷ some.more) (sym item) ∙ sym (append_assoc front (a ∷ []) some.more))),
              subst (λ l. ArePlaneItems l some.more) (sym tail) some.items,
              some.fits,
            )
      ];
    }
  where
    no_bytes : (behind : List ℕ) → behind ≡ [] → begins_with 44 behind ≡ true → ⊥
    no_bytes behind none comma = let h : begins_with 44 [] ≡ true = ap (begins_with 44) (sym none) ∙ comma in cc

-- nothing behind an item: these are the items, and no others
pub record Ended (text : List ℕ) (all : List Axis) : Type 0 where
  pub items : ArePlaneItems text all
  pub fits : StartsFit all
  pub only : (axes : List Axis) → ArePlaneItems text axes → StartsFit axes → axes ≡ all

pub on_end : (text rest behind : List ℕ) (front : List Axis) (a : Axis) → Midway text rest front → plane_item_at rest ≡ Ok (record { it = a; rest = behind }) → behind ≡ [] → Ended text (front ++ a ∷ [])
on_end text rest behind front a m e none =
    let i : PlaneItemAt rest (record { it = a; rest = behind }) = found rest _ e in
    let whole : rest ≡ i.text = i.whole ∙ (ap (λ l. i.text ++ l) none ∙ append-nil i.text) in
    record {
      items = m.sound (a ∷ []) (subst (λ l. IsPlaneItem l a) (sym whole) i.is_item);
      fits = all_push front a m.starts i.fits;
      only = λ axes is fits. let c = m.complete axes is fits in elim (first rest c.0 c.2 c.3) [
        | inl one ↦
            let same : record { it = a; rest = behind } ≡ record { it = one.item; rest = [] } = same_read _ _ (plane_item_at rest) e one.reads in
            c.1 ∙ (ap (λ l. front ++ l) one.alone ∙ ap (λ (x : Axis). front ++ x ∷ []) (sym (ap (λ (r : Read Axis). r.it) same)))
        | inr some ↦
            let same : record { it = a; rest = behind } ≡ record { it = some.item; rest = 44 ∷ some.behind } = same_read _ _ (plane_item_at rest) e some.reads in
            absurd (let long : length behind ≡ length (44 ∷ some.behind) = ap (λ (r : Read Axis). length r.rest) same in let short : length behind ≡ 0 = ap length none in omega (arith, long, short))
      ];
    }

-- the plane that is made of the items
pub told : (text : List ℕ) (o : Option Plane) (list : List (List ℕ × ℤ)) → Ended text (map item_of list) → is_some o ≡ is_plane (map item_of list) → IfSome o (λ p. items_of p ≡ list)
    → IfSome o (λ p. IsPlaneText text (plane_of p))
told text None list ended some same = tt
told text (Some p) list ended some same = subst (λ (l : List (List ℕ × ℤ)). IsPlaneText text (map item_of l)) (sym same) (record { items = ended.items; plane = sym some; fits = ended.fits })

pub told_only : (text : List ℕ) (o : Option Plane) (list : List (List ℕ × ℤ)) → Ended text (map item_of list) → is_some o ≡ is_plane (map item_of list) → IfSome o (λ p. items_of p ≡ list)
    → (axes : List Axis) → IsPlaneText text axes → option_map plane_of o ≡ Some axes
told_only text None list ended some same axes is =
    let e : is_plane axes ≡ is_plane (map item_of list) = ap is_plane (ended.only axes is.items is.fits) in
    absurd (let h : false ≡ true = some ∙ (sym e ∙ is.plane) in cc)
told_only text (Some p) list ended some same axes is = ap Some (ap (map item_of) same ∙ sym (ended.only axes is.items is.fits))

-- ---- no plane text

-- where no item can be read
pub no_item : {P : Type 0} (text rest : List ℕ) (front : List Axis) (left : ℕ) (axes : List Axis) → Midway text rest front → plane_item_at rest ≡ Err left → ArePlaneItems text axes → StartsFit axes → P
no_item text rest front left axes m e is fits = let c = m.complete axes is fits in elim (first rest c.0 c.2 c.3) [
  | inl one ↦ clash _ left (plane_item_at rest) one.reads e
  | inr some ↦ clash _ left (plane_item_at rest) some.reads e
]

both : true ≡ false → ⊥
both e = cc

-- where an item ends at another byte
pub no_comma : {P : Type 0} (text rest behind : List ℕ) (front : List Axis) (a : Axis) (axes : List Axis) → Midway text rest front → plane_item_at rest ≡ Ok (record { it = a; rest = behind })
    → (length behind == 0) ≡ false → begins_with 44 behind ≡ false → ArePlaneItems text axes → StartsFit axes → P
no_comma text rest behind front a axes m e some other is fits = let c = m.complete axes is fits in elim (first rest c.0 c.2 c.3) [
  | inl one ↦
      let same : record { it = a; rest = behind } ≡ record { it = one.item; rest = [] } = same_read _ _ (plane_item_at rest) e one.reads in
      let none : (length behind == 0) ≡ true = ap (λ (r : Read Axis). length r.rest == 0) same in
      absurd (both (sym none ∙ some))
  | inr more ↦
      let same : record { it = a; rest = behind } ≡ record { it = more.item; rest = 44 ∷ more.behind } = same_read _ _ (plane_item_at rest) e more.reads in
      let comma : begins_with 44 behind ≡ true = ap (λ (r : Read Axis). begins_with 44 r.rest) same ∙ begins_at 44 44 more.behind in
      absurd (both (sym comma ∙ other))
]

-- where nothing is left to read
pub no_rest : {P : Type 0} (text rest : List ℕ) (front axes : List Axis) → Midway text rest front → length rest ≡ 0 → ArePlaneItems text axes → StartsFit axes → P
no_rest text rest front axes m none is fits = let c = m.complete axes is fits in absurd (empty rest c.0 none c.2)
  where
    named : (bytes : List ℕ) (a : Axis) → length bytes ≡ 0 → IsPlaneItem bytes a → ⊥
    named bytes a e i = let long : length bytes ≡ length i.name + length i.start = ap length i.whole ∙ length-append i.name i.start in omega (arith, e, long, i.is_name.some)

    empty : (bytes : List ℕ) (axes : List Axis) → length bytes ≡ 0 → ArePlaneItems bytes axes → ⊥
    empty bytes [] e is = is
    empty bytes (a ∷ []) e is = named bytes a e is
    empty bytes (a ∷ b ∷ more) e is = let long : length bytes ≡ length is.0 + length (44 ∷ is.1) = ap length is.2 ∙ length-append is.0 (44 ∷ is.1) in omega (arith, e, long)
