-- The memory for undos, while plans are followed: each takes its share, and the others stay.
use Rattle.std.proofs.Common.{◌≡◌, ℕ, suc, ◌+◌, ◌*◌, ◌≤◌, map, length, refl, ap, arith, subst, vec_len}
use Rattle.czi_image.proofs.Grown.{capacity_lasts, capacity_left, capacity_less, capacity_suffices, grows}
use Rattle.czi_image.specs.Applied.{GrowsBy, HasCapacity, IsChanged, IsSame, KeepsRoom}
use Rattle.czi_image.specs.Summary.{entries_len}
use Rattle.czi_image.specs.View.{tile_of}
use Rattle.czi_image.specs.declared.index.Index.{Index}
use Rattle.czi_plan.specs.declared.plan.EditPlan.{EditPlan}
use Rattle.czi_space.specs.State.{MapState}
use Rattle.czi_engine.specs.Prepared.{HasMemory}
use Rattle.czi_plan.proofs.Needing.{undo_room_rises}
use Rattle.czi_plan.specs.Need.{directory_room, undo_room}
use Rattle.czi_plan.specs.Plan.{IsBrief}
use Rattle.std.specs.Prelude.{max}
use Rattle.czi_format.specs.declared.numbers.TheConstants.{A1_LEN, ATTDIR_FRONT, DIRECTORY_FRONT, LONGEST_ENTRY}
use Rattle.czi_engine.specs.UndoMemory.{CanGoOn, HasMemoryToUndo, LeavesMemory}
use Rattle.czi_engine.specs.declared.engine.EngineState.{EngineState}

-- room for one undo more is room for the others after a list got one entry longer
room_falls : (e e' a a' n : ℕ) → e' ≤ e + LONGEST_ENTRY → a' ≤ a + 1 → undo_room e' a' n ≤ undo_room e a (suc n)
room_falls e e' a a' n few one =
    let entries : DIRECTORY_FRONT + (e + LONGEST_ENTRY) + LONGEST_ENTRY * n ≡ DIRECTORY_FRONT + e + LONGEST_ENTRY * suc n = omega arith in
    let attached : ATTDIR_FRONT + A1_LEN * (a + 1 + n) ≡ ATTDIR_FRONT + A1_LEN * (a + suc n) = omega arith in
    subst (λ (r : ℕ). undo_room e' a' n ≤ r) (λ i. max (directory_room (entries i)) (directory_room (attached i))) (undo_room_rises e' (e + LONGEST_ENTRY) a' (a + 1) n n few one (omega arith))

-- there is memory to follow a plan
pub follows : (n : ℕ) (x : EngineState) (p : EditPlan) (count size : ℕ) → CanGoOn n x.index x.map p count size → HasMemory x p
follows n x p count size can = record {
  spare = omega (arith, can.spare);
  index = capacity_suffices _ _ _ p.change (length x.map.extents + (2 * length p.used.items + 2 * length p.freed.items)) x.index (omega (arith, can.brief.tiles)) (omega (arith, can.brief.attachments)) (omega arith) can.index;
}

-- and once it was followed, for so many undos
pub memory_left : (n : ℕ) (x y : Index) (m w w' : MapState) (p : EditPlan) (count size count' size' : ℕ) → CanGoOn n x m p count size → IsChanged p.change y.extents.items p.length x y → LeavesMemory p x y m w
    → length y.extents.items ≤ length m.extents + (2 * length p.used.items + 2 * length p.freed.items) → w.spare ≤ w'.spare + 1 → count ≤ count' → size ≤ size' → HasMemoryToUndo n y w' count' size'
memory_left n x y m w w' p count size count' size' can changed leaves extents spare plans region =
    let more : GrowsBy 1 1 x y = grows 1 1 p.change y.extents.items p.length x y can.brief.tiles can.brief.attachments changed in
    record {
      plans = omega (arith, can.plans, plans);
      region = omega (
        arith,
        region,
        can.region,
        room_falls (entries_len (map tile_of x.tiles.items)) (entries_len (map tile_of y.tiles.items)) (length x.attachments.items) (length y.attachments.items) n (omega (arith, more.entries)) (omega (arith, more.attachments)),
      );
      spare = omega (arith, can.spare, leaves.spare, spare);
      index = capacity_less _ _ _ _ _ _ y (omega arith) (omega arith) (omega (arith, extents))
          (capacity_left n (length m.extents + (2 * length p.used.items + 2 * length p.freed.items) + 8 * n) p.change y.extents.items p.length x y can.brief.tiles can.brief.attachments changed leaves.kept can.index);
    }

-- more memory than there was serves as well
pub more_serves : (n : ℕ) (x y : Index) (m w : MapState) (count size count' size' : ℕ) → HasMemoryToUndo n x m count size → IsSame x y → KeepsRoom x y → m.spare ≤ w.spare → count ≤ count' → size ≤ size' → HasMemoryToUndo n y w count' size'
more_serves n x y m w count size count' size' has same kept spare plans region =
    let rooms : undo_room (entries_len (map tile_of y.tiles.items)) (length y.attachments.items) n ≡ undo_room (entries_len (map tile_of x.tiles.items)) (length x.attachments.items) n = λ i. undo_room (entries_len (map tile_of (same.tiles i))) (length (same.attachments i)) n in
    record {
      plans = omega (arith, has.plans, plans);
      region = omega (arith, has.region, region, rooms);
      spare = omega (arith, has.spare, spare);
      index = capacity_less _ _ _ _ _ _ y (omega (arith, ap length same.tiles)) (omega (arith, ap length same.attachments)) (omega (arith, ap length same.extents)) (capacity_lasts _ _ _ x y kept has.index);
    }

-- fewer undos need less
pub fewer_undos : (n k : ℕ) (x : Index) (m : MapState) (count size : ℕ) → HasMemoryToUndo n x m count size → k ≤ n → HasMemoryToUndo k x m count size
fewer_undos n k x m count size has fewer = record {
  plans = omega (arith, has.plans, fewer);
  region = omega (arith, has.region, undo_room_rises (entries_len (map tile_of x.tiles.items)) (entries_len (map tile_of x.tiles.items)) (length x.attachments.items) (length x.attachments.items) k n (omega arith) (omega arith) fewer);
  spare = omega (arith, has.spare, fewer);
  index = capacity_less _ _ _ _ _ _ x (omega (arith, fewer)) (omega (arith, fewer)) (omega (arith, fewer)) has.index;
}

-- a brief plan, made in the memory of one undo, leaves that of the others
pub goes_on : (n : ℕ) (x : Index) (m : MapState) (p : EditPlan) (count size count' size' : ℕ) → IsBrief p → HasMemoryToUndo (suc n) x m count size → length m.extents ≡ length x.extents.items → count ≤ count' + 1 → size ≤ size' → CanGoOn n x m p count' size'
goes_on n x m p count size count' size' brief has extents plans region = record {
  brief = brief;
  plans = omega (arith, has.plans, plans);
  region = omega (arith, has.region, region);
  spare = omega (arith, has.spare, brief.used, brief.freed);
  index = capacity_less _ _ _ _ _ _ x (omega arith) (omega arith) (omega (arith, extents, brief.used, brief.freed)) has.index;
}
