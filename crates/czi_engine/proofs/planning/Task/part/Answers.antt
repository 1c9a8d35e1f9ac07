use Rattle.std.proofs.Common.{refl, subst, sym}
use Rattle.czi_undo.specs.Parts.{LainPart, in_attachments, in_tiles, inserts, puts}
use Rattle.czi_engine.specs.Inverting.{IsUndoneBy, lain_attachment, lain_tile}
use Rattle.czi_engine.specs.Tasks.{IsAllowed}
use Rattle.czi_engine.proofs.Inverting.{item_there}
use Rattle.czi_engine.proofs.planning.Task.part.Goals as goal

pub returns-in_ok-info-in-Replace : goal.returns-in_ok-info-in-Replace
returns-in_ok-info-in-Replace c =
    let x = c.args.index.now in
    let t = c.index.result.now in
    let i = c.in-Replace.i in
    let q : LainPart = in_tiles (puts i (lain_tile t)) in
    let allowed = subst (λ s. IsAllowed s x) c.in-Replace.is c.requires.allowed in
    (q, (lain_tile t, refl, c.in_ok-info-in-Replace.ensures {u = tt}), subst (λ s. IsUndoneBy s x q) (sym c.in-Replace.is) (t, item_there i x.tiles.items t allowed.1 c.index.ensures, refl))

pub returns-in_ok-info-in-Remove : goal.returns-in_ok-info-in-Remove
returns-in_ok-info-in-Remove c =
    let x = c.args.index.now in
    let t = c.index-in-Remove.result.now in
    let i = c.in-Remove.i in
    let q : LainPart = in_tiles (inserts i (lain_tile t)) in
    let allowed = subst (λ s. IsAllowed s x) c.in-Remove.is c.requires.allowed in
    (q, (lain_tile t, refl, c.in_ok-info-in-Remove.ensures {u = tt}), subst (λ s. IsUndoneBy s x q) (sym c.in-Remove.is) (t, item_there i x.tiles.items t allowed c.index-in-Remove.ensures, refl))

pub returns-in-Reattach : goal.returns-in-Reattach
returns-in-Reattach c =
    let x = c.args.index.now in
    let a = c.index-item.result.now in
    let i = c.in-Reattach.i in
    let q : LainPart = in_attachments (puts i (lain_attachment a)) in
    let allowed = subst (λ s. IsAllowed s x) c.in-Reattach.is c.requires.allowed in
    (q, (lain_attachment a, refl, c.held_attachment.ensures), subst (λ s. IsUndoneBy s x q) (sym c.in-Reattach.is) (a, item_there i x.attachments.items a allowed.1 c.index-item.ensures, refl))

pub returns-in-Detach : goal.returns-in-Detach
returns-in-Detach c =
    let x = c.args.index.now in
    let a = c.index-item-in-Detach.result.now in
    let i = c.in-Detach.i in
    let q : LainPart = in_attachments (inserts i (lain_attachment a)) in
    let allowed = subst (λ s. IsAllowed s x) c.in-Detach.is c.requires.allowed in
    (q, (lain_attachment a, refl, c.held_attachment-in-Detach.ensures), subst (λ s. IsUndoneBy s x q) (sym c.in-Detach.is) (a, item_there i x.attachments.items a allowed c.index-item-in-Detach.ensures, refl))
