use Rattle.std.proofs.Common.{◌≡◌, [], ◌∷◌, length, get_or, refl, ap, sym, subst, ◌∙◌}
use Rattle.czi_image.specs.declared.index.Index.{Index}
use Rattle.czi_space.specs.State.{MapState}
use Rattle.czi_undo.specs.declared.inverse.Inverse.{Inverse}
use Rattle.czi_undo.specs.declared.inverse.Part.{Part}
use Rattle.czi_plan.specs.Changing.{returned}
use Rattle.czi_plan.specs.Undoing.{InverseFits, PartFits}
use Rattle.czi_plan.proofs.Acting.{brief_attachments, brief_metadata, brief_tiles}
use Rattle.czi_plan.proofs.Brought.{on_ok_as}
use Rattle.czi_plan.proofs.Changed.{is_plan}
use Rattle.czi_plan.proofs.Inverses.{act_of_tiles, attachments_in_range, tiles_in_range}
use Rattle.czi_plan.proofs.KindLaws.{att_laws, tile_laws}
use Rattle.czi_plan.proofs.MetadataUndone.{undoes_metadata}
use Rattle.czi_plan.proofs.Parts.{few_held}
use Rattle.czi_plan.proofs.Setting.{few_held as few_metadata, is_plan as is_setting}
use Rattle.czi_plan.proofs.Spared.{first_of, if_err_as, room_attachments, room_tiles}
use Rattle.czi_plan.proofs.Undone.{no_undo_attachments, no_undo_tiles, undoes_attachments, undoes_tiles}
use Rattle.czi_plan.proofs.inverse_plan.plan_inverse.Goals as goal

-- the first part is the only one, and fits
the_only : (x : Index) (m : MapState) (i : Inverse) (part : Part) → InverseFits x m i → part ≡ get_or i.parts.items 0 part → (i.parts.items ≡ part ∷ []) × PartFits x m part
the_only x m i part fits is =
    let same = first_of i.parts.items fits.part part fits.only is in
    (fits.only ∙ ap (λ z. z ∷ []) (sym same), subst (PartFits x m) (sym same) fits.fits)

pub plan_tiles-requires-clause-fits : goal.plan_tiles-requires-clause-fits
plan_tiles-requires-clause-fits c = (the_only c.args.index.now c.args.space.now c.args.inverse.now c.index-part.result.now c.requires.fits c.index-part.ensures).1

pub plan_tiles-requires-clause-room : goal.plan_tiles-requires-clause-room
plan_tiles-requires-clause-room c =
    let only = the_only c.args.index.now c.args.space.now c.args.inverse.now c.index-part.result.now c.requires.fits c.index-part.ensures in
    λ a act. room_tiles c.args.index.now c.args.inverse.now.parts.items c.index-part.result.now a (length c.args.index.now.attachments.items) _ only.0 act c.requires.room

pub returns-then-of_subblocks-clause-plan : goal.returns-then-of_subblocks-clause-plan
returns-then-of_subblocks-clause-plan c = on_ok_as c.plan_tiles.result _ _ (λ st. is_plan tile_laws c.args.index.now c.args.space.now st.0 returned c.plan_tiles.new.region _ c.plan_tiles.new.out c.requires.of_index st.2) c.plan_tiles.ensures.stages

pub returns-then-of_subblocks-clause-undoes : goal.returns-then-of_subblocks-clause-undoes
returns-then-of_subblocks-clause-undoes c =
    let part = c.index-part.result.now in
    let only = the_only c.args.index.now c.args.space.now c.args.inverse.now part c.requires.fits c.index-part.ensures in
    on_ok_as c.plan_tiles.result _ _ (λ st. undoes_tiles c.args.index.now c.args.space.now c.args.inverse.now part st.0 c.plan_tiles.new.region _ c.plan_tiles.new.out c.requires.of_index only.0 st.1 st.2) c.plan_tiles.ensures.stages

pub returns-then-of_subblocks-clause-held : goal.returns-then-of_subblocks-clause-held
returns-then-of_subblocks-clause-held c = on_ok_as c.plan_tiles.result _ _ (λ st. few_held tile_laws st.0 c.args.index.now c.plan_tiles.new.out.held.items st.2.held) c.plan_tiles.ensures.stages

pub returns-then-of_subblocks-clause-brief : goal.returns-then-of_subblocks-clause-brief
returns-then-of_subblocks-clause-brief c = on_ok_as c.plan_tiles.result _ _ (λ st. brief_tiles c.args.index.now c.args.space.now st.0 returned c.plan_tiles.new.region _ c.plan_tiles.new.out c.requires.of_index st.2) c.plan_tiles.ensures.stages

pub returns-then-of_subblocks-clause-full : goal.returns-then-of_subblocks-clause-full
returns-then-of_subblocks-clause-full c =
    let x = c.args.index.now in
    let m = c.args.space.now in
    let i = c.args.inverse.now in
    let part = c.index-part.result.now in
    let only = the_only x m i part c.requires.fits c.index-part.ensures in
    let a = act_of_tiles x m part only.1 (sym c.of_subblocks.ensures ∙ c.if-of_subblocks.true) in
    if_err_as c.plan_tiles.result _ _ (λ fault none. no_undo_tiles x m i part a.0 _ _ fault c.requires.of_index only.0 a.1 (tiles_in_range x m part a.0 only.1 a.1).0 refl refl (none a.0 a.1).0 (none a.0 a.1).1) c.plan_tiles.ensures.full

pub plan_attachments-requires-clause-room : goal.plan_attachments-requires-clause-room
plan_attachments-requires-clause-room c =
    let part = c.index-part.result.now in
    let only = the_only c.args.index.now c.args.space.now c.args.inverse.now part c.requires.fits c.index-part.ensures in
    room_attachments c.args.index.now c.args.inverse.now.parts.items part c.in-Some.act _ _ only.0 c.in-Some.ensures.act (attachments_in_range c.args.index.now c.args.space.now part c.in-Some.act only.1 c.in-Some.ensures.act).0 c.requires.room

pub returns-in-Some-clause-plan : goal.returns-in-Some-clause-plan
returns-in-Some-clause-plan c = on_ok_as c.plan_attachments.result _ _ (λ st. is_plan att_laws c.args.index.now c.args.space.now c.in-Some.act returned c.plan_attachments.new.region _ c.plan_attachments.new.out c.requires.of_index st) c.plan_attachments.ensures.stages

pub returns-in-Some-clause-undoes : goal.returns-in-Some-clause-undoes
returns-in-Some-clause-undoes c =
    let part = c.index-part.result.now in
    let only = the_only c.args.index.now c.args.space.now c.args.inverse.now part c.requires.fits c.index-part.ensures in
    on_ok_as c.plan_attachments.result _ _ (λ st. undoes_attachments c.args.index.now c.args.space.now c.args.inverse.now part c.in-Some.act c.plan_attachments.new.region _ c.plan_attachments.new.out c.requires.of_index only.0 c.in-Some.ensures.act st) c.plan_attachments.ensures.stages

pub returns-in-Some-clause-held : goal.returns-in-Some-clause-held
returns-in-Some-clause-held c = on_ok_as c.plan_attachments.result _ _ (λ st. few_held att_laws c.in-Some.act c.args.index.now c.plan_attachments.new.out.held.items st.held) c.plan_attachments.ensures.stages

pub returns-in-Some-clause-brief : goal.returns-in-Some-clause-brief
returns-in-Some-clause-brief c = on_ok_as c.plan_attachments.result _ _ (λ st. brief_attachments c.args.index.now c.args.space.now c.in-Some.act returned c.plan_attachments.new.region _ c.plan_attachments.new.out c.requires.of_index st) c.plan_attachments.ensures.stages

pub returns-in-Some-clause-full : goal.returns-in-Some-clause-full
returns-in-Some-clause-full c =
    let x = c.args.index.now in
    let m = c.args.space.now in
    let i = c.args.inverse.now in
    let part = c.index-part.result.now in
    let only = the_only x m i part c.requires.fits c.index-part.ensures in
    if_err_as c.plan_attachments.result _ _ (λ fault none. no_undo_attachments x m i part c.in-Some.act _ _ fault c.requires.of_index only.0 c.in-Some.ensures.act (attachments_in_range x m part c.in-Some.act only.1 c.in-Some.ensures.act).0 refl refl none.0 none.1) c.plan_attachments.ensures.full

pub returns-clause-plan : goal.returns-clause-plan
returns-clause-plan c = is_setting c.requires.of_index c.plan_setting.ensures

pub returns-clause-undoes : goal.returns-clause-undoes
returns-clause-undoes c =
    let part = c.index-part.result.now in
    let only = the_only c.args.index.now c.args.space.now c.args.inverse.now part c.requires.fits c.index-part.ensures in
    undoes_metadata c.args.index.now c.args.space.now c.args.inverse.now part c.metadata_setting-setting.result c.args.region.now c.plan_setting.new.out c.requires.of_index only.0 c.metadata_setting-setting.ensures c.plan_setting.ensures

pub returns-clause-held : goal.returns-clause-held
returns-clause-held c = few_metadata c.metadata_setting-setting.result c.args.index.now c.plan_setting.new.out.held.items c.plan_setting.ensures.held

pub returns-clause-brief : goal.returns-clause-brief
returns-clause-brief c = brief_metadata c.args.index.now c.args.space.now c.metadata_setting-setting.result returned c.args.region.now c.plan_setting.new.out c.plan_setting.ensures
