use Rattle.std.proofs.Common.{⊎_elim, ap, sym, ◌∙◌}
use Rattle.czi_opening.specs.Answers.{cause_of, refusal_of}
use Rattle.czi_opening.specs.Devices.{open_device}
use Rattle.czi_opening.specs.Opens.{bad_at, of_another, of_version, too_short, unread}
use Rattle.czi_editor.proofs.refusal.stop_of.Goals as goal

pub returns-in-JournalVersion-clause-told : goal.returns-in-JournalVersion-clause-told
returns-in-JournalVersion-clause-told c =
    let tells = c.refused.ensures.told in
    ⊎_elim (λ x. tells (of_version x.0) (ap cause_of x.1))
    (⊎_elim (λ x. tells (bad_at x.0) (ap cause_of x.1))
    (⊎_elim (λ x. tells (too_short x.0 x.1) (ap cause_of x.2))
    (⊎_elim (λ x. tells (of_another x.0 x.1) (ap cause_of x.2))
    (λ x. tells (unread (refusal_of x.0)) (ap cause_of x.1))))) c.in-JournalVersion.is

pub returns-in-JournalVersion-clause-device : goal.returns-in-JournalVersion-clause-device
returns-in-JournalVersion-clause-device c = c.refused.ensures.device ∙ sym (⊎_elim (λ x. ap open_device x.1) (⊎_elim (λ x. ap open_device x.1) (⊎_elim (λ x. ap open_device x.2) (⊎_elim (λ x. ap open_device x.2) (λ x. ap open_device x.1)))) c.in-JournalVersion.is)
