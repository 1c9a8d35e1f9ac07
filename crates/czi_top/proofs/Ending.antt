-- How a run of the program ends.
use Rattle.std.proofs.Common.{◌≡◌, ◌⊎◌, inl, inr, ⊎_elim, ℕ, List, ◌++◌, take, Option, Some, refl, sym, ap, ◌∙◌, subst, arith, zero-le}
use Rattle.std.specs.Prelude.{option_map}
use Rattle.czi_rig.specs.State.{State}
use Rattle.czi_rig.specs.Faults.{Faults, FaultsWith}
use Rattle.czi_session.specs.declared.stop.Ended.{Ended}
use Rattle.czi_session.specs.declared.stop.Ended.TheVariants.{Done, Refused, Stopped}
use Rattle.czi_session.specs.declared.stop.Stop.TheVariants.{Script, Image, Journal, Output, Input, Memory, TooLong}
use Rattle.czi_session.specs.Ends.{Answers, Quiet, SaysRefusal}
use Rattle.czi_session.specs.Stops.{EndsOpening, end_device}
use Rattle.czi_editor.specs.Machine.{Begun}
use Rattle.czi_editor.specs.Replies.{still}
use Rattle.czi_top.specs.Words.{Action, Query, list, info, map, check, region, step, query, edit, Command, opening, create}
use Rattle.czi_top.specs.Run.{MayBeUnopened, SaysLine, SaysUsage, TakesByEnd, TakesByStatus, code_of, status_device}

-- where memory was wanting for the words nothing was taken
pub unread_takes : (command : Command) (left : Option (List ℕ)) → TakesByStatus command left left 8
unread_takes (opening (query q)) left = refl
unread_takes (opening edit) left = (Stopped Memory, refl, record { count = 0; few = zero-le; inside = λ bytes is. zero-le; rest = λ bytes is. is })
unread_takes (create guid) left = refl

-- what is taken, by the status
pub takes_so : (action : Action) (ended : Ended) (status : ℕ) (left now : Option (List ℕ)) → status ≡ code_of ended → TakesByEnd action left now ended → TakesByStatus (opening action) left now status
takes_so (query q) ended status left now is takes = takes
takes_so edit ended status left now is takes = (ended, is, takes)

-- no fault came, also none of an input that isn't read
pub quiet_alone : {old new : State} {before now : ℕ} → Quiet old new before now → Quiet old new 0 0
quiet_alone q = record { image = q.image; journal = q.journal; output = q.output; input = λ rose. omega (arith, rose) }

-- the status of the wanted end, or of a want of memory
pub answers_code : (wanted ended : Ended) (status : ℕ) → status ≡ code_of ended → Answers wanted ended → (status ≡ code_of wanted) ⊎ (status ≡ 8)
answers_code wanted ended status is answers = ⊎_elim (λ e. inl (is ∙ ap (λ x. code_of x) e)) (λ e. inr (is ∙ ap (λ x. code_of x) e)) answers

-- no run that was begun ends with the status of the usage line
one_is_none : (ended : Ended) → code_of ended ≡ 1 → ⊥
one_is_none Done is = cc
one_is_none Refused is = cc
one_is_none (Stopped (Script number kind)) is = cc
one_is_none (Stopped Image) is = cc
one_is_none (Stopped Journal) is = cc
one_is_none (Stopped Output) is = cc
one_is_none (Stopped Input) is = cc
one_is_none (Stopped Memory) is = cc
one_is_none (Stopped TooLong) is = cc

pub is_begun : (ended : Ended) (status : ℕ) → status ≡ code_of ended → status ≡ 1 → ⊥
is_begun ended status is one = one_is_none ended (sym is ∙ one)

-- the status of a refusal is no other's
two_is_refused : (ended : Ended) → code_of ended ≡ 2 → ended ≡ Refused
two_is_refused Done is = cc
two_is_refused Refused is = refl
two_is_refused (Stopped (Script number kind)) is = cc
two_is_refused (Stopped Image) is = cc
two_is_refused (Stopped Journal) is = cc
two_is_refused (Stopped Output) is = cc
two_is_refused (Stopped Input) is = cc
two_is_refused (Stopped Memory) is = cc
two_is_refused (Stopped TooLong) is = cc

pub is_refused : (ended : Ended) (status : ℕ) → status ≡ code_of ended → status ≡ 2 → ended ≡ Refused
is_refused ended status is two = two_is_refused ended (sym is ∙ two)

-- the status tells the device
device_of_code : (ended : Ended) → end_device ended ≡ status_device (code_of ended)
device_of_code Done = refl
device_of_code Refused = refl
device_of_code (Stopped (Script number kind)) = refl
device_of_code (Stopped Image) = refl
device_of_code (Stopped Journal) = refl
device_of_code (Stopped Output) = refl
device_of_code (Stopped Input) = refl
device_of_code (Stopped Memory) = refl
device_of_code (Stopped TooLong) = refl

pub told_device : (ended : Ended) (status : ℕ) → status ≡ code_of ended → end_device ended ≡ status_device status
told_device ended status is = device_of_code ended ∙ ap (λ (n : ℕ). status_device n) (sym is)

-- and that the files didn't open
pub opening_code : (ended : Ended) (status : ℕ) → status ≡ code_of ended → EndsOpening ended → MayBeUnopened status
opening_code Done status is ends = absurd ends
opening_code Refused status is ends = absurd ends
opening_code (Stopped (Script number kind)) status is ends = absurd ends
opening_code (Stopped Image) status is ends = inl is
opening_code (Stopped Journal) status is ends = inr (inl is)
opening_code (Stopped Output) status is ends = absurd ends
opening_code (Stopped Input) status is ends = absurd ends
opening_code (Stopped Memory) status is ends = inr (inr is)
opening_code (Stopped TooLong) status is ends = absurd ends

-- the usage line has nothing to do with the input
pub usage_with : (status : ℕ) (old new : State) (count : ℕ) → SaysUsage old new status → Faults (status_device status) old new → FaultsWith (status_device status) old new count count
usage_with status old new count said cause = ⊎_elim (λ one. at 1 one.0 (λ f. record { rig = f; input_count = refl })) (λ six. at 6 six.0 (λ f. record { rig = f; input_count = refl })) said
  where
    at : (n : ℕ) → status ≡ n → (Faults (status_device n) old new → FaultsWith (status_device n) old new count count) → FaultsWith (status_device status) old new count count
    at n is make = subst (λ (k : ℕ). FaultsWith (status_device k) old new count count) (sym is) (make (subst (λ (k : ℕ). Faults (status_device k) old new) is cause))

-- what is said of a refusal, by the status
pub says_line : (ended : Ended) (status : ℕ) (old new : State) (before text : List ℕ) → status ≡ code_of ended → old.said ≡ Some before → SaysRefusal new.said before text ended → SaysLine text old new status
says_line Done status old new before text is was says = absurd says
says_line Refused status old new before text is was says = inl (is, says ∙ sym (ap (option_map (λ (s : List ℕ). s ++ text)) was))
says_line (Stopped (Script number kind)) status old new before text is was says = absurd says
says_line (Stopped Image) status old new before text is was says = inr (inr (inl is, says ∙ sym was))
says_line (Stopped Journal) status old new before text is was says = inr (inr (inr (inl is), says ∙ sym was))
says_line (Stopped Output) status old new before text is was says = inr (inl (is, says.0, says.1, says.2 ∙ sym (ap (option_map (λ (s : List ℕ). s ++ take says.0 text)) was)))
says_line (Stopped Input) status old new before text is was says = absurd says
says_line (Stopped Memory) status old new before text is was says = inr (inr (inr (inr is), says ∙ sym was))
says_line (Stopped TooLong) status old new before text is was says = absurd says

-- a query changes nothing
pub still_step : (b : Begun) (q : Query) → still b.state (step q)
still_step b list = tt
still_step b info = tt
still_step b map = tt
still_step b check = tt
still_step b (region q) = tt
