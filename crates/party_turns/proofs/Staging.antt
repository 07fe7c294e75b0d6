-- What a result says, and where a session may go on.
use Rattle.std.proofs.Common.{◌≡◌, ◌≢◌, false, true, Option, None, Some, Result, Ok, Err, refl}
use Rattle.std.specs.Prelude.{IfOk, IsSome, OnOk, OnSome}
use Rattle.std.specs.Result.{is_ok}
use Rattle.sv_events.specs.declared.event.Act.{Act}
use Rattle.apl_session.specs.Wants.{MayGoOn, need_by, stage_by}
use Rattle.apl_session.specs.declared.session.Need.TheVariants as need
use Rattle.apl_session.specs.declared.session.SessionStage.{SessionStage}
use Rattle.apl_session.specs.declared.session.SessionStage.TheVariants as stage

-- ---- results

pub on_ok_is : {T E P : Type 0} (r : Result T E) → is_ok r ≡ true → OnOk r P → P
on_ok_is (Ok x) is h = h
on_ok_is (Err e) is h = absurd cc

-- what holds of what two clauses say
pub on_ok_two : {T E A B P : Type 0} (r : Result T E) → (A → B → P) → OnOk r A → OnOk r B → OnOk r P
on_ok_two (Ok x) leads a b = leads a b
on_ok_two (Err e) leads a b = tt

-- what holds holds where something is said
on_said : {A P : Type 0} (o : Option A) → P → OnSome o P
on_said None h = tt
on_said (Some a) h = h

pub if_said : {T E A P : Type 0} (r : Result T E) (said : T → Option A) → P → IfOk r (λ x. OnSome (said x) P)
if_said (Ok x) said h = on_said (said x) h
if_said (Err e) said h = tt

-- ---- what a session wants

-- it asks an act
pub act_wanted : (o : Option Act) → need.Answer ≡ need_by o → IsSome o
act_wanted None is = absurd cc
act_wanted (Some act) is = cc

-- and then it waits
pub act_waits : (o : Option Act) → IsSome o → stage_by o ≡ stage.Waiting
act_waits None some = absurd (let no : false ≡ true = some in cc)
act_waits (Some act) some = refl

-- or none
pub none_wanted : (o : Option Act) → need.Nothing ≡ need_by o → o ≡ None
none_wanted None is = refl
none_wanted (Some act) is = absurd cc

-- ---- a session that waits for no answer

pub may_go_on : (at : SessionStage) → at ≢ stage.Waiting → MayGoOn at
may_go_on stage.Ready free = tt
may_go_on stage.Waiting free = absurd (free refl)
may_go_on stage.Finished free = tt
may_go_on stage.Failed free = tt
