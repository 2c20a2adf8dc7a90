-- For the answers of `LinkPort` and for `DriverSteps`: the effect of calls over a link: of those that give the device
-- no turn, and of those of a driver that comes up. They make no calls of the medium, since admin commands make none.
use Rattle.nvme_fleet.proofs.Words.{
  World,
  Executed,
  Posted,
  NoSuch,
  CqFull,
  marks_in,
  no_marks,
  marks_after,
  unmarked,
  Bool,
  Call,
  CallOverMedium,
  CallStep,
  CallingAt,
  CallingOne,
  CallingOver,
  Calls,
  Controller,
  Driver,
  Event,
  FetchedCommand,
  IsStep,
  KeepsOthers,
  KeepsSite,
  LinkStep,
  Linked,
  List,
  MailboxReaction,
  MediumCall,
  None,
  Option,
  OverMedium,
  QueuePair,
  Ran,
  Reaches,
  ReachesMedium,
  Reply,
  Seen,
  Setting,
  Some,
  Subsystem,
  Turns,
  [],
  after_call,
  after_calls,
  after_fetch,
  ap,
  arith,
  controller_at,
  controller_in,
  events_of,
  events_of_calls,
  length,
  length-set,
  linked_controller,
  linked_setting,
  new_controller,
  open_pair,
  refl,
  scene_of,
  set-get_or,
  set-set,
  setting_in,
  slice_get,
  subst,
  sym,
  with_controller,
  with_controller_at,
  with_setting,
  ℕ,
  ◌++◌,
  ◌+◌,
  ◌<◌,
  ◌∙◌,
  ◌∷◌,
  ◌≡◌,
  slice_set,
  Stores,
  Writes,
  Reads,
  Sees,
  Loads,
  seen_in,
  Value,
  Reaction,
  after_store,
  wrote,
  has_read,
  setting,
  ExecutesNth,
  Reacts,
  ReactsAs,
  fetch-id,
  window_at,
  window_of,
}
use Rattle.std.specs.Prelude.{slice_range}
use Rattle.nvme_driver.specs.declared.lane.Lane.{Lane}
use Rattle.nvme_mailbox.proofs.Lists.{all-get}
use Rattle.nvme_spec.specs.MediumCalls.{Calls as CallsMade}
use Rattle.nvme_machine.specs.declared.event.Event.TheVariants.{Fetch, Execute}
use Rattle.nvme_machine.specs.Calling.{AreCallsAs, AreCallsOfExecution}
use Rattle.nvme_machine.specs.EventCalls.{AreCallsOfRun}
use Rattle.nvme_machine.specs.Subsystems.{Run, Step, ExecutesAt, marked_from, with_controller as with_controller_of}
use Rattle.nvme_subsys.proofs.Numbers as numbers
use Rattle.nvme_refinement.proofs.AdminTurns.{
  AreAdmin,
  IsAdmin,
  call-admin,
  call-named,
  fetch-admin,
  fetched_by,
  one-quiet,
}
use Rattle.nvme_refinement.proofs.PlainCalls.{IsPlain, plain-first}
use Rattle.nvme_refinement.proofs.StartStep.{calls-are, calls-id}
use Rattle.std.proofs.lemmas.List.{get_or-set_same}
use Rattle.std.proofs.lemmas.Option.{slice_get-get_or}
use Rattle.nvme_machine.specs.declared.event.Event.TheVariants as event

-- A call over a link is exactly its events of the subsystem, and so a step of the controller that it reaches. All other
-- controllers stay, also during the turns of a driver that comes up, since admin commands mark nobody.

-- Runs of one event, and of two.

pub record IsOne (tells : Bool) (a : Subsystem) (e : Event) (given : List Seen) (b : Subsystem) : Type 0 where
  pub gives : Seen
  pub alone : given ≡ gives ∷ []
  pub step : Step tells a e gives b

pub one-ran : (tells : Bool) (a b : Subsystem) (e : Event) (given : List Seen)
    → Run tells a (e ∷ []) given b → IsOne tells a e given b
one-ran tells a b e [] r = absurd r
one-ran tells a b e (x ∷ []) (mid, step, same) =
    record { gives = x; alone = refl; step = subst (Step tells a e x) (sym same) step }
one-ran tells a b e (x ∷ y ∷ ys) (mid, step, more) = absurd more

record AreTwo (tells : Bool) (a : Subsystem) (e f : Event) (b : Subsystem) : Type 0 where
  mid : Subsystem
  first : Seen
  last : Seen
  starts : Step tells a e first mid
  ends : Step tells mid f last b

two-ran : (tells : Bool) (a b : Subsystem) (e f : Event) (given : List Seen) → Run tells a (e ∷ f ∷ []) given b
    → AreTwo tells a e f b
two-ran tells a b e f [] r = absurd r
two-ran tells a b e f (x ∷ xs) (mid, step, rest) =
    let r = one-ran tells mid b f xs rest in
    record { mid = mid; first = x; last = r.gives; starts = step; ends = r.step }

-- A controller that reacts.

pub record HasReacted (a b : Subsystem) (i : ℕ) (r : Reaction) (given : Seen) : Type 0 where
  pub gives : given ≡ r.seen
  pub leaves : b ≡ with_controller_at a i r.controller

pub reacted-as : (a b : Subsystem) (k i : ℕ) (f : Controller → Reaction) (given : Seen)
    → k ≡ i + 1 → i < length a.controllers → Reacts a k f given b → HasReacted a b i (f (controller_in a i)) given
unfolding with_controller_of
reacted-as a b k i f given at there h =
    let c : Controller = controller_in a i in
    let r = subst (λ o. ReactsAs o a k f given b)
    (numbers.at-place a k i c at (slice_get-get_or a.controllers i (new_controller 0) there)) h in
    record {
      gives = r.0;
      leaves = r.1 ∙ ap (λ cs. (let s : Subsystem = record a { controllers = cs } in s))
          (numbers.replaced-at a.controllers k i (f c).controller at);
    }

-- the effect of a call on the controller that it reaches
pub record IsPut (a b : Subsystem) (i : ℕ) (s : Setting) : Type 0 where
  pub setting_is : setting_in b i ≡ s
  pub others : KeepsOthers i a b

pub is-put : (a b : Subsystem) (i : ℕ) (s : Setting) → i < length a.controllers → b ≡ with_setting a i s → IsPut a b i s
is-put a b i s there h =
    let same : setting_in (with_setting a i s) i ≡ s =
    ap (λ c. setting c s.world s.device) (get_or-set_same a.controllers i s.controller (new_controller 0) there) in
    subst (λ x. IsPut a x i s) (sym h) (record { setting_is = same; others = ap (with_setting a i) (sym same) })

same-put : (a : Subsystem) (i : ℕ) → a ≡ with_controller_at a i (controller_in a i)
same-put a i = ap (λ cs. (let s : Subsystem = record a { controllers = cs } in s))
    (sym (set-get_or a.controllers i (new_controller 0)))

-- the window of a controller
pub window-there : (s : Subsystem) (k i : ℕ) → k ≡ i + 1 → i < length s.controllers
    → window_at s k ≡ (controller_in s i).window
window-there s k i at there = ap window_of
    (numbers.at-place s k i (controller_in s i) at (slice_get-get_or s.controllers i (new_controller 0) there))

-- no events
pub none-ran : (tells : Bool) (a b : Subsystem) (given : List Seen) → Run tells a [] given b → b ≡ a
none-ran tells a b [] r = r
none-ran tells a b (x ∷ given) r = absurd r

-- A call is a step of the setting, and the others stay.
pub record IsStepThere (tells : Bool) (call : Call) (a b : Subsystem) (i : ℕ) : Type 0 where
  pub step : LinkStep tells (setting_in a i) call (setting_in b i)
  pub others : KeepsOthers i a b

-- the value that a read returned, by the result of its event
pub value-is : (x : Seen) (v u : ℕ) (got : List Seen) → got ≡ x ∷ [] → got ≡ Value v ∷ [] → x ≡ Value u → v ≡ u
value-is x v u got a b e = cc

pub plain-there : (tells : Bool) (call : Call) (a b : Subsystem) (i : ℕ)
    → IsPlain (call ∷ []) → i < length a.controllers → CallStep tells (i + 1) a call b → IsStepThere tells call a b i
plain-there tells (Stores address bytes) a b i plain there s =
    let r = one-ran tells a b (event.Store (i + 1) address (record { ref_ptr = (0, 0); now = bytes })) s.given s.run in
    let p = reacted-as a b (i + 1) i (after_store address bytes) r.gives refl there r.step in
    let q = is-put a b i (with_controller (setting_in a i) (after_store address bytes (controller_in a i)).controller)
    there p.leaves in
    record { step = q.setting_is; others = q.others }
plain-there tells (Writes offset v) a b i plain there s =
    let r = one-ran tells a b (event.Write32 (i + 1) offset v) s.given s.run in
    let p = reacted-as a b (i + 1) i (wrote offset v) r.gives refl there r.step in
    let q =
    is-put a b i (with_controller (setting_in a i) (wrote offset v (controller_in a i)).controller) there p.leaves in
    record { step = q.setting_is; others = q.others }
plain-there tells (Reads offset v) a b i plain there s =
    let r = one-ran tells a b (event.Read32 (i + 1) offset) s.given s.run in
    let p = reacted-as a b (i + 1) i (has_read offset) r.gives refl there r.step in
    let q = is-put a b i (with_controller (setting_in a i) (controller_in a i)) there p.leaves in
    record { step = (value-is r.gives v _ s.given r.alone s.answers p.gives, q.setting_is); others = q.others }
plain-there tells Turns a b i plain there s = absurd plain
plain-there tells (Sees lane head expected seen) a b i plain there s =
    let same = none-ran tells a b s.given s.run in
    let q = is-put a b i (setting_in a i) there (same ∙ same-put a i) in
    record {
      step = (s.answers ∙ ap (seen_in lane head expected) (window-there a (i + 1) i refl there), q.setting_is);
      others = q.others;
    }
plain-there tells (Loads at part) a b i plain there s =
    let same = none-ran tells a b s.given s.run in
    let q = is-put a b i (setting_in a i) there (same ∙ same-put a i) in
    record {
      step = (
        s.answers ∙ ap (λ w. slice_range w at (at + length part)) (window-there a (i + 1) i refl there),
        q.setting_is,
      );
      others = q.others;
    }

-- an execution that marks nothing leaves every controller
none-marked : (w : World) (x : Executed) (cs : List Controller) → marks_in x ≡ no_marks → marks_after w x cs ≡ cs
none-marked w (Posted o) cs h = ap (λ m. marked_from w m 1 cs) h ∙ unmarked w 1 cs
none-marked w NoSuch cs h = refl
none-marked w CqFull cs h = refl

pub turns-there : (tells : Bool) (a b : Subsystem) (i : ℕ) → AreAdmin (controller_in a i) → i < length a.controllers
    → (controller_in a i).cntlid ≡ i + 1 → CallStep tells (i + 1) a Turns b
    → IsStepThere tells Turns a b i
turns-there tells a b i admin there named s =
    let c : Controller = controller_in a i in
    let d : Controller = fetched_by c in
    let mid : Subsystem = with_controller_at a i d in
    let r = two-ran tells a b (event.Fetch (i + 1) 0) (event.Execute (i + 1) 0) s.given s.run in
    let p = reacted-as a r.mid (i + 1) i (after_fetch 0) r.first refl there r.starts in
    let long : i < length mid.controllers = let e = length-set a.controllers i d in omega (arith, e, there) in
    let found : slice_get mid.controllers i ≡ Some d =
    slice_get-get_or mid.controllers i (new_controller 0) long ∙ ap Some (get_or-set_same a.controllers i d _ there) in
    let e = numbers.executed-back tells mid (i + 1) i d 0 r.last b refl found (fetch-id 0 c ∙ named)
    (subst (λ x. ExecutesAt (controller_at x (i + 1)) tells x (i + 1) 0 r.last b) p.leaves r.ends) in
    let left : Setting = e.left in
    let quiet = one-quiet (slice_get d.fetched 0) tells (setting d a.world a.device) e.executed left refl
    (fetch-admin c admin) e.executes in
    let is : b ≡ with_setting a i left =
    e.leaves
    ∙ ap (λ cs. (let x : Subsystem = record { world = left.world; device = left.device; controllers = cs } in x))
    (none-marked left.world e.executed (slice_set mid.controllers i left.controller) quiet.marks
    ∙ set-set a.controllers i d left.controller) in
    let q = is-put a b i left there is in
    record {
      step = (
        e.executed,
        subst (ExecutesNth tells 0 (setting d a.world a.device) e.executed) (sym q.setting_is) e.executes,
      );
      others = q.others;
    }

-- An admin command makes no call.

none-over : (o : Option QueuePair) (tells : Bool) (old : Subsystem) (k : ℕ) (c : Controller) (t : FetchedCommand)
    (seen : Seen) (new : Subsystem) (calls : List MediumCall) → IsAdmin t
    → CallingOver o tells old k c 0 t seen new calls → calls ≡ []
unfolding AreCallsOfExecution
none-over None tells old k c t seen new calls is h = h.2
none-over (Some p) tells old k c t seen new calls is h =
    subst (λ b. AreCallsAs b k t (scene_of old c) h.completes.execution calls) is h.are

none-one : (o : Option FetchedCommand) (tells : Bool) (old : Subsystem) (k : ℕ) (c : Controller) (seen : Seen)
    (new : Subsystem) (calls : List MediumCall) → ((t : FetchedCommand) → o ≡ Some t → IsAdmin t)
    → CallingOne o tells old k c 0 seen new calls → calls ≡ []
none-one None tells old k c seen new calls admin h = h.2
none-one (Some t) tells old k c seen new calls admin h =
    none-over (open_pair c t) tells old k c t seen new calls (admin t refl) h

none-executed : (tells : Bool) (s : Subsystem) (k : ℕ) (c : Controller) (seen : Seen) (new : Subsystem)
    (calls : List MediumCall) → controller_at s k ≡ Some c → AreAdmin c
    → CallingAt (controller_at s k) tells s k 0 seen new calls → calls ≡ []
none-executed tells s k c seen new calls at admin h =
    none-one (slice_get c.fetched 0) tells s k c seen new calls (λ t is. all-get IsAdmin c.fetched 0 t is admin)
    (subst (λ o. CallingAt o tells s k 0 seen new calls) at h)

-- nor does a turn of a controller that has fetched only such commands
turn-none : (tells : Bool) (a b : Subsystem) (i : ℕ) (given : List Seen) (calls : List MediumCall)
    → AreAdmin (controller_in a i) → i < length a.controllers
    → AreCallsOfRun tells a (Fetch (i + 1) 0 ∷ Execute (i + 1) 0 ∷ []) given b calls → calls ≡ []
turn-none tells a b i [] calls admin there h = absurd h
turn-none tells a b i (x ∷ []) calls admin there (mid, here, behind, step, rest, joined) = absurd rest
turn-none tells a b i (x ∷ y ∷ z ∷ given) calls admin there
    (mid, here, behind, step, (last, now, later, executes, ended, after), joined) = absurd ended
turn-none tells a b i (x ∷ y ∷ []) calls admin there
    (mid, here, behind, step, (last, now, later, executes, ended, after), joined) =
    let d : Controller = fetched_by (controller_in a i) in
    let m : Subsystem = with_controller_at a i d in
    let p = reacted-as a mid (i + 1) i (after_fetch 0) x refl there step.0 in
    let long : i < length m.controllers = let e = length-set a.controllers i d in omega (arith, e, there) in
    let found : slice_get m.controllers i ≡ Some d =
    slice_get-get_or m.controllers i (new_controller 0) long ∙ ap Some (get_or-set_same a.controllers i d _ there) in
    let none : now ≡ [] = none-executed tells m (i + 1) d y last now (numbers.at-place m (i + 1) i d refl found)
    (fetch-admin (controller_in a i) admin)
    (subst (λ (s : Subsystem). CallingAt (controller_at s (i + 1)) tells s (i + 1) 0 y last now) p.leaves executes) in
    joined ∙ ap (λ cs. cs ++ behind) step.1 ∙ (after ∙ ap (λ cs. cs ++ later) none ∙ ended.1)

-- One call.

kept-plain : {M : Type 0} (step : M → MediumCall → M → Type 0) (tells : Bool) (call : Call) (k : ℕ) (a b : Subsystem)
    (before after : M) → IsPlain (call ∷ []) → ReachesMedium step tells k a b call before after → after ≡ before
kept-plain step tells Turns k a b before after plain h = absurd plain
kept-plain step tells call k a b before after plain h = h

kept-admin : {M : Type 0}
    (step : M → MediumCall → M → Type 0) (tells : Bool) (call : Call) (i : ℕ) (a b : Subsystem) (before after : M)
    → AreAdmin (controller_in a i) → i < length a.controllers → ReachesMedium step tells (i + 1) a b call before after
    → after ≡ before
kept-admin step tells Turns i a b before after admin there h =
    subst (λ cs. CallsMade step before cs after) (turn-none tells a b i h.are.0 h.calls admin there h.are.1) h.made
kept-admin step tells call i a b before after admin there h = h

-- A look and a load are calls over a link that leave it.
pub seen-over : {M : Type 0} (step : M → MediumCall → M → Type 0) (tells : Bool) (p : OverMedium Linked M) (lane : Lane)
    (head : ℕ) (expected : Bool) (seen : Option (List ℕ)) → p.state.place < length p.state.subsystem.controllers
    → seen ≡ seen_in lane head expected (linked_controller p.state).window
    → CallOverMedium step tells p (Sees lane head expected seen) p
seen-over step tells p lane head expected seen there is = record {
  over = record {
    step = record {
      given = [];
      run = refl;
      answers = is ∙ ap (seen_in lane head expected)
          (sym (window-there p.state.subsystem (p.state.place + 1) p.state.place refl there));
    };
    place = refl;
    name = refl;
  };
  medium = refl;
}

pub loaded-over : {M : Type 0} (step : M → MediumCall → M → Type 0) (tells : Bool) (p : OverMedium Linked M) (at : ℕ)
    (part : List ℕ) → p.state.place < length p.state.subsystem.controllers
    → part ≡ slice_range (linked_controller p.state).window at (at + length part)
    → CallOverMedium step tells p (Loads at part) p
loaded-over step tells p at part there is = record {
  over = record {
    step = record {
      given = [];
      run = refl;
      answers = is ∙ ap (λ w. slice_range w at (at + length part))
          (sym (window-there p.state.subsystem (p.state.place + 1) p.state.place refl there));
    };
    place = refl;
    name = refl;
  };
  medium = refl;
}

-- Consecutive runs.
runs-both : (tells : Bool) (a b c : Subsystem) (es fs : List Event) (xs ys : List Seen)
    → Run tells a es xs b → Run tells b fs ys c → Run tells a (es ++ fs) (xs ++ ys) c
runs-both tells a b c [] fs [] ys r s = subst (λ m. Run tells m fs ys c) r s
runs-both tells a b c [] fs (x ∷ xs) ys r s = absurd r
runs-both tells a b c (e ∷ es) fs [] ys r s = absurd r
runs-both tells a b c (e ∷ es) fs (x ∷ xs) ys r s = (r.0, r.1, runs-both tells r.0 b c es fs xs ys r.2 s)

-- Calls that give the device no turn are a run over exactly their events, in which only the controller changes, as they
-- change it.
pub record AreMade {M : Type 0} (tells : Bool) (calls : List Call) (p q : OverMedium Linked M) : Type 0 where
  pub ran : Ran tells p.state.subsystem (events_of_calls (p.state.place + 1) calls) q.state.subsystem
  pub leaves : q.state.subsystem ≡ with_controller_at p.state.subsystem p.state.place
      (after_calls calls (linked_controller p.state))
  pub place : q.state.place ≡ p.state.place
  pub medium : q.medium ≡ p.medium

put-twice : (a : Subsystem) (i : ℕ) (c : Controller) (f : Controller → Controller) → i < length a.controllers
    → with_controller_at (with_controller_at a i c) i (f (controller_in (with_controller_at a i c) i))
    ≡ with_controller_at a i (f c)
put-twice a i c f there =
    ap (λ x. with_controller_at (with_controller_at a i c) i (f x))
    (get_or-set_same a.controllers i c (new_controller 0) there)
    ∙ ap (λ cs. (let s : Subsystem = record a { controllers = cs } in s)) (set-set a.controllers i c (f c))

pub calls-made : {M : Type 0} (step : M → MediumCall → M → Type 0) (tells : Bool) (calls : List Call)
    (p q : OverMedium Linked M) → IsPlain calls → p.state.place < length p.state.subsystem.controllers
    → Calls (CallOverMedium step tells) p calls q → AreMade tells calls p q
calls-made {M} step tells [] p q plain there h = record {
  ran = ([], ap (λ (x : OverMedium Linked M). x.state.subsystem) h);
  leaves = ap (λ (x : OverMedium Linked M). x.state.subsystem) h ∙ same-put p.state.subsystem p.state.place;
  place = ap (λ (x : OverMedium Linked M). x.state.place) h;
  medium = ap (λ (x : OverMedium Linked M). x.medium) h;
}
calls-made step tells (call ∷ calls) p q plain there (mid, one, rest) =
    let two = plain-first call calls plain in
    let a : Subsystem = p.state.subsystem in
    let i : ℕ = p.state.place in
    let c : Controller = after_call call (controller_in a i) in
    let own = one.over.step in
    let at = one.over.place in
    let now : Setting = setting_in mid.state.subsystem i in
    let only = plain-there tells call a mid.state.subsystem i two.0 there own in
    let here : mid.state.subsystem ≡ with_controller_at a i c = only.others
    ∙ ap (with_setting a i) (calls-are tells (call ∷ []) (setting_in a i) now two.0 (now, only.step, refl)) in
    let long : length mid.state.subsystem.controllers ≡ length a.controllers =
    ap (λ (s : Subsystem). length s.controllers) here ∙ length-set a.controllers i c in
    let later = calls-made step tells calls mid q two.1 (omega (arith, long, at, there)) rest in
    let ran =
    subst (λ n. Ran tells mid.state.subsystem (events_of_calls (n + 1) calls) q.state.subsystem) at later.ran in
    record {
      ran = (
        own.given ++ ran.0,
        runs-both tells a mid.state.subsystem q.state.subsystem (events_of (i + 1) call)
            (events_of_calls (i + 1) calls) own.given ran.0 own.run ran.1,
      );
      leaves =
          later.leaves ∙ (λ j. with_controller_at (here j) (at j) (after_calls calls (controller_in (here j) (at j))))
          ∙ put-twice a i c (after_calls calls) there;
      place = later.place ∙ at;
      medium =
          later.medium ∙ kept-plain step tells call (i + 1) a mid.state.subsystem p.medium mid.medium two.0 one.medium;
    }

-- the effect of a driver's call over a link
pub record HasDone {M : Type 0} (r : MailboxReaction) (d : Driver) (p q : OverMedium Linked M) (reply : Reply)
    (Below : Type 0) : Type 0 where
  pub step : IsStep r d (linked_controller q.state) reply
  pub site : KeepsSite p.state q.state
  pub below : Below
  pub medium : q.medium ≡ p.medium

-- the subsystem still has the controller, under the same reference
abbrev pub IsSameName : {M : Type 0} → OverMedium Linked M → OverMedium Linked M → Type 0
IsSameName p q = q.state.name ∷ [] ≡ p.state.name ∷ []

pub done : {M : Type 0} (tells : Bool) (calls : List Call)
    (r : MailboxReaction) (d e : Driver) (p q : OverMedium Linked M) (gives reply : Reply) (Below : Type 0)
    → p.state.place < length p.state.subsystem.controllers → IsSameName p q
    → AreMade tells calls p q → IsStep r d (after_calls calls (linked_controller p.state)) gives → e ≡ d → reply ≡ gives
    → Below → HasDone r e p q reply Below
done tells calls r d e p q gives reply Below there name made step same is below =
    let a : Subsystem = p.state.subsystem in
    let i : ℕ = p.state.place in
    let c : Controller = after_calls calls (controller_in a i) in
    let put = is-put a q.state.subsystem i (with_controller (setting_in a i) c) there made.leaves in
    let found : linked_controller q.state ≡ c =
    ap (controller_in q.state.subsystem) made.place ∙ ap (λ (s : Setting). s.controller) put.setting_is in
    record {
      step = subst (λ x. IsStep r e x reply) (sym found)
          (subst (λ x. IsStep r e c x) (sym is) (subst (λ x. IsStep r x c gives) (sym same) step));
      site = record {
        cntlid = ap (λ (x : Controller). x.cntlid) found ∙ calls-id calls (controller_in a i);
        world = ap (λ (s : Setting). s.world) put.setting_is;
        device = ap (λ (s : Setting). s.device) put.setting_is;
        others = put.others;
        place = made.place;
        name = cc (name);
      };
      below = below;
      medium = made.medium;
    }

-- Calls of a driver that comes up: its controller has fetched only admin commands, and all else is unchanged.

pub record IsFresh {M : Type 0} (p x : OverMedium Linked M) : Type 0 where
  pub reaches : Reaches x.state
  pub admin : AreAdmin (linked_controller x.state)
  pub others : KeepsOthers p.state.place p.state.subsystem x.state.subsystem
  pub place : x.state.place ≡ p.state.place
  pub medium : x.medium ≡ p.medium

call-there : (tells : Bool) (call : Call) (a b : Subsystem) (i : ℕ) → AreAdmin (controller_in a i)
    → i < length a.controllers → (controller_in a i).cntlid ≡ i + 1 → CallStep tells (i + 1) a call b
    → IsStepThere tells call a b i
call-there tells Turns a b i admin there named h = turns-there tells a b i admin there named h
call-there tells call a b i admin there named h = plain-there tells call a b i tt there h

pub fresh-call : {M : Type 0} (step : M → MediumCall → M → Type 0) (tells : Bool) (p : OverMedium Linked M)
    (call : Call) (x y : OverMedium Linked M) → IsFresh p x → CallOverMedium step tells x call y
    → LinkStep tells (linked_setting x.state) call (linked_setting y.state) × IsFresh p y
fresh-call step tells p call x y f h =
    let a : Subsystem = x.state.subsystem in
    let b : Subsystem = y.state.subsystem in
    let i : ℕ = x.state.place in
    let place = h.over.place in
    let at = f.reaches in
    let there = call-there tells call a b i f.admin at.0 at.1 h.over.step in
    let one : LinkStep tells (setting_in a i) call (linked_setting y.state) =
    subst (λ n. LinkStep tells (setting_in a i) call (setting_in b n)) (sym place) there.step in
    let n : ℕ = p.state.place in
    let others : KeepsOthers n p.state.subsystem b = subst (λ n. KeepsOthers n a b) f.place there.others
    ∙ ap (λ (s : Subsystem). with_setting s n (setting_in b n)) f.others
    ∙ ap (λ cs. (let s : Subsystem = record { world = b.world; device = b.device; controllers = cs } in s))
    (set-set p.state.subsystem.controllers n (controller_in a n) (controller_in b n)) in
    let long : length b.controllers ≡ length a.controllers =
    ap (λ (s : Subsystem). length s.controllers) there.others ∙ length-set a.controllers i (controller_in b i) in (
      one,
      record {
        reaches = (
          omega (arith, long, at.0, place),
          call-named tells call (setting_in a i) (linked_setting y.state) one ∙ at.1 ∙ ap (λ n. n + 1) (sym place),
        );
        admin = call-admin tells call (setting_in a i) (linked_setting y.state) one f.admin;
        others = others;
        place = place ∙ f.place;
        medium = kept-admin step tells call i a b x.medium y.medium f.admin at.0 h.medium ∙ f.medium;
      },
    )

pub fresh-start : {M : Type 0} (p : OverMedium Linked M)
    → Reaches p.state → AreAdmin (linked_controller p.state) → IsFresh p p
fresh-start p at admin = let others = same-put p.state.subsystem p.state.place in search
