-- For the answers of `run` and `reply_to`: a run continues by one event, and the data of an event fit the buffer.
use Rattle.nvme_fleet.proofs.Words.{
  ◌≡◌,
  ℕ,
  ◌+◌,
  ◌<◌,
  ◌≤◌,
  get_or,
  Bool,
  List,
  [],
  ◌∷◌,
  ◌++◌,
  ◌∙◌,
  length,
  take,
  refl,
  sym,
  ap,
  arith,
  Result,
  Ok,
  Err,
  is_ok,
  IsOk,
  if◌then◌else◌,
  take_more,
  append-nil,
  append_assoc,
  most_bytes,
  FleetEvent,
  Poll,
  Reply,
  Fleet,
  Step,
  FleetState,
  Layers,
  layers_of,
  MediumCall,
  MakesCalls,
  OverMedium,
  AreCallsOfStep,
  RunsBehind,
  data_behind,
  room_for,
  inl,
  inr,
  ◌⊎◌,
}
use Rattle.nvme_mailbox.proofs.EachHost.{IsPoll, polls-alone}
use Rattle.nvme_fleet.specs.FleetStates.{data_in}
use Rattle.nvme_fleet.proofs.LayerCalls.{calls-more, layer_calls_are_of_a_run}

-- only a poll returns bytes
pub fits-room : (tells : Bool) (old : Fleet) (event : FleetEvent) (reply : Reply) (new : Fleet)
    → Step tells old event reply new → length reply.bytes ≤ most_bytes → length reply.bytes ≤ room_for event
fits-room tells old event reply new step few = by event (polls-alone tells old new event reply step)
  where
    by : (e : FleetEvent) → (reply.bytes ≡ []) ⊎ IsPoll e → length reply.bytes ≤ room_for e
    by (Poll k) given = few
    by e (inl none) = let long : length reply.bytes ≡ 0 = ap length none in omega (arith, long)
    by e (inr poll) = absurd poll

-- bytes that are copied into a vector of sufficient capacity
pub copied : {E : Type 0} (r : Result Unit E) (before after bytes : List ℕ)
    → after ≡ (if is_ok r then before ++ bytes else before) → IsOk r → before ≡ [] → after ≡ bytes
copied (Ok u) before after bytes is ok none = is ∙ ap (λ xs. xs ++ bytes) none
copied (Err e) before after bytes is ok none = absurd (cc)

-- Runs.
pub runs-none : {M : Type 0} (step : M → MediumCall → M → Type 0) (tells : Bool) (before : List Reply)
    (old : OverMedium FleetState M) → RunsBehind step tells before old [] before old
runs-none step tells before old = record {
  added = [];
  behind = sym (append-nil before);
  ran = refl;
  calls = record { calls = []; are = (refl, refl); made = refl };
  holds = refl;
}

data-more : (before : List ℕ) (replies : List Reply) (last : Reply)
    → data_behind before (replies ++ last ∷ []) ≡ last.bytes
data-more before [] last = refl
data-more before (r ∷ replies) last = data-more r.bytes replies last

-- over the front of a list of events
pub runs-next : {M : Type 0} (step : M → MediumCall → M → Type 0) (tells : Bool) (before now : List Reply)
    (events : List FleetEvent) (i : ℕ) (d : FleetEvent) (old mid new : OverMedium FleetState M) (last : Reply)
    → i < length events
    → RunsBehind step tells before old (take i events) now mid
    → MakesCalls step (AreCallsOfStep tells (layers_of mid.state) (get_or events i d) last (layers_of new.state))
    mid.medium new.medium → last.bytes ≡ data_in new.state
    → RunsBehind step tells before old (take (i + 1) events) (now ++ last ∷ []) new
runs-next step tells before now events i d old mid new last inside runs calls bytes =
    let a : Layers = layers_of old.state in
    let b : Layers = layers_of new.state in
    let made = calls-more step tells (take i events) runs.added a (layers_of mid.state) b
    (get_or events i d) last old.medium mid.medium new.medium runs.calls calls in
    record {
      added = runs.added ++ last ∷ [];
      behind = ap (λ xs. xs ++ last ∷ []) runs.behind ∙ append_assoc before runs.added (last ∷ []);
      ran = rw (take_more events i d inside) (layer_calls_are_of_a_run tells a b
          (take i events ++ get_or events i d ∷ []) (runs.added ++ last ∷ []) made.calls made.are);
      calls = rw (take_more events i d inside) made;
      holds = sym (data-more (data_in old.state) runs.added last ∙ bytes);
    }
