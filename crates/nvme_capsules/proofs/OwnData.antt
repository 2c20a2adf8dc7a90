-- For `own_data`: a command that is ready has exactly its own data.
use Rattle.std.proofs.Common.{
  ◌≡◌,
  ℕ,
  Bool,
  true,
  false,
  cond,
  List,
  [],
  ◌∷◌,
  ◌++◌,
  Result,
  Ok,
  Err,
  arith,
  refl,
  sym,
  ap,
  subst,
}
use Rattle.std.specs.Prelude.{◌==◌, ◌&&◌, nat_le}
use Rattle.std.proofs.lemmas.Bool.{and_from, and_parts, eqb-true, eq-eqb, le-leb, leb-true}
use Rattle.nvme_wire.specs.declared.status.Status.{Status}
use Rattle.nvme_responses.specs.declared.refused.Refused.{Refused}
use Rattle.nvme_responses.specs.Laws.{tally}
use Rattle.nvme_responses.specs.Responses.{accepted}
use Rattle.nvme_responses.proofs.Tallies.{tally-append}
use Rattle.nvme_transfers.specs.declared.command.Command.{Command}
use Rattle.nvme_transfers.specs.declared.command.Refused.{Refused as Unwanted}
use Rattle.nvme_transfers.specs.declared.part.Part.{Part}
use Rattle.nvme_transfers.specs.States.{State as Transfers}
use Rattle.nvme_transfers.specs.Transfers.{admitted}
use Rattle.nvme_transfers.specs.Laws.{AreWhole}
use Rattle.nvme_transfers.specs.Runs as transfers
use Rattle.nvme_transfers.specs.Runs.{Whole, begun, begun_if, complete, completes, dropped, in_flight}
use Rattle.nvme_transfers.proofs.Flights.{commands-once}
use Rattle.nvme_transfers.proofs.OwnParts.{own-data as parts-are-own}
use Rattle.nvme_capsules.specs.declared.capsule.Capsule.{Capsule}
use Rattle.nvme_capsules.specs.declared.connect_stage.ConnectStage.{ConnectStage}
use Rattle.nvme_capsules.specs.declared.data_place.DataPlace.{DataPlace}
use Rattle.nvme_capsules.specs.declared.data_place.DataPlace.TheVariants as place
use Rattle.nvme_capsules.specs.declared.outcome.Outcome.{Outcome}
use Rattle.nvme_capsules.specs.Capsules.{cid_of}
use Rattle.nvme_capsules.specs.DataPlaces.{
  data_place,
  direction_of,
  most_data,
  sgl_address_of,
  sgl_identifier_of,
  sgl_length_of,
}
use Rattle.nvme_capsules.specs.Outcomes.{begun as begun_outcome, command_of, planned, settled}
use Rattle.nvme_capsules.specs.Laws.{AllHaveOwn, IsAsked, IsInCapsule, IsReturned, IsSized, OwnData}
use Rattle.nvme_capsules.specs.Runs.{
  Brings,
  Call,
  Comes,
  Connects,
  Ends,
  Forgets,
  Later,
  Ready,
  Requests,
  Responds,
  Stops,
  begins,
  ready,
  ready_if,
  readies,
  sound,
  state_after,
  transfer_calls,
}
use Rattle.nvme_capsules.proofs.Outcomes.{sum-tally}
use Rattle.nvme_capsules.proofs.Places.{Asked, Inside, Nothing, Placed, Returned, Wrong, place-of}
use Rattle.nvme_capsules.proofs.Plans.{HasInCapsule, IsRefused, Plan, Returns, WaitsFor, plan}

-- ---- data in a capsule, and data that are returned

same-inside : (r : Result DataPlace Status) (a b n m : ℕ) → r ≡ Ok (place.InCapsule a n)
    → r ≡ Ok (place.InCapsule b m) → (a ≡ b) × (n ≡ m)
same-inside r a b n m e f = (cc, cc)

same-returned : (r : Result DataPlace Status) (n m : ℕ) → r ≡ Ok (place.FromController n)
    → r ≡ Ok (place.FromController m) → n ≡ m
same-returned r n m e f = cc

same-asked : (r : Result DataPlace Status) (n m : ℕ) → r ≡ Ok (place.OnRequest n) → r ≡ Ok (place.OnRequest m)
    → n ≡ m
same-asked r n m e f = cc

own-inside : (c : Capsule) (begin bytes : ℕ) → data_place c.entry c.data_length ≡ Ok (place.InCapsule begin bytes)
    → IsInCapsule c begin bytes
own-inside c begin bytes at = by (data_place c.entry c.data_length) (place-of c.entry c.data_length) at where
  by : (r : Result DataPlace Status) → Placed c.entry c.data_length r → r ≡ Ok (place.InCapsule begin bytes)
      → IsInCapsule c begin bytes
  by r (Wrong status e) at = absurd (cc)
  by r (Nothing e) at = absurd (cc)
  by r (Returned direction most e) at = absurd (cc)
  by r (Asked sized identifier e) at = absurd (cc)
  by r (Inside sized identifier within e) at =
      let same = same-inside r (sgl_address_of c.entry) begin (sgl_length_of c.entry) bytes e at in
      let b : sgl_address_of c.entry ≡ begin = same.0 in
      let n : sgl_length_of c.entry ≡ bytes = same.1 in
      record {
        sized = subst (IsSized c.entry) n sized;
        identifier = identifier;
        begins = sym b;
        within = omega (arith, b, n, within);
      }

own-returned : (c : Capsule) (bytes : ℕ) → data_place c.entry c.data_length ≡ Ok (place.FromController bytes)
    → IsReturned c.entry bytes
own-returned c bytes at = by (data_place c.entry c.data_length) (place-of c.entry c.data_length) at where
  by : (r : Result DataPlace Status) → Placed c.entry c.data_length r → r ≡ Ok (place.FromController bytes)
      → IsReturned c.entry bytes
  by r (Wrong status e) at = absurd (cc)
  by r (Inside sized identifier within e) at = absurd (cc)
  by r (Asked sized identifier e) at = absurd (cc)
  by r (Nothing e) at =
      let n = same-returned r 0 bytes e at in
      record {
        direction = λ some. absurd (omega (arith, n, some));
        size = λ some. absurd (omega (arith, n, some));
        most = omega (arith, n);
      }
  by r (Returned direction most e) at =
      let n = same-returned r (sgl_length_of c.entry) bytes e at in
      record { direction = λ some. direction; size = λ some. sym n; most = omega (arith, n, most) }

own-asked : (c : Capsule) (bytes : ℕ) → data_place c.entry c.data_length ≡ Ok (place.OnRequest bytes)
    → IsAsked (command_of c bytes)
own-asked c bytes at = by (data_place c.entry c.data_length) (place-of c.entry c.data_length) at where
  by : (r : Result DataPlace Status) → Placed c.entry c.data_length r → r ≡ Ok (place.OnRequest bytes)
      → IsAsked (command_of c bytes)
  by r (Wrong status e) at = absurd (cc)
  by r (Nothing e) at = absurd (cc)
  by r (Returned direction most e) at = absurd (cc)
  by r (Inside sized identifier within e) at = absurd (cc)
  by r (Asked sized identifier e) at =
      let n = same-asked r (sgl_length_of c.entry) bytes e at in
      record { sized = subst (IsSized c.entry) n sized; identifier = identifier }

-- ---- the commands that an R2T was asked for

-- the same as a test
is_asked : Command → Bool
is_asked c =
    (direction_of c.entry == 1) && ((c.length == sgl_length_of c.entry) && (nat_le 1 c.length
    && (nat_le c.length most_data && (sgl_identifier_of c.entry == 0x5a))))

asked-tested : (c : Command) → IsAsked c → is_asked c ≡ true
unfolding is_asked
asked-tested c a =
    and_from _ _ (eq-eqb (direction_of c.entry) 1 a.sized.direction)
    (and_from _ _ (eq-eqb c.length (sgl_length_of c.entry) a.sized.size)
    (and_from _ _ (le-leb 1 c.length a.sized.some)
    (and_from _ _ (le-leb c.length most_data a.sized.most) (eq-eqb (sgl_identifier_of c.entry) 0x5a a.identifier))))

tested-asked : (c : Command) → is_asked c ≡ true → IsAsked c
unfolding is_asked
tested-asked c h =
    let a = and_parts _ _ h in
    let b = and_parts _ _ a.1 in
    let d = and_parts _ _ b.1 in
    let e = and_parts _ _ d.1 in
    record {
      sized = record {
        direction = eqb-true (direction_of c.entry) 1 a.0;
        size = eqb-true c.length (sgl_length_of c.entry) b.0;
        some = leb-true 1 c.length d.0;
        most = leb-true c.length most_data e.0;
      };
      identifier = eqb-true (sgl_identifier_of c.entry) 0x5a e.1;
    }

-- how many commands of a list are not asked for so
abbrev weight : Bool → ℕ
weight true = 0
weight false = 1

unasked : Command → ℕ
unasked c = weight (is_asked c)

asked-counts : (c : Command) → IsAsked c → unasked c ≡ 0
unfolding unasked
asked-counts c a = ap weight (asked-tested c a)

counts-asked : (c : Command) → unasked c ≡ 0 → IsAsked c
unfolding unasked
counts-asked c h = by (is_asked c) refl h where
  by : (b : Bool) → is_asked c ≡ b → weight b ≡ 0 → IsAsked c
  by true e h = tested-asked c e
  by false e h = absurd (omega (arith, h))

begins-if : (c : Command) (r : Result (Unit {0}) Unwanted) → IsAsked c → tally unasked (begun_if r c) ≡ 0
begins-if c (Ok u) a = let e = asked-counts c a in omega (arith, e)
begins-if c (Err e) a = refl

plan-begins : (now : ConnectStage) (c : Capsule) (b : Bool) (o : Outcome) (calls : List transfers.Call) → Plan now c b o
    → tally unasked (begun calls) ≡ 0 → tally unasked (begun (begins o c calls)) ≡ 0
plan-begins now c b o calls (IsRefused status e) h =
    subst (λ o. tally unasked (begun (begins o c calls)) ≡ 0) (sym e) h
plan-begins now c b o calls (HasInCapsule begin bytes none at e) h =
    subst (λ o. tally unasked (begun (begins o c calls)) ≡ 0) (sym e) h
plan-begins now c b o calls (Returns bytes none at e) h =
    subst (λ o. tally unasked (begun (begins o c calls)) ≡ 0) (sym e) h
plan-begins now c b o calls (WaitsFor bytes none at e) h =
    subst (λ o. tally unasked (begun (begins o c calls)) ≡ 0) (sym e)
    (let r = admitted (transfers.state_after calls) (command_of c bytes) in
    let a = tally-append unasked (begun calls) (begun_if r (command_of c bytes)) in
    let d = begins-if (command_of c bytes) r (own-asked c bytes at) in
    omega (arith, a, d, h))

comes-begins : (now : ConnectStage) (c : Capsule) (r : Result Bool Refused) (calls : List transfers.Call)
    → tally unasked (begun calls) ≡ 0 → tally unasked (begun (begins (planned r now c) c calls)) ≡ 0
comes-begins now c (Ok b) calls h = plan-begins now c b (planned (Ok b) now c) calls (plan now c b) h
comes-begins now c (Err e) calls h = h

no-more : (run : List Call) → tally unasked (begun (transfer_calls run)) ≡ 0
    → tally unasked (begun (transfer_calls run) ++ []) ≡ 0
no-more run h = let a = tally-append unasked (begun (transfer_calls run)) [] in omega (arith, a, h)

all-asked : (run : List Call) → tally unasked (begun (transfer_calls run)) ≡ 0
all-asked [] = refl
all-asked (call ∷ run) = by call (all-asked run) where
  by : (call : Call) → tally unasked (begun (transfer_calls run)) ≡ 0
      → tally unasked (begun (transfer_calls (call ∷ run))) ≡ 0
  by (Comes now c) h =
      comes-begins now c (accepted (state_after run).responses (cid_of c.entry)) (transfer_calls run) h
  by (Brings p) h = no-more run h
  by Requests h = no-more run h
  by (Responds r) h = h
  by (Forgets cid) h = h
  by (Connects sqsize disabled) h = h
  by Ends h = no-more run h
  by Stops h = no-more run h

-- ---- the commands that have their data

complete-asked : (run : List Call) (p : Part)
    → tally (λ (w : Whole). unasked w.command) (completes (transfer_calls run) (transfers.Takes p)) ≡ 0
complete-asked run p =
    let calls = transfers.Takes p ∷ transfer_calls run in
    let v : Whole → ℕ = λ (w : Whole). unasked w.command in
    let a = commands-once calls unasked in
    let b = sum-tally unasked (begun calls) in
    let d = sum-tally v (complete calls) in
    let e = tally-append v (complete (transfer_calls run)) (completes (transfer_calls run) (transfers.Takes p)) in
    let f = no-more run (all-asked run) in
    omega (arith, a, b, d, e, f)

abbrev whole-right : (ws vs : List Whole) → AreWhole (ws ++ vs) → AreWhole vs
whole-right [] vs h = h
whole-right (w ∷ ws) vs h = whole-right ws vs h.1

sound-own : (ws : List Whole) → AreWhole ws → tally (λ (w : Whole). unasked w.command) ws ≡ 0 → AllHaveOwn (sound ws)
sound-own [] whole h = tt
sound-own (w ∷ ws) whole h = by w.is_sound refl (sound-own ws whole.1 (omega (arith, h))) where
  by : (b : Bool) → w.is_sound ≡ b → AllHaveOwn (sound ws) → AllHaveOwn (cond b (Later w ∷ sound ws) (sound ws))
  by true e rest = ((whole.0, (e, counts-asked w.command (omega (arith, h)))), rest)
  by false e rest = rest

own-both : (rs ss : List Ready) → AllHaveOwn rs → AllHaveOwn ss → AllHaveOwn (rs ++ ss)
own-both [] ss a b = b
own-both (r ∷ rs) ss a b = (a.0, own-both rs ss a.1 b)

waits-own : (c : Capsule) (bytes : ℕ) (r : Result (Unit {0}) Unwanted)
    → AllHaveOwn (ready_if (begun_outcome r bytes) c)
waits-own c bytes (Ok u) = tt
waits-own c bytes (Err e) = tt

plan-own : (t : Transfers) (now : ConnectStage) (c : Capsule) (b : Bool) (o : Outcome) → Plan now c b o
    → AllHaveOwn (ready_if (settled t o c) c)
plan-own t now c b o (IsRefused status e) = subst (λ o. AllHaveOwn (ready_if (settled t o c) c)) (sym e) tt
plan-own t now c b o (HasInCapsule begin bytes none at e) =
    subst (λ o. AllHaveOwn (ready_if (settled t o c) c)) (sym e) (own-inside c begin bytes at, tt)
plan-own t now c b o (Returns bytes none at e) =
    subst (λ o. AllHaveOwn (ready_if (settled t o c) c)) (sym e) (own-returned c bytes at, tt)
plan-own t now c b o (WaitsFor bytes none at e) =
    subst (λ o. AllHaveOwn (ready_if (settled t o c) c)) (sym e)
    (waits-own c bytes (admitted t (command_of c bytes)))

comes-own : (t : Transfers) (now : ConnectStage) (c : Capsule) (r : Result Bool Refused)
    → AllHaveOwn (ready_if (settled t (planned r now c) c) c)
comes-own t now c (Ok b) = plan-own t now c b (planned (Ok b) now c) (plan now c b)
comes-own t now c (Err e) = tt

pub own-data : OwnData
own-data [] = tt
own-data (call ∷ run) = own-both (ready run) (readies run call) (own-data run) (by call) where
  by : (call : Call) → AllHaveOwn (readies run call)
  by (Comes now c) =
      comes-own (state_after run).transfers now c (accepted (state_after run).responses (cid_of c.entry))
  by (Brings p) =
      sound-own (completes (transfer_calls run) (transfers.Takes p))
      (whole-right (complete (transfer_calls run)) (completes (transfer_calls run) (transfers.Takes p))
      (parts-are-own (transfers.Takes p ∷ transfer_calls run)))
      (complete-asked run p)
  by Requests = tt
  by (Responds r) = tt
  by (Forgets cid) = tt
  by (Connects sqsize disabled) = tt
  by Ends = tt
  by Stops = tt
