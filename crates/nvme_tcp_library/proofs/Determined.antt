-- Proof of the law `calls`: two outcomes of a call are equal.
use Rattle.std.proofs.Common.{◌≡◌, ℕ, Bool, List, Option, Some, None, refl, sym, ap, ◌∙◌}
use Rattle.nvme_connection.specs.declared.taken.Taken.{Taken as Bytes}
use Rattle.nvme_connection.specs.Connections.{Connection}
use Rattle.nvme_connection.specs.Holding.{breach_of}
use Rattle.nvme_connection.specs.Streams.{after_bytes}
use Rattle.nvme_fabrics.specs.declared.fabrics.Fabrics.{Fabrics}
use Rattle.nvme_pdu.specs.declared.fatal.Fatal.{Fatal}
use Rattle.nvme_responses.specs.Responses.{seen}
use Rattle.nvme_transfers.specs.States.{State as Transfers}
use Rattle.nvme_tcp_library.specs.declared.connections.Taken.{Taken}
use Rattle.nvme_tcp_library.specs.declared.opening.HostId.{HostId}
use Rattle.nvme_tcp_library.specs.Connections.{taken_by}
use Rattle.nvme_tcp_library.specs.Determined.{
  CapsulesAreDetermined,
  FabricsAreDetermined,
  IsDetermined,
  IsDeterminedOnSession,
  IsDeterminedWithMemory,
  StoringIsDetermined,
  TakingsAreDetermined,
  TransfersAreDetermined,
}
use Rattle.nvme_tcp_library.specs.Fabrics as fabrics
use Rattle.nvme_tcp_library.specs.Transfers as transfers

-- two pairs, or triples, of a call's values
two-values : {A B : Type 0} (x y v : A) (p q w : B) → (x ≡ v) × (p ≡ w) → (y ≡ v) × (q ≡ w) → (x ≡ y) × (p ≡ q)
two-values x y v p q w a b = (a.0 ∙ sym b.0, a.1 ∙ sym b.1)

three-values : {A B C : Type 0} (x y v : A) (p q w : B) (s t u : C) → (x ≡ v) × (p ≡ w) × (s ≡ u)
    → (y ≡ v) × (q ≡ w) × (t ≡ u) → (x ≡ y) × (p ≡ q) × (s ≡ t)
three-values x y v p q w s t u a b = (a.0 ∙ sym b.0, a.1 ∙ sym b.1, a.2 ∙ sym b.2)

-- ---- associations

opens-into : (hosts : List HostId) (has_keys : Bool)
    → IsDeterminedWithMemory (fabrics.OpensInto hosts has_keys)
opens-into hosts has_keys one two None other p q a b = absurd (p a)
opens-into hosts has_keys one two (Some f) None p q a b = absurd (q b)
opens-into hosts has_keys one two (Some f) (Some g) p q a b =
    (a.0 ∙ sym b.0, ap (λ (x : Fabrics). Some x) (a.1 ∙ sym b.1))

opens : (hosts : List HostId) (has_keys : Bool) (old : Option Fabrics)
    → IsDeterminedWithMemory (fabrics.Opens hosts has_keys old)
opens hosts has_keys (Some f) one two new other p q a b = two-values one two _ new other _ a b
opens hosts has_keys None one two new other p q a b = opens-into hosts has_keys one two new other p q a b

too-many : (old : Option Fabrics) → IsDetermined (fabrics.IsTooMany old)
too-many (Some f) one two new other a b = two-values one two _ new other _ a b
too-many None one two new other a b = two-values one two _ new other _ a b

connects : (s : _) (e d : List ℕ) (j : _) (old : Option Fabrics)
    → IsDeterminedOnSession (fabrics.Connects s e d j old)
connects s e d j None one two new_s other_s new other a b =
    three-values one two _ new_s other_s _ new other _ a b
connects s e d j (Some f) one two new_s other_s new other a b =
    three-values one two _ new_s other_s _ new other _ a b

authenticates : (s : _) (is_enabled : Bool) (created : _) (old : Option Fabrics)
    → IsDeterminedOnSession (fabrics.Authenticates s is_enabled created old)
authenticates s is_enabled created None one two new_s other_s new other a b =
    three-values one two _ new_s other_s _ new other _ a b
authenticates s is_enabled created (Some f) one two new_s other_s new other a b =
    three-values one two _ new_s other_s _ new other _ a b

executes : (s : _) (e : List ℕ) (old : Option Fabrics) → IsDeterminedOnSession (fabrics.Executes s e old)
executes s e None one two new_s other_s new other a b = three-values one two _ new_s other_s _ new other _ a b
executes s e (Some f) one two new_s other_s new other a b = three-values one two _ new_s other_s _ new other _ a b

closes : (s : _) (old : Option Fabrics) → IsDeterminedOnSession (fabrics.Closes s old)
closes s None one two new_s other_s new other a b = three-values one two _ new_s other_s _ new other _ a b
closes s (Some f) one two new_s other_s new other a b = three-values one two _ new_s other_s _ new other _ a b

ends : (index : ℕ) (old : Option Fabrics) → IsDetermined (fabrics.Ends index old)
ends index None one two new other a b = two-values one two _ new other _ a b
ends index (Some f) one two new other a b = two-values one two _ new other _ a b

pub fabrics_are_determined : FabricsAreDetermined
fabrics_are_determined = record {
  opening = opens;
  refusing = too-many;
  connecting = connects;
  authenticating = authenticates;
  executing = executes;
  closing = closes;
  ending = ends;
}

-- ---- commands whose data a host sends

transfers-open-into : IsDeterminedWithMemory transfers.OpensInto
transfers-open-into one two None other p q a b = absurd (p a)
transfers-open-into one two (Some s) None p q a b = absurd (q b)
transfers-open-into one two (Some s) (Some t) p q a b =
    (a.0 ∙ sym b.0, ap (λ (x : Transfers). Some x) (a.1 ∙ sym b.1))

transfers-open : (old : Option Transfers) → IsDeterminedWithMemory (transfers.Opens old)
transfers-open (Some s) one two new other p q a b = two-values one two _ new other _ a b
transfers-open None one two new other p q a b = transfers-open-into one two new other p q a b

transfers-end : (old : Option Transfers) → IsDetermined (transfers.Ends old)
transfers-end None one two new other a b = two-values one two _ new other _ a b
transfers-end (Some s) one two new other a b = two-values one two _ new other _ a b

begins : (e : List ℕ) (bytes : ℕ) (old : Option Transfers) → IsDetermined (transfers.Begins e bytes old)
begins e bytes None one two new other a b = two-values one two _ new other _ a b
begins e bytes (Some s) one two new other a b = two-values one two _ new other _ a b

asks : (old : Option Transfers) → IsDetermined (transfers.Asks old)
asks None one two new other a b = two-values one two _ new other _ a b
asks (Some s) one two new other a b = two-values one two _ new other _ a b

takes : (p : _) (old : Option Transfers) → IsDetermined (transfers.Takes p old)
takes p None one two new other a b = two-values one two _ new other _ a b
takes p (Some s) one two new other a b = two-values one two _ new other _ a b

stores : StoringIsDetermined
stores p bytes room None one two new_room other_room new other a b =
    three-values one two _ new_room other_room _ new other _ a b
stores p bytes room (Some s) one two new_room other_room new other a b =
    three-values one two _ new_room other_room _ new other _ a b

pub transfers_are_determined : TransfersAreDetermined
transfers_are_determined = record {
  opening = transfers-open;
  ending = transfers-end;
  beginning = begins;
  asking = asks;
  taking = takes;
  storing = stores;
}

-- ---- capsules

pub capsules_are_determined : CapsulesAreDetermined
capsules_are_determined s c responses None one two left other_left new other a b =
    (a.0 ∙ sym b.0, ap seen (a.1 ∙ sym b.1), a.2 ∙ sym b.2)
capsules_are_determined s c responses (Some x) one two left other_left new other a b =
    three-values one two _ (seen left) (seen other_left) _ new other _ a b

-- ---- bytes

count-of : (t : Bytes) (breach : Option Fatal) → (taken_by t breach).count ≡ t.count
count-of t None = refl
count-of t (Some fatal) = refl

-- the code, field and status of a breach don't depend on the bytes
what-of : (t u : Bytes) (breach : Option Fatal) → (taken_by t breach).what ≡ (taken_by u breach).what
what-of t u None = refl
what-of t u (Some fatal) = refl

field-of : (t u : Bytes) (breach : Option Fatal) → (taken_by t breach).field ≡ (taken_by u breach).field
field-of t u None = refl
field-of t u (Some fatal) = refl

status-of : (t u : Bytes) (breach : Option Fatal) → (taken_by t breach).status ≡ (taken_by u breach).status
status-of t u None = refl
status-of t u (Some fatal) = refl

one-breach : (c : Connection) (a b : Option Fatal) → breach_of c a ≡ breach_of c b → a ≡ b
one-breach c None None e = refl
one-breach c None (Some g) e = absurd (cc (e))
one-breach c (Some f) None e = absurd (cc (e))
one-breach c (Some f) (Some g) e = ap (λ (x : Fatal). Some x) (cc (e))

pub takings_are_determined : TakingsAreDetermined
takings_are_determined c bytes one two new other p q =
    let t = p.taken in let u = q.taken in
    let breach : t.breach ≡ u.breach =
    one-breach (after_bytes c bytes) t.breach u.breach (sym p.takes.breach ∙ q.takes.breach) in
    record {
      count = ap (λ (x : Taken). x.count) p.seen ∙ (count-of t t.breach ∙ (p.takes.count ∙ (sym q.takes.count
          ∙ (sym (count-of u u.breach) ∙ sym (ap (λ (x : Taken). x.count) q.seen)))));
      what = ap (λ (x : Taken). x.what) p.seen ∙ (ap (λ b. (taken_by t b).what) breach
          ∙ (what-of t u u.breach ∙ sym (ap (λ (x : Taken). x.what) q.seen)));
      field = ap (λ (x : Taken). x.field) p.seen ∙ (ap (λ b. (taken_by t b).field) breach
          ∙ (field-of t u u.breach ∙ sym (ap (λ (x : Taken). x.field) q.seen)));
      status = ap (λ (x : Taken). x.status) p.seen ∙ (ap (λ b. (taken_by t b).status) breach
          ∙ (status-of t u u.breach ∙ sym (ap (λ (x : Taken). x.status) q.seen)));
    }
