-- For `laws.rt`: bytes are read PDU by PDU.
use Rattle.std.proofs.Common.{
  ◌≡◌,
  ℕ,
  zero,
  suc,
  ◌+◌,
  ◌-◌,
  ◌≤◌,
  ◌<◌,
  Bool,
  true,
  false,
  List,
  [],
  ◌∷◌,
  ◌++◌,
  length,
  take,
  drop,
  Some,
  Result,
  Ok,
  Err,
  inl,
  inr,
  refl,
  sym,
  ap,
  ◌∙◌,
  subst,
  arith,
}
use Rattle.std.specs.Prelude.{◌⊎◌, ◌==◌, if◌then◌else◌, not, option_to_list}
use Rattle.std.proofs.lemmas.Bool.{le-ltb}
use Rattle.std.proofs.lemmas.List.{
  append-nil,
  drop_all,
  length-append,
  length-drop,
  length-take-le,
  take_all,
  take-append-drop,
  take-append-le,
}
use Rattle.nvme_pdu.specs.declared.agreed.Agreed.{Agreed}
use Rattle.nvme_pdu.specs.declared.fatal.Fatal.{Fatal}
use Rattle.nvme_pdu.specs.declared.fields.HostData.{HostData}
use Rattle.nvme_pdu.specs.declared.kind.Kind.{Kind}
use Rattle.nvme_pdu.specs.declared.kind.Kind.TheVariants.{
  IcReq,
  H2cTermReq,
  H2cData,
  CapsuleCmd,
  IcResp,
  C2hTermReq,
  CapsuleResp,
  C2hData,
  R2t,
}
use Rattle.nvme_pdu.specs.declared.layout.PduLayout.{PduLayout}
use Rattle.nvme_pdu.specs.Agreeing.{agreed_of}
use Rattle.nvme_pdu.specs.Fields.{host_data}
use Rattle.nvme_pdu.specs.Layouts.{layout_of}
use Rattle.nvme_pdu.specs.Wholes.{Parts, whole_of}
use Rattle.nvme_pdu.proofs.Wholes.{pdus_come_apart}
use Rattle.nvme_connection.specs.declared.judged.Judged.{Judged}
use Rattle.nvme_connection.specs.declared.stage.Stage.{Stage}
use Rattle.nvme_connection.specs.declared.stage.Stage.TheVariants.{Taking, Whole, Complete, Ended}
use Rattle.nvme_connection.specs.Connections.{
  Connection,
  Outcome,
  Completes,
  Breaks,
  Step,
  addressed,
  after,
  after_in,
  at_stage,
  broken,
  complete,
  completed,
  granted,
  is_in_turn,
  is_right,
  judged,
  judged_by,
  out_of_sequence,
  quiet,
  reached,
  wrong_header_digest,
}
use Rattle.nvme_connection.specs.Streams.{Judge, after_bytes, after_stream, outcomes, settled, settling, stream, taken}
use Rattle.nvme_connection.specs.Holding.{IsLaid, settled_by}
use Rattle.nvme_connection.specs.Laws.{
  CommandsKeepTheirBytes,
  IsBegun,
  IsBetween,
  IsFault,
  IsJudged,
  IsShort,
  IsUnit,
  Reads,
  ReadingsAreOne,
  StreamsAreRead,
}
use Rattle.nvme_connection.proofs.Data.{lt-or-le}
use Rattle.nvme_connection.proofs.Facts.{facts}
use Rattle.nvme_connection.proofs.Gathering.{
  AtOnce,
  after-append,
  at-fault,
  gathered-from,
  going-on,
  out-of-turn,
  outcomes-append,
  quiet-short,
  reached-at,
  reached-laid,
  rest-at-once,
  taken-append,
}
use Rattle.nvme_connection.proofs.Kept.{get-take}
use Rattle.nvme_connection.proofs.Streams.{calls, ends, stream-append}

-- ---- the first byte of a PDU

abbrev fresh : Connection → Connection
fresh c = at_stage Taking c []

stream-fresh-in : (right : Judge) (c : Connection) (s : Stage) (bytes : List ℕ) → c.stage ≡ s → IsBetween s c.unit
    → (s ≡ Ended → ⊥) → stream right c bytes ≡ stream right (fresh c) bytes
stream-fresh-in right c Ended bytes e between on = absurd (on refl)
stream-fresh-in right c Whole bytes e between on = absurd between
stream-fresh-in right c Taking bytes e between on =
    let same : c ≡ fresh c = λ i. record { stage = e i; is_open = c.is_open; agreed = c.agreed; unit = between i } in
    ap (λ d. stream right d bytes) same
stream-fresh-in right c Complete [] e between on = refl
stream-fresh-in right c Complete (b ∷ bs) e between on =
    let one : after c b ≡ after (fresh c) b = ap (λ (s : Stage). after_in s c b) e
    ∙ sym (reached-at Taking c [] (b ∷ [])) in
    ap (λ (s : Step). (option_to_list s.1 ++ settling right s.0) ++ stream right (settled right s.0) bs) one

stream-fresh : (right : Judge) (c : Connection) (bytes : List ℕ) → IsBetween c.stage c.unit → (c.stage ≡ Ended → ⊥)
    → stream right c bytes ≡ stream right (fresh c) bytes
stream-fresh right c bytes between on = stream-fresh-in right c c.stage bytes refl between on

-- ---- parts that are taken at once

at-then : (c d : Connection) (xs ys : List ℕ) (step : Step) → AtOnce c xs (quiet d) → AtOnce d ys step
    → AtOnce c (xs ++ ys) step
at-then c d xs ys step p q = record {
  next = after-append c xs ys ∙ ap (λ x. after_bytes x ys) p.next ∙ q.next;
  told = outcomes-append c xs ys ∙ ap (λ os. os ++ outcomes (after_bytes c xs) ys) p.told
      ∙ ap (λ x. outcomes x ys) p.next ∙ q.told;
  all = taken-append c xs ys p.all ∙ ap (λ x. length xs + taken x ys) p.next ∙ ap (λ n. length xs + n) q.all
      ∙ sym (length-append xs ys);
}

record Segment (right : Judge) (c : Connection) (xs : List ℕ) (step : Step) : Type 0 where
  pub same : stream right c xs ≡ option_to_list step.1 ++ settling right step.0
  pub after : after_stream right c xs ≡ settled right step.0

segment : (right : Judge) (c : Connection) (xs : List ℕ) (step : Step) → IsJudged c.stage → AtOnce c xs step
    → Segment right c xs step
segment right c xs step j p =
    let call = calls right c xs j in
    let rest : drop (taken c xs) xs ≡ [] = drop_all (taken c xs) xs (omega (arith, p.all)) in
    record {
      same = call.same
          ∙ ap (λ ys. outcomes c xs ++ (settling right (after_bytes c xs)
          ++ stream right (settled right (after_bytes c xs)) ys)) rest
          ∙ ap (λ os. outcomes c xs ++ os) (append-nil _)
          ∙ ap (λ os. os ++ settling right (after_bytes c xs)) p.told
          ∙ ap (λ d. option_to_list step.1 ++ settling right d) p.next;
      after = call.after ∙ ap (λ ys. after_stream right (settled right (after_bytes c xs)) ys) rest
          ∙ ap (settled right) p.next;
    }

-- up to eight bytes
head-at-once : (c : Connection) (head : List ℕ) → length head ≤ 8 → AtOnce (fresh c) head (reached c head)
head-at-once c [] few =
    subst (AtOnce (fresh c) []) (sym (quiet-short c [] (omega arith))) (record { next = refl; told = refl; all = refl })
head-at-once c (b ∷ bs) few =
    subst (AtOnce (fresh c) (b ∷ bs)) (reached-at Taking c [] (b ∷ bs))
    (gathered-from (fresh c) 8 refl (λ xs less. quiet-short (fresh c) xs (omega (arith, less))) b bs (omega
    (arith, few)))

turn-of : (c : Connection) (xs : List ℕ) → is_in_turn c (take 8 xs) ≡ is_in_turn c xs
turn-of c xs = ap (λ (n : ℕ). if c.is_open then not (n == 0) else n == 0) (get-take 8 xs (omega arith))

begun-at-once : (c : Connection) (xs : List ℕ) (l : PduLayout) → layout_of c.agreed (take 8 xs) ≡ Ok l
    → is_in_turn c xs ≡ true → 8 ≤ length xs → length xs ≤ l.length
    → AtOnce (fresh c) xs (quiet (settled_by (at_stage Taking c xs) l))
begun-at-once c xs l is turn long fits =
    let head = take 8 xs in
    let tail = drop 8 xs in
    let eight : length head ≡ 8 = length-take-le 8 xs long in
    let rest : length tail ≡ length xs - 8 = length-drop 8 xs in
    let far = (facts c.agreed head l is).long in
    let laid : IsLaid (at_stage Taking c head) l = record {
      is = ap (layout_of c.agreed) (take_all 8 head (omega (arith, eight))) ∙ is;
      in_turn = turn-of c xs ∙ turn;
      common = omega (arith, eight);
      within = omega (arith, eight, far);
    } in
    let less : length head < l.length = omega (arith, eight, far) in
    let first : AtOnce (fresh c) head (quiet (at_stage Taking c head)) =
    subst (AtOnce (fresh c) head) (sym (reached-at Taking c head head)
    ∙ reached-laid (at_stage Taking c head) l laid ∙ ap quiet (going-on (at_stage Taking c head) l less))
    (head-at-once c head (omega (arith, eight))) in
    let second : AtOnce (at_stage Taking c head) tail (quiet (settled_by (at_stage Taking c (head ++ tail)) l)) =
    rest-at-once (at_stage Taking c head) l tail refl laid less (omega (arith, eight, rest, fits, long)) in
    subst (λ ys. AtOnce (fresh c) ys (quiet (settled_by (at_stage Taking c ys) l))) (take-append-drop 8 xs)
    (at-then (fresh c) (at_stage Taking c head) head tail (quiet (settled_by (at_stage Taking c (head
    ++ tail)) l)) first second)

-- ---- what comes first

short-stream : (right : Judge) (c : Connection) (bytes : List ℕ) → IsBetween c.stage c.unit → (c.stage ≡ Ended → ⊥)
    → length bytes < 8 → stream right c bytes ≡ []
short-stream right c bytes between on few =
    let once = subst (AtOnce (fresh c) bytes) (quiet-short c bytes few) (head-at-once c bytes (omega (arith, few))) in
    stream-fresh right c bytes between on ∙ (segment right (fresh c) bytes (quiet
    (at_stage Taking c bytes)) tt once).same

begun-stream : (right : Judge) (c : Connection) (bytes : List ℕ) → IsBetween c.stage c.unit → (c.stage ≡ Ended → ⊥)
    → IsBegun c bytes → stream right c bytes ≡ []
begun-stream right c bytes between on b =
    let once = subst (λ d. AtOnce (fresh c) bytes (quiet d)) (going-on (at_stage Taking c bytes) b.layout b.short)
    (begun-at-once c bytes b.layout b.is b.in_turn b.common (omega (arith, b.short))) in
    stream-fresh right c bytes between on ∙ (segment right (fresh c) bytes (quiet
    (at_stage Taking c bytes)) tt once).same

pub whole-stream : (right : Judge) (c : Connection) (unit rest : List ℕ) (l : PduLayout) → IsBetween c.stage c.unit
    → (c.stage ≡ Ended → ⊥) → IsUnit c unit l
    → stream right c (unit ++ rest) ≡ settling right (at_stage Whole c unit)
    ++ stream right (settled right (at_stage Whole c unit)) rest
whole-stream right c unit rest l between on u =
    let end : settled_by (at_stage Taking c unit) l
    ≡ at_stage Whole c unit = rw (le-ltb (length unit) l.length (omega (arith, u.whole))) refl in
    let once = subst (λ d. AtOnce (fresh c) unit (quiet d)) end (begun-at-once c unit l u.is u.in_turn u.common
    (omega (arith, u.whole))) in
    let s = segment right (fresh c) unit (quiet (at_stage Whole c unit)) tt once in
    stream-fresh right c (unit ++ rest) between on
    ∙ stream-append right (fresh c) unit rest
    ∙ ap (λ os. os ++ stream right (after_stream right (fresh c) unit) rest) s.same
    ∙ ap (λ d. settling right (at_stage Whole c unit) ++ stream right d rest) s.after

fault-reached : (c : Connection) (head : List ℕ) (fatal : Fatal) → length head ≡ 8 → IsFault c head fatal
    → reached c head ≡ broken c head fatal
fault-reached c head fatal eight (inl p) =
    sym (reached-at Taking c head head) ∙ out-of-turn (at_stage Taking c head) (omega (arith, eight)) p.0
    ∙ ap (broken c head) (sym p.1)
fault-reached c head fatal eight (inr p) =
    sym (reached-at Taking c head head)
    ∙ at-fault (at_stage Taking c head) fatal (omega (arith, eight)) p.0 (ap (layout_of c.agreed) (take_all 8 head
    (omega (arith, eight))) ∙ p.1)

pub fault-stream : (right : Judge) (c : Connection) (head rest : List ℕ) (fatal : Fatal) → IsBetween c.stage c.unit
    → (c.stage ≡ Ended → ⊥) → length head ≡ 8 → IsFault c head fatal
    → stream right c (head ++ rest) ≡ Breaks fatal head ∷ []
fault-stream right c head rest fatal between on eight fault =
    let once = subst (AtOnce (fresh c) head) (fault-reached c head fatal eight fault) (head-at-once c head (omega
    (arith, eight))) in
    let s = segment right (fresh c) head (broken c head fatal) tt once in
    let over : (after_stream right (fresh c) head).stage ≡ Ended = ap (λ (d : Connection). d.stage) s.after in
    stream-fresh right c (head ++ rest) between on
    ∙ stream-append right (fresh c) head rest
    ∙ ap (λ os. stream right (fresh c) head ++ os) (ends right (after_stream right (fresh c) head) rest over).nothing
    ∙ append-nil _ ∙ s.same
    ∙ ap (λ xs. Breaks fatal xs ∷ []) (take_all 128 head (omega (arith, eight)))

-- ---- each whole PDU comes to something

pub record Decides (s : Step) : Type 0 where
  pub outcome : Outcome
  pub told : s.1 ≡ Some outcome
  pub between : IsBetween s.0.stage s.0.unit

decides-if : (t : Bool) (x y : Step) → Decides x → Decides y → Decides (if t then x else y)
decides-if true x y p q = p
decides-if false x y p q = q

granted-decides : (c : Connection) (l : PduLayout) (b : Bool) (r : Result Agreed Fatal) → Decides (granted c l b r)
granted-decides c l b (Ok a) = record { outcome = _; told = refl; between = tt }
granted-decides c l b (Err f) = record { outcome = _; told = refl; between = tt }

addressed-decides : (c : Connection) (l : PduLayout) (b : Bool) (r : Result HostData Fatal)
    → Decides (addressed c l b r)
addressed-decides c l b (Ok a) = record { outcome = _; told = refl; between = tt }
addressed-decides c l b (Err f) = record { outcome = _; told = refl; between = tt }

completed-decides : (k : Kind) (c : Connection) (l : PduLayout) (b : Bool) → Decides (completed k c l b)
completed-decides IcReq c l b = granted-decides c l b (agreed_of (take 128 c.unit))
completed-decides H2cData c l b = addressed-decides c l b (host_data (take 24 c.unit) l.data_length)
completed-decides H2cTermReq c l b = record { outcome = _; told = refl; between = tt }
completed-decides CapsuleCmd c l b = record { outcome = _; told = refl; between = tt }
completed-decides IcResp c l b = record { outcome = _; told = refl; between = tt }
completed-decides C2hTermReq c l b = record { outcome = _; told = refl; between = tt }
completed-decides CapsuleResp c l b = record { outcome = _; told = refl; between = tt }
completed-decides C2hData c l b = record { outcome = _; told = refl; between = tt }
completed-decides R2t c l b = record { outcome = _; told = refl; between = tt }

pub judged-decides : (c : Connection) (unit : List ℕ) (l : PduLayout) (j : Judged)
    → layout_of c.agreed (take 8 unit) ≡ Ok l → Decides (judged (at_stage Whole c unit) j)
judged-decides c unit l j is =
    subst Decides (sym (ap (judged_by (at_stage Whole c unit) j) is))
    (decides-if (is_right l.header_digest j.header) _ (broken (at_stage Whole c unit) unit wrong_header_digest)
    (completed-decides l.kind (at_stage Whole c unit) l (is_right l.data_digest j.«data»))
    (record { outcome = _; told = refl; between = tt }))

-- ---- one reading

abbrev OnlyEnded : Stage → Type 0
OnlyEnded Ended = Unit {0}
OnlyEnded other = ⊥

ended-or-on : (s : Stage) → (s ≡ Ended) ⊎ (s ≡ Ended → ⊥)
ended-or-on Ended = inl refl
ended-or-on Taking = inr (λ e. subst OnlyEnded (sym e) tt)
ended-or-on Complete = inr (λ e. subst OnlyEnded (sym e) tt)
ended-or-on Whole = inr (λ e. subst OnlyEnded (sym e) tt)

bool-or : (t : Bool) → (t ≡ true) ⊎ (t ≡ false)
bool-or true = inl refl
bool-or false = inr refl

record Laid (r : Result PduLayout Fatal) : Type 0 where
  pub layout : PduLayout
  pub is : r ≡ Ok layout

record Refused (r : Result PduLayout Fatal) : Type 0 where
  pub fatal : Fatal
  pub is : r ≡ Err fatal

result-or : (r : Result PduLayout Fatal) → Laid r ⊎ Refused r
result-or (Ok l) = inl (record { layout = l; is = refl })
result-or (Err f) = inr (record { fatal = f; is = refl })

reads-as : (right : Judge) (c : Connection) (bytes : List ℕ) (os : List Outcome) → stream right c bytes ≡ os
    → Reads right os c bytes → Reads right (stream right c bytes) c bytes
reads-as right c bytes os e p = subst (λ xs. Reads right xs c bytes) (sym e) p

reads-fault : (right : Judge) (c : Connection) (bytes : List ℕ) (fatal : Fatal) → IsBetween c.stage c.unit
    → (c.stage ≡ Ended → ⊥) → 8 ≤ length bytes → IsFault c (take 8 bytes) fatal
    → Reads right (stream right c bytes) c bytes
reads-fault right c bytes fatal between on long fault =
    let eight : length (take 8 bytes) ≡ 8 = length-take-le 8 bytes long in
    let parts : bytes ≡ take 8 bytes ++ drop 8 bytes = sym (take-append-drop 8 bytes) in
    reads-as right c bytes (Breaks fatal (take 8 bytes) ∷ [])
    (ap (stream right c) parts ∙ fault-stream right c (take 8 bytes) (drop 8 bytes) fatal between on eight fault)
    (inr (record {
      head = take 8 bytes;
      rest = drop 8 bytes;
      fatal = fatal;
      on = on;
      parts = parts;
      eight = eight;
      fault = fault;
      told = refl;
      last = refl;
    }))

reads-whole : (right : Judge) (c : Connection) (unit rest : List ℕ) (l : PduLayout) → IsBetween c.stage c.unit
    → (c.stage ≡ Ended → ⊥) → IsUnit c unit l
    → Reads right (stream right (settled right (at_stage Whole c unit)) rest) (settled right
    (at_stage Whole c unit)) rest
    → Reads right (stream right c (unit ++ rest)) c (unit ++ rest)
reads-whole right c unit rest l between on u others =
    let d = judged-decides c unit l (right unit) u.is in
    reads-as right c (unit ++ rest) (d.outcome ∷ stream right (settled right (at_stage Whole c unit)) rest)
    (whole-stream right c unit rest l between on u
    ∙ ap (λ o. option_to_list o ++ stream right (settled right (at_stage Whole c unit)) rest) d.told)
    (inl (record { unit = unit; rest = rest; layout = l; on = on; parts = refl; is = u; told = d.told; next = others }))

-- the rest of the bytes, of which there are fewer
abbrev Others : Judge → ℕ → Type 0
Others right n = (c : Connection) (bytes : List ℕ) → length bytes ≤ n → IsBetween c.stage c.unit
    → Reads right (stream right c bytes) c bytes

read-laid : (right : Judge) (n : ℕ) (c : Connection) (bytes : List ℕ) (l : PduLayout) → Others right n
    → length bytes ≤ suc n → IsBetween c.stage c.unit → (c.stage ≡ Ended → ⊥)
    → 8 ≤ length bytes → is_in_turn c bytes ≡ true → layout_of c.agreed (take 8 bytes) ≡ Ok l
    → Reads right (stream right c bytes) c bytes
read-laid right n c bytes l others fits between on long turn is = by (lt-or-le (length bytes) l.length)
  where
    by : (length bytes < l.length) ⊎ (l.length ≤ length bytes) → Reads right (stream right c bytes) c bytes
    by (inl short) =
        let b : IsBegun c bytes = record { layout = l; is = is; in_turn = turn; common = long; short = short } in
        reads-as right c bytes [] (begun-stream right c bytes between on b) (inr (inr b))
    by (inr all) =
        let unit = take l.length bytes in
        let rest = drop l.length bytes in
        let far = (facts c.agreed (take 8 bytes) l is).long in
        let size : length unit ≡ l.length = length-take-le l.length bytes all in
        let parts : unit ++ rest ≡ bytes = take-append-drop l.length bytes in
        let head : take 8 unit ≡ take 8 bytes = sym (take-append-le 8 unit rest (omega (arith, size, far)))
        ∙ ap (take 8) parts in
        let u : IsUnit c unit l = record {
          is = ap (layout_of c.agreed) head ∙ is;
          in_turn = sym (turn-of c unit) ∙ ap (is_in_turn c) head ∙ turn-of c bytes ∙ turn;
          common = omega (arith, size, far);
          whole = size;
        } in
        let d = judged-decides c unit l (right unit) u.is in
        let next = others (settled right (at_stage Whole c unit)) rest (omega
        (arith, length-drop l.length bytes, fits, far)) d.between in
        subst (λ xs. Reads right (stream right c xs) c xs) parts (reads-whole right c unit rest l between on u next)

read-long : (right : Judge) (n : ℕ) (c : Connection) (bytes : List ℕ) → Others right n → length bytes ≤ suc n
    → IsBetween c.stage c.unit → (c.stage ≡ Ended → ⊥)
    → 8 ≤ length bytes → Reads right (stream right c bytes) c bytes
read-long right n c bytes others fits between on long = by (bool-or (is_in_turn c bytes)) (result-or
    (layout_of c.agreed (take 8 bytes)))
  where
    by : (is_in_turn c bytes ≡ true) ⊎ (is_in_turn c bytes ≡ false)
        → Laid (layout_of c.agreed (take 8 bytes)) ⊎ Refused (layout_of c.agreed (take 8 bytes))
        → Reads right (stream right c bytes) c bytes
    by (inr late) r = reads-fault right c bytes out_of_sequence between on long (inl (turn-of c bytes ∙ late, refl))
    by (inl turn) (inr r) = reads-fault right c bytes r.fatal between on long (inr (turn-of c bytes ∙ turn, r.is))
    by (inl turn) (inl r) = read-laid right n c bytes r.layout others fits between on long turn r.is

read-short : (right : Judge) (c : Connection) (bytes : List ℕ) → IsBetween c.stage c.unit → (c.stage ≡ Ended → ⊥)
    → length bytes < 8 → Reads right (stream right c bytes) c bytes
read-short right c bytes between on few = reads-as right c bytes [] (short-stream right c bytes between on few) (inr
    (inl few))

read-ended : (right : Judge) (c : Connection) (bytes : List ℕ) → c.stage ≡ Ended
    → Reads right (stream right c bytes) c bytes
read-ended right c bytes e = reads-as right c bytes [] (ends right c bytes e).nothing (inl e)

-- with fuel for n bytes
read : (right : Judge) (n : ℕ) → Others right n
read right zero c bytes fits between = by (ended-or-on c.stage)
  where
    by : (c.stage ≡ Ended) ⊎ (c.stage ≡ Ended → ⊥) → Reads right (stream right c bytes) c bytes
    by (inl e) = read-ended right c bytes e
    by (inr on) = read-short right c bytes between on (omega (arith, fits))
read right (suc n) c bytes fits between = by (ended-or-on c.stage) (lt-or-le (length bytes) 8) (read right n)
  where
    by : (c.stage ≡ Ended) ⊎ (c.stage ≡ Ended → ⊥) → (length bytes < 8) ⊎ (8 ≤ length bytes) → Others right n
        → Reads right (stream right c bytes) c bytes
    by (inl e) size others = read-ended right c bytes e
    by (inr on) (inl few) others = read-short right c bytes between on few
    by (inr on) (inr long) others = read-long right n c bytes others fits between on long

pub streams_are_read : StreamsAreRead
streams_are_read right c bytes between = read right (length bytes) c bytes (omega arith) between

short-is : (right : Judge) (c : Connection) (bytes : List ℕ) → IsBetween c.stage c.unit → IsShort c bytes
    → (c.stage ≡ Ended) ⊎ (c.stage ≡ Ended → ⊥) → [] ≡ stream right c bytes
short-is right c bytes between s (inl e) = sym (ends right c bytes e).nothing
short-is right c bytes between (inl e) (inr on) = absurd (on e)
short-is right c bytes between (inr (inl few)) (inr on) = sym (short-stream right c bytes between on few)
short-is right c bytes between (inr (inr b)) (inr on) = sym (begun-stream right c bytes between on b)

pub readings_are_one : ReadingsAreOne
readings_are_one right [] c bytes between reads = short-is right c bytes between reads (ended-or-on c.stage)
readings_are_one right (o ∷ os) c bytes between (inl t) =
    let d = judged-decides c t.unit t.layout (right t.unit) t.is.is in
    let others = readings_are_one right os (settled right (at_stage Whole c t.unit)) t.rest d.between t.next in
    sym (ap (stream right c) t.parts
    ∙ whole-stream right c t.unit t.rest t.layout between t.on t.is
    ∙ ap (λ x. option_to_list x ++ stream right (settled right (at_stage Whole c t.unit)) t.rest) t.told
    ∙ ap (λ xs. o ∷ xs) (sym others))
readings_are_one right (o ∷ os) c bytes between (inr r) =
    ap (λ xs. o ∷ xs) r.last ∙ ap (λ x. x ∷ []) r.told
    ∙ sym (fault-stream right c r.head r.rest r.fatal between r.on r.eight r.fault) ∙ ap (stream right c) (sym r.parts)

-- ---- own bytes

capsule-judged : (w : Connection) (l : PduLayout) (j : Judged) → layout_of w.agreed (take 8 w.unit) ≡ Ok l
    → l.kind ≡ CapsuleCmd → is_right l.header_digest j.header ≡ true
    → judged_by w j (layout_of w.agreed (take 8 w.unit)) ≡ complete w l (is_right l.data_digest j.«data»)
capsule-judged w l j is kind right =
    ap (judged_by w j) is
    ∙ ap (λ (t : Bool). if t then completed l.kind w l
    (is_right l.data_digest j.«data») else broken w w.unit wrong_header_digest) right
    ∙ ap (λ (k : Kind). completed k w l (is_right l.data_digest j.«data»)) kind

pub commands_keep_their_bytes : CommandsKeepTheirBytes
commands_keep_their_bytes right c l p rest between on fit u kind good =
    let unit = whole_of l p in
    let made = capsule-judged (at_stage Whole c unit) l (right unit) u.is kind good in
    whole-stream right c unit rest l between on u
    ∙ ap (λ (s : Step). option_to_list s.1 ++ stream right s.0 rest) made
    ∙ ap (λ (q : Parts). Completes (record {
      layout = l;
      parts = q;
      is_sound = is_right l.data_digest
          (right unit).«data»;
    }) ∷ stream right (at_stage Complete c unit) rest)
    (pdus_come_apart l p fit).parts
