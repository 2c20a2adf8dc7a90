-- For the answer of `put_told`: the line of an answer is short.
use Rattle.std.proofs.Common.{
  ◌≡◌,
  ℕ,
  ◌+◌,
  ◌<◌,
  ◌≤◌,
  ◌-◌,
  ◌/◌,
  ◌%◌,
  Bool,
  true,
  false,
  nat_lt,
  List,
  [],
  ◌∷◌,
  ◌++◌,
  length,
  refl,
  ap,
  ◌∙◌,
  arith,
}
use Rattle.std.specs.Prelude.{◌^◌, codes, decimal}
use Rattle.std.specs.Fmt.{digits, digit_glyph, padded_integral, format_spec}
use Rattle.std.proofs.lemmas.Bool.{false≢true, ltb-true, ltb-false}
use Rattle.std.proofs.lemmas.Fmt.{length-decimal-le, hex_one_digit, hex_two_digits, hex_byte}
use Rattle.std.proofs.lemmas.List.{length-append}
use Rattle.nvme_wire.specs.StatusNames.{status_text}
use Rattle.nvme_wire.specs.declared.status.Status.{Status}
use Rattle.nvme_machine.specs.declared.bare.BareOutcome.{BareOutcome}
use Rattle.nvme_machine.specs.declared.bare.BareExecuted.TheVariants.{Posted, NoSuch, CqFull}
use Rattle.nvme_machine.specs.declared.seen.Fetched.TheVariants.{Took, Idle}
use Rattle.nvme_event.specs.Bare.{seen_of}
use Rattle.nvme_event.specs.Events.{controller_of}
use Rattle.nvme_event.specs.declared.bare.BareFleetSeen.{BareFleetSeen}
use Rattle.nvme_event.specs.declared.bare.BareFleetSeen.TheVariants as seen
use Rattle.nvme_event.specs.declared.event.FleetEvent.{FleetEvent}
use Rattle.nvme_event.specs.declared.event.FleetEvent.TheVariants as event
use Rattle.nvme_transcript.specs.Transcript.{controller_text, seen_line, subject_text}
use Rattle.library_text.specs.AnswerLines.{AreBytes, is_short, second_of}

kind-short : (n : ℕ) → n < 256 → length (digits 16 false n) ≤ 2
kind-short n byte = by (nat_lt n 16) refl
  where
    by : (b : Bool) → nat_lt n 16 ≡ b → length (digits 16 false n) ≤ 2
    by true e = rw (hex_one_digit false n (ltb-true n 16 e)) (omega arith)
    by false e = rw (hex_two_digits false n (ltb-false n 16 e) byte) (omega arith)

pub status-short : (s : Status) → s.sct < 256 → s.sc < 256 → length (status_text s) ≤ 5
status-short s kind code =
    let two = kind-short s.sct kind in
    let a = length-append (digits 16 false s.sct)
    (codes ":" ++ padded_integral (format_spec 32 0 4 2 (2 ^ 64 - 1)) false [] (digits 16 false s.sc)) in
    let c =
    length-append (codes ":") (padded_integral (format_spec 32 0 4 2 (2 ^ 64 - 1)) false [] (digits 16 false s.sc)) in
    let b : length (padded_integral (format_spec 32 0 4 2 (2 ^ 64 - 1)) false [] (digits 16 false s.sc)) ≡ 2 =
    ap length (hex_byte false s.sc code) in
    omega (arith, two, a, b, c)

pub controller-short : (e : FleetEvent) → controller_of e < 2 ^ 16 → length (controller_text e) ≤ 5
controller-short e narrow =
    length-decimal-le 5 (controller_of e) (omega arith) (omega (arith, narrow)) (omega (arith, narrow))

number-short : (n : ℕ) → n < 2 ^ 16 → length (decimal n) ≤ 26
number-short n narrow =
    let five = length-decimal-le 5 n (omega arith) (omega (arith, narrow)) (omega (arith, narrow)) in
    omega (arith, five)

pair-short : (m n : ℕ) → m < 2 ^ 16 → n < 2 ^ 64 → length (decimal m ++ codes " " ++ decimal n) ≤ 26
pair-short m n narrow wide =
    let five = length-decimal-le 5 m (omega arith) (omega (arith, narrow)) (omega (arith, narrow)) in
    let twenty = length-decimal-le 20 n (omega arith) (omega (arith, wide)) wide in
    let a = length-append (decimal m ++ codes " ") (decimal n) in
    let b = length-append (decimal m) (codes " ") in
    omega (arith, five, twenty, a, b)

pub subject-short : (e : FleetEvent) → controller_of e < 2 ^ 16 → second_of e < 2 ^ 64 → length (subject_text e) ≤ 26
subject-short (event.BringUp k) narrow wide = number-short k narrow
subject-short (event.Place k request) narrow wide = number-short k narrow
subject-short (event.Ring k) narrow wide = number-short k narrow
subject-short (event.Fetch k qid) narrow wide = pair-short k qid narrow wide
subject-short (event.Execute k i) narrow wide = pair-short k i narrow wide
subject-short (event.Poll k) narrow wide = number-short k narrow
subject-short (event.Reset k) narrow wide = number-short k narrow
subject-short (event.RawStore k address bytes) narrow wide = number-short k narrow
subject-short (event.RawWrite32 k offset value) narrow wide = number-short k narrow
subject-short event.PowerCycle narrow wide = number-short 0 narrow

three-short : (a b c : List ℕ) → length a ≤ 16 → length b ≤ 26 → length c ≤ 24
    → length ((a ++ b ++ codes " " ++ c) ++ 10 ∷ []) ≤ 96
three-short a b c one two three =
    let e = length-append (a ++ b ++ codes " " ++ c) (10 ∷ []) in
    let f = length-append (a ++ b ++ codes " ") c in
    let g = length-append (a ++ b) (codes " ") in
    let h = length-append a b in
    omega (arith, one, two, three, e, f, g, h)

two-short : (a b : List ℕ) → length a ≤ 16 → length b ≤ 5 → length ((a ++ b) ++ 10 ∷ []) ≤ 96
two-short a b one two =
    let e = length-append (a ++ b) (10 ∷ []) in
    let f = length-append a b in
    omega (arith, one, two, e, f)

posted-short : (o : BareOutcome) → (o.status.sct < 256) × (o.status.sc < 256) × (o.rule < 256)
    → length (codes "posted " ++ status_text o.status ++ codes " " ++ decimal o.rule) ≤ 24
posted-short o (kind, code, rule) =
    let five = status-short o.status kind code in
    let three = length-decimal-le 3 o.rule (omega arith) (omega (arith, rule)) (omega (arith, rule)) in
    let a = length-append (codes "posted " ++ status_text o.status ++ codes " ") (decimal o.rule) in
    let b = length-append (codes "posted " ++ status_text o.status) (codes " ") in
    let c = length-append (codes "posted ") (status_text o.status) in
    omega (arith, five, three, a, b, c)

pub told-short : (e : FleetEvent) (what : BareFleetSeen) → length (controller_text e) ≤ 5 → length (subject_text e) ≤ 26
    → AreBytes what → is_short what ≡ true
    → length (seen_line e (seen_of what) []) ≤ 96
told-short e (seen.Up up) k s fits short = absurd (false≢true short)
told-short e (seen.Placed placed) k s fits short = absurd (false≢true short)
told-short e (seen.Rung rung) k s fits short = absurd (false≢true short)
told-short e (seen.Fetched Took) k s fits short =
    three-short (codes "fetch ") (subject_text e) (codes "took") (omega arith) s (omega arith)
told-short e (seen.Fetched Idle) k s fits short =
    three-short (codes "fetch ") (subject_text e) (codes "idle") (omega arith) s (omega arith)
told-short e (seen.Executed (Posted o)) k s fits short =
    three-short (codes "execute ") (subject_text e)
    (codes "posted " ++ status_text o.status ++ codes " " ++ decimal o.rule) (omega arith) s (posted-short o fits)
told-short e (seen.Executed NoSuch) k s fits short =
    three-short (codes "execute ") (subject_text e) (codes "none") (omega arith) s (omega arith)
told-short e (seen.Executed CqFull) k s fits short =
    three-short (codes "execute ") (subject_text e) (codes "full") (omega arith) s (omega arith)
told-short e (seen.Polled polled) k s fits short = absurd (false≢true short)
told-short e seen.Reset k s fits short = absurd (false≢true short)
told-short e seen.Stored k s fits short = two-short (codes "stored ") (controller_text e) (omega arith) k
told-short e seen.Outside k s fits short = two-short (codes "outside ") (controller_text e) (omega arith) k
told-short e seen.Wrote k s fits short = two-short (codes "wrote32 ") (controller_text e) (omega arith) k
told-short e seen.Cycled k s fits short = omega arith
told-short e seen.NoController k s fits short = two-short (codes "nocontroller ") (controller_text e) (omega arith) k
told-short e seen.NoDriver k s fits short = absurd (false≢true short)
told-short e seen.NotRaw k s fits short = absurd (false≢true short)
