-- For the law `lines_are_read_back`: what the grammar parses from a text is a line that can be formatted.
use Rattle.std.proofs.Common.{
  ◌≡◌,
  ◌∙◌,
  ℕ,
  ◌^◌,
  ◌<◌,
  Bool,
  true,
  false,
  List,
  [],
  ◌∷◌,
  codes,
  Option,
  None,
  Some,
  refl,
  ap,
  subst,
}
use Rattle.std.specs.Prelude.{if◌then◌else◌, option_map, unwrap_or}
use Rattle.std.specs.Borrow.{Bor}
use Rattle.std.specs.Str.{bytes_eq}
use Rattle.script_text.specs.Data.{bytes_at, data_at}
use Rattle.script_text.specs.Numbers.{number_at}
use Rattle.script_text.specs.Words.{is_line_text, line_words}
use Rattle.nvme_driver.specs.declared.request.Request.{Request}
use Rattle.nvme_driver.specs.declared.request.Request.TheVariants as request
use Rattle.nvme_event.specs.declared.event.FleetEvent.{FleetEvent}
use Rattle.nvme_event.specs.declared.event.FleetEvent.TheVariants as event
use Rattle.nvme_grammar.specs.Arity.{◌>>=◌, one, two, three, four, five, zero_words}
use Rattle.nvme_grammar.specs.Events.{alone, identify, pair, place, store, write32}
use Rattle.nvme_grammar.specs.Keywords.{keyword_of}
use Rattle.nvme_grammar.specs.Lent.{event_by_value, lent, line_by_value, request_by_value}
use Rattle.nvme_grammar.specs.Line.{
  attached,
  controller,
  event_line,
  is_comment,
  line_at,
  namespace,
  rawness,
  sentence,
  sentence_by,
  sharing,
  start,
}
use Rattle.nvme_grammar.specs.Requests.{
  acquire,
  bit_at,
  keys_at,
  list_request,
  numbers_at,
  on_blocks,
  protect,
  register,
  release,
  report,
  request_by,
  with_data,
  with_list,
}
use Rattle.nvme_grammar.specs.declared.keyword.Keyword.{Keyword}
use Rattle.nvme_grammar.specs.declared.keyword.Keyword.TheVariants as keyword
use Rattle.nvme_grammar.specs.declared.line.Line.{Line}
use Rattle.nvme_grammar.specs.declared.line.Line.TheVariants.{Blank, Controller, Namespace, Attached, Start, Event}
use Rattle.nvme_lines.specs.LineLaws.{
  AreIdentifiers,
  EventFits,
  IsData,
  LineFits,
  LinesFit,
  ReadingIsWritten,
  RequestFits,
}
use Rattle.nvme_lines.proofs.Fitting.{bytes-fit, data-fits, number-fits}
use Rattle.nvme_lines.proofs.ReadBack.{lines_are_read_back}

-- a property of one value is one of the other
done : {A : Type 0} (P : A → Type 0) (x y : A) → Some x ≡ Some y → P x → P y
done P x y e = subst P (ap (λ o. unwrap_or o x) e)

bound : {A B : Type 0} (o : Option A) (f : A → Option B) (y : B)
    → (o >>= f) ≡ Some y → (x : A) × (o ≡ Some x) × (f x ≡ Some y)
bound None f y h = absurd (cc)
bound (Some x) f y h = (x, refl, h)

mapped : {A B : Type 0} (o : Option A) (f : A → B) (y : B)
    → option_map f o ≡ Some y → (x : A) × (o ≡ Some x) × (Some (f x) ≡ Some y)
mapped None f y h = absurd (cc)
mapped (Some x) f y h = (x, refl, h)

one-of : {W B : Type 0} (f : W → Option B) (ws : List W) (y : B) → one f ws ≡ Some y → (a : W) × (f a ≡ Some y)
one-of f [] y h = absurd (cc)
one-of f (a ∷ []) y h = (a, h)
one-of f (a ∷ b ∷ ws) y h = absurd (cc)

two-of : {W B : Type 0} (f : W → W → Option B) (ws : List W) (y : B)
    → two f ws ≡ Some y → (a : W) × (b : W) × (f a b ≡ Some y)
two-of f [] y h = absurd (cc)
two-of f (a ∷ []) y h = absurd (cc)
two-of f (a ∷ b ∷ []) y h = (a, b, h)
two-of f (a ∷ b ∷ c ∷ ws) y h = absurd (cc)

three-of : {W B : Type 0} (f : W → W → W → Option B) (ws : List W) (y : B)
    → three f ws ≡ Some y → (a : W) × (b : W) × (c : W) × (f a b c ≡ Some y)
three-of f [] y h = absurd (cc)
three-of f (a ∷ []) y h = absurd (cc)
three-of f (a ∷ b ∷ []) y h = absurd (cc)
three-of f (a ∷ b ∷ c ∷ []) y h = (a, b, c, h)
three-of f (a ∷ b ∷ c ∷ d ∷ ws) y h = absurd (cc)

four-of : {W B : Type 0} (f : W → W → W → W → Option B) (ws : List W) (y : B)
    → four f ws ≡ Some y → (a : W) × (b : W) × (c : W) × (d : W) × (f a b c d ≡ Some y)
four-of f [] y h = absurd (cc)
four-of f (a ∷ []) y h = absurd (cc)
four-of f (a ∷ b ∷ []) y h = absurd (cc)
four-of f (a ∷ b ∷ c ∷ []) y h = absurd (cc)
four-of f (a ∷ b ∷ c ∷ d ∷ []) y h = (a, b, c, d, h)
four-of f (a ∷ b ∷ c ∷ d ∷ e ∷ ws) y h = absurd (cc)

five-of : {W B : Type 0} (f : W → W → W → W → W → Option B) (ws : List W) (y : B)
    → five f ws ≡ Some y → (a : W) × (b : W) × (c : W) × (d : W) × (e : W) × (f a b c d e ≡ Some y)
five-of f [] y h = absurd (cc)
five-of f (a ∷ []) y h = absurd (cc)
five-of f (a ∷ b ∷ []) y h = absurd (cc)
five-of f (a ∷ b ∷ c ∷ []) y h = absurd (cc)
five-of f (a ∷ b ∷ c ∷ d ∷ []) y h = absurd (cc)
five-of f (a ∷ b ∷ c ∷ d ∷ e ∷ []) y h = (a, b, c, d, e, h)
five-of f (a ∷ b ∷ c ∷ d ∷ e ∷ g ∷ ws) y h = absurd (cc)

-- a number of this many bits, and the words after it
step : {A : Type 0} (bits : ℕ) (w : List ℕ) (f : ℕ → Option A) (y : A) → (number_at bits w >>= f) ≡ Some y
    → (n : ℕ) × (n < 2 ^ bits) × (f n ≡ Some y)
step bits w f y h =
    let b = bound (number_at bits w) f y h in
    (b.0, number-fits bits b.0 w b.1, b.2)

keys-fit : (a b : List ℕ) (keys : ℕ × ℕ) → keys_at a b ≡ Some keys → (keys.0 < 2 ^ 64) × (keys.1 < 2 ^ 64)
keys-fit a b keys h =
    let x = step 64 a _ keys h in
    let y = step 64 b _ keys x.2 in
    done (λ k. (k.0 < 2 ^ 64) × (k.1 < 2 ^ 64)) (x.0, y.0) keys y.2 (x.1, y.1)

list-fits : (ws : List (List ℕ)) (list : List ℕ) → numbers_at 16 ws ≡ Some list → AreIdentifiers list
list-fits [] list h = done AreIdentifiers [] list h tt
list-fits (w ∷ ws) list h =
    let n = step 16 w _ list h in
    let rest = bound (numbers_at 16 ws) _ list n.2 in
    done AreIdentifiers (n.0 ∷ rest.0) list rest.2 (n.1, list-fits ws rest.0 rest.1)

-- a request, an event and a line that were parsed: their bytes are at no address in particular
abbrev IsRequest : Request → Type 0
IsRequest r = RequestFits r × (request_by_value r ≡ r)

abbrev IsEvent : FleetEvent → Type 0
IsEvent e = EventFits e × (event_by_value e ≡ e)

abbrev IsLine : Line → Type 0
IsLine line = LineFits line × (line_by_value line ≡ line)

on_blocks-reads : (make : ℕ → ℕ → Request) → ((s b : ℕ) → s < 2 ^ 64 → b < 2 ^ 32 → IsRequest (make s b))
    → (ws : List (List ℕ)) (r : Request) → on_blocks make ws ≡ Some r → IsRequest r
on_blocks-reads make fits ws r h =
    let t = two-of _ ws r h in
    let s = step 64 t.0 _ r t.2 in
    let b = step 32 t.1 _ r s.2 in
    done IsRequest (make s.0 b.0) r b.2 (fits s.0 b.0 s.1 b.1)

with_data-reads : (make : ℕ → Bor (List ℕ) → Request)
    → ((s : ℕ) (bytes : List ℕ) → s < 2 ^ 64 → IsData bytes → IsRequest (make s (lent bytes)))
    → (ws : List (List ℕ)) (r : Request) → with_data make ws ≡ Some r → IsRequest r
with_data-reads make fits ws r h =
    let t = three-of _ ws r h in
    let s = step 64 t.0 _ r t.3 in
    let b = step 32 t.1 _ r s.2 in
    let d = bound (data_at b.0 t.2) _ r b.2 in
    done IsRequest (make s.0 (lent d.0)) r d.2 (fits s.0 d.0 s.1 (data-fits b.0 t.2 d.0 d.1))

module _ (n : ℕ) (small : n < 2 ^ 32) (ws : List (List ℕ)) (r : Request) where
  register-reads : register n ws ≡ Some r → IsRequest r
  register-reads h =
      let t = five-of _ ws r h in
      let action = step 8 t.0 _ r t.5 in
      let iekey = bound (bit_at t.1) _ r action.2 in
      let cptpl = step 8 t.2 _ r iekey.2 in
      let keys = bound (keys_at t.3 t.4) _ r cptpl.2 in
      let fit = keys-fit t.3 t.4 keys.0 keys.1 in
      done IsRequest (request.Register n action.0 iekey.0 cptpl.0 keys.0.0 keys.0.1) r keys.2
      ((small, action.1, cptpl.1, fit.0, fit.1), refl)

  acquire-reads : acquire n ws ≡ Some r → IsRequest r
  acquire-reads h =
      let t = four-of _ ws r h in
      let action = step 8 t.0 _ r t.4 in
      let rtype = step 8 t.1 _ r action.2 in
      let keys = bound (keys_at t.2 t.3) _ r rtype.2 in
      let fit = keys-fit t.2 t.3 keys.0 keys.1 in
      done IsRequest (request.Acquire n action.0 rtype.0 keys.0.0 keys.0.1) r keys.2
      ((small, action.1, rtype.1, fit.0, fit.1), refl)

  release-reads : release n ws ≡ Some r → IsRequest r
  release-reads h =
      let t = three-of _ ws r h in
      let action = step 8 t.0 _ r t.3 in
      let rtype = step 8 t.1 _ r action.2 in
      let key = step 64 t.2 _ r rtype.2 in
      done IsRequest (request.Release n action.0 rtype.0 key.0) r key.2 ((small, action.1, rtype.1, key.1), refl)

  report-reads : report n ws ≡ Some r → IsRequest r
  report-reads h =
      let t = one-of _ ws r h in
      let dwords = step 32 t.0 _ r t.1 in
      done IsRequest (request.Report n dwords.0) r dwords.2 ((small, dwords.1), refl)

  protect-reads : protect n ws ≡ Some r → IsRequest r
  protect-reads h =
      let t = one-of _ ws r h in
      let state = step 8 t.0 _ r t.1 in
      done IsRequest (request.Protect n state.0) r state.2 ((small, state.1), refl)

  none-reads : (made : Request) → IsRequest made → zero_words made ws ≡ Some r → IsRequest r
  none-reads made is h = by ws h
    where
      by : (vs : List (List ℕ)) → zero_words made vs ≡ Some r → IsRequest r
      by [] k = done IsRequest made r k is
      by (v ∷ vs) k = absurd (cc)

  attach-reads : with_list (list_request keyword.Attach n) ws ≡ Some r → IsRequest r
  attach-reads h =
      let list = bound (numbers_at 16 ws) _ r h in
      done IsRequest (request.Attach n (lent list.0)) r list.2 ((small, list-fits ws list.0 list.1), refl)

  detach-reads : with_list (list_request keyword.Detach n) ws ≡ Some r → IsRequest r
  detach-reads h =
      let list = bound (numbers_at 16 ws) _ r h in
      done IsRequest (request.Detach n (lent list.0)) r list.2 ((small, list-fits ws list.0 list.1), refl)

-- events, by their words
abbrev ReadsRequests : Keyword → Type 0
ReadsRequests k = (n : ℕ) → n < 2 ^ 32 → (ws : List (List ℕ)) (r : Request) → request_by k n ws ≡ Some r → IsRequest r

place-reads : (k : Keyword) → ReadsRequests k → (ws : List (List ℕ)) (e : FleetEvent) → place k ws ≡ Some e → IsEvent e
place-reads k reads [] e h = absurd (cc)
place-reads k reads (c ∷ []) e h = absurd (cc)
place-reads k reads (c ∷ n ∷ ws) e h =
    let x = step 16 c _ e h in
    let y = step 32 n _ e x.2 in
    let r = bound (request_by k y.0 ws) _ e y.2 in
    let is = reads y.0 y.1 ws r.0 r.1 in
    done IsEvent (event.Place x.0 r.0) e r.2 ((x.1, is.0), ap (event.Place x.0) is.1)

alone-reads : (make : ℕ → FleetEvent) → ((c : ℕ) → c < 2 ^ 16 → IsEvent (make c))
    → (ws : List (List ℕ)) (e : FleetEvent) → option_map make (alone ws) ≡ Some e → IsEvent e
alone-reads make fits ws e h =
    let m = mapped (alone ws) make e h in
    let w = one-of _ ws m.0 m.1 in
    done IsEvent (make m.0) e m.2 (fits m.0 (number-fits 16 m.0 w.0 w.1))

pair-fits : (ws : List (List ℕ)) (p : ℕ × ℕ) → pair ws ≡ Some p → (p.0 < 2 ^ 16) × (p.1 < 2 ^ 16)
pair-fits ws p h =
    let t = two-of _ ws p h in
    let c = step 16 t.0 _ p t.2 in
    let n = step 16 t.1 _ p c.2 in
    done (λ q. (q.0 < 2 ^ 16) × (q.1 < 2 ^ 16)) (c.0, n.0) p n.2 (c.1, n.1)

pair-reads : (make : ℕ → ℕ → FleetEvent) → ((c n : ℕ) → c < 2 ^ 16 → n < 2 ^ 16 → IsEvent (make c n))
    → (ws : List (List ℕ)) (e : FleetEvent) → option_map (λ p. make p.0 p.1) (pair ws) ≡ Some e → IsEvent e
pair-reads make fits ws e h =
    let m = mapped (pair ws) (λ p. make p.0 p.1) e h in
    let fit = pair-fits ws m.0 m.1 in
    done IsEvent (make m.0.0 m.0.1) e m.2 (fits m.0.0 m.0.1 fit.0 fit.1)

identify-reads : (ws : List (List ℕ)) (e : FleetEvent) → identify ws ≡ Some e → IsEvent e
identify-reads ws e h =
    let t = three-of _ ws e h in
    let c = step 16 t.0 _ e t.3 in
    let cns = step 8 t.1 _ e c.2 in
    let n = step 32 t.2 _ e cns.2 in
    done IsEvent (event.Place c.0 (request.Identify cns.0 n.0)) e n.2 ((c.1, (cns.1, n.1)), refl)

store-reads : (ws : List (List ℕ)) (e : FleetEvent) → store ws ≡ Some e → IsEvent e
store-reads ws e h =
    let t = three-of _ ws e h in
    let c = step 16 t.0 _ e t.3 in
    let a = step 64 t.1 _ e c.2 in
    let bytes = bound (bytes_at t.2) _ e a.2 in
    let fit = bytes-fit t.2 bytes.0 bytes.1 in
    done IsEvent (event.RawStore c.0 a.0 (lent bytes.0)) e bytes.2 ((c.1, a.1, fit.0, fit.1), refl)

write32-reads : (ws : List (List ℕ)) (e : FleetEvent) → write32 ws ≡ Some e → IsEvent e
write32-reads ws e h =
    let t = three-of _ ws e h in
    let c = step 16 t.0 _ e t.3 in
    let o = step 64 t.1 _ e c.2 in
    let v = step 32 t.2 _ e o.2 in
    done IsEvent (event.RawWrite32 c.0 o.0 v.0) e v.2 ((c.1, o.1, v.1), refl)

cycle-reads : (ws : List (List ℕ)) (e : FleetEvent) → zero_words event.PowerCycle ws ≡ Some e → IsEvent e
cycle-reads [] e h = done IsEvent event.PowerCycle e h (tt, refl)
cycle-reads (w ∷ ws) e h = absurd (cc)

-- lines, by their words
event-reads : (o : Option FleetEvent) (line : Line) → ((e : FleetEvent) → o ≡ Some e → IsEvent e)
    → event_line o ≡ Some line → IsLine line
event-reads o line reads h =
    let m = mapped o Event line h in
    let is = reads m.0 m.1 in
    done IsLine (Event m.0) line m.2 (is.0, ap Event is.1)

placed : (k : Keyword) → ReadsRequests k → (ws : List (List ℕ)) (line : Line)
    → event_line (place k ws) ≡ Some line → IsLine line
placed k reads ws line h = event-reads (place k ws) line (λ e f. place-reads k reads ws e f) h

controller-reads : (ws : List (List ℕ)) (line : Line) → controller ws ≡ Some line → IsLine line
controller-reads [] line h = absurd (cc)
controller-reads (c ∷ []) line h = absurd (cc)
controller-reads (c ∷ k ∷ []) line h = absurd (cc)
controller-reads (c ∷ k ∷ host ∷ ws) line h = by (bytes_eq k (codes "host")) h
  where
    said : Option Line
    said = do
      cntlid ← number_at 16 c
      h ← number_at 128 host
      raw ← rawness ws
      Some (Controller (record { cntlid = cntlid; host = h; raw = raw }))

    by : (t : Bool) → (if t then said else None) ≡ Some line → IsLine line
    by false f = absurd (cc)
    by true f =
        let x = step 16 c _ line f in
        let y = step 128 host _ line x.2 in
        let raw = bound (rawness ws) _ line y.2 in
        done IsLine (Controller (record { cntlid = x.0; host = y.0; raw = raw.0 })) line raw.2 ((x.1, y.1), refl)

namespace-reads : (ws : List (List ℕ)) (line : Line) → namespace ws ≡ Some line → IsLine line
namespace-reads ws line h = let t = four-of _ ws line h in by t.0 t.1 t.2 t.3 (bytes_eq t.1 (codes "blocks")) t.4
  where
    said : List ℕ → List ℕ → List ℕ → Option Line
    said n b kind = do
      nsid ← number_at 32 n
      blocks ← number_at 64 b
      shared ← sharing kind
      Some (Namespace (record { nsid = nsid; blocks = blocks; shared = shared }))

    by : (n k b kind : List ℕ) (t : Bool) → (if t then said n b kind else None) ≡ Some line → IsLine line
    by n k b kind false f = absurd (cc)
    by n k b kind true f =
        let x = step 32 n _ line f in
        let y = step 64 b _ line x.2 in
        let shared = bound (sharing kind) _ line y.2 in
        done IsLine (Namespace (record { nsid = x.0; blocks = y.0; shared = shared.0 })) line shared.2
        ((x.1, y.1), refl)

attached-reads : (ws : List (List ℕ)) (line : Line) → attached ws ≡ Some line → IsLine line
attached-reads ws line h =
    let t = two-of _ ws line h in
    let c = step 16 t.0 _ line t.2 in
    let n = step 32 t.1 _ line c.2 in
    done IsLine (Attached c.0 n.0) line n.2 ((c.1, n.1), refl)

start-reads : (ws : List (List ℕ)) (line : Line) → start ws ≡ Some line → IsLine line
start-reads [] line h = done IsLine Start line h (tt, refl)
start-reads (w ∷ ws) line h = absurd (cc)

sentence-reads : (k : Keyword) (ws : List (List ℕ)) (line : Line) → sentence_by k ws ≡ Some line → IsLine line
sentence-reads keyword.Controller ws line h = controller-reads ws line h
sentence-reads keyword.Namespace ws line h = namespace-reads ws line h
sentence-reads keyword.Attached ws line h = attached-reads ws line h
sentence-reads keyword.Start ws line h = start-reads ws line h
sentence-reads keyword.Up ws line h =
    event-reads _ line (λ e f. alone-reads event.BringUp (λ c fit. (fit, refl)) ws e f) h
sentence-reads keyword.Ring ws line h =
    event-reads _ line (λ e f. alone-reads event.Ring (λ c fit. (fit, refl)) ws e f) h
sentence-reads keyword.Poll ws line h =
    event-reads _ line (λ e f. alone-reads event.Poll (λ c fit. (fit, refl)) ws e f) h
sentence-reads keyword.Reset ws line h =
    event-reads _ line (λ e f. alone-reads event.Reset (λ c fit. (fit, refl)) ws e f) h
sentence-reads keyword.Fetch ws line h =
    event-reads _ line (λ e f. pair-reads event.Fetch (λ c n x y. ((x, y), refl)) ws e f) h
sentence-reads keyword.Execute ws line h =
    event-reads _ line (λ e f. pair-reads event.Execute (λ c n x y. ((x, y), refl)) ws e f) h
sentence-reads keyword.Store ws line h = event-reads _ line (λ e f. store-reads ws e f) h
sentence-reads keyword.Write32 ws line h = event-reads _ line (λ e f. write32-reads ws e f) h
sentence-reads keyword.PowerCycle ws line h = event-reads _ line (λ e f. cycle-reads ws e f) h
sentence-reads keyword.Identify ws line h = event-reads _ line (λ e f. identify-reads ws e f) h
sentence-reads keyword.Read ws line h = placed keyword.Read
    (λ n small vs r f. on_blocks-reads (request.Read n) (λ s b x y. ((small, x, y), refl)) vs r f) ws line h
sentence-reads keyword.Zeroes ws line h = placed keyword.Zeroes
    (λ n small vs r f. on_blocks-reads (request.WriteZeroes n) (λ s b x y. ((small, x, y), refl)) vs r f) ws line h
sentence-reads keyword.Write ws line h = placed keyword.Write
    (λ n small vs r f. with_data-reads (request.Write n) (λ s bytes x y. ((small, x, y), refl)) vs r f) ws line h
sentence-reads keyword.Compare ws line h = placed keyword.Compare
    (λ n small vs r f. with_data-reads (request.Compare n) (λ s bytes x y. ((small, x, y), refl)) vs r f) ws line h
sentence-reads keyword.Flush ws line h =
    placed keyword.Flush (λ n small vs r f. none-reads n small vs r (request.Flush n) (small, refl) f) ws line h
sentence-reads keyword.Protection ws line h = placed keyword.Protection
    (λ n small vs r f. none-reads n small vs r (request.Protection n) (small, refl) f) ws line h
sentence-reads keyword.Register ws line h =
    placed keyword.Register (λ n small vs r f. register-reads n small vs r f) ws line h
sentence-reads keyword.Acquire ws line h =
    placed keyword.Acquire (λ n small vs r f. acquire-reads n small vs r f) ws line h
sentence-reads keyword.Release ws line h =
    placed keyword.Release (λ n small vs r f. release-reads n small vs r f) ws line h
sentence-reads keyword.Report ws line h =
    placed keyword.Report (λ n small vs r f. report-reads n small vs r f) ws line h
sentence-reads keyword.Protect ws line h =
    placed keyword.Protect (λ n small vs r f. protect-reads n small vs r f) ws line h
sentence-reads keyword.Attach ws line h =
    placed keyword.Attach (λ n small vs r f. attach-reads n small vs r f) ws line h
sentence-reads keyword.Detach ws line h =
    placed keyword.Detach (λ n small vs r f. detach-reads n small vs r f) ws line h

words-read : (ws : List (List ℕ)) (line : Line) → sentence ws ≡ Some line → IsLine line
unfolding sentence
words-read [] line h = done IsLine Blank line h (tt, refl)
words-read (w ∷ ws) line h =
    let k = bound (keyword_of w) _ line h in
    sentence-reads k.0 ws line k.2

text-read : (text : List ℕ) (line : Line) → line_at text ≡ Some line → IsLine line
unfolding line_at
text-read text line h = by (is_comment text) (is_line_text text) h
  where
    by : (comment is : Bool)
        → (if comment then Some Blank else if is then sentence (line_words text) else None) ≡ Some line → IsLine line
    by true is f = done IsLine Blank line f (tt, refl)
    by false true f = words-read (line_words text) line f
    by false false f = absurd (cc)

pub lines_fit : LinesFit
lines_fit text line h = (text-read text line h).0

pub reading_is_written : ReadingIsWritten
reading_is_written text line h =
    let is = text-read text line h in
    lines_are_read_back line is.0 ∙ ap Some is.1
