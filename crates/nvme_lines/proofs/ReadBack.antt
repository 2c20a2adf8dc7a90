-- For the law `lines_are_read_back`: a line's text is parsed as that line.
use Rattle.std.proofs.Common.{
  ◌≡◌,
  ◌∙◌,
  ℕ,
  ◌^◌,
  ◌/◌,
  ◌<◌,
  Bool,
  true,
  false,
  List,
  [],
  ◌∷◌,
  ◌++◌,
  codes,
  length,
  Some,
  refl,
  arith,
}
use Rattle.std.specs.Prelude.{decimal}
use Rattle.std.specs.List.{list_all}
use Rattle.script_text.specs.Numbers.{number_at}
use Rattle.script_text.specs.Data.{bytes_at}
use Rattle.script_text.specs.Words.{is_visible}
use Rattle.nvme_spec.specs.Limits.{block_size}
use Rattle.nvme_driver.specs.declared.request.Request.{Request}
use Rattle.nvme_driver.specs.declared.request.Request.TheVariants as request
use Rattle.nvme_event.specs.declared.event.FleetEvent.{FleetEvent}
use Rattle.nvme_event.specs.declared.event.FleetEvent.TheVariants as event
use Rattle.nvme_grammar.specs.Lent.{event_by_value, request_by_value}
use Rattle.nvme_grammar.specs.Line.{line_at, rawness, sentence, sharing}
use Rattle.nvme_grammar.specs.Requests.{bit_at, numbers_at}
use Rattle.nvme_grammar.specs.declared.keyword.Keyword.TheVariants as keyword
use Rattle.nvme_grammar.specs.declared.line.Line.TheVariants.{Blank, Controller, Namespace, Attached, Start, Event}
use Rattle.nvme_lines.specs.LineTexts.{
  bit_number,
  bytes_word,
  data_word,
  decimals,
  event_line,
  host_word,
  raw_words,
  sharing_word,
}
use Rattle.nvme_lines.specs.LineLaws.{AreBytes, AreIdentifiers, EventFits, IsData, LinesAreReadBack, RequestFits}
use Rattle.nvme_lines.proofs.Wording.{AreWords, IsWord}
use Rattle.nvme_lines.proofs.Numerals.{decimal-word, host-word, number-decimal, number-host}
use Rattle.nvme_lines.proofs.Digits.{bytes-word, bytes-written, data-is_word, data-read}
use Rattle.nvme_lines.proofs.Keywords.{said, said-alone}

-- numbers of this many bits, as words and as they are parsed
w8 : (n : ℕ) → n < 2 ^ 8 → IsWord (decimal n)
w8 n h = decimal-word n (omega (arith, h))

w16 : (n : ℕ) → n < 2 ^ 16 → IsWord (decimal n)
w16 n h = decimal-word n (omega (arith, h))

w32 : (n : ℕ) → n < 2 ^ 32 → IsWord (decimal n)
w32 n h = decimal-word n (omega (arith, h))

r8 : (n : ℕ) → n < 2 ^ 8 → number_at 8 (decimal n) ≡ Some n
r8 n h = number-decimal 8 n (omega (arith, h)) h

r16 : (n : ℕ) → n < 2 ^ 16 → number_at 16 (decimal n) ≡ Some n
r16 n h = number-decimal 16 n (omega (arith, h)) h

r32 : (n : ℕ) → n < 2 ^ 32 → number_at 32 (decimal n) ≡ Some n
r32 n h = number-decimal 32 n (omega (arith, h)) h

r64 : (n : ℕ) → n < 2 ^ 64 → number_at 64 (decimal n) ≡ Some n
r64 n h = number-decimal 64 n h h

bit-fits : (b : Bool) → bit_number b < 2 ^ 8
bit-fits true = omega arith
bit-fits false = omega arith

bit-read : (b : Bool) → bit_at (decimal (bit_number b)) ≡ Some b
bit-read true = rw (r8 1 (omega arith)) refl
bit-read false = rw (r8 0 (omega arith)) refl

list-words : (list : List ℕ) → AreIdentifiers list → AreWords (decimals list)
list-words [] are = tt
list-words (n ∷ ns) are = (w16 n are.0, list-words ns are.1)

list-read : (list : List ℕ) → AreIdentifiers list → numbers_at 16 (decimals list) ≡ Some list
list-read [] are = refl
list-read (n ∷ ns) are = rw (r16 n are.0, list-read ns are.1) refl

blocks-fit : (bytes : List ℕ) → IsData bytes → length bytes / block_size < 2 ^ 32
blocks-fit bytes is = omega (arith, is.most)

store-read : (bytes : List ℕ) → AreBytes bytes → 0 < length bytes → bytes_at (bytes_word bytes) ≡ Some bytes
store-read [] are some = absurd (omega (arith, some))
store-read (b ∷ bs) are some = bytes-written b bs are

-- a request, placed at a controller
placed-back : (c : ℕ) (r : Request) → c < 2 ^ 16 → RequestFits r
    → line_at (event_line (event.Place c r)) ≡ Some (Event (event.Place c (request_by_value r)))
placed-back c (request.Read n s b) h f =
    said keyword.Read (decimals (c ∷ n ∷ s ∷ b ∷ [])) (w16 c h, (w32 n f.0, (decimal-word s f.1, (w32 b f.2, tt))))
    ∙ rw (r16 c h, r32 n f.0, r64 s f.1, r32 b f.2) refl
placed-back c (request.Write n s bytes) h f =
    let b = length bytes.now / block_size in
    let few = blocks-fit bytes.now f.2 in
    said keyword.Write (decimals (c ∷ n ∷ s ∷ b ∷ []) ++ data_word bytes.now ∷ [])
    (w16 c h, (w32 n f.0, (decimal-word s f.1, (w32 b few, (data-is_word bytes.now f.2.bytes, tt)))))
    ∙ rw (r16 c h, r32 n f.0, r64 s f.1, r32 b few, data-read bytes.now f.2) refl
placed-back c (request.Compare n s bytes) h f =
    let b = length bytes.now / block_size in
    let few = blocks-fit bytes.now f.2 in
    said keyword.Compare (decimals (c ∷ n ∷ s ∷ b ∷ []) ++ data_word bytes.now ∷ [])
    (w16 c h, (w32 n f.0, (decimal-word s f.1, (w32 b few, (data-is_word bytes.now f.2.bytes, tt)))))
    ∙ rw (r16 c h, r32 n f.0, r64 s f.1, r32 b few, data-read bytes.now f.2) refl
placed-back c (request.WriteZeroes n s b) h f =
    said keyword.Zeroes (decimals (c ∷ n ∷ s ∷ b ∷ [])) (w16 c h, (w32 n f.0, (decimal-word s f.1, (w32 b f.2, tt))))
    ∙ rw (r16 c h, r32 n f.0, r64 s f.1, r32 b f.2) refl
placed-back c (request.Flush n) h f =
    said keyword.Flush (decimals (c ∷ n ∷ [])) (w16 c h, (w32 n f, tt)) ∙ rw (r16 c h, r32 n f) refl
placed-back c (request.Register n action iekey cptpl crkey nrkey) h f =
    said keyword.Register (decimals (c ∷ n ∷ action ∷ bit_number iekey ∷ cptpl ∷ crkey ∷ nrkey ∷ [])) (
      w16 c h,
      (
        w32 n f.0,
        (
          w8 action f.1,
          (
            w8 (bit_number iekey) (bit-fits iekey),
            (w8 cptpl f.2, (decimal-word crkey f.3, (decimal-word nrkey f.4, tt))),
          ),
        ),
      ),
    )
    ∙ rw (r16 c h, r32 n f.0, r8 action f.1, bit-read iekey, r8 cptpl f.2, r64 crkey f.3, r64 nrkey f.4) refl
placed-back c (request.Acquire n action rtype crkey prkey) h f =
    said keyword.Acquire (decimals (c ∷ n ∷ action ∷ rtype ∷ crkey ∷ prkey ∷ []))
    (w16 c h, (w32 n f.0, (w8 action f.1, (w8 rtype f.2, (decimal-word crkey f.3, (decimal-word prkey f.4, tt))))))
    ∙ rw (r16 c h, r32 n f.0, r8 action f.1, r8 rtype f.2, r64 crkey f.3, r64 prkey f.4) refl
placed-back c (request.Release n action rtype crkey) h f =
    said keyword.Release (decimals (c ∷ n ∷ action ∷ rtype ∷ crkey ∷ []))
    (w16 c h, (w32 n f.0, (w8 action f.1, (w8 rtype f.2, (decimal-word crkey f.3, tt)))))
    ∙ rw (r16 c h, r32 n f.0, r8 action f.1, r8 rtype f.2, r64 crkey f.3) refl
placed-back c (request.Report n dwords) h f =
    said keyword.Report (decimals (c ∷ n ∷ dwords ∷ [])) (w16 c h, (w32 n f.0, (w32 dwords f.1, tt)))
    ∙ rw (r16 c h, r32 n f.0, r32 dwords f.1) refl
placed-back c (request.Identify cns n) h f =
    said keyword.Identify (decimals (c ∷ cns ∷ n ∷ [])) (w16 c h, (w8 cns f.0, (w32 n f.1, tt)))
    ∙ rw (r16 c h, r8 cns f.0, r32 n f.1) refl
placed-back c (request.Protect n state) h f =
    said keyword.Protect (decimals (c ∷ n ∷ state ∷ [])) (w16 c h, (w32 n f.0, (w8 state f.1, tt)))
    ∙ rw (r16 c h, r32 n f.0, r8 state f.1) refl
placed-back c (request.Protection n) h f =
    said keyword.Protection (decimals (c ∷ n ∷ [])) (w16 c h, (w32 n f, tt)) ∙ rw (r16 c h, r32 n f) refl
placed-back c (request.Attach n list) h f =
    said keyword.Attach (decimals (c ∷ n ∷ list.now)) (w16 c h, (w32 n f.0, list-words list.now f.1))
    ∙ rw (r16 c h, r32 n f.0, list-read list.now f.1) refl
placed-back c (request.Detach n list) h f =
    said keyword.Detach (decimals (c ∷ n ∷ list.now)) (w16 c h, (w32 n f.0, list-words list.now f.1))
    ∙ rw (r16 c h, r32 n f.0, list-read list.now f.1) refl

event-back : (e : FleetEvent) → EventFits e → line_at (event_line e) ≡ Some (Event (event_by_value e))
event-back (event.BringUp c) f = said keyword.Up (decimals (c ∷ [])) (w16 c f, tt) ∙ rw (r16 c f) refl
event-back (event.Place c r) f = placed-back c r f.0 f.1
event-back (event.Ring c) f = said keyword.Ring (decimals (c ∷ [])) (w16 c f, tt) ∙ rw (r16 c f) refl
event-back (event.Fetch c q) f =
    said keyword.Fetch (decimals (c ∷ q ∷ [])) (w16 c f.0, (w16 q f.1, tt)) ∙ rw (r16 c f.0, r16 q f.1) refl
event-back (event.Execute c i) f =
    said keyword.Execute (decimals (c ∷ i ∷ [])) (w16 c f.0, (w16 i f.1, tt)) ∙ rw (r16 c f.0, r16 i f.1) refl
event-back (event.Poll c) f = said keyword.Poll (decimals (c ∷ [])) (w16 c f, tt) ∙ rw (r16 c f) refl
event-back (event.Reset c) f = said keyword.Reset (decimals (c ∷ [])) (w16 c f, tt) ∙ rw (r16 c f) refl
event-back (event.RawStore c a bytes) f =
    said keyword.Store (decimals (c ∷ a ∷ []) ++ bytes_word bytes.now ∷ [])
    (w16 c f.0, (decimal-word a f.1, (bytes-word bytes.now f.2, tt)))
    ∙ rw (r16 c f.0, r64 a f.1, store-read bytes.now f.2 f.3) refl
event-back (event.RawWrite32 c o v) f =
    said keyword.Write32 (decimals (c ∷ o ∷ v ∷ [])) (w16 c f.0, (decimal-word o f.1, (w32 v f.2, tt)))
    ∙ rw (r16 c f.0, r64 o f.1, r32 v f.2) refl
event-back event.PowerCycle f = said keyword.PowerCycle [] tt

plain : (word : List ℕ) → list_all is_visible word ≡ true → 0 < length word → IsWord word
plain word visible some = record { some = some; visible = visible }

raw-words : (raw : Bool) → AreWords (raw_words raw)
raw-words true = (plain (codes "raw") refl (omega arith), tt)
raw-words false = tt

sharing-is_word : (shared : Bool) → IsWord (sharing_word shared)
sharing-is_word true = plain (codes "shared") refl (omega arith)
sharing-is_word false = plain (codes "private") refl (omega arith)

raw-read : (raw : Bool) → rawness (raw_words raw) ≡ Some raw
raw-read true = refl
raw-read false = refl

sharing-read : (shared : Bool) → sharing (sharing_word shared) ≡ Some shared
sharing-read true = refl
sharing-read false = refl

blank-read : line_at [] ≡ Some Blank
unfolding line_at sentence
blank-read = refl

pub lines_are_read_back : LinesAreReadBack
lines_are_read_back Blank f = blank-read
lines_are_read_back (Controller c) f =
    said keyword.Controller (decimal c.cntlid ∷ codes "host" ∷ host_word c.host ∷ raw_words c.raw)
    (w16 c.cntlid f.0, (plain (codes "host") refl (omega arith), (host-word c.host f.1, raw-words c.raw)))
    ∙ rw (r16 c.cntlid f.0, number-host c.host f.1, raw-read c.raw) refl
lines_are_read_back (Namespace n) f =
    said keyword.Namespace (decimal n.nsid ∷ codes "blocks" ∷ decimal n.blocks ∷ sharing_word n.shared ∷ []) (
      w32 n.nsid f.0,
      (plain (codes "blocks") refl (omega arith), (decimal-word n.blocks f.1, (sharing-is_word n.shared, tt))),
    )
    ∙ rw (r32 n.nsid f.0, r64 n.blocks f.1, sharing-read n.shared) refl
lines_are_read_back (Attached c n) f =
    said keyword.Attached (decimals (c ∷ n ∷ [])) (w16 c f.0, (w32 n f.1, tt)) ∙ rw (r16 c f.0, r32 n f.1) refl
lines_are_read_back Start f = said-alone keyword.Start
lines_are_read_back (Event e) f = event-back e f
