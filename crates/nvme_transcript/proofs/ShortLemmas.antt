-- For the answers of `short.rt`: the texts of statuses and answers.
use Rattle.std.proofs.Common.{
  ◌≡◌,
  ℕ,
  ◌<◌,
  ◌/◌,
  ◌%◌,
  false,
  List,
  [],
  ◌∷◌,
  ◌++◌,
  length,
  refl,
  append_assoc,
  append-nil,
  arith,
}
use Rattle.std.specs.Prelude.{codes, decimal}
use Rattle.std.specs.Fmt.{digits, digit_glyph, padded_integral, char_count}
use Rattle.std.proofs.lemmas.Fmt.{hex_one_digit, hex_byte}
use Rattle.nvme_wire.specs.StatusNames.{status_text}
use Rattle.nvme_wire.specs.declared.status.Status.{Status}
use Rattle.nvme_driver.specs.declared.ticket.Ticket.{Ticket}
use Rattle.nvme_driver.specs.declared.answer.Answer.{Answer}
use Rattle.nvme_driver.specs.declared.answer.Answer.TheVariants.{Done}
use Rattle.nvme_transcript.specs.Transcript.{double_word_text, data_text, answer_text}

pub success_text : (s : Status) → s.sct ≡ 0 → s.sc ≡ 0 → status_text s ≡ codes "0:00"
unfolding digits padded_integral char_count
success_text s e f = rw (e, f) refl

-- a status as its digits
pub shown_by_digits : (s : Status) (kind high low : List ℕ) → s.sct < 16 → s.sc < 256
    → kind ≡ digit_glyph false s.sct ∷ [] → high ≡ digit_glyph false (s.sc / 16) ∷ []
    → low ≡ digit_glyph false (s.sc % 16) ∷ []
    → status_text s ≡ kind ++ (codes ":" ++ (high ++ low))
shown_by_digits s kind high low one byte k h l =
    rw (hex_one_digit false s.sct one, hex_byte false s.sc byte, k, h, l) refl

pub four : (t t1 t2 t3 t4 a b c d : List ℕ) → t1 ≡ t ++ a → t2 ≡ t1 ++ b → t3 ≡ t2 ++ c → t4 ≡ t3 ++ d
    → t4 ≡ t ++ (a ++ (b ++ (c ++ d)))
four t t1 t2 t3 t4 a b c d first second third fourth = rw (fourth, third, second, first) (simp append_assoc refl)

pub zero_text : (n : ℕ) → n ≡ 0 → double_word_text n ≡ codes "00000000"
unfolding digits padded_integral char_count
zero_text n e = rw e refl

-- an answer as its front and its data
pub answer_front : (t t1 t2 t3 new : List ℕ) (answer : Answer) (ticket : Ticket) (status : Status) (dw0 len : ℕ)
    (bytes : List ℕ)
    → answer ≡ Done ticket status dw0 len → dw0 ≡ 0
    → t1 ≡ t ++ decimal ticket.0 → t2 ≡ t1 ++ codes " " → t3 ≡ t2 ++ status_text status → new ≡ t3 ++ codes " 00000000"
    → new ++ data_text bytes ≡ t ++ answer_text answer bytes
answer_front t t1 t2 t3 new answer ticket status dw0 len bytes is zero_ first second third fourth =
    rw (is, fourth, third, second, first, zero_text dw0 zero_) (simp append_assoc refl)

-- and only as its front if it has no data
pub without_data : (t : List ℕ) (bytes : List ℕ) → length bytes ≡ 0 → t ++ data_text bytes ≡ t
without_data t [] none_ = simp append-nil refl
without_data t (b ∷ bs) none_ = absurd (omega (arith, none_))
