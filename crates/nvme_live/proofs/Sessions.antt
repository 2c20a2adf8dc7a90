-- For the answers of `converse` and `set_up`: sessions one after the other.
use Rattle.std.proofs.Common.{
  ◌≡◌,
  ◌+◌,
  ℕ,
  suc,
  List,
  [],
  ◌∷◌,
  ◌++◌,
  length,
  inl,
  inr,
  refl,
  sym,
  subst,
  arith,
  length-append,
}
use Rattle.nvme_program.specs.declared.fault.ScriptFault.{ScriptFault}
use Rattle.nvme_program.specs.declared.fault.ScriptFault.TheVariants.{Syntax, Config, TooLong, NoMemory, Read, Write}
use Rattle.nvme_live.specs.Standings.{LineByLine, Standing}
use Rattle.script_text.specs.Writing.{Sending, Sent}
use Rattle.nvme_live.specs.Streams.{Came, LineCall}
use Rattle.nvme_live.specs.Conversations.{
  Converses,
  Ends,
  EndsBy,
  ReadsLines,
  SendsAll,
  Starves,
  Stops,
  Uncounted,
  Unread,
}

pub reads-append : {R : Type 0} (Reads : R → LineCall → R → Type 0) (ls ms : List (List ℕ)) (u v w : R)
    → ReadsLines Reads u ls v → ReadsLines Reads v ms w → ReadsLines Reads u (ls ++ ms) w
reads-append {R} Reads [] ms u v w h k = subst (λ (x : R). ReadsLines Reads x ms w) h k
reads-append Reads (l ∷ ls) ms u v w h k = (h.0, h.1, reads-append Reads ls ms h.0 v w h.2 k)

pub sends-append : {W : Type 0} (Sends : W → Sending → W → Type 0) (rs bs : List (List ℕ)) (x y z : W)
    → SendsAll Sends x rs y → SendsAll Sends y bs z → SendsAll Sends x (rs ++ bs) z
sends-append {W} Sends [] bs x y z h k = subst (λ (w : W). SendsAll Sends w bs z) h k
sends-append Sends (a ∷ rs) bs x y z h k = (h.0, h.1, sends-append Sends rs bs h.0 y z h.2 k)

nothing-more : (n : ℕ) → n + 0 ≡ n
nothing-more n = omega arith

one-before : (n m : ℕ) → n + suc m ≡ n + 1 + m
one-before n m = omega arith

module _ {S R W : Type 0} (Turns : ℕ → S → List ℕ → List ℕ → S → Type 0) (Reads : R → LineCall → R → Type 0)
    (Sends : W → Sending → W → Type 0) where
  lines-append : (ls ms rs bs : List (List ℕ)) (n : ℕ) (a b c : S) → LineByLine Turns n a ls rs b
      → LineByLine Turns (n + length ls) b ms bs c → LineByLine Turns n a (ls ++ ms) (rs ++ bs) c
  lines-append [] ms [] bs n a b c h k =
      subst (λ (s : S). LineByLine Turns n s ms bs c) h
      (subst (λ (i : ℕ). LineByLine Turns i b ms bs c) (nothing-more n) k)
  lines-append [] ms (x ∷ rs) bs n a b c h k = absurd h
  lines-append (l ∷ ls) ms [] bs n a b c h k = absurd h
  lines-append (l ∷ ls) ms (x ∷ rs) bs n a b c h k = (
    h.0,
    h.1,
    lines-append ls ms rs bs (n + 1) h.0 b c h.2
        (subst (λ (i : ℕ). LineByLine Turns i b ms bs c) (one-before n (length ls)) k),
  )

  -- nothing was read
  pub conversed-none : (n : ℕ) (a : S) (u : R) (x : W) → Converses Turns Reads Sends n a n a u u x x
  conversed-none n a u x =
      record { lines = []; answers = []; counted = sym (nothing-more n); taken = refl; went = refl; sent = refl }

  -- one line
  pub conversed-one : (n : ℕ) (a b : S) (u v : R) (x y : W) (line answer : List ℕ) → Reads u (Came line) v
      → Turns n a line answer b → Sends x (Sent answer) y → Converses Turns Reads Sends n a (n + 1) b u v x y
  conversed-one n a b u v x y line answer taken turn sent = record {
    lines = line ∷ [];
    answers = answer ∷ [];
    counted = refl;
    taken = (v, taken, refl);
    went = (b, turn, refl);
    sent = (y, sent, refl);
  }

  -- lines, and then more
  pub conversed-more : (n k m : ℕ) (a b c : S) (u v w : R) (x y z : W) → Converses Turns Reads Sends n a k b u v x y
      → Converses Turns Reads Sends k b m c v w y z → Converses Turns Reads Sends n a m c u w x z
  conversed-more n k m a b c u v w x y z h g = record {
    lines = h.lines ++ g.lines;
    answers = h.answers ++ g.answers;
    counted = (let long = length-append h.lines g.lines in omega (arith, h.counted, g.counted, long));
    taken = reads-append Reads h.lines g.lines u v w h.taken g.taken;
    went = lines-append h.lines g.lines h.answers g.answers n a b c h.went
        (subst (λ (i : ℕ). LineByLine Turns i b g.lines g.answers c) h.counted g.went);
    sent = sends-append Sends h.answers g.answers x y z h.sent g.sent;
  }

  module _ (n k : ℕ) (a b : S) (u v : R) (x y : W) (h : Converses Turns Reads Sends n a k b u v x y) where
    pub ends-behind : (c : S) (w : R) (z : W) → Ends Turns Reads Sends k b c v w y z
        → Ends Turns Reads Sends n a c u w x z
    ends-behind c w z g = record {
      next = g.next;
      end = g.end;
      conversed = conversed-more n k g.next a b c u v g.end x y z h g.conversed;
      ended = g.ended;
    }

    stops-behind : (Unsent : S → List ℕ → W → List ℕ → W → Type 0) (c : S) (w : R) (z : W)
        → Stops Turns Reads Sends Unsent k b c v w y z → Stops Turns Reads Sends Unsent n a c u w x z
    stops-behind Unsent c w z g = record {
      next = g.next;
      mid = g.mid;
      between = g.between;
      written = g.written;
      conversed = conversed-more n k g.next a b g.mid u v g.between x y g.written h g.conversed;
      line = g.line;
      taken = g.taken;
      answer = g.answer;
      turn = g.turn;
      unsent = g.unsent;
    }

    starves-behind : (standing : S → Standing) (c : S) (w : R) (z : W)
        → Starves Turns Reads Sends standing k b c v w y z → Starves Turns Reads Sends standing n a c u w x z
    starves-behind standing c w z g = record {
      next = g.next;
      between = g.between;
      conversed = conversed-more n k g.next a b c u v g.between x y z h g.conversed;
      line = g.line;
      taken = g.taken;
      says = g.says;
      sets = g.sets;
      starved = g.starved;
    }

    unread-behind : (c : S) (w : R) (z : W) → Unread Turns Reads Sends k b c v w y z
        → Unread Turns Reads Sends n a c u w x z
    unread-behind c w z g = record {
      next = g.next;
      between = g.between;
      conversed = conversed-more n k g.next a b c u v g.between x y z h g.conversed;
      failed = g.failed;
    }

    uncounted-behind : (c : S) (w : R) (z : W) → Uncounted Turns Reads Sends k b c v w y z
        → Uncounted Turns Reads Sends n a c u w x z
    uncounted-behind c w z g =
        record { next = g.next; conversed = conversed-more n k g.next a b c u v w x y z h g.conversed; many = g.many }

    pub ends_by-behind : (standing : S → Standing) (fault : ScriptFault) (c : S) (w : R) (z : W)
        → EndsBy fault Turns Reads Sends standing k b c v w y z → EndsBy fault Turns Reads Sends standing n a c u w x z
    ends_by-behind standing (Config i f) c w z (next, g, is) = (next, conversed-more n k next a b c u v w x y z h g, is)
    ends_by-behind standing Read c w z (inl g) = inl (unread-behind c w z g)
    ends_by-behind standing Read c w z (inr g) = inr (uncounted-behind c w z g)
    ends_by-behind standing Write c w z g = stops-behind _ c w z g
    ends_by-behind standing NoMemory c w z (inl g) = inl (starves-behind standing c w z g)
    ends_by-behind standing NoMemory c w z (inr g) = inr (stops-behind _ c w z g)
    ends_by-behind standing (Syntax i) c w z g = absurd g
    ends_by-behind standing TooLong c w z g = absurd g
