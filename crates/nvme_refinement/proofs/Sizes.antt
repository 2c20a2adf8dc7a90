-- For `PlaceStep`: the number of bytes that a request transfers is the number that it sends or receives, and at most
-- that of a transfer.
use Rattle.nvme_refinement.proofs.Words.{
  true,
  ◌≡◌,
  ℕ,
  ◌-◌,
  ◌*◌,
  ◌≤◌,
  nat_lt,
  false,
  List,
  ◌++◌,
  length,
  refl,
  ap,
  ◌∙◌,
  arith,
  length-append,
  ◌==◌,
  most_bytes,
  is_plain,
  Request,
  Asked,
  asked_of,
  is_bad,
  key,
  controller_list,
  within,
  eq-eqb,
  common_steps,
}
use Rattle.nvme_spec.specs.Commands as io_commands
use Rattle.nvme_driver.specs.declared.request.Request.TheVariants.{
  Read,
  Write,
  Compare,
  Register,
  Acquire,
  Release,
  Report,
  Attach,
  Detach,
}
use Rattle.nvme_driver.proofs.Moving.{whole}
use Rattle.nvme_driver.proofs.Spelling.{controller_list_length}

pub record Sizes (a : Asked) : Type 0 where
  pub received : a.received ≤ a.moved
  pub sent : length a.sent ≡ a.moved - a.received
  pub most : a.moved ≤ most_bytes

length-key : (k : ℕ) → length (key k) ≡ 8
length-key k = refl

length-keys : (a b : ℕ) → length (key a ++ key b) ≡ 16
length-keys a b = length-append (key a) (key b) ∙ (let x = length-key a in let y = length-key b in omega arith)

few-listed : (n : ℕ) → nat_lt 2047 n ≡ false → n ≤ 2047
few-listed n e = grind (arith, common_steps, e)

sending-sizes : (n : ℕ) (xs : List ℕ) → length xs ≡ n → n ≤ most_bytes → (a : Asked)
    → a.received ≡ 0 → a.moved ≡ n → a.sent ≡ xs → Sizes a
sending-sizes n xs h g a r m s = record {
  received = omega (arith, r);
  sent = ap length s ∙ h ∙ omega (arith, m, r);
  most = omega (arith, m, g);
}

pub sizes : (request : Request) → is_bad request ≡ false → Sizes (asked_of request)
sizes (Read nsid slba blocks) e = let w = within blocks 256 e in
    record { received = omega arith; sent = omega arith; most = omega (arith, w.1) }
sizes (Write nsid slba bytes) e = let w = whole bytes.now e in
    sending-sizes (length bytes.now) bytes.now refl w.most _ refl refl refl
sizes (Compare nsid slba bytes) e = let w = whole bytes.now e in
    sending-sizes (length bytes.now) bytes.now refl w.most _ refl refl refl
sizes (Register nsid action iekey cptpl crkey nrkey) e =
    sending-sizes 16 (key crkey ++ key nrkey) (length-keys crkey nrkey) (omega arith) _ refl refl refl
sizes (Acquire nsid action rtype crkey prkey) e =
    sending-sizes 16 (key crkey ++ key prkey) (length-keys crkey prkey) (omega arith) _ refl refl refl
sizes (Release nsid action rtype crkey) e =
    sending-sizes 8 (key crkey) (length-key crkey) (omega arith) _ refl refl refl
sizes (Report nsid dwords) e = let w = within dwords 32768 e in
    record { received = omega arith; sent = omega arith; most = omega (arith, w.1) }
sizes (Attach nsid list) e = sending-sizes 4096 (controller_list list.now)
    (controller_list_length list.now (few-listed (length list.now) e)) (omega arith) _ refl refl refl
sizes (Detach nsid list) e = sending-sizes 4096 (controller_list list.now)
    (controller_list_length list.now (few-listed (length list.now) e)) (omega arith) _ refl refl refl
sizes request e = record { received = omega arith; sent = refl; most = omega arith }

-- a request's command is plain
self : (n : ℕ) → (n == n) ≡ true
self n = eq-eqb n n refl

pub plain : (request : Request) → is_plain (asked_of request) ≡ true
unfolding is_plain io_commands.command_of
plain (Read nsid slba blocks) = self (512 * blocks)
plain (Report nsid dwords) = self (4 * dwords)
plain request = refl
