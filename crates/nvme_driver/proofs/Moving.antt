-- For `laws.rt` and laws of mailboxes: the entry of a request transfers as many bytes as the request, at most 131,072.
use Rattle.std.proofs.Common.{
  ◌≡◌,
  ℕ,
  zero,
  suc,
  ◌-◌,
  ◌*◌,
  ◌/◌,
  ◌%◌,
  ◌≤◌,
  ◌<◌,
  nat_lt,
  ◌&&◌,
  ◌||◌,
  not,
  Bool,
  true,
  false,
  List,
  length,
  refl,
  ap,
  ◌∙◌,
  arith,
  ⊎_elim,
}
use Rattle.std.specs.Prelude.{◌==◌}
use Rattle.std.proofs.lemmas.Bool.{cases_lt, le-ltb, lt-ltb, ne_eqb}
use Rattle.nvme_wire.specs.declared.sqe.fields.SqeFields.{SqeFields}
use Rattle.nvme_wire.specs.Submission.{cdw10, cdw12}
use Rattle.nvme_spec.specs.Limits.{most_bytes}
use Rattle.nvme_spec.specs.Commands as commands
use Rattle.nvme_spec.specs.AdminCommands as admin_commands
use Rattle.nvme_driver.specs.declared.request.Request.{Request}
use Rattle.nvme_driver.specs.declared.request.Request.TheVariants.{
  Read,
  Write,
  Compare,
  WriteZeroes,
  Flush,
  Register,
  Acquire,
  Release,
  Report,
  Identify,
  Protect,
  Protection,
  Attach,
  Detach,
}
use Rattle.nvme_driver.specs.Requests.{are_whole_blocks, asked_of, is_bad}
use Rattle.nvme_driver.specs.Drivers.{EntriesMoveTheirData}

-- a count that is not refused
pub within : (n most : ℕ) → ((n == 0) || nat_lt most n) ≡ false → (1 ≤ n) × (n ≤ most)
within zero most e = absurd (cc (e))
within (suc n) most e =
    ⊎_elim {C = (1 ≤ suc n) × (suc n ≤ most)}
    (λ (over : most < suc n).
    (let t = lt-ltb most (suc n) over in let z = ne_eqb (suc n) 0 (λ k. omega (arith, k)) in absurd (cc (e, t, z))))
    (λ (under : suc n ≤ most). (omega arith, under))
    (cases_lt most (suc n))

-- data that are not refused
not-true : (b : Bool) → not b ≡ false → b ≡ true
not-true true e = refl
not-true false e = absurd (cc (e))

both : (a b : Bool) → (a && b) ≡ true → (a ≡ true) × (b ≡ true)
both true b e = (refl, e)
both false b e = absurd (cc (e))

pub not-over : (n most : ℕ) → not (nat_lt most n) ≡ true → n ≤ most
not-over n most e =
    ⊎_elim {C = n ≤ most}
    (λ (over : most < n). (let t = lt-ltb most n over in absurd (cc (e, t))))
    (λ (under : n ≤ most). under)
    (cases_lt most n)

not-zero : (n : ℕ) → not (n == 0) ≡ true → 1 ≤ n
not-zero zero e = absurd (cc (e))
not-zero (suc n) e = omega arith

divided : (n : ℕ) → (n == 0) ≡ true → n ≡ 0
divided zero e = refl
divided (suc n) e = let z = ne_eqb (suc n) 0 (λ k. omega (arith, k)) in absurd (cc (e, z))

pub record Whole (n : ℕ) : Type 0 where
  pub some : 1 ≤ n
  pub blocks : n % 512 ≡ 0
  pub most : n ≤ most_bytes

pub whole : (bytes : List ℕ) → not (are_whole_blocks bytes) ≡ false → Whole (length bytes)
whole bytes e =
    let n : ℕ = length bytes in
    let one = both (not (n == 0) && (n % 512 == 0)) (not (nat_lt most_bytes n)) (not-true _ e) in
    let two = both (not (n == 0)) (n % 512 == 0) one.0 in
    record { some = not-zero n two.0; blocks = divided (n % 512) two.1; most = not-over n most_bytes one.1 }

pub entries_move_their_data : EntriesMoveTheirData
unfolding commands.command_of commands.block_count commands.report_length admin_commands.command_of admin_commands.fid
entries_move_their_data (Read nsid slba blocks) slot e good h =
    let w = within blocks 256 good in
    let c : cdw12 e ≡ blocks - 1 = ap (λ (f : SqeFields). f.cdw12) h in
    ap (λ (f : SqeFields). commands.data_length_of (commands.command_of f.opcode) e) h ∙ omega (arith, w.0, w.1, c)
entries_move_their_data (Write nsid slba bytes) slot e good h =
    let w = whole bytes.now good in
    let some = w.some in
    let blocks = w.blocks in
    let most = w.most in
    let c : cdw12 e ≡ length bytes.now / 512 - 1 = ap (λ (f : SqeFields). f.cdw12) h in
    ap (λ (f : SqeFields). commands.data_length_of (commands.command_of f.opcode) e) h ∙ omega arith
entries_move_their_data (Compare nsid slba bytes) slot e good h =
    let w = whole bytes.now good in
    let some = w.some in
    let blocks = w.blocks in
    let most = w.most in
    let c : cdw12 e ≡ length bytes.now / 512 - 1 = ap (λ (f : SqeFields). f.cdw12) h in
    ap (λ (f : SqeFields). commands.data_length_of (commands.command_of f.opcode) e) h ∙ omega arith
entries_move_their_data (WriteZeroes nsid slba blocks) slot e good h =
    ap (λ (f : SqeFields). commands.data_length_of (commands.command_of f.opcode) e) h
entries_move_their_data (Flush nsid) slot e good h =
    ap (λ (f : SqeFields). commands.data_length_of (commands.command_of f.opcode) e) h
entries_move_their_data (Register nsid action iekey cptpl crkey nrkey) slot e good h =
    ap (λ (f : SqeFields). commands.data_length_of (commands.command_of f.opcode) e) h
entries_move_their_data (Acquire nsid action rtype crkey prkey) slot e good h =
    ap (λ (f : SqeFields). commands.data_length_of (commands.command_of f.opcode) e) h
entries_move_their_data (Release nsid action rtype crkey) slot e good h =
    ap (λ (f : SqeFields). commands.data_length_of (commands.command_of f.opcode) e) h
entries_move_their_data (Report nsid dwords) slot e good h =
    let w = within dwords 32768 good in
    let c : cdw10 e ≡ dwords - 1 = ap (λ (f : SqeFields). f.cdw10) h in
    ap (λ (f : SqeFields). commands.data_length_of (commands.command_of f.opcode) e) h ∙ omega (arith, w.0, w.1, c)
entries_move_their_data (Identify cns nsid) slot e good h =
    ap (λ (f : SqeFields). admin_commands.data_length_of (admin_commands.command_of f.opcode) e) h
entries_move_their_data (Protect nsid state) slot e good h =
    ap (λ (f : SqeFields). admin_commands.data_length_of (admin_commands.command_of f.opcode) e) h
entries_move_their_data (Protection nsid) slot e good h =
    let c : cdw10 e ≡ 132 = ap (λ (f : SqeFields). f.cdw10) h in
    ap (λ (f : SqeFields). admin_commands.data_length_of (admin_commands.command_of f.opcode) e) h ∙ rw c refl
entries_move_their_data (Attach nsid list) slot e good h =
    ap (λ (f : SqeFields). admin_commands.data_length_of (admin_commands.command_of f.opcode) e) h
entries_move_their_data (Detach nsid list) slot e good h =
    ap (λ (f : SqeFields). admin_commands.data_length_of (admin_commands.command_of f.opcode) e) h

-- a request that is not refused transfers at most 131,072 bytes
pub moves-few : (request : Request) → is_bad request ≡ false → nat_lt most_bytes (asked_of request).moved ≡ false
moves-few (Read nsid slba blocks) good =
    let w = within blocks 256 good in le-ltb most_bytes (512 * blocks) (omega (arith, w.1))
moves-few (Write nsid slba bytes) good = le-ltb most_bytes (length bytes.now) (whole bytes.now good).most
moves-few (Compare nsid slba bytes) good = le-ltb most_bytes (length bytes.now) (whole bytes.now good).most
moves-few (Report nsid dwords) good =
    let w = within dwords 32768 good in le-ltb most_bytes (4 * dwords) (omega (arith, w.1))
moves-few (WriteZeroes nsid slba blocks) good = refl
moves-few (Flush nsid) good = refl
moves-few (Register nsid action iekey cptpl crkey nrkey) good = refl
moves-few (Acquire nsid action rtype crkey prkey) good = refl
moves-few (Release nsid action rtype crkey) good = refl
moves-few (Identify cns nsid) good = refl
moves-few (Protect nsid state) good = refl
moves-few (Protection nsid) good = refl
moves-few (Attach nsid list) good = refl
moves-few (Detach nsid list) good = refl
